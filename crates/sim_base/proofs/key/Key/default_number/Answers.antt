use Rattle.std.proofs.Common.{arith, ◌≡◌, ℕ, ◌⊎◌, Option, Some, None, IfSome, subst, sym, refl, inl, inr}
use Rattle.sim_base.specs.Keys.{key_default, AcceptedAt}
use Rattle.sim_base.specs.declared.key.Key.{Key}
use Rattle.sim_base.specs.declared.key.Key.TheVariants as key
use Rattle.sim_base.specs.declared.key.WhereAbsent.{WhereAbsent}
use Rattle.sim_base.specs.declared.key.WhereAbsent.TheVariants.{Number, Refused, Usual}
use Rattle.sim_base.proofs.key.Key.default_number.Goals as goal

-- the number that stands for an absent key is one that the key accepts
default-accepted : (k : Key) → IfSome (key_default k) (AcceptedAt k)
unfolding lib.Count.ones
default-accepted key.Ranks = ((omega arith, omega arith), refl)
default-accepted key.NRtrs = (omega arith, omega arith)
default-accepted key.WriteHigh = (omega arith, omega arith)
default-accepted key.WriteLow = (omega arith, omega arith)
default-accepted _ = tt

-- no number stands for a key where its row has none
none : (default : Option ℕ) (absent : WhereAbsent) → ((n : ℕ) → default ≡ Some n → absent ≡ Number n) → ((n : ℕ) → absent ≡ Number n → ⊥) → None ≡ default
none None absent is other = refl
none (Some n) absent is other = absurd (other n (is n refl))

pub returns-in-Number-clause-value : goal.returns-in-Number-clause-value
returns-in-Number-clause-value c = sym ((c.row.ensures.absent c.in-Number.number).0 c.in-Number.is)

pub returns-in-Number-clause-accepted : goal.returns-in-Number-clause-accepted
returns-in-Number-clause-accepted c =
    let own = c.args.self in
    subst (λ o. IfSome o (AcceptedAt own)) ((c.row.ensures.absent c.in-Number.number).0 c.in-Number.is) (default-accepted own)

-- a row without a number
no_number : (absent : WhereAbsent) → (absent ≡ Refused) ⊎ (absent ≡ Usual) → (n : ℕ) → absent ≡ Number n → ⊥
no_number absent (inl refused) n e = cc
no_number absent (inr usual) n e = cc

pub returns-in-Refused : goal.returns-in-Refused
returns-in-Refused c = record {
  value = none (key_default c.args.self) c.row.result.now.absent (λ n. (c.row.ensures.absent n).1) (no_number c.row.result.now.absent c.in-Refused.is);
  accepted = tt;
}
