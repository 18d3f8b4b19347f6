-- Which entries were asked for, when one more is.
use Rattle.std.proofs.Common.{◌≡◌, ℕ, ◌+◌, ◌<◌, ◌≤◌, Bool, true, false, eqb, ◌&&◌, List, length, refl, sym, ap, subst, arith}
use Rattle.std.specs.Prelude.{slice_index_or}
use Rattle.std.specs.List.{AllByRecursion as Each}
use Rattle.std.proofs.lemmas.Bool.{eqb-true}
use Rattle.std.proofs.lemmas.Bool.Decides.{nat_tests}
use Rattle.std.proofs.lemmas.List.{get_or-set_same, get_or-set_other}
use Rattle.sim_base.proofs.Ordered.{Each-weaker}
use Rattle.sim_base.specs.declared.message.Request.{Request}
use Rattle.channel_step.specs.Past.{IsOther}
use Rattle.sessions.specs.Sent.{firsts_with, IsAsked}

-- an entry of a core was not asked for yet
abbrev pub IsNew : List ℕ → Request → Type 0
IsNew firsts r = slice_index_or firsts r.core 0 ≤ r.entry

-- what was asked for stays so
with-more : (firsts : List ℕ) (core entry : ℕ) → core < length firsts → slice_index_or firsts core 0 ≤ entry → (k : ℕ)
    → slice_index_or firsts k 0 ≤ slice_index_or (firsts_with firsts core entry) k 0
with-more firsts core entry l h k = by (eqb k core) refl
  where
    unequal : (a b : ℕ) → eqb a b ≡ false → a ≡ b → ⊥
    unequal a b e same = grind (arith, nat_tests)

    by : (b : Bool) → eqb k core ≡ b → slice_index_or firsts k 0 ≤ slice_index_or (firsts_with firsts core entry) k 0
    by true e =
        let same : k ≡ core = eqb-true _ _ e in
        let now : slice_index_or (firsts_with firsts core entry) core 0 ≡ entry + 1 = get_or-set_same firsts core (entry + 1) 0 l in
        subst (λ i. slice_index_or firsts i 0 ≤ slice_index_or (firsts_with firsts core entry) i 0) (sym same) (omega arith)
    by false e =
        let other : slice_index_or (firsts_with firsts core entry) k 0 ≡ slice_index_or firsts k 0 = get_or-set_other firsts core k (entry + 1) 0 (λ same. unequal k core e same) in
        omega arith

pub asked-more : (firsts : List ℕ) (core entry : ℕ) → core < length firsts → slice_index_or firsts core 0 ≤ entry → (rs : List Request)
    → Each (IsAsked firsts) rs → Each (IsAsked (firsts_with firsts core entry)) rs
asked-more firsts core entry l h rs =
    Each-weaker (IsAsked firsts) (IsAsked (firsts_with firsts core entry)) (λ (r : Request) k. let x = with-more firsts core entry l h r.core in omega arith) rs

pub asked-now : (firsts : List ℕ) (r : Request) → r.core < length firsts → IsAsked (firsts_with firsts r.core r.entry) r
asked-now firsts r l =
    let now : slice_index_or (firsts_with firsts r.core r.entry) r.core 0 ≡ r.entry + 1 = get_or-set_same firsts r.core (r.entry + 1) 0 l in
    omega arith

-- a request for what was asked for is another one than a request for what was not
pub other : (firsts : List ℕ) (r q : Request) → IsAsked firsts r → IsNew firsts q → IsOther r q
other firsts r q h k = by (eqb q.core r.core) refl
  where
    above : r.entry < q.entry → eqb q.entry r.entry ≡ false
    above l = grind (arith, nat_tests)

    by : (b : Bool) → eqb q.core r.core ≡ b → (b && eqb q.entry r.entry) ≡ false
    by false e = refl
    by true e =
        let same : slice_index_or firsts q.core 0 ≡ slice_index_or firsts r.core 0 = ap (λ c. slice_index_or firsts c 0) (eqb-true _ _ e) in
        above (omega arith)
