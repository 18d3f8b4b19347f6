-- How many cycles a run has, one cycle of its limit more.
use Rattle.std.proofs.Common.{◌≡◌, ℕ, zero, suc, ◌+◌, ◌≤◌, Bool, true, false, cond, List, refl, sym, ap, subst, ◌∙◌, add-zero, arith}
use Rattle.std.proofs.Math.Nat.{add-suc}
use Rattle.sim_base.specs.declared.config.Config.{Config}
use Rattle.sim_base.specs.declared.trace.Entry.{Entry}
use Rattle.sim_base.specs.Machine.{cycles_run, ends_before}

pub cycles-none : (s : Config) (traces : List (List Entry)) → cycles_run s traces 0 ≡ 0
unfolding cycles_run
cycles-none s traces = refl

pub cycles-next : (s : Config) (traces : List (List Entry)) (n : ℕ) → cycles_run s traces (suc n) ≡ cond (ends_before s traces (cycles_run s traces n)) (cycles_run s traces n) (suc n)
unfolding cycles_run
cycles-next s traces n = refl

-- a run that ends before a cycle has no more cycles under a later limit
pub cycles-stay : (s : Config) (traces : List (List Entry)) (n : ℕ) → cycles_run s traces n ≡ n → ends_before s traces n ≡ true → (k : ℕ) → cycles_run s traces (n + k) ≡ n
cycles-stay s traces n e h zero = ap (cycles_run s traces) (add-zero n) ∙ e
cycles-stay s traces n e h (suc k) =
    let before : cycles_run s traces (n + k) ≡ n = cycles-stay s traces n e h k in
    ap (cycles_run s traces) (add-suc n k) ∙ cycles-next s traces (n + k) ∙ ap (λ c. cond (ends_before s traces c) c (suc (n + k))) before ∙ ap (λ b. cond b n (suc (n + k))) h

-- a run has no more cycles than its limit
pub cycles-within : (s : Config) (traces : List (List Entry)) (limit : ℕ) → cycles_run s traces limit ≤ limit
cycles-within s traces zero = subst (λ c. c ≤ 0) (sym (cycles-none s traces)) (omega arith)
cycles-within s traces (suc n) = subst (λ c. c ≤ suc n) (sym (cycles-next s traces n)) (by (ends_before s traces (cycles_run s traces n)) (cycles-within s traces n))
  where
    by : (b : Bool) → cycles_run s traces n ≤ n → cond b (cycles_run s traces n) (suc n) ≤ suc n
    by true l = omega arith
    by false l = omega arith
