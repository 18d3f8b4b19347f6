-- Where a run stops.
use Rattle.std.proofs.Common.{◌≡◌, ℕ, zero, suc, ◌<◌, ◌≤◌, Bool, true, false, List, ◌⊎◌, inl, inr, refl, sym, ap, subst, ◌∙◌, arith}
use Rattle.std.proofs.lemmas.Bool.{cases_lt, lt-ltb, le-ltb, cond-true, cond-false, false≢true}
use Rattle.sim_base.specs.declared.config.Config.{Config}
use Rattle.sim_base.specs.declared.trace.Entry.{Entry}
use Rattle.sim_base.specs.Machine.{cycles_run, ends_before}
use Rattle.sim_base.proofs.Cycles.{cycles-none, cycles-next, cycles-within}
use Rattle.units.proofs.SpanLaws.Over.{cycles-are_counted}
use Rattle.units.specs.Drained.{NotEnded}
use Rattle.units.specs.Stops.{stop_of}
use Rattle.units.specs.Runs.{ends_at}
use Rattle.units.specs.Views.{SimView}

-- A run has as many cycles as the limit says, or it ends before it.
cycles-open : (s : Config) (traces : List (List Entry)) (limit : ℕ) → (cycles_run s traces limit ≡ limit) ⊎ (ends_before s traces (cycles_run s traces limit) ≡ true)
cycles-open s traces zero = inl (cycles-none s traces)
cycles-open s traces (suc n) = go (ends_before s traces (cycles_run s traces n)) refl
  where
    go : (b : Bool) → ends_before s traces (cycles_run s traces n) ≡ b → (cycles_run s traces (suc n) ≡ suc n) ⊎ (ends_before s traces (cycles_run s traces (suc n)) ≡ true)
    go true e = inr (ap (ends_before s traces) (cycles-next s traces n ∙ cond-true _ _ _ e) ∙ e)
    go false e = inl (cycles-next s traces n ∙ cond-false _ _ _ e)

-- Where it is over before a cycle, it has no more cycles.
cycles-at_most : (s : Config) (traces : List (List Entry)) (n limit : ℕ) → ends_before s traces n ≡ true → cycles_run s traces limit ≤ n
cycles-at_most s traces n zero h = subst (λ c. c ≤ n) (sym (cycles-none s traces)) (omega arith)
cycles-at_most s traces n (suc limit) h =
    go (ends_before s traces (cycles_run s traces limit)) refl (cycles-open s traces limit) (cycles-at_most s traces n limit h)
  where
    more : cycles_run s traces limit ≡ limit → ends_before s traces (cycles_run s traces limit) ≡ false → cycles_run s traces limit ≤ n
        → (limit < n) ⊎ (n ≤ limit) → suc limit ≤ n
    more k e few (inl l) = omega arith
    more k e few (inr l) =
        let same : limit ≡ n = omega (arith, few, k) in
        absurd (false≢true (sym e ∙ ap (ends_before s traces) (k ∙ same) ∙ h))

    go : (b : Bool) → ends_before s traces (cycles_run s traces limit) ≡ b
        → (cycles_run s traces limit ≡ limit) ⊎ (ends_before s traces (cycles_run s traces limit) ≡ true)
        → cycles_run s traces limit ≤ n → cycles_run s traces (suc limit) ≤ n
    go true e is few = subst (λ c. c ≤ n) (sym (cycles-next s traces limit ∙ cond-true _ _ _ e)) few
    go false e (inr k) few = absurd (false≢true (sym e ∙ k))
    go false e (inl k) few = subst (λ c. c ≤ n) (sym (cycles-next s traces limit ∙ cond-false _ _ _ e)) (more k e few (cases_lt limit n))

-- A run that did not end on the way, and ends where it stands or is at the limit there, stands where it stops.
pub stands-at_stop : (sim : SimView) (limit now : ℕ) → sim.now ≤ now → now ≤ limit → NotEnded sim.machine sim.now now
    → (now < limit → ends_at sim.machine now ≡ true) → now ≡ stop_of sim limit
stands-at_stop sim limit now l m on ended = go (cases_lt sim.now now)
  where
    cycles : ℕ
    cycles = cycles_run sim.machine.config sim.machine.traces.items limit

    few : (now < limit) ⊎ (limit ≤ now) → cycles ≤ now
    few (inl k) = cycles-at_most sim.machine.config sim.machine.traces.items now limit (ended k)
    few (inr k) = let far : cycles ≤ limit = cycles-within sim.machine.config sim.machine.traces.items limit in omega (arith, far, k)

    go : (sim.now < now) ⊎ (now ≤ sim.now) → now ≡ stop_of sim limit
    go (inl k) =
        let counted : cycles ≡ now = cycles-are_counted sim.machine.config sim.machine.traces.items limit now m (λ last e. on last (omega (arith, k, e)) (omega (arith, e))) ended in
        sym (cond-true _ _ _ (lt-ltb sim.now cycles (subst (λ c. sim.now < c) (sym counted) k)) ∙ counted)
    go (inr k) =
        let same : now ≡ sim.now = omega (arith, l, k) in
        let no : cycles ≤ sim.now = subst (λ c. cycles ≤ c) same (few (cases_lt now limit)) in
        same ∙ sym (cond-false _ _ _ (le-ltb sim.now cycles no))
