-- How far a run has come, phase by phase.
use Rattle.std.proofs.Common.{◌≡◌, ℕ, ◌≤◌, List, [], ◌∷◌, ◌++◌, inl, inr, refl, sym, subst, ◌∙◌, arith}
use Rattle.sim_base.specs.declared.fault.Fault.{Fault}
use Rattle.units.specs.Views.{SimView}
use Rattle.shards.specs.Jobs.{JobView}
use Rattle.shards.specs.Phases.{IsPhaseOf, PhaseView, ended, sim_of}
use Rattle.reference.specs.Orders.{AreFitted, Fits, HasCome, IsAsFar, IsMisfit, IsNext, IsWhyStopped, StopsAtMisfit, after}

far-same : (sim : SimView) → IsAsFar sim sim
far-same sim = record { machine_is = refl; phase_is = refl; since = omega arith }

far-on : (sim at later : SimView) → IsAsFar sim at → IsAsFar at later → IsAsFar sim later
far-on sim at later h k =
    record {
      machine_is = k.machine_is ∙ h.machine_is;
      phase_is = k.phase_is ∙ h.phase_is;
      since = omega (arith, h.since, k.since);
    }

-- a phase that comes next further on comes next, and the more so up to a later limit
phase-from : (sim later : SimView) (stop limit : ℕ) (phase : PhaseView) → IsAsFar sim later → stop ≤ limit → IsPhaseOf later stop phase → IsPhaseOf sim limit phase
phase-from sim later stop limit phase far l h =
    record {
      machine_is = h.machine_is ∙ far.machine_is;
      number_is = h.number_is ∙ far.phase_is;
      since = omega (arith, h.since, far.since);
      order = h.order;
      within = omega (arith, h.within, l);
    }

-- so does one in so many shards
next-from : (shards : ℕ) (sim later : SimView) (stop limit : ℕ) (phase : PhaseView) → IsAsFar sim later → stop ≤ limit → IsNext shards later stop phase → IsNext shards sim limit phase
next-from shards sim later stop limit phase far l h = record { phase_is = phase-from sim later stop limit phase far l h.phase_is; shards_are = h.shards_are }

fitted-from : (may_give : ℕ → List JobView → List JobView → Type 0) (shards : ℕ) (sim later : SimView) (stop limit : ℕ) (phases : List PhaseView) → IsAsFar sim later → stop ≤ limit
    → AreFitted may_give shards later stop phases → AreFitted may_give shards sim limit phases
unfolding AreFitted
fitted-from may_give shards sim later stop limit [] far l h = h
fitted-from may_give shards sim later stop limit (phase ∷ phases) far l h =
    (next-from shards sim later stop limit phase far l h.0, h.1, fitted-from may_give shards (sim_of (ended phase)) (sim_of (ended phase)) stop limit phases (far-same (sim_of (ended phase))) l h.2)

after-from : (sim later : SimView) (phases : List PhaseView) → IsAsFar sim later → IsAsFar (after sim phases) (after later phases)
unfolding after
after-from sim later [] far = far
after-from sim later (phase ∷ phases) far = far-same (after (sim_of (ended phase)) phases)

fitted-append : (may_give : ℕ → List JobView → List JobView → Type 0) (shards : ℕ) (sim : SimView) (limit : ℕ) (phases more : List PhaseView) → AreFitted may_give shards sim limit phases
    → AreFitted may_give shards (after sim phases) limit more → AreFitted may_give shards sim limit (phases ++ more)
unfolding after AreFitted
fitted-append may_give shards sim limit [] more h k = k
fitted-append may_give shards sim limit (phase ∷ phases) more h k = (h.0, h.1, fitted-append may_give shards (sim_of (ended phase)) limit phases more h.2 k)

after-append : (sim : SimView) (phases more : List PhaseView) → after sim (phases ++ more) ≡ after (after sim phases) more
unfolding after
after-append sim [] more = refl
after-append sim (phase ∷ phases) more = after-append (sim_of (ended phase)) phases more

pub come-none : (may_give : ℕ → List JobView → List JobView → Type 0) (shards : ℕ) (sim : SimView) (limit : ℕ) → HasCome may_give shards sim limit sim
unfolding after AreFitted
come-none may_give shards sim limit = record { phases = []; fitted = tt; far = far-same sim }

-- a run comes to the end of a phase whose results fit
pub come-phase : (may_give : ℕ → List JobView → List JobView → Type 0) (shards : ℕ) (sim : SimView) (limit : ℕ) (phase : PhaseView) → IsNext shards sim limit phase → Fits may_give phase
    → HasCome may_give shards sim limit (sim_of (ended phase))
unfolding after AreFitted
come-phase may_give shards sim limit phase h f = record { phases = phase ∷ []; fitted = (h, f, tt); far = far-same (sim_of (ended phase)) }

-- a run that has come somewhere comes from there further on
pub come-on : (may_give : ℕ → List JobView → List JobView → Type 0) (shards : ℕ) (sim at later : SimView) (stop limit : ℕ) → stop ≤ limit → HasCome may_give shards sim limit at → HasCome may_give shards at stop later
    → HasCome may_give shards sim limit later
come-on may_give shards sim at later stop limit l h k =
    record {
      phases = h.phases ++ k.phases;
      fitted = fitted-append may_give shards sim limit h.phases k.phases h.fitted (fitted-from may_give shards (after sim h.phases) at stop limit k.phases h.far l k.fitted);
      far = subst (λ s. IsAsFar s later) (sym (after-append sim h.phases k.phases)) (far-on _ (after at k.phases) later (after-from (after sim h.phases) at k.phases h.far) k.far);
    }

-- a phase that does not fit stops a run where it comes next
pub why-phase : (may_give : ℕ → List JobView → List JobView → Type 0) (shards : ℕ) (sim : SimView) (limit : ℕ) (phase : PhaseView) (fault : Fault) → IsNext shards sim limit phase → IsMisfit may_give phase fault
    → IsWhyStopped may_give shards sim limit fault
unfolding after AreFitted
why-phase may_give shards sim limit phase fault h (inl e) = inl e
why-phase may_give shards sim limit phase fault h (inr b) = inr (record { phases = []; phase = phase; fitted = tt; next = h; blamed = b })

-- what stops a run further on stops it
pub why-on : (may_give : ℕ → List JobView → List JobView → Type 0) (shards : ℕ) (sim at : SimView) (stop limit : ℕ) (fault : Fault) → stop ≤ limit → HasCome may_give shards sim limit at → IsWhyStopped may_give shards at stop fault
    → IsWhyStopped may_give shards sim limit fault
why-on may_give shards sim at stop limit fault l h (inl e) = inl e
why-on may_give shards sim at stop limit fault l h (inr w) = inr (stops-on w)
  where
    stops-on : StopsAtMisfit may_give shards at stop fault → StopsAtMisfit may_give shards sim limit fault
    stops-on w = record {
      phases = h.phases ++ w.phases;
      phase = w.phase;
      fitted = fitted-append may_give shards sim limit h.phases w.phases h.fitted (fitted-from may_give shards (after sim h.phases) at stop limit w.phases h.far l w.fitted);
      next = subst (λ s. IsNext shards s limit w.phase) (sym (after-append sim h.phases w.phases))
          (next-from shards (after (after sim h.phases) w.phases) (after at w.phases) stop limit w.phase (after-from (after sim h.phases) at w.phases h.far) l w.next);
      blamed = w.blamed;
    }
