-- Why a run stops before its limit.
use Rattle.std.proofs.Common.{◌≡◌, ℕ, List, Some, None, ◌⊎◌, inl, inr, refl, sym, ◌∙◌}
use Rattle.sim_base.specs.declared.fault.Fault.{Fault}
use Rattle.sim_base.specs.declared.fault.Fault.TheVariants.{Memory}
use Rattle.sim_base.specs.declared.fault.MergeFault.{MergeFault}
use Rattle.sim_base.specs.declared.fault.MergeFault.TheVariants as merging
use Rattle.units.specs.Views.{SimView}
use Rattle.shards.specs.Jobs.{JobView}
use Rattle.shards.specs.Merging.{fault_in}
use Rattle.shards.specs.Phases.{PhaseView, jobs_of}
use Rattle.shards.proofs.Whole.{whole-fits}
use Rattle.reference.specs.Orders.{IsMisfit, IsWhyStopped, OnlyPermutes, run_fault}

second : {P Q : Type 0} → (P → ⊥) → P ⊎ Q → Q
second h (inl p) = absurd (h p)
second h (inr q) = q

missing_shard : (shard : ℕ) → merging.Missing shard ≡ merging.Memory → ⊥
missing_shard shard e = cc

double_index : (index : ℕ) → merging.Double index ≡ merging.Memory → ⊥
double_index index e = cc

stranger_index : (index : ℕ) → merging.Stranger index ≡ merging.Memory → ⊥
stranger_index index e = cc

-- what is wrong with the results of a phase is what the run says
pub misfits : (may_give : ℕ → List JobView → List JobView → Type 0) (phase : PhaseView) (arranged : List JobView) (cause : MergeFault) → may_give phase.number (jobs_of phase) arranged
    → (cause ≡ merging.Memory) ⊎ (fault_in phase arranged ≡ Some cause) → IsMisfit may_give phase (run_fault cause)
misfits may_give phase arranged merging.Memory given e = inl refl
misfits may_give phase arranged (merging.Missing shard) given e =
    inr (record { cause = merging.Missing shard; misfit = record { arranged = arranged; given = given; fault_is = second (missing_shard shard) e }; fault_is = refl })
misfits may_give phase arranged (merging.Double index) given e =
    inr (record { cause = merging.Double index; misfit = record { arranged = arranged; given = given; fault_is = second (double_index index) e }; fault_is = refl })
misfits may_give phase arranged (merging.Stranger index) given e =
    inr (record { cause = merging.Stranger index; misfit = record { arranged = arranged; given = given; fault_is = second (stranger_index index) e }; fault_is = refl })

-- an order that only permutes leaves out of memory alone
pub only-memory : (may_give : ℕ → List JobView → List JobView → Type 0) (shards : ℕ) (sim : SimView) (limit : ℕ) (fault : Fault) → IsWhyStopped may_give shards sim limit fault → OnlyPermutes may_give → fault ≡ Memory
only-memory may_give shards sim limit fault (inl e) permutes = e
only-memory may_give shards sim limit fault (inr why) permutes =
    let phase = why.phase in
    let fit = why.blamed.misfit in
    let e : None ≡ Some why.blamed.cause = sym (whole-fits phase fit.arranged (permutes phase.number (jobs_of phase) fit.arranged fit.given)) ∙ fit.fault_is in
    cc
