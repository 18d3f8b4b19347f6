-- A simulator that is run in one thread, phase by phase, with the results of each in an order that someone chooses.
--     Fits may_give phase      an order may give one result of each job of a phase
--     DoNotFit may_give phase cause      it may give results that are not one of each job
--     after sim phases      the simulator when phases are over
--     IsNext shards sim limit phase      a phase in so many shards that comes next in a run
--     AreFitted may_give shards sim limit phases      such phases, one after the other, whose results fitted
--     IsAsFar sim later      the same run, in the same phase, at the same cycle or a later one
--     HasCome may_give shards sim limit later      the run has come to a cycle by such phases
--     run_fault cause      what a run says where results do not fit
--     IsMisfit may_give phase fault      why the results of a phase are not put together, as a run says it
--     StopsAtMisfit may_give shards sim limit fault      a phase that the run reached has results that do not fit
--     IsWhyStopped may_give shards sim limit fault      why a run does not reach a limit
--     BringsNoneIn results arranged      what has the name of a result is one of the results
--     OnlyPermutes may_give      an order leaves no result out, repeats none, and brings none in
use Rattle.std.specs.Prelude.{◌≡◌, ◌⊎◌, ℕ, ◌≤◌, List, [], ◌∷◌, Some, None, All, Any, IsPermutation}
use Rattle.sim_base.specs.declared.fault.Fault.{Fault}
use Rattle.sim_base.specs.declared.fault.Fault.TheVariants.{Memory, Merge}
use Rattle.sim_base.specs.declared.fault.MergeFault.{MergeFault}
use Rattle.sim_base.specs.declared.fault.MergeFault.TheVariants as merging
use Rattle.units.specs.Views.{SimView}
use Rattle.shards.specs.Jobs.{JobView}
use Rattle.shards.specs.Merging.{fault_in}
use Rattle.shards.specs.Phases.{IsPhaseOf, PhaseView, ended, jobs_of, shard_count, sim_of}

-- what an order may give for the results of a phase is one result of each job
pub record Fits (may_give : ℕ → List JobView → List JobView → Type 0) (phase : PhaseView) : Type 0 where
  pub arranged : List JobView
  pub given : may_give phase.number (jobs_of phase) arranged
  pub whole : fault_in phase arranged ≡ None

-- it is not one result of each job, and this is what is wrong with it
pub record DoNotFit (may_give : ℕ → List JobView → List JobView → Type 0) (phase : PhaseView) (cause : MergeFault)
    : Type 0 where
  pub arranged : List JobView
  pub given : may_give phase.number (jobs_of phase) arranged
  pub fault_is : fault_in phase arranged ≡ Some cause

-- the simulator when phases are over: at the end of the last
unfoldable pub after : SimView → List PhaseView → SimView
after sim [] = sim
after sim (phase ∷ phases) = after (sim_of (ended phase)) phases

-- a phase that comes next in a run, with a job for each of so many shards
pub record IsNext (shards : ℕ) (sim : SimView) (limit : ℕ) (phase : PhaseView) : Type 0 where
  pub phase_is : IsPhaseOf sim limit phase
  pub shards_are : shard_count phase ≡ shards

-- Phases of a run in so many shards, one after the other from where a simulator stands: each has the next number,
-- begins where the one before it ended or later, and does not end past a limit, and the order may have given one
-- result of each of its jobs.
unfoldable pub AreFitted : (ℕ → List JobView → List JobView → Type 0) → ℕ → SimView → ℕ → List PhaseView → Type 0
AreFitted may_give shards sim limit [] = Unit {0}
AreFitted may_give shards sim limit (phase ∷ phases) =
    IsNext shards sim limit phase × Fits may_give phase × AreFitted may_give shards (sim_of (ended phase)) limit phases

-- a simulator of the same machine that has run as many phases, and stands at the same cycle or a later one
pub record IsAsFar (sim later : SimView) : Type 0 where
  pub machine_is : later.machine ≡ sim.machine
  pub phase_is : later.phase ≡ sim.phase
  pub since : sim.now ≤ later.now

-- A run has come to where a simulator stands by phases in so many shards whose results fitted: it stands at the end
-- of the last, or later.
pub record HasCome (may_give : ℕ → List JobView → List JobView → Type 0) (shards : ℕ) (sim : SimView) (limit : ℕ)
    (later : SimView) : Type 0 where
  pub phases : List PhaseView
  pub fitted : AreFitted may_give shards sim limit phases
  pub far : IsAsFar (after sim phases) later

-- Where results do not fit, a run says why. Out of memory stays out of memory.
abbrev pub run_fault : MergeFault → Fault
run_fault (merging.Missing shard) = Merge (merging.Missing shard)
run_fault (merging.Double index) = Merge (merging.Double index)
run_fault (merging.Stranger index) = Merge (merging.Stranger index)
run_fault merging.Memory = Memory

-- the results of a phase do not fit as the order gives them, and the fault says why
pub record IsBlamed (may_give : ℕ → List JobView → List JobView → Type 0) (phase : PhaseView) (fault : Fault)
    : Type 0 where
  pub cause : MergeFault
  pub misfit : DoNotFit may_give phase cause
  pub fault_is : fault ≡ Merge cause

-- a phase is not finished because memory is refused, or its results do not fit
abbrev pub IsMisfit : (ℕ → List JobView → List JobView → Type 0) → PhaseView → Fault → Type 0
IsMisfit may_give phase fault = (fault ≡ Memory) ⊎ IsBlamed may_give phase fault

-- After phases whose results fitted, which the run went through from its first, the next one has results that do not
-- fit as the order gives them, and the fault says why.
pub record StopsAtMisfit (may_give : ℕ → List JobView → List JobView → Type 0) (shards : ℕ) (sim : SimView) (limit : ℕ)
    (fault : Fault) : Type 0 where
  pub phases : List PhaseView
  pub phase : PhaseView
  pub fitted : AreFitted may_give shards sim limit phases
  pub next : IsNext shards (after sim phases) limit phase
  pub blamed : IsBlamed may_give phase fault

-- a run stops before its limit because it is out of memory, or at a phase whose results do not fit as the order gives
-- them
abbrev pub IsWhyStopped : (ℕ → List JobView → List JobView → Type 0) → ℕ → SimView → ℕ → Fault → Type 0
IsWhyStopped may_give shards sim limit fault = (fault ≡ Memory) ⊎ StopsAtMisfit may_give shards sim limit fault

-- what has the name of one of some results is one of them
abbrev pub IsGiven : List JobView → JobView → Type 0
IsGiven results d = Any (λ r. r.name ≡ d.name) results → Any (λ r. r ≡ d) results

-- what is given for the results of a phase, and has the name of one of them, is one of them
abbrev pub BringsNoneIn : List JobView → List JobView → Type 0
BringsNoneIn results arranged = All (IsGiven results) arranged

-- what is given for the results of a phase are these in some order
abbrev pub OnlyPermutes : (ℕ → List JobView → List JobView → Type 0) → Type 0
OnlyPermutes may_give =
    (phase : ℕ) (results arranged : List JobView) → may_give phase results arranged → IsPermutation results arranged
