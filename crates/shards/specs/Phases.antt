-- A phase of a run: all its jobs, from the time they are planned until what came of them is put together.
--     ShardedView      what contracts see of a simulator whose units are shared out
--     sharded_view machine bounds now phase      the view of a machine in shards
--     shards_in v, sim_of v      how many shards there are, and the simulator that they make up
--     sim_at machine now phase      a simulator of a machine
--     PhaseView      a phase of a run
--     phase_over machine bounds span      the phase of a machine in shards over a span
--     shard_count p      how many shards a phase has
--     job_of p shard, name_of p shard      the job of a shard, and its name
--     jobs_of p      all jobs of a phase, shard by shard
--     IsPhase p      what holds of a phase, while its jobs are out
--     IsPhaseOf sim limit phase      a phase that comes next in a run
--     ended phase      the shards when a phase is over
--     AreTakenApart p wake shards outbound      what came of the jobs of a phase
--     TakesApartAny places wake shards outbound      what came of the jobs of any phase of which these are the results
--     MayGo p shards inbound      all shards may go over a phase
--     MayStop machine bounds now shards inbound      all shards may stop at a cycle
use Rattle.std.specs.Prelude.{◌≡◌, ℕ, suc, ◌-◌, ◌^◌, ◌<◌, ◌≤◌, List, Option, Some, length, map, slice_index_or}
use Rattle.std.specs.declared.vec.Vec.{Vec}
use Rattle.std.specs.declared.alloc.Global.{Global}
use Rattle.std.specs.declared.boxed.Box.{Box}
use Rattle.sim_base.specs.declared.message.Message.{Message}
use Rattle.sim_base.specs.Locality.{TravelsFor}
use Rattle.units.specs.Views.{SimView}
use Rattle.units.specs.declared.machine.Machine.{Machine}
use Rattle.shards.specs.declared.shard.Shard.{Shard}
use Rattle.shards.specs.declared.job.JobName.{JobName}
use Rattle.shards.specs.declared.merging.PhaseSpan.{PhaseSpan}
use Rattle.shards.specs.Shards.{IsSplit, AreFrom, IsAtRest, IsUpTo, nth_shard}
use Rattle.shards.specs.Jobs.{JobView, IsJob, job_at, jobs_at}

-- the run of a machine in shards: where each shard begins, and behind the last the number of units; how many cycles
-- are over, and how many phases they took
pub record ShardedView : Type 0 where
  pub machine : Machine
  pub bounds : List ℕ
  pub now : ℕ
  pub phase : ℕ

-- a machine in shards that begin at these places, when `now` cycles and `phase` phases are over
abbrev pub sharded_view : Machine → List ℕ → ℕ → ℕ → ShardedView
sharded_view machine bounds now phase = record { machine = machine; bounds = bounds; now = now; phase = phase }

-- how many shards a machine has
abbrev pub shards_in : ShardedView → ℕ
shards_in v = length v.bounds - 1

-- the simulator of a machine when `now` cycles and `phase` phases are over
abbrev pub sim_at : Machine → ℕ → ℕ → SimView
sim_at machine now phase = record { machine = machine; now = now; phase = phase }

-- the simulator that the shards of a machine make up
abbrev pub sim_of : ShardedView → SimView
sim_of v = sim_at v.machine v.now v.phase

-- a phase of a run, which covers the cycles from `from` up to `until`, and where each shard begins
pub record PhaseView : Type 0 where
  pub machine : Machine
  pub bounds : List ℕ
  pub number : ℕ
  pub from : ℕ
  pub until : ℕ

-- the phase of a machine in shards over the cycles of a span, which has its number
abbrev pub phase_over : Machine → List ℕ → PhaseSpan → PhaseView
phase_over machine bounds span =
    record { machine = machine; bounds = bounds; number = span.number; from = span.from; until = span.until }

-- how many shards a phase has
abbrev pub shard_count : PhaseView → ℕ
shard_count p = length p.bounds - 1

-- the job of the shard with a number in a phase
abbrev pub job_of : PhaseView → ℕ → JobView
job_of p shard = job_at p.machine p.bounds p.number p.from p.until shard

-- the name of the job of the shard with a number in a phase
abbrev pub name_of : PhaseView → ℕ → JobName
name_of p shard = record { phase = p.number; shard = shard; from = p.from; until = p.until }

-- the jobs of a phase, by shard
abbrev pub jobs_of : PhaseView → List JobView
jobs_of p = jobs_at p.machine p.bounds p.number p.from p.until

-- The jobs of a phase are out.
pub record IsPhase (p : PhaseView) : Type 0 where
  pub counted : p.number ≤ p.from
  pub order : p.from < p.until
  pub early : p.until ≤ 10 ^ 12
  pub travels : TravelsFor p.machine.config (p.until - p.from)
  pub split : IsSplit p.machine.config p.bounds

-- a phase of a run, from where a simulator stands or later on, and not past a limit
pub record IsPhaseOf (sim : SimView) (limit : ℕ) (phase : PhaseView) : Type 0 where
  pub machine_is : phase.machine ≡ sim.machine
  pub number_is : phase.number ≡ sim.phase
  pub since : sim.now ≤ phase.from
  pub order : phase.from < phase.until
  pub within : phase.until ≤ limit

-- the shards of a machine when a phase is over
abbrev pub ended : PhaseView → ShardedView
ended phase = sharded_view phase.machine phase.bounds phase.until (suc phase.number)

-- What came of the jobs of a phase, shard by shard: each is at rest up to a cycle, and what it sent stands in its
-- lists.
pub record AreTakenApart (p : PhaseView) (wake : ℕ) (shards : List (Box Shard Global))
    (outbound : List (Vec (Vec Message Global) Global)) : Type 0 where
  pub since : p.until ≤ wake
  pub count : length shards ≡ length (jobs_of p)
  pub outbound_count : length outbound ≡ length shards
  pub rest : (index : ℕ) (d : Box Shard Global) → index < length shards
      → IsAtRest p.machine p.bounds index p.from p.until wake (nth_shard shards index d)
  pub outbound_are : (index : ℕ) (d : Box Shard Global) (e : Vec (Vec Message Global) Global) → index < length shards
      → AreFrom p.machine p.bounds p.from p.until (nth_shard shards index d) (slice_index_or outbound index e).items

-- for each phase, up to cycle 10^12, of which these are the results, one for each shard: what came of its jobs
abbrev pub TakesApartAny : List (Option JobView) → ℕ → List (Box Shard Global) → List (Vec (Vec Message Global) Global)
    → Type 0
TakesApartAny places wake shards outbound =
    (p : PhaseView) → p.until ≤ 10 ^ 12 → places ≡ map Some (jobs_of p) → AreTakenApart p wake shards outbound

-- All shards may go over a phase: each was at rest before, and nothing happens up to its beginning.
pub record MayGo (p : PhaseView) (shards : List (Box Shard Global)) (inbound : List (Vec (Vec Message Global) Global))
    : Type 0 where
  pub count : suc (length shards) ≡ length p.bounds
  pub inbound_count : length inbound ≡ length shards
  pub each : (index : ℕ) (d : Box Shard Global) (e : Vec (Vec Message Global) Global) → index < length shards
      → IsJob p.machine p.bounds (name_of p index) (nth_shard shards index d) (slice_index_or inbound index e).items

-- All shards may stop at a cycle: each was at rest before, and nothing happens up to there.
pub record MayStop (machine : Machine) (bounds : List ℕ) (now : ℕ) (shards : List (Box Shard Global))
    (inbound : List (Vec (Vec Message Global) Global)) : Type 0 where
  pub split : IsSplit machine.config bounds
  pub early : now ≤ 10 ^ 12
  pub count : suc (length shards) ≡ length bounds
  pub inbound_count : length inbound ≡ length shards
  pub each : (index : ℕ) (d : Box Shard Global) (e : Vec (Vec Message Global) Global) → index < length shards
      → IsUpTo machine bounds index now (nth_shard shards index d) (slice_index_or inbound index e).items
