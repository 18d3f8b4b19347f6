-- What a shard does in a phase, as a job that any thread may run.
--     JobView      what contracts see of a shard's job in a phase, or of what came of it
--     job_view shard name      the view of a job of this shard
--     IsJob machine bounds name shard inbound      what holds of a job that is to be run
--     IsOwnJob name shard inbound      a job that is to be run, of the machine and the bounds that the shard has
--     IsDone machine bounds name wake shard outbound      what holds of a job that was run
--     IsOwnDone name wake shard outbound      a job that was run, of the machine and the bounds that the shard has
--     jobs_at machine bounds phase from until      the jobs of a phase, shard by shard
use Rattle.std.specs.Prelude.{ℕ, ◌-◌, ◌^◌, ◌<◌, ◌≤◌, List, length, map}
use Rattle.std.specs.Arc.{arc_value}
use Rattle.std.specs.declared.vec.Vec.{Vec}
use Rattle.std.specs.declared.alloc.Global.{Global}
use Rattle.sim_base.specs.declared.message.Message.{Message}
use Rattle.sim_base.specs.History.{below}
use Rattle.sim_base.specs.Locality.{TravelsFor}
use Rattle.units.specs.declared.machine.Machine.{Machine}
use Rattle.shards.specs.declared.shard.Shard.{Shard}
use Rattle.shards.specs.declared.job.JobName.{JobName}
use Rattle.shards.specs.Shards.{IsSplit, AreFrom, IsAtRest, IsUpTo}

-- a shard's job in a phase of a run, or what came of it: the machine, where each shard begins, and the job's name
pub record JobView : Type 0 where
  pub machine : Machine
  pub bounds : List ℕ
  pub name : JobName

-- the job of a shard with this name
abbrev pub job_view : Shard → JobName → JobView
job_view shard name = record { machine = arc_value shard.machine; bounds = shard.bounds.items; name = name }

-- A shard's job in a phase: the shard stands where the phase begins, or before, and nothing happens up to there.
pub record IsJob (machine : Machine) (bounds : List ℕ) (name : JobName) (shard : Shard)
    (inbound : List (Vec Message Global)) : Type 0 where
  pub before : IsUpTo machine bounds name.shard name.from shard inbound
  pub next : name.from < name.until
  pub early : name.until ≤ 10 ^ 12
  pub travels : TravelsFor machine.config (name.until - name.from)

-- a shard's job in a phase, of the machine and the bounds that the shard has
abbrev pub IsOwnJob : JobName → Shard → List (Vec Message Global) → Type 0
IsOwnJob name shard inbound = IsJob (arc_value shard.machine) shard.bounds.items name shard inbound

-- A shard has run its job in a phase.
pub record IsDone (machine : Machine) (bounds : List ℕ) (name : JobName) (wake : ℕ) (shard : Shard)
    (outbound : List (Vec Message Global)) : Type 0 where
  pub split : IsSplit machine.config bounds
  pub rests : IsAtRest machine bounds name.shard name.from name.until wake shard
  pub order : name.from ≤ name.until
  pub early : name.until ≤ 10 ^ 12
  pub travels : TravelsFor machine.config (name.until - name.from)
  pub outbound_are : AreFrom machine bounds name.from name.until shard outbound

-- a shard has run its job in a phase, of the machine and the bounds that the shard has
abbrev pub IsOwnDone : JobName → ℕ → Shard → List (Vec Message Global) → Type 0
IsOwnDone name wake shard outbound = IsDone (arc_value shard.machine) shard.bounds.items name wake shard outbound

-- the job of the shard with number `index` in a phase
abbrev pub job_at : Machine → List ℕ → ℕ → ℕ → ℕ → ℕ → JobView
job_at machine bounds phase from until index =
    record {
      machine = machine;
      bounds = bounds;
      name = record { phase = phase; shard = index; from = from; until = until };
    }

-- the jobs of all shards in a phase, by shard
abbrev pub jobs_at : Machine → List ℕ → ℕ → ℕ → ℕ → List JobView
jobs_at machine bounds phase from until = map (job_at machine bounds phase from until) (below (length bounds - 1))
