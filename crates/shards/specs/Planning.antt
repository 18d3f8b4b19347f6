-- What comes next in a run whose units are shared out.
--     IsPlanned sim limit planned      what comes next
use Rattle.std.specs.Prelude.{◌≡◌, ℕ}
use Rattle.units.specs.Views.{HasReached}
use Rattle.shards.specs.Phases.{IsPhaseOf, ShardedView, jobs_of, sim_of}
use Rattle.shards.specs.declared.planning.Planned.{Planned}
use Rattle.shards.specs.declared.planning.Planned.TheVariants.{AtLimit, Phase}

-- what comes next in a run: the simulator at the limit, where nothing happens before it, with no phase more; or a phase
-- of the same shards with its jobs
abbrev pub IsPlanned : ShardedView → ℕ → Planned → Type 0
IsPlanned v limit (AtLimit after) = HasReached (sim_of v) limit after × (after.phase ≡ v.phase)
IsPlanned v limit (Phase phase jobs) =
    IsPhaseOf (sim_of v) limit phase × (phase.bounds ≡ v.bounds) × (jobs.items ≡ jobs_of phase)
