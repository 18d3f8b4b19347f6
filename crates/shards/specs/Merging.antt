-- What becomes of the results of a phase.
--     names_of p      the names of the jobs of a phase
--     is_among names name      a name is among others
--     fault_at p earlier name      what is wrong with a result that comes after others
--     first_fault p earlier names      the first fault of results with these names, which come after others
--     missing p names      the first shard without a result
--     merge_fault p names      what is wrong with the results of a phase, if something is
--     IsOf p result      a result that carries the name of a job of a phase is of the phase's machine
--     results_at p names      the results with these names, each in the place of its shard
--     names_in results      the names of results
--     has_span p name      a name has the number and the cycles of a phase
--     IsPut p index name old new      a result is put in its place
--     IsNameFault p index name old fault      the name of a result is at fault
--     IsFirstFault p names fault      the first name at fault has this fault
--     ArePlaced p names places      results stand in their places, and none of their names is at fault
--     AreAllThere places, IsMissing places fault      each shard has a result, or one has none
--     fault_in p results      what is wrong with results, if something is
--     IsOneOfEach p results      results of which there is one of each job
--     IsWhyUnmerged p results fault      why results are not put together
use Rattle.std.specs.Prelude.{◌≡◌, ◌⊎◌, ℕ, ◌==◌, Bool, true, not, ◌&&◌, List, [], ◌∷◌, ◌++◌, length, map, find, IsPermutation, option_map, Option, Some, None, if◌then◌else◌}
use Rattle.std.specs.List.{list_any}
use Rattle.sim_base.specs.History.{below}
use Rattle.sim_base.specs.declared.fault.MergeFault.{MergeFault}
use Rattle.sim_base.specs.declared.fault.MergeFault.TheVariants.{Memory, Missing, Double, Stranger}
use Rattle.shards.specs.Jobs.{JobView}
use Rattle.shards.specs.Phases.{PhaseView, shard_count, name_of, job_of, jobs_of}
use Rattle.shards.specs.declared.job.JobName.{JobName}
use Rattle.sim_base.specs.Scheduling.{or_else}

-- two names are the same
abbrev pub same_name : JobName → JobName → Bool
same_name a b = ((a.phase == b.phase) && (a.shard == b.shard)) && ((a.from == b.from) && (a.until == b.until))

-- a name is among others
abbrev pub is_among : List JobName → JobName → Bool
is_among names name = list_any (λ n. same_name n name) names

-- the names of the jobs of a phase
abbrev pub names_of : PhaseView → List JobName
names_of p = map (name_of p) (below (shard_count p))

-- A result that comes after others is a stranger where its name belongs to no job of the phase, and a double where one
-- of the others has its name. The fault says how many come before it.
unfoldable pub fault_at : PhaseView → List JobName → JobName → Option MergeFault
fault_at p earlier name =
    if not (is_among (names_of p) name) then Some (Stranger (length earlier))
    else if is_among earlier name then Some (Double (length earlier))
    else None

-- the first stranger or double of a list, after some earlier results
unfoldable pub first_fault : PhaseView → List JobName → List JobName → Option MergeFault
first_fault p earlier [] = None
first_fault p earlier (name ∷ names) = or_else (fault_at p earlier name) (first_fault p (earlier ++ name ∷ []) names)

-- the least shard that has no result
unfoldable pub missing : PhaseView → List JobName → Option MergeFault
missing p names = option_map Missing (find (λ shard. not (is_among names (name_of p shard))) (below (shard_count p)))

-- what is wrong with the results of a phase: the first stranger or double decides, and otherwise the least shard
-- without a result
abbrev pub merge_fault : PhaseView → List JobName → Option MergeFault
merge_fault p names = or_else (first_fault p [] names) (missing p names)

-- a result that carries the name of a job of a phase is of the phase's machine, in its shards
abbrev pub IsOf : PhaseView → JobView → Type 0
IsOf p result = is_among (names_of p) result.name ≡ true → (result.machine ≡ p.machine) × (result.bounds ≡ p.bounds)

-- the result of a shard, where its name is among these
abbrev pub result_at : PhaseView → List JobName → ℕ → Option JobView
result_at p names shard = if is_among names (name_of p shard) then Some (job_of p shard) else None

-- the results of all shards in their places
unfoldable pub results_at : PhaseView → List JobName → List (Option JobView)
results_at p names = map (result_at p names) (below (shard_count p))

-- the names of results, in their order
abbrev pub names_in : List JobView → List JobName
names_in results = map (λ (d : JobView). d.name) results

-- a name has the number and the cycles of a phase
abbrev pub has_span : PhaseView → JobName → Bool
has_span p name = (name.phase == p.number) && ((name.from == p.from) && (name.until == p.until))

-- A result with this name, which comes after `index` others, is put in the place of its shard, where the results of the
-- others stand in theirs: its name is not at fault.
abbrev pub IsPut : PhaseView → ℕ → JobName → List (Option JobView) → List (Option JobView) → Type 0
IsPut p index name old new =
    (names : List JobName) → old ≡ results_at p names → length names ≡ index
    → (fault_at p names name ≡ None) × (new ≡ results_at p (names ++ name ∷ []))

-- the name of a result, which comes after `index` others, is at fault, and this is the fault
abbrev pub IsNameFault : PhaseView → ℕ → JobName → List (Option JobView) → MergeFault → Type 0
IsNameFault p index name old fault =
    (names : List JobName) → old ≡ results_at p names → length names ≡ index → fault_at p names name ≡ Some fault

-- the results with these names stand in their places, and none of the names is at fault
abbrev pub ArePlaced : PhaseView → List JobName → List (Option JobView) → Type 0
ArePlaced p names places = (first_fault p [] names ≡ None) × (places ≡ results_at p names)

-- the first of the names that is at fault, as the fault says
abbrev pub IsFirstFault : PhaseView → List JobName → MergeFault → Type 0
IsFirstFault p names fault = first_fault p [] names ≡ Some fault

-- whichever results of a phase stand in these places, each shard has one
abbrev pub AreAllThere : List (Option JobView) → Type 0
AreAllThere places =
    (p : PhaseView) (names : List JobName) → places ≡ results_at p names
    → (missing p names ≡ None) × (places ≡ map Some (jobs_of p))

-- whichever results of a phase stand in these places, a shard has none, as the fault says
abbrev pub IsMissing : List (Option JobView) → MergeFault → Type 0
IsMissing places fault =
    (p : PhaseView) (names : List JobName) → places ≡ results_at p names → missing p names ≡ Some fault

-- what is wrong with these results of a phase, if something is
abbrev pub fault_in : PhaseView → List JobView → Option MergeFault
fault_in p results = merge_fault p (names_in results)

-- one result of each job of a phase, in some order
abbrev pub IsOneOfEach : PhaseView → List JobView → Type 0
IsOneOfEach p results = IsPermutation (jobs_of p) results

-- results of a phase are not put together because memory is refused, or because of what is wrong with their names
abbrev pub IsWhyUnmerged : PhaseView → List JobView → MergeFault → Type 0
IsWhyUnmerged p results fault = (fault ≡ Memory) ⊎ (fault_in p results ≡ Some fault)
