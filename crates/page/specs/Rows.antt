-- Whether commands are those of a run.
--     IsOfRun s row      the run has the channel and the cycle of a command
--     IsOfRunAt s rows place      so it is with the command at a place, if there is one
--     IsFirstStranger s rows place      the first command that is not of the run
--     NamesFirstStranger s rows fault      a fault names this command
--     IsReason s rows fault      why no page is made of commands
use Rattle.std.specs.Prelude.{◌≡◌, ℕ, List, ◌<◌, length, slice_get, IfSome, IsSomeAnd}
use Rattle.sim_base.specs.declared.command.IssuedCommand.{IssuedCommand}
use Rattle.statistics.specs.Values.{RunStats}
use Rattle.page.specs.declared.fault.PageFault.{PageFault}
use Rattle.page.specs.declared.fault.PageFault.TheVariants.{Command, Memory, Write}

-- the run has the channel and the cycle of a command
abbrev pub IsOfRun : RunStats → IssuedCommand → Type 0
IsOfRun s row = (row.cycle < s.cycles) × (row.channel < length s.channels)

-- a command at this place, if there is one, is of the run
abbrev pub IsOfRunAt : RunStats → List IssuedCommand → ℕ → Type 0
IsOfRunAt s rows place = IfSome (slice_get rows place) (IsOfRun s)

-- the command at this place is not of the run, and those before it are
pub record IsFirstStranger (s : RunStats) (rows : List IssuedCommand) (place : ℕ) : Type 0 where
  pub before : (k : ℕ) → k < place → IsOfRunAt s rows k
  pub stranger : IsSomeAnd (slice_get rows place) (λ row. ¬ IsOfRun s row)

-- a fault names a command, the first that is not of the run
pub record NamesFirstStranger (s : RunStats) (rows : List IssuedCommand) (fault : PageFault) : Type 0 where
  pub place : ℕ
  pub fault_is : fault ≡ Command place
  pub first : IsFirstStranger s rows place

-- where a fault names a command, this is the first that is not of the run
abbrev pub IsReason : RunStats → List IssuedCommand → PageFault → Type 0
IsReason s rows (Command place) = IsFirstStranger s rows place
IsReason _ _ Memory = Unit {0}
IsReason _ _ Write = Unit {0}
