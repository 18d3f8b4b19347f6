-- The first cycle in which something holds.
--     IsFirstCycle holds now first      the first cycle from `now` on in which something holds, if there is one
--     IsNext commands command_of now next      the first cycle from `now` on with a command, and what needs it, or none
use Rattle.std.specs.Prelude.{◌≡◌, ℕ, ◌<◌, ◌≤◌, Bool, true, false, Option, Some, None, is_some}
use Rattle.sim_base.specs.declared.command.Command.{Command}
use Rattle.channel_step.specs.declared.fr_fcfs.choice.Need.{Need}

-- the first cycle from `now` on in which something holds
pub record IsFirst (holds : ℕ → Bool) (now first : ℕ) : Type 0 where
  pub from_now : now ≤ first
  pub holds_then : holds first ≡ true
  pub not_before : (cycle : ℕ) → now ≤ cycle → cycle < first → holds cycle ≡ false

-- the first cycle from `now` on in which something holds, or none where it never does
abbrev pub IsFirstCycle : (ℕ → Bool) → ℕ → Option ℕ → Type 0
IsFirstCycle holds now (Some first) = IsFirst holds now first
IsFirstCycle holds now None = (cycle : ℕ) → now ≤ cycle → holds cycle ≡ false

-- the first cycle from `now` on that has a command, and that command
pub record IsNextAt (commands : ℕ → Option Command) (now cycle : ℕ) (command : Option Command) : Type 0 where
  pub from_now : now ≤ cycle
  pub then_is : commands cycle ≡ command
  pub there_is : is_some command ≡ true
  pub none_before : (c : ℕ) → now ≤ c → c < cycle → commands c ≡ None

-- the first cycle from `now` on that has a command, and what needs that command, or none where no cycle has one
abbrev pub IsNext : (ℕ → Option Command) → (Need → Option Command) → ℕ → Option (ℕ × Need) → Type 0
IsNext commands command_of now (Some next) = IsNextAt commands now next.0 (command_of next.1)
IsNext commands command_of now None = (c : ℕ) → now ≤ c → commands c ≡ None
