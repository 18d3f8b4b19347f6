-- When a channel acts next, if nothing more is sent to it.
--     command_then p now cycle      what it would issue in a cycle, where it issues nothing from now on and before that
--     arrives_then p cycle      whether a request that was sent arrives in a cycle
--     first_arrival coming      when the first of some messages arrives, if there are any
--     IsNextAct p now next      the next cycle in which it issues a command or a request arrives, if there is one
use Rattle.std.specs.Prelude.{◌≡◌, ◌⊎◌, ℕ, ◌-◌, ◌<◌, ◌≤◌, ◌==◌, Bool, true, ◌++◌, replicate, is_some, List, [], ◌∷◌, Option, Some, None}
use Rattle.std.specs.List.{list_any}
use Rattle.sim_base.specs.Scheduling.{choice}
use Rattle.sim_base.specs.declared.command.Command.{Command}
use Rattle.sim_base.specs.declared.message.Message.{Message}
use Rattle.sessions.specs.Keeps.{steps_of}
use Rattle.sessions.specs.Sessions.{Past}

-- what the definition's channel issues in a cycle for all that was sent, where it issues nothing from now on and before
-- that
abbrev pub command_then : Past → ℕ → ℕ → Option Command
command_then p now cycle =
    choice p.config p.channel (steps_of p.config p.channel p.sent now ++ replicate (cycle - now) None) p.sent

-- whether a request that was sent arrives in a cycle
abbrev pub arrives_then : Past → ℕ → Bool
arrives_then p cycle = list_any (λ (m : Message). m.arrival == cycle) p.sent

-- when the first of some messages arrives, if there is one
abbrev pub first_arrival : List Message → Option ℕ
first_arrival [] = None
first_arrival (m ∷ ms) = Some m.arrival

-- A channel acts in a cycle, and in none from now on and before that, if nothing more is sent to it: it issues nothing
-- before that cycle; and in it, it issues a command, or a request that was sent arrives.
pub record IsNextAt (p : Past) (now cycle : ℕ) : Type 0 where
  pub from_now : now ≤ cycle
  pub idle : (t : ℕ) → now ≤ t → t < cycle → command_then p now t ≡ None
  pub acts : (is_some (command_then p now cycle) ≡ true) ⊎ (arrives_then p cycle ≡ true)

-- the cycle in which a channel acts next, if nothing more is sent to it, or none where it issues nothing any more
abbrev pub IsNextAct : Past → ℕ → Option ℕ → Type 0
IsNextAct p now (Some cycle) = IsNextAt p now cycle
IsNextAct p now None = (t : ℕ) → now ≤ t → command_then p now t ≡ None
