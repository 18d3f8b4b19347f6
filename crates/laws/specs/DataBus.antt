-- The data bus of a channel. A RD has its data on the bus in the four cycles that begin nCL cycles after it, and a WR
-- in the four that begin nCWL cycles after it.
--     has_data_in t cycle i      a command has data on the bus in a cycle
--     BurstsDoNotOverlap s traces n      in no cycle do two commands of a channel have data on its bus
use Rattle.std.specs.Prelude.{ℕ, ◌+◌, ◌<◌, ◌≤◌, nat_lt, nat_le, Bool, false, ◌&&◌, List, count_by}
use Rattle.sim_base.specs.declared.config.Config.{Config}
use Rattle.sim_base.specs.declared.timing.Timing.{Timing}
use Rattle.sim_base.specs.declared.command.Command.{Command}
use Rattle.sim_base.specs.declared.command.Command.TheVariants.{Act, Rd, Wr, Pre, Prea, Ref}
use Rattle.sim_base.specs.declared.command.IssuedCommand.{IssuedCommand}
use Rattle.sim_base.specs.declared.trace.Entry.{Entry}
use Rattle.laws.specs.Commands.{history_of}

-- a cycle is one of the four of a burst
abbrev pub is_in_burst : ℕ → ℕ → Bool
is_in_burst first cycle = nat_le first cycle && nat_lt cycle (first + 4)

-- a command that is issued in a cycle has data on the bus in another
abbrev pub moves_data_in : Timing → ℕ → ℕ → Command → Bool
moves_data_in t cycle issued (Rd bank row column source) = is_in_burst (issued + t.n_cl) cycle
moves_data_in t cycle issued (Wr bank row column source) = is_in_burst (issued + t.n_cwl) cycle
moves_data_in t cycle issued (Act bank row source) = false
moves_data_in t cycle issued (Pre bank source) = false
moves_data_in t cycle issued (Prea rank) = false
moves_data_in t cycle issued (Ref rank) = false

-- a command of a history has data on the bus in a cycle
abbrev pub has_data_in : Timing → ℕ → IssuedCommand → Bool
has_data_in t cycle i = moves_data_in t cycle i.cycle i.command

-- in no cycle do two commands of a channel have data on its bus
abbrev pub BurstsDoNotOverlap : Config → List (List Entry) → ℕ → Type 0
BurstsDoNotOverlap s traces n =
    (channel cycle : ℕ) → channel < s.channels
    → count_by (has_data_in s.timing cycle) (history_of s traces n channel) ≤ 1
