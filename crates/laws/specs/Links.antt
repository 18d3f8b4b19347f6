-- What travels on the links of a run.
--     LinksCarryOneACycle s traces n      at most one message arrives on a link in a cycle
use Rattle.std.specs.Prelude.{ℕ, ◌≤◌, ◌==◌, Bool, ◌&&◌, List, count_by}
use Rattle.sim_base.specs.declared.config.Config.{Config}
use Rattle.sim_base.specs.History.{messages}
use Rattle.sim_base.specs.Machine.{run}
use Rattle.sim_base.specs.declared.message.Message.{Message}
use Rattle.sim_base.specs.declared.trace.Entry.{Entry}

-- a message arrives on a link in a cycle
abbrev pub arrives_on : ℕ → ℕ → Message → Bool
arrives_on link cycle m = (m.link == link) && (m.arrival == cycle)

-- of the messages that are sent in the first n cycles, at most one arrives on a link in a cycle
abbrev pub LinksCarryOneACycle : Config → List (List Entry) → ℕ → Type 0
LinksCarryOneACycle s traces n =
    (link cycle : ℕ) → count_by (arrives_on link cycle) (messages s traces (run s traces n)) ≤ 1
