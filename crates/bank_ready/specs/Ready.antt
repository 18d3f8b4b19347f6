-- When a command may follow those of a history.
--     held_until t cycle earlier later relation      from which cycle on one command no longer holds a later one back
--     ready_from t history later rank bank      from which cycle on no command of a history does
--     window_ends t rank history      the cycle in which each ACT of a rank leaves the four-activate window
use Rattle.std.specs.Prelude.{ℕ, ◌+◌, ◌==◌, ◌&&◌, max, Bool, List, map, filter, fold, Option, option_map, unwrap_or}
use Rattle.sim_base.specs.declared.timing.Timing.{Timing}
use Rattle.sim_base.specs.declared.place.BankId.{BankId}
use Rattle.sim_base.specs.declared.command.Kind.{Kind}
use Rattle.sim_base.specs.declared.command.Kind.TheVariants as kind
use Rattle.sim_base.specs.declared.command.Relation.{Relation}
use Rattle.sim_base.specs.declared.command.IssuedCommand.{IssuedCommand}
use Rattle.sim_base.specs.Rules.{is_kind, kind_of, rank_of}
use Rattle.timing.specs.Relation.{relation_to}
use Rattle.timing.specs.Holds.{hold}

-- From which cycle on a command no longer holds back a later one whose banks relate to its own like this: from the gap
-- after its own cycle on, and from 0 on where no rule binds the two.
unfoldable pub held_until : Timing → ℕ → Kind → Kind → Relation → ℕ
held_until t cycle earlier later relation =
    unwrap_or (option_map (λ gap. cycle + gap) (hold t earlier later relation)) 0

-- From which cycle on a command of a history no longer holds back a later one of a kind in a rank, which names this
-- bank, if it names one.
abbrev pub held_by : Timing → Kind → ℕ → Option BankId → IssuedCommand → ℕ
held_by t later rank bank i = held_until t i.cycle (kind_of i.command) later (relation_to i.command rank bank)

-- from which cycle on no command of a history holds back such a later command
unfoldable pub ready_from : Timing → List IssuedCommand → Kind → ℕ → Option BankId → ℕ
ready_from t history later rank bank = fold max 0 (map (held_by t later rank bank) history)

-- an ACT in this rank
abbrev pub is_act_in : ℕ → IssuedCommand → Bool
is_act_in rank i = is_kind (kind_of i.command) kind.Act && (rank_of i.command == rank)

-- from which cycle on each ACT of a rank no longer counts for the four-activate window, oldest first
unfoldable pub window_ends : Timing → ℕ → List IssuedCommand → List ℕ
window_ends t rank history = map (λ i. i.cycle + t.n_faw) (filter (is_act_in rank) history)
