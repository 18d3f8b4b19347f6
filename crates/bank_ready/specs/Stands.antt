-- What a `Banks` stands for.
--     rank_count banks      how many ranks it was made for
--     IsAllowedFrom s history command cycle      from which cycle on a command is allowed after a history
--     Ascends history      each command is later than those before it
--     IsFloor t history later cycle      no command of a kind is allowed before a cycle
--     followed_by history channel cycle command      a list of commands with one more
--     StandsFor banks s history      all that it keeps is what the commands of a history make of it
use Rattle.std.specs.Prelude.{◌≡◌, ℕ, ◌*◌, ◌<◌, ◌≤◌, ◌↔◌, IsTrue, Option, List, [], ◌∷◌, ◌++◌, map, length}
use Rattle.std.specs.List.{AllByRecursion as Each}
use Rattle.sim_base.specs.declared.config.Config.{Config}
use Rattle.sim_base.specs.declared.timing.Timing.{Timing}
use Rattle.sim_base.specs.declared.place.BankId.{BankId}
use Rattle.sim_base.specs.declared.command.Command.{Command}
use Rattle.sim_base.specs.declared.command.Kind.{Kind}
use Rattle.sim_base.specs.declared.command.Kind.TheVariants.{Rd, Wr, Pre}
use Rattle.sim_base.specs.declared.command.IssuedCommand.{IssuedCommand}
use Rattle.sim_base.specs.History.{below}
use Rattle.sim_base.specs.Rules.{is_allowed}
use Rattle.bank_ready.specs.Ready.{ready_from}
use Rattle.bank_ready.specs.Words.{act_word, rd_word, wr_word, pre_word, act_word_from, word_from, rank_state_from}
use Rattle.bank_ready.specs.declared.banks.Banks.{Banks}

-- how many ranks it was made for
abbrev pub rank_count : Banks → ℕ
rank_count banks = length banks.ranks.items

-- From this cycle on, and not before, the distances and the four-activate window allow a command after a history.
abbrev pub IsAllowedFrom : Config → List IssuedCommand → Command → ℕ → Type 0
IsAllowedFrom s history command cycle = (now : ℕ) → (cycle ≤ now) ↔ IsTrue (is_allowed s.timing history now command)

-- a list of commands with one more, which a channel issues in a cycle
abbrev pub followed_by : List IssuedCommand → ℕ → ℕ → Command → List IssuedCommand
followed_by history channel cycle command =
    history ++ record { cycle = cycle; channel = channel; command = command } ∷ []

-- each command is later than those before it
abbrev pub Ascends : List IssuedCommand → Type 0
Ascends [] = Unit {0}
Ascends (i ∷ history) = Each (λ (j : IssuedCommand). i.cycle < j.cycle) history × Ascends history

-- a history allows no command of this kind before a cycle, whatever rank and bank it names
abbrev pub IsFloor : Timing → List IssuedCommand → Kind → ℕ → Type 0
IsFloor t history later floor = (rank : ℕ) (bank : Option BankId) → floor ≤ ready_from t history later rank bank

-- The cycles of the commands ascend. Each word is the least cycle from which on none of them holds back such a command
-- (an ACT, also by the four-activate window), each floor is a cycle before which they allow no such command in any
-- bank, and each window has the last four ACTs of its rank.
pub record StandsFor (banks : Banks) (s : Config) (history : List IssuedCommand) : Type 0 where
  pub timing : banks.gaps.value ≡ s.timing
  pub ranks : rank_count banks ≡ s.ranks
  pub act_words : (k : ℕ) → k < 16 * s.ranks → act_word banks k ≡ act_word_from s.timing history k
  pub rd_words : (k : ℕ) → k < 16 * s.ranks → rd_word banks k ≡ word_from s.timing history Rd k
  pub wr_words : (k : ℕ) → k < 16 * s.ranks → wr_word banks k ≡ word_from s.timing history Wr k
  pub pre_words : (k : ℕ) → k < 16 * s.ranks → pre_word banks k ≡ word_from s.timing history Pre k
  pub rd_floor : IsFloor s.timing history Rd banks.rd_floor
  pub wr_floor : IsFloor s.timing history Wr banks.wr_floor
  pub rank_states : banks.ranks.items ≡ map (rank_state_from s.timing history) (below s.ranks)
  pub ascending : Ascends history
