-- How one more command changes all that a `Banks` keeps.
--     IsRaised count before after until      each word of the first `count` banks is raised to the cycle of its bank
--     window_word banks command k      from which cycle on an ACT leaves room in the window for one more in bank k
--     IsFloorRaised t cycle command later before after      a floor is raised no further than the command holds back
--     IsNoted banks after t cycle command      one more command is noted, by these distances
--     HasNoted banks after cycle command      one more command is noted, by the distances that the banks keep
use Rattle.std.specs.Prelude.{◌≡◌, ℕ, ◌*◌, ◌/◌, ◌<◌, ◌≤◌, max, length, slice_index_or, Option, if◌then◌else◌}
use Rattle.sim_base.specs.declared.timing.Timing.{Timing}
use Rattle.sim_base.specs.declared.place.BankId.{BankId}
use Rattle.sim_base.specs.declared.command.Command.{Command}
use Rattle.sim_base.specs.declared.command.Kind.{Kind}
use Rattle.sim_base.specs.declared.command.Kind.TheVariants.{Act, Rd, Wr, Pre}
use Rattle.sim_base.specs.Rules.{kind_of}
use Rattle.timing.specs.Relation.{relation_to}
use Rattle.bank_ready.specs.Ready.{held_until}
use Rattle.bank_ready.specs.Words.{act_word, rd_word, wr_word, pre_word, word_until, acts_in, unused_rank, rank_state_after}
use Rattle.bank_ready.specs.declared.words.RankState.{RankState}
use Rattle.bank_ready.specs.declared.banks.Banks.{Banks}

-- each word of the banks below this number is raised to a cycle by the bank's number
pub record IsRaised (count : ℕ) (before after until : ℕ → ℕ) : Type 0 where
  pub each : (k : ℕ) → k < count → after k ≡ max (before k) (until k)

-- After this command, if it is an ACT in the rank of the bank with this number: from which cycle on another ACT of the
-- bank is not the fifth one within the four-activate window, that is from where the ACT that is then the oldest of the
-- last four no longer counts. For any other command it is 0.
abbrev pub window_word : Banks → Command → ℕ → ℕ
window_word banks command k =
    if acts_in command (k / 16) then (slice_index_or banks.ranks.items (k / 16) unused_rank).window.second else 0

-- a cycle before which no command of a kind is allowed is raised no further than this command holds back each one of
-- the kind
abbrev pub IsFloorRaised : Timing → ℕ → Command → Kind → ℕ → ℕ → Type 0
IsFloorRaised t cycle command later before after =
    (rank : ℕ) (bank : Option BankId)
    → after ≤ max before (held_until t cycle (kind_of command) later (relation_to command rank bank))

-- one more command is noted in the words of each bank and each rank, by these distances, and no floor is raised too far
pub record IsNoted (banks after : Banks) (t : Timing) (cycle : ℕ) (command : Command) : Type 0 where
  pub gaps : after.gaps ≡ banks.gaps
  pub act : IsRaised (16 * length banks.ranks.items) (act_word banks) (act_word after)
      (λ k. max (word_until t cycle command Act k) (window_word banks command k))
  pub rd : IsRaised (16 * length banks.ranks.items) (rd_word banks) (rd_word after) (word_until t cycle command Rd)
  pub wr : IsRaised (16 * length banks.ranks.items) (wr_word banks) (wr_word after) (word_until t cycle command Wr)
  pub pre : IsRaised (16 * length banks.ranks.items) (pre_word banks) (pre_word after) (word_until t cycle command Pre)
  pub rd_floor : IsFloorRaised t cycle command Rd banks.rd_floor after.rd_floor
  pub wr_floor : IsFloorRaised t cycle command Wr banks.wr_floor after.wr_floor
  pub rank_count : length after.ranks.items ≡ length banks.ranks.items
  pub ranks : (k : ℕ) (d : RankState) → k < length banks.ranks.items
      → slice_index_or after.ranks.items k d ≡ rank_state_after t cycle command k (slice_index_or banks.ranks.items k d)

-- one more command is noted in the words of each bank and each rank, by the distances that the banks keep
abbrev pub HasNoted : Banks → Banks → ℕ → Command → Type 0
HasNoted banks after cycle command = IsNoted banks after banks.gaps.value cycle command
