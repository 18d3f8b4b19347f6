-- Words of a column that are raised: each becomes the later of what it was and a cycle by its number.
--     AreRaised old new until      each word is raised, and a number past the end of the list has the cycle 0
--     AreAllRaised old new until      each word is raised; of numbers past the end of the list nothing is said
--     IsRangeRaised old new first count until      some words are raised to a cycle
--     AreSameBefore old new first, AreSameFrom old new end      the words before a place, or from one on, stay
--     group_word_until t cycle earlier later bank k      to which cycle a group's word is raised after a command
--     act_until t cycle bank end k      to which cycle it is after an ACT
--     IsRankChanged old new rank change      one rank of all changes
use Rattle.std.specs.Prelude.{◌≡◌, ℕ, ◌+◌, ◌<◌, ◌≤◌, ◌==◌, max, List, length, slice_index_or, if◌then◌else◌}
use Rattle.sim_base.specs.declared.timing.Timing.{Timing}
use Rattle.sim_base.specs.declared.place.BankId.{BankId}
use Rattle.sim_base.specs.declared.command.Kind.{Kind}
use Rattle.sim_base.specs.declared.command.Kind.TheVariants.{Act}
use Rattle.bank_ready.specs.Ready.{held_until}
use Rattle.bank_ready.specs.Words.{group_relation_from, groups_rank_until}
use Rattle.bank_ready.specs.declared.words.RankState.{RankState}

-- each word is raised to a cycle by its number, which is 0 for a number past the end of the list
abbrev pub AreRaised : List ℕ → List ℕ → (ℕ → ℕ) → Type 0
AreRaised old new until = (k d : ℕ) → slice_index_or new k d ≡ max (slice_index_or old k d) (until k)

-- each word whose number is below the length of the list is raised to a cycle by its number
abbrev pub AreAllRaised : List ℕ → List ℕ → (ℕ → ℕ) → Type 0
AreAllRaised old new until =
    (k d : ℕ) → k < length old → slice_index_or new k d ≡ max (slice_index_or old k d) (until k)

-- `count` words from the place `first` on are raised to a cycle
abbrev pub IsRangeRaised : List ℕ → List ℕ → ℕ → ℕ → ℕ → Type 0
IsRangeRaised old new first count until =
    (k d : ℕ) → first ≤ k → k < first + count → slice_index_or new k d ≡ max (slice_index_or old k d) until

-- the words before a place stay
abbrev pub AreSameBefore : List ℕ → List ℕ → ℕ → Type 0
AreSameBefore old new first = (k d : ℕ) → k < first → slice_index_or new k d ≡ slice_index_or old k d

-- the words from a place on stay
abbrev pub AreSameFrom : List ℕ → List ℕ → ℕ → Type 0
AreSameFrom old new end = (k d : ℕ) → end ≤ k → slice_index_or new k d ≡ slice_index_or old k d

-- from which cycle on a command of a kind, issued to a bank, no longer holds back a later one of a kind in the group
-- with a number
abbrev pub group_word_until : Timing → ℕ → Kind → Kind → BankId → ℕ → ℕ
group_word_until t cycle earlier later bank k = held_until t cycle earlier later (group_relation_from bank k)

-- from which cycle on an ACT to a bank, and in its rank a window of ACTs up to its end, hold back no ACT in the group
-- with a number
abbrev pub act_until : Timing → ℕ → BankId → ℕ → ℕ → ℕ
act_until t cycle bank end k = max (group_word_until t cycle Act Act bank k) (groups_rank_until bank.rank end k)

-- of all ranks one changes like this
abbrev pub IsRankChanged : List RankState → List RankState → ℕ → (RankState → RankState) → Type 0
IsRankChanged old new rank change =
    (k : ℕ) (d : RankState)
    → slice_index_or new k d ≡ (if rank == k then change (slice_index_or old k d) else slice_index_or old k d)
