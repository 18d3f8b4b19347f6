-- What a bank and a rank keep of a history.
--     is_own own k      a number is that of a bank, if there is such a bank
--     own_until own until k, rank_until rank until k      to which cycle the word of a bank is raised
--     groups_rank_until, group_until, ranks_until, all_groups_until      to which cycle that of a group is
--     relation_from bank k, group_relation_from bank k      how a bank relates to the bank, or group, with number k
--     act_word banks k, rd_word banks k, wr_word banks k, pre_word banks k      what is kept of the bank with a number
--     names_bank kind, names_rank kind, is_column_kind kind      names a bank, names a rank alone, is a RD or a WR
--     unused_rank      a rank that has had no command
--     pushed window end      the last four ACTs of a rank after one more
--     window_from t rank history      the last four ACTs of a rank
--     word_from t history later k, act_word_from t history k      from which cycle on nothing holds back one in bank k
--     rank_state_from t history rank      what a rank keeps of the commands of a history
--     word_until t cycle command later k      from which cycle on one command no longer holds back another of a bank
--     rank_raised t cycle earlier state      a rank whose PREA and REF words a command in it raises
--     rank_after_act t cycle end state      what it keeps after an ACT
--     rank_state_after t cycle command rank state      what a rank keeps after one more command
use Rattle.std.specs.Prelude.{ℕ, ◌+◌, ◌/◌, ◌%◌, ◌==◌, ◌&&◌, max, Bool, true, false, List, slice_index_or, fold, Option, Some, None, if◌then◌else◌}
use Rattle.sim_base.specs.declared.timing.Timing.{Timing}
use Rattle.sim_base.specs.declared.place.BankId.{BankId}
use Rattle.sim_base.specs.declared.command.Command.{Command}
use Rattle.sim_base.specs.declared.command.Kind.{Kind}
use Rattle.sim_base.specs.declared.command.Kind.TheVariants.{Act, Rd, Wr, Pre, Prea, Ref}
use Rattle.sim_base.specs.declared.command.Relation.{Relation}
use Rattle.sim_base.specs.declared.command.Relation.TheVariants.{SameBank, SameGroup, OtherGroup, OtherRank}
use Rattle.sim_base.specs.declared.command.IssuedCommand.{IssuedCommand}
use Rattle.sim_base.specs.Rules.{is_kind, kind_of, rank_of, relation_in_rank}
use Rattle.timing.specs.Relation.{relation_to}
use Rattle.bank_ready.specs.Ready.{held_until, ready_from, window_ends}
use Rattle.bank_ready.specs.declared.words.ActWindow.{ActWindow}
use Rattle.bank_ready.specs.declared.words.RankState.{RankState}
use Rattle.bank_ready.specs.declared.banks.Banks.{Banks}
use Rattle.sim_base.specs.Places.{bank_at}

-- this number is that of a bank, if there is such a bank
abbrev pub is_own : Option ℕ → ℕ → Bool
is_own (Some own) k = k == own
is_own None k = false

-- to which cycle the word of the bank with this number is raised: it alone, if there is such a bank
abbrev pub own_until : Option ℕ → ℕ → ℕ → ℕ
own_until own until k = if is_own own k then until else 0

-- to which cycle the word of the bank with this number is raised: each one of this rank
abbrev pub rank_until : ℕ → ℕ → ℕ → ℕ
rank_until rank until k = if rank == k / 16 then until else 0

-- to which cycle the word of the group with this number is raised: each one of this rank
abbrev pub groups_rank_until : ℕ → ℕ → ℕ → ℕ
groups_rank_until rank until k = if rank == k / 4 then until else 0

-- to which cycle the word of the group with this number is raised: those of this rank, one of them to a cycle of its
-- own
abbrev pub group_until : ℕ → ℕ → ℕ → ℕ → ℕ → ℕ
group_until rank group same_group other_group k =
    if rank == k / 4 then (if group == k % 4 then same_group else other_group) else 0

-- to which cycle the word of the group with this number is raised: those of one rank to one cycle, those of the others
-- to another
abbrev pub ranks_until : ℕ → ℕ → ℕ → ℕ → ℕ
ranks_until rank same_rank other_rank k = if rank == k / 4 then same_rank else other_rank

-- to which cycle the word of the group with this number is raised: the group of a bank, the others of its rank, those
-- of the other ranks
abbrev pub all_groups_until : BankId → ℕ → ℕ → ℕ → ℕ → ℕ
all_groups_until bank same_group other_group other_rank k =
    if bank.rank == k / 4 then (if bank.group == k % 4 then same_group else other_group) else other_rank

-- how a bank relates to the one with this number
abbrev pub relation_from : BankId → ℕ → Relation
relation_from bank k = if bank.rank == k / 16 then relation_in_rank (Some bank) (Some (bank_at k)) else OtherRank

-- how a bank relates to the group with this number, each rank having places for four groups: to its own group, as to
-- another bank of it
abbrev pub group_relation_from : BankId → ℕ → Relation
group_relation_from bank k =
    if bank.rank == k / 4 then (if bank.group == k % 4 then SameGroup else OtherGroup) else OtherRank

-- from which cycle on an ACT of the bank with this number is no longer held back: the later of the bank's own word and
-- its group's
abbrev pub act_word : Banks → ℕ → ℕ
act_word banks k = max (slice_index_or banks.act.items k 0) (slice_index_or banks.act_groups.items (k / 4) 0)

-- from which cycle on a RD of the bank with this number is no longer held back
abbrev pub rd_word : Banks → ℕ → ℕ
rd_word banks k = max (slice_index_or banks.rd.items k 0) (slice_index_or banks.rd_groups.items (k / 4) 0)

-- from which cycle on a WR of the bank with this number is no longer held back
abbrev pub wr_word : Banks → ℕ → ℕ
wr_word banks k = max (slice_index_or banks.wr.items k 0) (slice_index_or banks.wr_groups.items (k / 4) 0)

-- from which cycle on a PRE of the bank with this number is no longer held back
abbrev pub pre_word : Banks → ℕ → ℕ
pre_word banks k = slice_index_or banks.pre.items k 0

-- a command of this kind names a bank
abbrev pub names_bank : Kind → Bool
names_bank Act = true
names_bank Rd = true
names_bank Wr = true
names_bank Pre = true
names_bank Prea = false
names_bank Ref = false

-- a command of this kind names a rank alone
abbrev pub names_rank : Kind → Bool
names_rank Prea = true
names_rank Ref = true
names_rank Act = false
names_rank Rd = false
names_rank Wr = false
names_rank Pre = false

-- a command of this kind is a column command
abbrev pub is_column_kind : Kind → Bool
is_column_kind Rd = true
is_column_kind Wr = true
is_column_kind Act = false
is_column_kind Pre = false
is_column_kind Prea = false
is_column_kind Ref = false

-- the last four ACTs of a rank that had none
abbrev pub no_acts : ActWindow
no_acts = record { oldest = 0; second = 0; third = 0; last = 0 }

-- a rank that has had no command
abbrev pub unused_rank : RankState
unused_rank = record { prea = 0; refresh = 0; window = no_acts }

-- the last four ACTs of a rank after one more, which no longer counts for the four-activate window from `end` on
abbrev pub pushed : ActWindow → ℕ → ActWindow
pushed window end = record { oldest = window.second; second = window.third; third = window.last; last = end }

-- the last four ACTs of a rank
unfoldable pub window_from : Timing → ℕ → List IssuedCommand → ActWindow
window_from t rank history = fold pushed no_acts (window_ends t rank history)

-- from which cycle on no command of a history holds back one of the bank with this number
abbrev pub word_from : Timing → List IssuedCommand → Kind → ℕ → ℕ
word_from t history later k = ready_from t history later (k / 16) (Some (bank_at k))

-- From which cycle on no command of a history holds back an ACT of the bank, and the ACT is not the fifth one within
-- the four-activate window: that ends with the oldest of the last four.
abbrev pub act_word_from : Timing → List IssuedCommand → ℕ → ℕ
act_word_from t history k = max (word_from t history Act k) (window_from t (k / 16) history).oldest

-- what a rank keeps of the commands of a history
abbrev pub rank_state_from : Timing → List IssuedCommand → ℕ → RankState
rank_state_from t history rank =
    record {
      prea = ready_from t history Prea rank None;
      refresh = ready_from t history Ref rank None;
      window = window_from t rank history;
    }

-- from which cycle on one command no longer holds back another of the bank with this number
abbrev pub word_until : Timing → ℕ → Command → Kind → ℕ → ℕ
word_until t cycle command later k =
    held_until t cycle (kind_of command) later (relation_to command (k / 16) (Some (bank_at k)))

-- a rank whose PREA and REF words are raised by a command of this kind in the rank
abbrev pub rank_raised : Timing → ℕ → Kind → RankState → RankState
rank_raised t cycle earlier state =
    record state {
      prea = max state.prea (held_until t cycle earlier Prea SameBank);
      refresh = max state.refresh (held_until t cycle earlier Ref SameBank);
    }

-- a rank with one more ACT
abbrev pub act_pushed : RankState → ℕ → RankState
act_pushed state end = record state { window = pushed state.window end }

-- a rank with one more ACT, whose words the ACT raises, and which no longer counts for the four-activate window from
-- `end` on
abbrev pub rank_after_act : Timing → ℕ → ℕ → RankState → RankState
rank_after_act t cycle end state = act_pushed (rank_raised t cycle Act state) end

-- an ACT in this rank
abbrev pub acts_in : Command → ℕ → Bool
acts_in command rank = is_kind (kind_of command) Act && (rank_of command == rank)

-- what a rank keeps after one more command
abbrev pub rank_state_after : Timing → ℕ → Command → ℕ → RankState → RankState
rank_state_after t cycle command rank state =
    record {
      prea = max state.prea (held_until t cycle (kind_of command) Prea (relation_to command rank None));
      refresh = max state.refresh (held_until t cycle (kind_of command) Ref (relation_to command rank None));
      window = if acts_in command rank then pushed state.window (cycle + t.n_faw) else state.window;
    }
