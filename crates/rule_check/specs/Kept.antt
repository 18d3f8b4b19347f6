-- What is kept of the rows of a channel, in place of the rows themselves.
--     lies scope rank bank earlier      a rule of this scope binds a command to a later one of this rank and bank
--     latest_where p history      the latest cycle of each kind of command, among those of which p holds
--     bank_past, group_past, rank_past      what the rows of a channel make of a bank, of a group and of a rank
--     bank_after, group_after, rank_after      what one more row makes of them
--     ChangesEach change before after      each element of a list is changed, by its place
--     IsKept channel s history      a `Channel` keeps just this of the rows of a channel
--     kept_breaks s rules channel row number      which rules a row breaks, by what is kept
--     keeps_each s rules channel row      a row keeps every rule of its channel, by what is kept
use Rattle.std.specs.Prelude.{◌≡◌, ℕ, ◌+◌, ◌*◌, ◌/◌, ◌%◌, ◌<◌, ◌==◌, nat_lt, max, min, Bool, false, true, not, ◌&&◌, List, length, slice_get, slice_index_or, fold, Option, Some, None, option_map, option_and_then, unwrap_or, is_some, if◌then◌else◌}
use Rattle.std.specs.List.{list_any}
use Rattle.sim_base.specs.declared.config.Config.{Config}
use Rattle.sim_base.specs.declared.timing.Timing.{Timing}
use Rattle.sim_base.specs.declared.place.BankId.{BankId}
use Rattle.sim_base.specs.declared.rule.Rule.{Rule}
use Rattle.sim_base.specs.declared.rule.Scope.{Scope}
use Rattle.sim_base.specs.declared.rule.Scope.TheVariants.{InBank, InGroup, AcrossGroups, InRank, AcrossRanks}
use Rattle.sim_base.specs.declared.command.Kind.{Kind}
use Rattle.sim_base.specs.declared.command.Kind.TheVariants as kind
use Rattle.sim_base.specs.declared.command.Command.{Command}
use Rattle.sim_base.specs.declared.command.Command.TheVariants.{Act, Rd, Wr, Pre, Prea, Ref}
use Rattle.sim_base.specs.declared.command.IssuedCommand.{IssuedCommand}
use Rattle.sim_base.specs.Config.{refresh_slack}
use Rattle.sim_base.specs.History.{below}
use Rattle.sim_base.specs.Rules.{is_kind, kind_of, rank_of, bank_of, covers, row_after, open_row, is_row}
use Rattle.sim_base.specs.Scheduling.{refreshes}
use Rattle.timing.specs.Relation.{relation_to}
use Rattle.rule_check.specs.Numbers.{number_limit}
use Rattle.rule_check.specs.declared.latest.Latest.{Latest}
use Rattle.rule_check.specs.declared.window.ActWindow.{ActWindow}
use Rattle.rule_check.specs.declared.state.Bank.{Bank}
use Rattle.rule_check.specs.declared.state.Group.{Group}
use Rattle.rule_check.specs.declared.state.Rank.{Rank}
use Rattle.rule_check.specs.declared.state.Channel.{Channel}
use Rattle.sim_base.specs.Places.{bank_at, number_of_bank}

-- a rule of this scope that binds both kinds binds a command to a later one of this rank and this bank, if any
abbrev pub lies : Scope → ℕ → Option BankId → Command → Bool
lies scope rank bank earlier = covers scope (relation_to earlier rank bank)

-- the later of a cycle that may be missing and another
abbrev pub later_cycle : Option ℕ → ℕ → Option ℕ
later_cycle None cycle = Some cycle
later_cycle (Some other) cycle = Some (max other cycle)

-- no command so far
abbrev pub nothing : Latest
nothing = record { act = None; rd = None; wr = None; pre = None; prea = None; refresh = None }

-- the latest command of a kind
abbrev pub latest_of : Latest → Kind → Option ℕ
latest_of l kind.Act = l.act
latest_of l kind.Rd = l.rd
latest_of l kind.Wr = l.wr
latest_of l kind.Pre = l.pre
latest_of l kind.Prea = l.prea
latest_of l kind.Ref = l.refresh

-- one more command
abbrev pub noted : Kind → ℕ → Latest → Latest
noted kind.Act cycle l = record l { act = later_cycle l.act cycle }
noted kind.Rd cycle l = record l { rd = later_cycle l.rd cycle }
noted kind.Wr cycle l = record l { wr = later_cycle l.wr cycle }
noted kind.Pre cycle l = record l { pre = later_cycle l.pre cycle }
noted kind.Prea cycle l = record l { prea = later_cycle l.prea cycle }
noted kind.Ref cycle l = record l { refresh = later_cycle l.refresh cycle }

-- one more command, where it is one of those that are noted
abbrev pub noted_where : Bool → Kind → ℕ → Latest → Latest
noted_where counts which cycle l = if counts then noted which cycle l else l

-- the latest cycle of each kind of command, among those of which p holds
unfoldable pub latest_where : (Command → Bool) → List IssuedCommand → Latest
latest_where p history = fold (λ l i. noted_where (p i.command) (kind_of i.command) i.cycle l) nothing history

-- no ACT so far
abbrev pub no_window : ActWindow
no_window = record { first = 0; second = 0; third = 0; fourth = 0 }

-- one more ACT, given the cycle from which on it no longer counts
abbrev pub window_after : ℕ → ActWindow → ActWindow
window_after end w =
    record {
      first = max w.first end;
      second = max w.second (min w.first end);
      third = max w.third (min w.second end);
      fourth = max w.fourth (min w.third end);
    }

-- an ACT of this rank
abbrev pub activates : ℕ → Command → Bool
activates rank command = is_kind (kind_of command) kind.Act && (rank_of command == rank)

-- one more command, where only an ACT of the rank counts
abbrev pub window_where : Bool → ℕ → ActWindow → ActWindow
window_where counts end w = if counts then window_after end w else w

-- the four latest of the cycles from which on an ACT of a rank no longer counts
unfoldable pub window_from : Timing → ℕ → List IssuedCommand → ActWindow
window_from t rank history =
    fold (λ w i. window_where (activates rank i.command) (i.cycle + t.n_faw) w) no_window history

-- the cycle after which the next refresh of a rank is overdue, after one more refresh; it stays once no cycle of a
-- table is later
abbrev pub deadline_after : ℕ → ℕ → ℕ
deadline_after interval deadline = if nat_lt deadline number_limit then deadline + interval else deadline

-- one more command, where only a refresh of the rank counts
abbrev pub deadline_where : Bool → ℕ → ℕ → ℕ
deadline_where counts interval deadline = if counts then deadline_after interval deadline else deadline

-- the cycle after which the first refresh is overdue
abbrev pub first_deadline : Config → ℕ
first_deadline s = s.timing.n_refi + refresh_slack s

-- the cycle after which the next refresh of a rank is overdue
unfoldable pub deadline_from : Config → ℕ → List IssuedCommand → ℕ
deadline_from s rank history =
    fold (λ d i. deadline_where (refreshes rank i.command) s.timing.n_refi d) (first_deadline s) history

-- a bank of a group, which stands for all of them
abbrev pub any_bank : ℕ → ℕ → Option BankId
any_bank rank group = Some (record { rank = rank; group = group; bank = 0 })

-- what the rows of a channel make of a bank
abbrev pub bank_past : List IssuedCommand → BankId → Bank
bank_past history b = record { latest = latest_where (lies InBank b.rank (Some b)) history; row = open_row b history }

-- what one more row makes of it
abbrev pub bank_after : BankId → ℕ → Command → Bank → Bank
bank_after b cycle command state =
    record {
      latest = noted_where (lies InBank b.rank (Some b) command) (kind_of command) cycle state.latest;
      row = row_after b state.row command;
    }

-- what the rows of a channel make of a group
abbrev pub group_past : List IssuedCommand → ℕ → ℕ → Group
group_past history rank group =
    record {
      within = latest_where (lies InGroup rank (any_bank rank group)) history;
      across = latest_where (lies AcrossGroups rank (any_bank rank group)) history;
    }

-- what one more row makes of it
abbrev pub group_after : ℕ → ℕ → ℕ → Command → Group → Group
group_after rank group cycle command state =
    record {
      within = noted_where (lies InGroup rank (any_bank rank group) command) (kind_of command) cycle state.within;
      across = noted_where (lies AcrossGroups rank (any_bank rank group) command) (kind_of command) cycle state.across;
    }

-- what the rows of a channel make of a rank
abbrev pub rank_past : Config → List IssuedCommand → ℕ → Rank
rank_past s history rank =
    record {
      within = latest_where (lies InRank rank None) history;
      across = latest_where (lies AcrossRanks rank None) history;
      window = window_from s.timing rank history;
      deadline = deadline_from s rank history;
    }

-- what one more row makes of it
abbrev pub rank_after : Timing → ℕ → ℕ → Command → Rank → Rank
rank_after t rank cycle command state =
    record {
      within = noted_where (lies InRank rank None command) (kind_of command) cycle state.within;
      across = noted_where (lies AcrossRanks rank None command) (kind_of command) cycle state.across;
      window = window_where (activates rank command) (cycle + t.n_faw) state.window;
      deadline = deadline_where (refreshes rank command) t.n_refi state.deadline;
    }

-- a bank is one of these: its group has four banks, and its rank four groups at most
abbrev pub HasPlace : List Bank → BankId → Type 0
HasPlace banks bank = (bank.group < 4) × (bank.bank < 4) × (number_of_bank bank < length banks)

-- the number of a group
abbrev pub group_number : BankId → ℕ
group_number bank = bank.rank * 4 + bank.group

-- each element of a list is changed, by its place
abbrev pub ChangesEach : {X : Type 0} → (ℕ → X → X) → List X → List X → Type 0
ChangesEach {X} change before after =
    (k : ℕ) (d : X) → k < length before → slice_index_or after k d ≡ change k (slice_index_or before k d)

-- a `Channel` keeps just this of the rows of a channel
pub record IsKept (c : Channel) (s : Config) (history : List IssuedCommand) : Type 0 where
  pub bank_count : length c.banks.items ≡ 16 * s.ranks
  pub group_count : length c.groups.items ≡ 4 * s.ranks
  pub rank_count : length c.ranks.items ≡ s.ranks
  pub banks : (k : ℕ) (d : Bank) → k < 16 * s.ranks → slice_index_or c.banks.items k d ≡ bank_past history (bank_at k)
  pub groups : (k : ℕ) (d : Group) → k < 4 * s.ranks
      → slice_index_or c.groups.items k d ≡ group_past history (k / 4) (k % 4)
  pub ranks : (k : ℕ) (d : Rank) → k < s.ranks → slice_index_or c.ranks.items k d ≡ rank_past s history k

-- the latest command of a kind that is in a given relation to a later one, by what is kept
abbrev pub kept_in_bank : List Bank → BankId → Kind → Option ℕ
kept_in_bank banks bank which =
    option_and_then (λ (state : Bank). latest_of state.latest which) (slice_get banks (number_of_bank bank))

abbrev pub kept_in_group : List Group → BankId → Kind → Option ℕ
kept_in_group groups bank which =
    option_and_then (λ (state : Group). latest_of state.within which) (slice_get groups (group_number bank))

abbrev pub kept_across_groups : List Group → BankId → Kind → Option ℕ
kept_across_groups groups bank which =
    option_and_then (λ (state : Group). latest_of state.across which) (slice_get groups (group_number bank))

abbrev pub kept_in_rank : List Rank → ℕ → Kind → Option ℕ
kept_in_rank ranks rank which = option_and_then (λ (state : Rank). latest_of state.within which) (slice_get ranks rank)

abbrev pub kept_across_ranks : List Rank → ℕ → Kind → Option ℕ
kept_across_ranks ranks rank which =
    option_and_then (λ (state : Rank). latest_of state.across which) (slice_get ranks rank)

unfoldable pub kept : Channel → Scope → Kind → ℕ → Option BankId → Option ℕ
kept c InRank which rank bank = kept_in_rank c.ranks.items rank which
kept c AcrossRanks which rank bank = kept_across_ranks c.ranks.items rank which
kept c InBank which rank (Some bank) = kept_in_bank c.banks.items bank which
kept c InBank which rank None = kept_in_rank c.ranks.items rank which
kept c InGroup which rank (Some bank) = kept_in_group c.groups.items bank which
kept c InGroup which rank None = kept_in_rank c.ranks.items rank which
kept c AcrossGroups which rank (Some bank) = kept_across_groups c.groups.items bank which
kept c AcrossGroups which rank None = None

-- the latest of some commands is less than a distance before a cycle
abbrev pub is_ahead : ℕ → ℕ → Option ℕ → Bool
is_ahead now distance None = false
is_ahead now distance (Some cycle) = nat_lt now (cycle + distance)

-- a row comes too soon by a rule
unfoldable pub is_too_soon : Channel → Rule → IssuedCommand → Bool
is_too_soon c r row =
    is_kind r.later (kind_of row.command)
    && is_ahead row.cycle r.cycles (kept c r.scope r.earlier (rank_of row.command) (bank_of row.command))

-- by a rule of this number
unfoldable pub kept_breaks_distance : List Rule → Channel → IssuedCommand → ℕ → Bool
kept_breaks_distance table c row number = list_any (λ r. (r.number == number) && is_too_soon c r row) table

-- the cycle from which on one more ACT of a rank does not make five in a window
abbrev pub kept_window : List Rank → ℕ → ℕ
kept_window ranks rank = unwrap_or (option_map (λ (state : Rank). state.window.fourth) (slice_get ranks rank)) 0

abbrev pub kept_breaks_window : Channel → IssuedCommand → Bool
kept_breaks_window c row =
    is_kind (kind_of row.command) kind.Act && nat_lt row.cycle (kept_window c.ranks.items (rank_of row.command))

-- the next refresh of a rank is overdue
abbrev pub kept_overdue : List Rank → ℕ → ℕ → Bool
kept_overdue ranks now rank =
    unwrap_or (option_map (λ (state : Rank). nat_lt state.deadline now) (slice_get ranks rank)) false

abbrev pub kept_breaks_refresh : Config → Channel → IssuedCommand → Bool
kept_breaks_refresh s c row =
    nat_lt 0 s.timing.n_refi && list_any (kept_overdue c.ranks.items row.cycle) (below s.ranks)

-- the row that is open in a bank
abbrev pub kept_row : List Bank → BankId → Option ℕ
kept_row banks bank = option_and_then (λ (state : Bank). state.row) (slice_get banks (number_of_bank bank))

abbrev pub has_kept_open_in_group : List Bank → ℕ → ℕ → Bool
has_kept_open_in_group banks rank group =
    list_any (λ bank. is_some (kept_row banks (record { rank = rank; group = group; bank = bank }))) (below 4)

-- whether a bank is open in a rank
unfoldable pub has_kept_open : Config → List Bank → ℕ → Bool
has_kept_open s banks rank = list_any (has_kept_open_in_group banks rank) (below s.groups)

-- the banks are open or closed as the command needs them
abbrev pub kept_finds_banks : Config → List Bank → Command → Bool
kept_finds_banks s banks (Act bank row source) = not (is_some (kept_row banks bank))
kept_finds_banks s banks (Rd bank row column source) = is_row row (kept_row banks bank)
kept_finds_banks s banks (Wr bank row column source) = is_row row (kept_row banks bank)
kept_finds_banks s banks (Ref rank) = not (has_kept_open s banks rank)
kept_finds_banks s banks (Pre bank source) = true
kept_finds_banks s banks (Prea rank) = true

-- A row breaks a rule of its channel, by what is kept: the state of banks (2), the four activate window (16), the
-- refresh interval (18), or a distance between two commands.
unfoldable pub kept_breaks : Config → List Rule → Channel → IssuedCommand → ℕ → Bool
kept_breaks s table c row number =
    if number == 2 then not (kept_finds_banks s c.banks.items row.command)
    else (if number == 16 then kept_breaks_window c row
    else (if number == 18 then kept_breaks_refresh s c row
    else kept_breaks_distance table c row number))

-- a row comes too soon by some rule
abbrev pub comes_too_soon : List Rule → Channel → IssuedCommand → Bool
comes_too_soon table c row = list_any (λ r. is_too_soon c r row) table

-- a row keeps every rule of its channel: the rules are not tested by number, but all at once
abbrev pub keeps_each : Config → List Rule → Channel → IssuedCommand → Bool
keeps_each s table c row =
    kept_finds_banks s c.banks.items row.command && not (kept_breaks_window c row) && not (kept_breaks_refresh s c row)
    && not (comes_too_soon table c row)
