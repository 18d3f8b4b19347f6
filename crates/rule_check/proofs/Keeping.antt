-- What is kept of the rows of a channel, as one row more is noted, and what it says of the next.
use Rattle.std.proofs.Common.{◌≡◌, ℕ, ◌+◌, ◌*◌, ◌/◌, ◌%◌, ◌<◌, ◌≤◌, ◌++◌, ◌∙◌, ◌&&◌, ◌||◌, ◌==◌, Bool, true, false, not, cond, List, [], ◌∷◌, length, get_or, Option, Some, None, refl, sym, ap, arith, suc, zero}
use Rattle.std.specs.Prelude.{fold, nat_lt, slice_get, option_and_then, option_map, unwrap_or, is_some}
use Rattle.std.specs.List.{list_any, range_with_len}
use Rattle.std.proofs.lemmas.Option.{slice_get-get_or}
use Rattle.std.proofs.lemmas.List.Sums.{fold-append}
use Rattle.sim_base.specs.declared.config.Config.{Config}
use Rattle.sim_base.specs.declared.timing.Timing.{Timing}
use Rattle.sim_base.specs.declared.place.BankId.{BankId}
use Rattle.sim_base.specs.declared.rule.Rule.{Rule}
use Rattle.sim_base.specs.declared.rule.Scope.{Scope}
use Rattle.sim_base.specs.declared.rule.Scope.TheVariants.{InBank, InGroup, AcrossGroups, InRank, AcrossRanks}
use Rattle.sim_base.specs.declared.command.Kind.{Kind}
use Rattle.sim_base.specs.declared.command.Relation.TheVariants.{SameBank, SameGroup, OtherGroup, OtherRank}
use Rattle.sim_base.specs.declared.command.Kind.TheVariants as kind
use Rattle.sim_base.specs.declared.command.Command.{Command}
use Rattle.sim_base.specs.declared.command.Command.TheVariants.{Act, Rd, Wr, Pre, Prea, Ref}
use Rattle.sim_base.specs.declared.command.IssuedCommand.{IssuedCommand}
use Rattle.sim_base.specs.Rules.{rules, is_kind, kind_of, rank_of, bank_of, relation_of, relation_in_rank, covers, open_row, has_open_bank, has_open_bank_in_group, is_row, finds_its_banks}
use Rattle.rule_check.specs.Fields.{limits_of, BankFits, CommandFits, RowFits}
use Rattle.rule_check.specs.Broken.{is_too_close, breaks_distance, breaks_window, breaks_refresh, is_overdue, breaks_in_channel}
use Rattle.rule_check.specs.Kept.{lies, any_bank, nothing, latest_of, noted_where, latest_where, window_where, window_from, activates, deadline_where, deadline_from}
use Rattle.rule_check.specs.Kept.{bank_past, bank_after, group_past, group_after, rank_past, rank_after, group_number, IsKept}
use Rattle.sim_base.specs.Places.{number_of_bank, bank_at}
use Rattle.rule_check.specs.Kept.{kept, kept_in_bank, kept_in_group, kept_across_groups, kept_in_rank, kept_across_ranks, is_ahead, is_too_soon, kept_breaks_distance, kept_breaks_window, kept_overdue, kept_breaks_refresh, kept_row, has_kept_open_in_group, has_kept_open, kept_finds_banks, kept_breaks}
use Rattle.sim_base.specs.Scheduling.{refreshes}
use Rattle.sim_base.proofs.OpenRows.{open_row-push}
use Rattle.rule_check.specs.declared.latest.Latest.{Latest}
use Rattle.rule_check.specs.declared.state.Bank.{Bank}
use Rattle.rule_check.specs.declared.state.Group.{Group}
use Rattle.rule_check.specs.declared.state.Rank.{Rank}
use Rattle.rule_check.specs.declared.state.Channel.{Channel}
use Rattle.rule_check.proofs.Near.{latest_of-nothing, too_close-any}
use Rattle.rule_check.proofs.Windows.{window-recent}
use Rattle.rule_check.proofs.Deadlines.{deadline-overdue}
use Rattle.sim_base.proofs.Banks.{bank_at_number}

-- ONE ROW MORE

latest_where-more : (p : Command → Bool) (history : List IssuedCommand) (i : IssuedCommand)
    → latest_where p (history ++ i ∷ []) ≡ noted_where (p i.command) (kind_of i.command) i.cycle (latest_where p history)
unfolding latest_where
latest_where-more p history i = fold-append (λ l (j : IssuedCommand). noted_where (p j.command) (kind_of j.command) j.cycle l) nothing history (i ∷ [])

window_from-more : (t : Timing) (rank : ℕ) (history : List IssuedCommand) (i : IssuedCommand)
    → window_from t rank (history ++ i ∷ []) ≡ window_where (activates rank i.command) (i.cycle + t.n_faw) (window_from t rank history)
unfolding window_from
window_from-more t rank history i = fold-append (λ w (j : IssuedCommand). window_where (activates rank j.command) (j.cycle + t.n_faw) w) _ history (i ∷ [])

deadline_from-more : (s : Config) (rank : ℕ) (history : List IssuedCommand) (i : IssuedCommand)
    → deadline_from s rank (history ++ i ∷ []) ≡ deadline_where (refreshes rank i.command) s.timing.n_refi (deadline_from s rank history)
unfolding deadline_from
deadline_from-more s rank history i = fold-append (λ d (j : IssuedCommand). deadline_where (refreshes rank j.command) s.timing.n_refi d) _ history (i ∷ [])

bank-more : (history : List IssuedCommand) (i : IssuedCommand) (b : BankId) → bank_after b i.cycle i.command (bank_past history b) ≡ bank_past (history ++ i ∷ []) b
bank-more history i b = λ x. record { latest = sym (latest_where-more (lies InBank b.rank (Some b)) history i) x; row = sym (open_row-push b history i) x }

group-more : (history : List IssuedCommand) (i : IssuedCommand) (rank group : ℕ)
    → group_after rank group i.cycle i.command (group_past history rank group) ≡ group_past (history ++ i ∷ []) rank group
group-more history i rank group =
    λ x. record {
      within = sym (latest_where-more (lies InGroup rank (any_bank rank group)) history i) x;
      across = sym (latest_where-more (lies AcrossGroups rank (any_bank rank group)) history i) x;
    }

rank-more : (s : Config) (history : List IssuedCommand) (i : IssuedCommand) (rank : ℕ)
    → rank_after s.timing rank i.cycle i.command (rank_past s history rank) ≡ rank_past s (history ++ i ∷ []) rank
rank-more s history i rank =
    λ x. record {
      within = sym (latest_where-more (lies InRank rank None) history i) x;
      across = sym (latest_where-more (lies AcrossRanks rank None) history i) x;
      window = sym (window_from-more s.timing rank history i) x;
      deadline = sym (deadline_from-more s rank history i) x;
    }

-- what noting a row in each bank, group and rank makes of a channel
pub record IsNoted (c after : Channel) (s : Config) (i : IssuedCommand) : Type 0 where
  pub all_banks : length after.banks.items ≡ length c.banks.items
  pub all_groups : length after.groups.items ≡ length c.groups.items
  pub all_ranks : length after.ranks.items ≡ length c.ranks.items
  pub each_bank : (k : ℕ) (d : Bank) → k < length c.banks.items → get_or after.banks.items k d ≡ bank_after (bank_at k) i.cycle i.command (get_or c.banks.items k d)
  pub each_group : (k : ℕ) (d : Group) → k < length c.groups.items → get_or after.groups.items k d ≡ group_after (k / 4) (k % 4) i.cycle i.command (get_or c.groups.items k d)
  pub each_rank : (k : ℕ) (d : Rank) → k < length c.ranks.items → get_or after.ranks.items k d ≡ rank_after s.timing k i.cycle i.command (get_or c.ranks.items k d)

pub kept-more : (c after : Channel) (s : Config) (history : List IssuedCommand) (i : IssuedCommand) → IsNoted c after s i → IsKept c s history → IsKept after s (history ++ i ∷ [])
kept-more c after s history i n h =
    record {
      bank_count = n.all_banks ∙ h.bank_count;
      group_count = n.all_groups ∙ h.group_count;
      rank_count = n.all_ranks ∙ h.rank_count;
      banks = λ k d l.
          n.each_bank k d (omega (arith, h.bank_count)) ∙ ap (bank_after (bank_at k) i.cycle i.command) (h.banks k d l)
          ∙ bank-more history i (bank_at k);
      groups = λ k d l.
          n.each_group k d (omega (arith, h.group_count)) ∙ ap (group_after (k / 4) (k % 4) i.cycle i.command) (h.groups k d l)
          ∙ group-more history i (k / 4) (k % 4);
      ranks = λ k d l.
          n.each_rank k d (omega (arith, h.rank_count)) ∙ ap (rank_after s.timing k i.cycle i.command) (h.ranks k d l)
          ∙ rank-more s history i k;
    }

-- WHAT IS READ

bank-read : (c : Channel) (s : Config) (history : List IssuedCommand) (b : BankId) → IsKept c s history → BankFits (limits_of s) b
    → slice_get c.banks.items (number_of_bank b) ≡ Some (bank_past history b)
bank-read c s history b k f =
    let few = s.memory_in_range.groups_in.0.1 in
    let rank = f.rank_in_range in
    let group = f.group_in_range in
    let last = f.bank_in_range in
    let inside : number_of_bank b < 16 * s.ranks = omega arith in
    let d = bank_past history b in
    slice_get-get_or c.banks.items (number_of_bank b) d (omega (arith, k.bank_count))
    ∙ ap Some (k.banks (number_of_bank b) d inside ∙ ap (bank_past history) (bank_at_number b (omega arith) last))

group-read : (c : Channel) (s : Config) (history : List IssuedCommand) (b : BankId) → IsKept c s history → BankFits (limits_of s) b
    → slice_get c.groups.items (group_number b) ≡ Some (group_past history b.rank b.group)
group-read c s history b k f =
    let few = s.memory_in_range.groups_in.0.1 in
    let rank = f.rank_in_range in
    let group = f.group_in_range in
    let inside : group_number b < 4 * s.ranks = omega arith in
    let d = group_past history b.rank b.group in
    let high : group_number b / 4 ≡ b.rank = omega arith in
    let low : group_number b % 4 ≡ b.group = omega arith in
    slice_get-get_or c.groups.items (group_number b) d (omega (arith, k.group_count))
    ∙ ap Some (k.groups (group_number b) d inside ∙ (λ x. group_past history (high x) (low x)))

rank-read : (c : Channel) (s : Config) (history : List IssuedCommand) (rank : ℕ) → IsKept c s history → rank < s.ranks
    → slice_get c.ranks.items rank ≡ Some (rank_past s history rank)
rank-read c s history rank k l =
    let d = rank_past s history rank in
    slice_get-get_or c.ranks.items rank d (omega (arith, k.rank_count)) ∙ ap Some (k.ranks rank d l)

-- WHICH COMMANDS A RULE BINDS

in_rank-covered : (a b : Option BankId) → covers InRank (relation_in_rank a b) ≡ true
in_rank-covered (Some a) (Some b) =
    elim (a.group == b.group) as (λ x. covers InRank (cond x (cond (a.bank == b.bank) SameBank SameGroup) OtherGroup) ≡ true) [
      | true ↦ elim (a.bank == b.bank) as (λ x. covers InRank (cond x SameBank SameGroup) ≡ true) [ true ↦ refl | false ↦ refl ]
      | false ↦ refl
    ]
in_rank-covered (Some a) None = refl
in_rank-covered None b = refl

across_ranks-covered : (a b : Option BankId) → covers AcrossRanks (relation_in_rank a b) ≡ false
across_ranks-covered (Some a) (Some b) =
    elim (a.group == b.group) as (λ x. covers AcrossRanks (cond x (cond (a.bank == b.bank) SameBank SameGroup) OtherGroup) ≡ false) [
      | true ↦ elim (a.bank == b.bank) as (λ x. covers AcrossRanks (cond x SameBank SameGroup) ≡ false) [ true ↦ refl | false ↦ refl ]
      | false ↦ refl
    ]
across_ranks-covered (Some a) None = refl
across_ranks-covered None b = refl

-- in a rank it does not matter which bank is named
lies-in_rank : (rank : ℕ) (a b : Option BankId) (e : Command) → lies InRank rank a e ≡ lies InRank rank b e
lies-in_rank rank a b e =
    elim (rank_of e == rank) as (λ x. covers InRank (cond x (relation_in_rank (bank_of e) a) OtherRank) ≡ covers InRank (cond x (relation_in_rank (bank_of e) b) OtherRank)) [
      | true ↦ in_rank-covered (bank_of e) a ∙ sym (in_rank-covered (bank_of e) b)
      | false ↦ refl
    ]

lies-across_ranks : (rank : ℕ) (a b : Option BankId) (e : Command) → lies AcrossRanks rank a e ≡ lies AcrossRanks rank b e
lies-across_ranks rank a b e =
    elim (rank_of e == rank) as (λ x. covers AcrossRanks (cond x (relation_in_rank (bank_of e) a) OtherRank) ≡ covers AcrossRanks (cond x (relation_in_rank (bank_of e) b) OtherRank)) [
      | true ↦ across_ranks-covered (bank_of e) a ∙ sym (across_ranks-covered (bank_of e) b)
      | false ↦ refl
    ]

-- a later command that names no bank is bound to all of its rank
lies-none : (scope : Scope) (rank : ℕ) (e : Command) → ((b : Option BankId) → covers scope (relation_in_rank b None) ≡ true) → covers scope OtherRank ≡ false
    → lies scope rank None e ≡ lies InRank rank None e
lies-none scope rank e all none =
    elim (rank_of e == rank) as (λ x. covers scope (cond x (relation_in_rank (bank_of e) None) OtherRank) ≡ covers InRank (cond x (relation_in_rank (bank_of e) None) OtherRank)) [
      | true ↦ all (bank_of e) ∙ sym (in_rank-covered (bank_of e) None)
      | false ↦ none
    ]

in_bank-none : (b : Option BankId) → covers InBank (relation_in_rank b None) ≡ true
in_bank-none (Some a) = refl
in_bank-none None = refl

in_group-none : (b : Option BankId) → covers InGroup (relation_in_rank b None) ≡ true
in_group-none (Some a) = refl
in_group-none None = refl

across_groups-none : (b : Option BankId) → covers AcrossGroups (relation_in_rank b None) ≡ false
across_groups-none (Some a) = refl
across_groups-none None = refl

lies-across_none : (rank : ℕ) (e : Command) → lies AcrossGroups rank None e ≡ false
lies-across_none rank e =
    elim (rank_of e == rank) as (λ x. covers AcrossGroups (cond x (relation_in_rank (bank_of e) None) OtherRank) ≡ false) [
      | true ↦ across_groups-none (bank_of e)
      | false ↦ refl
    ]

-- in a group it does not matter which of its banks is named
in_group-same : (a : Option BankId) (rank : ℕ) (b : BankId) → covers InGroup (relation_in_rank a (any_bank rank b.group)) ≡ covers InGroup (relation_in_rank a (Some b))
in_group-same None rank b = refl
in_group-same (Some a) rank b =
    elim (a.group == b.group) as (λ x. covers InGroup (cond x (cond (a.bank == 0) SameBank SameGroup) OtherGroup) ≡ covers InGroup (cond x (cond (a.bank == b.bank) SameBank SameGroup) OtherGroup)) [
      | true ↦ always (a.bank == 0) ∙ sym (always (a.bank == b.bank))
      | false ↦ refl
    ]
  where
    always : (x : Bool) → covers InGroup (cond x SameBank SameGroup) ≡ true
    always true = refl
    always false = refl

across_groups-same : (a : Option BankId) (rank : ℕ) (b : BankId) → covers AcrossGroups (relation_in_rank a (any_bank rank b.group)) ≡ covers AcrossGroups (relation_in_rank a (Some b))
across_groups-same None rank b = refl
across_groups-same (Some a) rank b =
    elim (a.group == b.group) as (λ x. covers AcrossGroups (cond x (cond (a.bank == 0) SameBank SameGroup) OtherGroup) ≡ covers AcrossGroups (cond x (cond (a.bank == b.bank) SameBank SameGroup) OtherGroup)) [
      | true ↦ never (a.bank == 0) ∙ sym (never (a.bank == b.bank))
      | false ↦ refl
    ]
  where
    never : (x : Bool) → covers AcrossGroups (cond x SameBank SameGroup) ≡ false
    never true = refl
    never false = refl

lies-in_group : (rank : ℕ) (b : BankId) (e : Command) → lies InGroup rank (any_bank rank b.group) e ≡ lies InGroup rank (Some b) e
lies-in_group rank b e =
    elim (rank_of e == rank) as (λ x. covers InGroup (cond x (relation_in_rank (bank_of e) (any_bank rank b.group)) OtherRank) ≡ covers InGroup (cond x (relation_in_rank (bank_of e) (Some b)) OtherRank)) [
      | true ↦ in_group-same (bank_of e) rank b
      | false ↦ refl
    ]

lies-across_groups : (rank : ℕ) (b : BankId) (e : Command) → lies AcrossGroups rank (any_bank rank b.group) e ≡ lies AcrossGroups rank (Some b) e
lies-across_groups rank b e =
    elim (rank_of e == rank) as (λ x. covers AcrossGroups (cond x (relation_in_rank (bank_of e) (any_bank rank b.group)) OtherRank) ≡ covers AcrossGroups (cond x (relation_in_rank (bank_of e) (Some b)) OtherRank)) [
      | true ↦ across_groups-same (bank_of e) rank b
      | false ↦ refl
    ]

latest_where-same : (p q : Command → Bool) (history : List IssuedCommand) → ((e : Command) → p e ≡ q e) → latest_where p history ≡ latest_where q history
latest_where-same p q history h = λ x. latest_where (λ e. h e x) history

fold-never : (history : List IssuedCommand) (l : Latest) → fold (λ l (i : IssuedCommand). noted_where false (kind_of i.command) i.cycle l) l history ≡ l
fold-never [] l = refl
fold-never (i ∷ history) l = fold-never history l

latest_where-never : (history : List IssuedCommand) → latest_where (λ e. false) history ≡ nothing
unfolding latest_where
latest_where-never history = fold-never history nothing

-- THE LATEST COMMAND OF EACH SCOPE

in_rank-kept : (c : Channel) (s : Config) (history : List IssuedCommand) (which : Kind) (rank : ℕ) → IsKept c s history → rank < s.ranks
    → kept_in_rank c.ranks.items rank which ≡ latest_of (latest_where (lies InRank rank None) history) which
in_rank-kept c s history which rank k l = ap (option_and_then (λ (state : Rank). latest_of state.within which)) (rank-read c s history rank k l)

across_ranks-kept : (c : Channel) (s : Config) (history : List IssuedCommand) (which : Kind) (rank : ℕ) → IsKept c s history → rank < s.ranks
    → kept_across_ranks c.ranks.items rank which ≡ latest_of (latest_where (lies AcrossRanks rank None) history) which
across_ranks-kept c s history which rank k l = ap (option_and_then (λ (state : Rank). latest_of state.across which)) (rank-read c s history rank k l)

in_bank-kept : (c : Channel) (s : Config) (history : List IssuedCommand) (which : Kind) (b : BankId) → IsKept c s history → BankFits (limits_of s) b
    → kept_in_bank c.banks.items b which ≡ latest_of (latest_where (lies InBank b.rank (Some b)) history) which
in_bank-kept c s history which b k f = ap (option_and_then (λ (state : Bank). latest_of state.latest which)) (bank-read c s history b k f)

in_group-kept : (c : Channel) (s : Config) (history : List IssuedCommand) (which : Kind) (b : BankId) → IsKept c s history → BankFits (limits_of s) b
    → kept_in_group c.groups.items b which ≡ latest_of (latest_where (lies InGroup b.rank (Some b)) history) which
in_group-kept c s history which b k f =
    ap (option_and_then (λ (state : Group). latest_of state.within which)) (group-read c s history b k f)
    ∙ ap (λ l. latest_of l which) (latest_where-same _ _ history (lies-in_group b.rank b))

across_groups-kept : (c : Channel) (s : Config) (history : List IssuedCommand) (which : Kind) (b : BankId) → IsKept c s history → BankFits (limits_of s) b
    → kept_across_groups c.groups.items b which ≡ latest_of (latest_where (lies AcrossGroups b.rank (Some b)) history) which
across_groups-kept c s history which b k f =
    ap (option_and_then (λ (state : Group). latest_of state.across which)) (group-read c s history b k f)
    ∙ ap (λ l. latest_of l which) (latest_where-same _ _ history (lies-across_groups b.rank b))

-- of a command that names a bank
kept-bank : (c : Channel) (s : Config) (history : List IssuedCommand) (scope : Scope) (which : Kind) (b : BankId) → IsKept c s history → BankFits (limits_of s) b
    → kept c scope which b.rank (Some b) ≡ latest_of (latest_where (lies scope b.rank (Some b)) history) which
unfolding kept
kept-bank c s history InBank which b k f = in_bank-kept c s history which b k f
kept-bank c s history InGroup which b k f = in_group-kept c s history which b k f
kept-bank c s history AcrossGroups which b k f = across_groups-kept c s history which b k f
kept-bank c s history InRank which b k f =
    in_rank-kept c s history which b.rank k f.rank_in_range ∙ ap (λ l. latest_of l which) (latest_where-same _ _ history (lies-in_rank b.rank None (Some b)))
kept-bank c s history AcrossRanks which b k f =
    across_ranks-kept c s history which b.rank k f.rank_in_range ∙ ap (λ l. latest_of l which) (latest_where-same _ _ history (lies-across_ranks b.rank None (Some b)))

-- of one that names none
kept-none : (c : Channel) (s : Config) (history : List IssuedCommand) (scope : Scope) (which : Kind) (rank : ℕ) → IsKept c s history → rank < s.ranks
    → kept c scope which rank None ≡ latest_of (latest_where (lies scope rank None) history) which
unfolding kept
kept-none c s history InBank which rank k l =
    in_rank-kept c s history which rank k l ∙ ap (λ x. latest_of x which) (sym (latest_where-same _ _ history (λ e. lies-none InBank rank e in_bank-none refl)))
kept-none c s history InGroup which rank k l =
    in_rank-kept c s history which rank k l ∙ ap (λ x. latest_of x which) (sym (latest_where-same _ _ history (λ e. lies-none InGroup rank e in_group-none refl)))
kept-none c s history AcrossGroups which rank k l =
    sym (ap (λ x. latest_of x which) (latest_where-same _ _ history (lies-across_none rank) ∙ latest_where-never history) ∙ latest_of-nothing which)
kept-none c s history InRank which rank k l = in_rank-kept c s history which rank k l
kept-none c s history AcrossRanks which rank k l = across_ranks-kept c s history which rank k l

bank-fits : (s : Config) (b : BankId) (command : Command) → CommandFits (limits_of s) command → rank_of command ≡ b.rank → bank_of command ≡ Some b → BankFits (limits_of s) b
bank-fits s b command f same named =
    let parts = rw named at f.bank_in_range in
    record { rank_in_range = rw same at f.rank_in_range; group_in_range = parts.0; bank_in_range = parts.1 }

kept-is : (c : Channel) (s : Config) (history : List IssuedCommand) (scope : Scope) (which : Kind) (command : Command) → IsKept c s history → CommandFits (limits_of s) command
    → kept c scope which (rank_of command) (bank_of command) ≡ latest_of (latest_where (λ e. covers scope (relation_of e command)) history) which
kept-is c s history scope which (Act bank row source) k f = kept-bank c s history scope which bank k (bank-fits s bank (Act bank row source) f refl refl)
kept-is c s history scope which (Rd bank row column source) k f = kept-bank c s history scope which bank k (bank-fits s bank (Rd bank row column source) f refl refl)
kept-is c s history scope which (Wr bank row column source) k f = kept-bank c s history scope which bank k (bank-fits s bank (Wr bank row column source) f refl refl)
kept-is c s history scope which (Pre bank source) k f = kept-bank c s history scope which bank k (bank-fits s bank (Pre bank source) f refl refl)
kept-is c s history scope which (Prea rank) k f = kept-none c s history scope which rank k f.rank_in_range
kept-is c s history scope which (Ref rank) k f = kept-none c s history scope which rank k f.rank_in_range

-- THE RULES

too_soon-is : (c : Channel) (s : Config) (history : List IssuedCommand) (row : IssuedCommand) (r : Rule) → IsKept c s history → RowFits (limits_of s) row
    → is_too_soon c r row ≡ list_any (λ e. is_too_close r e row) history
unfolding is_too_soon
too_soon-is c s history row r k f =
    ap (λ o. is_kind r.later (kind_of row.command) && is_ahead row.cycle r.cycles o) (kept-is c s history r.scope r.earlier row.command k f.command_in_range)
    ∙ too_close-any r row history

distance-is : (c : Channel) (s : Config) (history : List IssuedCommand) (row : IssuedCommand) (number : ℕ) → IsKept c s history → RowFits (limits_of s) row
    → kept_breaks_distance (rules s.timing) c row number ≡ breaks_distance s.timing number history row
unfolding kept_breaks_distance breaks_distance
distance-is c s history row number k f =
    λ x. list_any (λ (r : Rule). (r.number == number) && too_soon-is c s history row r k f x) (rules s.timing)

window-is : (c : Channel) (s : Config) (history : List IssuedCommand) (row : IssuedCommand) → IsKept c s history → RowFits (limits_of s) row
    → kept_breaks_window c row ≡ breaks_window s.timing history row
window-is c s history row k f =
    ap (λ o. is_kind (kind_of row.command) kind.Act && nat_lt row.cycle (unwrap_or (option_map (λ (state : Rank). state.window.fourth) o) 0))
    (rank-read c s history (rank_of row.command) k f.command_in_range.rank_in_range)
    ∙ ap (λ b. is_kind (kind_of row.command) kind.Act && b) (window-recent s.timing (rank_of row.command) row.cycle history)

-- tests of the numbers in a range
any-range : (p q : ℕ → Bool) (a n : ℕ) → ((k : ℕ) → a ≤ k → k < a + n → p k ≡ q k) → list_any p (range_with_len a n) ≡ list_any q (range_with_len a n)
any-range p q a zero h = refl
any-range p q a (suc n) h =
    ap (λ b. b || list_any p (range_with_len (a + 1) n)) (h a (omega arith) (omega arith))
    ∙ ap (λ b. q a || b) (any-range p q (a + 1) n (λ k l m. h k (omega arith) (omega arith)))

refresh-is : (c : Channel) (s : Config) (history : List IssuedCommand) (row : IssuedCommand) → IsKept c s history → RowFits (limits_of s) row
    → kept_breaks_refresh s c row ≡ breaks_refresh s history row
refresh-is c s history row k f =
    ap (λ b. nat_lt 0 s.timing.n_refi && b)
    (any-range (kept_overdue c.ranks.items row.cycle) (is_overdue s history row.cycle) 0 s.ranks
    (λ rank l m.
    ap (λ o. unwrap_or (option_map (λ (state : Rank). nat_lt state.deadline row.cycle) o) false) (rank-read c s history rank k (omega arith))
    ∙ deadline-overdue s rank row.cycle history f.cycle_in_range))

row-is : (c : Channel) (s : Config) (history : List IssuedCommand) (b : BankId) → IsKept c s history → BankFits (limits_of s) b → kept_row c.banks.items b ≡ open_row b history
row-is c s history b k f = ap (option_and_then (λ (state : Bank). state.row)) (bank-read c s history b k f)

open-is : (c : Channel) (s : Config) (history : List IssuedCommand) (rank : ℕ) → IsKept c s history → rank < s.ranks → has_kept_open s c.banks.items rank ≡ has_open_bank s history rank
unfolding has_kept_open has_open_bank
open-is c s history rank k f =
    any-range (has_kept_open_in_group c.banks.items rank) (has_open_bank_in_group history rank) 0 s.groups
    (λ group l m.
    any-range _ _ 0 4
    (λ bank i j. ap is_some (row-is c s history (record { rank = rank; group = group; bank = bank }) k (record { rank_in_range = f; group_in_range = omega arith; bank_in_range = omega arith }))))

banks-is : (c : Channel) (s : Config) (history : List IssuedCommand) (command : Command) → IsKept c s history → CommandFits (limits_of s) command
    → kept_finds_banks s c.banks.items command ≡ finds_its_banks s history command
banks-is c s history (Act bank row source) k f = ap (λ o. not (is_some o)) (row-is c s history bank k (bank-fits s bank (Act bank row source) f refl refl))
banks-is c s history (Rd bank row column source) k f = ap (is_row row) (row-is c s history bank k (bank-fits s bank (Rd bank row column source) f refl refl))
banks-is c s history (Wr bank row column source) k f = ap (is_row row) (row-is c s history bank k (bank-fits s bank (Wr bank row column source) f refl refl))
banks-is c s history (Pre bank source) k f = refl
banks-is c s history (Prea rank) k f = refl
banks-is c s history (Ref rank) k f = ap not (open-is c s history rank k f.rank_in_range)

-- a row breaks just the rules that it breaks by what is kept
pub breaks-is : (c : Channel) (s : Config) (history : List IssuedCommand) (row : IssuedCommand) (number : ℕ) → IsKept c s history → RowFits (limits_of s) row
    → kept_breaks s (rules s.timing) c row number ≡ breaks_in_channel s history row number
unfolding kept_breaks
breaks-is c s history row number k f =
    λ x.
    cond (number == 2) (not (banks-is c s history row.command k f.command_in_range x))
    (cond (number == 16) (window-is c s history row k f x)
    (cond (number == 18) (refresh-is c s history row k f x) (distance-is c s history row number k f x)))
