-- The first cycle with a command.
use Rattle.std.proofs.Common.{◌≡◌, ℕ, zero, suc, ◌+◌, ◌<◌, ◌≤◌, cond, ltb, leb, max, false, List, Option, Some, None, refl, sym, ap, ◌∙◌, inl, inr, arith}
use Rattle.std.proofs.lemmas.Bool.{cases_Bool, cases_lt, le-leb, lt-leb, cond-true, cond-false}
use Rattle.std.specs.List.{find, range_with_len}
use Rattle.std.specs.Option.{is_some}
use Rattle.sim_base.specs.declared.config.Config.{Config}
use Rattle.sim_base.specs.declared.command.Command.{Command}
use Rattle.sim_base.specs.declared.command.IssuedCommand.{IssuedCommand}
use Rattle.sim_base.specs.declared.message.Request.{Request}
use Rattle.sim_base.specs.Scheduling.{first_ready, due, refresh_command, if_legal, choice_between, lowest_due}
use Rattle.bank_ready.specs.Refreshes.{RefreshCounts, lowest_owed, is_due_at, IsDueFrom, StandsFor}
use Rattle.bank_ready.proofs.Due.{lowest_due_from_owed, none_owed_before}
use Rattle.channel_step.specs.declared.fr_fcfs.choice.Need.{Need}
use Rattle.channel_step.specs.FrFcfs.Requests.{IsLegalFrom}
use Rattle.channel_step.specs.FrFcfs.Cycles.{IsFirst, IsNextAt, IsNext}
use Rattle.channel_step.proofs.FrFcfs.Legal.{legal_at}

-- the choice where only the ranks from k on may be refreshed
abbrev pub chosen_from : Config → List IssuedCommand → List Request → ℕ → ℕ → ℕ → Option Command
chosen_from s history requests k n cycle = choice_between s history cycle requests (find (λ rank. ltb 0 (due s rank history cycle)) (range_with_len k n))

pub chosen_last : (s : Config) (history : List IssuedCommand) (requests : List Request) (k cycle : ℕ) → chosen_from s history requests k 0 cycle ≡ first_ready s history cycle requests
unfolding choice_between
chosen_last s history requests k cycle = refl

refreshed : (s : Config) (history : List IssuedCommand) (requests : List Request) (k cycle : ℕ)
    → choice_between s history cycle requests (Some k) ≡ if_legal s history cycle (refresh_command s history k)
unfolding choice_between
refreshed s history requests k cycle = refl

pub chosen_next : (s : Config) (history : List IssuedCommand) (requests : List Request) (k n cycle : ℕ)
    → chosen_from s history requests k (suc n) cycle
    ≡ cond (ltb 0 (due s k history cycle)) (if_legal s history cycle (refresh_command s history k)) (chosen_from s history requests (k + 1) n cycle)
chosen_next s history requests k n cycle =
    let rest = find (λ rank. ltb 0 (due s rank history cycle)) (range_with_len (k + 1) n) in
    elim (cases_Bool (ltb 0 (due s k history cycle))) [
      | inl owed ↦
          ap (choice_between s history cycle requests) (cond-true (ltb 0 (due s k history cycle)) (Some k) rest owed)
          ∙ refreshed s history requests k cycle
          ∙ sym (cond-true (ltb 0 (due s k history cycle)) (if_legal s history cycle (refresh_command s history k)) (chosen_from s history requests (k + 1) n cycle) owed)
      | inr none ↦
          ap (choice_between s history cycle requests) (cond-false (ltb 0 (due s k history cycle)) (Some k) rest none)
          ∙ sym (cond-false (ltb 0 (due s k history cycle)) (if_legal s history cycle (refresh_command s history k)) (chosen_from s history requests (k + 1) n cycle) none)
    ]

-- a command where it is legal
legal_then : (s : Config) (history : List IssuedCommand) (command : Command) (ready cycle : ℕ) → IsLegalFrom s history command ready
    → if_legal s history cycle command ≡ cond (leb ready cycle) (Some command) None
unfolding if_legal
legal_then s history command ready cycle legal = ap (λ b. cond b (Some command) None) (legal_at s history command ready legal cycle)

-- something due from a cycle on is there as soon as it is legal, and before that what else there is
abbrev pub IsRefreshed : Config → List IssuedCommand → Command → Option ℕ → ℕ → (ℕ → Option Command) → (ℕ → Option Command) → Type 0
IsRefreshed s history command due now commands rest = (c : ℕ) → now ≤ c → commands c ≡ cond (is_due_at due c) (if_legal s history c command) (rest c)

-- where there is nothing else before it is due
pub next_later : (s : Config) (history : List IssuedCommand) (command : Command) (due ready now : ℕ) (commands rest : ℕ → Option Command)
    → IsRefreshed s history command (Some due) now commands rest → IsLegalFrom s history command ready → now ≤ due → ((c : ℕ) → now ≤ c → c < due → rest c ≡ None)
    → IsNextAt commands now (max due ready) (Some command)
next_later s history command due ready now commands rest is legal late none = record {
  from_now = omega arith;
  then_is =
      let then = max due ready in
      is then (omega arith)
      ∙ cond-true (leb due then) (if_legal s history then command) (rest then) (le-leb due then (omega arith))
      ∙ legal_then s history command ready then legal
      ∙ cond-true (leb ready then) (Some command) None (le-leb ready then (omega arith));
  there_is = refl;
  none_before = λ c from before. elim (cases_lt c due) [
    | inl early ↦ is c from ∙ cond-false (leb due c) (if_legal s history c command) (rest c) (lt-leb due c early) ∙ none c from early
    | inr after ↦
        is c from
        ∙ cond-true (leb due c) (if_legal s history c command) (rest c) (le-leb due c after)
        ∙ legal_then s history command ready c legal
        ∙ cond-false (leb ready c) (Some command) None (lt-leb ready c (omega arith))
  ];
}

-- the next of some commands is the next of others that are the same from now on
pub next_same : (commands rest : ℕ → Option Command) (needs : Need → Option Command) (now : ℕ) (next : Option (ℕ × Need)) → ((c : ℕ) → now ≤ c → commands c ≡ rest c)
    → IsNext rest needs now next → IsNext commands needs now next
next_same commands rest needs now None same is = λ c from. same c from ∙ is c from
next_same commands rest needs now (Some next) same is = record {
  from_now = is.from_now;
  then_is = same next.0 is.from_now ∙ is.then_is;
  there_is = is.there_is;
  none_before = λ c from before. same c from ∙ is.none_before c from before;
}

-- the refreshes of one rank more, below those that were looked at
pub refreshes_more : (s : Config) (history : List IssuedCommand) (requests : List Request) (needs : Need → Option Command) (rank ranks now : ℕ) (due_cycle : Option ℕ) (first next : Option (ℕ × Need))
    → IsDueFrom (due s rank history) now due_cycle → rank < ranks
    → ((n : ℕ) → (rank + 1) + n ≡ ranks → IsNext (chosen_from s history requests (rank + 1) n) needs now first)
    → ((commands rest : ℕ → Option Command) → IsRefreshed s history (refresh_command s history rank) due_cycle now commands rest → IsNext rest needs now first → IsNext commands needs now next)
    → (n : ℕ) → rank + n ≡ ranks → IsNext (chosen_from s history requests rank n) needs now next
refreshes_more s history requests needs rank ranks now due_cycle first next is_due exists before sooner zero all = absurd (omega arith)
refreshes_more s history requests needs rank ranks now due_cycle first next is_due exists before sooner (suc n) all =
    sooner (chosen_from s history requests rank (suc n)) (chosen_from s history requests (rank + 1) n)
    (λ c from.
    chosen_next s history requests rank n c
    ∙ (λ i. cond (is_due.due_at c from i) (if_legal s history c (refresh_command s history rank)) (chosen_from s history requests (rank + 1) n c)))
    (before n (omega arith))

-- the choice with no rank is that of the requests
pub chosen_start : (s : Config) (history : List IssuedCommand) (requests : List Request) (needs : Need → Option Command) (ranks now : ℕ) (next : Option (ℕ × Need))
    → IsNext (λ cycle. first_ready s history cycle requests) needs now next → (n : ℕ) → ranks + n ≡ ranks → IsNext (chosen_from s history requests ranks n) needs now next
chosen_start s history requests needs ranks now next is zero all =
    next_same (chosen_from s history requests ranks 0) (λ cycle. first_ready s history cycle requests) needs now next (λ c from. chosen_last s history requests ranks c) is
chosen_start s history requests needs ranks now next is (suc n) all = absurd (omega arith)

-- the first cycle that has a command
pub first_cycle : (commands : ℕ → Option Command) (now cycle : ℕ) (command : Option Command) → IsNextAt commands now cycle command → IsFirst (λ c. is_some (commands c)) now cycle
first_cycle commands now cycle command next = record {
  from_now = next.from_now;
  holds_then = ap is_some next.then_is ∙ next.there_is;
  not_before = λ c from before. ap is_some (next.none_before c from before);
}

-- where no refresh is due by the cycle of the first command of the requests, that goes first
pub next_none_issued : (s : Config) (history : List IssuedCommand) (requests : List Request) (counts : RefreshCounts) (now cycle : ℕ) (command : Option Command) → StandsFor counts s history
    → is_some (lowest_owed counts cycle) ≡ false → IsNextAt (λ c. first_ready s history c requests) now cycle command
    → IsNextAt (λ c. choice_between s history c requests (lowest_due s history c)) now cycle command
next_none_issued s history requests counts now cycle command stands none first = record {
  from_now = first.from_now;
  then_is = none_issued cycle (omega arith) ∙ first.then_is;
  there_is = first.there_is;
  none_before = λ c from before. none_issued c (omega arith) ∙ first.none_before c from before;
}
  where
    none_issued : (c : ℕ) → c ≤ cycle → choice_between s history c requests (lowest_due s history c) ≡ first_ready s history c requests
    none_issued c early =
        ap (choice_between s history c requests) (lowest_due_from_owed counts s history c stands ∙ none_owed_before counts c cycle early none) ∙ chosen_last s history requests 0 c
