-- What is due by the counts is what is due by the commands that they stand for.
use Rattle.std.proofs.Common.{◌≡◌, ℕ, zero, suc, ◌+◌, ◌-◌, ◌*◌, ◌/◌, ◌^◌, ◌<◌, ◌≤◌, Bool, true, false, cond, eqb, ltb, max, eq-eqb, ne_eqb, rules, List, [], ◌∷◌, ◌++◌, length, take, Option, Some, None, refl, sym, ap, subst, ◌∙◌, inl, inr, arith}
use Rattle.std.proofs.lemmas.Bool.{cond-true, cond-false, cases_lt, cases_eq, false≢true, lt-ltb, le-ltb, lt-leb, le-leb}
use Rattle.std.proofs.lemmas.List.{get_or-set_same, get_or-set_other, get_or-take, length-take-le}
use Rattle.std.proofs.Math.ListN.{length-set}
use Rattle.std.proofs.Math.Nat.{div-lt_iff_lt-mul}
use Rattle.std.specs.Prelude.{find, count_by, slice_index, slice_set, IsSome, is_some}
use Rattle.std.specs.List.{range_with_len}
use Rattle.sim_base.specs.declared.config.Config.{Config}
use Rattle.sim_base.specs.declared.command.IssuedCommand.{IssuedCommand}
use Rattle.sim_base.specs.declared.command.Command.TheVariants.{Ref}
use Rattle.sim_base.specs.History.{below}
use Rattle.sim_base.specs.Scheduling.{due, lowest_due, refreshes}
use Rattle.sim_base.proofs.Lists.{find-none, count-push}
use Rattle.bank_ready.specs.Refreshes.{RefreshCounts, owed, lowest_owed, IsFirstDue, IsDueFrom, IsFewest, IsCountable, NoneIsDueTo, IsCounted, IsNoRefresh, StandsFor, refreshed}

-- what is due to a rank
pub due_from_owed : (counts : RefreshCounts) (s : Config) (rank : ℕ) (history : List IssuedCommand) (now : ℕ) → StandsFor counts s history → rank < counts.ranks
    → due s rank history now ≡ owed counts rank now
unfolding due
due_from_owed counts s rank history now stands exists =
    let below_ranks : rank < s.ranks = omega (arith, stands.ranks_are) in
    λ i. cond (eqb (sym stands.interval_is i) 0) 0 (now / sym stands.interval_is i - sym (stands.issued_are rank below_ranks) i)

find_same : (p q : ℕ → Bool) (a n : ℕ) → ((k : ℕ) → k < a + n → p k ≡ q k) → find p (range_with_len a n) ≡ find q (range_with_len a n)
find_same p q a zero same = refl
find_same p q a (suc n) same = λ i. cond (same a (omega arith) i) (Some a) (find_same p q (a + 1) n (λ k l. same k (omega arith)) i)

-- the lowest rank to which something is due
pub lowest_due_from_owed : (counts : RefreshCounts) (s : Config) (history : List IssuedCommand) (now : ℕ) → StandsFor counts s history
    → lowest_due s history now ≡ lowest_owed counts now
unfolding lowest_due
lowest_due_from_owed counts s history now stands =
    find_same (λ rank. ltb 0 (due s rank history now)) (λ rank. ltb 0 (owed counts rank now)) 0 s.ranks
    (λ rank l. ap (ltb 0) (due_from_owed counts s rank history now stands (omega (arith, stands.ranks_are))))
    ∙ ap (λ n. find (λ rank. ltb 0 (owed counts rank now)) (below n)) (sym stands.ranks_are)

some_first : (b : Bool) (a : ℕ) (rest : Option ℕ) → ((b ≡ false) → IsSome rest) → IsSome (cond b (Some a) rest)
some_first true a rest later = search rules
some_first false a rest later = later refl

find_some : (p : ℕ → Bool) (a n k : ℕ) → a ≤ k → k < a + n → p k ≡ true → IsSome (find p (range_with_len a n))
find_some p a zero k from to holds = absurd (omega arith)
find_some p a (suc n) k from to holds =
    some_first (p a) a (find p (range_with_len (a + 1) n)) (λ fails.
    elim (cases_lt a k) [
      | inl after ↦ find_some p (a + 1) n k (omega arith) (omega arith) holds
      | inr at ↦ let here : k ≡ a = omega arith in absurd (false≢true (sym fails ∙ ap p (sym here) ∙ holds))
    ])

-- where there are refreshes, one is due to a rank as soon as more intervals are over than it had refreshes
owed_is : (counts : RefreshCounts) (rank now : ℕ) → 0 < counts.interval → owed counts rank now ≡ now / counts.interval - slice_index counts.issued rank
owed_is counts rank now some = cond-false _ _ _ (ne_eqb counts.interval 0 (λ none. omega arith))

-- The first refresh falls due to the rank that had the fewest.
pub first_due : (counts : RefreshCounts) (now fewest next : ℕ) → 0 < counts.interval → IsFewest counts fewest → next ≡ max now ((fewest + 1) * counts.interval)
    → IsFirstDue (lowest_owed counts) now next
first_due counts now fewest next some least is =
    let reached = least.reached in
    let interval = counts.interval in
    let last : (fewest + 1) * interval ≤ next = omega arith in
    let over : fewest < next / interval =
    elim (cases_lt fewest (next / interval)) [
      | inl before ↦ before
      | inr after ↦ let short : next < (fewest + 1) * interval = (div-lt_iff_lt-mul some).0 (omega arith) in absurd (omega arith)
    ] in
    record {
      from_now = omega arith;
      due = find_some (λ rank. ltb 0 (owed counts rank next)) 0 counts.ranks reached.0 (omega arith) (omega (arith, reached.1))
          (lt-ltb 0 _ (omega (arith, owed_is counts reached.0 next some, reached.2, over)));
      none_before = λ cycle from before.
          let early : cycle < (fewest + 1) * interval = omega arith in
          let few : cycle / interval < fewest + 1 = (div-lt_iff_lt-mul some).1 early in
          find-none (λ rank. ltb 0 (owed counts rank cycle)) 0 counts.ranks
          (λ rank from l. le-ltb 0 _ (omega (arith, owed_is counts rank cycle some, few, least.at_most rank (omega arith))));
    }

-- the first cycle with a refresh due by the counts is the first with one due by the commands that the counts stand for
pub first_due_from_owed : (counts : RefreshCounts) (s : Config) (history : List IssuedCommand) (now next : ℕ) → StandsFor counts s history → IsFirstDue (lowest_owed counts) now next
    → IsFirstDue (lowest_due s history) now next
first_due_from_owed counts s history now next stands first = record {
  from_now = first.from_now;
  due = subst IsSome (sym (lowest_due_from_owed counts s history next stands)) first.due;
  none_before = λ cycle from before. lowest_due_from_owed counts s history cycle stands ∙ first.none_before cycle from before;
}

-- Where there are refreshes, one is due to a rank from the end of the interval on that follows those which it had.
pub rank_due_from : (counts : RefreshCounts) (rank now next : ℕ) → 0 < counts.interval → next ≡ max now ((slice_index counts.issued rank + 1) * counts.interval)
    → IsDueFrom (owed counts rank) now (Some next)
rank_due_from counts rank now next some is =
    let interval = counts.interval in
    let had = slice_index counts.issued rank in
    record {
      from_now = omega arith;
      due_at = λ cycle from. elim (cases_lt cycle ((had + 1) * interval)) [
        | inl early ↦
            let few : cycle / interval < had + 1 = (div-lt_iff_lt-mul some).1 early in
            le-ltb 0 _ (omega (arith, owed_is counts rank cycle some, few)) ∙ sym (lt-leb next cycle (omega arith))
        | inr late ↦
            let over : had < cycle / interval =
            elim (cases_lt had (cycle / interval)) [
              | inl before ↦ before
              | inr after ↦ let short : cycle < (had + 1) * interval = (div-lt_iff_lt-mul some).0 (omega arith) in absurd (omega arith)
            ] in
            lt-ltb 0 _ (omega (arith, owed_is counts rank cycle some, over)) ∙ sym (le-leb next cycle (omega arith))
      ];
    }

-- Where there are none, none is ever due.
pub rank_never_due : (counts : RefreshCounts) (rank now : ℕ) → counts.interval ≡ 0 → IsDueFrom (owed counts rank) now None
rank_never_due counts rank now none = record {
  from_now = tt;
  due_at = λ cycle from. ap (ltb 0) (cond-true (eqb counts.interval 0) 0 _ (eq-eqb counts.interval 0 none));
}

-- the cycle from which on a refresh of a rank is due by the counts is that by the commands that the counts stand for
pub rank_due_from_owed : (counts : RefreshCounts) (s : Config) (history : List IssuedCommand) (rank now : ℕ) (first : Option ℕ) → StandsFor counts s history → rank < counts.ranks
    → IsDueFrom (owed counts rank) now first → IsDueFrom (due s rank history) now first
rank_due_from_owed counts s history rank now first stands exists is = record {
  from_now = is.from_now;
  due_at = λ cycle from. ap (ltb 0) (due_from_owed counts s rank history cycle stands exists) ∙ is.due_at cycle from;
}

-- A refresh is counted to its rank.
pub stands_with_refresh : (counts : RefreshCounts) (s : Config) (history : List IssuedCommand) (i : IssuedCommand) (rank : ℕ) → rank < length counts.issued → i.command ≡ Ref rank
    → StandsFor counts s history
    → StandsFor (record counts { issued = slice_set counts.issued rank (slice_index counts.issued rank + 1) }) s (history ++ i ∷ [])
stands_with_refresh counts s history i rank exists is stands = record {
  interval_is = stands.interval_is;
  ranks_are = stands.ranks_are;
  issued_are = λ other below.
      let before = stands.issued_are other below in
      let more = count-push (λ r. refreshes other r.command) history i ∙ ap (λ command. count_by (λ r. refreshes other r.command) history + cond (refreshes other command) 1 0) is in
      elim (cases_eq rank other) [
        | inl same ↦
            let one = cond-true {A = ℕ} (eqb rank other) 1 0 (eq-eqb rank other same) in
            let counted = get_or-set_same counts.issued rank (slice_index counts.issued rank + 1) 0 exists in
            let at_rank = ap (λ k. slice_index counts.issued k) same in
            subst (λ k. slice_index (slice_set counts.issued rank (slice_index counts.issued rank + 1)) k ≡ count_by (λ r. refreshes other r.command) (history ++ i ∷ [])) same
            (omega (arith, counted, one, more, at_rank, before))
        | inr apart ↦
            let none = cond-false {A = ℕ} (eqb rank other) 1 0 (ne_eqb rank other apart) in
            let kept = get_or-set_other counts.issued rank other (slice_index counts.issued rank + 1) 0 (λ e. apart (sym e)) in
            omega (arith, kept, none, more, before)
      ];
}

-- Any other command leaves the counts as they are.
pub stands_without_refresh : (counts : RefreshCounts) (s : Config) (history : List IssuedCommand) (i : IssuedCommand)
    → IsNoRefresh s i.command → StandsFor counts s history → StandsFor counts s (history ++ i ∷ [])
stands_without_refresh counts s history i other stands = record {
  interval_is = stands.interval_is;
  ranks_are = stands.ranks_are;
  issued_are = λ rank below.
      let none = cond-false {A = ℕ} (refreshes rank i.command) 1 0 (other rank below) in
      omega (arith, count-push (λ r. refreshes rank r.command) history i, none, stands.issued_are rank below);
}

-- Some refresh is due from the cycle on that follows the last with none.
pub next_is_first : (counts : RefreshCounts) (now none_due_to next : ℕ) → 0 < counts.interval → NoneIsDueTo counts none_due_to → next ≡ max now (none_due_to + 1) → IsFirstDue (lowest_owed counts) now next
next_is_first counts now none_due_to next some is latest =
    let ends = is.ends some in
    first_due counts now ends.0 next some ends.1 (latest ∙ ap (max now) ends.2)

pub some_is : (o : Option ℕ) → IsSome o → is_some o ≡ true
some_is None never = cc
some_is (Some k) some = refl

-- whether some refresh is due by a cycle
pub due_by_is : (counts : RefreshCounts) (none_due_to cycle : ℕ) → cycle ≤ 18446744073709551615 → NoneIsDueTo counts none_due_to → is_some (lowest_owed counts cycle) ≡ ltb none_due_to cycle
due_by_is counts none_due_to cycle fits is = elim (cases_lt 0 counts.interval) [
  | inl some ↦ elim (cases_lt none_due_to cycle) [
    | inl after ↦ some_is (lowest_owed counts cycle) (next_is_first counts cycle none_due_to cycle some is (omega arith)).due ∙ sym (lt-ltb none_due_to cycle after)
    | inr before ↦
        ap is_some ((next_is_first counts 0 none_due_to (none_due_to + 1) some is (omega arith)).none_before cycle (omega arith) (omega arith)) ∙ sym (le-ltb none_due_to cycle before)
  ]
  | inr none ↦
      let never : counts.interval ≡ 0 = omega arith in
      ap is_some (find-none (λ rank. ltb 0 (owed counts rank cycle)) 0 counts.ranks (λ rank from l. ap (ltb 0) (cond-true (eqb counts.interval 0) 0 _ (eq-eqb counts.interval 0 never))))
      ∙ sym (le-ltb none_due_to cycle (omega (arith, is.never never)))
]

-- where a refresh is due, there are refreshes
pub owed_some : (counts : RefreshCounts) (rank now : ℕ) → 0 < owed counts rank now → 0 < counts.interval
owed_some counts rank now due = elim (cases_lt 0 counts.interval) [
  | inl some ↦ some
  | inr none ↦
      let never : counts.interval ≡ 0 = omega arith in
      let nothing = cond-true (eqb counts.interval 0) 0 (now / counts.interval - slice_index counts.issued rank) (eq-eqb counts.interval 0 never) in
      absurd (omega (arith, nothing))
]

-- a refresh that is due ends an interval that is over
owed_over : (counts : RefreshCounts) (rank now : ℕ) → 0 < owed counts rank now → (slice_index counts.issued rank + 1) * counts.interval ≤ now
owed_over counts rank now due = elim (cases_lt now ((slice_index counts.issued rank + 1) * counts.interval)) [
  | inl early ↦
      let some = owed_some counts rank now due in
      let few : now / counts.interval < slice_index counts.issued rank + 1 = (div-lt_iff_lt-mul some).1 early in
      absurd (omega (arith, owed_is counts rank now some, few))
  | inr over ↦ over
]

countable_more : (counts : RefreshCounts) (rank now : ℕ) → IsCountable counts → rank < length counts.issued → now < 2 ^ 62 → 0 < owed counts rank now → IsCountable (refreshed counts rank)
countable_more counts rank now before exists fits due = record {
  interval_in = before.interval_in;
  ranks_some = before.ranks_some;
  ranks_in = before.ranks_in;
  issued_in = λ other. elim (cases_eq other rank) [
    | inl same ↦
        subst (λ n. n * counts.interval < 2 ^ 62) (sym (ap (λ k. slice_index (refreshed counts rank).issued k) same ∙ get_or-set_same counts.issued rank (slice_index counts.issued rank + 1) 0 exists))
        (omega (arith, owed_over counts rank now due))
    | inr apart ↦
        subst (λ n. n * counts.interval < 2 ^ 62) (sym (get_or-set_other counts.issued rank other (slice_index counts.issued rank + 1) 0 apart)) (before.issued_in other)
  ];
}

-- the least of the counts of the ranks
fewest_is : (counts : RefreshCounts) (fewest : ℕ) → counts.ranks ≤ length counts.issued
    → ((k : ℕ) → k < length (take counts.ranks counts.issued) → fewest ≤ slice_index (take counts.ranks counts.issued) k)
    → ((k : ℕ) × (k < length (take counts.ranks counts.issued)) × (slice_index (take counts.ranks counts.issued) k ≡ fewest)) → IsFewest counts fewest
fewest_is counts fewest ranks_in least reached =
    let whole = length-take-le counts.ranks counts.issued ranks_in in
    record {
      at_most = λ rank l. subst (λ n. fewest ≤ n) (get_or-take counts.ranks counts.issued rank 0 l) (least rank (omega arith));
      reached =
          let within : reached.0 < counts.ranks = omega (arith, reached.1) in
          (reached.0, within, sym (get_or-take counts.ranks counts.issued reached.0 0 within) ∙ reached.2);
    }

-- how large the end of the interval is that follows the refreshes of the rank with the fewest
pub ends_fit : (counts : RefreshCounts) (rank now fewest : ℕ) → IsCountable counts → rank < counts.ranks → length counts.issued ≡ 4 → now < 2 ^ 62 → 0 < owed counts rank now
    → ((k : ℕ) → k < length (take counts.ranks (refreshed counts rank).issued) → fewest ≤ slice_index (take counts.ranks (refreshed counts rank).issued) k)
    → ((k : ℕ) × (k < length (take counts.ranks (refreshed counts rank).issued)) × (slice_index (take counts.ranks (refreshed counts rank).issued) k ≡ fewest))
    → (1 ≤ (fewest + 1) * counts.interval) × ((fewest + 1) * counts.interval < 2 ^ 64)
ends_fit counts rank now fewest before exists four fits due least reached =
    let some = owed_some counts rank now due in
    let same_length = length-set counts.issued rank (slice_index counts.issued rank + 1) in
    let least_now = fewest_is (refreshed counts rank) fewest (omega (arith, before.ranks_in, same_length)) least reached in
    let within : rank < length counts.issued = omega (arith, before.ranks_in) in
    let after = countable_more counts rank now before within fits due in
    let product : fewest * counts.interval < 2 ^ 62 = subst (λ n. n * counts.interval < 2 ^ 62) least_now.reached.2 (after.issued_in least_now.reached.0) in
    (omega arith, omega (arith, before.interval_in))

-- the last cycle with nothing due after that refresh
pub counted_more : (counts : RefreshCounts) (rank now fewest none_due_to : ℕ) → IsCountable counts → rank < counts.ranks → length counts.issued ≡ 4 → now < 2 ^ 62 → 0 < owed counts rank now
    → ((k : ℕ) → k < length (take counts.ranks (refreshed counts rank).issued) → fewest ≤ slice_index (take counts.ranks (refreshed counts rank).issued) k)
    → ((k : ℕ) × (k < length (take counts.ranks (refreshed counts rank).issued)) × (slice_index (take counts.ranks (refreshed counts rank).issued) k ≡ fewest))
    → none_due_to ≡ (fewest + 1) * counts.interval - 1 → IsCounted (refreshed counts rank) none_due_to
counted_more counts rank now fewest none_due_to before exists four fits due least reached is =
    let some = owed_some counts rank now due in
    let same_length = length-set counts.issued rank (slice_index counts.issued rank + 1) in
    let least_now = fewest_is (refreshed counts rank) fewest (omega (arith, before.ranks_in, same_length)) least reached in
    let product : 0 < (fewest + 1) * counts.interval = omega arith in
    record {
      countable = countable_more counts rank now before (omega (arith, before.ranks_in)) fits due;
      none_is_due_to = record {
        never = λ none. absurd (omega arith);
        ends = λ _. (fewest, least_now, omega arith);
      };
    }

-- where none is due in a cycle, none is in an earlier one
pub none_owed_before : (counts : RefreshCounts) (cycle now : ℕ) → cycle ≤ now → is_some (lowest_owed counts now) ≡ false → lowest_owed counts cycle ≡ None
none_owed_before counts cycle now before none = find-none (λ rank. ltb 0 (owed counts rank cycle)) 0 counts.ranks (λ rank from l. elim (cases_lt 0 (owed counts rank cycle)) [
  | inl due_then ↦
      let some = owed_some counts rank cycle due_then in
      let over : (slice_index counts.issued rank + 1) * counts.interval ≤ now = omega (arith, owed_over counts rank cycle due_then) in
      let due_now : 0 < owed counts rank now = elim (cases_lt (slice_index counts.issued rank) (now / counts.interval)) [
        | inl more ↦ omega (arith, owed_is counts rank now some)
        | inr few ↦ let early : now < (slice_index counts.issued rank + 1) * counts.interval = (div-lt_iff_lt-mul some).0 (omega arith) in absurd (omega arith)
      ] in
      absurd (false≢true (sym none ∙ find_some (λ other. ltb 0 (owed counts other now)) 0 counts.ranks rank (omega arith) (omega arith) (lt-ltb 0 _ due_now)))
  | inr none_then ↦ le-ltb 0 _ none_then
])
