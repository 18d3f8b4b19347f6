-- The log once a request is served, and what is kept beside it.
use Rattle.std.proofs.Common.{◌≡◌, ℕ, ◌+◌, ◌-◌, ◌<◌, ◌≤◌, true, false, cond, List, length, take, get_or, set, sym, ap, ◌∙◌, arith}
use Rattle.std.proofs.lemmas.Bool.{and_parts, false≢true, false_from_ne_true}
use Rattle.std.proofs.lemmas.List.{get_or-set_other, length-set, set_past}
use Rattle.sim_base.specs.Places.{is_line}
use Rattle.sim_base.specs.Scheduling.{asks_for_line}
use Rattle.sim_base.specs.declared.message.Request.{Request}
use Rattle.queue.specs.declared.request_log.Arrived.{Arrived}
use Rattle.queue.specs.Marks.{is_marked}
use Rattle.queue.specs.Log.{absent, waiting_requests, eligible_column, is_for, served_at, waits_at}
use Rattle.queue.specs.Columns.{bank_number, tag_word, tag_column, served_tag, blocked_count, AreCounted}
use Rattle.queue.specs.Lines.{is_tagged_as, NoneTaggedAs, IsFoundAt}
use Rattle.queue.proofs.Waiting.{asks_some}
use Rattle.queue.proofs.Eligible.{length-eligible}
use Rattle.queue.proofs.Places.{left_off, length-served, waiting_at, waiting_within, waiting_served}
use Rattle.queue.proofs.Served.{served_first, blocked_behind}
use Rattle.queue.proofs.TagsChanged.{tag_unblocked, blocked_some, blocked_next}
use Rattle.queue.proofs.Counted.{counted_removed, some_counted}
use Rattle.queue.proofs.TagSearch.{tagged_there}

-- none behind a place, up to another, waits for its line
abbrev pub NoneBehind : List Arrived → ℕ → ℕ → Type 0
NoneBehind log place until = (j : ℕ) → place < j → j < until → is_for (get_or log place absent).request.place (get_or log j absent) ≡ false

-- the requests behind the one that is served stand where they did
other_there : (log : List Arrived) (place j : ℕ) → place < j → get_or (served_at log place) j absent ≡ get_or log j absent
other_there log place j behind = get_or-set_other log place j (left_off (get_or log place absent)) absent (λ e. omega (arith, e, behind))

-- the marks where no other one of the line waits
pub served_last : (log : List Arrived) (place : ℕ) → place < length log → waits_at log place ≡ true → is_marked (get_or (eligible_column log) place 0) ≡ true → NoneBehind log place (length log)
    → eligible_column (served_at log place) ≡ set (eligible_column log) place 0
served_last log place within waits first none =
    served_first log place (length log) within waits first within none (λ past. absurd (omega (arith, past)))
    ∙ set_past (set (eligible_column log) place 0) (length log) 1 (omega (arith, length-set (eligible_column log) place 0, length-eligible log))

-- none behind waits for the line where none is blocked
pub none_blocked : (log : List Arrived) (place : ℕ) → waits_at log place ≡ true → blocked_count log ≡ 0 → NoneBehind log place (length log)
none_blocked log place waits none j behind within =
    false_from_ne_true (is_for (get_or log place absent).request.place (get_or log j absent))
    (λ here.
    let parts = and_parts (waits_at log j) (is_line (get_or log j absent).request.place (get_or log place absent).request.place) here in
    let some = blocked_some log j within parts.0 (blocked_behind log place j behind within waits here) in
    omega (arith, some, none))

-- none behind waits for the line where none asks for it once the request is served
pub none_alike : (log : List Arrived) (place : ℕ) → asks_for_line (get_or log place absent).request.place (waiting_requests (served_at log place)) ≡ false → NoneBehind log place (length log)
none_alike log place none j behind within =
    let asked = (get_or log place absent).request.place in
    false_from_ne_true (is_for asked (get_or log j absent))
    (λ here.
    false≢true
    (sym none ∙ asks_some asked (served_at log place) j (omega (arith, within, length-served log place)) (ap (is_for asked) (other_there log place j behind) ∙ here)))

-- what a search behind a place has met: the line of a, the request there, in the log and the tags once it is served
pub record IsBehind (log : List Arrived) (tags : List ℕ) (place : ℕ) (a : Arrived) (left : List Arrived) (left_tags : List ℕ) : Type 0 where
  pub waits : waits_at log place ≡ true
  pub there : a ≡ get_or log place absent
  pub tags_are : tags ≡ tag_column log
  pub left_is : left ≡ served_at log place
  pub left_tags_are : left_tags ≡ set tags place served_tag

-- none behind waits for the line as far as no tag of the line is met
pub none_met : (log : List Arrived) (tags : List ℕ) (place : ℕ) (a : Arrived) (left : List Arrived) (left_tags : List ℕ) (until : ℕ) → IsBehind log tags place a left left_tags → until ≤ length log
    → NoneTaggedAs false a.request.place left left_tags (place + 1) until → NoneBehind log place until
none_met log tags place a left left_tags until is short none j behind below =
    let asked = (get_or log place absent).request.place in
    let there : get_or left_tags j 0 ≡ get_or (tag_column log) j 0 =
    ap (λ xs. get_or xs j 0) is.left_tags_are ∙ get_or-set_other tags place j served_tag 0 (λ e. omega (arith, e, behind)) ∙ ap (λ xs. get_or xs j 0) is.tags_are in
    let other : get_or left j absent ≡ get_or log j absent = ap (λ (xs : List Arrived). get_or xs j absent) is.left_is ∙ other_there log place j behind in
    false_from_ne_true (is_for asked (get_or log j absent))
    (λ here.
    let within : j < length log = omega (arith, below, short) in
    let tagged = tagged_there false asked log j within here (blocked_behind log place j behind within is.waits here) in
    false≢true
    (sym (none j (omega (arith, behind)) below) ∙ (λ i. is_tagged_as false (ap (λ (b : Arrived). b.request.place) is.there i) (other i) (there i)) ∙ tagged))

-- the next one of a line stands at a place, and is blocked
pub record IsNextAt (log : List Arrived) (place next : ℕ) : Type 0 where
  pub behind : place < next
  pub within : next < length log
  pub here : is_for (get_or log place absent).request.place (get_or log next absent) ≡ true
  pub none : NoneBehind log place next

pub next_met : (log : List Arrived) (tags : List ℕ) (place : ℕ) (a : Arrived) (left : List Arrived) (left_tags : List ℕ) (next : ℕ) → IsBehind log tags place a left left_tags
    → IsFoundAt false a.request.place left left_tags (place + 1) next → IsNextAt log place next
next_met log tags place a left left_tags next is found =
    let behind : place < next = omega (arith, found.from_there) in
    let within : next < length log = omega (arith, found.within, ap length is.left_is, length-served log place) in
    record {
      behind = behind;
      within = within;
      here =
          (λ i. is_for (sym is.there i).request.place (sym (ap (λ (xs : List Arrived). get_or xs next absent) is.left_is ∙ other_there log place next behind) i)) ∙ found.waits;
      none = none_met log tags place a left left_tags next is (omega (arith, within)) found.none_before;
    }

-- the marks, the tags and the number of those that are blocked, where a next one of the line is unblocked
pub marks_next : (log : List Arrived) (place next : ℕ) → place < length log → waits_at log place ≡ true → is_marked (get_or (eligible_column log) place 0) ≡ true → IsNextAt log place next
    → eligible_column (served_at log place) ≡ set (set (eligible_column log) place 0) next 1
marks_next log place next within waits first is = served_first log place next within waits first is.behind is.none (λ below. is.here)

pub tags_next : (log : List Arrived) (tags : List ℕ) (place next tag : ℕ) → place < length log → waits_at log place ≡ true → is_marked (get_or (eligible_column log) place 0) ≡ true
    → IsNextAt log place next → tags ≡ tag_column log → tag ≡ tag_word true (get_or (served_at log place) next absent).request.access (bank_number (get_or (served_at log place) next absent).request.place)
    → set (set tags place served_tag) next tag ≡ tag_column (served_at log place)
tags_next log tags place next tag within waits first is tags_are tag_is =
    let a = get_or (served_at log place) next absent in
    let parts = and_parts (waits_at log next) (is_line (get_or log next absent).request.place (get_or log place absent).request.place) is.here in
    let does : a.waits ≡ true = ap (λ (b : Arrived). b.waits) (other_there log place next is.behind) ∙ parts.0 in
    (λ i. set (set (tags_are i) place served_tag) next ((tag_is ∙ ap (λ w. cond w (tag_word true a.request.access (bank_number a.request.place)) served_tag) (sym does)) i))
    ∙ sym (tag_unblocked log place next (marks_next log place next within waits first is))

pub blocked_fewer : (log : List Arrived) (place next : ℕ) → place < length log → waits_at log place ≡ true → is_marked (get_or (eligible_column log) place 0) ≡ true → IsNextAt log place next
    → blocked_count (served_at log place) + 1 ≡ blocked_count log
blocked_fewer log place next within waits first is =
    let parts = and_parts (waits_at log next) (is_line (get_or log next absent).request.place (get_or log place absent).request.place) is.here in
    blocked_next log place next within waits first is.behind is.within parts.0 (blocked_behind log place next is.behind is.within waits is.here) (marks_next log place next within waits first is)

-- what the counters say once a request is served
pub counted_left : (counter_of : Request → ℕ) (counts : List ℕ) (log : List Arrived) (place counter value : ℕ) → place < length log → waits_at log place ≡ true
    → AreCounted counter_of counts (waiting_requests log) → counter ≡ counter_of (get_or log place absent).request → counter < length counts → value ≡ get_or counts counter 0 - 1
    → AreCounted counter_of (set counts counter value) (waiting_requests (served_at log place))
counted_left counter_of counts log place counter value within waits counted counter_is below value_is =
    let r = (get_or log place absent).request in
    counted_removed counter_of (length (waiting_requests (take place log))) counts (waiting_requests log) (waiting_requests (served_at log place)) r counter value counted counter_is below
    (waiting_within log place within waits) (sym (waiting_at log place r within waits)) (waiting_served log place within waits) value_is

-- the counter of a request that waits counts it
pub some_left : (counter_of : Request → ℕ) (counts : List ℕ) (log : List Arrived) (place counter : ℕ) → place < length log → waits_at log place ≡ true → AreCounted counter_of counts (waiting_requests log)
    → counter ≡ counter_of (get_or log place absent).request → counter < length counts → 1 ≤ get_or counts counter 0
some_left counter_of counts log place counter within waits counted counter_is below =
    let r = (get_or log place absent).request in
    some_counted counter_of (length (waiting_requests (take place log))) counts (waiting_requests log) r counter counted counter_is below (waiting_within log place within waits) (sym (waiting_at log place r within waits))
