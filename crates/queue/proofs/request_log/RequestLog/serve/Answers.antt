-- The request is the one at its next_place, and what stands behind it says whether another one of its line is no longer
-- blocked.
use Rattle.std.proofs.Common.{◌≡◌, ◌≢◌, ◌⊎◌, ◌+◌, ◌-◌, ◌<◌, ℕ, Bool, true, false, not, cond, List, Vec, Global, length, get_or, set, vec_capacity, refl, sym, ap, subst, ◌∙◌, inl, inr, arith}
use Rattle.std.proofs.lemmas.List.{get_or_default, get_or-set_same, length-set}
use Rattle.std.specs.Vec.{with_item}
use Rattle.queue.specs.declared.request_log.Arrived.{Arrived}
use Rattle.queue.specs.Marks.{is_marked}
use Rattle.queue.specs.Log.{LogView, absent, served_at, waits_at, waiting_requests, eligible_column, unblocked_by}
use Rattle.queue.specs.Columns.{counter_of_line, counter_of_row, line_counter, bank_number, tag_word, served_tag, tag_column, blocked_count, AreCounted}
use Rattle.queue.specs.Lines.{NoneTaggedAs, IsFoundAt}
use Rattle.queue.specs.RequestLogKept.{AreTagged}
use Rattle.queue.specs.Chains.{classes_of, AreChained}
use Rattle.queue.proofs.Chained.{classes-set}
use Rattle.queue.proofs.Counted.{none_asks}
use Rattle.queue.proofs.Places.{length-served}
use Rattle.queue.proofs.Tags.{length-tags}
use Rattle.queue.proofs.TagsChanged.{tag_left, blocked_left, blocked_some}
use Rattle.queue.proofs.Served.{served_blocked, blocked_behind}
use Rattle.queue.proofs.Left.{NoneBehind, IsNextAt, served_last, none_blocked, none_alike, none_met, next_met, marks_next, tags_next, blocked_fewer, counted_left, some_left}
use Rattle.queue.proofs.request_log.RequestLog.serve.Goals as goal
use Rattle.queue.proofs.request_log.RequestLog.serve.Goals.{After-index_mut, After-index_mut-4}

within : (c : After-index_mut) → c.args.place < length c.self.inside.log.items
within c = omega (arith, c.requires.within, ap (λ v. length v.log) c.self.view_is)

waits : (c : After-index_mut) → waits_at c.self.inside.log.items c.args.place ≡ true
waits c = ap (λ v. waits_at v.log c.args.place) c.self.view_is ∙ c.requires.waits

-- the request that is read
request_is : (c : After-index_mut) → c.index.result.now ≡ get_or c.self.inside.log.items c.args.place absent
request_is c = c.index.ensures ∙ get_or_default c.self.inside.log.items c.args.place c.index.result.now absent (within c)

-- the log that is left
log_is : (c : After-index_mut) → set c.self.inside.log.items c.args.place (record c.index_mut.result.now { waits = false }) ≡ served_at c.self.inside.log.items c.args.place
log_is c =
    ap (λ (a : Arrived). set c.self.inside.log.items c.args.place (record a { waits = false }))
    (c.index_mut.ensures.value ∙ get_or_default c.self.inside.log.items c.args.place c.index_mut.result.now absent (within c))

-- what is seen of a log
abbrev seen : ℕ → List Arrived → LogView
seen places log = record { places = places; log = log }

-- what is seen of the log that is left
seen_left : (c : After-index_mut) (was : LogView) → seen c.self.inside.places c.self.inside.log.items ≡ was
    → seen c.self.inside.places (set c.self.inside.log.items c.args.place (record c.index_mut.result.now { waits = false })) ≡ record was { log = served_at was.log c.args.place }
seen_left c was view_is = ap (seen c.self.inside.places) (log_is c) ∙ ap (λ (v : LogView). record v { log = served_at v.log c.args.place }) view_is

-- whether it was first of its line
mark_is : (c : After-index_mut) (first : Bool) → c.is_eligible-was_first.result ≡ first → is_marked (get_or (eligible_column c.self.inside.log.items) c.args.place 0) ≡ first
mark_is c first is = ap (λ v. is_marked (get_or (eligible_column v.log) c.args.place 0)) c.self.view_is ∙ sym c.is_eligible-was_first.ensures ∙ is

-- what is kept beside the log that is left
left : (c : After-index_mut-4) (tags : Vec ℕ Global) (blocked : ℕ) → c.args.place < length c.self.inside.log.items → waits_at c.self.inside.log.items c.args.place ≡ true
    → c.index.result.now ≡ get_or c.self.inside.log.items c.args.place absent
    → set c.self.inside.log.items c.args.place (record c.index_mut.result.now { waits = false }) ≡ served_at c.self.inside.log.items c.args.place
    → tags.items ≡ tag_column (served_at c.self.inside.log.items c.args.place) → vec_capacity tags ≡ vec_capacity c.self.inside.tags
    → blocked ≡ blocked_count (served_at c.self.inside.log.items c.args.place)
    → AreTagged (record c.self.inside {
      log = with_item c.self.inside.log c.args.place (record c.index_mut.result.now { waits = false });
      tags = tags;
      blocked = blocked;
      lines = with_item c.self.inside.lines c.line_counter-line.result (c.index-2.result.now - 1);
      rows = with_item c.self.inside.rows c.row_counter_of-row.result (c.index-3.result.now - 1);
    })
left c tags blocked exists waiting there whole tags_are room blocked_are =
    let q = c.self.inside in
    let k = c.self.invariant in
    let place = c.args.place in
    let line = c.line_counter-line.result in
    let below : line < length q.lines.items = omega (arith, c.line_counter-line.ensures.within, k.masked) in
    let line_is = c.line_counter-line.ensures.value ∙ ap (λ (a : Arrived). line_counter q.mask a.request.place) there in
    let row = c.row_counter_of-row.result in
    let row_below : row < length q.rows.items = omega (arith, c.row_counter_of-row.ensures.within, k.rows_masked) in
    let row_is = c.row_counter_of-row.ensures.value ∙ ap (λ (a : Arrived). counter_of_row q.row_mask a.request) there in
    record {
      tags_are = tags_are ∙ ap tag_column (sym whole);
      chained = subst (λ classes. AreChained classes q.chains) (sym (ap classes_of whole ∙ classes-set q.log.items place (record (get_or q.log.items place absent) { waits = false }) absent refl)) k.chained;
      blocked_are = blocked_are ∙ ap blocked_count (sym whole);
      masked = omega (arith, k.masked, length-set q.lines.items line (c.index-2.result.now - 1));
      lines_are =
          subst (λ log. AreCounted (counter_of_line q.mask) (set q.lines.items line (c.index-2.result.now - 1)) (waiting_requests log)) (sym whole)
          (counted_left (counter_of_line q.mask) q.lines.items q.log.items place line (c.index-2.result.now - 1) exists waiting k.lines_are line_is below
          (ap (λ n. n - 1) (c.index-2.ensures ∙ get_or_default q.lines.items line c.index-2.result.now 0 below)));
      rows_masked = omega (arith, k.rows_masked, length-set q.rows.items row (c.index-3.result.now - 1));
      rows_are =
          subst (λ log. AreCounted (counter_of_row q.row_mask) (set q.rows.items row (c.index-3.result.now - 1)) (waiting_requests log)) (sym whole)
          (counted_left (counter_of_row q.row_mask) q.rows.items q.log.items place row (c.index-3.result.now - 1) exists waiting k.rows_are row_is row_below
          (ap (λ n. n - 1) (c.index-3.ensures ∙ get_or_default q.rows.items row c.index-3.result.now 0 row_below)));
      within = omega (arith, k.within, ap length whole, length-served q.log.items place);
      log_room = k.log_room;
      tag_room = omega (arith, k.tag_room, room);
      chain_room = k.chain_room;
      short = k.short;
    }

-- what is kept where no other one is unblocked
left_alone : (c : After-index_mut-4) (blocked : ℕ) → c.args.place < length c.self.inside.log.items → waits_at c.self.inside.log.items c.args.place ≡ true
    → c.index.result.now ≡ get_or c.self.inside.log.items c.args.place absent
    → set c.self.inside.log.items c.args.place (record c.index_mut.result.now { waits = false }) ≡ served_at c.self.inside.log.items c.args.place
    → eligible_column (served_at c.self.inside.log.items c.args.place) ≡ set (eligible_column c.self.inside.log.items) c.args.place 0
    → blocked + cond (not (is_marked (get_or (eligible_column c.self.inside.log.items) c.args.place 0))) 1 0 ≡ c.self.inside.blocked
    → AreTagged (record c.self.inside {
      log = with_item c.self.inside.log c.args.place (record c.index_mut.result.now { waits = false });
      tags = with_item c.self.inside.tags c.args.place served_tag;
      blocked = blocked;
      lines = with_item c.self.inside.lines c.line_counter-line.result (c.index-2.result.now - 1);
      rows = with_item c.self.inside.rows c.row_counter_of-row.result (c.index-3.result.now - 1);
    })
left_alone c blocked exists waiting there whole marks count =
    let q = c.self.inside in
    left c (with_item q.tags c.args.place served_tag) blocked exists waiting there whole
    (ap (λ tags. set tags c.args.place served_tag) c.self.invariant.tags_are ∙ sym (tag_left q.log.items c.args.place marks)) refl
    (omega (arith, count, blocked_left q.log.items c.args.place exists waiting marks, c.self.invariant.blocked_are))

pub index_mut-requires-2 : goal.index_mut-requires-2
index_mut-requires-2 whole =
    let c = (goal.at.index_mut-requires-2 whole).After-index_mut in
    omega (arith, within c, ap length c.self.invariant.tags_are, length-tags c.self.inside.log.items, whole.self.inside.tags.ok.0)

pub overflow_sub-alike : goal.overflow_sub-alike
overflow_sub-alike whole =
    let c = (goal.at.overflow_sub-alike whole).After-index_mut in
    let q = whole.self.inside in
    let line = whole.line_counter-line.result in
    let below : line < length q.lines.items = omega (arith, whole.line_counter-line.ensures.within, whole.self.invariant.masked) in
    let there = whole.line_counter-line.ensures.value ∙ ap (λ (a : Arrived). line_counter q.mask a.request.place) (request_is c) in
    let some = some_left (counter_of_line q.mask) q.lines.items q.log.items whole.args.place line (within c) (waits c) whole.self.invariant.lines_are there below in
    omega (arith, some, whole.index-2.ensures ∙ get_or_default q.lines.items line whole.index-2.result.now 0 below)

pub overflow_sub-others : goal.overflow_sub-others
overflow_sub-others whole =
    let c = (goal.at.overflow_sub-others whole).After-index_mut in
    let q = whole.self.inside in
    let row = whole.row_counter_of-row.result in
    let below : row < length q.rows.items = omega (arith, whole.row_counter_of-row.ensures.within, whole.self.invariant.rows_masked) in
    let there = whole.row_counter_of-row.ensures.value ∙ ap (λ (a : Arrived). counter_of_row q.row_mask a.request) (request_is c) in
    let some = some_left (counter_of_row q.row_mask) q.rows.items q.log.items whole.args.place row (within c) (waits c) whole.self.invariant.rows_are there below in
    omega (arith, some, whole.index-3.ensures ∙ get_or_default q.rows.items row whole.index-3.result.now 0 below)

pub overflow_sub-self : goal.overflow_sub-self
overflow_sub-self whole =
    let c = (goal.at.overflow_sub-self whole).After-index_mut in
    omega (arith, whole.self.invariant.blocked_are, blocked_some c.self.inside.log.items c.args.place (within c) (waits c) (mark_is c false whole.if-not-was_first.true))

pub invariant_of-self : goal.invariant_of-self
invariant_of-self whole =
    let c = (goal.at.invariant_of-self whole).After-index_mut in
    let mark = mark_is c false whole.if-not-was_first.true in
    let marks = served_blocked c.self.inside.log.items c.args.place (within c) (waits c) mark in
    let one : cond {A = ℕ} (not (is_marked (get_or (eligible_column c.self.inside.log.items) c.args.place 0))) 1 0 ≡ 1 = ap (λ b. cond {A = ℕ} (not b) 1 0) mark in
    let some = blocked_some c.self.inside.log.items c.args.place (within c) (waits c) mark in
    left_alone (goal.at.invariant_of-self whole).After-index_mut-4 (c.self.inside.blocked - 1) (within c) (waits c) (request_is c) (log_is c) marks
    (omega (arith, one, some, c.self.invariant.blocked_are))

pub returns-then-not-was_first-clause-marks : goal.returns-then-not-was_first-clause-marks
returns-then-not-was_first-clause-marks whole =
    let c = (goal.at.returns-then-not-was_first-clause-marks whole).After-index_mut in
    ap eligible_column (log_is c)
    ∙ served_blocked c.self.inside.log.items c.args.place (within c) (waits c) (mark_is c false whole.if-not-was_first.true)
    ∙ ap (λ v. set (eligible_column v.log) c.args.place 0) c.self.view_is

-- none behind waits for the line where the counter says so
none_counted : (c : After-index_mut-4) → c.args.place < length c.self.inside.log.items → waits_at c.self.inside.log.items c.args.place ≡ true
    → c.index.result.now ≡ get_or c.self.inside.log.items c.args.place absent → c.index-2.result.now - 1 ≡ 0 → NoneBehind c.self.inside.log.items c.args.place (length c.self.inside.log.items)
none_counted c exists waiting there none =
    let q = c.self.inside in
    let log = q.log.items in
    let place = c.args.place in
    let line = c.line_counter-line.result in
    let value = c.index-2.result.now - 1 in
    let below : line < length q.lines.items = omega (arith, c.line_counter-line.ensures.within, c.self.invariant.masked) in
    let line_is = c.line_counter-line.ensures.value ∙ ap (λ (a : Arrived). line_counter q.mask a.request.place) there in
    let counted =
    counted_left (counter_of_line q.mask) q.lines.items log place line value exists waiting c.self.invariant.lines_are line_is below
    (ap (λ n. n - 1) (c.index-2.ensures ∙ get_or_default q.lines.items line c.index-2.result.now 0 below)) in
    none_alike log place
    (none_asks q.mask (set q.lines.items line value) (waiting_requests (served_at log place)) (get_or log place absent).request.place counted
    (omega (arith, below, line_is, length-set q.lines.items line value))
    (ap (λ k. get_or (set q.lines.items line value) k 0) (sym line_is) ∙ get_or-set_same q.lines.items line value 0 below ∙ none))

-- the counter of blocked ones where no other one is unblocked
same_count : (first : Bool) (blocked : ℕ) → first ≡ true → blocked + cond (not first) 1 0 ≡ blocked
same_count first blocked is = let none : cond {A = ℕ} (not first) 1 0 ≡ 0 = ap (λ b. cond {A = ℕ} (not b) 1 0) is in omega (arith, none)

-- the marks where no other one is unblocked
last : (c : After-index_mut) → c.is_eligible-was_first.result ≡ true → NoneBehind c.self.inside.log.items c.args.place (length c.self.inside.log.items)
    → eligible_column (served_at c.self.inside.log.items c.args.place) ≡ set (eligible_column c.self.inside.log.items) c.args.place 0
last c first none = served_last c.self.inside.log.items c.args.place (within c) (waits c) (mark_is c true first) none

none_either : (c : After-index_mut-4) → c.args.place < length c.self.inside.log.items → waits_at c.self.inside.log.items c.args.place ≡ true
    → c.index.result.now ≡ get_or c.self.inside.log.items c.args.place absent → (c.self.inside.blocked ≡ 0) ⊎ (c.self.inside.blocked ≢ 0) × (c.index-2.result.now - 1 ≡ 0)
    → NoneBehind c.self.inside.log.items c.args.place (length c.self.inside.log.items)
none_either c exists waiting there (inl none) = none_blocked c.self.inside.log.items c.args.place waiting (sym c.self.invariant.blocked_are ∙ none)
none_either c exists waiting there (inr none) = none_counted c exists waiting there none.1

pub invariant_of-self-then-self-eq0 : goal.invariant_of-self-then-self-eq0
invariant_of-self-then-self-eq0 whole =
    let c = (goal.at.invariant_of-self-then-self-eq0 whole).After-index_mut in
    let d = (goal.at.invariant_of-self-then-self-eq0 whole).After-index_mut-4 in
    let none = none_either d (within c) (waits c) (request_is c) whole.then-self-eq0.either in
    left_alone d c.self.inside.blocked (within c) (waits c) (request_is c) (log_is c) (last c whole.if-not-was_first.false none)
    (same_count (is_marked (get_or (eligible_column c.self.inside.log.items) c.args.place 0)) c.self.inside.blocked (mark_is c true whole.if-not-was_first.false))

pub returns-then-self-eq0-clause-marks : goal.returns-then-self-eq0-clause-marks
returns-then-self-eq0-clause-marks whole =
    let c = (goal.at.returns-then-self-eq0-clause-marks whole).After-index_mut in
    let d = (goal.at.returns-then-self-eq0-clause-marks whole).After-index_mut-4 in
    let none = none_either d (within c) (waits c) (request_is c) whole.then-self-eq0.either in
    ap eligible_column (log_is c) ∙ last c whole.if-not-was_first.false none ∙ ap (λ v. set (eligible_column v.log) c.args.place 0) c.self.view_is

pub next_for_line-requires : goal.next_for_line-requires
next_for_line-requires whole =
    let c = (goal.at.next_for_line-requires whole).After-index_mut in
    let q = c.self.inside in
    omega (
      arith,
      ap length whole.deref.ensures.value,
      ap length whole.deref-2.ensures.value,
      length-set q.tags.items c.args.place 127,
      length-set q.log.items c.args.place (record c.index_mut.result.now { waits = false }),
      ap length c.self.invariant.tags_are,
      length-tags q.log.items,
    )

-- none behind waits for the line where the search finds none
none_found : (c : After-index_mut) (log : List Arrived) (tags : List ℕ) → log ≡ set c.self.inside.log.items c.args.place (record c.index_mut.result.now { waits = false })
    → tags ≡ set c.self.inside.tags.items c.args.place served_tag → NoneTaggedAs false c.index.result.now.request.place log tags (c.args.place + 1) (length log)
    → NoneBehind c.self.inside.log.items c.args.place (length c.self.inside.log.items)
none_found c log tags log_left tags_left none =
    let q = c.self.inside in
    let long : length log ≡ length q.log.items = ap length log_left ∙ length-set q.log.items c.args.place (record c.index_mut.result.now { waits = false }) in
    subst (λ n. NoneBehind q.log.items c.args.place n) long
    (none_met q.log.items q.tags.items c.args.place c.index.result.now log tags (length log)
    (record { waits = waits c; there = request_is c; tags_are = c.self.invariant.tags_are; left_is = log_left ∙ log_is c; left_tags_are = tags_left }) (omega (arith, long)) none)

-- the next one of the line, where the search finds one
next_found : (c : After-index_mut) (log : List Arrived) (tags : List ℕ) (next : ℕ) → log ≡ set c.self.inside.log.items c.args.place (record c.index_mut.result.now { waits = false })
    → tags ≡ set c.self.inside.tags.items c.args.place served_tag → IsFoundAt false c.index.result.now.request.place log tags (c.args.place + 1) next
    → IsNextAt c.self.inside.log.items c.args.place next
next_found c log tags next log_left tags_left found =
    let q = c.self.inside in
    next_met q.log.items q.tags.items c.args.place c.index.result.now log tags next
    (record { waits = waits c; there = request_is c; tags_are = c.self.invariant.tags_are; left_is = log_left ∙ log_is c; left_tags_are = tags_left }) found

pub invariant_of-self-in_err-next : goal.invariant_of-self-in_err-next
invariant_of-self-in_err-next whole =
    let c = (goal.at.invariant_of-self-in_err-next whole).After-index_mut in
    let d = (goal.at.invariant_of-self-in_err-next whole).After-index_mut-4 in
    let none = none_found c whole.deref.result.now whole.deref-2.result.now whole.deref.ensures.value whole.deref-2.ensures.value (whole.in_err-next.ensures {u = tt}) in
    left_alone d c.self.inside.blocked (within c) (waits c) (request_is c) (log_is c) (last c whole.if-not-was_first.false none)
    (same_count (is_marked (get_or (eligible_column c.self.inside.log.items) c.args.place 0)) c.self.inside.blocked (mark_is c true whole.if-not-was_first.false))

pub returns-in_err-next-clause-marks : goal.returns-in_err-next-clause-marks
returns-in_err-next-clause-marks whole =
    let c = (goal.at.returns-in_err-next-clause-marks whole).After-index_mut in
    let none = none_found c whole.deref.result.now whole.deref-2.result.now whole.deref.ensures.value whole.deref-2.ensures.value (whole.in_err-next.ensures {u = tt}) in
    ap eligible_column (log_is c)
    ∙ last c whole.if-not-was_first.false none
    ∙ (λ i. unblocked_by (sym whole.from_residual.ensures i) (set (eligible_column (c.self.view_is i).log) c.args.place 0))

pub index_mut-requires-5 : goal.index_mut-requires-5
index_mut-requires-5 whole =
    let c = (goal.at.index_mut-requires-5 whole).After-index_mut in
    let q = c.self.inside in
    let found : IsFoundAt false whole.index.result.now.request.place whole.deref.result.now whole.deref-2.result.now (whole.args.place + 1) whole.in_ok-next.next = whole.in_ok-next.ensures {u = tt} in
    let next = next_found c whole.deref.result.now whole.deref-2.result.now whole.in_ok-next.next whole.deref.ensures.value whole.deref-2.ensures.value found in
    omega (arith, next.within, ap length c.self.invariant.tags_are, length-tags q.log.items, whole.self.inside.tags.ok.0)

pub invariant_of-self-2 : goal.invariant_of-self-2
invariant_of-self-2 whole =
    let c = (goal.at.invariant_of-self-2 whole).After-index_mut in
    let d = (goal.at.invariant_of-self-2 whole).After-index_mut-4 in
    let q = c.self.inside in
    let place = c.args.place in
    let next_place = whole.in_ok-next.next in
    let found : IsFoundAt false whole.index.result.now.request.place whole.deref.result.now whole.deref-2.result.now (whole.args.place + 1) next_place = whole.in_ok-next.ensures {u = tt} in
    let next = next_found c whole.deref.result.now whole.deref-2.result.now next_place whole.deref.ensures.value whole.deref-2.ensures.value found in
    let mark = mark_is c true whole.if-not-was_first.false in
    let below : next_place < length (served_at q.log.items place) = omega (arith, next.within, length-served q.log.items place) in
    let read : whole.index-4.result.now ≡ get_or (served_at q.log.items place) next_place absent =
    whole.index-4.ensures
    ∙ ap (λ (log : List Arrived). get_or log next_place whole.index-4.result.now) (log_is c)
    ∙ get_or_default (served_at q.log.items place) next_place whole.index-4.result.now absent below in
    let tag = whole.tag_of.ensures ∙ ap (λ (a : Arrived). tag_word true a.request.access (bank_number a.request.place)) read in
    let fewer = blocked_fewer q.log.items place next_place (within c) (waits c) mark next in
    left d (with_item (with_item q.tags place served_tag) next_place whole.tag_of.result) (q.blocked - 1) (within c) (waits c) (request_is c) (log_is c)
    (tags_next q.log.items q.tags.items place next_place whole.tag_of.result (within c) (waits c) mark next c.self.invariant.tags_are tag) refl
    (omega (arith, fewer, c.self.invariant.blocked_are))

pub returns-clause-marks : goal.returns-clause-marks
returns-clause-marks whole =
    let c = (goal.at.returns-clause-marks whole).After-index_mut in
    let q = c.self.inside in
    let next_place = whole.in_ok-next.next in
    let found : IsFoundAt false whole.index.result.now.request.place whole.deref.result.now whole.deref-2.result.now (whole.args.place + 1) next_place = whole.in_ok-next.ensures {u = tt} in
    let next = next_found c whole.deref.result.now whole.deref-2.result.now next_place whole.deref.ensures.value whole.deref-2.ensures.value found in
    ap eligible_column (log_is c)
    ∙ marks_next q.log.items c.args.place next_place (within c) (waits c) (mark_is c true whole.if-not-was_first.false) next
    ∙ ap (λ v. set (set (eligible_column v.log) c.args.place 0) next_place 1) c.self.view_is

-- the next one of the line was behind the one that is served
pub returns-clause-newly : goal.returns-clause-newly
returns-clause-newly whole =
    let c = (goal.at.returns-clause-newly whole).After-index_mut in
    let log = c.self.inside.log.items in
    let next_place = whole.in_ok-next.next in
    let found : IsFoundAt false whole.index.result.now.request.place whole.deref.result.now whole.deref-2.result.now (whole.args.place + 1) next_place = whole.in_ok-next.ensures {u = tt} in
    let next = next_found c whole.deref.result.now whole.deref-2.result.now next_place whole.deref.ensures.value whole.deref-2.ensures.value found in
    ap (λ v. is_marked (get_or (eligible_column v.log) next_place 0)) (sym c.self.view_is) ∙ blocked_behind log c.args.place next_place next.behind next.within (waits c) next.here

pub returns-then-not-was_first-clause-log : goal.returns-then-not-was_first-clause-log
returns-then-not-was_first-clause-log whole = let c = (goal.at.returns-then-not-was_first-clause-log whole).After-index_mut in seen_left c _ c.self.view_is

pub returns-then-self-eq0-clause-log : goal.returns-then-self-eq0-clause-log
returns-then-self-eq0-clause-log whole = let c = (goal.at.returns-then-self-eq0-clause-log whole).After-index_mut in seen_left c _ c.self.view_is

pub returns-in_err-next-clause-log : goal.returns-in_err-next-clause-log
returns-in_err-next-clause-log whole = let c = (goal.at.returns-in_err-next-clause-log whole).After-index_mut in seen_left c _ c.self.view_is

pub returns-clause-log : goal.returns-clause-log
returns-clause-log whole = let c = (goal.at.returns-clause-log whole).After-index_mut in seen_left c _ c.self.view_is
