-- The place is the first at which a request passes.
use Rattle.std.proofs.Common.{◌<◌, ◌+◌, ◌-◌, ◌&&◌, length, take, drop, get_or, ap, ◌∙◌, arith}
use Rattle.std.proofs.Math.Bool.{and-false}
use Rattle.std.proofs.lemmas.List.{length-drop, take_rest}
use Rattle.queue.specs.Log.{eligible_column}
use Rattle.queue.specs.Marks.{is_marked}
use Rattle.queue.specs.Candidates.{wants}
use Rattle.queue.proofs.Searches.{tested, none_more, found_here, found_none, none_waits}
use Rattle.queue.proofs.Tagged.{same_length, none_tagged, marked_tag}
use Rattle.queue.proofs.bank_candidates.search.first_from.Goals as goal

-- none is found where none may be wanted
pub returns-then-not-may_be_wanted-clause-first : goal.returns-then-not-may_be_wanted-clause-first
returns-then-not-may_be_wanted-clause-first c before =
    none_waits (wants c.args.bank c.args.access c.args.row) c.args.log.now.log (c.may_be_wanted.ensures c.if-not-may_be_wanted.true)

pub offset_bounds-arrived-at : goal.offset_bounds-arrived-at
offset_bounds-arrived-at c =
    let tags = c.tags-tags.result.now in
    let at = c.loop-at.at in
    let m = c.in-Some.ensures {u = tt} in
    omega (arith, m.0.high, ap length (take_rest tags at), length-drop at tags, same_length tags c.args.log.now.log c.tags-tags.ensures, ap length c.log-arrived.ensures.log, c.log-arrived.type_inv)

pub bounds-arrived-at : goal.bounds-arrived-at
bounds-arrived-at c =
    let tags = c.tags-tags.result.now in
    let at = c.loop-at.at in
    let m = c.in-Some.ensures {u = tt} in
    omega (arith, m.0.high, ap length (take_rest tags at), length-drop at tags, same_length tags c.args.log.now.log c.tags-tags.ensures, ap length c.log-arrived.ensures.log)

pub returns-then-is_wanted-clause-within : goal.returns-then-is_wanted-clause-within
returns-then-is_wanted-clause-within c =
    let tags = c.tags-tags.result.now in
    let at = c.loop-at.at in
    let m = c.in-Some.ensures {u = tt} in
    omega (arith, m.0.high, ap length (take_rest tags at), length-drop at tags, same_length tags c.args.log.now.log c.tags-tags.ensures)

pub returns-then-is_wanted-clause-first : goal.returns-then-is_wanted-clause-first
returns-then-is_wanted-clause-first c before =
    let log = c.args.log.now.log in
    let tags = c.tags-tags.result.now in
    let at = c.loop-at.at in
    let next = c.in-Some.next in
    let place = at + next in
    let test = wants c.args.bank c.args.access c.args.row in
    let m = c.in-Some.ensures {u = tt} in
    let within : place < length log = omega (arith, m.0.high, ap length (take_rest tags at), length-drop at tags, same_length tags log c.tags-tags.ensures) in
    let none = none_tagged c.args.bank c.args.access c.args.row log tags _ _ at next c.tags-tags.ensures (take_rest tags at) c.tag_word-tag.ensures (c.loop-at.invariant before) m.0.before in
    found_here test log place within none
    (λ d.
    tested test log c.log-arrived.result.now place _ c.is_wanted.result d within c.log-arrived.ensures.log c.is_wanted.ensures
    ∙ ap (λ b. b && c.is_wanted.result) (marked_tag c.args.bank c.args.access log tags _ _ at next c.tags-tags.ensures (take_rest tags at) c.tag_word-tag.ensures within m.1)
    ∙ c.if-is_wanted.true)

pub loop-at-preserved : goal.loop-at-preserved
loop-at-preserved c before =
    let log = c.args.log.now.log in
    let tags = c.tags-tags.result.now in
    let at = c.loop-at.at in
    let next = c.in-Some.next in
    let place = at + next in
    let test = wants c.args.bank c.args.access c.args.row in
    let m = c.in-Some.ensures {u = tt} in
    let none = none_tagged c.args.bank c.args.access c.args.row log tags _ _ at next c.tags-tags.ensures (take_rest tags at) c.tag_word-tag.ensures (c.loop-at.invariant before) m.0.before in
    none_more test log place none
    (λ d within.
    tested test log c.log-arrived.result.now place _ c.is_wanted.result d within c.log-arrived.ensures.log c.is_wanted.ensures
    ∙ ap (λ b. is_marked (get_or (eligible_column log) place 0) && b) c.if-is_wanted.false
    ∙ and-false (is_marked (get_or (eligible_column log) place 0)))

pub returns-in_default-clause-first : goal.returns-in_default-clause-first
returns-in_default-clause-first c before =
    let log = c.args.log.now.log in
    let tags = c.tags-tags.result.now in
    let at = c.loop-at.at in
    let left = take (length tags - at) (drop at tags) in
    let test = wants c.args.bank c.args.access c.args.row in
    let none =
    none_tagged c.args.bank c.args.access c.args.row log tags left _ at (length left) c.tags-tags.ensures (take_rest tags at) c.tag_word-tag.ensures (c.loop-at.invariant before)
    (c.in_default.ensures {u = tt}) in
    found_none test log (at + length left) (omega (arith, ap length (take_rest tags at), length-drop at tags, same_length tags log c.tags-tags.ensures)) none

pub returns-clause-first : goal.returns-clause-first
returns-clause-first c before =
    let log = c.args.log.now.log in
    found_none (wants c.args.bank c.args.access c.args.row) log c.loop-at.at (omega (arith, same_length c.tags-tags.result.now log c.tags-tags.ensures)) (c.loop-at.invariant before)
