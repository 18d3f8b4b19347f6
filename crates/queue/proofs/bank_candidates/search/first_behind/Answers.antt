-- The search goes from each request of the bank and the access to the next, and none between them is wanted.
use Rattle.std.proofs.Common.{◌+◌, ◌<◌, ◌&&◌, length, get_or, sym, ap, subst, ◌∙◌, arith}
use Rattle.std.proofs.Math.Bool.{and-false}
use Rattle.queue.specs.Marks.{is_marked}
use Rattle.queue.specs.Log.{absent, eligible_column}
use Rattle.queue.specs.Candidates.{wants}
use Rattle.queue.proofs.Searches.{none_waits}
use Rattle.queue.proofs.Behind.{left_to_meet, met, exists, fewer, found-met, other-row, passed, none-met}
use Rattle.queue.proofs.bank_candidates.search.first_behind.Goals as goal
use Rattle.queue.proofs.bank_candidates.search.first_behind.Goals.{else-is_eligible-via-then-is_eligible+else-asks_row, else-is_eligible-via-else-is_eligible}

pub returns-then-not-may_be_wanted-clause-first : goal.returns-then-not-may_be_wanted-clause-first
returns-then-not-may_be_wanted-clause-first c few asked before =
    none_waits (wants c.args.bank c.args.access c.args.row) c.args.log.now.log (c.may_be_wanted.ensures c.if-not-may_be_wanted.true)

pub loop-alike-init : goal.loop-alike-init
loop-alike-init c = record { from = c.args.place + 1; next = c.next_alike-alike.ensures; none = λ asked fails. fails }

pub is_eligible-requires : goal.is_eligible-requires
is_eligible-requires c =
    exists c.args.log.now.log c.args.bank c.args.access c.args.row c.args.place c.in-Some.next
    (met c.args.log.now.log c.args.bank c.args.access c.args.row c.args.place c.in-Some.next c.loop-alike.alike c.loop-alike.invariant c.in-Some.is)

pub offset_bounds-log-next : goal.offset_bounds-log-next
offset_bounds-log-next c =
    let ahead = met c.args.log.now.log c.args.bank c.args.access c.args.row c.args.place c.in-Some.next c.loop-alike.alike c.loop-alike.invariant c.in-Some.is in
    omega (arith, exists c.args.log.now.log c.args.bank c.args.access c.args.row c.args.place c.in-Some.next ahead, ap length c.log.ensures.log, c.log.ensures.short)

pub bounds-log-next : goal.bounds-log-next
bounds-log-next c =
    let ahead = met c.args.log.now.log c.args.bank c.args.access c.args.row c.args.place c.in-Some.next c.loop-alike.alike c.loop-alike.invariant c.in-Some.is in
    omega (arith, exists c.args.log.now.log c.args.bank c.args.access c.args.row c.args.place c.in-Some.next ahead, ap length c.log.ensures.log)

pub returns-then-asks_row-clause-first : goal.returns-then-asks_row-clause-first
returns-then-asks_row-clause-first c few asked before =
    let log = c.args.log.now.log in
    let ahead = met log c.args.bank c.args.access c.args.row c.args.place c.in-Some.next c.loop-alike.alike c.loop-alike.invariant c.in-Some.is in
    found-met log c.log.result.now c.args.bank c.args.access c.args.row c.args.place c.in-Some.next _ c.is_eligible.result c.asks_row.result c.requires ahead c.log.ensures.log c.is_eligible.ensures
    c.asks_row.ensures c.if-is_eligible.true c.if-asks_row.true few asked before

pub returns-then-asks_row-clause-within : goal.returns-then-asks_row-clause-within
returns-then-asks_row-clause-within c =
    exists c.args.log.now.log c.args.bank c.args.access c.args.row c.args.place c.in-Some.next
    (met c.args.log.now.log c.args.bank c.args.access c.args.row c.args.place c.in-Some.next c.loop-alike.alike c.loop-alike.invariant c.in-Some.is)

pub next_alike-alike-requires-in-Some : goal.next_alike-alike-requires-in-Some
next_alike-alike-requires-in-Some c =
    exists c.args.log.now.log c.args.bank c.args.access c.args.row c.args.place c.in-Some.next
    (met c.args.log.now.log c.args.bank c.args.access c.args.row c.args.place c.in-Some.next c.loop-alike.alike c.loop-alike.invariant c.in-Some.is)

pub loop-alike-smaller : goal.loop-alike-smaller
loop-alike-smaller c =
    let log = c.args.log.now.log in
    let ahead = met log c.args.bank c.args.access c.args.row c.args.place c.in-Some.next c.loop-alike.alike c.loop-alike.invariant c.in-Some.is in
    subst (λ alike. left_to_meet log c.next_alike-alike-in-Some.result < left_to_meet log alike) (sym c.in-Some.is)
    (fewer log _ c.in-Some.next c.next_alike-alike-in-Some.result (exists log c.args.bank c.args.access c.args.row c.args.place c.in-Some.next ahead) c.next_alike-alike-in-Some.ensures)

pub loop-alike-preserved : goal.loop-alike-preserved
loop-alike-preserved c =
    let log = c.args.log.now.log in
    let test = wants c.args.bank c.args.access c.args.row in
    let next = c.in-Some.next in
    let ahead = met log c.args.bank c.args.access c.args.row c.args.place next c.loop-alike.alike c.loop-alike.invariant c.in-Some.is in
    let within = exists log c.args.bank c.args.access c.args.row c.args.place next ahead in
    let mark = is_marked (get_or (eligible_column log) next 0) in
    passed log c.args.bank c.args.access c.args.row c.args.place next c.next_alike-alike-in-Some.result c.requires ahead c.next_alike-alike-in-Some.ensures (elim c.else-is_eligible.branch [
      | else-is_eligible-via-then-is_eligible+else-asks_row w ↦
          ap (λ b. mark && b) (other-row log w.log.result.now c.args.bank c.args.access c.args.row next _ w.asks_row.result within w.log.ensures.log w.asks_row.ensures w.if-asks_row.false) ∙ and-false mark
      | else-is_eligible-via-else-is_eligible w ↦ ap (λ b. b && test (get_or log next absent).request) (sym c.is_eligible.ensures ∙ w.if-is_eligible.false)
    ])

pub returns-clause-first : goal.returns-clause-first
returns-clause-first c few asked before =
    none-met c.args.log.now.log c.args.bank c.args.access c.args.row c.args.place c.loop-alike.alike c.requires c.loop-alike.invariant c.in_default.is asked before
