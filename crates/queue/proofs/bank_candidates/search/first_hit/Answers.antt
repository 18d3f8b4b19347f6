-- None is a hit where no row is open, or none may be served. The oldest one passes where it asks for the row, and no
-- other stands before it.
use Rattle.std.proofs.Common.{None, length, get_or, eq-eqb, ne_eqb, sym, ap, ◌∙◌, arith}
use Rattle.queue.specs.Log.{absent}
use Rattle.queue.specs.Candidates.{asks, hits, first_place}
use Rattle.queue.proofs.Hits.{first_asks, row_at, hit_here, hit_behind}
use Rattle.queue.proofs.OneBank.{never_hits, hits_narrower}
use Rattle.queue.proofs.Searches.{none_everywhere, none_narrower_all}
use Rattle.queue.proofs.bank_candidates.search.first_hit.Goals as goal

pub returns-in_default-clause-first : goal.returns-in_default-clause-first
returns-in_default-clause-first c few is =
    let bank = c.args.bank in
    let access = c.args.access in
    none_narrower_all (hits bank access c.args.row) (asks bank access) c.args.log.now.log (hits_narrower bank access c.args.row) (sym c.in_default.is-1 ∙ is)

pub returns-in_default-2-clause-first : goal.returns-in_default-2-clause-first
returns-in_default-2-clause-first c few is =
    let bank = c.args.bank in
    let access = c.args.access in
    let log = c.args.log.now.log in
    none_everywhere (hits bank access None) log (never_hits bank access) ∙ ap (λ o. first_place (hits bank access o) log) (sym c.in_default.is-0)

pub returns-then-oldest-arrived-clause-first : goal.returns-then-oldest-arrived-clause-first
returns-then-oldest-arrived-clause-first c few is =
    let oldest = c.in-Some-Some.oldest in
    absurd (omega (arith, (first_asks (asks c.args.bank c.args.access) c.args.log.now.log oldest (sym c.in-Some-Some.is-1 ∙ is)).0, ap length c.log-arrived.ensures.log, c.if-oldest-arrived.true))

pub returns-then-arrived-oldest-clause-first : goal.returns-then-arrived-oldest-clause-first
returns-then-arrived-oldest-clause-first c few is =
    let log = c.args.log.now.log in
    let oldest = c.in-Some-Some.oldest in
    let row = c.in-Some-Some.row in
    hit_here log c.log-arrived.result.now oldest c.args.bank row c.args.access absent (omega (arith, ap length c.log-arrived.ensures.log, c.if-oldest-arrived.false)) c.log-arrived.ensures.log
    (sym c.in-Some-Some.is-1 ∙ is) (eq-eqb (get_or c.log-arrived.result.now oldest absent).request.place.row row c.if-arrived-oldest.true)
    ∙ ap (λ o. first_place (hits c.args.bank c.args.access o) log) (sym c.in-Some-Some.is-0)

pub returns-clause-first : goal.returns-clause-first
returns-clause-first c few is =
    let log = c.args.log.now.log in
    let oldest = c.in-Some-Some.oldest in
    let row = c.in-Some-Some.row in
    let first = sym c.in-Some-Some.is-1 ∙ is in
    c.first_behind.ensures.first few (first_asks (asks c.args.bank c.args.access) log oldest first).1
    (hit_behind log oldest c.args.bank row c.args.access first
    (λ within.
    row_at log c.log-arrived.result.now oldest absent absent row within c.log-arrived.ensures.log
    ∙ ne_eqb (get_or c.log-arrived.result.now oldest absent).request.place.row row c.if-arrived-oldest.false))
    ∙ ap (λ o. first_place (hits c.args.bank c.args.access o) log) (sym c.in-Some-Some.is-0)
