use Rattle.std.proofs.Common.{◌≡◌, ◌<◌, ◌+◌, length, sym, ap, ap₂, subst, ◌∙◌}
use Rattle.std.specs.Prelude.{IfSome}
use Rattle.sim_base.specs.declared.message.Unit.TheVariants.{Core}
use Rattle.links.specs.InFlight.{InFlight, first_arrival, without_due, in_flight_to, NoneArrivesBefore}
use Rattle.links.specs.Buffers.{contents, due_in_buffer, number_of_replies, without_due_in, in_buffer}
use Rattle.sim_base.specs.Earlier.{earlier}
use Rattle.links.proofs.Both.{credits_stay, without_core_is, first_core_is, none_sooner}
use Rattle.links.proofs.flight.Links.drop_due_at_core.Goals as goal
use Rattle.links.proofs.flight.Links.drop_due_at_core.Goals.{After-earlier}

pub drop_due-credit-requires : goal.drop_due-credit-requires
drop_due-credit-requires c =
    let same = c.replies_number-number.ensures.number ∙ ap {A = InFlight} (λ f. number_of_replies f.channels c.args.core) c.self.view_is in
    c.requires.credits
    ∙ ap (λ n. length (due_in_buffer c.args.self.now (n + 1) c.args.until)) (sym same)
    ∙ ap length (sym (credits_stay c.args.self.now c.replies_number-number.result c.args.until))
    ∙ ap (λ f. length (due_in_buffer f (c.replies_number-number.result + 1) c.args.until)) (sym c.drop_due-reply.ensures.rest)

rest : (c : After-earlier) → c.drop_due-credit.new.self ≡ without_due c.args.self.now (Core c.args.core) c.args.until
rest c =
    let same = c.replies_number-number.ensures.number ∙ ap {A = InFlight} (λ f. number_of_replies f.channels c.args.core) c.self.view_is in
    let some : 0 < c.args.self.now.channels = subst {A = InFlight} (λ f. 0 < f.channels) c.self.view_is c.self.invariant.0 in
    c.drop_due-credit.ensures.rest
    ∙ ap₂ (λ f n. without_due_in f (n + 1) c.args.until) c.drop_due-reply.ensures.rest same
    ∙ ap (λ n. without_due_in (without_due_in c.args.self.now n c.args.until) (number_of_replies c.args.self.now.channels c.args.core + 1) c.args.until) same
    ∙ without_core_is c.args.self.now c.args.core c.args.until some

pub returns-clause-rest : goal.returns-clause-rest
returns-clause-rest c = rest c

first : (c : After-earlier) → c.earlier.result ≡ first_arrival (in_flight_to c.drop_due-credit.new.self (Core c.args.core))
first c =
    let n = number_of_replies c.self.inside.channels c.args.core in
    let same = c.replies_number-number.ensures.number in
    let after = rest c in
    c.earlier.ensures
    ∙ ap₂ earlier
    (c.drop_due-reply.ensures.next
    ∙ ap₂ (λ f k. first_arrival (in_buffer f k)) c.drop_due-reply.ensures.rest same
    ∙ ap (λ k. first_arrival (in_buffer (without_due_in c.args.self.now k c.args.until) n)) same)
    (c.drop_due-credit.ensures.next ∙ ap₂ (λ f k. first_arrival (in_buffer f (k + 1))) after same)
    ∙ first_core_is c.self.inside.channels c.args.core c.args.until c.args.self.now _ c.self.invariant.0 c.self.invariant.1 (sym c.self.view_is)
    ∙ ap (λ f. first_arrival (in_flight_to f (Core c.args.core))) (sym after)

pub returns-clause-next : goal.returns-clause-next
returns-clause-next c = first c

pub returns-clause-least : goal.returns-clause-least
returns-clause-least c =
    let after = rest c in
    subst (λ f. IfSome c.earlier.result (λ cycle. NoneArrivesBefore cycle (in_flight_to f (Core c.args.core)))) (sym after)
    (none_sooner c.self.inside.channels c.args.core c.args.until c.args.self.now (contents c.self.inside.buffers.items) c.earlier.result (sym c.self.view_is)
    (first c ∙ ap (λ f. first_arrival (in_flight_to f (Core c.args.core))) after))
