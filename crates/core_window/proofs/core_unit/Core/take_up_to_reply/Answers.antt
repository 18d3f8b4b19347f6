-- Each credit is the next message by age, and so is the reply then.
use Rattle.std.proofs.Common.{◌∙◌, Option, Some, None, refl, sym, ap}
use Rattle.std.specs.Option.{IfSome}
use Rattle.core_window.specs.Arriving.{IsNextReply}
use Rattle.core_window.specs.CoreViews.{view_of}
use Rattle.core_window.specs.Views.{CoreView}
use Rattle.core_window.specs.declared.receive.Arriving.{Arriving}
use Rattle.core_window.specs.declared.receive.Reply.{Reply}
use Rattle.core_window.specs.Stalled.{FindsReply}
use Rattle.core_window.proofs.Stalling.{behind-credit}
use Rattle.core_window.proofs.core_unit.Core.take_up_to_reply.Goals as goal

pub credits-preserved : goal.credits-preserved
credits-preserved c =
    let due = c.in-Some.ensures.some in
    let inv = c.credits.invariant in
    let old = view_of c.credits.self in
    let new = view_of c.receive_credit.new.self in
    let after : Arriving = record c.credits.rest { credits = c.in-Some.later } in
    record {
      channels = c.receive_credit.ensures.len ∙ inv.channels ∙ sym (ap (λ (v : CoreView). v.config.channels) c.receive_credit.ensures.rest);
      by_age = due.by_age;
      same = inv.same;
      stays = λ a from until arriving may start h. behind-credit a from until arriving c.credits.rest after c.args.first old new c.in-Some.message.now c.in-Credit.access c.in-Credit.entry may start
          (inv.stays a from until arriving may start h) due.next due.by_age c.in-Credit.is c.receive_credit.ensures.rest c.receive_credit.ensures.len c.receive_credit.ensures.credits;
    }

pub returns-clause-some : goal.returns-clause-some
returns-clause-some c = by c.next_other_reply.result c.next_other_reply.ensures.some
  where
    by : (o : Option Reply) → IfSome o (λ reply. IsNextReply c.args.first c.credits.rest reply c.next_other_reply.new.self)
        → IfSome o (FindsReply c.args.first (view_of c.args.self.now) c.args.rest.now (view_of c.credits.self) c.next_other_reply.new.self)
    by None h = tt
    by (Some reply) h =
        record { between = c.credits.rest; stays = c.credits.invariant.stays; begins = c.in_default.ensures.none refl; by_age = c.credits.invariant.by_age; same = c.credits.invariant.same; next = h }
