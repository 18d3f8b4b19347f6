-- The core is behind what it takes, and then comes up to what is left.
use Rattle.std.proofs.Common.{◌∙◌, ◌∷◌, List, refl, sym, ap, subst, arith}
use Rattle.std.specs.Prelude.{fold}
use Rattle.sim_base.specs.History.{insert_by_age}
use Rattle.sim_base.specs.declared.message.Message.{Message}
use Rattle.core_window.specs.Arriving.{IsByAge, all_arriving}
use Rattle.core_window.specs.CoreViews.{view_of}
use Rattle.core_window.specs.Replies.{with_reply}
use Rattle.core_window.specs.Rests.{rested}
use Rattle.core_window.specs.Stalled.{IsBehind, HasTakenUpTo}
use Rattle.core_window.proofs.Stalling.{run-standing, stalled-standing, up_to-first, behind-first, behind-room, behind-order, behind-channels, behind-reply, behind-last, behind-may_rest}
use Rattle.core_window.proofs.Working.{sound}
use Rattle.core_window.proofs.core_unit.Core.take_while_stalled.Goals as goal

pub is_stalled-requires : goal.is_stalled-requires
is_stalled-requires c =
    let v = view_of c.args.self.now in
    (sound v (run-standing v c.args.self.now.cycle c.args.until (all_arriving c.args.arriving) c.requires.fit)).retired

pub returns-then-not-is_stalled : goal.returns-then-not-is_stalled
returns-then-not-is_stalled c = up_to-first (view_of c.args.self.now) c.args.self.now.cycle c.args.until c.args.arriving refl c.requires.order c.requires.by_age

pub replies-init : goal.replies-init
replies-init c =
    let v = view_of c.args.self.now in
    behind-first v c.args.self.now.cycle c.args.until c.args.arriving v.stats.retired refl c.requires.order c.requires.by_age
    (stalled-standing v (run-standing v c.args.self.now.cycle c.args.until (all_arriving c.args.arriving) c.requires.fit) (c.if-not-is_stalled.ensures.undone refl) (c.if-not-is_stalled.ensures.full refl))

pub take_up_to_reply-requires-clause-channels : goal.take_up_to_reply-requires-clause-channels
take_up_to_reply-requires-clause-channels c =
    behind-channels (view_of c.args.self.now) c.args.self.now.cycle c.args.until c.args.arriving c.replies.rest c.args.self.now.stats.retired (view_of c.replies.self) c.requires.fit c.replies.invariant

pub take_up_to_reply-requires-clause-by_age : goal.take_up_to_reply-requires-clause-by_age
take_up_to_reply-requires-clause-by_age c = c.replies.invariant.took.by_age

pub receive_reply-requires-clause-room : goal.receive_reply-requires-clause-room
receive_reply-requires-clause-room c =
    let a = view_of c.args.self.now in
    let found = c.in-Some.ensures.some in
    behind-room a a.now c.args.until c.args.arriving found.between a.stats.retired (view_of c.take_up_to_reply.new.self) c.requires.fit
    (found.stays a a.now c.args.until c.args.arriving c.requires.fit refl c.replies.invariant) c.requires.early

pub receive_reply-requires-clause-order : goal.receive_reply-requires-clause-order
receive_reply-requires-clause-order c =
    let a = view_of c.args.self.now in
    let found = c.in-Some.ensures.some in
    behind-order a a.now c.args.until c.args.arriving found.between a.stats.retired (view_of c.take_up_to_reply.new.self) c.requires.fit
    (found.stays a a.now c.args.until c.args.arriving c.requires.fit refl c.replies.invariant)

pub replies-preserved : goal.replies-preserved
replies-preserved c =
    let a = view_of c.args.self.now in
    let v = view_of c.take_up_to_reply.new.self in
    let found = c.in-Some.ensures.some in
    let message = found.next.message in
    let after = c.take_up_to_reply.new.rest in
    behind-reply a a.now c.args.until c.args.arriving found.between after a.stats.retired v (view_of c.receive_reply.new.self) message c.in-Some.reply.entry c.requires.fit refl
    (found.stays a a.now c.args.until c.args.arriving c.requires.fit refl c.replies.invariant)
    (found.begins message after.replies.now found.next.at ∙ ap (λ (credits : List Message). message ∷ fold insert_by_age after.replies.now credits) (sym found.next.others))
    (subst IsByAge (sym found.next.others) found.by_age)
    found.next.is
    found.next.other
    (c.receive_reply.ensures ∙ ap (with_reply v c.in-Some.reply.entry) (sym found.next.arrival))

pub first_arrival-next-requires : goal.first_arrival-next-requires
first_arrival-next-requires c =
    let a = view_of c.args.self.now in
    (c.in_default.ensures.none refl a a.now c.args.until c.args.arriving c.requires.fit refl c.replies.invariant).took.by_age

pub rest-requires-clause-room : goal.rest-requires-clause-room
rest-requires-clause-room c =
    let a = view_of c.args.self.now in
    let v = view_of c.take_up_to_reply.new.self in
    let rest = c.take_up_to_reply.new.rest in
    let behind : IsBehind a a.now c.args.until c.args.arriving rest a.stats.retired v = c.in_default.ensures.none refl a a.now c.args.until c.args.arriving c.requires.fit refl c.replies.invariant in
    let last = behind-last a a.now c.args.until c.args.arriving rest a.stats.retired v c.requires.fit refl behind in
    behind-may_rest a a.now c.args.until c.args.arriving rest a.stats.retired v c.first_arrival-next.result c.requires.fit behind (omega (arith, c.first_arrival-next.ensures, last.2)) c.requires.early

pub rest-requires-clause-order : goal.rest-requires-clause-order
rest-requires-clause-order c =
    let a = view_of c.args.self.now in
    let v = view_of c.take_up_to_reply.new.self in
    let rest = c.take_up_to_reply.new.rest in
    let behind : IsBehind a a.now c.args.until c.args.arriving rest a.stats.retired v = c.in_default.ensures.none refl a a.now c.args.until c.args.arriving c.requires.fit refl c.replies.invariant in
    let last = behind-last a a.now c.args.until c.args.arriving rest a.stats.retired v c.requires.fit refl behind in
    omega (arith, c.first_arrival-next.ensures, last.1, behind.since)

pub returns : goal.returns
returns c =
    let a = view_of c.args.self.now in
    let v = view_of c.take_up_to_reply.new.self in
    let rest = c.take_up_to_reply.new.rest in
    let behind : IsBehind a a.now c.args.until c.args.arriving rest a.stats.retired v = c.in_default.ensures.none refl a a.now c.args.until c.args.arriving c.requires.fit refl c.replies.invariant in
    let last = behind-last a a.now c.args.until c.args.arriving rest a.stats.retired v c.requires.fit refl behind in
    subst (HasTakenUpTo a a.now c.args.until c.args.arriving rest) (ap (rested v) (sym c.first_arrival-next.ensures) ∙ sym c.rest.ensures) last.0
