use Rattle.std.proofs.Common.{◌+◌, ◌≤◌, length, sym, ap, subst, ◌∙◌, arith}
use Rattle.queue.specs.Log.{waiting_requests}
use Rattle.queue.specs.View.{QueueView}
use Rattle.channel_step.specs.Channels.{StandsFor}
use Rattle.channel_step.proofs.Renewing.{waiting-same}
use Rattle.channel_step.proofs.channel.Channel.make_room.Goals as goal

pub returns-then-make_room-clause-room : goal.returns-then-make_room-clause-room
returns-then-make_room-clause-room c =
    let q = c.args.self.now.queue in
    let moved = c.renew.ensures.queue ∙ c.make_room.ensures.moved c.if-make_room.true in
    omega (arith, ap (λ (y : QueueView). length (waiting_requests y.log)) moved, ap length (waiting-same q.log), ap (λ (y : QueueView). y.room) moved, c.requires)

pub make_room-requires : goal.make_room-requires
make_room-requires c = c.requires

pub returns-then-make_room-clause-places : goal.returns-then-make_room-clause-places
returns-then-make_room-clause-places c =
    subst (λ (q : QueueView). length q.log + c.args.count ≤ q.places) (sym c.renew.ensures.queue) c.make_room.ensures.places

pub returns-then-make_room-clause-stands : goal.returns-then-make_room-clause-stands
returns-then-make_room-clause-stands c =
    c.renew.ensures.stands c.args.self.now (ap (λ q. record c.args.self.now { queue = q }) (c.make_room.ensures.moved c.if-make_room.true))

pub returns-else-make_room-clause-places : goal.returns-else-make_room-clause-places
returns-else-make_room-clause-places c = c.make_room.ensures.places

pub returns-else-make_room-clause-room : goal.returns-else-make_room-clause-room
returns-else-make_room-clause-room c =
    subst (λ (q : QueueView). length (waiting_requests q.log) + c.args.count ≤ q.room) (sym (c.make_room.ensures.kept c.if-make_room.false)) c.requires

pub returns-else-make_room-clause-stands : goal.returns-else-make_room-clause-stands
returns-else-make_room-clause-stands c s channel steps mail h =
    subst (λ q. StandsFor (record c.args.self.now { queue = q }) s channel steps mail) (sym (c.make_room.ensures.kept c.if-make_room.false)) h
