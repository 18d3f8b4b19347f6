use Rattle.links.proofs.Room.{Grows-trans, Grows-push}
use Rattle.links.proofs.flight.make_buffers.Goals as goal

pub loop-alloc-preserved : goal.loop-alloc-preserved
loop-alloc-preserved c = Grows-trans _ _ _ c.loop-alloc.invariant (rw (c.in_ok-push.ensures.items, c.new.ensures) (Grows-push _))
