use Rattle.std.proofs.Common.{◌≡◌, sym, subst}
use Rattle.std.specs.List.{AllByRecursion as Each}
use Rattle.sim_base.specs.History.{by_age}
use Rattle.links.specs.Buffers.{contents}
use Rattle.links.proofs.Held.{AreBuffers-in_order}
use Rattle.links.proofs.flight.Links.messages.Goals as goal

pub messages_of-requires : goal.messages_of-requires
messages_of-requires c = subst (λ buffers. Each (λ ms. by_age ms ≡ ms) (contents buffers)) (sym c.deref.ensures.value) (AreBuffers-in_order _ 0 _ c.self.invariant.1)
