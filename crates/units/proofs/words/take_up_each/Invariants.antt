-- The messages so far are taken up.
use Rattle.std.proofs.Common.{◌≡◌, take}
use Rattle.links.specs.InFlight.{with_sent}
use Rattle.units.specs.Wakes.{AreEarly, AreLowered}
use Rattle.units.proofs.words.take_up_each.Given as goal

abbrev pub invariant-loop-message : goal.invariant-loop-message
invariant-loop-message l = record {
  lowered : AreEarly l.config l.first l.fn.words l.fn.links → AreLowered l.config l.first (take l.message-index l.sent) l.fn.words l.words;
  links : l.links ≡ with_sent l.fn.links (take l.message-index l.sent);
}
