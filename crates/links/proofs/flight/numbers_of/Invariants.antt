use Rattle.std.proofs.Common.{◌≡◌, length}
use Rattle.links.specs.Buffers.{AreNumbers}
use Rattle.links.proofs.flight.numbers_of.Given as goal

abbrev pub invariant-loop-link : goal.invariant-loop-link
invariant-loop-link l = record {
  right : AreNumbers l.channels l.numbers.items;
  length : length l.numbers.items ≡ l.link;
}
