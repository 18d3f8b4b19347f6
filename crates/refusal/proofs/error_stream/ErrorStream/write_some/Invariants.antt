-- Interrupted writes took nothing, and are no refusal.
use Rattle.std.proofs.Common.{◌≡◌}
use Rattle.std.specs.Io.KnownBytes.{Keeps}
use Rattle.refusal.proofs.error_stream.ErrorStream.write_some.Given as goal

abbrev pub invariant-loop : goal.invariant-loop
invariant-loop g l = Keeps (g.E.Write.contents l.fn.self.stream) (g.E.Write.contents l.self.stream) × (l.self.has_refused ≡ l.fn.self.has_refused)
