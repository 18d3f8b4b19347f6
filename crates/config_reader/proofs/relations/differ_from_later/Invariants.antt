use Rattle.std.proofs.Common.{◌≡◌, length}
use Rattle.config_reader.specs.Document.Relations.{links_differ}
use Rattle.config_reader.proofs.relations.differ_from_later.Given as goal

abbrev pub decreases-loop-rest : goal.decreases-loop-rest
decreases-loop-rest l = length l.rest

abbrev pub invariant-loop-rest : goal.invariant-loop-rest
invariant-loop-rest l = links_differ l.overrides ≡ links_differ l.rest
