-- The traces so far, and then those of the rest, are those of all texts, and each is what its text means. What was
-- found for the cores that are left is what they have.
use Rattle.std.proofs.Common.{◌≡◌, ◌+◌, map, length, vec_len}
use Rattle.std.specs.List.{AllZip, range_with_len}
use Rattle.std.specs.Vec.Iter.{into_iter_items, into_iter_len}
use Rattle.simulation.specs.Runs.{traces_of}
use Rattle.simulation.specs.Traces.{IsFound}
use Rattle.simulation.proofs.TraceLists.{AreRead, texts_from}
use Rattle.config_reader.proofs.TableViews.{prepend}
use Rattle.simulation.proofs.input.read_traces.Given as goal

abbrev pub invariant-loop-found : goal.invariant-loop-found
invariant-loop-found g l = record {
  read : traces_of 0 (map (λ t. t.now) l.texts) ≡ prepend l.traces.items (traces_of (vec_len l.traces) (texts_from l.texts (vec_len l.traces)));
  each : AreRead (map (λ t. t.now) l.texts) l.traces.items;
  found : AllZip (IsFound (map (λ t. t.now) l.texts)) (range_with_len (vec_len l.traces) (length (into_iter_items l.found-iterator))) (into_iter_items l.found-iterator);
  count : vec_len l.traces + length (into_iter_items l.found-iterator) ≡ length l.texts;
  left : into_iter_len l.found-iterator ≡ length (into_iter_items l.found-iterator);
}
