-- What is kept is that of the channels among the units so far.
use Rattle.std.proofs.Common.{◌≡◌, ◌-◌, ◌++◌, length, map}
use Rattle.std.specs.Prelude.{is_some}
use Rattle.std.specs.Vec.Iter.{into_iter_items, into_iter_len}
use Rattle.laws.specs.Commands.{history_of}
use Rattle.sim_base.specs.History.{below}
use Rattle.units.specs.Kept.{AreHeld, served_by_channel}
use Rattle.units.proofs.tables.kept_by_channel.Given as goal

abbrev pub invariant-loop-part : goal.invariant-loop-part
invariant-loop-part l = record {
  remaining : l.yielded ++ into_iter_items l.part-iterator ≡ into_iter_items l.initial.part-iterator;
  left : into_iter_len l.part-iterator ≡ length (into_iter_items l.part-iterator);
  commands_asked : is_some l.kept.commands ≡ l.fn.tables.commands;
  served_asked : is_some l.kept.served ≡ l.fn.tables.requests;
  commands : AreHeld l.kept.commands (map (history_of l.machine.config l.machine.traces.items l.now) (below (length l.yielded - l.machine.config.cores)));
  served : AreHeld l.kept.served (map (served_by_channel l.machine l.now) (below (length l.yielded - l.machine.config.cores)));
}
