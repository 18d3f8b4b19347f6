use Rattle.std.proofs.Common.{[], refl}
use Rattle.units.specs.Units.{unit_at}
use Rattle.units.specs.Wakes.{unit_with_word}
use Rattle.units.proofs.Due.{exists-at}
use Rattle.units.proofs.Waiting.{waits-ready}
use Rattle.units.proofs.timed_unit.TimedUnit.brought_up.Goals as goal

pub run_alone-requires : goal.run_alone-requires
run_alone-requires c =
    let machine = c.args.machine.now in
    let s = machine.config in
    let r = c.requires in
    let u = unit_at s c.args.place in
    let ready = waits-ready machine u c.args.now (unit_with_word c.args.self r.waits.word) [] (exists-at s c.args.place r.place) r.early r.waits.waits refl in
    record {
      ready = record {
        machine = machine;
        unit = u;
        ready = ready;
      };
    }

pub returns : goal.returns
returns c =
    let machine = c.args.machine.now in
    let s = machine.config in
    let r = c.requires in
    let u = unit_at s c.args.place in
    let ready = waits-ready machine u c.args.now (unit_with_word c.args.self r.waits.word) [] (exists-at s c.args.place r.place) r.early r.waits.waits refl in
    (c.in_ok-run_alone.ensures {u = tt} machine u ready).ran.stands
