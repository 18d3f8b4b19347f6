use Rattle.std.proofs.Common.{◌≡◌, subst}
use Rattle.std.specs.Prelude.{IfOk}
use Rattle.units.specs.Kept.{command_table_if, request_table_if}
use Rattle.units.specs.Views.{SimView}
use Rattle.units.specs.declared.machine.Machine.{Machine}
use Rattle.units.proofs.sim.Sim.into_tables.Goals as goal

pub returns : goal.returns
returns c =
    let f = c.self.inside in
    let made = c.tables_of.ensures in
    record {
      commands = subst (λ (v : SimView). IfOk c.tables_of.result (λ made. made.0 ≡ command_table_if c.args.tables.commands v.machine v.now)) c.self.view_is
          (subst (λ (m : Machine). IfOk c.tables_of.result (λ made. made.0 ≡ command_table_if c.args.tables.commands m f.now)) c.deref.ensures made.commands);
      requests = subst (λ (v : SimView). IfOk c.tables_of.result (λ made. made.1 ≡ request_table_if c.args.tables.requests v.machine v.now)) c.self.view_is
          (subst (λ (m : Machine). IfOk c.tables_of.result (λ made. made.1 ≡ request_table_if c.args.tables.requests m f.now)) c.deref.ensures made.requests);
    }
