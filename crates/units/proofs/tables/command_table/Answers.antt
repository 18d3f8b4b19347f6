use Rattle.std.proofs.Common.{◌≡◌, Some, List, Option, sym, ap, subst, ◌∙◌}
use Rattle.std.specs.Prelude.{All, Vec, is_some}
use Rattle.std.specs.declared.alloc.Global.{Global}
use Rattle.command_table.specs.Tables.{IsRising, table_of}
use Rattle.statistics.specs.Outcomes.{if_asked}
use Rattle.sim_base.specs.History.{below, commands}
use Rattle.sim_base.specs.Machine.{run}
use Rattle.sim_base.specs.declared.command.IssuedCommand.{IssuedCommand}
use Rattle.units.specs.Kept.{AreHeld}
use Rattle.units.proofs.Tabled.{lists_below, lists-rise, table-is}
use Rattle.units.proofs.tables.command_table.Goals as goal

pub of-requires : goal.of-requires
of-requires c =
    let machine = c.args.machine.now in
    let s = machine.config in
    let traces = machine.traces.items in
    let are = subst (λ (lists : Option (Vec (List IssuedCommand) Global)). AreHeld lists (lists_below s traces c.args.now s.channels)) c.in_ok-lists.was c.requires in
    record { rising = subst (λ lists. All IsRising lists) (sym are) (lists-rise s traces c.args.now (below s.channels)) }

pub returns : goal.returns
returns c =
    let machine = c.args.machine.now in
    let s = machine.config in
    let traces = machine.traces.items in
    let table = commands (run s traces c.args.now) in
    let are = subst (λ (lists : Option (Vec (List IssuedCommand) Global)). AreHeld lists (lists_below s traces c.args.now s.channels)) c.in_ok-lists.was c.requires in
    subst (λ (lists : Option (Vec (List IssuedCommand) Global)). Some c.of.result ≡ if_asked (is_some lists) table) (sym c.in_ok-lists.was)
    (ap Some (c.of.ensures ∙ ap table_of are ∙ table-is s traces c.args.now))
