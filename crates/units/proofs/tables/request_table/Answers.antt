use Rattle.std.proofs.Common.{◌≡◌, Some, List, Option, sym, ap, subst, ◌∙◌}
use Rattle.std.specs.Prelude.{All, Vec, is_some}
use Rattle.std.specs.declared.alloc.Global.{Global}
use Rattle.request_table.specs.Requests.{requests_of}
use Rattle.request_table.specs.Tables.{AreServedBetween, times_by_cycle}
use Rattle.statistics.specs.Outcomes.{if_asked}
use Rattle.request_table.specs.declared.served_requests.ServedRequest.{ServedRequest}
use Rattle.sim_base.specs.History.{below}
use Rattle.sim_base.specs.Machine.{run}
use Rattle.units.specs.Kept.{AreHeld}
use Rattle.units.proofs.Requested.{served_below, served-rise, requests-are}
use Rattle.units.proofs.tables.request_table.Goals as goal

pub of-requires : goal.of-requires
of-requires c =
    let machine = c.args.machine.now in
    let s = machine.config in
    let traces = machine.traces.items in
    let are = subst (λ (lists : Option (Vec (List ServedRequest) Global)). AreHeld lists (served_below machine c.args.now s.channels)) c.in-Some.is c.requires in
    subst (λ lists. All (AreServedBetween 0 c.args.now) lists) (sym are) (served-rise machine c.args.now (below s.channels))

pub returns-in_ok-of-in-Some : goal.returns-in_ok-of-in-Some
returns-in_ok-of-in-Some c =
    let machine = c.args.machine.now in
    let s = machine.config in
    let traces = machine.traces.items in
    let table = requests_of s (run s traces c.args.now) in
    let are = subst (λ (lists : Option (Vec (List ServedRequest) Global)). AreHeld lists (served_below machine c.args.now s.channels)) c.in-Some.is c.requires in
    subst (λ (lists : Option (Vec (List ServedRequest) Global)). Some c.in_ok-of-in-Some.field-0 ≡ if_asked (is_some lists) table) (sym c.in-Some.is)
    (ap Some (c.in_ok-of-in-Some.ensures {u = tt} ∙ ap (times_by_cycle s c.args.now) are ∙ requests-are machine c.args.now))
