use Rattle.std.proofs.Common.{[], ◌∙◌, subst, arith}
use Rattle.std.specs.Prelude.{IfOk}
use Rattle.std.proofs.lemmas.List.{get_or_default}
use Rattle.core_window.specs.CoreViews.{view_of}
use Rattle.core_window.specs.Stands.{StandsFor}
use Rattle.units.proofs.sim.first_core.Goals as goal

pub returns : goal.returns
returns c =
    let machine = c.args.machine.now in
    let s = machine.config in
    let traces = machine.traces.items in
    subst (λ trace. IfOk c.start.result (λ own. StandsFor s c.args.core trace [] [] (view_of own)))
    (c.in_ok-trace.ensures {u = tt} ∙ c.index.ensures ∙ get_or_default traces c.args.core _ [] (omega (arith, c.requires.core, c.requires.one_each))) c.start.ensures
