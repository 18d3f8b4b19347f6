use Rattle.std.proofs.Common.{ap, ap₂, subst, ◌∙◌}
use Rattle.core_window.specs.declared.core_unit.Core.{Core}
use Rattle.sim_base.specs.declared.message.Unit.TheVariants as unit
use Rattle.statistics.specs.Values.{FinalCore}
use Rattle.statistics.specs.declared.cores.CoreStats.{CoreStats}
use Rattle.core_window.specs.CoreViews.{view_of}
use Rattle.units.specs.Parts.{IsPart}
use Rattle.units.proofs.Ended.{core_left_is}
use Rattle.units.proofs.ending.core_left.Goals as goal

pub returns : goal.returns
returns c =
    let machine = c.args.machine.now in
    let s = machine.config in
    let traces = machine.traces.items in
    let stands = subst (IsPart machine (unit.Core c.args.core) c.args.now) c.in-Core.is c.requires.stands in
    ap₂ {C = FinalCore} (λ (x : CoreStats) credits. record { issued = x.issued; retired = x.retired; credits = credits }) (c.stats-stats.ensures ∙ ap (λ (x : Core). x.stats) c.deref.ensures)
    (c.in_ok-to_vec-in-Core.ensures.items_if_clones_equal (λ x y e. e) ∙ c.credits.ensures ∙ ap (λ (x : Core). (view_of x).credits) c.deref-in-Core.ensures)
    ∙ core_left_is s traces c.args.core c.args.now (view_of c.in-Core.core.value) stands
