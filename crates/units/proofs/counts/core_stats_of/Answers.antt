use Rattle.std.proofs.Common.{ap, subst, ◌∙◌}
use Rattle.core_window.specs.declared.core_unit.Core.{Core}
use Rattle.sim_base.specs.declared.message.Unit.TheVariants as unit
use Rattle.units.proofs.SpanLaws.CoresOn.{cores-end_alike}
use Rattle.units.specs.Parts.{IsPart}
use Rattle.units.proofs.counts.core_stats_of.Goals as goal

pub returns-in-Core : goal.returns-in-Core
returns-in-Core c machine core now h =
    let s = machine.config in
    let traces = machine.traces.items in
    let stands = subst (IsPart machine (unit.Core core) now) c.in-Core.is h in
    c.stats.ensures ∙ ap (λ (x : Core). x.stats) c.deref.ensures ∙ stands.stats ∙ (cores-end_alike s traces now core).0
