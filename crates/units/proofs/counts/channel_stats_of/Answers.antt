use Rattle.std.proofs.Common.{subst, sym, ◌∙◌}
use Rattle.units.specs.Runs.{HasChannelAt}
use Rattle.sim_base.specs.declared.message.Unit.TheVariants as unit
use Rattle.units.proofs.SpanLaws.ChannelsOn.{channels-end_alike}
use Rattle.units.specs.Parts.{IsPart}
use Rattle.units.proofs.counts.channel_stats_of.Goals as goal

pub returns-in-Channel : goal.returns-in-Channel
returns-in-Channel c machine channel now h =
    let s = machine.config in
    let traces = machine.traces.items in
    let stands = subst (IsPart machine (unit.Channel channel) now) c.in-Channel.is h in
    c.stats.ensures s channel _ _ (subst (HasChannelAt machine channel now) (sym c.deref.ensures) stands.0) ∙ (channels-end_alike s traces now channel).0
