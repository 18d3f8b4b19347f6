use Rattle.std.proofs.Common.{◌≡◌, length, sym, ap, subst, ◌∙◌}
use Rattle.std.proofs.lemmas.Bool.{eqb-true, eq-eqb}
use Rattle.std.proofs.lemmas.List.{nil_from_length}
use Rattle.sim_base.specs.Final.{queue_left}
use Rattle.sim_base.specs.Scheduling.{queued_requests}
use Rattle.sim_base.specs.History.{trace_of, retired_before, issued_commands}
use Rattle.laws.specs.Commands.{channel_steps_of}
use Rattle.units.specs.SpanLaws.Cores.{core_steps_of}
use Rattle.units.specs.SpanLaws.Mail.{mail_before}
use Rattle.sim_base.specs.declared.message.Unit.TheVariants as unit
use Rattle.units.specs.Units.{unit_at}
use Rattle.units.specs.Parts.{IsPart}
use Rattle.units.specs.Drained.{HasFinished}
use Rattle.units.proofs.Standing.{core-at_place, channel-at_place}
use Rattle.units.proofs.Lasting.{core-place, channel-place, core-retired}
use Rattle.core_window.specs.CoreViews.{view_of}
use Rattle.core_window.specs.declared.core_unit.Core.{Core}
use Rattle.units.specs.SpanLaws.Channels.{IsChannelAt}
use Rattle.units.proofs.drained.has_finished.Goals as goal

pub returns-in-Core : goal.returns-in-Core
returns-in-Core c now h =
    let machine = c.args.machine.now in
    let s = machine.config in
    let traces = machine.traces.items in
    let place = c.args.place in
    let at = core-place machine now place c.in-Core.core (subst (IsPart machine (unit_at s place) now) c.in-Core.is h) in
    let retired : c.stats.result.retired ≡ retired_before (core_steps_of s traces now place) =
    ap (λ x. x.retired) c.stats.ensures ∙ ap (λ (x : Core). x.stats.retired) c.deref.ensures ∙ core-retired s traces place now (view_of c.in-Core.core.value) at.stands in
    let whole : c.trace_len.result ≡ length (trace_of traces place) = c.trace_len.ensures in (
      λ e. subst (HasFinished machine now) (sym (core-at_place s place at.below)) (sym retired ∙ eqb-true _ _ e ∙ whole),
      λ f. eq-eqb _ _ (retired ∙ subst (HasFinished machine now) (core-at_place s place at.below) f ∙ sym whole),
    )

pub returns-in-Channel : goal.returns-in-Channel
unfolding queue_left
returns-in-Channel c now h =
    let machine = c.args.machine.now in
    let s = machine.config in
    let traces = machine.traces.items in
    let place = c.args.place in
    let at = channel-place machine now place c.in-Channel.channel c.in-Channel.field-1 (subst (IsPart machine (unit_at s place) now) c.in-Channel.is h) in
    let is = channel-at_place s place at.channel at.is in
    let queue = c.waiting_count.ensures s at.channel (channel_steps_of s traces now at.channel) (mail_before s traces now (unit.Channel at.channel) now) (subst (IsChannelAt s traces at.channel now) (sym c.deref-in-Channel.ensures) at.stands) in (
      λ e. subst (HasFinished machine now) (sym is) (nil_from_length (queued_requests (issued_commands at.channel (channel_steps_of s traces now at.channel)) (mail_before s traces now (unit.Channel at.channel) now) (length (channel_steps_of s traces now at.channel))) (sym queue ∙ eqb-true _ _ e)),
      λ f. eq-eqb _ _ (queue ∙ ap length (subst (HasFinished machine now) is f)),
    )
