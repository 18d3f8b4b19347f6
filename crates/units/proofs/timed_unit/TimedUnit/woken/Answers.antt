-- A core, or a channel, takes what arrives at it, runs, and tells its next word.
use Rattle.std.proofs.Common.{◌≤◌, ◌-◌, ◌∙◌, sym, ap, subst, arith}
use Rattle.std.specs.Box.{with_value}
use Rattle.std.specs.Prelude.{fold}
use Rattle.channel_step.specs.Runs.{CanRun, StandsAt}
use Rattle.core_window.specs.CoreViews.{view_of}
use Rattle.core_window.specs.Fit.{CanRun as CoreCanRun, RunsOnto}
use Rattle.core_window.specs.Rests.{HasSomePast}
use Rattle.core_window.specs.Silence.{KeepsSilent}
use Rattle.core_window.specs.declared.core_unit.Core.{Core as CoreUnit}
use Rattle.sim_base.specs.History.{insert_by_age}
use Rattle.sim_base.specs.declared.message.Unit.TheVariants.{Core, Channel}
use Rattle.units.specs.Parts.{IsPart, IsReadyFor}
use Rattle.units.specs.Quiet.{SendsNothing}
use Rattle.units.specs.SpanLaws.Channels.{ChannelRunsOver}
use Rattle.units.specs.Units.{unit_at}
use Rattle.units.specs.Wakes.{AddsWhatItSent, unit_with_word}
use Rattle.units.specs.declared.part.UnitState.TheVariants as part
use Rattle.units.proofs.Due.{exists-at}
use Rattle.units.proofs.Going.{held-links}
use Rattle.units.proofs.Resting.{ChannelTells, core-cycle, core-may_rest, channel-stands_at, channel-tells}
use Rattle.units.proofs.Running.{core-at, core-may_run, core-has_run, channel-can_run, channel-has_run}
use Rattle.units.proofs.Waiting.{core-silent, word-silent, word-since}
use Rattle.units.proofs.Woken.{core-place, channel-place, ready, gone-on}
use Rattle.units.proofs.timed_unit.TimedUnit.woken.Goals as goal

pub run-requires-clause-at : goal.run-requires-clause-at
run-requires-clause-at c =
    let machine = c.args.machine.now in
    let s = machine.config in
    let r = c.requires in
    let u = unit_at s c.args.place in
    let here = c.args.span.now.here in
    let there = c.args.span.now.there in
    let until = c.args.span.now.until in
    let before = unit_with_word c.args.self.now r.waits.word in
    let k = exists-at s c.args.place r.place in
    let stands = subst (IsPart machine u c.args.self.now.at) c.in-Core.is r.waits.waits.stands in
    let at = (core-place machine c.args.place c.args.self.now.at c.in-Core.core stands).1 in
    let inbox = fold insert_by_age c.due_at_core.result.0.now c.due_at_core.result.1.now in
    let ready = ready machine u (Core c.args.place) here there until before c.args.traffic.now.links inbox k r.order r.early r.holds_inbox r.waits.waits at (sym c.due_at_core.ensures.all) in
    let core = subst (λ p. IsReadyFor machine u p inbox c.args.self.now.at until) c.in-Core.is ready in
    ap (λ (x : CoreUnit). x.cycle) c.deref_mut.ensures.value ∙ core-at machine u c.in-Core.core inbox c.args.self.now.at until core

pub run-requires-clause-fit : goal.run-requires-clause-fit
run-requires-clause-fit c =
    let machine = c.args.machine.now in
    let s = machine.config in
    let r = c.requires in
    let u = unit_at s c.args.place in
    let here = c.args.span.now.here in
    let there = c.args.span.now.there in
    let until = c.args.span.now.until in
    let before = unit_with_word c.args.self.now r.waits.word in
    let k = exists-at s c.args.place r.place in
    let stands = subst (IsPart machine u c.args.self.now.at) c.in-Core.is r.waits.waits.stands in
    let at = (core-place machine c.args.place c.args.self.now.at c.in-Core.core stands).1 in
    let inbox = fold insert_by_age c.due_at_core.result.0.now c.due_at_core.result.1.now in
    let ready = ready machine u (Core c.args.place) here there until before c.args.traffic.now.links inbox k r.order r.early r.holds_inbox r.waits.waits at (sym c.due_at_core.ensures.all) in
    let core = subst (λ p. IsReadyFor machine u p inbox c.args.self.now.at until) c.in-Core.is ready in
    subst (λ x. CoreCanRun (view_of x) c.args.self.now.at until inbox) (sym c.deref_mut.ensures.value) (core-may_run machine u c.in-Core.core inbox c.args.self.now.at until core)

pub silent_until-requires-clause-at : goal.silent_until-requires-clause-at
silent_until-requires-clause-at c =
    let machine = c.args.machine.now in
    let s = machine.config in
    let r = c.requires in
    let u = unit_at s c.args.place in
    let here = c.args.span.now.here in
    let there = c.args.span.now.there in
    let until = c.args.span.now.until in
    let before = unit_with_word c.args.self.now r.waits.word in
    let k = exists-at s c.args.place r.place in
    let stands = subst (IsPart machine u c.args.self.now.at) c.in-Core.is r.waits.waits.stands in
    let at = (core-place machine c.args.place c.args.self.now.at c.in-Core.core stands).1 in
    let inbox = fold insert_by_age c.due_at_core.result.0.now c.due_at_core.result.1.now in
    let ready = ready machine u (Core c.args.place) here there until before c.args.traffic.now.links inbox k r.order r.early r.holds_inbox r.waits.waits at (sym c.due_at_core.ensures.all) in
    let core = subst (λ p. IsReadyFor machine u p inbox c.args.self.now.at until) c.in-Core.is ready in
    let onto = core-has_run machine u c.in-Core.core (with_value c.in-Core.core c.run.new.self) inbox _ _ c.args.self.now.at until core
    (subst (λ e. RunsOnto (view_of e) c.args.self.now.at until inbox (view_of c.run.new.self) c.args.traffic.now.sent.items c.run.new.sent.items) c.deref_mut.ensures.value (c.in_ok-run-in-Core.ensures {u = tt})) in
    ap (λ (x : CoreUnit). x.cycle) c.deref.ensures ∙ core-cycle machine u (with_value c.in-Core.core c.run.new.self) until onto.ran.stands

pub silent_until-requires-clause-stands : goal.silent_until-requires-clause-stands
silent_until-requires-clause-stands c =
    let machine = c.args.machine.now in
    let s = machine.config in
    let r = c.requires in
    let u = unit_at s c.args.place in
    let here = c.args.span.now.here in
    let there = c.args.span.now.there in
    let until = c.args.span.now.until in
    let before = unit_with_word c.args.self.now r.waits.word in
    let k = exists-at s c.args.place r.place in
    let stands = subst (IsPart machine u c.args.self.now.at) c.in-Core.is r.waits.waits.stands in
    let at = (core-place machine c.args.place c.args.self.now.at c.in-Core.core stands).1 in
    let inbox = fold insert_by_age c.due_at_core.result.0.now c.due_at_core.result.1.now in
    let ready = ready machine u (Core c.args.place) here there until before c.args.traffic.now.links inbox k r.order r.early r.holds_inbox r.waits.waits at (sym c.due_at_core.ensures.all) in
    let core = subst (λ p. IsReadyFor machine u p inbox c.args.self.now.at until) c.in-Core.is ready in
    let onto = core-has_run machine u c.in-Core.core (with_value c.in-Core.core c.run.new.self) inbox _ _ c.args.self.now.at until core
    (subst (λ e. RunsOnto (view_of e) c.args.self.now.at until inbox (view_of c.run.new.self) c.args.traffic.now.sent.items c.run.new.sent.items) c.deref_mut.ensures.value (c.in_ok-run-in-Core.ensures {u = tt})) in
    subst (λ x. HasSomePast (view_of x)) (sym c.deref.ensures) (core-may_rest machine u (with_value c.in-Core.core c.run.new.self) until onto.ran.stands)

pub returns-in_ok-run-in-Core-clause-has_run : goal.returns-in_ok-run-in-Core-clause-has_run
returns-in_ok-run-in-Core-clause-has_run c =
    let machine = c.args.machine.now in
    let s = machine.config in
    let r = c.requires in
    let u = unit_at s c.args.place in
    let here = c.args.span.now.here in
    let there = c.args.span.now.there in
    let until = c.args.span.now.until in
    let before = unit_with_word c.args.self.now r.waits.word in
    let k = exists-at s c.args.place r.place in
    let stands = subst (IsPart machine u c.args.self.now.at) c.in-Core.is r.waits.waits.stands in
    let at = (core-place machine c.args.place c.args.self.now.at c.in-Core.core stands).1 in
    let inbox = fold insert_by_age c.due_at_core.result.0.now c.due_at_core.result.1.now in
    let ready = ready machine u (Core c.args.place) here there until before c.args.traffic.now.links inbox k r.order r.early r.holds_inbox r.waits.waits at (sym c.due_at_core.ensures.all) in
    let core = subst (λ p. IsReadyFor machine u p inbox c.args.self.now.at until) c.in-Core.is ready in
    let onto = core-has_run machine u c.in-Core.core (with_value c.in-Core.core c.run.new.self) inbox _ _ c.args.self.now.at until core
    (subst (λ e. RunsOnto (view_of e) c.args.self.now.at until inbox (view_of c.run.new.self) c.args.traffic.now.sent.items c.run.new.sent.items) c.deref_mut.ensures.value (c.in_ok-run-in-Core.ensures {u = tt})) in
    let silent : SendsNothing machine until c.silent_until.result u =
    core-silent machine u (with_value c.in-Core.core c.run.new.self) until c.silent_until.result onto.ran.stands
    (subst (λ x. KeepsSilent (view_of x) c.silent_until.result) c.deref.ensures c.silent_until.ensures.silent) in
    subst (λ wake. AddsWhatItSent machine u here there until (record { part = part.Core (with_value c.in-Core.core c.run.new.self); at = until; wake = wake }) c.args.traffic.now.sent.items c.run.new.sent.items) (sym c.word_of.ensures)
    (gone-on machine u (Core c.args.place) here there until c.silent_until.result before (part.Core (with_value c.in-Core.core c.run.new.self)) c.args.traffic.now.links c.drop_due_at_core-arrival.new.self c.drop_due_at_core-arrival.result _ _
    k r.order r.holds_inbox r.waits.waits at onto c.silent_until.ensures.since silent c.drop_due_at_core-arrival.ensures.rest c.drop_due_at_core-arrival.ensures.next c.drop_due_at_core-arrival.ensures.least)

pub returns-in_ok-run-in-Core-clause-links : goal.returns-in_ok-run-in-Core-clause-links
returns-in_ok-run-in-Core-clause-links c =
    let machine = c.args.machine.now in
    let s = machine.config in
    let r = c.requires in
    let u = unit_at s c.args.place in
    let here = c.args.span.now.here in
    let there = c.args.span.now.there in
    let until = c.args.span.now.until in
    let before = unit_with_word c.args.self.now r.waits.word in
    let k = exists-at s c.args.place r.place in
    let stands = subst (IsPart machine u c.args.self.now.at) c.in-Core.is r.waits.waits.stands in
    let at = (core-place machine c.args.place c.args.self.now.at c.in-Core.core stands).1 in
    let inbox = fold insert_by_age c.due_at_core.result.0.now c.due_at_core.result.1.now in
    let ready = ready machine u (Core c.args.place) here there until before c.args.traffic.now.links inbox k r.order r.early r.holds_inbox r.waits.waits at (sym c.due_at_core.ensures.all) in
    let core = subst (λ p. IsReadyFor machine u p inbox c.args.self.now.at until) c.in-Core.is ready in
    held-links machine here there until u (Core c.args.place) c.args.traffic.now.links c.drop_due_at_core-arrival.new.self r.holds_inbox at c.drop_due_at_core-arrival.ensures.rest

pub run-requires-in-Channel-clause-can_run : goal.run-requires-in-Channel-clause-can_run
run-requires-in-Channel-clause-can_run c =
    let machine = c.args.machine.now in
    let s = machine.config in
    let r = c.requires in
    let u = unit_at s c.args.place in
    let here = c.args.span.now.here in
    let there = c.args.span.now.there in
    let until = c.args.span.now.until in
    let before = unit_with_word c.args.self.now r.waits.word in
    let k = exists-at s c.args.place r.place in
    let stands = subst (IsPart machine u c.args.self.now.at) c.in-Channel.is r.waits.waits.stands in
    let unit = Channel (c.args.place - c.from.result) in
    let at = ap (λ n. Channel (c.args.place - n)) c.from.ensures ∙ channel-place machine c.args.place c.args.self.now.at c.in-Channel.channel c.in-Channel.issued stands in
    let inbox = c.due_at_channel-requests.result.now in
    let ready = ready machine u unit here there until before c.args.traffic.now.links inbox k r.order r.early r.holds_inbox r.waits.waits at c.due_at_channel-requests.ensures in
    let channel = subst (λ p. IsReadyFor machine u p inbox c.args.self.now.at until) c.in-Channel.is ready in
    subst (λ x. CanRun x inbox c.args.self.now.at until) (sym c.deref_mut-in-Channel.ensures.value) (channel-can_run machine u c.in-Channel.channel c.in-Channel.issued inbox c.args.self.now.at until channel)

pub next_act-requires : goal.next_act-requires
next_act-requires c =
    let machine = c.args.machine.now in
    let s = machine.config in
    let r = c.requires in
    let u = unit_at s c.args.place in
    let here = c.args.span.now.here in
    let there = c.args.span.now.there in
    let until = c.args.span.now.until in
    let before = unit_with_word c.args.self.now r.waits.word in
    let k = exists-at s c.args.place r.place in
    let stands = subst (IsPart machine u c.args.self.now.at) c.in-Channel.is r.waits.waits.stands in
    let unit = Channel (c.args.place - c.from.result) in
    let at = ap (λ n. Channel (c.args.place - n)) c.from.ensures ∙ channel-place machine c.args.place c.args.self.now.at c.in-Channel.channel c.in-Channel.issued stands in
    let inbox = c.due_at_channel-requests.result.now in
    let ready = ready machine u unit here there until before c.args.traffic.now.links inbox k r.order r.early r.holds_inbox r.waits.waits at c.due_at_channel-requests.ensures in
    let channel = subst (λ p. IsReadyFor machine u p inbox c.args.self.now.at until) c.in-Channel.is ready in
    let onto = channel-has_run machine u c.in-Channel.channel (with_value c.in-Channel.channel c.run-in-Channel.new.self) c.in-Channel.issued c.run-in-Channel.new.commands inbox _ _ c.args.self.now.at until channel
    (subst (λ e. ChannelRunsOver e inbox c.args.self.now.at until c.run-in-Channel.new.self c.in-Channel.issued c.run-in-Channel.new.commands c.args.traffic.now.sent.items c.run-in-Channel.new.messages.items) c.deref_mut-in-Channel.ensures.value (c.in_ok-run-in-Channel.ensures {u = tt})) in
    subst (λ x. StandsAt x until) (sym c.deref_mut-in-Channel-2.ensures.value) (channel-stands_at machine u (with_value c.in-Channel.channel c.run-in-Channel.new.self) c.run-in-Channel.new.commands until onto.ran.stands)

pub returns-in_ok-run-in-Channel-clause-has_run : goal.returns-in_ok-run-in-Channel-clause-has_run
returns-in_ok-run-in-Channel-clause-has_run c =
    let machine = c.args.machine.now in
    let s = machine.config in
    let r = c.requires in
    let u = unit_at s c.args.place in
    let here = c.args.span.now.here in
    let there = c.args.span.now.there in
    let until = c.args.span.now.until in
    let before = unit_with_word c.args.self.now r.waits.word in
    let k = exists-at s c.args.place r.place in
    let stands = subst (IsPart machine u c.args.self.now.at) c.in-Channel.is r.waits.waits.stands in
    let unit = Channel (c.args.place - c.from.result) in
    let at = ap (λ n. Channel (c.args.place - n)) c.from.ensures ∙ channel-place machine c.args.place c.args.self.now.at c.in-Channel.channel c.in-Channel.issued stands in
    let inbox = c.due_at_channel-requests.result.now in
    let ready = ready machine u unit here there until before c.args.traffic.now.links inbox k r.order r.early r.holds_inbox r.waits.waits at c.due_at_channel-requests.ensures in
    let channel = subst (λ p. IsReadyFor machine u p inbox c.args.self.now.at until) c.in-Channel.is ready in
    let onto = channel-has_run machine u c.in-Channel.channel (with_value c.in-Channel.channel c.run-in-Channel.new.self) c.in-Channel.issued c.run-in-Channel.new.commands inbox _ _ c.args.self.now.at until channel
    (subst (λ e. ChannelRunsOver e inbox c.args.self.now.at until c.run-in-Channel.new.self c.in-Channel.issued c.run-in-Channel.new.commands c.args.traffic.now.sent.items c.run-in-Channel.new.messages.items) c.deref_mut-in-Channel.ensures.value (c.in_ok-run-in-Channel.ensures {u = tt})) in
    let tells = channel-tells machine u (with_value c.in-Channel.channel c.run-in-Channel.new.self) c.run-in-Channel.new.commands until c.next_act.result onto.ran.stands
    (subst (λ x. ChannelTells x until c.next_act.result) c.deref_mut-in-Channel-2.ensures.value c.next_act.ensures.first) in
    let late : until ≤ 18446744073709551615 = omega (arith, r.early) in
    let silent : SendsNothing machine until c.unwrap_or-send.result u = subst (λ n. SendsNothing machine until n u) (sym c.unwrap_or-send.ensures) (word-silent machine u until 18446744073709551615 c.next_act.result tells late) in
    let since : until ≤ c.unwrap_or-send.result = subst (λ n. until ≤ n) (sym c.unwrap_or-send.ensures) (word-since machine u until 18446744073709551615 c.next_act.result tells late) in
    let same = c.next_act.ensures.same ∙ c.deref_mut-in-Channel-2.ensures.value in
    subst (λ v. AddsWhatItSent machine u here there until (record { part = part.Channel (with_value c.in-Channel.channel v) c.run-in-Channel.new.commands; at = until; wake = c.word_of-in-Channel.result }) c.args.traffic.now.sent.items c.run-in-Channel.new.messages.items) (sym same)
    (subst (λ wake. AddsWhatItSent machine u here there until (record { part = part.Channel (with_value c.in-Channel.channel c.run-in-Channel.new.self) c.run-in-Channel.new.commands; at = until; wake = wake }) c.args.traffic.now.sent.items c.run-in-Channel.new.messages.items) (sym c.word_of-in-Channel.ensures)
    (gone-on machine u unit here there until c.unwrap_or-send.result before (part.Channel (with_value c.in-Channel.channel c.run-in-Channel.new.self) c.run-in-Channel.new.commands) c.args.traffic.now.links c.drop_due_at_channel-arrival.new.self c.drop_due_at_channel-arrival.result _ _
    k r.order r.holds_inbox r.waits.waits at onto since silent c.drop_due_at_channel-arrival.ensures.rest c.drop_due_at_channel-arrival.ensures.next c.drop_due_at_channel-arrival.ensures.least))

pub returns-in_ok-run-in-Channel-clause-links : goal.returns-in_ok-run-in-Channel-clause-links
returns-in_ok-run-in-Channel-clause-links c =
    let machine = c.args.machine.now in
    let s = machine.config in
    let r = c.requires in
    let u = unit_at s c.args.place in
    let here = c.args.span.now.here in
    let there = c.args.span.now.there in
    let until = c.args.span.now.until in
    let before = unit_with_word c.args.self.now r.waits.word in
    let k = exists-at s c.args.place r.place in
    let stands = subst (IsPart machine u c.args.self.now.at) c.in-Channel.is r.waits.waits.stands in
    let unit = Channel (c.args.place - c.from.result) in
    let at = ap (λ n. Channel (c.args.place - n)) c.from.ensures ∙ channel-place machine c.args.place c.args.self.now.at c.in-Channel.channel c.in-Channel.issued stands in
    let inbox = c.due_at_channel-requests.result.now in
    let ready = ready machine u unit here there until before c.args.traffic.now.links inbox k r.order r.early r.holds_inbox r.waits.waits at c.due_at_channel-requests.ensures in
    let channel = subst (λ p. IsReadyFor machine u p inbox c.args.self.now.at until) c.in-Channel.is ready in
    held-links machine here there until u unit c.args.traffic.now.links c.drop_due_at_channel-arrival.new.self r.holds_inbox at c.drop_due_at_channel-arrival.ensures.rest
