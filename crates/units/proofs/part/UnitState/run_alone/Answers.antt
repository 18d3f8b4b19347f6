use Rattle.std.proofs.Common.{◌≡◌, ℕ, List, [], length, refl, sym, ap, subst, ◌∙◌}
use Rattle.std.specs.declared.boxed.Box.{Box}
use Rattle.std.specs.declared.alloc.Global.{Global}
use Rattle.std.specs.Prelude.{Option, Result, Ok, Err, OnOk}
use Rattle.sim_base.specs.declared.config.Config.{Config}
use Rattle.sim_base.specs.declared.command.Command.{Command}
use Rattle.sim_base.specs.declared.message.Message.{Message}
use Rattle.sim_base.proofs.Arrived.{by_age-puts}
use Rattle.channel_step.specs.Channels.{StandsFor}
use Rattle.channel_step.specs.Fit.{IsFit}
use Rattle.channel_step.specs.declared.channel.Channel.{Channel}
use Rattle.channel_step.specs.Runs.{CanRun, IsDone}
use Rattle.core_window.specs.CoreViews.{view_of}
use Rattle.core_window.specs.declared.core_unit.Core.{Core}
use Rattle.core_window.specs.Fit.{CanRun as CoreCanRun, RunsOnto}
use Rattle.units.specs.SpanLaws.Channels.{ChannelRunsOver}
use Rattle.units.specs.Parts.{IsReadyFor, HasRunOnto}
use Rattle.units.specs.declared.part.UnitState.TheVariants as part
use Rattle.units.proofs.Running.{core-at, core-may_run, core-has_run, channel-can_run, channel-has_run}
use Rattle.units.proofs.part.UnitState.run_alone.Goals as goal

pub run-requires-clause-at : goal.run-requires-clause-at
run-requires-clause-at c =
    let r = c.requires.ready in
    ap (λ (x : Core). x.cycle) c.deref_mut.ensures.value
    ∙ core-at r.machine r.unit c.in-Core.core [] c.args.from c.args.until (subst (λ p. IsReadyFor r.machine r.unit p [] c.args.from c.args.until) c.in-Core.is r.ready)

pub run-requires-clause-fit : goal.run-requires-clause-fit
run-requires-clause-fit c =
    let r = c.requires.ready in
    subst (λ x. CoreCanRun (view_of x) c.args.from c.args.until []) (sym c.deref_mut.ensures.value)
    (core-may_run r.machine r.unit c.in-Core.core [] c.args.from c.args.until (subst (λ p. IsReadyFor r.machine r.unit p [] c.args.from c.args.until) c.in-Core.is r.ready))

pub run-requires-in-Channel-clause-can_run : goal.run-requires-in-Channel-clause-can_run
run-requires-in-Channel-clause-can_run c =
    let r = c.requires.ready in
    subst (λ x. CanRun x [] c.args.from c.args.until) (sym c.deref_mut-in-Channel.ensures.value)
    (channel-can_run r.machine r.unit c.in-Channel.channel c.in-Channel.issued [] c.args.from c.args.until
    (subst (λ p. IsReadyFor r.machine r.unit p [] c.args.from c.args.until) c.in-Channel.is r.ready))

pub returns-in-Core : goal.returns-in-Core
returns-in-Core c machine unit ready = go c.run.result _ refl c.run.ensures
  where
    go : {T E : Type 0} (r : Result T E) (d : Box Core Global) → d.value ≡ c.run.new.self
        → OnOk r (RunsOnto (view_of c.deref_mut.result.now) c.args.from c.args.until [] (view_of c.run.new.self) c.args.sent.now.items c.run.new.sent.items)
        → OnOk r (HasRunOnto machine unit c.args.from c.args.until (part.Core d) c.args.sent.now.items c.run.new.sent.items)
    go (Ok x) d is h =
        core-has_run machine unit c.in-Core.core d [] _ _ c.args.from c.args.until
        (subst (λ p. IsReadyFor machine unit p [] c.args.from c.args.until) c.in-Core.is ready)
        (subst (λ e. RunsOnto (view_of c.in-Core.core.value) c.args.from c.args.until [] (view_of e) c.args.sent.now.items c.run.new.sent.items) (sym is)
        (subst (λ e. RunsOnto (view_of e) c.args.from c.args.until [] (view_of c.run.new.self) c.args.sent.now.items c.run.new.sent.items) c.deref_mut.ensures.value h))
    go (Err e) d is h = tt

pub returns-in-Channel : goal.returns-in-Channel
returns-in-Channel c machine unit ready = go c.run-in-Channel.result _ refl c.run-in-Channel.ensures
  where
    go : {T E : Type 0} (r : Result T E) (d : Box Channel Global) → d.value ≡ c.run-in-Channel.new.self
        → ((s : Config) (channel : ℕ) (rows : List (Option Command)) (mail : List Message)
        → StandsFor c.deref_mut-in-Channel.result.now s channel rows mail → length rows ≡ c.args.from → IsFit s channel rows mail [] c.args.from c.args.until
        → OnOk r (IsDone c.run-in-Channel.new.self s channel rows mail [] c.args.from c.args.until c.in-Channel.issued c.run-in-Channel.new.commands c.args.sent.now.items c.run-in-Channel.new.messages.items))
        → OnOk r (HasRunOnto machine unit c.args.from c.args.until (part.Channel d c.run-in-Channel.new.commands) c.args.sent.now.items c.run-in-Channel.new.messages.items)
    go (Ok x) d is h =
        channel-has_run machine unit c.in-Channel.channel d c.in-Channel.issued c.run-in-Channel.new.commands [] _ _ c.args.from c.args.until
        (subst (λ p. IsReadyFor machine unit p [] c.args.from c.args.until) c.in-Channel.is ready)
        (subst (λ e. ChannelRunsOver c.in-Channel.channel.value [] c.args.from c.args.until e c.in-Channel.issued c.run-in-Channel.new.commands c.args.sent.now.items c.run-in-Channel.new.messages.items) (sym is)
        (subst (λ e. ChannelRunsOver e [] c.args.from c.args.until c.run-in-Channel.new.self c.in-Channel.issued c.run-in-Channel.new.commands c.args.sent.now.items c.run-in-Channel.new.messages.items) c.deref_mut-in-Channel.ensures.value h))
    go (Err e) d is h = tt

pub run-requires-clause-by_age : goal.run-requires-clause-by_age
run-requires-clause-by_age c = by_age-puts []
