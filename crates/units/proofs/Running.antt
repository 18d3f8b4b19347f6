-- A unit that is run over a span.
use Rattle.std.proofs.Common.{◌≡◌, ℕ, List, ◌++◌, Option, Some, None, IfSome, sym, ap, subst, ◌∙◌}
use Rattle.std.specs.declared.boxed.Box.{Box}
use Rattle.std.specs.declared.alloc.Global.{Global}
use Rattle.sim_base.specs.declared.message.Message.{Message}
use Rattle.sim_base.specs.declared.message.Unit.{Unit as MachineUnit}
use Rattle.sim_base.specs.declared.message.Unit.TheVariants as unit
use Rattle.sim_base.specs.declared.command.IssuedCommand.{IssuedCommand}
use Rattle.sim_base.proofs.Spans.{length_run}
use Rattle.statistics.proofs.Replies.{length-steps_of_core}
use Rattle.channel_step.specs.Runs.{with_more, CanRun}
use Rattle.channel_step.specs.declared.channel.Channel.{Channel}
use Rattle.core_window.specs.CoreViews.{view_of}
use Rattle.core_window.specs.Fit.{CanRun as CoreCanRun, RunsOver, RunsOnto}
use Rattle.core_window.specs.declared.core_unit.Core.{Core}
use Rattle.units.specs.SpanLaws.Channels.{ChannelRunsOver}
use Rattle.units.proofs.SpanLaws.ChannelsOn.{channels-may_run, channels-go_on}
use Rattle.units.proofs.SpanLaws.CoresOn.{cores-may_run, cores-go_on}
use Rattle.units.specs.Parts.{IsReadyFor, HasRunOnto}
use Rattle.units.specs.declared.machine.Machine.{Machine}
use Rattle.units.specs.Runs.{run_of}
use Rattle.units.specs.declared.part.UnitState.TheVariants as part

pub core-at : (machine : Machine) (unit : MachineUnit) (c : Box Core Global) (inbox : List Message) (from until : ℕ)
    → IsReadyFor machine unit (part.Core c) inbox from until → c.value.cycle ≡ from
core-at machine (unit.Core core) c inbox from until h = h.stands.now ∙ length-steps_of_core core (run_of machine from) ∙ length_run machine.config machine.traces.items from
core-at machine (unit.Channel channel) c inbox from until h = absurd h.stands

pub core-may_run : (machine : Machine) (unit : MachineUnit) (c : Box Core Global) (inbox : List Message) (from until : ℕ)
    → IsReadyFor machine unit (part.Core c) inbox from until → CoreCanRun (view_of c.value) from until inbox
core-may_run machine (unit.Core core) c inbox from until h =
    subst (CoreCanRun (view_of c.value) from until) (sym h.mail) (cores-may_run machine.config machine.traces.items from until core (view_of c.value) h.exists h.order h.stands)
core-may_run machine (unit.Channel channel) c inbox from until h = absurd h.stands

pub core-has_run : (machine : Machine) (unit : MachineUnit) (c d : Box Core Global) (inbox held holds : List Message) (from until : ℕ)
    → IsReadyFor machine unit (part.Core c) inbox from until → RunsOnto (view_of c.value) from until inbox (view_of d.value) held holds
    → HasRunOnto machine unit from until (part.Core d) held holds
core-has_run machine (unit.Core core) c d inbox held holds from until h runs =
    let goes = cores-go_on machine.config machine.traces.items from until core (view_of c.value) (view_of d.value) runs.sent h.exists h.order h.stands
    (subst (λ mail. RunsOver (view_of c.value) from until mail (view_of d.value) runs.sent) h.mail runs.runs) in
    record { messages = runs.sent; behind = runs.behind; ran = record { exists = h.exists; stands = goes.0; sent = goes.1 } }
core-has_run machine (unit.Channel channel) c d inbox held holds from until h runs = absurd h.stands

pub channel-can_run : (machine : Machine) (unit : MachineUnit) (c : Box Channel Global) (rows : Option (List IssuedCommand)) (inbox : List Message) (from until : ℕ)
    → IsReadyFor machine unit (part.Channel c rows) inbox from until → CanRun c.value inbox from until
channel-can_run machine (unit.Channel channel) c rows inbox from until h =
    subst (λ mail. CanRun c.value mail from until) (sym h.mail) (channels-may_run machine.config machine.traces.items from until channel c.value h.exists h.order h.stands.0)
channel-can_run machine (unit.Core core) c rows inbox from until h = absurd h.stands

-- a list that is kept has more behind it
kept-more : {X : Type 0} (kept then : Option (List X)) (xs ys more : List X) → then ≡ with_more kept more → ys ≡ xs ++ more → IfSome kept (λ rows. rows ≡ xs) → IfSome then (λ rows. rows ≡ ys)
kept-more None then xs ys more e f h = subst (λ kept. IfSome kept (λ rows. rows ≡ ys)) (sym e) tt
kept-more (Some rows) then xs ys more e f h = subst (λ kept. IfSome kept (λ rows. rows ≡ ys)) (sym e) (ap (λ x. x ++ more) h ∙ sym f)

pub channel-has_run : (machine : Machine) (unit : MachineUnit) (c d : Box Channel Global) (rows more : Option (List IssuedCommand)) (inbox held holds : List Message) (from until : ℕ)
    → IsReadyFor machine unit (part.Channel c rows) inbox from until → ChannelRunsOver c.value inbox from until d.value rows more held holds
    → HasRunOnto machine unit from until (part.Channel d more) held holds
channel-has_run machine (unit.Channel channel) c d rows more inbox held holds from until h gives =
    let goes = channels-go_on machine.config machine.traces.items from until channel c.value d.value rows more held holds h.exists h.order h.stands.0
    (subst (λ mail. ChannelRunsOver c.value mail from until d.value rows more held holds) h.mail gives) in
    record {
      messages = goes.sent;
      behind = goes.messages_behind;
      ran = record {
        exists = h.exists;
        stands = (goes.stands, kept-more rows more _ _ goes.issued goes.commands_behind goes.commands_are h.stands.1);
        sent = goes.messages_are;
      };
    }
channel-has_run machine (unit.Core core) c d rows more inbox held holds from until h gives = absurd h.stands
