-- What a unit tells of itself when it is asked.
use Rattle.std.proofs.Common.{◌≡◌, ℕ, ◌+◌, ◌-◌, Bool, true, false, List, ◌++◌, length, replicate, Option, Some, None, is_some, sym, ap, subst, ◌∙◌, arith}
use Rattle.std.specs.declared.boxed.Box.{Box}
use Rattle.std.specs.declared.alloc.Global.{Global}
use Rattle.std.proofs.lemmas.Bool.{false≢true}
use Rattle.std.proofs.lemmas.List.{append-nil}
use Rattle.sim_base.specs.declared.config.Config.{Config}
use Rattle.sim_base.specs.declared.command.Command.{Command}
use Rattle.sim_base.specs.declared.command.IssuedCommand.{IssuedCommand}
use Rattle.sim_base.specs.declared.history.CoreStep.{CoreStep}
use Rattle.sim_base.specs.declared.message.Message.{Message}
use Rattle.sim_base.specs.declared.message.Unit.{Unit as MachineUnit}
use Rattle.sim_base.specs.declared.message.Unit.TheVariants as unit
use Rattle.sim_base.specs.declared.trace.Entry.{Entry}
use Rattle.sim_base.specs.History.{trace_of}
use Rattle.sim_base.specs.Machine.{core_run}
use Rattle.sim_base.specs.Scheduling.{choice}
use Rattle.sim_base.proofs.Lists.{none-is}
use Rattle.laws.specs.Commands.{channel_steps_of}
use Rattle.laws.proofs.Legal.{length-channel_steps_of}
use Rattle.channel_step.specs.FrFcfs.Cycles.{IsFirstCycle}
use Rattle.channel_step.specs.Channels.{StandsFor as ChannelStandsFor}
use Rattle.channel_step.specs.Runs.{StandsAt}
use Rattle.channel_step.specs.declared.channel.Channel.{Channel}
use Rattle.core_window.specs.CoreViews.{view_of}
use Rattle.core_window.specs.Rests.{Rests, HasSomePast}
use Rattle.core_window.specs.declared.core_unit.Core.{Core}
use Rattle.units.specs.SpanLaws.Cores.{core_steps_of}
use Rattle.units.specs.SpanLaws.Mail.{mail_before}
use Rattle.units.specs.SpanLaws.Quiet.{RestsAlone}
use Rattle.units.proofs.SpanLaws.CoresOn.{length-core_steps_of}
use Rattle.units.specs.Parts.{IsPart}
use Rattle.units.specs.Quiet.{IsNextActOf}
use Rattle.units.specs.declared.machine.Machine.{Machine}
use Rattle.units.specs.declared.part.UnitState.TheVariants as part

rests-none : (s : Config) (core : ℕ) (trace : List Entry) (rows : List CoreStep) (mail : List Message) → Rests s core trace rows mail 0
unfolding core_run
rests-none s core trace rows mail = sym (append-nil rows)

some-not : {X : Type 0} (o : Option X) → is_some o ≡ true → o ≡ None → ⊥
some-not o e f = false≢true (sym (ap is_some f) ∙ e)

-- the first cycle in which a channel acts
channel-next_act : (machine : Machine) (channel from : ℕ) (next : Option ℕ)
    → IsFirstCycle (λ cycle. is_some (choice machine.config channel (channel_steps_of machine.config machine.traces.items from channel ++ replicate (cycle - from) None) (mail_before machine.config machine.traces.items from (unit.Channel channel) from))) from next
    → IsNextActOf machine (unit.Channel channel) from next
channel-next_act machine channel from next = go next
  where
    at : ℕ → Option Command
    at k = choice machine.config channel (channel_steps_of machine.config machine.traces.items from channel ++ replicate k None) (mail_before machine.config machine.traces.items from (unit.Channel channel) from)

    moved : (k : ℕ) (b : Bool) → is_some (at (from + k - from)) ≡ b → is_some (at k) ≡ b
    moved k b e = let same : from + k - from ≡ k = omega arith in subst (λ i. is_some (at i) ≡ b) same e

    go : (o : Option ℕ) → IsFirstCycle (λ cycle. is_some (at (cycle - from))) from o → IsNextActOf machine (unit.Channel channel) from o
    go None h = λ until l k m. none-is (at k) (moved k false (h (from + k) (omega arith)))
    go (Some act) h =
        record {
          since = h.from_now;
          rests = λ until l m k below. none-is (at k) (moved k false (h.not_before (from + k) (omega arith) (omega (arith, l, m, below))));
          acts = λ idle. some-not (at (act - from)) h.holds_then (idle (act - from) (omega (arith, h.from_now)));
        }

-- a core of a simulator may be asked
pub core-may_rest : (machine : Machine) (u : MachineUnit) (c : Box Core Global) (now : ℕ) → IsPart machine u now (part.Core c) → HasSomePast (view_of c.value)
core-may_rest machine (unit.Core core) c now h =
    record { s = machine.config; core = core; trace = trace_of machine.traces.items core; steps = core_steps_of machine.config machine.traces.items now core; mail = mail_before machine.config machine.traces.items now (unit.Core core) now; stands = h }
core-may_rest machine (unit.Channel channel) c now h = absurd h

pub core-cycle : (machine : Machine) (u : MachineUnit) (c : Box Core Global) (now : ℕ) → IsPart machine u now (part.Core c) → c.value.cycle ≡ now
core-cycle machine (unit.Core core) c now h = h.now ∙ length-core_steps_of machine.config machine.traces.items now core
core-cycle machine (unit.Channel channel) c now h = absurd h

-- a channel of a simulator may be asked
pub channel-stands_at : (machine : Machine) (u : MachineUnit) (c : Box Channel Global) (rows : Option (List IssuedCommand)) (now : ℕ) → IsPart machine u now (part.Channel c rows)
    → StandsAt c.value now
channel-stands_at machine (unit.Channel channel) c rows now h =
    record {
      s = machine.config;
      channel = channel;
      steps = channel_steps_of machine.config machine.traces.items now channel;
      mail = mail_before machine.config machine.traces.items now (unit.Channel channel) now;
      stands = h.0;
      at = length-channel_steps_of machine.config machine.traces.items now channel;
    }
channel-stands_at machine (unit.Core core) c rows now h = absurd h

-- what a channel tells when it acts next
abbrev pub ChannelTells : Channel → ℕ → Option ℕ → Type 0
ChannelTells c now next =
    (s : Config) (channel : ℕ) (rows : List (Option Command)) (mail : List Message) → ChannelStandsFor c s channel rows mail → length rows ≡ now
    → IsFirstCycle (λ cycle. is_some (choice s channel (rows ++ replicate (cycle - now) None) mail)) now next

pub channel-tells : (machine : Machine) (u : MachineUnit) (c : Box Channel Global) (rows : Option (List IssuedCommand)) (now : ℕ) (next : Option ℕ)
    → IsPart machine u now (part.Channel c rows) → ChannelTells c.value now next → IsNextActOf machine u now next
channel-tells machine (unit.Channel channel) c rows now next h tells =
    channel-next_act machine channel now next
    (tells machine.config channel (channel_steps_of machine.config machine.traces.items now channel) (mail_before machine.config machine.traces.items now (unit.Channel channel) now) h.0 (length-channel_steps_of machine.config machine.traces.items now channel))
channel-tells machine (unit.Core core) c rows now next h tells = absurd h

-- a unit rests in no cycles
pub rests-in_none : (s : Config) (traces : List (List Entry)) (now : ℕ) (u : MachineUnit) → RestsAlone s traces now now u
rests-in_none s traces now (unit.Core core) =
    let none : now - now ≡ 0 = omega arith in
    let trace = trace_of traces core in
    let steps = core_steps_of s traces now core in
    let mail = mail_before s traces now (unit.Core core) now in
    subst (Rests s core trace steps mail) (sym none) (rests-none s core trace steps mail)
rests-in_none s traces now (unit.Channel channel) = λ k l. absurd (omega (arith, l))
