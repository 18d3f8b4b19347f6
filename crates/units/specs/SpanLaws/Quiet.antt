-- A unit that does nothing in a span, or sends nothing.
--     RestsAlone s traces from until unit      a unit would do nothing in a span, if nothing arrived at it
--     IsSilent s traces from until unit      a unit would send nothing in a span, if nothing arrived at it
use Rattle.std.specs.Prelude.{◌≡◌, ℕ, ◌+◌, ◌-◌, ◌≤◌, List}
use Rattle.sim_base.specs.declared.config.Config.{Config}
use Rattle.sim_base.specs.History.{trace_of, core_messages, channel_messages}
use Rattle.sim_base.specs.Machine.{core_run, channel_run}
use Rattle.sim_base.specs.declared.message.Unit.{Unit as MachineUnit}
use Rattle.sim_base.specs.declared.message.Unit.TheVariants.{Core, Channel}
use Rattle.sim_base.specs.declared.trace.Entry.{Entry}
use Rattle.laws.specs.Commands.{channel_steps_of}
use Rattle.channel_step.specs.Fit.{IsIdle}
use Rattle.core_window.specs.Rests.{Rests}
use Rattle.units.specs.SpanLaws.Cores.{core_steps_of}
use Rattle.units.specs.SpanLaws.Mail.{mail_before}

-- from what a unit did before a span, and what arrived at it, it would do nothing in the span, if nothing arrived in it
abbrev pub RestsAlone : Config → List (List Entry) → ℕ → ℕ → MachineUnit → Type 0
RestsAlone s traces from until (Core core) =
    Rests s core (trace_of traces core) (core_steps_of s traces from core) (mail_before s traces from (Core core) from)
    (until - from)
RestsAlone s traces from until (Channel channel) =
    IsIdle s channel (channel_steps_of s traces from channel) (mail_before s traces from (Channel channel) from)
    (until - from)

-- Alone, from what it did before `from` and what arrived at it, a unit would send nothing before `until`, if nothing
-- arrived. A core may retire and issue Plain entries, and a channel may issue commands other than RD and WR: a unit
-- that rests is silent, but not the other way round.
abbrev pub IsSilent : Config → List (List Entry) → ℕ → ℕ → MachineUnit → Type 0
IsSilent s traces from until (Core core) =
    (n : ℕ) → from + n ≤ until
    → core_messages s core (trace_of traces core)
    (core_run s core (trace_of traces core) (core_steps_of s traces from core)
    (mail_before s traces from (Core core) from) n)
    ≡ core_messages s core (trace_of traces core) (core_steps_of s traces from core)
IsSilent s traces from until (Channel channel) =
    (n : ℕ) → from + n ≤ until
    → channel_messages s channel
    (channel_run s channel (channel_steps_of s traces from channel)
    (mail_before s traces from (Channel channel) from) n)
    ≡ channel_messages s channel (channel_steps_of s traces from channel)
