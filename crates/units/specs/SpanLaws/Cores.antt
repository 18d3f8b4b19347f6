-- The cores of a run, each run alone, span by span.
--     core_steps_of s traces n core      what a core does in the first n cycles of a run, a step a cycle
--     MessagesFitSpans s traces from until      the replies and credits that come to a core in a span are fit for it
--     CoresRunAlone s traces from until      from the messages of a span the core alone does what it does in the run
--     IsCoreAt s traces core now view      a core stands for what it did in the first cycles of a run
--     CoresStart, CoresMayRun, CoresGoOn      a core stands for its part at first, and from span to span
--     CoresEndAlike s traces now      the statistics and the state of a core are those of the run
use Rattle.std.specs.Prelude.{◌≡◌, ℕ, ◌-◌, ◌<◌, ◌≤◌, List, [], ◌++◌}
use Rattle.sim_base.specs.declared.config.Config.{Config}
use Rattle.sim_base.specs.History.{trace_of, steps_of_core, messages_of_core}
use Rattle.sim_base.specs.Machine.{run, core_run}
use Rattle.sim_base.specs.declared.history.CoreStep.{CoreStep}
use Rattle.sim_base.specs.declared.message.Message.{Message}
use Rattle.sim_base.specs.declared.message.Unit.TheVariants.{Core}
use Rattle.sim_base.specs.declared.trace.Entry.{Entry}
use Rattle.statistics.specs.Cores.{core_stats}
use Rattle.statistics.specs.Runs.{stats_of_core, core_final, final_of_core}
use Rattle.core_window.specs.Fit.{IsFit, CanRun, RunsOver}
use Rattle.core_window.specs.Stands.{StandsFor}
use Rattle.core_window.specs.Views.{CoreView}
use Rattle.units.specs.SpanLaws.Mail.{mail_before, mail_in}

-- what a core does in the first n cycles of a run, a step a cycle
abbrev pub core_steps_of : Config → List (List Entry) → ℕ → ℕ → List CoreStep
core_steps_of s traces n core = steps_of_core core (run s traces n)

-- the messages of a run that come to a core in a span are fit for it, after what the core did and what arrived before
abbrev pub MessagesFitSpans : Config → List (List Entry) → ℕ → ℕ → Type 0
MessagesFitSpans s traces from until =
    (core : ℕ) → core < s.cores → from ≤ until
    → IsFit s core (trace_of traces core) (core_steps_of s traces from core)
    (mail_before s traces until (Core core) from)
    from until (mail_in s traces until (Core core) from until)

-- from the replies and credits that come to a core in a span the core alone does in the span what it does in the run
abbrev pub CoresRunAlone : Config → List (List Entry) → ℕ → ℕ → Type 0
CoresRunAlone s traces from until =
    (core : ℕ) → core < s.cores → from ≤ until
    → core_run s core (trace_of traces core) (core_steps_of s traces from core)
    (mail_before s traces until (Core core) from ++ mail_in s traces until (Core core) from until) (until - from)
    ≡ core_steps_of s traces until core

-- a core stands for what the one with this number did in the cycles of a run before `now`, and for what arrived at it
-- in them
abbrev pub IsCoreAt : Config → List (List Entry) → ℕ → ℕ → CoreView → Type 0
IsCoreAt s traces core now view =
    StandsFor s core (trace_of traces core) (core_steps_of s traces now core) (mail_before s traces now (Core core) now)
    view

-- before the first cycle a core that has done nothing stands for its part of the run
abbrev pub CoresStart : Config → List (List Entry) → Type 0
CoresStart s traces =
    (core : ℕ) (view : CoreView) → StandsFor s core (trace_of traces core) [] [] view → IsCoreAt s traces core 0 view

-- a core that stands for its part of a run may be run over a span with what arrives at it there
abbrev pub CoresMayRun : Config → List (List Entry) → ℕ → ℕ → Type 0
CoresMayRun s traces from until =
    (core : ℕ) (view : CoreView) → core < s.cores → from ≤ until → IsCoreAt s traces core from view
    → CanRun view from until (mail_in s traces until (Core core) from until)

-- a core that is run over a span stands for its part of the longer run, and what it sent is what the run sends more
abbrev pub CoresGoOn : Config → List (List Entry) → ℕ → ℕ → Type 0
CoresGoOn s traces from until =
    (core : ℕ) (before after : CoreView) (sent : List Message) → core < s.cores → from ≤ until
    → IsCoreAt s traces core from before
    → RunsOver before from until (mail_in s traces until (Core core) from until) after sent
    → IsCoreAt s traces core until after
    × (messages_of_core s traces (run s traces until) core ≡ messages_of_core s traces (run s traces from) core ++ sent)

-- the statistics and the state of what a core did, and of what arrived at it, are those of the run
abbrev pub CoresEndAlike : Config → List (List Entry) → ℕ → Type 0
CoresEndAlike s traces now =
    (core : ℕ)
    → (core_stats s core (trace_of traces core) (core_steps_of s traces now core)
    (mail_before s traces now (Core core) now)
    ≡ stats_of_core s traces (run s traces now) core)
    × (core_final s core (trace_of traces core) (core_steps_of s traces now core)
    (mail_before s traces now (Core core) now)
    ≡ final_of_core s traces (run s traces now) core)
