-- What a core does, from one state to another.
--     HeadWaits view, IsFull view      the first entry of a core's window is not done; a core's window is full
--     RestsForCredit view      a core does nothing, since it has no credit for its next entry
--     StaysBelowFirst core n, StaysBelowSecond core n      n entries more do not go past the memory entries ahead
--     DoesWork view work      what a core does in the next cycle
--     IsFlowOf numbers outstanding flow      in each cycle of a flow a window has room for the width of entries
--     IsSteadyFlow view flow      in each cycle of a flow a core issues its width of Plain entries
--     AdvancesBy n a before b after, AdvancesTo until a before b after      a core goes on by n cycles, or to a cycle
--     GoesOnTo until a before b after      a core goes on by some cycles, at most to a cycle
--     with_credits view credits      a core with other credits
--     TakesIn old message new      a core takes a message
--     ActsNext view next      the first cycle in which a core acts
use Rattle.std.specs.Prelude.{◌≡◌, ℕ, ◌+◌, ◌-◌, ◌<◌, ◌≤◌, List, [], ◌∷◌, ◌++◌, length, Option, None}
use Rattle.sim_base.specs.declared.config.Config.{Config}
use Rattle.sim_base.specs.declared.history.CoreStep.{CoreStep}
use Rattle.sim_base.specs.declared.message.Message.{Message}
use Rattle.sim_base.specs.declared.trace.Entry.{Entry}
use Rattle.sim_base.specs.declared.trace.Stop.TheVariants as stop
use Rattle.statistics.specs.declared.final_state.Credits.{Credits}
use Rattle.core_window.specs.Causes.{first_undone}
use Rattle.core_window.specs.CoreViews.{view_of}
use Rattle.core_window.specs.Fit.{MayCome}
use Rattle.core_window.specs.Inside.{StandsAt, Advances, GoesOn, Does}
use Rattle.core_window.specs.Rests.{idle_step, IsNextAct}
use Rattle.core_window.specs.Stands.{StandsFor}
use Rattle.core_window.specs.Steady.{IsSteady, IsFlow}
use Rattle.core_window.specs.Views.{CoreView}
use Rattle.core_window.specs.declared.core_unit.Core.{Core}
use Rattle.core_window.specs.declared.core_unit.CycleWork.{CycleWork}
use Rattle.core_window.specs.declared.flow.Flow.{Flow}
use Rattle.core_window.specs.declared.flow.WindowNumbers.{WindowNumbers}
use Rattle.core_window.specs.declared.outstanding.OutstandingRead.{OutstandingRead}

-- the first entry of a core's window is not done: no entry retires until a message comes
abbrev pub HeadWaits : CoreView → Type 0
HeadWaits v = first_undone v.stats.issued v.outstanding ≤ v.stats.retired

-- a core's window is full: no entry issues until one retires
abbrev pub IsFull : CoreView → Type 0
IsFull v = v.config.window ≤ v.stats.issued - v.stats.retired

-- a core does nothing until a message comes, since it has no credit for its next entry
abbrev pub RestsForCredit : CoreView → Type 0
RestsForCredit v = Does v idle_step stop.Credit None

-- n entries more than a core issued do not go past the first of the memory entries ahead
abbrev pub StaysBelowFirst : Core → ℕ → Type 0
StaysBelowFirst c n = c.stats.issued + n ≤ c.ahead.first_at

-- n entries more than a core issued do not go past the second of the memory entries ahead
abbrev pub StaysBelowSecond : Core → ℕ → Type 0
StaysBelowSecond c n = c.stats.issued + n ≤ c.ahead.second_at

-- a Read or a Write is ahead
abbrev pub HasMemoryAhead : Core → Type 0
HasMemoryAhead c = c.ahead.first_at < length c.trace

-- what a core does in the next cycle, if no further message comes
abbrev pub DoesWork : CoreView → CycleWork → Type 0
DoesWork view work = Does view work.core_step work.why work.memory

-- in each of the cycles of a flow a window with these numbers takes in the width of entries, and as many retire as the
-- flow says
abbrev pub IsFlowOf : WindowNumbers → List OutstandingRead → Flow → Type 0
IsFlowOf numbers outstanding flow =
    IsFlow numbers.width numbers.window numbers.issued numbers.retired outstanding flow.retired flow.cycles

-- in each of the cycles of a flow a core issues its width of Plain entries, and does the same
abbrev pub IsSteadyFlow : CoreView → Flow → Type 0
IsSteadyFlow view flow =
    IsSteady view flow.cycles (record { retired = flow.retired; issued = view.config.width }) stop.Width

-- A core goes on by n cycles in which no further message comes, and puts what it sends behind what a list held before.
abbrev pub AdvancesBy : ℕ → Core → List Message → Core → List Message → Type 0
AdvancesBy n a before b after = Advances n (view_of a) before (view_of b) after

-- A core goes on up to a cycle while no further message comes, and puts what it sends behind what a list held before.
abbrev pub AdvancesTo : ℕ → Core → List Message → Core → List Message → Type 0
AdvancesTo until a before b after = AdvancesBy (until - a.cycle) a before b after

-- a core goes on by some cycles, at most up to `until`, while no further message comes, and puts what it sends behind
-- what a list held before
abbrev pub GoesOnTo : ℕ → Core → List Message → Core → List Message → Type 0
GoesOnTo until a before b after = GoesOn until (view_of a) before (view_of b) after

-- a core with other credits
abbrev pub with_credits : CoreView → List Credits → CoreView
with_credits view credits = record view { credits = credits }

-- a core takes a message: for each past that the core may have, after which the message may come, it then stands for
-- that past with the message
abbrev pub TakesIn : CoreView → Message → CoreView → Type 0
TakesIn old message new =
    (s : Config) (core : ℕ) (trace : List Entry) (steps : List CoreStep) (mail : List Message)
    → StandsAt s core trace steps mail old → message.arrival ≡ length steps → MayCome s core trace steps mail message
    → StandsAt s core trace steps (mail ++ message ∷ []) new

-- for each past that a core may have, this is the first cycle in which it acts, while no message comes, if there is one
abbrev pub ActsNext : CoreView → Option ℕ → Type 0
ActsNext view next =
    (s : Config) (core : ℕ) (trace : List Entry) (steps : List CoreStep) (mail : List Message)
    → StandsFor s core trace steps mail view → IsNextAct s core trace steps mail next
