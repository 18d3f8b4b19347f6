-- Cycles in which a core does nothing.
--     idle_step      what a core does in a cycle in which it does nothing
--     Rests s core trace steps mail n      a core does nothing in n cycles in which no message comes
--     IsNextAct s core trace steps mail cycle      the first cycle in which a core acts, where no message comes
--     HasSomePast view      a core that stands for some steps and messages
--     rested view until      a core after it did nothing up to a cycle
--     MayRest view until      the counts of a core have room for the cycles up to this one
use Rattle.std.specs.Prelude.{◌≡◌, ℕ, ◌^◌, ◌+◌, ◌-◌, ◌<◌, ◌≤◌, ◌==◌, if◌then◌else◌, List, ◌++◌, length, replicate, Option, Some, None}
use Rattle.sim_base.specs.declared.config.Config.{Config}
use Rattle.sim_base.specs.Machine.{core_run}
use Rattle.sim_base.specs.Windows.{step}
use Rattle.sim_base.specs.declared.history.CoreStep.{CoreStep}
use Rattle.sim_base.specs.declared.message.Message.{Message}
use Rattle.sim_base.specs.declared.trace.Entry.{Entry}
use Rattle.core_window.specs.Stands.{StandsFor}
use Rattle.core_window.specs.Views.{CoreView}

-- a core does nothing
abbrev pub idle_step : CoreStep
idle_step = record { retired = 0; issued = 0 }

-- a core does nothing in n cycles, while no message comes
abbrev pub Rests : Config → ℕ → List Entry → List CoreStep → List Message → ℕ → Type 0
Rests s core trace steps mail n = core_run s core trace steps mail n ≡ steps ++ replicate n idle_step

-- a core acts first in this cycle: it does nothing before, and something then
pub record IsFirstAct (s : Config) (core : ℕ) (trace : List Entry) (steps : List CoreStep) (mail : List Message)
    (cycle : ℕ) : Type 0 where
  pub since : length steps ≤ cycle
  pub rests : (n : ℕ) → length steps + n ≤ cycle → Rests s core trace steps mail n
  pub acts : (step s core trace (core_run s core trace steps mail (cycle - length steps)) mail).0 ≡ idle_step → ⊥

-- a core never acts
pub record NeverActs (s : Config) (core : ℕ) (trace : List Entry) (steps : List CoreStep) (mail : List Message)
    : Type 0 where
  pub now : (step s core trace steps mail).0 ≡ idle_step
  pub rests : (n : ℕ) → Rests s core trace steps mail n

-- the first cycle in which a core acts, while no message comes, if there is one
abbrev pub IsNextAct : Config → ℕ → List Entry → List CoreStep → List Message → Option ℕ → Type 0
IsNextAct s core trace steps mail (Some cycle) = IsFirstAct s core trace steps mail cycle
IsNextAct s core trace steps mail None = NeverActs s core trace steps mail

-- a core stands for some steps and messages
pub record HasSomePast (view : CoreView) : Type 0 where
  pub s : Config
  pub core : ℕ
  pub trace : List Entry
  pub steps : List CoreStep
  pub mail : List Message
  pub stands : StandsFor s core trace steps mail view

-- A core after it did nothing up to a cycle, where the first entry of its full window waits: it counts these cycles, as
-- such in which no entry of its trace was left, or in which its window was full.
abbrev pub rested : CoreView → ℕ → CoreView
rested view until =
    let cycles = until - view.now in
    let none_left = view.stats.issued == length view.trace in
    record view {
      now = until;
      stats = record view.stats {
        stop_end = view.stats.stop_end + (if none_left then cycles else 0);
        stop_window = view.stats.stop_window + (if none_left then 0 else cycles);
      };
    }

-- the counts of a core have room for the cycles up to this one
pub record MayRest (view : CoreView) (until : ℕ) : Type 0 where
  pub none_left : view.stats.stop_end + (until - view.now) < 2 ^ 64
  pub full : view.stats.stop_window + (until - view.now) < 2 ^ 64
