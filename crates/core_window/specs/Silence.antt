-- Cycles in which a core sends nothing.
--     IsSilentUntil s core trace steps mail until      a core sends nothing before a cycle, while no message comes
--     KeepsSilent view until      a core in this state sends nothing before a cycle, whatever it did and had so far
use Rattle.std.specs.Prelude.{◌≡◌, ℕ, ◌+◌, ◌≤◌, List, length}
use Rattle.sim_base.specs.declared.config.Config.{Config}
use Rattle.sim_base.specs.History.{core_messages}
use Rattle.sim_base.specs.Machine.{core_run}
use Rattle.sim_base.specs.declared.history.CoreStep.{CoreStep}
use Rattle.sim_base.specs.declared.message.Message.{Message}
use Rattle.sim_base.specs.declared.trace.Entry.{Entry}
use Rattle.core_window.specs.Stands.{StandsFor}
use Rattle.core_window.specs.Views.{CoreView}

-- A core sends nothing before a cycle, while no message comes. It may retire entries, and issue Plain ones.
abbrev pub IsSilentUntil : Config → ℕ → List Entry → List CoreStep → List Message → ℕ → Type 0
IsSilentUntil s core trace steps mail until =
    (n : ℕ) → length steps + n ≤ until
    → core_messages s core trace (core_run s core trace steps mail n) ≡ core_messages s core trace steps

-- A core in this state sends nothing before a cycle, while no message comes, whatever it did and had so far.
abbrev pub KeepsSilent : CoreView → ℕ → Type 0
KeepsSilent view until =
    (s : Config) (core : ℕ) (trace : List Entry) (steps : List CoreStep) (mail : List Message)
    → StandsFor s core trace steps mail view → IsSilentUntil s core trace steps mail until
