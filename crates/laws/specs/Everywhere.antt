-- What is said of every run.
--     InEachRun P      it holds of each machine and its traces
--     InEachCycle P      and before each cycle of the run
--     InEachSpan P      and over each span of it
--     InEachTurn P      it holds where cores stand at one cycle, channels at another, and one kind goes on to a third
use Rattle.std.specs.Prelude.{ℕ, List}
use Rattle.sim_base.specs.declared.config.Config.{Config}
use Rattle.sim_base.specs.declared.trace.Entry.{Entry}

-- a law holds of each machine and the traces of its cores
abbrev pub InEachRun : (Config → List (List Entry) → Type 0) → Type 0
InEachRun P = (s : Config) (traces : List (List Entry)) → P s traces

-- a law holds before each cycle of each run
abbrev pub InEachCycle : (Config → List (List Entry) → ℕ → Type 0) → Type 0
InEachCycle P = (s : Config) (traces : List (List Entry)) (now : ℕ) → P s traces now

-- a law holds over each span of each run, from `from` up to `until`
abbrev pub InEachSpan : (Config → List (List Entry) → ℕ → ℕ → Type 0) → Type 0
InEachSpan P = (s : Config) (traces : List (List Entry)) (from until : ℕ) → P s traces from until

-- a law holds of each run where the cores stand at a cycle and the channels at a cycle, and the units of one kind go on
-- up to `until`
abbrev pub InEachTurn : (Config → List (List Entry) → ℕ → ℕ → ℕ → Type 0) → Type 0
InEachTurn P =
    (s : Config) (traces : List (List Entry)) (cores_at channels_at until : ℕ) → P s traces cores_at channels_at until
