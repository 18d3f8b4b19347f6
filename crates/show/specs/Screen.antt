-- What the screen has.
--     IsBelow head kind text      a text of some kind below a head
--     finished cores      how many cores have finished
--     channels_head cycles count, cores_head count finished      the lines above the two tables
--     AreChannels, AreCores stats options .. text      the two tables
--     IsScreen stats options machine text      the screen of a run
use Rattle.std.specs.Prelude.{◌≡◌, ℕ, List, ◌++◌, length, map, count_by, codes, decimal, Option, is_some}
use Rattle.sim_base.specs.declared.config.Config.{Config}
use Rattle.statistics.specs.Values.{RunStats}
use Rattle.statistics.specs.declared.cores.CoreStats.{CoreStats}
use Rattle.show.specs.Rows.{channel_headings, channel_row, core_headings, core_row, time_text}
use Rattle.show.specs.Tables.{IsTable}
use Rattle.show.specs.declared.options.Options.{Options}

-- a text of some kind below a head
pub record IsBelow (head : List ℕ) (kind : List ℕ → Type 0) (text : List ℕ) : Type 0 where
  pub lines : List ℕ
  pub is : kind lines
  pub text_is : text ≡ head ++ lines

-- the lines above the table of channels
abbrev pub channels_head : ℕ → ℕ → List ℕ
channels_head cycles count =
    codes "cycles " ++ decimal cycles
    ++ codes "\n\nChannels (" ++ decimal count ++ codes "): row hits in % of rd and wr, all else in % of the cycles\n"

-- how many cores have finished: they retired the last entries of their traces
abbrev pub finished : List CoreStats → ℕ
finished cores = count_by (λ core. is_some core.finish) cores

-- the lines above the table of cores
abbrev pub cores_head : ℕ → ℕ → List ℕ
cores_head count finished =
    codes "\nCores (" ++ decimal count ++ codes ", " ++ decimal finished
    ++ codes " finished): finish and latency in cycles, why no more was issued in % of the cycles\n"

-- the table of channels
abbrev pub AreChannels : RunStats → Options → Option Config → List ℕ → Type 0
AreChannels stats options machine text =
    IsTable (codes "channel") (channel_headings machine options.khz) options.all
    (map (channel_row stats.cycles machine options.khz) stats.channels) text

-- the table of cores
abbrev pub AreCores : RunStats → Options → List ℕ → Type 0
AreCores stats options text =
    IsTable (codes "core") (core_headings options.khz) options.all (map (core_row stats.cycles options.khz) stats.cores)
    text

-- the screen of a run: its cycles, its channels and its cores, and the time that the cycles take, where the clock is
-- given
pub record IsScreen (stats : RunStats) (options : Options) (machine : Option Config) (text : List ℕ) : Type 0 where
  pub channels : List ℕ
  pub cores : List ℕ
  pub channels_are : IsBelow (channels_head stats.cycles (length stats.channels)) (AreChannels stats options machine)
      channels
  pub cores_are : IsBelow (cores_head (length stats.cores) (finished stats.cores)) (AreCores stats options) cores
  pub text_is : text ≡ channels ++ cores ++ time_text options.khz stats.cycles
