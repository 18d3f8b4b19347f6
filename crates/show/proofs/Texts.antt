-- Texts below their heads.
use Rattle.std.specs.Prelude.{Bool}
use Rattle.std.proofs.Common.{◌≡◌, ℕ, List, ◌++◌, length, sym, ap, subst, ◌∙◌, append_assoc, Option, Some, None}
use Rattle.measures.specs.Texts.{Puts, PutsWords}
use Rattle.measures.specs.declared.text_builder.TextBuilder.{TextBuilder}
use Rattle.measures.proofs.Texts.{puts_both}
use Rattle.measures.specs.Latency.{read_latencies, AreLatenciesOf}
use Rattle.measures.specs.declared.request_measures.latency.Latencies.{Latencies}
use Rattle.request_table.specs.declared.times.RequestTimes.{RequestTimes}
use Rattle.show.specs.Requests.{replies_of}
use Rattle.show.specs.Rows.{time_text}
use Rattle.show.specs.Screen.{IsBelow, AreChannels, AreCores, IsScreen, channels_head, cores_head, finished}
use Rattle.show.specs.declared.options.Options.{Options}
use Rattle.sim_base.specs.declared.config.Config.{Config}
use Rattle.statistics.specs.Values.{RunStats}
use Rattle.show.specs.Tables.{IsTable}
use Rattle.measures.specs.declared.number.Number.{Number}

-- a text of some kind was put below a head
pub put_below : {B : List ℕ → Type 0} (head : List ℕ) {a b c : TextBuilder} → PutsWords head a b → Puts B b c → Puts (IsBelow head B) a c
put_below head first second = puts_both (λ x y h k. record { lines = y; is = k; text_is = ap (λ t. t ++ y) h }) first second

-- a table in other words
pub table_as : {label label' : List ℕ} {headings headings' : List (List ℕ)} {rows rows' : List (List Number)} (all : Bool) (text : List ℕ) → label ≡ label' → headings ≡ headings' → rows ≡ rows'
    → IsTable label headings all rows text → IsTable label' headings' all rows' text
table_as {label} {label'} {headings} {headings'} {rows} {rows'} all text l h r table =
    subst (λ x. IsTable x headings' all rows' text) l (subst (λ x. IsTable label x all rows' text) h (subst (λ x. IsTable label headings all x text) r table))

-- the cores of a run, and the time of its cycles
pub record IsBottom (stats : RunStats) (options : Options) (text : List ℕ) : Type 0 where
  pub cores : List ℕ
  pub cores_are : IsBelow (cores_head (length stats.cores) (finished stats.cores)) (AreCores stats options) cores
  pub text_is : text ≡ cores ++ time_text options.khz stats.cycles

pub bottom_of : (stats : RunStats) (options : Options) (cores time : List ℕ) → IsBelow (cores_head (length stats.cores) (finished stats.cores)) (AreCores stats options) cores
    → time ≡ time_text options.khz stats.cycles → IsBottom stats options (cores ++ time)
bottom_of stats options cores time are is = record { cores = cores; cores_are = are; text_is = ap (λ t. cores ++ t) is }

-- a screen, from its parts
pub screen_of : (stats : RunStats) (options : Options) (machine : Option Config) (channels bottom : List ℕ)
    → IsBelow (channels_head stats.cycles (length stats.channels)) (AreChannels stats options machine) channels → IsBottom stats options bottom
    → IsScreen stats options machine (channels ++ bottom)
screen_of stats options machine channels bottom are is = record {
  channels = channels;
  cores = is.cores;
  channels_are = are;
  cores_are = is.cores_are;
  text_is = ap (λ t. channels ++ t) is.text_is ∙ sym (append_assoc channels is.cores (time_text options.khz stats.cycles));
}

-- as many replies came as there are read latencies
pub replies_are : (requests : List RequestTimes) (found : Option Latencies) → AreLatenciesOf requests found → replies_of found ≡ length (read_latencies requests)
replies_are requests None none = sym (ap length none)
replies_are requests (Some found) are = are.count
