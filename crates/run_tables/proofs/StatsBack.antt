-- A table of statistics is read as it was written.
use Rattle.std.proofs.Common.{◌≡◌, ◌+◌, ◌∙◌, ℕ, List, [], ◌∷◌, map, Option, Some, None, refl, ap, arith, false, sym, subst}
use Rattle.std.specs.Prelude.{codes}
use Rattle.std.specs.List.{AllByRecursion as Each, list_any}
use Rattle.csv.specs.Reading.{strip_bom}
use Rattle.csv.specs.declared.parser.State.TheVariants as st
use Rattle.sim_base.proofs.Each.{Each-append}
use Rattle.reports.specs.Rows.{numbered, row_text, rows_text, table_text}
use Rattle.reports.specs.Stats.{stats_header, stats_rows, stats_text, value_fields, draining_values, core_rows, channel_rows}
use Rattle.rule_check.specs.Left.{records_after}
use Rattle.rule_check.specs.Verdict.{records_of}
use Rattle.statistics.specs.Values.{RunStats}
use Rattle.statistics.specs.declared.channels.ChannelStats.{ChannelStats}
use Rattle.statistics.specs.declared.cores.CoreStats.{CoreStats}
use Rattle.run_tables.proofs.TableLaws.Plain.{IsPlain, decimal-plain}
use Rattle.run_tables.proofs.TableLaws.RowsBack.{IsPlainRow, rows-read}
use Rattle.run_tables.specs.Stats.{StatsFit, IsStatsTable}
use Rattle.run_tables.proofs.Units.{from}
use Rattle.run_tables.proofs.RequestsBack.{value-plain}
use Rattle.csv.specs.Writing.{needs_byte, default_writer}
use Rattle.std.proofs.lemmas.Bool.{or_parts}
use Rattle.std.proofs.lemmas.List.{map-append}
use Rattle.statistics.specs.Cores.{core_counters, core_numbers}
use Rattle.statistics.specs.Channels.{channel_counters, channel_numbers}
use Rattle.statistics.specs.Counters.{named}
use Rattle.statistics.specs.declared.counters.CounterKind.{CounterKind}

-- so is the line of a count
line : (scope : List ℕ) (id : ℕ) (name : List ℕ) (value : Option ℕ) → IsPlain scope → IsPlain name → IsPlainRow (value_fields scope id (name, value))
line scope id name value h k = record { several = omega arith; plain = (h, (decimal-plain id, (k, (value-plain value, tt)))) }

-- counters whose names need no quotes
names-plain : (counters : List (List ℕ × CounterKind)) → list_any (λ c. list_any (needs_byte default_writer) c.0) counters ≡ false → Each (λ (c : List ℕ × CounterKind). IsPlain c.0) counters
names-plain [] h = tt
names-plain (counter ∷ counters) h =
    let parts = or_parts (list_any (needs_byte default_writer) counter.0) (list_any (λ c. list_any (needs_byte default_writer) c.0) counters) h in
    (parts.0, names-plain counters parts.1)

-- so are the lines of their numbers
numbers-plain : (scope : List ℕ) (id : ℕ) (counters : List (List ℕ × CounterKind)) (numbers : List (Option ℕ)) → IsPlain scope → Each (λ (c : List ℕ × CounterKind). IsPlain c.0) counters
    → Each IsPlainRow (map (value_fields scope id) (named counters numbers))
numbers-plain scope id [] numbers h names = tt
numbers-plain scope id (counter ∷ counters) [] h names = tt
numbers-plain scope id (counter ∷ counters) (number ∷ numbers) h names = (line scope id counter.0 number h names.0, numbers-plain scope id counters numbers h names.1)

core-plain : (id : ℕ) (core : CoreStats) → Each IsPlainRow (core_rows id core)
core-plain id core = numbers-plain (codes "core") id core_counters (core_numbers core) refl (names-plain core_counters refl)

draining : (id : ℕ) (count : Option ℕ) → Each IsPlainRow (map (value_fields (codes "channel") id) (draining_values count))
draining id None = tt
draining id (Some n) = (line (codes "channel") id (codes "draining") (Some n) refl refl, tt)

channel-plain : (id : ℕ) (channel : ChannelStats) → Each IsPlainRow (channel_rows id channel)
channel-plain id channel =
    subst (Each IsPlainRow) (sym (map-append (value_fields (codes "channel") id) (named channel_counters (channel_numbers channel)) (draining_values channel.draining)))
    (Each-append IsPlainRow (map (value_fields (codes "channel") id) (named channel_counters (channel_numbers channel))) (map (value_fields (codes "channel") id) (draining_values channel.draining))
    (numbers-plain (codes "channel") id channel_counters (channel_numbers channel) refl (names-plain channel_counters refl)) (draining id channel.draining))

-- so are those of all units
units-plain : {A : Type 0} (k : ℕ) (f : ℕ → A → List (List (List ℕ))) (xs : List A) → ((id : ℕ) (x : A) → Each IsPlainRow (f id x)) → Each IsPlainRow (from k f xs)
units-plain k f [] h = tt
units-plain k f (x ∷ xs) h = Each-append IsPlainRow (f k x) (from (k + 1) f xs) (h k x) (units-plain (k + 1) f xs h)

header-plain : IsPlainRow stats_header
header-plain = record { several = omega arith; plain = (refl, (refl, (refl, (refl, tt)))) }

rows-plain : (stats : RunStats) → Each IsPlainRow (stats_header ∷ stats_rows stats)
unfolding numbered
rows-plain stats = (
  header-plain,
  (
    line (codes "run") 0 (codes "cycles") (Some stats.cycles) refl refl,
    Each-append IsPlainRow (from 0 core_rows stats.cores) (from 0 channel_rows stats.channels) (units-plain 0 core_rows stats.cores core-plain) (units-plain 0 channel_rows stats.channels channel-plain),
  ),
)

-- the table begins with no byte order mark
unmarked : (stats : RunStats) → strip_bom (stats_text stats) ≡ stats_text stats
unfolding strip_bom stats_text table_text rows_text row_text
unmarked stats = refl

-- its records are the header and the rows
records-read : (stats : RunStats) → records_of (stats_text stats) ≡ stats_header ∷ stats_rows stats
unfolding records_after stats_text table_text
records-read stats = ap (λ text. records_after st.StartRecord text) (unmarked stats) ∙ rows-read (stats_header ∷ stats_rows stats) (rows-plain stats)

pub stats-read : (stats : RunStats) → StatsFit stats → IsStatsTable (records_of (stats_text stats)) stats
stats-read stats fits = record { parts = records-read stats; fits = fits }
