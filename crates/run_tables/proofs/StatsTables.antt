-- A table is read just where it is the table of statistics.
use Rattle.std.proofs.Common.{◌≡◌, ◌+◌, ◌*◌, ◌<◌, ◌≤◌, ◌==◌, ◌||◌, ◌∙◌, ℕ, nat_lt, Bool, true, false, List, [], ◌∷◌, ◌++◌, length, drop, Some, Ok, refl, sym, ap, subst, arith, inl, inr, append-nil, length-append}
use Rattle.std.specs.Prelude.{codes, ⊤}
use Rattle.std.proofs.lemmas.Bool.{cases_lt, eqb-false, ne_eqb, lt-ltb, le-ltb, or_parts}
use Rattle.std.proofs.lemmas.List.{append_cancel_left, drop_all, length-drop}
use Rattle.std.proofs.lemmas.List.Elements.{All-from_recursion, recursion_from_All}
use Rattle.std.specs.List.{AllByRecursion as Each, slice_get}
use Rattle.csv.specs.Records.{field_at}
use Rattle.reports.specs.Rows.{numbered}
use Rattle.reports.specs.Stats.{stats_header, value_fields, core_rows, channel_rows}
use Rattle.rule_check.specs.Fields.{text_at}
use Rattle.statistics.specs.Channels.{ChannelFits}
use Rattle.statistics.specs.Values.{RunStats}
use Rattle.statistics.specs.declared.channels.ChannelStats.{ChannelStats}
use Rattle.statistics.specs.declared.cores.CoreStats.{CoreStats}
use Rattle.run_tables.specs.Lines.{has_text, is_header_row}
use Rattle.run_tables.specs.Stats.{CoreInRange, IsStatsTable}
use Rattle.run_tables.specs.Units.{AreRead, core_at, core_size, channel_at, channel_size, count_at, SomeCores, SomeChannels, IsRead, core_records}
use Rattle.run_tables.proofs.Exact.{header_is, header_back}
use Rattle.run_tables.proofs.UnitRows.{NoDraining, count_row, count_small, count_from, row_of, core_ok, core_from, core_long, channel_ok, channel_from, channel_long}
use Rattle.run_tables.proofs.Units.{from, rows_of_units, units_of_rows, one_more}

-- one is there, where no other must follow
pub some_there : (count : ℕ) (b : Bool) → ((count == 0) || b) ≡ false → (0 < count) × (b ≡ false)
some_there count b h =
    let parts = or_parts (count == 0) b h in
    let zero = eqb-false count 0 parts.0 in
    (elim (cases_lt 0 count) [ inl some ↦ some | inr none ↦ absurd (zero (omega (arith, none))) ], parts.1)

-- no more must follow
none-follow : (count : ℕ) (b : Bool) → 0 < count → b ≡ false → ((count == 0) || b) ≡ false
none-follow count b some h =
    let zero : (count == 0) ≡ false = ne_eqb count 0 (λ e. omega (arith, e, some)) in
    rw zero h

-- CORES

pub cores_end : (table : List (List (List ℕ))) (cores : List CoreStats) (row id end : ℕ) → AreRead (core_at table) core_size row id cores end → end ≡ row + core_records * length cores
cores_end table [] row id end h = omega (arith, h)
cores_end table (x ∷ cores) row id end h = let rest = cores_end table cores (row + core_records) (id + 1) end h.1 in omega (arith, rest)

pub cores_within : (table : List (List (List ℕ))) (cores : List CoreStats) (row id end : ℕ) → row ≤ length table → AreRead (core_at table) core_size row id cores end → end ≤ length table
cores_within table [] row id end h k = omega (arith, h, k)
cores_within table (x ∷ cores) row id end h k = cores_within table cores (row + core_records) (id + 1) end (core_long table row id x k.0) k.1

-- the rows of cores
pub core_lines : (table : List (List (List ℕ))) (cores : List CoreStats) (row id end : ℕ) → AreRead (core_at table) core_size row id cores end
    → (drop row table ≡ from id core_rows cores ++ drop end table) × Each CoreInRange cores
core_lines table cores row id end h = rows_of_units (core_at table) core_size core_rows CoreInRange table (λ r n x reads. core_ok table r n x reads) cores row id end h

-- channels are no cores
pub no_core : (channels : List ChannelStats) (id : ℕ) → has_text 0 (codes "core") (slice_get (from id channel_rows channels) 0) ≡ false
unfolding text_at field_at
no_core [] id = refl
no_core (x ∷ channels) id = refl

-- CHANNELS

pub channels_within : (table : List (List (List ℕ))) (channels : List ChannelStats) (row id end : ℕ) → row ≤ length table → AreRead (channel_at table) channel_size row id channels end → end ≤ length table
channels_within table [] row id end h k = omega (arith, h, k)
channels_within table (x ∷ channels) row id end h k = channels_within table channels (row + channel_size x) (id + 1) end (channel_long table row id x k.0) k.1

-- the rows of channels
pub channel_lines : (table : List (List (List ℕ))) (channels : List ChannelStats) (row id end : ℕ) → AreRead (channel_at table) channel_size row id channels end
    → (drop row table ≡ from id channel_rows channels ++ drop end table) × Each ChannelFits channels
channel_lines table channels row id end h = rows_of_units (channel_at table) channel_size channel_rows ChannelFits table (λ r n x reads. channel_ok table r n x reads) channels row id end h

no-draining : (id : ℕ) (channels : List ChannelStats) → NoDraining (from id channel_rows channels ++ [])
unfolding text_at field_at
no-draining id [] = refl
no-draining id (x ∷ channels) = refl

channel-rest : (table : List (List (List ℕ))) (row id : ℕ) (x : ChannelStats) (others : List (List (List ℕ))) → drop row table ≡ channel_rows id x ++ others → channel_at table row id ≡ Ok x
    → drop (row + channel_size x) table ≡ others
channel-rest table row id x others is reads = append_cancel_left (channel_rows id x) (drop (row + channel_size x) table) others (sym (channel_ok table row id x reads).0 ∙ is)

-- A TABLE

pub table_read : (table : List (List (List ℕ))) (stats : RunStats) → IsStatsTable table stats → IsRead table stats
unfolding numbered
table_read table stats t =
    let fits = t.fits in
    let parts : table ≡ stats_header ∷ value_fields (codes "run") 0 (codes "cycles", Some stats.cycles) ∷ (from 0 core_rows stats.cores ++ from 0 channel_rows stats.channels) = t.parts in
    let two : 2 ≤ length table = let size = ap length parts in omega (arith, size) in
    let cycles = count_from (codes "run") 0 (codes "cycles") stats.cycles (from 0 core_rows stats.cores ++ from 0 channel_rows stats.channels) 1 2 table refl (ap (drop 1) parts) fits.cycles in
    let cores = units_of_rows (core_at table) core_size core_rows CoreInRange (λ rest. ⊤) table (from 0 channel_rows stats.channels)
    (λ row id x others is inside ends. core_from table row id x others is inside) (λ id xs. tt) stats.cores 2 0 cycles.1 (recursion_from_All CoreInRange stats.cores fits.cores) in
    let row = cores.0 in
    let within = cores_within table stats.cores 2 0 row two cores.1 in
    let channels = units_of_rows (channel_at table) channel_size channel_rows ChannelFits NoDraining table []
    (λ r id x others is inside ends. let reads = channel_from table r id x others is inside ends in (reads, channel-rest table r id x others is reads)) no-draining stats.channels row 0
    (cores.2 ∙ sym (append-nil (from 0 channel_rows stats.channels))) (recursion_from_All ChannelFits stats.channels fits.channels) in
    let end = channels.0 in
    let over : length table ≤ end = let size = ap length channels.2 in let left = length-drop end table in omega (arith, size, left) in
    record {
      header = ap (λ (t : List (List (List ℕ))). is_header_row (slice_get t 0)) parts ∙ header_back;
      cycles = cycles.0;
      row = row;
      cores = record {
        some = record { read = cores.1; end = cores_end table stats.cores 2 0 row cores.1; within = within };
        ends = none-follow (length stats.cores) (has_text 0 (codes "core") (slice_get table row)) fits.some_core
            (ap (has_text 0 (codes "core")) (row_of row table ∙ ap (λ (t : List (List (List ℕ))). slice_get t 0) cores.2) ∙ no_core stats.channels 0);
      };
      channels = record {
        row = end;
        some = record { read = channels.1; within = channels_within table stats.channels row 0 end within channels.1 };
        ends = none-follow (length stats.channels) (nat_lt end (length table)) fits.some_channel (le-ltb end (length table) over);
      };
    }

-- the rows of the header, of the cycles and of the cores
header-row : (table : List (List (List ℕ))) → is_header_row (slice_get table 0) ≡ true → (rest : List (List (List ℕ))) × (table ≡ stats_header ∷ rest)
header-row [] h = cc h
header-row (fields ∷ rest) h = (rest, ap (λ (f : List (List ℕ)). f ∷ rest) (header_is fields h))

pub front : (table : List (List (List ℕ))) (cycles : ℕ) (cores : List CoreStats) (row : ℕ) → is_header_row (slice_get table 0) ≡ true → count_at table 1 (codes "run") 0 (codes "cycles") ≡ Ok cycles
    → AreRead (core_at table) core_size 2 0 cores row
    → table ≡ stats_header ∷ value_fields (codes "run") 0 (codes "cycles", Some cycles) ∷ (from 0 core_rows cores ++ drop row table)
front table cycles cores row header counted read =
    let first = header-row table header in
    let second = count_row (codes "run") 0 (codes "cycles") cycles _ 1 2 table refl counted (core_lines table cores 2 0 row read).0 in
    first.1 ∙ ap (λ (t : List (List (List ℕ))). stats_header ∷ t) (sym (ap (drop 1) first.1) ∙ second)

pub not_below : (a b : ℕ) → nat_lt a b ≡ false → b ≤ a
not_below a b h = elim (cases_lt a b) [ inl less ↦ (let both : true ≡ false = sym (lt-ltb a b less) ∙ h in cc both) | inr more ↦ more ]

pub read_table : (table : List (List (List ℕ))) (stats : RunStats) → IsRead table stats → IsStatsTable table stats
unfolding numbered
read_table table stats r =
    let cores = r.cores.some.read in
    let last = r.channels in
    let channels = last.some.read in
    let core = core_lines table stats.cores 2 0 r.row cores in
    let channel = channel_lines table stats.channels r.row 0 last.row channels in
    let end = some_there (length stats.channels) (nat_lt last.row (length table)) last.ends in
    let over = not_below last.row (length table) end.1 in
    record {
      parts = front table stats.cycles stats.cores r.row r.header r.cycles cores
          ∙ ap (λ (t : List (List (List ℕ))). stats_header ∷ value_fields (codes "run") 0 (codes "cycles", Some stats.cycles) ∷ (from 0 core_rows stats.cores ++ t))
          (channel.0 ∙ ap (λ (t : List (List (List ℕ))). from 0 channel_rows stats.channels ++ t) (drop_all last.row table over) ∙ append-nil (from 0 channel_rows stats.channels));
      fits = record {
        cycles = count_small (codes "run") 0 (codes "cycles") stats.cycles 1 table r.cycles;
        cores = All-from_recursion CoreInRange stats.cores core.1;
        channels = All-from_recursion ChannelFits stats.channels channel.1;
        some_core = (some_there (length stats.cores) (has_text 0 (codes "core") (slice_get table r.row)) r.cores.ends).0;
        some_channel = end.0;
      };
    }

-- WHAT THE LOOPS KEEP

pub core_more : (table : List (List (List ℕ))) (cores pushed : List CoreStats) (core : CoreStats) (row id next : ℕ) → SomeCores table cores row → id ≡ length cores → core_at table row id ≡ Ok core → next ≡ row + core_records
    → pushed ≡ cores ++ core ∷ [] → SomeCores table pushed next
core_more table cores pushed core row id next s number reads step push =
    let size = length-append cores (core ∷ []) in
    let end = s.end in
    subst (λ k. SomeCores table pushed k) (sym step) (subst (λ xs. SomeCores table xs (row + core_records)) (sym push) (record {
      read = one_more (core_at table) core_size cores core 2 0 row id s.read (omega (arith, number)) reads;
      end = omega (arith, size, end);
      within = core_long table row id core reads;
    }))

pub channel_more : (table : List (List (List ℕ))) (start : ℕ) (channels pushed : List ChannelStats) (channel : ChannelStats) (row id next : ℕ) → SomeChannels table start channels row → id ≡ length channels
    → channel_at table row id ≡ Ok channel → next ≡ row + channel_size channel → pushed ≡ channels ++ channel ∷ [] → SomeChannels table start pushed next
channel_more table start channels pushed channel row id next s number reads step push =
    subst (λ k. SomeChannels table start pushed k) (sym step) (subst (λ xs. SomeChannels table start xs (row + channel_size channel)) (sym push) (record {
      read = one_more (channel_at table) channel_size channels channel start 0 row id s.read (omega (arith, number)) reads;
      within = channel_long table row id channel reads;
    }))
