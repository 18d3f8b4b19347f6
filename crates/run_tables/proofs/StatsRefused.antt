-- A table that is no table of statistics is refused for its first record at fault.
use Rattle.std.proofs.Common.{◌≡◌, ◌+◌, ◌<◌, ◌≤◌, ◌^◌, ◌==◌, ◌∙◌, ◌⊎◌, ℕ, nat_lt, Bool, true, false, List, [], ◌∷◌, ◌++◌, length, drop, take, Some, Result, Ok, Err, refl, sym, ap, subst, arith, inl, inr, append-nil, append_assoc, length-append}
use Rattle.std.specs.Prelude.{codes, IfOk, IfErr, MatchResult}
use Rattle.std.proofs.lemmas.Bool.{eqb-true, ltb-true, or_cases}
use Rattle.std.proofs.lemmas.List.{take_at, take-append-le, take-append-drop, length-drop, length-take, length-take-le}
use Rattle.std.proofs.lemmas.List.Elements.{All-from_recursion}
use Rattle.std.specs.List.{AllByRecursion as Each, slice_get}
use Rattle.csv.specs.Records.{field_at}
use Rattle.sim_base.proofs.Each.{Each-append}
use Rattle.sim_base.specs.declared.fault.Fault.{Fault}
use Rattle.sim_base.specs.declared.fault.Fault.TheVariants.{CheckRow, Memory}
use Rattle.reports.specs.Rows.{numbered}
use Rattle.reports.specs.Stats.{stats_header, stats_rows, value_fields, core_rows, channel_rows}
use Rattle.rule_check.specs.Fields.{text_at}
use Rattle.statistics.specs.Channels.{ChannelFits, channel_none}
use Rattle.statistics.specs.Values.{RunStats}
use Rattle.statistics.specs.declared.channels.ChannelStats.{ChannelStats}
use Rattle.statistics.specs.declared.cores.CoreStats.{CoreStats}
use Rattle.rule_check.specs.Verdict.{IsCheckFault}
use Rattle.run_tables.specs.Lines.{has_text, is_header_row}
use Rattle.run_tables.specs.Records.{IsFirstWrong, IsRefusedFor}
use Rattle.run_tables.specs.Stats.{CoreInRange, IsStatsTable, HoldsStats}
use Rattle.run_tables.specs.Units.{AreRead, core_at, core_size, channel_at, channel_size, count_at, CoresAre, CoresStop, ChannelsAre, ChannelsStop, IsRead, core_records, channel_records}
use Rattle.run_tables.proofs.Exact.{header_is}
use Rattle.run_tables.proofs.RowReads.{agree_less, agree_at}
use Rattle.run_tables.proofs.Refused.{only_memory, table_fault}
use Rattle.run_tables.proofs.RowValues.{read_count}
use Rattle.run_tables.proofs.StatsTables.{some_there, not_below, core_lines, channel_lines, front, table_read, read_table}
use Rattle.run_tables.proofs.UnitRows.{core_reads, core_ok, row_of, count_small, channel_reads, channel_ok, channel_long, channel_least, channel_rows_size}
use Rattle.run_tables.proofs.Units.{from, begins, end_after}
use Rattle.statistics.specs.Cores.{core_none}
use Rattle.statistics.proofs.CoreCounts.{core_none-fits}
use Rattle.statistics.proofs.ChannelCounts.{channel_none-fits}

not-both : (b : Bool) → b ≡ true → b ≡ false → ⊥
not-both b h k = let both : true ≡ false = sym h ∙ k in cc both

refused-at : (records : List (List (List ℕ))) (e : Fault) (row : ℕ) → e ≡ CheckRow row → IsFirstWrong HoldsStats records row → IsRefusedFor HoldsStats records e
refused-at records e row h wrong = subst (IsRefusedFor HoldsStats records) (sym h) wrong

-- A TABLE WITH THE SAME FIRST ROWS

core-none : CoreInRange core_none
core-none = record { counts = core_none-fits; finish = tt }

-- the table of some statistics
table-of : (cycles : ℕ) (cores : List CoreStats) (channels : List ChannelStats) → cycles < 2 ^ 64 → Each CoreInRange cores → Each ChannelFits channels → 0 < length cores → 0 < length channels
    → HoldsStats (stats_header ∷ value_fields (codes "run") 0 (codes "cycles", Some cycles) ∷ (from 0 core_rows cores ++ from 0 channel_rows channels))
unfolding numbered
table-of cycles cores channels small core channel some_core some_channel = (
  record { cycles = cycles; cores = cores; channels = channels },
  record {
    parts = refl;
    fits = record {
      cycles = small;
      cores = All-from_recursion CoreInRange cores core;
      channels = All-from_recursion ChannelFits channels channel;
      some_core = some_core;
      some_channel = some_channel;
    };
  },
)

-- the records of one unit more
from-push : {A : Type 0} (f : ℕ → A → List (List (List ℕ))) (xs : List A) (y : A) (k n : ℕ) → n ≡ k + length xs → from k f (xs ++ y ∷ []) ≡ from k f xs ++ f n y
from-push f [] y k n h = let same : k ≡ n = omega (arith, h) in append-nil (f k y) ∙ ap (λ j. f j y) same
from-push f (x ∷ xs) y k n h =
    ap (λ (t : List (List (List ℕ))). f k x ++ t) (from-push f xs y (k + 1) n (omega (arith, h))) ∙ sym (append_assoc (f k x) (from (k + 1) f xs) (f n y))

some-push : {A : Type 0} (xs : List A) (y : A) → 0 < length (xs ++ y ∷ [])
some-push xs y = let size = length-append xs (y ∷ []) in omega (arith, size)

-- the first rows of a table, and then those of a unit of another one that agrees with it
agrees-with : (records table before unit rest more : List (List (List ℕ))) (row place : ℕ) → records ≡ before ++ drop row records → row ≤ length records → row ≤ place → place ≤ row + length unit
    → take place table ≡ take place records → drop row table ≡ unit ++ rest → take place ((before ++ unit) ++ more) ≡ take place records
agrees-with records table before unit rest more row place parts within after few agrees is =
    let size = ap length parts ∙ length-append before (drop row records) in
    let left = length-drop row records in
    let long : length before ≡ row = omega (arith, size, left, within) in
    let first : take row records ≡ before = ap (take row) parts ∙ take_at before (drop row records) row long in
    let whole : table ≡ (before ++ unit) ++ rest =
    sym (take-append-drop row table)
    ∙ ap (λ (t : List (List (List ℕ))). t ++ drop row table) (agree_less row place table records after agrees ∙ first)
    ∙ ap (λ (t : List (List (List ℕ))). before ++ t) is
    ∙ sym (append_assoc before unit rest) in
    let both = length-append before unit in
    let short : place ≤ length (before ++ unit) = omega (arith, both, long, few) in
    take-append-le place (before ++ unit) more short ∙ sym (take-append-le place (before ++ unit) rest short) ∙ ap (take place) (sym whole) ∙ agrees

-- THE HEADER

same-header : (other records : List (List (List ℕ))) (place : ℕ) → is_header_row (slice_get other 0) ≡ true → take (place + 1) other ≡ take (place + 1) records → is_header_row (slice_get records 0) ≡ true
same-header other records place header agrees = ap is_header_row (sym (agree_at (place + 1) 0 other records (omega arith) agrees)) ∙ header

least-table : HoldsStats (stats_header ∷ value_fields (codes "run") 0 (codes "cycles", Some 0) ∷ (from 0 core_rows (core_none ∷ []) ++ from 0 channel_rows (channel_none ∷ [])))
least-table = table-of 0 (core_none ∷ []) (channel_none ∷ []) (omega arith) (core-none, tt) (channel_none-fits, tt) (omega arith) (omega arith)

pub header_refused : (records : List (List (List ℕ))) → is_header_row (slice_get records 0) ≡ false → IsRefusedFor HoldsStats records (CheckRow 0)
header_refused records h =
    record {
      table = stats_header ∷ value_fields (codes "run") 0 (codes "cycles", Some 0) ∷ (from 0 core_rows (core_none ∷ []) ++ from 0 channel_rows (channel_none ∷ []));
      is_table = least-table;
      agrees = refl;
      differs = λ other t agrees. not-both (is_header_row (slice_get records 0)) (same-header other records 0 (table_read other t.0 t.1).header agrees) h;
    }

-- THE CYCLES

first-agrees : (records : List (List (List ℕ))) (rest : List (List (List ℕ))) → is_header_row (slice_get records 0) ≡ true → take 1 (stats_header ∷ rest) ≡ take 1 records
first-agrees [] rest h = cc h
first-agrees (fields ∷ records) rest h = ap (λ (f : List (List ℕ)). f ∷ []) (sym (header_is fields h))

header-there : (records : List (List (List ℕ))) → is_header_row (slice_get records 0) ≡ true → 1 ≤ length records
header-there [] h = cc h
header-there (fields ∷ records) h = omega arith

pub cycles_refused : (records : List (List (List ℕ))) (e : Fault) → is_header_row (slice_get records 0) ≡ true → count_at records 1 (codes "run") 0 (codes "cycles") ≡ Err e → IsRefusedFor HoldsStats records e
cycles_refused records e header fails =
    let read = (read_count (codes "run") 0 (codes "cycles") 1 2 (omega arith)).read in
    let there = header-there records header in
    let w = read.wrong records e there fails in
    let after = w.after in
    let before = w.before in
    let place : w.place ≡ 1 = omega (arith, after, before) in
    refused-at records e 1 (w.fault ∙ ap CheckRow place) (record {
      table = stats_header ∷ value_fields (codes "run") 0 (codes "cycles", Some 0) ∷ (from 0 core_rows (core_none ∷ []) ++ from 0 channel_rows (channel_none ∷ []));
      is_table = least-table;
      agrees = first-agrees records (value_fields (codes "run") 0 (codes "cycles", Some 0) ∷ (from 0 core_rows (core_none ∷ []) ++ from 0 channel_rows (channel_none ∷ []))) header;
      differs = λ other t agrees.
          let o = table_read other t.0 t.1 in
          let back : Ok t.0.cycles ≡ Err e = sym (read.same other records t.0.cycles o.cycles (sym agrees)) ∙ fails in
          cc back;
    })

-- the row of the cycles is there
pub cycles_long : (records : List (List (List ℕ))) (cycles : ℕ) → count_at records 1 (codes "run") 0 (codes "cycles") ≡ Ok cycles → 2 ≤ length records
cycles_long records cycles counted = (read_count (codes "run") 0 (codes "cycles") 1 2 (omega arith)).long records cycles counted

-- THE CORES

core-first : (table : List (List (List ℕ))) (row id : ℕ) (x : CoreStats) → core_at table row id ≡ Ok x → has_text 0 (codes "core") (slice_get table row) ≡ true
unfolding text_at field_at
core-first table row id x reads =
    ap (has_text 0 (codes "core")) (row_of row table ∙ ap (λ (t : List (List (List ℕ))). slice_get t 0) (core_ok table row id x reads).0)

-- cores that are read of a table are read of each that agrees with it
core-same : (records other : List (List (List ℕ))) (row id end : ℕ) (x : CoreStats) → core_at records row id ≡ Ok x → row + core_records ≤ end → take end other ≡ take end records → core_at other row id ≡ Ok x
core-same records other row id end x reads few agrees = (core_reads row id).same records other x reads (agree_less (row + core_records) end other records few agrees)

-- a table that agrees with one up to the end of its cores goes on with a core, or it ends them there too
abbrev GoesOn : List (List (List ℕ)) → List CoreStats → ℕ → List CoreStats → ℕ → Type 0
GoesOn other cores row all last = ((x : CoreStats) × (core_at other row (length cores) ≡ Ok x)) ⊎ ((all ≡ cores) × (last ≡ row))

goes-by : (other : List (List (List ℕ))) (cores zs all : List CoreStats) (row last : ℕ) → all ≡ cores ++ zs → AreRead (core_at other) core_size row (0 + length cores) zs last → GoesOn other cores row all last
goes-by other cores [] all row last is read = inr (is ∙ append-nil cores, read)
goes-by other cores (z ∷ zs) all row last is read =
    let number : 0 + length cores ≡ length cores = omega arith in
    inl (z, subst (λ k. core_at other row k ≡ Ok z) number read.0)

cores-follow : (records other : List (List (List ℕ))) (cores : List CoreStats) (row : ℕ) (stats : RunStats) → AreRead (core_at records) core_size 2 0 cores row → (o : IsRead other stats)
    → take row other ≡ take row records → GoesOn other cores row stats.cores o.row
cores-follow records other cores row stats read o agrees =
    elim (begins (core_at records) (core_at other) core_size (λ end. take end other ≡ take end records) (λ r id end x reads few same. core-same records other r id end x reads few same)
    cores stats.cores 2 0 row o.row read o.cores.some.read agrees) [
      | inl more ↦ goes-by other cores more.0 stats.cores row o.row more.1 more.2
      | inr one ↦
          absurd (not-both (has_text 0 (codes "core") (slice_get other o.row)) (core-first other o.row one.0 one.1 one.2)
          (some_there (length stats.cores) (has_text 0 (codes "core") (slice_get other o.row)) o.cores.ends).1)
    ]

pub cores_refused : (records : List (List (List ℕ))) (cycles : ℕ) (e : Fault) → is_header_row (slice_get records 0) ≡ true → count_at records 1 (codes "run") 0 (codes "cycles") ≡ Ok cycles → CoresStop records e
    → IsRefusedFor HoldsStats records e
cores_refused records cycles e header counted s =
    let row = s.row in
    let xs = s.cores in
    let w = (core_reads row (length xs)).wrong records e s.some.within s.stops in
    let before = w.before in
    let unit = core_ok w.table row (length xs) w.item w.reads in
    let parts = front records cycles xs row header counted s.some.read in
    let pushed = from-push core_rows xs w.item 0 (length xs) (omega arith) in
    let rest = from 0 channel_rows (channel_none ∷ []) in
    refused-at records e w.place w.fault (record {
      table = stats_header ∷ value_fields (codes "run") 0 (codes "cycles", Some cycles) ∷ (from 0 core_rows (xs ++ w.item ∷ []) ++ rest);
      is_table = table-of cycles (xs ++ w.item ∷ []) (channel_none ∷ []) (count_small (codes "run") 0 (codes "cycles") cycles 1 records counted)
          (Each-append CoreInRange xs (w.item ∷ []) (core_lines records xs 2 0 row s.some.read).1 (unit.1, tt)) (channel_none-fits, tt) (some-push xs w.item) (omega arith);
      agrees = ap (λ (t : List (List (List ℕ))). take w.place (stats_header ∷ value_fields (codes "run") 0 (codes "cycles", Some cycles) ∷ (t ++ rest))) pushed
          ∙ agrees-with records w.table (stats_header ∷ value_fields (codes "run") 0 (codes "cycles", Some cycles) ∷ from 0 core_rows xs) (core_rows (length xs) w.item) (drop (row + core_records) w.table) rest row
          w.place parts s.some.within w.after (omega (arith, before)) w.agrees unit.0;
      differs = λ other t agrees.
          let o = table_read other t.0 t.1 in
          let after = w.after in
          elim (cores-follow records other xs row t.0 s.some.read o (agree_less row (w.place + 1) other records (omega (arith, after)) agrees)) [
            | inl more ↦ w.differs other more.0 more.1 agrees
            | inr ends ↦
                let there = some_there (length t.0.cores) (has_text 0 (codes "core") (slice_get other o.row)) o.cores.ends in
                elim (or_cases (length xs == 0) (has_text 0 (codes "core") (slice_get records row)) s.goes) [
                  | inl none ↦ let some = there.0 in let zero = eqb-true (length xs) 0 none in let size = ap length ends.0 in omega (arith, some, zero, size)
                  | inr core ↦
                      not-both (has_text 0 (codes "core") (slice_get other o.row))
                      (ap (λ k. has_text 0 (codes "core") (slice_get other k)) ends.1
                      ∙ ap (has_text 0 (codes "core")) (agree_at (w.place + 1) row other records (omega (arith, after)) agrees)
                      ∙ core) there.1
                ]
          ];
    })

-- THE CHANNELS

channel-same : (records other : List (List (List ℕ))) (row id end : ℕ) (x : ChannelStats) → channel_at records row id ≡ Ok x → row + channel_size x ≤ end → take (end + 1) other ≡ take (end + 1) records
    → channel_at other row id ≡ Ok x
channel-same records other row id end x reads few agrees =
    let least = channel_least x in
    (channel_reads row id).same records other x reads (agree_less (row + channel_records + 1) (end + 1) other records (omega (arith, few, least)) agrees)

abbrev ChannelGoesOn : List (List (List ℕ)) → List ChannelStats → ℕ → List ChannelStats → ℕ → Type 0
ChannelGoesOn other channels row all last = ((x : ChannelStats) × (channel_at other row (length channels) ≡ Ok x)) ⊎ ((all ≡ channels) × (last ≡ row))

channel-goes-by : (other : List (List (List ℕ))) (channels zs all : List ChannelStats) (row last : ℕ) → all ≡ channels ++ zs → AreRead (channel_at other) channel_size row (0 + length channels) zs last
    → ChannelGoesOn other channels row all last
channel-goes-by other channels [] all row last is read = inr (is ∙ append-nil channels, read)
channel-goes-by other channels (z ∷ zs) all row last is read =
    let number : 0 + length channels ≡ length channels = omega arith in
    inl (z, subst (λ k. channel_at other row k ≡ Ok z) number read.0)

-- the end of the channels is that of the table
over : (table : List (List (List ℕ))) (start : ℕ) (channels : List ChannelStats) (a : ChannelsAre table start channels) → (a.row ≡ length table) × (0 < length channels)
over table start channels a =
    let there = some_there (length channels) (nat_lt a.row (length table)) a.ends in
    let within = a.some.within in
    let end = not_below a.row (length table) there.1 in
    (omega (arith, within, end), there.0)

channels-follow : (records other : List (List (List ℕ))) (start row : ℕ) (channels all : List ChannelStats) → AreRead (channel_at records) channel_size start 0 channels row → (a : ChannelsAre other start all)
    → take (row + 1) other ≡ take (row + 1) records → ChannelGoesOn other channels row all a.row
channels-follow records other start row channels all read a agrees =
    elim (begins (channel_at records) (channel_at other) channel_size (λ end. take (end + 1) other ≡ take (end + 1) records)
    (λ r id end x reads few same. channel-same records other r id end x reads few same) channels all start 0 row a.row read a.some.read agrees) [
      | inl more ↦ channel-goes-by other channels more.0 all row a.row more.1 more.2
      | inr one ↦
          let long = channel_long other a.row one.0 one.1 one.2 in
          let least = channel_least one.1 in
          let end = (over other start all a).0 in
          absurd (omega (arith, long, least, end))
    ]

pub channels_refused : (records : List (List (List ℕ))) (cycles : ℕ) (cores : List CoreStats) (start : ℕ) (e : Fault) → is_header_row (slice_get records 0) ≡ true
    → count_at records 1 (codes "run") 0 (codes "cycles") ≡ Ok cycles → CoresAre records cores start → ChannelsStop records start e → IsRefusedFor HoldsStats records e
channels_refused records cycles cores start e header counted all s =
    let row = s.row in
    let xs = s.channels in
    let w = (channel_reads row (length xs)).wrong records e s.some.within s.stops in
    let before = w.before in
    let after = w.after in
    let unit = channel_ok w.table row (length xs) w.item w.reads in
    let size = channel_rows_size (length xs) w.item in
    let least = channel_least w.item in
    let core_rows_are = core_lines records cores 2 0 start all.some.read in
    let channel_rows_are = channel_lines records xs start 0 row s.some.read in
    let core = some_there (length cores) (has_text 0 (codes "core") (slice_get records start)) all.ends in
    let parts : records ≡ stats_header ∷ value_fields (codes "run") 0 (codes "cycles", Some cycles) ∷ ((from 0 core_rows cores ++ from 0 channel_rows xs) ++ drop row records) =
    front records cycles cores start header counted all.some.read
    ∙ ap (λ (t : List (List (List ℕ))). stats_header ∷ value_fields (codes "run") 0 (codes "cycles", Some cycles) ∷ t)
    (ap (λ (t : List (List (List ℕ))). from 0 core_rows cores ++ t) channel_rows_are.0 ∙ sym (append_assoc (from 0 core_rows cores) (from 0 channel_rows xs) (drop row records))) in
    let pushed : from 0 core_rows cores ++ from 0 channel_rows (xs ++ w.item ∷ []) ≡ ((from 0 core_rows cores ++ from 0 channel_rows xs) ++ channel_rows (length xs) w.item) ++ [] =
    ap (λ (t : List (List (List ℕ))). from 0 core_rows cores ++ t) (from-push channel_rows xs w.item 0 (length xs) (omega arith))
    ∙ sym (append_assoc (from 0 core_rows cores) (from 0 channel_rows xs) (channel_rows (length xs) w.item))
    ∙ sym (append-nil ((from 0 core_rows cores ++ from 0 channel_rows xs) ++ channel_rows (length xs) w.item)) in
    let starts = end_after (channel_at records) channel_size xs start 0 row s.some.read in
    refused-at records e w.place w.fault (record {
      table = stats_header ∷ value_fields (codes "run") 0 (codes "cycles", Some cycles) ∷ (from 0 core_rows cores ++ from 0 channel_rows (xs ++ w.item ∷ []));
      is_table = table-of cycles cores (xs ++ w.item ∷ []) (count_small (codes "run") 0 (codes "cycles") cycles 1 records counted) core_rows_are.1 (Each-append ChannelFits xs (w.item ∷ []) channel_rows_are.1 (unit.1, tt)) core.0 (some-push xs w.item);
      agrees = ap (λ (t : List (List (List ℕ))). take w.place (stats_header ∷ value_fields (codes "run") 0 (codes "cycles", Some cycles) ∷ t)) pushed
          ∙ agrees-with records w.table (stats_header ∷ value_fields (codes "run") 0 (codes "cycles", Some cycles) ∷ (from 0 core_rows cores ++ from 0 channel_rows xs)) (channel_rows (length xs) w.item)
          (drop (row + channel_size w.item) w.table) [] row w.place parts s.some.within after (omega (arith, before, size, least)) w.agrees unit.0;
      differs = λ other t agrees.
          let o = table_read other t.0 t.1 in
          elim (cores-follow records other cores start t.0 all.some.read o (agree_less start (w.place + 1) other records (omega (arith, after, starts)) agrees)) [
            | inl more ↦
                not-both (has_text 0 (codes "core") (slice_get records start))
                (ap (has_text 0 (codes "core")) (sym (agree_at (w.place + 1) start other records (omega (arith, after, starts)) agrees)) ∙ core-first other start (length cores) more.0 more.1) core.1
            | inr ends ↦
                let a = subst (λ k. ChannelsAre other k t.0.channels) ends.1 o.channels in
                let whole = over other start t.0.channels a in
                elim (channels-follow records other start row xs t.0.channels s.some.read a (agree_less (row + 1) (w.place + 1) other records (omega (arith, after)) agrees)) [
                  | inl one ↦ w.differs other one.0 one.1 agrees
                  | inr last ↦
                      elim (or_cases (length xs == 0) (nat_lt row (length records)) s.goes) [
                        | inl none ↦ let some = whole.1 in let zero = eqb-true (length xs) 0 none in let same = ap length last.0 in omega (arith, some, zero, same)
                        | inr more ↦
                            let below = ltb-true row (length records) more in
                            let end = whole.0 in
                            let stands = last.1 in
                            let agree = ap length (agree_less (row + 1) (w.place + 1) other records (omega (arith, after)) agrees) in
                            let one = length-take (row + 1) other in
                            let two = length-take-le (row + 1) records (omega (arith, below)) in
                            omega (arith, end, stands, agree, one, two)
                      ]
                ]
          ];
    })

-- WHAT IS READ

-- memory was refused, or a core or a channel is wrong
pub cores_stop : (records : List (List (List ℕ))) (cycles : ℕ) (e : Fault) → is_header_row (slice_get records 0) ≡ true → count_at records 1 (codes "run") 0 (codes "cycles") ≡ Ok cycles
    → (e ≡ Memory) ⊎ CoresStop records e → IsRefusedFor HoldsStats records e
cores_stop records cycles e header counted h =
    elim h [
      | inl memory ↦ subst (IsRefusedFor HoldsStats records) (sym memory) tt
      | inr stop ↦ cores_refused records cycles e header counted stop
    ]

pub channels_stop : (records : List (List (List ℕ))) (cycles : ℕ) (cores : List CoreStats) (start : ℕ) (e : Fault) → is_header_row (slice_get records 0) ≡ true
    → count_at records 1 (codes "run") 0 (codes "cycles") ≡ Ok cycles → CoresAre records cores start → (e ≡ Memory) ⊎ ChannelsStop records start e → IsRefusedFor HoldsStats records e
channels_stop records cycles cores start e header counted all h =
    elim h [
      | inl memory ↦ subst (IsRefusedFor HoldsStats records) (sym memory) tt
      | inr stop ↦ channels_refused records cycles cores start e header counted all stop
    ]

-- a table is of one list of statistics
same-channels : (table : List (List (List ℕ))) (start : ℕ) (a b : List ChannelStats) → ChannelsAre table start a → ChannelsAre table start b → b ≡ a
same-channels table start a b x y =
    let end = over table start a x in
    elim (channels-follow table table start x.row a b x.some.read y refl) [
      | inl one ↦
          let long = channel_long table x.row (length a) one.0 one.1 in
          let least = channel_least one.0 in
          let last = end.0 in
          absurd (omega (arith, long, least, last))
      | inr same ↦ same.0
    ]

same-stats : (a b : RunStats) → a.cycles ≡ b.cycles → a.cores ≡ b.cores → a.channels ≡ b.channels → a ≡ b
same-stats a b cycles cores channels =
    ap (λ k. record { cycles = k; cores = a.cores; channels = a.channels }) cycles
    ∙ ap (λ (t : List CoreStats). record { cycles = b.cycles; cores = t; channels = a.channels }) cores
    ∙ ap (λ (t : List ChannelStats). record { cycles = b.cycles; cores = b.cores; channels = t }) channels

pub one_run : (table : List (List (List ℕ))) (found stats : RunStats) → IsRead table found → IsStatsTable table stats → found ≡ stats
one_run table found stats f t =
    let o = table_read table stats t in
    let counted : Ok found.cycles ≡ Ok stats.cycles = sym f.cycles ∙ o.cycles in
    let cycles : found.cycles ≡ stats.cycles = cc counted in
    let ended = (some_there (length found.cores) (has_text 0 (codes "core") (slice_get table f.row)) f.cores.ends).1 in
    let cores : (stats.cores ≡ found.cores) × (o.row ≡ f.row) =
    elim (cores-follow table table found.cores f.row stats f.cores.some.read o refl) [
      | inl one ↦ absurd (not-both (has_text 0 (codes "core") (slice_get table f.row)) (core-first table f.row (length found.cores) one.0 one.1) ended)
      | inr same ↦ same
    ] in
    let channels = same-channels table f.row found.channels stats.channels f.channels (subst (λ k. ChannelsAre table k stats.channels) cores.1 o.channels) in
    same-stats found stats cycles (sym cores.0) (sym channels)

pub reads : (table records : List (List (List ℕ))) (result : Result RunStats Fault) → table ≡ records → IfOk result (IsRead table) → IfOk result (λ stats. records ≡ stats_header ∷ stats_rows stats)
reads table records (Ok stats) same h = sym same ∙ (read_table table stats h).parts
reads table records (Err e) same h = tt

pub inverse : (table records : List (List (List ℕ))) (stats : RunStats) (result : Result RunStats Fault) → table ≡ records → IfOk result (IsRead table) → IfErr result (IsRefusedFor HoldsStats table)
    → IsStatsTable records stats → MatchResult result (λ found. found ≡ stats) (λ e. e ≡ Memory)
inverse table records stats (Ok found) same h refused t = one_run table found stats h (subst (λ r. IsStatsTable r stats) (sym same) t)
inverse table records stats (Err e) same h refused t = only_memory HoldsStats table e (stats, subst (λ r. IsStatsTable r stats) (sym same) t) refused

pub faults : (records : List (List (List ℕ))) (result : Result RunStats Fault) → IfErr result (IsRefusedFor HoldsStats records) → IfErr result IsCheckFault
faults records (Ok stats) refused = tt
faults records (Err e) refused = table_fault HoldsStats records e refused
