-- What is read of the rows of a unit, just where they are those that are written of it.
use Rattle.std.proofs.Common.{◌≡◌, ◌+◌, ◌<◌, ◌≤◌, ◌^◌, ◌∙◌, ℕ, zero, suc, false, List, [], ◌∷◌, ◌++◌, length, get_or, map, drop, take, Option, Some, None, Result, Ok, Err, refl, sym, ap, subst, arith, inl, inr, length-append}
use Rattle.std.specs.Prelude.{codes, IfSome}
use Rattle.std.proofs.lemmas.List.{length-drop, append_assoc, map-append}
use Rattle.std.specs.List.{slice_get}
use Rattle.sim_base.specs.declared.fault.Fault.{Fault}
use Rattle.reports.specs.Stats.{value_fields, draining_values, core_rows, channel_rows}
use Rattle.statistics.specs.Channels.{ChannelFits, channel_counters, channel_numbers, channel_of}
use Rattle.statistics.specs.Cores.{core_counters, core_numbers, core_of}
use Rattle.statistics.specs.Counters.{AreNumbersOf, counter_of, named}
use Rattle.statistics.specs.declared.channels.ChannelStats.{ChannelStats}
use Rattle.statistics.specs.declared.cores.CoreStats.{CoreStats}
use Rattle.statistics.specs.declared.counters.Counter.{Counter}
use Rattle.statistics.specs.declared.counters.CounterKind.{CounterKind}
use Rattle.statistics.proofs.ChannelCounts.{channel_numbers-of, channel_numbers-fit, channel_fits}
use Rattle.statistics.proofs.CoreCounts.{core_numbers-of, core_numbers-fit, core_fits}
use Rattle.run_tables.specs.Lines.{has_text}
use Rattle.run_tables.specs.Stats.{CoreInRange}
use Rattle.run_tables.specs.Units.{count_at, number_at, numbers_at, core_records, core_at, channel_records, channel_at, channel_size, draining_at, draining_size}
use Rattle.run_tables.proofs.RowReads.{Read, Row, then_read, map_read, bind_ok, bind_of, bind_fails}
use Rattle.run_tables.proofs.RowValues.{read_number, read_draining, number_ok, number_of, count_ok, count_of, draining_ok, draining_some, draining_none}

-- ROWS

-- a row and those after it
row_next : (k next : ℕ) (table : List (List (List ℕ))) (line : List (List ℕ)) (rest : List (List (List ℕ))) → next ≡ k + 1 → slice_get table k ≡ Some line → drop next table ≡ rest → drop k table ≡ line ∷ rest
row_next zero next [] line rest n h d = cc h
row_next zero next (x ∷ table) line rest n h d =
    let same : x ≡ line = cc h in
    ap (λ (f : List (List ℕ)). f ∷ table) same ∙ ap (λ (t : List (List (List ℕ))). line ∷ t) (ap (λ k. drop k (x ∷ table)) (sym n) ∙ d)
row_next (suc k) next [] line rest n h d = cc h
row_next (suc k) next (x ∷ table) line rest n h d =
    let more : next ≡ suc (k + 1) = omega (arith, n) in
    row_next k (k + 1) table line rest refl h (ap (λ j. drop j (x ∷ table)) (sym more) ∙ d)

-- the first of the rows from one on
pub row_of : (k : ℕ) (table : List (List (List ℕ))) → slice_get table k ≡ slice_get (drop k table) 0
row_of zero table = refl
row_of (suc k) [] = refl
row_of (suc k) (x ∷ table) = row_of k table

-- and those after it
pub rows_after : (k next : ℕ) (table : List (List (List ℕ))) (line : List (List ℕ)) (rest : List (List (List ℕ))) → next ≡ k + 1 → drop k table ≡ line ∷ rest → drop next table ≡ rest
rows_after zero next [] line rest n h = cc h
rows_after zero next (x ∷ table) line rest n h = ap (λ k. drop k (x ∷ table)) n ∙ cc h
rows_after (suc k) next [] line rest n h = cc h
rows_after (suc k) next (x ∷ table) line rest n h =
    let more : next ≡ suc (k + 1) = omega (arith, n) in
    ap (λ j. drop j (x ∷ table)) more ∙ rows_after k (k + 1) table line rest refl h

-- the row of a count that was read, and one that can be
pub count_row : (scope : List ℕ) (id : ℕ) (name : List ℕ) (n : ℕ) (rest : List (List (List ℕ))) (k next : ℕ) (table : List (List (List ℕ))) → next ≡ k + 1 → count_at table k scope id name ≡ Ok n → drop next table ≡ rest
    → drop k table ≡ value_fields scope id (name, Some n) ∷ rest
count_row scope id name n rest k next table step reads after = row_next k next table (value_fields scope id (name, Some n)) rest step (count_ok k scope id name (slice_get table k) n reads).0 after

pub count_small : (scope : List ℕ) (id : ℕ) (name : List ℕ) (n : ℕ) (k : ℕ) (table : List (List (List ℕ))) → count_at table k scope id name ≡ Ok n → n < 2 ^ 64
count_small scope id name n k table reads = (count_ok k scope id name (slice_get table k) n reads).1

pub count_from : (scope : List ℕ) (id : ℕ) (name : List ℕ) (n : ℕ) (rest : List (List (List ℕ))) (k next : ℕ) (table : List (List (List ℕ))) → next ≡ k + 1 → drop k table ≡ value_fields scope id (name, Some n) ∷ rest
    → n < 2 ^ 64 → (count_at table k scope id name ≡ Ok n) × (drop next table ≡ rest)
count_from scope id name n rest k next table step is small =
    (count_of k scope id name (slice_get table k) n (row_of k table ∙ ap (λ (t : List (List (List ℕ))). slice_get t 0) is) small, rows_after k next table (value_fields scope id (name, Some n)) rest step is)

abbrev result-of : {A : Type 0} → A → Result A Fault
result-of x = Ok x

ok_same : {A : Type 0} (a b : A) → result-of a ≡ Ok b → a ≡ b
ok_same a b h = cc h

-- THE NUMBERS OF A UNIT

numbers_reads : (scope : List ℕ) (id : ℕ) (counters : List (List ℕ × CounterKind)) (row end : ℕ) → end ≡ row + length counters → Read row end (λ t. numbers_at t row scope id counters)
unfolding numbers_at
numbers_reads scope id [] row end at =
    record {
      same = λ r other x reads agrees. reads;
      fill = λ r within. record { table = r; agrees = refl; size = omega (arith, at, within); item = []; reads = refl };
      wrong = λ r e within no. cc no;
    }
numbers_reads scope id (counter ∷ counters) row end at =
    then_read row (row + 1) end _ _ (omega arith) (omega (arith, at)) (read_number scope id counter row (row + 1) refl)
    (λ number. map_read (row + 1) end _ _ (numbers_reads scope id counters (row + 1) end (omega (arith, at))))

pub numbers_ok : (table : List (List (List ℕ))) (scope : List ℕ) (id : ℕ) (counters : List (List ℕ × CounterKind)) (row end : ℕ) (numbers : List (Option ℕ)) → end ≡ row + length counters
    → numbers_at table row scope id counters ≡ Ok numbers → (drop row table ≡ map (value_fields scope id) (named counters numbers) ++ drop end table) × AreNumbersOf counters numbers
unfolding numbers_at
numbers_ok table scope id [] row end numbers at h =
    let none = ok_same [] numbers h in
    let here : row ≡ end = omega (arith, at) in
    subst (λ (ns : List (Option ℕ)). (drop row table ≡ map (value_fields scope id) (named [] ns) ++ drop end table) × AreNumbersOf [] ns) none (ap (λ k. drop k table) here, tt)
numbers_ok table scope id (counter ∷ counters) row end numbers at h =
    let first = bind_ok (number_at table row scope id counter) _ numbers h in
    let rest = bind_ok (numbers_at table (row + 1) scope id counters) _ numbers first.2 in
    let same = ok_same (first.0 ∷ rest.0) numbers rest.2 in
    let line = number_ok counter.1 row scope id counter.0 (slice_get table row) first.0 first.1 in
    let more = numbers_ok table scope id counters (row + 1) end rest.0 (omega (arith, at)) rest.1 in
    subst (λ (ns : List (Option ℕ)). (drop row table ≡ map (value_fields scope id) (named (counter ∷ counters) ns) ++ drop end table) × AreNumbersOf (counter ∷ counters) ns) same
    (row_next row (row + 1) table (value_fields scope id (counter.0, first.0)) _ refl line.0 more.0, (line.1, more.1))

numbers_from : (table : List (List (List ℕ))) (scope : List ℕ) (id : ℕ) (counters : List (List ℕ × CounterKind)) (row end : ℕ) (numbers : List (Option ℕ)) (rest : List (List (List ℕ))) → end ≡ row + length counters
    → drop row table ≡ map (value_fields scope id) (named counters numbers) ++ rest → AreNumbersOf counters numbers → (numbers_at table row scope id counters ≡ Ok numbers) × (drop end table ≡ rest)
unfolding numbers_at
numbers_from table scope id [] row end [] rest at is fit = let here : end ≡ row = omega (arith, at) in (refl, ap (λ k. drop k table) here ∙ is)
numbers_from table scope id [] row end (number ∷ numbers) rest at is fit = absurd fit
numbers_from table scope id (counter ∷ counters) row end [] rest at is fit = absurd fit
numbers_from table scope id (counter ∷ counters) row end (number ∷ numbers) rest at is fit =
    let first = number_of counter.1 row scope id counter.0 (slice_get table row) number (row_of row table ∙ ap (λ (t : List (List (List ℕ))). slice_get t 0) is) fit.0 in
    let after = rows_after row (row + 1) table (value_fields scope id (counter.0, number)) _ refl is in
    let more = numbers_from table scope id counters (row + 1) end numbers rest (omega (arith, at)) after fit.1 in
    (bind_of _ _ number first ∙ bind_of _ _ numbers more.0, more.1)

-- there is a row for each
rows_size : (scope : List ℕ) (id : ℕ) (counters : List (List ℕ × CounterKind)) (numbers : List (Option ℕ)) → AreNumbersOf counters numbers → length (map (value_fields scope id) (named counters numbers)) ≡ length counters
rows_size scope id [] [] fit = refl
rows_size scope id [] (number ∷ numbers) fit = absurd fit
rows_size scope id (counter ∷ counters) [] fit = absurd fit
rows_size scope id (counter ∷ counters) (number ∷ numbers) fit = ap suc (rows_size scope id counters numbers fit.1)

numbers_long : (scope : List ℕ) (id : ℕ) (counters : List (List ℕ × CounterKind)) (row end : ℕ) (numbers : List (Option ℕ)) (table : List (List (List ℕ))) → 0 < length counters → end ≡ row + length counters
    → numbers_at table row scope id counters ≡ Ok numbers → end ≤ length table
numbers_long scope id counters row end numbers table some at h =
    let found = numbers_ok table scope id counters row end numbers at h in
    let parts = ap length found.0 ∙ length-append (map (value_fields scope id) (named counters numbers)) (drop end table) in
    let size = rows_size scope id counters numbers found.1 in
    let left = length-drop row table in
    omega (arith, parts, size, left, some, at)

numbers_row : (scope : List ℕ) (id : ℕ) (counters : List (List ℕ × CounterKind)) (row end : ℕ) → 0 < length counters → end ≡ row + length counters → Row row end (λ t. numbers_at t row scope id counters)
numbers_row scope id counters row end some at =
    record {
      read = numbers_reads scope id counters row end at;
      long = λ table numbers h. numbers_long scope id counters row end numbers table some at h;
    }

-- what a loop over the counters has read, and where it stops
pub numbers_more : (table : List (List (List ℕ))) (scope : List ℕ) (id : ℕ) (counters : List Counter) (row k at : ℕ) (d : Counter) (numbers : List (Option ℕ)) (number : Option ℕ) → k < length counters → at ≡ row + k
    → numbers_at table row scope id (map counter_of (take k counters)) ≡ Ok numbers → number_at table at scope id (counter_of (get_or counters k d)) ≡ Ok number
    → numbers_at table row scope id (map counter_of (take (k + 1) counters)) ≡ Ok (numbers ++ number ∷ [])
unfolding numbers_at
numbers_more table scope id [] row k at d numbers number here is read next = absurd (omega (arith, here))
numbers_more table scope id (counter ∷ counters) row zero at d numbers number here is read next =
    let first : row ≡ at = omega (arith, is) in
    let none = ok_same [] numbers read in
    bind_of (number_at table row scope id (counter_of counter)) _ number (ap (λ r. number_at table r scope id (counter_of counter)) first ∙ next)
    ∙ ap (λ (ns : List (Option ℕ)). Ok (ns ++ number ∷ [])) none
numbers_more table scope id (counter ∷ counters) row (suc k) at d numbers number here is read next =
    let one = bind_ok (number_at table row scope id (counter_of counter)) _ numbers read in
    let rest = bind_ok (numbers_at table (row + 1) scope id (map counter_of (take k counters))) _ numbers one.2 in
    let more = numbers_more table scope id counters (row + 1) k at d rest.0 number (omega (arith, here)) (omega (arith, is)) rest.1 next in
    let last : suc k + 1 ≡ suc (k + 1) = omega arith in
    ap (λ n. numbers_at table row scope id (map counter_of (take n (counter ∷ counters)))) last
    ∙ bind_of (number_at table row scope id (counter_of counter)) _ one.0 one.1
    ∙ bind_of (numbers_at table (row + 1) scope id (map counter_of (take (k + 1) counters))) _ (rest.0 ++ number ∷ []) more
    ∙ ap (λ (ns : List (Option ℕ)). Ok (ns ++ number ∷ [])) (ok_same (one.0 ∷ rest.0) numbers rest.2)

pub numbers_stop : (table : List (List (List ℕ))) (scope : List ℕ) (id : ℕ) (counters : List Counter) (row k at : ℕ) (d : Counter) (numbers : List (Option ℕ)) (e : Fault) → k < length counters → at ≡ row + k
    → numbers_at table row scope id (map counter_of (take k counters)) ≡ Ok numbers → number_at table at scope id (counter_of (get_or counters k d)) ≡ Err e
    → numbers_at table row scope id (map counter_of counters) ≡ Err e
unfolding numbers_at
numbers_stop table scope id [] row k at d numbers e here is read stop = absurd (omega (arith, here))
numbers_stop table scope id (counter ∷ counters) row zero at d numbers e here is read stop =
    let first : row ≡ at = omega (arith, is) in
    bind_fails (number_at table row scope id (counter_of counter)) _ e (ap (λ r. number_at table r scope id (counter_of counter)) first ∙ stop)
numbers_stop table scope id (counter ∷ counters) row (suc k) at d numbers e here is read stop =
    let one = bind_ok (number_at table row scope id (counter_of counter)) _ numbers read in
    let rest = bind_ok (numbers_at table (row + 1) scope id (map counter_of (take k counters))) _ numbers one.2 in
    bind_of (number_at table row scope id (counter_of counter)) _ one.0 one.1
    ∙ bind_fails (numbers_at table (row + 1) scope id (map counter_of counters)) _ e
    (numbers_stop table scope id counters (row + 1) k at d rest.0 e (omega (arith, here)) (omega (arith, is)) rest.1 stop)

-- THE COUNTS OF A CORE

pub core_reads : (row id : ℕ) → Read row (row + core_records) (λ t. core_at t row id)
unfolding core_at
core_reads row id = map_read row (row + core_records) _ _ (numbers_reads (codes "core") id core_counters row (row + core_records) refl)

pub core_ok : (table : List (List (List ℕ))) (row id : ℕ) (core : CoreStats) → core_at table row id ≡ Ok core → (drop row table ≡ core_rows id core ++ drop (row + core_records) table) × CoreInRange core
unfolding core_at
core_ok table row id core h =
    let read = bind_ok (numbers_at table row (codes "core") id core_counters) _ core h in
    let found = numbers_ok table (codes "core") id core_counters row (row + core_records) read.0 refl read.1 in
    let back = sym (core_numbers-of read.0 found.1) in
    let fit = subst (AreNumbersOf core_counters) back found.1 in
    subst (λ (c : CoreStats). (drop row table ≡ core_rows id c ++ drop (row + core_records) table) × CoreInRange c) (ok_same (core_of read.0) core read.2) (
      subst (λ (ns : List (Option ℕ)). drop row table ≡ map (value_fields (codes "core") id) (named core_counters ns) ++ drop (row + core_records) table) back found.0,
      record { counts = core_fits (core_of read.0) fit; finish = fit.1.1.1.1.1.1.1.1.1.1.1.0 },
    )

pub core_from : (table : List (List (List ℕ))) (row id : ℕ) (core : CoreStats) (rest : List (List (List ℕ))) → drop row table ≡ core_rows id core ++ rest → CoreInRange core
    → (core_at table row id ≡ Ok core) × (drop (row + core_records) table ≡ rest)
unfolding core_at
core_from table row id core rest is h =
    let read = numbers_from table (codes "core") id core_counters row (row + core_records) (core_numbers core) rest refl is (core_numbers-fit core h.counts h.finish) in
    (bind_of _ _ (core_numbers core) read.0, read.1)

-- they are all there
pub core_long : (table : List (List (List ℕ))) (row id : ℕ) (core : CoreStats) → core_at table row id ≡ Ok core → row + core_records ≤ length table
unfolding core_at
core_long table row id core h =
    let read = bind_ok (numbers_at table row (codes "core") id core_counters) _ core h in
    numbers_long (codes "core") id core_counters row (row + core_records) read.0 table (omega arith) refl read.1

-- THE COUNTS OF A CHANNEL

draining_rows : (table : List (List (List ℕ))) (row k id : ℕ) (count : Option ℕ) → k ≡ row + channel_records → draining_at table k id ≡ Ok count
    → (drop k table ≡ map (value_fields (codes "channel") id) (draining_values count) ++ drop (row + draining_size count) table) × IfSome count (λ n. n < 2 ^ 64)
draining_rows table row k id count at reads =
    elim (draining_ok k id (slice_get table k) count reads) [
      | inl none ↦
          subst (λ (c : Option ℕ). (drop k table ≡ map (value_fields (codes "channel") id) (draining_values c) ++ drop (row + draining_size c) table) × IfSome c (λ n. n < 2 ^ 64)) none
          (ap (λ j. drop j table) at, tt)
      | inr some ↦
          subst (λ (c : Option ℕ). (drop k table ≡ map (value_fields (codes "channel") id) (draining_values c) ++ drop (row + draining_size c) table) × IfSome c (λ n. n < 2 ^ 64)) some.1
          (row_next k (row + (channel_records + 1)) table (value_fields (codes "channel") id (codes "draining", Some some.0)) (drop (row + (channel_records + 1)) table) (omega (arith, at)) some.2 refl, some.3)
    ]

-- the line that follows does not tell how long a channel drained
abbrev pub NoDraining : List (List (List ℕ)) → Type 0
NoDraining rest = has_text 2 (codes "draining") (slice_get rest 0) ≡ false

draining_from : (table : List (List (List ℕ))) (k id : ℕ) (count : Option ℕ) (rest : List (List (List ℕ))) → drop k table ≡ map (value_fields (codes "channel") id) (draining_values count) ++ rest
    → IfSome count (λ n. n < 2 ^ 64) → NoDraining rest → draining_at table k id ≡ Ok count
draining_from table k id None rest is small none =
    draining_none k id (slice_get table k) (ap (has_text 2 (codes "draining")) (row_of k table ∙ ap (λ (t : List (List (List ℕ))). slice_get t 0) is) ∙ none)
draining_from table k id (Some n) rest is small none =
    draining_some k id n (slice_get table k) (row_of k table ∙ ap (λ (t : List (List (List ℕ))). slice_get t 0) is) small

pub channel_reads : (row id : ℕ) → Read row (row + channel_records + 1) (λ t. channel_at t row id)
unfolding channel_at
channel_reads row id =
    then_read row (row + channel_records) (row + channel_records + 1) _ _ (omega arith) (omega arith) (numbers_row (codes "channel") id channel_counters row (row + channel_records) (omega arith) refl)
    (λ numbers. map_read (row + channel_records) (row + channel_records + 1) _ _ (read_draining id (row + channel_records) (row + channel_records + 1) refl))

pub channel_ok : (table : List (List (List ℕ))) (row id : ℕ) (channel : ChannelStats) → channel_at table row id ≡ Ok channel
    → (drop row table ≡ channel_rows id channel ++ drop (row + channel_size channel) table) × ChannelFits channel
unfolding channel_at
channel_ok table row id channel h =
    let read = bind_ok (numbers_at table row (codes "channel") id channel_counters) _ channel h in
    let last = bind_ok (draining_at table (row + channel_records) id) _ channel read.2 in
    let found = numbers_ok table (codes "channel") id channel_counters row (row + channel_records) read.0 refl read.1 in
    let drained = draining_rows table row (row + channel_records) id last.0 refl last.1 in
    let back = sym (channel_numbers-of read.0 last.0 found.1) in
    let fields = value_fields (codes "channel") id in
    let joined : drop row table ≡ map fields (named channel_counters read.0 ++ draining_values last.0) ++ drop (row + draining_size last.0) table =
    found.0
    ∙ ap (λ (t : List (List (List ℕ))). map fields (named channel_counters read.0) ++ t) drained.0
    ∙ sym (append_assoc (map fields (named channel_counters read.0)) (map fields (draining_values last.0)) (drop (row + draining_size last.0) table))
    ∙ ap (λ (t : List (List (List ℕ))). t ++ drop (row + draining_size last.0) table) (sym (map-append fields (named channel_counters read.0) (draining_values last.0))) in
    subst (λ (c : ChannelStats). (drop row table ≡ channel_rows id c ++ drop (row + channel_size c) table) × ChannelFits c) (ok_same (channel_of read.0 last.0) channel last.2) (
      subst (λ (ns : List (Option ℕ)). drop row table ≡ map fields (named channel_counters ns ++ draining_values last.0) ++ drop (row + draining_size last.0) table) back joined,
      channel_fits (channel_of read.0 last.0) (subst (AreNumbersOf channel_counters) back found.1) drained.1,
    )

pub channel_from : (table : List (List (List ℕ))) (row id : ℕ) (channel : ChannelStats) (rest : List (List (List ℕ))) → drop row table ≡ channel_rows id channel ++ rest → ChannelFits channel → NoDraining rest
    → channel_at table row id ≡ Ok channel
unfolding channel_at
channel_from table row id channel rest is h none =
    let fields = value_fields (codes "channel") id in
    let parts : drop row table ≡ map fields (named channel_counters (channel_numbers channel)) ++ (map fields (draining_values channel.draining) ++ rest) =
    is
    ∙ ap (λ (t : List (List (List ℕ))). t ++ rest) (map-append fields (named channel_counters (channel_numbers channel)) (draining_values channel.draining))
    ∙ append_assoc (map fields (named channel_counters (channel_numbers channel))) (map fields (draining_values channel.draining)) rest in
    let read = numbers_from table (codes "channel") id channel_counters row (row + channel_records) (channel_numbers channel) _ refl parts (channel_numbers-fit channel h) in
    let last = draining_from table (row + channel_records) id channel.draining rest read.1 h.draining none in
    bind_of _ _ (channel_numbers channel) read.0 ∙ bind_of _ _ channel.draining last

-- they are all there
usual-long : (count : Option ℕ) → channel_records ≤ draining_size count
usual-long None = omega arith
usual-long (Some n) = omega arith

pub channel_least : (channel : ChannelStats) → channel_records ≤ channel_size channel
channel_least channel = usual-long channel.draining

rows-size : (id : ℕ) (count : Option ℕ) → length (map (value_fields (codes "channel") id) (draining_values count)) + channel_records ≡ draining_size count
rows-size id None = refl
rows-size id (Some n) = refl

pub channel_rows_size : (id : ℕ) (channel : ChannelStats) → length (channel_rows id channel) ≡ channel_size channel
channel_rows_size id channel = let last = rows-size id channel.draining in omega (arith, last)

pub channel_long : (table : List (List (List ℕ))) (row id : ℕ) (channel : ChannelStats) → channel_at table row id ≡ Ok channel → row + channel_size channel ≤ length table
channel_long table row id channel h =
    let size = ap length (channel_ok table row id channel h).0 ∙ length-append (channel_rows id channel) (drop (row + channel_size channel) table) in
    let rows = channel_rows_size id channel in
    let some = channel_least channel in
    let left = length-drop row table in
    omega (arith, size, rows, some, left)
