-- What a writer holds, with more rows.
use Rattle.std.proofs.Common.{◌≡◌, ℕ, ◌+◌, zero, suc, ◌<◌, ◌≤◌, List, [], ◌∷◌, ◌++◌, length, get_or, take, map, codes, Option, Some, None, refl, sym, ap, subst, ◌∙◌, arith, zero-add, append_assoc, length-take-le}
use Rattle.std.proofs.lemmas.Grind.{flat_map-append}
use Rattle.std.proofs.lemmas.List.{append-nil, map-append, map_more, take_more}
use Rattle.std.specs.Io.KnownBytes.{Appends}
use Rattle.std.specs.List.{enumerate_from, flat_map}
use Rattle.reports.specs.Rows.{row_text, rows_text, table_text, numbered}
use Rattle.reports.specs.Commands.{header, command_fields, lines_text, commands_text}
use Rattle.reports.specs.Requests.{request_header, request_fields, request_lines, requests_text}
use Rattle.reports.specs.Final as final
use Rattle.reports.specs.Final.{final_header, final_rows, final_text, progress_rows, credits_of_core, flight_fields}
use Rattle.reports.specs.Stats.{stats_header, value_fields, core_rows, usual_values, draining_values, channel_rows, stats_rows, stats_text}
use Rattle.statistics.specs.Counters.{counter_of, named}
use Rattle.statistics.specs.declared.counters.Counter.{Counter}
use Rattle.request_table.specs.declared.times.RequestTimes.{RequestTimes}
use Rattle.statistics.specs.Values.{RunStats, FinalView}
use Rattle.statistics.specs.declared.channels.ChannelStats.{ChannelStats}
use Rattle.sim_base.specs.declared.command.IssuedCommand.{IssuedCommand}
use Rattle.sim_base.proofs.Lists.{enumerate-append}
use Rattle.reports.proofs.RowLemmas.{added-more}

-- rows after rows
pub rows_text-append : (rows more : List (List (List ℕ))) → rows_text (rows ++ more) ≡ rows_text rows ++ rows_text more
unfolding rows_text
rows_text-append rows more = flat_map-append row_text rows more

-- one row
pub rows_text-one : (row : List (List ℕ)) → rows_text (row ∷ []) ≡ row_text row
unfolding rows_text
rows_text-one row = append-nil (row_text row)

-- a row before rows
pub rows_text-first : (row : List (List ℕ)) (rows : List (List (List ℕ))) → rows_text (row ∷ rows) ≡ row_text row ++ rows_text rows
unfolding rows_text
rows_text-first row rows = refl

-- a table is its header and its rows
pub table_text-parts : (names : List (List ℕ)) (rows : List (List (List ℕ))) → table_text names rows ≡ row_text names ++ rows_text rows
unfolding table_text
table_text-parts names rows = rows_text-first names rows

numbered-push : {A B : Type 0} (f : ℕ → A → List B) (xs : List A) (x : A) → numbered f (xs ++ x ∷ []) ≡ numbered f xs ++ f (length xs) x
unfolding numbered
numbered-push f xs x =
    ap (flat_map (λ p. f p.0 p.1)) (enumerate-append 0 xs (x ∷ []))
    ∙ flat_map-append (λ p. f p.0 p.1) (enumerate_from 0 xs) ((0 + length xs, x) ∷ [])
    ∙ ap (λ t. flat_map (λ p. f p.0 p.1) (enumerate_from 0 xs) ++ t) (append-nil (f (0 + length xs) x) ∙ ap (λ n. f n x) (zero-add (length xs)))

-- no item gives no row
pub numbered_none : {A : Type 0} (f : ℕ → A → List (List (List ℕ))) → rows_text (numbered f []) ≡ []
unfolding rows_text numbered
numbered_none f = refl

-- one item more gives its rows
pub numbered_more : {A : Type 0} (f : ℕ → A → List (List (List ℕ))) (xs : List A) (i : ℕ) (d : A) → i < length xs
    → rows_text (numbered f (take (i + 1) xs)) ≡ rows_text (numbered f (take i xs)) ++ rows_text (f i (get_or xs i d))
numbered_more f xs i d here =
    let within : i ≤ length xs = omega arith in
    let count : length (take i xs) ≡ i = length-take-le i xs within in
    ap (λ ys. rows_text (numbered f ys)) (take_more xs i d here)
    ∙ ap rows_text (numbered-push f (take i xs) (get_or xs i d) ∙ ap (λ n. numbered f (take i xs) ++ f n (get_or xs i d)) count)
    ∙ rows_text-append (numbered f (take i xs)) (f i (get_or xs i d))

-- no item gives no row
pub mapped_none : {A : Type 0} (f : A → List (List ℕ)) → rows_text (map f []) ≡ []
unfolding rows_text
mapped_none f = refl

-- one item more gives a row more
pub mapped_more : {A : Type 0} (f : A → List (List ℕ)) (xs : List A) (i : ℕ) (d : A) → i < length xs
    → rows_text (map f (take (i + 1) xs)) ≡ rows_text (map f (take i xs)) ++ row_text (f (get_or xs i d))
mapped_more f xs i d here =
    ap rows_text (map_more f xs i d here)
    ∙ rows_text-append (map f (take i xs)) (f (get_or xs i d) ∷ [])
    ∙ ap (λ t. rows_text (map f (take i xs)) ++ t) (rows_text-one (f (get_or xs i d)))

-- rows after rows, of items of one kind
pub lines-append : {A : Type 0} (fields : A → List (List ℕ)) (rows more : List A) → rows_text (map fields (rows ++ more)) ≡ rows_text (map fields rows) ++ rows_text (map fields more)
lines-append fields rows more = ap rows_text (map-append fields rows more) ∙ rows_text-append (map fields rows) (map fields more)

-- one row more
pub lines-more : {A : Type 0} (fields : A → List (List ℕ)) (rows : List A) (row : A) → rows_text (map fields (rows ++ row ∷ [])) ≡ rows_text (map fields rows) ++ row_text (fields row)
lines-more fields rows row = lines-append fields rows (row ∷ []) ∙ ap (λ t. rows_text (map fields rows) ++ t) (rows_text-one (fields row))

-- of numbers under their names, none give no row, and one more gives a row more
pub named_none : (fields : List ℕ × Option ℕ → List (List ℕ)) → rows_text (map fields (named [] [])) ≡ []
unfolding rows_text
named_none fields = refl

named-push : (counters : List Counter) (numbers : List (Option ℕ)) (i : ℕ) (d : Counter) (e : Option ℕ) → i < length counters → length numbers ≡ length counters
    → named (map counter_of (take (i + 1) counters)) (take (i + 1) numbers)
    ≡ named (map counter_of (take i counters)) (take i numbers) ++ ((get_or counters i d).name.now, get_or numbers i e) ∷ []
named-push [] numbers i d e here same = absurd (omega (arith, here))
named-push (counter ∷ counters) [] i d e here same = absurd (omega (arith, same))
named-push (counter ∷ counters) (number ∷ numbers) zero d e here same = refl
named-push (counter ∷ counters) (number ∷ numbers) (suc i) d e here same =
    let next : suc i + 1 ≡ suc (i + 1) = omega arith in
    ap (λ k. named (map counter_of (take k (counter ∷ counters))) (take k (number ∷ numbers))) next
    ∙ ap (λ t. (counter.name.now, number) ∷ t) (named-push counters numbers i d e (omega (arith, here)) (omega (arith, same)))

pub named_more : (fields : List ℕ × Option ℕ → List (List ℕ)) (counters : List Counter) (numbers : List (Option ℕ)) (i : ℕ) (d : Counter) (e : Option ℕ) → i < length counters → length numbers ≡ length counters
    → rows_text (map fields (named (map counter_of (take (i + 1) counters)) (take (i + 1) numbers)))
    ≡ rows_text (map fields (named (map counter_of (take i counters)) (take i numbers))) ++ row_text (fields ((get_or counters i d).name.now, get_or numbers i e))
named_more fields counters numbers i d e here same =
    let few = named (map counter_of (take i counters)) (take i numbers) in
    let next : List ℕ × Option ℕ = ((get_or counters i d).name.now, get_or numbers i e) in
    ap (λ ns. rows_text (map fields ns)) (named-push counters numbers i d e here same) ∙ lines-more fields few next

-- two rows
pub rows_text-two : (first second : List (List ℕ)) → rows_text (first ∷ second ∷ []) ≡ row_text first ++ row_text second
rows_text-two first second = rows_text-first first (second ∷ []) ∙ ap (λ t. row_text first ++ t) (rows_text-one second)

-- two rows are added, one after the other
pub added-two : {A B C : Type 0} (old mid new : Option (List ℕ)) (first second : List (List ℕ))
    → (B → A × Appends old mid (row_text first)) → (C → B × Appends mid new (row_text second)) → C → A × Appends old new (rows_text (first ∷ second ∷ []))
added-two old mid new first second before after whole =
    let both = added-more old mid new _ _ before after whole in
    (both.0, subst (Appends old new) (sym (rows_text-two first second)) both.1)

-- a table of commands is its header and its rows
pub commands_text-parts : (ranks : ℕ) (rows : List IssuedCommand) → commands_text ranks rows ≡ row_text (header ranks) ++ lines_text ranks rows
unfolding commands_text
commands_text-parts ranks rows = table_text-parts (header ranks) (map (command_fields ranks) rows)

-- a table of requests is its header and its rows
pub requests_text-parts : (rows : List RequestTimes) → requests_text rows ≡ row_text request_header ++ request_lines rows
unfolding requests_text
requests_text-parts rows = table_text-parts request_header (map request_fields rows)

-- the parts of the table of statistics
pub stats_text-parts : (stats : RunStats) → stats_text stats
    ≡ row_text stats_header ++ row_text (value_fields (codes "run") 0 (codes "cycles", Some stats.cycles)) ++ rows_text (numbered core_rows stats.cores) ++ rows_text (numbered channel_rows stats.channels)
unfolding stats_text
stats_text-parts stats =
    let run = value_fields (codes "run") 0 (codes "cycles", Some stats.cycles) in
    let cores = numbered core_rows stats.cores in
    let channels = numbered channel_rows stats.channels in
    table_text-parts stats_header (stats_rows stats)
    ∙ ap (λ t. row_text stats_header ++ t) (rows_text-first run (cores ++ channels) ∙ ap (λ t. row_text run ++ t) (rows_text-append cores channels))
    ∙ sym (append_assoc (row_text stats_header) (row_text run) (rows_text cores ++ rows_text channels))
    ∙ sym (append_assoc (row_text stats_header ++ row_text run) (rows_text cores) (rows_text channels))

-- the parts of the table of the final state
pub final_text-parts : (ranks : ℕ) (state : FinalView) → final_text ranks state
    ≡ row_text (final_header ranks) ++ rows_text (numbered (progress_rows ranks) state.cores) ++ rows_text (numbered (credits_of_core ranks) state.cores)
    ++ rows_text (numbered (final.channel_rows ranks) state.channels) ++ rows_text (map (flight_fields ranks (length state.channels)) state.in_flight)
unfolding final_text
final_text-parts ranks state =
    let header = row_text (final_header ranks) in
    let progress = numbered (progress_rows ranks) state.cores in
    let credits = numbered (credits_of_core ranks) state.cores in
    let channels = numbered (final.channel_rows ranks) state.channels in
    let flights = map (flight_fields ranks (length state.channels)) state.in_flight in
    table_text-parts (final_header ranks) (final_rows ranks state)
    ∙ ap (λ t. header ++ t) (rows_text-append progress (credits ++ (channels ++ flights)) ∙ ap (λ t. rows_text progress ++ t) (rows_text-append credits (channels ++ flights) ∙ ap (λ t. rows_text credits ++ t) (rows_text-append channels flights)))
    ∙ sym (append_assoc header (rows_text progress) (rows_text credits ++ (rows_text channels ++ rows_text flights)))
    ∙ sym (append_assoc (header ++ rows_text progress) (rows_text credits) (rows_text channels ++ rows_text flights))
    ∙ sym (append_assoc (header ++ rows_text progress ++ rows_text credits) (rows_text channels) (rows_text flights))

-- the rows of a channel that may drain its writes
pub channel_rows-draining : (id cycles : ℕ) (channel : ChannelStats) → channel.draining ≡ Some cycles
    → rows_text (channel_rows id channel) ≡ rows_text (map (value_fields (codes "channel") id) (usual_values channel)) ++ row_text (value_fields (codes "channel") id (codes "draining", Some cycles))
channel_rows-draining id cycles channel is =
    let fields = value_fields (codes "channel") id in
    let last : List ℕ × Option ℕ = (codes "draining", Some cycles) in
    ap (λ drained. rows_text (map fields (usual_values channel ++ draining_values drained))) is
    ∙ ap rows_text (map-append fields (usual_values channel) (last ∷ []))
    ∙ rows_text-append (map fields (usual_values channel)) (fields last ∷ [])
    ∙ ap (λ t. rows_text (map fields (usual_values channel)) ++ t) (rows_text-one (fields last))

-- the rows of one that never does
pub channel_rows-usual : (id : ℕ) (channel : ChannelStats) → channel.draining ≡ None
    → rows_text (channel_rows id channel) ≡ rows_text (map (value_fields (codes "channel") id) (usual_values channel))
channel_rows-usual id channel is =
    ap (λ drained. rows_text (map (value_fields (codes "channel") id) (usual_values channel ++ draining_values drained))) is
    ∙ ap (λ vs. rows_text (map (value_fields (codes "channel") id) vs)) (append-nil (usual_values channel))
