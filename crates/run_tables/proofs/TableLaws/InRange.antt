-- The commands of a run are of its configuration, in cycles below the limit of numbers.
use Rattle.std.proofs.Common.{ℕ, zero, suc, ◌+◌, ◌<◌, ◌≤◌, ◌^◌, eqb, List, [], ◌∷◌, length, get_or, Option, Some, None, sym, subst, arith}
use Rattle.std.specs.Prelude.{find, All}
use Rattle.std.specs.Option.{IfSome}
use Rattle.std.specs.List.{AllByRecursion as Each, range_with_len}
use Rattle.std.proofs.lemmas.Bool.{cond_both}
use Rattle.std.proofs.lemmas.Option.{slice_get_within}
use Rattle.std.proofs.lemmas.List.Elements.{All-from_recursion, recursion_from_All}
use Rattle.std.proofs.lemmas.List.FromFn.{length-map-range_with_len}
use Rattle.sim_base.specs.declared.config.Config.{Config}
use Rattle.sim_base.specs.PlaceRange.{PlaceInRange}
use Rattle.sim_base.specs.Places.{bank_in}
use Rattle.sim_base.specs.History.{below, trace_of, commands, inbox, issued_commands}
use Rattle.sim_base.specs.Rules.{is_legal, has_open_bank}
use Rattle.sim_base.specs.Scheduling.{candidates, drains, queue_in, source_of, column_command, needed_at, needed, ready_hit, ready_row, first_ready, lowest_due, refresh_command, if_legal, choice_between, choice}
use Rattle.sim_base.specs.Machine.{next_command, next_step, run}
use Rattle.sim_base.specs.declared.command.Command.{Command}
use Rattle.sim_base.specs.declared.command.Command.TheVariants.{Prea, Ref}
use Rattle.sim_base.specs.declared.command.IssuedCommand.{IssuedCommand}
use Rattle.sim_base.specs.declared.message.Message.{Message}
use Rattle.sim_base.specs.declared.message.Request.{Request}
use Rattle.sim_base.specs.declared.message.Unit.TheVariants.{Channel}
use Rattle.sim_base.specs.declared.trace.Entry.{Entry}
use Rattle.sim_base.proofs.Each.{Each-append, IfSome-find}
use Rattle.sim_base.proofs.Ordered.{Each-weaker}
use Rattle.sim_base.proofs.Served.{or_else-each, candidates-each}
use Rattle.sim_base.proofs.Spans.{length_run, step_of_channel-next}
use Rattle.sim_base.proofs.Accesses.{column_both}
use Rattle.address_map.proofs.Peeled.{place_of-in_range}
use Rattle.laws.specs.Commands.{channel_steps_of}
use Rattle.laws.proofs.Chosen.{IfSome-option_map}
use Rattle.laws.proofs.Legal.{chosen}
use Rattle.laws.proofs.Tabled.{rows_from, commands-more}
use Rattle.laws.proofs.Traced.{Queued, queue-queued}
use Rattle.run_tables.specs.TableLaws.Written.{SourceIsOf, BankIsOf, CommandIsOf, RowIsOf}

-- the numbers from one on are below another
pub range-below : (m a n : ℕ) → a + n ≤ m → Each (λ k. k < m) (range_with_len a n)
range-below m a zero h = tt
range-below m a (suc n) h = (omega arith, range-below m (a + 1) n (omega arith))

-- what a request names is of the configuration
record RequestIsOf (s : Config) (r : Request) : Type 0 where
  place : PlaceInRange s r.place
  core : r.core < s.cores
  entry : r.entry < 2 ^ 62

source-of : (s : Config) (r : Request) → RequestIsOf s r → SourceIsOf s (source_of r)
source-of s r h = record { core = h.core; entry = h.entry }

bank-of : (s : Config) (r : Request) → RequestIsOf s r → BankIsOf s (bank_in r.place)
bank-of s r h = record { rank = h.place.rank; group = h.place.group; bank = h.place.bank }

needed_at-of : (s : Config) (r : Request) (o : Option ℕ) → RequestIsOf s r → CommandIsOf s (needed_at o r)
needed_at-of s r None h = (bank-of s r h, h.place.row, source-of s r h)
needed_at-of s r (Some row) h =
    cond_both (eqb row r.place.row) (column_command r) _ (CommandIsOf s)
    (λ e. column_both (CommandIsOf s) r.access _ _ _ _ (λ f. (bank-of s r h, h.place.row, h.place.column, source-of s r h)) (λ f. (bank-of s r h, h.place.row, h.place.column, source-of s r h)))
    (λ e. (bank-of s r h, source-of s r h))

needed-of : (s : Config) (history : List IssuedCommand) (r : Request) → RequestIsOf s r → CommandIsOf s (needed history r)
unfolding needed
needed-of s history r h = needed_at-of s r _ h

-- so is the command that a channel chooses
between-of : (s : Config) (history : List IssuedCommand) (now : ℕ) (requests : List Request) (due : Option ℕ) → Each (RequestIsOf s) requests → IfSome due (λ rank. rank < s.ranks)
    → IfSome (choice_between s history now requests due) (CommandIsOf s)
unfolding choice_between first_ready if_legal refresh_command
between-of s history now requests None h d =
    let wanted = λ (r : Request). CommandIsOf s (needed history r) in
    let all : Each wanted requests = Each-weaker (RequestIsOf s) wanted (needed-of s history) requests h in
    IfSome-option_map (CommandIsOf s) (needed history) _
    (or_else-each wanted (find (ready_hit s history now) requests) (find (ready_row s history now requests) requests)
    (IfSome-find wanted (ready_hit s history now) requests all) (IfSome-find wanted (ready_row s history now requests) requests all))
between-of s history now requests (Some rank) h d =
    cond_both (is_legal s history now (refresh_command s history rank)) _ _ (λ o. IfSome o (CommandIsOf s))
    (λ e. cond_both (has_open_bank s history rank) (Prea rank) (Ref rank) (CommandIsOf s) (λ f. d) (λ f. d))
    (λ e. tt)

lowest-below : (s : Config) (history : List IssuedCommand) (now : ℕ) → IfSome (lowest_due s history now) (λ rank. rank < s.ranks)
unfolding lowest_due
lowest-below s history now = IfSome-find (λ rank. rank < s.ranks) _ (below s.ranks) (range-below s.ranks 0 s.ranks (omega arith))

choice-of : (s : Config) (channel : ℕ) (rows : List (Option Command)) (inbox : List Message) → Each (RequestIsOf s) (queue_in channel rows inbox (length rows))
    → IfSome (choice s channel rows inbox) (CommandIsOf s)
unfolding choice
choice-of s channel rows inbox h =
    let now = length rows in
    let history = issued_commands channel rows in
    between-of s history now (candidates s (drains s channel rows inbox now) (queue_in channel rows inbox now)) (lowest_due s history now)
    (candidates-each (RequestIsOf s) s (drains s channel rows inbox now) (queue_in channel rows inbox now) h) (lowest-below s history now)

-- no trace is longer than the longest may be
pub trace-short : (traces : List (List Entry)) (core : ℕ) → Each (λ (t : List Entry). length t ≤ 2 ^ 62) traces → length (trace_of traces core) ≤ 2 ^ 62
trace-short [] core h = omega arith
trace-short (t ∷ ts) zero h = h.0
trace-short (t ∷ ts) (suc core) h = trace-short ts core h.1

queued-of : (s : Config) (traces : List (List Entry)) (n k : ℕ) → Each (λ (t : List Entry). length t ≤ 2 ^ 62) traces → (r : Request) → Queued s traces n k r → RequestIsOf s r
queued-of s traces n k short r q =
    let within = slice_get_within (trace_of traces r.core) r.entry _ q.traced.entry in
    let few = trace-short traces r.core short in
    record {
      place = subst (PlaceInRange s) (sym q.traced.place) (place_of-in_range s r.address);
      core = q.traced.core;
      entry = omega arith;
    }

chosen-of : (s : Config) (traces : List (List Entry)) (n k : ℕ) → Each (λ (t : List Entry). length t ≤ 2 ^ 62) traces → IfSome (chosen s traces n k) (CommandIsOf s)
chosen-of s traces n k short =
    choice-of s k (channel_steps_of s traces n k) (inbox s traces (run s traces n) (Channel k))
    (Each-weaker (Queued s traces n k) (RequestIsOf s) (queued-of s traces n k short) _ (queue-queued s traces n k))

-- what the channels from i on do in a cycle is of the configuration
abbrev AreOf : Config → ℕ → List (Option Command) → Type 0
AreOf s i os = (j : ℕ) → j < length os → (i + j < s.channels) × IfSome (get_or os j None) (CommandIsOf s)

rows-of : (s : Config) (cycle i : ℕ) (os : List (Option Command)) → cycle < 2 ^ 62 → AreOf s i os → Each (RowIsOf s) (rows_from cycle i os)
unfolding rows_from
rows-of s cycle i [] l at = tt
rows-of s cycle i (None ∷ os) l at = rows-of s cycle (i + 1) os l (λ j m. let h = at (suc j) (omega arith) in (omega (arith, h.0), h.1))
rows-of s cycle i (Some c ∷ os) l at =
    let h = at 0 (omega arith) in (
      record { cycle = l; channel = omega (arith, h.0); command = h.1 },
      rows-of s cycle (i + 1) os l (λ j m. let k = at (suc j) (omega arith) in (omega (arith, k.0), k.1)),
    )

next-of : (s : Config) (traces : List (List Entry)) (n : ℕ) → Each (λ (t : List Entry). length t ≤ 2 ^ 62) traces → AreOf s 0 (next_step s traces (run s traces n)).commands
unfolding next_step
next-of s traces n short j l =
    let long = length-map-range_with_len (next_command s traces (run s traces n)) 0 s.channels in
    let b : j < s.channels = omega arith in
    (omega arith, subst (λ o. IfSome o (CommandIsOf s)) (sym (step_of_channel-next s traces (run s traces n) j b)) (chosen-of s traces n j short))

commands-of : (s : Config) (traces : List (List Entry)) → Each (λ (t : List Entry). length t ≤ 2 ^ 62) traces → (n : ℕ) → n ≤ 2 ^ 62 → Each (RowIsOf s) (commands (run s traces n))
unfolding run commands
commands-of s traces short zero l = tt
commands-of s traces short (suc n) l =
    let history = run s traces n in
    let row = next_step s traces history in
    let long = length_run s traces n in
    subst (Each (RowIsOf s)) (sym (commands-more history row))
    (Each-append (RowIsOf s) (commands history) (rows_from (length history) 0 row.commands) (commands-of s traces short n (omega arith))
    (rows-of s (length history) 0 row.commands (omega arith) (next-of s traces n short)))

pub commands_are_in_range : (s : Config) (traces : List (List Entry)) (n : ℕ) → n ≤ 2 ^ 62 → All (λ (t : List Entry). length t ≤ 2 ^ 62) traces → All (RowIsOf s) (commands (run s traces n))
commands_are_in_range s traces n l short =
    All-from_recursion (RowIsOf s) (commands (run s traces n))
    (commands-of s traces (recursion_from_All (λ (t : List Entry). length t ≤ 2 ^ 62) traces short) n l)
