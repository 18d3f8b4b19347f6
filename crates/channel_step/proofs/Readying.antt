-- How a channel is readied for a command: what the command does to its log, its candidates and the requests that it
-- keeps.
use Rattle.std.proofs.Common.{◌≡◌, ℕ, ◌+◌, ◌<◌, true, false, cond, eqb, get_or, List, [], ◌∷◌, ◌++◌, length, Option, Some, None, refl, sym, ap, ap₂, subst, ◌∙◌, arith}
use Rattle.std.specs.Prelude.{Bool, not, option_and_then, slice_get, Vec}
use Rattle.std.specs.declared.alloc.Global.{Global}
use Rattle.std.specs.List.{All, AllByRecursion as Each}
use Rattle.std.proofs.lemmas.Bool.{cond-true, cond-false, eq-eqb, false≢true, ne_eqb}
use Rattle.sim_base.specs.declared.config.Config.{Config}
use Rattle.sim_base.specs.Counts.{is_hit}
use Rattle.sim_base.specs.Places.{bank_in, bank_at, number_of_bank}
use Rattle.sim_base.specs.Rules.{row_after, open_row}
use Rattle.sim_base.specs.Scheduling.{source_of, column_command, column_command_to, is_column_command, needed, needed_at}
use Rattle.sim_base.specs.declared.command.Command.{Command}
use Rattle.sim_base.specs.declared.command.Command.TheVariants.{Pre, Prea, Ref}
use Rattle.sim_base.specs.declared.command.IssuedCommand.{IssuedCommand}
use Rattle.sim_base.specs.declared.message.Access.{Access}
use Rattle.sim_base.specs.declared.message.Access.TheVariants as Accesses
use Rattle.sim_base.specs.declared.message.Request.{Request}
use Rattle.sim_base.specs.declared.place.BankId.{BankId}
use Rattle.bank_ready.specs.Stands.{rank_count, followed_by, StandsFor as BanksStandFor}
use Rattle.bank_ready.specs.declared.banks.Banks.{Banks}
use Rattle.queue.specs.declared.request_log.Arrived.{Arrived}
use Rattle.queue.specs.Log.{absent, all_requests, waiting_requests, served_at, activated_at, waits_at}
use Rattle.queue.proofs.Activated.{all_activated, waiting_activated}
use Rattle.queue.proofs.Places.{all_served}
use Rattle.queue.specs.declared.bank_candidates.all_banks.BankCandidates.{BankCandidates}
use Rattle.queue.specs.Stands.{bank_count, IsBankOf, with_row, closed_in, StandsFor as CandidatesStandFor}
use Rattle.queue.proofs.Stood.{same_rows}
use Rattle.sim_base.proofs.Banks.{number_names_bank}
use Rattle.queue.proofs.Waits.{request_at as placed_at}
use Rattle.request_table.specs.declared.served_requests.ServedRequest.{ServedRequest}
use Rattle.statistics.specs.Channels.{issues_hit}
use Rattle.channel_step.specs.FrFcfs.Choices.{needed_if}
use Rattle.channel_step.specs.FrFcfs.Requests.{IsInBanks, KnowsRows}
use Rattle.channel_step.specs.Past.{has_act, Past, commands_after, choice_after}
use Rattle.channel_step.specs.Stands.{activated_of}
use Rattle.channel_step.specs.Queued.{request_at, served_now, kept_rows}
use Rattle.channel_step.specs.Runs.{with_more}
use Rattle.channel_step.specs.Channels.{CandidatesStand, IsNextIn}
use Rattle.channel_step.specs.Readied.{IsDoing, ServesAfter, HasCounted, as_issued, commands_with, IsReadied}
use Rattle.channel_step.specs.declared.channel.Channel.{Channel}
use Rattle.channel_step.proofs.Cycle.{joined-differ}
use Rattle.channel_step.proofs.Foreseen.{request-needs}
use Rattle.channel_step.proofs.FrFcfs.Legal.{column_needed}
use Rattle.channel_step.proofs.Issuing.{readied, late-none, issued-before}
use Rattle.channel_step.proofs.Leaving.{at-waiting, served-waits, served-marks, mark-at, activated-marks}
use Rattle.channel_step.proofs.Marks.{column_either, opens_none, marks-act, marks-no_act, served-none, hit-mark, column-opens_none}
use Rattle.channel_step.proofs.Serving.{kept-none_issued, kept-served}

-- the bank that the request at a place asks for is one that has candidates
pub placed-among : (c : Channel) (past : Past) (place : ℕ) → HasCounted c past → place < length c.queue.log
    → IsBankOf c.bank_candidates (bank_in (request_at c.queue.log place).place)
placed-among c past place h l =
    let placed = placed_at (IsInBanks past.config.ranks) c.queue.log place h.is_in.made_for.in_banks l in
    record { number = omega (arith, placed.rank, placed.group, placed.bank, h.is_in.made_for.banks_are); group = placed.group; bank = placed.bank }

-- and its rank is one of those of the channel's banks
pub placed-rank : (c : Channel) (past : Past) (place : ℕ) → HasCounted c past → place < length c.queue.log
    → (request_at c.queue.log place).place.rank < rank_count c.banks
placed-rank c past place h l = omega (arith, (placed_at (IsInBanks past.config.ranks) c.queue.log place h.is_in.made_for.in_banks l).rank, h.is_in.banks_stand.ranks)

-- the commands of a past are earlier than the cycle where the channel stands
pub noted-later : (c : Channel) (past : Past) → HasCounted c past → All (λ (i : IssuedCommand). i.cycle < c.cycle) (commands_after past)
noted-later c past h = issued-before past.channel c.cycle past.steps (sym h.is_in.cycle_is)

-- banks that stand for a command of the cycle where the channel stands stand for it after its past
pub noted-at : (c : Channel) (past : Past) (command : Command) (banks : Banks) → HasCounted c past
    → BanksStandFor banks past.config (followed_by (commands_after past) past.channel c.cycle command) → BanksStandFor banks past.config (commands_with past command)
noted-at c past command banks h = subst (λ t. BanksStandFor banks past.config (followed_by (commands_after past) past.channel t command)) h.is_in.cycle_is

-- the candidates of a channel know which rows are open
pub knows-rows : (c : Channel) (past : Past) → HasCounted c past → KnowsRows c.bank_candidates (commands_after past)
knows-rows c past h = record { log = c.queue.log; stands = h.is_in.candidates_stand }

pub groups-are : (c : Channel) (past : Past) → HasCounted c past → past.config.groups ≡ c.config.groups
groups-are c past h = ap (λ (x : Config). x.groups) (sym h.is_in.made_for.config_is)

-- a command that serves none and opens no row leaves the log
none_issued-readied : (c : Channel) (past : Past) (command : Command) (bank_candidates : BankCandidates) (banks : Banks) → HasCounted c past
    → Some command ≡ choice_after past → opens_none command ≡ true → is_column_command command ≡ false → is_hit (commands_after past) command ≡ false
    → bank_count bank_candidates ≡ bank_count c.bank_candidates
    → CandidatesStandFor bank_candidates c.queue.log (λ bank. row_after (bank_at bank) (open_row (bank_at bank) (commands_after past)) command)
    → BanksStandFor banks past.config (commands_with past command)
    → IsReadied (record c { banks = banks; bank_candidates = bank_candidates }) past command false
none_issued-readied c past command bank_candidates banks h chosen opens none_issued no_hit count stands noted =
    let history = commands_after past in
    let row = as_issued past.channel (length past.steps) command in
    readied c past command false c.queue.log bank_candidates banks c.served h chosen no_hit refl (sym (served-none (waiting_requests c.queue.log) command none_issued))
    (h.is_in.joined.activated_are ∙ sym (marks-no_act history row (waiting_requests c.queue.log) opens)) count stands noted
    (kept-none_issued c.served history row past.mail (late-none past.config past.channel past.steps past.mail command chosen) none_issued h.is_in.keeps_served)

-- a PRE closes the bank of a request
pub closed-readied : (c : Channel) (past : Past) (place : ℕ) (bank_candidates : BankCandidates) (banks : Banks) → HasCounted c past
    → place < length c.queue.log
    → let r = request_at c.queue.log place in
    Some (Pre (bank_in r.place) (source_of r)) ≡ choice_after past → bank_count bank_candidates ≡ bank_count c.bank_candidates
    → CandidatesStandFor bank_candidates c.queue.log (with_row (number_of_bank (bank_in r.place)) None (λ bank. open_row (bank_at bank) (commands_after past)))
    → BanksStandFor banks past.config (commands_with past (Pre (bank_in r.place) (source_of r)))
    → IsReadied (record c { banks = banks; bank_candidates = bank_candidates }) past (Pre (bank_in r.place) (source_of r)) false
closed-readied c past place bank_candidates banks h l chosen count stands noted =
    let r = request_at c.queue.log place in
    let bank = bank_in r.place in
    let rows : ℕ → Option ℕ = λ n. open_row (bank_at n) (commands_after past) in
    let among = placed-among c past place h l in
    none_issued-readied c past (Pre bank (source_of r)) bank_candidates banks h chosen refl refl refl count
    (same_rows bank_candidates c.queue.log (with_row (number_of_bank bank) None rows) (λ n. row_after (bank_at n) (rows n) (Pre bank (source_of r))) stands
    (λ n there. ap (λ t. cond t None (rows n)) (number_names_bank n bank among.group among.bank)))
    noted

-- an ACT opens a row in it, and marks the request
pub opened-readied : (c : Channel) (past : Past) (place : ℕ) (bank_candidates : BankCandidates) (banks : Banks) → HasCounted c past
    → place < length c.queue.log → waits_at c.queue.log place ≡ true
    → let r = request_at c.queue.log place in
    Some (needed_at None r) ≡ choice_after past → bank_count bank_candidates ≡ bank_count c.bank_candidates
    → CandidatesStandFor bank_candidates (activated_at c.queue.log place) (with_row (number_of_bank (bank_in r.place)) (Some r.place.row) (λ bank. open_row (bank_at bank) (commands_after past)))
    → BanksStandFor banks past.config (commands_with past (needed_at None r))
    → IsReadied (record c { queue = record c.queue { log = activated_at c.queue.log place }; banks = banks; bank_candidates = bank_candidates }) past (needed_at None r) false
opened-readied c past place bank_candidates banks h l w chosen count stands noted =
    let log = c.queue.log in
    let r = request_at log place in
    let bank = bank_in r.place in
    let act = needed_at None r in
    let history = commands_after past in
    let row = as_issued past.channel (length past.steps) act in
    let rows : ℕ → Option ℕ = λ n. open_row (bank_at n) history in
    let among = placed-among c past place h l in
    let differ = joined-differ _ _ _ _ past h.is_in.joined in
    readied c past act false (activated_at log place) bank_candidates banks c.served h chosen refl (all_activated log place)
    (waiting_activated log place ∙ sym (served-none (waiting_requests log) act refl))
    (activated-marks (has_act history) log place l w differ h.is_in.joined.activated_are
    ∙ sym (marks-act history row (waiting_requests log) bank r.place.row (source_of r) refl)
    ∙ ap (activated_of (history ++ row ∷ [])) (sym (waiting_activated log place)))
    count
    (same_rows bank_candidates (activated_at log place) (with_row (number_of_bank bank) (Some r.place.row) rows) (λ n. row_after (bank_at n) (rows n) act) stands
    (λ n there. ap (λ t. cond t (Some r.place.row) (rows n)) (number_names_bank n bank among.group among.bank)))
    noted
    (kept-none_issued c.served history row past.mail (late-none past.config past.channel past.steps past.mail act chosen) refl h.is_in.keeps_served)

column-rows : (bank : BankId) (row : Option ℕ) (r : Request) → row ≡ row_after bank row (column_command r)
column-rows bank row r = column_either (λ command. row ≡ row_after bank row command) r refl refl

-- a column command serves the request
pub served-readied : (c : Channel) (past : Past) (place : ℕ) (bank_candidates : BankCandidates) (banks : Banks) (served : Option (Vec ServedRequest Global))
    → HasCounted c past → place < length c.queue.log → waits_at c.queue.log place ≡ true
    → let r = request_at c.queue.log place in
    let hit = not (get_or c.queue.log place absent).activated in
    Some (column_command r) ≡ choice_after past → bank_count bank_candidates ≡ bank_count c.bank_candidates
    → CandidatesStand bank_candidates (served_at c.queue.log place) (commands_after past)
    → BanksStandFor banks past.config (commands_with past (column_command r))
    → kept_rows served ≡ with_more (kept_rows c.served) (served_now c.number c.cycle r hit ∷ [])
    → IsReadied (record c { queue = record c.queue { log = served_at c.queue.log place }; banks = banks; bank_candidates = bank_candidates; served = served }) past (column_command r) hit
served-readied c past place bank_candidates banks served h l w chosen count stands noted more =
    let j = h.is_in.joined in
    let log = c.queue.log in
    let r = request_at log place in
    let command = column_command r in
    let hit = not (get_or log place absent).activated in
    let history = commands_after past in
    let row = as_issued past.channel (length past.steps) command in
    let rows : ℕ → Option ℕ = λ n. open_row (bank_at n) history in
    let differ = joined-differ _ _ _ _ past j in
    let no_act = column-opens_none r in
    let is_hit : issues_hit history (Some command) ≡ hit = hit-mark history r ∙ ap not (sym (mark-at (has_act history) log place l w j.activated_are)) in
    readied c past command hit (served_at log place) bank_candidates banks served h chosen is_hit (all_served log place) (served-waits log place l w differ)
    (served-marks (has_act history) log place j.activated_are ∙ sym (marks-no_act history row (waiting_requests (served_at log place)) no_act))
    count
    (same_rows bank_candidates (served_at log place) rows (λ n. row_after (bank_at n) (rows n) command) stands (λ n there. column-rows (bank_at n) (rows n) r))
    noted
    (kept-served c.served served history row r hit past.mail (length past.steps + 1) refl (late-none past.config past.channel past.steps past.mail command chosen)
    (λ P each. at-waiting P log place l w (subst (Each P) (sym j.queue_is) each)) is_hit
    (more ∙ ap₂ (λ number t. with_more (kept_rows c.served) (served_now number t r hit ∷ [])) h.is_in.made_for.number_is h.is_in.cycle_is)
    h.is_in.keeps_served)

-- what a rank needs that is to be refreshed closes its banks, or leaves them closed
pub rank-readied : (c : Channel) (past : Past) (rank : ℕ) (bank_candidates : BankCandidates) (banks : Banks) → HasCounted c past
    → Some (Prea rank) ≡ choice_after past → bank_count bank_candidates ≡ bank_count c.bank_candidates
    → CandidatesStandFor bank_candidates c.queue.log (closed_in rank (λ bank. open_row (bank_at bank) (commands_after past)))
    → BanksStandFor banks past.config (commands_with past (Prea rank))
    → IsReadied (record c { banks = banks; bank_candidates = bank_candidates }) past (Prea rank) false
rank-readied c past rank bank_candidates banks h chosen count stands noted =
    let rows : ℕ → Option ℕ = λ n. open_row (bank_at n) (commands_after past) in
    none_issued-readied c past (Prea rank) bank_candidates banks h chosen refl refl refl count
    (same_rows bank_candidates c.queue.log (closed_in rank rows) (λ n. row_after (bank_at n) (rows n) (Prea rank)) stands (λ n there. refl)) noted

pub refresh-readied : (c : Channel) (past : Past) (rank : ℕ) (banks : Banks) → HasCounted c past
    → Some (Ref rank) ≡ choice_after past → BanksStandFor banks past.config (commands_with past (Ref rank))
    → IsReadied (record c { banks = banks }) past (Ref rank) false
refresh-readied c past rank banks h chosen noted = none_issued-readied c past (Ref rank) c.bank_candidates banks h chosen refl refl refl refl h.is_in.candidates_stand noted

-- what the request at a place needs, where this row of its bank is open, or none is
pub needed-with : (history : List IssuedCommand) (r : Request) (o : Option ℕ) → o ≡ open_row (bank_in r.place) history → needed history r ≡ needed_at o r
unfolding needed
needed-with history r o e = ap (λ row. needed_at row r) (sym e)

pub needed-closing : (history : List IssuedCommand) (r : Request) (row : ℕ) → Some row ≡ open_row (bank_in r.place) history → (row ≡ r.place.row → ⊥) → needed history r ≡ Pre (bank_in r.place) (source_of r)
needed-closing history r row e other = needed-with history r (Some row) e ∙ cond-false (eqb row r.place.row) (column_command r) (Pre (bank_in r.place) (source_of r)) (ne_eqb row r.place.row other)

pub needed-moving : (history : List IssuedCommand) (r : Request) (row : ℕ) → Some row ≡ open_row (bank_in r.place) history → row ≡ r.place.row → needed history r ≡ column_command r
needed-moving history r row e same = needed-with history r (Some row) e ∙ cond-true (eqb row r.place.row) (column_command r) (Pre (bank_in r.place) (source_of r)) (eq-eqb row r.place.row same)

-- what was chosen is what the request at a place needs, a column command or none
pub chosen-needs : (past : Past) (log : List Arrived) (place : ℕ) (column : Bool) (command : Command) → place < length log
    → option_and_then (needed_if column (commands_after past)) (slice_get (all_requests log) place) ≡ Some command → Some command ≡ choice_after past
    → Some (needed (commands_after past) (request_at log place)) ≡ choice_after past
chosen-needs past log place column command l asked chosen = ap Some (request-needs (commands_after past) log place column command l asked).0 ∙ chosen

pub doing : (c : Channel) (place : ℕ) (column : Bool) (past : Past) (command : Command) → HasCounted c past → (place < length c.queue.log) × (waits_at c.queue.log place ≡ true)
    → option_and_then (needed_if column (commands_after past)) (slice_get (all_requests c.queue.log) place) ≡ Some command → Some command ≡ choice_after past
    → IsDoing c place (needed (commands_after past) (request_at c.queue.log place))
doing c place column past command is_in there asked chosen = record {
  past = past;
  is_in = is_in;
  within = there.0;
  waits = there.1;
  is_chosen = chosen-needs past c.queue.log place column command there.0 asked chosen;
}

-- where the next command is for a request, a request's is issued in its cycle
pub serves-after : (past : Past) (log : List Arrived) (end cycle place : ℕ) (column : Bool) (command : Command) → place < length log
    → option_and_then (needed_if column (commands_after past)) (slice_get (all_requests log) place) ≡ Some command → IsNextIn past end cycle command → ServesAfter past cycle
serves-after past log end cycle place column command l asked next = record {
  request = request_at log place;
  from_now = next.from_now;
  is_chosen = ap Some (request-needs (commands_after past) log place column command l asked).0 ∙ next.command_is;
}

-- where a request needs its column command
pub needed-column : (history : List IssuedCommand) (r : Request) → is_column_command (needed history r) ≡ true → needed history r ≡ column_command r
unfolding needed
needed-column history r column = column_needed (open_row (bank_in r.place) history) r column

-- where a request needs no column command, another row of its bank is open, or none
pub row-differs : (history : List IssuedCommand) (r : Request) (row : ℕ) → Some row ≡ open_row (bank_in r.place) history → is_column_command (needed history r) ≡ false → row ≡ r.place.row → ⊥
row-differs history r row e none same = false≢true (sym none ∙ ap is_column_command (needed-moving history r row e same) ∙ column-any r.access r)
  where
    column-any : (access : Access) (r : Request) → is_column_command (column_command_to access (bank_in r.place) r.place.row r.place.column (source_of r)) ≡ true
    column-any Accesses.Read r = refl
    column-any Accesses.Write r = refl
