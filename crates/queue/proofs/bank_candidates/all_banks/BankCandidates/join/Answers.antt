-- The candidates of the request's bank take it in, if it may be served.
use Rattle.std.proofs.Common.{◌≡◌, ℕ, ◌-◌, ◌^◌, ◌+◌, ◌<◌, min, arith, Bool, true, false, not, ◌&&◌, Some, None, cond, get_or, set, ◌++◌, ◌∷◌, [], length, List, sym, ap, subst, ◌∙◌}
use Rattle.std.proofs.lemmas.List.{get_or_default}
use Rattle.sim_base.specs.Rules.{is_row}
use Rattle.sim_base.specs.Scheduling.{asks_for_line, or_else}
use Rattle.sim_base.specs.declared.message.Request.{Request}
use Rattle.queue.specs.declared.request_log.Arrived.{Arrived}
use Rattle.queue.specs.Log.{waiting_requests}
use Rattle.queue.specs.Columns.{bank_number}
use Rattle.queue.specs.Candidates.{access_number, access_number_of}
use Rattle.queue.specs.Words.{candidate_in}
use Rattle.queue.proofs.BankCandidatesCounted.{AreCounted, counted_push, number_below}
use Rattle.queue.proofs.Joined.{may_follow}
use Rattle.queue.proofs.Stood.{to_parts, from_parts, joined_stand, unjoined_stand, waiting_push}
use Rattle.queue.proofs.bank_candidates.all_banks.BankCandidates.join.Goals as goal
use Rattle.queue.proofs.Counted.{requests_few}

-- whether it may be served, where it waits
follows : (older : List Arrived) (a : Arrived) (eligible : Bool) → a.waits ≡ true → eligible ≡ not (asks_for_line a.request.place (waiting_requests older)) → may_follow older a ≡ eligible
follows older a eligible waits is = ap (λ b. b && not (asks_for_line a.request.place (waiting_requests older))) waits ∙ sym is

-- the counter of a request, once the request was counted
counted_more : (counts : List ℕ) (older : List Arrived) (a : Arrived) (number more : ℕ) → a.waits ≡ true → number ≡ access_number_of a.request → access_number_of a.request < length counts
    → length older < 2 ^ 16 - 1 → more ≡ min (get_or counts number 0 + 1) 65535 → AreCounted counts (waiting_requests older)
    → AreCounted (set counts number more) (waiting_requests (older ++ a ∷ []))
counted_more counts older a number more waits number_is below short value counted =
    subst (AreCounted (set counts number more)) (sym (waiting_push older a waits))
    (subst (λ n. AreCounted (set counts n more) (waiting_requests older ++ a.request ∷ [])) (sym number_is)
    (counted_push counts (waiting_requests older) a.request more counted below (omega (arith, requests_few older, short)) (value ∙ ap (λ n. min (get_or counts n 0 + 1) 65535) number_is)))

pub returns-then-eligible-clause-stands : goal.returns-then-eligible-clause-stands
returns-then-eligible-clause-stands c older a open_rows long request waits is stands =
    let r = a.request in
    let old = c.args.self.now in
    let rows = old.rows.items in
    let own = bank_number r.place in
    let number : c.bank_number-bank.result ≡ own = c.bank_number-bank.ensures.number ∙ ap (λ (x : Request). bank_number x.place) request in
    let number_is : access_number c.bank_number-bank.result c.args.request.now.access ≡ access_number_of r = (λ i. access_number (number i) (request i).access) in
    let exists : own < length rows = subst (λ (x : Request). bank_number x.place < length rows) request c.requires.bank in
    let short : r.place.row < 2 ^ 32 = subst (λ (x : Request). x.place.row < 2 ^ 32) request c.bank_number-bank.ensures.row in
    let was = old.candidate_words.words.items in
    let now = c.join.new.self.words.items in
    let hit = c.is_open-hit.result in
    let hit_is : hit ≡ is_row r.place.row (get_or rows own None) =
    c.is_open-hit.ensures ∙ (λ i. is_row (request i).place.row c.index-then-eligible.result.now)
    ∙ ap (is_row r.place.row) (c.index-then-eligible.ensures ∙ ap (λ n. get_or rows n c.index-then-eligible.result.now) number ∙ get_or_default rows own c.index-then-eligible.result.now None exists) in
    let below : access_number_of r < length old.counts.items = omega (arith, old.all_counts, number_below own (length rows) r.access exists) in
    let counted_access : c.access_number-number.result ≡ access_number_of r = c.access_number-number.ensures ∙ number_is in
    let value : c.saturating_add.result ≡ min (get_or old.counts.items c.access_number-number.result 0 + 1) 65535 =
    c.saturating_add.ensures ∙ ap (λ n. min (n + 1) 65535) (c.index.ensures ∙ get_or_default old.counts.items c.access_number-number.result c.index.result.now 0 (omega (arith, counted_access, below))) in
    from_parts _ (older ++ a ∷ []) open_rows
    (joined_stand rows was now older a open_rows c.args.place hit long exists short (follows older a c.args.eligible waits is ∙ c.if-eligible.true) hit_is
    (subst (λ k. candidate_in now k false ≡ or_else (candidate_in was k false) (Some c.args.place)) number_is c.join.ensures.joined.oldest_is)
    (subst (λ k. candidate_in now k true ≡ cond hit (or_else (candidate_in was k true) (Some c.args.place)) (candidate_in was k true)) number_is c.join.ensures.joined.hit_is)
    (λ other apart. c.join.ensures.others other (λ e. apart (e ∙ number_is))) (to_parts old older open_rows stands))
    (counted_more old.counts.items older a c.access_number-number.result c.saturating_add.result waits counted_access below (omega (arith, long, c.requires.short)) value stands.counts_are)

pub returns-else-eligible-clause-stands : goal.returns-else-eligible-clause-stands
returns-else-eligible-clause-stands c older a open_rows long request waits is stands =
    let r = a.request in
    let old = c.args.self.now in
    let rows = old.rows.items in
    let own = bank_number r.place in
    let number : c.bank_number-bank.result ≡ own = c.bank_number-bank.ensures.number ∙ ap (λ (x : Request). bank_number x.place) request in
    let exists : own < length rows = subst (λ (x : Request). bank_number x.place < length rows) request c.requires.bank in
    let short : r.place.row < 2 ^ 32 = subst (λ (x : Request). x.place.row < 2 ^ 32) request c.bank_number-bank.ensures.row in
    let below : access_number_of r < length old.counts.items = omega (arith, old.all_counts, number_below own (length rows) r.access exists) in
    let counted_access : c.access_number-number.result ≡ access_number_of r = c.access_number-number.ensures ∙ (λ i. access_number (number i) (request i).access) in
    let value : c.saturating_add.result ≡ min (get_or old.counts.items c.access_number-number.result 0 + 1) 65535 =
    c.saturating_add.ensures ∙ ap (λ n. min (n + 1) 65535) (c.index.ensures ∙ get_or_default old.counts.items c.access_number-number.result c.index.result.now 0 (omega (arith, counted_access, below))) in
    from_parts _ (older ++ a ∷ []) open_rows
    (unjoined_stand rows old.candidate_words.words.items older a open_rows exists short (follows older a c.args.eligible waits is ∙ c.if-eligible.false) (to_parts old older open_rows stands))
    (counted_more old.counts.items older a c.access_number-number.result c.saturating_add.result waits counted_access below (omega (arith, long, c.requires.short)) value stands.counts_are)
