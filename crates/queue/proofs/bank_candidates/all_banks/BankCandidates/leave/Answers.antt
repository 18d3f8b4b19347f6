-- The request's counter falls, and the candidates of its bank and access leave it.
use Rattle.std.proofs.Common.{◌≡◌, ℕ, ◌-◌, ◌<◌, All, true, false, eqb, length, get_or, set, Option, None, sym, ap, subst, ◌∙◌, arith}
use Rattle.std.proofs.lemmas.Bool.{eqb-true}
use Rattle.std.proofs.lemmas.List.{get_or_default, length-set, get_or-set_same}
use Rattle.sim_base.specs.declared.message.Access.{Access}
use Rattle.sim_base.specs.declared.message.Request.{Request}
use Rattle.queue.specs.declared.request_log.Arrived.{Arrived}
use Rattle.queue.specs.Log.{absent, all_requests, waiting_requests}
use Rattle.queue.specs.Columns.{bank_number}
use Rattle.queue.specs.Candidates.{AreFirst, HasFewBanks, access_number, access_number_of, access_count}
use Rattle.queue.proofs.Places.{all_served}
use Rattle.queue.specs.Served.{AreFirstWith}
use Rattle.queue.specs.Words.{access_in}
use Rattle.queue.proofs.BankCandidatesCounted.{AreCounted, counted_served, number_below}
use Rattle.queue.proofs.Stood.{to_parts, left_stand}
use Rattle.queue.proofs.bank_candidates.all_banks.BankCandidates.leave.Goals as goal

-- what holds of a bank, an access and a row by other names
renamed : (P : ℕ → Access → Option ℕ → Type 0) (a b : ℕ) (v w : Access) (o p : Option ℕ) → a ≡ b → v ≡ w → o ≡ p → P a v o → P b w p
renamed P a b v w o p bank access row holds = subst (λ n. P n w p) bank (subst (λ t. P a t p) access (subst (P a v) row holds))

pub returns-clause-stands : goal.returns-clause-stands
returns-clause-stands c earlier unblocked open_rows served stands =
    let place = c.args.place in
    let log = c.args.log.now.log in
    let r = (get_or earlier place absent).request in
    let read = (get_or c.log.result.now place absent).request in
    let old = c.args.self.now in
    let rows = old.rows.items in
    let was = old.candidate_words.words.items in
    let now = c.leave.new.self.words.items in
    let own = bank_number r.place in
    let bank = c.bank_number-bank.result in
    let row = c.index-2.result.now in
    let log_same : (get_or log place absent).request ≡ r =
    ap (λ xs. (get_or xs place absent).request) served.log_is ∙ ap (λ (x : Arrived). x.request) (get_or-set_same earlier place (record (get_or earlier place absent) { waits = false }) absent served.within) in
    let same : read ≡ r = ap (λ xs. (get_or xs place absent).request) c.log.ensures.log ∙ log_same in
    let number : bank ≡ own = c.bank_number-bank.ensures.number ∙ ap (λ (x : Request). bank_number x.place) same in
    let access_is : read.access ≡ r.access = ap (λ (x : Request). x.access) same in
    let key_is : access_number bank read.access ≡ access_number_of r = (λ i. access_number (number i) (access_is i)) in
    let number_is : c.access_number-number.result ≡ access_number_of r = c.access_number-number.ensures ∙ key_is in
    let exists : own < length rows = subst (λ (x : Request). bank_number x.place < length rows) log_same c.requires.bank in
    let parts = to_parts old earlier open_rows stands in
    let row_is : row ≡ open_rows own =
    c.index-2.ensures ∙ ap (λ n. get_or rows n row) number ∙ get_or_default rows own row None exists ∙ parts.opened own exists in
    let counts = old.counts.items in
    let left = c.saturating_sub-left.result in
    let below : access_number_of r < length counts = omega (arith, old.all_counts, number_below own (length rows) r.access exists) in
    let value : left ≡ get_or counts (access_number_of r) 0 - 1 =
    c.saturating_sub-left.ensures ∙ ap (λ n. n - 1) (c.index.ensures ∙ ap (λ n. get_or counts n c.index.result.now) number_is ∙ get_or_default counts (access_number_of r) c.index.result.now 0 below) in
    let counted_own : AreCounted (set counts (access_number_of r) left) (waiting_requests log) =
    subst (λ xs. AreCounted (set counts (access_number_of r) left) (waiting_requests xs)) (sym served.log_is) (counted_served counts earlier place left stands.counts_are served.within served.waits below value) in
    let counted : AreCounted (set counts c.access_number-number.result left) (waiting_requests log) =
    subst (λ n. AreCounted (set counts n left) (waiting_requests log)) (sym number_is) counted_own in
    let none : eqb left 0 ≡ true → access_count (access_number bank read.access) (waiting_requests log) ≡ 0 =
    λ on.
    ap (λ n. access_count n (waiting_requests log)) key_is ∙ sym (counted_own (access_number_of r) (omega (arith, below, length-set counts (access_number_of r) left)))
    ∙ get_or-set_same counts (access_number_of r) left 0 below ∙ eqb-true left 0 on in
    let first : AreFirst earlier bank read.access row (access_in was (access_number bank read.access)) =
    renamed (λ n w o. AreFirst earlier n w o (access_in was (access_number n w))) own bank r.access read.access (open_rows own) row (sym number) (sym access_is) (sym row_is) (parts.first own r.access exists) in
    let few : HasFewBanks log =
    subst (All (λ (x : Request). bank_number x.place < 64)) (sym (ap all_requests served.log_is ∙ all_served earlier place)) (λ k d there. omega (arith, stands.within k d there, old.few)) in
    left_stand _ was earlier log place unblocked open_rows served
    (renamed (λ n w o. AreFirstWith log n w o unblocked (access_in now (access_number n w))) bank own read.access r.access row (open_rows own) number access_is row_is
    (c.leave.ensures.own earlier unblocked served few none first))
    (λ number apart. c.leave.ensures.others number (λ e. apart (e ∙ key_is))) parts counted
