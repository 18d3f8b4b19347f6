-- Where none is left there is no candidate, and else each is the first with the one that may be served now.
use Rattle.std.proofs.Common.{◌≡◌, ℕ, ◌+◌, ◌≢◌, Bool, true, false, List, get_or, Option, Some, None, sym, ap, ◌∙◌}
use Rattle.std.proofs.lemmas.Bool.{and_parts}
use Rattle.std.proofs.lemmas.List.{get_or-set_same}
use Rattle.sim_base.specs.Rules.{is_row}
use Rattle.sim_base.specs.declared.message.Access.{Access}
use Rattle.sim_base.specs.declared.message.Request.{Request}
use Rattle.queue.specs.declared.request_log.Arrived.{Arrived}
use Rattle.queue.specs.Log.{absent}
use Rattle.queue.specs.Candidates.{asks, asks_at, hits, wants, first_place}
use Rattle.queue.specs.Moves.{NonePassesBefore}
use Rattle.sim_base.specs.Earlier.{earlier}
use Rattle.queue.specs.Served.{passing, IsServed}
use Rattle.queue.proofs.Hits.{first_asks}
use Rattle.queue.proofs.OneBank.{never_hits, hits_narrower}
use Rattle.queue.proofs.Searches.{none_everywhere, none_narrower_all}
use Rattle.queue.proofs.BankCandidatesCounted.{no_first}
use Rattle.queue.proofs.BankCandidatesServed.{left_candidate, no_candidate, none_left}
use Rattle.queue.proofs.bank_candidates.candidate_words.CandidateWords.leave.Goals as goal

-- the first hit that is left: no request hits where no row is open
left_hit : (bank : ℕ) (access : Access) (row : Option ℕ) (was log : List Arrived) (place : ℕ) (unblocked : Option ℕ) (old new : Option ℕ) → IsServed was place unblocked log
    → old ≡ first_place (hits bank access row) was → (old ≢ Some place → new ≡ old)
    → (old ≡ Some place → NonePassesBefore (wants bank access row) log (place + 1) → new ≡ first_place (wants bank access row) log)
    → earlier new (passing (hits bank access row) log unblocked) ≡ first_place (hits bank access row) log
left_hit bank access None was log place unblocked old new served is kept found =
    let never : None ≡ old = none_everywhere (hits bank access None) was (never_hits bank access) ∙ sym is in
    left_candidate (hits bank access None) was log place unblocked old new served is kept (λ there. absurd (cc (never ∙ there)))
left_hit bank access (Some row) was log place unblocked old new served is kept found =
    left_candidate (hits bank access (Some row)) was log place unblocked old new served is kept found

-- the request that was served asks for the bank and the access where it was the first of them
asked : (test : Request → Bool) (bank : ℕ) (access : Access) (was log : List Arrived) (place : ℕ) (unblocked : Option ℕ) → ((r : Request) → test r ≡ true → asks bank access r ≡ true)
    → IsServed was place unblocked log → Some place ≡ first_place test was → asks_at bank access log place ≡ true
asked test bank access was log place unblocked narrower served is =
    ap (λ (l : List Arrived). asks bank access (get_or l place absent).request) served.log_is
    ∙ ap (λ (a : Arrived). asks bank access a.request) (get_or-set_same was place (record (get_or was place absent) { waits = false }) absent served.within)
    ∙ narrower (get_or was place absent).request (first_asks test was place is).1

hits-ask : (bank : ℕ) (access : Access) (row : Option ℕ) (r : Request) → hits bank access row r ≡ true → asks bank access r ≡ true
hits-ask bank access row r is = (and_parts (asks bank access r) (is_row r.place.row row) is).0

pub returns-then-empty-clause-own : goal.returns-then-empty-clause-own
returns-then-empty-clause-own c was unblocked served few empty first =
    let bank = c.args.departure.bank in
    let access = c.args.departure.access in
    let row = c.args.row in
    let log = c.args.log.now.log in
    let place = c.args.departure.place in
    let none = no_first log bank access (empty c.if-empty.true) in
    record {
      oldest_is = no_candidate (asks bank access) was log place unblocked _ served (ap (λ x. x.oldest) c.set_both.ensures.same) none;
      hit_is =
          no_candidate (hits bank access row) was log place unblocked _ served (ap (λ x. x.hit) c.set_both.ensures.same)
          (none_narrower_all (hits bank access row) (asks bank access) log (hits_narrower bank access row) none);
    }

-- where the request was both, the hit that is left stands where the oldest one does, or behind it
pub returns-then-is_at-2-clause-own : goal.returns-then-is_at-2-clause-own
returns-then-is_at-2-clause-own c was unblocked served few empty first =
    let bank = c.args.departure.bank in
    let access = c.args.departure.access in
    let row = c.args.row in
    let log = c.args.log.now.log in
    let place = c.args.departure.place in
    let oldest_there = c.is_at.ensures.there c.if-is_at.true in
    let hit_there = c.is_at-then-is_at.ensures.there c.if-is_at-2.true in
    let oldest =
    c.first_behind-oldest.ensures.first few (asked (asks bank access) bank access was log place unblocked (λ r h. h) served (sym oldest_there ∙ first.oldest_is))
    (none_left (asks bank access) was log place unblocked served (sym first.oldest_is ∙ oldest_there)) in
    record {
      oldest_is =
          left_candidate (asks bank access) was log place unblocked _ _ served first.oldest_is (λ apart. absurd (apart oldest_there))
          (λ there none. ap (λ x. x.oldest) c.set_both-then-is_at-2.ensures.same ∙ oldest);
      hit_is =
          left_candidate (hits bank access row) was log place unblocked _ _ served first.hit_is (λ apart. absurd (apart hit_there))
          (λ there none. ap (λ x. x.hit) c.set_both-then-is_at-2.ensures.same ∙ c.first_hit-hit.ensures.first few oldest);
    }

pub returns-clause-own : goal.returns-clause-own
returns-clause-own c was unblocked served few empty first =
    let bank = c.args.departure.bank in
    let access = c.args.departure.access in
    let row = c.args.row in
    let log = c.args.log.now.log in
    let place = c.args.departure.place in
    let oldest = c.replace.ensures in
    let hit = c.replace-2.ensures in
    record {
      oldest_is =
          left_candidate (asks bank access) was log place unblocked _ _ served first.oldest_is (λ apart. hit.beside ∙ oldest.kept apart)
          (λ there none. hit.beside ∙ oldest.found there few (asked (asks bank access) bank access was log place unblocked (λ r h. h) served (sym there ∙ first.oldest_is)) none);
      hit_is =
          left_hit bank access row was log place unblocked _ _ served (oldest.beside ∙ first.hit_is) hit.kept
          (λ there none. hit.found there few (asked (hits bank access row) bank access was log place unblocked (hits-ask bank access row) served (sym there ∙ oldest.beside ∙ first.hit_is)) none);
    }
