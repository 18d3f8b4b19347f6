-- The candidates of its bank and access take the request in.
use Rattle.std.proofs.Common.{◌≡◌, true, false, cond, get_or, Some, None, refl, ap, subst, ◌∙◌}
use Rattle.std.proofs.lemmas.List.{get_or_default}
use Rattle.sim_base.specs.Rules.{is_row}
use Rattle.sim_base.specs.declared.message.Request.{Request}
use Rattle.queue.specs.Log.{absent}
use Rattle.queue.specs.Columns.{bank_number}
use Rattle.queue.specs.Candidates.{access_number, access_number_of}
use Rattle.sim_base.specs.Earlier.{earlier}
use Rattle.queue.specs.Words.{candidate_in}
use Rattle.queue.proofs.Stood.{from_parts, unblocked_stand}
use Rattle.queue.proofs.bank_candidates.all_banks.BankCandidates.unblock.Goals as goal

pub returns-clause-stands : goal.returns-clause-stands
returns-clause-stands c open_rows stands =
    let next = c.args.next in
    let log = c.args.log.now.log in
    let r = (get_or log next absent).request in
    let read = (get_or c.log.result.now next absent).request in
    let rows = c.args.self.now.rows.items in
    let was = c.args.self.now.candidate_words.words.items in
    let now = c.unblock.new.self.words.items in
    let own = bank_number r.place in
    let hit = c.is_open-hit.result in
    let row = c.index.result.now in
    let same : read ≡ r = ap (λ xs. (get_or xs next absent).request) c.log.ensures.log in
    let number : c.bank_number-bank.result ≡ own = c.bank_number-bank.ensures.number ∙ ap (λ (x : Request). bank_number x.place) same in
    let number_is : access_number c.bank_number-bank.result read.access ≡ access_number_of r = (λ i. access_number (number i) (same i).access) in
    let hit_is : hit ≡ is_row r.place.row (get_or rows own None) =
    c.is_open-hit.ensures ∙ ap (λ (x : Request). is_row x.place.row row) same
    ∙ ap (is_row r.place.row) (c.index.ensures ∙ ap (λ n. get_or rows n row) number ∙ get_or_default rows own row None c.requires.bank) in
    from_parts _ log open_rows
    (unblocked_stand was now c.args.self.now log next open_rows hit c.requires.bank hit_is
    (subst (λ k. candidate_in now k false ≡ earlier (candidate_in was k false) (Some next)) number_is c.unblock.ensures.taken.oldest_is)
    (subst (λ k. candidate_in now k true ≡ earlier (candidate_in was k true) (cond hit (Some next) None)) number_is c.unblock.ensures.taken.hit_is)
    (λ number apart. c.unblock.ensures.others number (λ e. apart (e ∙ number_is))) refl stands)
    stands.counts_are
