-- The first request for the row is found, to read and to write.
use Rattle.std.proofs.Common.{◌≡◌, ℕ, ◌*◌, ◌<◌, ◌≤◌, Some, length, set, sym, ap, subst, ◌∙◌, arith}
use Rattle.std.proofs.lemmas.List.{length-set}
use Rattle.sim_base.specs.declared.message.Access.TheVariants as access
use Rattle.sim_base.specs.declared.message.Access.{Access}
use Rattle.queue.specs.Candidates.{AreFirst, HasFewBanks, access_number}
use Rattle.queue.specs.Words.{access_in}
use Rattle.queue.specs.Stands.{with_row}
use Rattle.queue.proofs.OneBank.{number_bank, numbers_apart}
use Rattle.queue.proofs.Stood.{opened_are, AreStanding, to_parts, from_parts, row_stand}
use Rattle.queue.proofs.bank_candidates.all_banks.BankCandidates.opened.Goals as goal

pub invariant_of-self : goal.invariant_of-self
invariant_of-self c =
    let old = c.args.self.now in
    let rows = old.rows.items in
    let long = length-set rows c.number-number.result (Some c.args.row) in
    record {
      few = subst (λ n. n ≤ 64) (sym long) old.few;
      open_are = opened_are rows old.open_banks c.with-self.result c.number-number.result (Some c.args.row) (subst (λ n. n < length rows) (sym c.number-number.ensures) c.requires) old.open_are c.with-self.ensures.same c.with-self.ensures.others;
      all_words = c.open-2.ensures.room ∙ c.open.ensures.room ∙ old.all_words ∙ sym (ap (λ n. 4 * n) long);
      all_counts = old.all_counts ∙ sym (ap (λ n. 2 * n) long);
    }

pub returns-clause-stands : goal.returns-clause-stands
returns-clause-stands c open_rows stands =
    let old = c.args.self.now in
    let log = c.args.log.now.log in
    let number = c.number-number.result in
    let row = Some c.args.row in
    let exists : number < length old.rows.items = subst (λ n. n < length old.rows.items) (sym c.number-number.ensures) c.requires in
    let words = c.open-2.new.self.words.items in
    let parts = to_parts old log open_rows stands in
    let few : HasFewBanks log = λ k d there. omega (arith, stands.within k d there, old.few) in
    let reads : AreFirst log number access.Read row (access_in words (access_number number access.Read)) =
    subst (AreFirst log number access.Read row) (sym (c.open-2.ensures.others (access_number number access.Read) (numbers_apart number)))
    (c.open.ensures.own (open_rows number) few (parts.first number access.Read exists)) in
    let writes : AreFirst log number access.Write row (access_in words (access_number number access.Write)) =
    c.open-2.ensures.own (open_rows number) few
    (subst (AreFirst log number access.Write (open_rows number)) (sym (c.open.ensures.others (access_number number access.Write) (λ e. numbers_apart number (sym e)))) (parts.first number access.Write exists)) in
    let own : (access : Access) → AreFirst log number access row (access_in words (access_number number access)) =
    λ a. elim a as (λ w. AreFirst log number w row (access_in words (access_number number w))) [ access.Write ↦ writes | access.Read ↦ reads ] in
    let others : (other : ℕ) (a : Access) → (other ≡ number → ⊥) → access_in words (access_number other a) ≡ access_in old.candidate_words.words.items (access_number other a) =
    λ other a apart.
    c.open-2.ensures.others (access_number other a) (λ e. apart (number_bank other number a access.Write e))
    ∙ c.open.ensures.others (access_number other a) (λ e. apart (number_bank other number a access.Read e)) in
    from_parts _ log _
    (subst (λ n. AreStanding (set old.rows.items number row) words log (with_row n row open_rows)) c.number-number.ensures
    (row_stand old.rows.items old.candidate_words.words.items words log open_rows number row exists own others parts))
    stands.counts_are
