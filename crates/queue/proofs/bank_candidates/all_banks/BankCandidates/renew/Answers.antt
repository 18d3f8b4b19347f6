-- The candidates of one bank more are found, and then all.
use Rattle.std.proofs.Common.{◌≡◌, ◌<◌, None, get_or, length, sym, ap, subst, ◌∙◌, inl, inr, arith}
use Rattle.std.proofs.lemmas.Bool.{cases_lt}
use Rattle.std.proofs.lemmas.List.{get_or_default}
use Rattle.sim_base.specs.declared.message.Access.TheVariants as access
use Rattle.sim_base.specs.declared.message.Access.{Access}
use Rattle.queue.specs.Log.{waiting_requests}
use Rattle.queue.specs.Columns.{bank_number}
use Rattle.queue.specs.Candidates.{AreFirst, HasFewBanks, access_number}
use Rattle.sim_base.specs.declared.message.Request.{Request}
use Rattle.queue.specs.Words.{access_in}
use Rattle.queue.proofs.BankCandidatesCounted.{AreCounted}
use Rattle.queue.proofs.OneBank.{number_bank, numbers_apart}
use Rattle.queue.proofs.Waits.{all_waiting}
use Rattle.queue.proofs.Stood.{AreStanding, to_parts, from_parts, renewed_stand, counted_waiting}
use Rattle.queue.proofs.bank_candidates.all_banks.BankCandidates.renew.Goals as goal

pub loop-bank-preserved : goal.loop-bank-preserved
loop-bank-preserved c =
    let log = c.args.log.now.log in
    let number = c.loop-bank.bank in
    let rows = c.loop-bank.self.rows.items in
    let was = c.loop-bank.self.candidate_words.words.items in
    let between = c.renew.new.self.words.items in
    let now = c.renew-in-loop-bank.new.self.words.items in
    let row = c.index-row.result.now in
    let exists : number < length rows = omega (arith, ap length c.loop-bank.invariant.rows, c.len-bank-end.ensures) in
    let row_is : row ≡ get_or rows number None = c.index-row.ensures ∙ get_or_default rows number row None exists in
    let reads : HasFewBanks log → AreFirst log number access.Read row (access_in now (access_number number access.Read)) =
    λ few. subst (AreFirst log number access.Read row) (sym (c.renew-in-loop-bank.ensures.others (access_number number access.Read) (numbers_apart number))) (c.renew.ensures.own few) in
    let own : HasFewBanks log → (access : Access) → AreFirst log number access row (access_in now (access_number number access)) =
    λ few a. elim a as (λ w. AreFirst log number w row (access_in now (access_number number w))) [ access.Write ↦ c.renew-in-loop-bank.ensures.own few | access.Read ↦ reads few ] in
    record {
      rows = c.loop-bank.invariant.rows;
      counts = c.loop-bank.invariant.counts;
      found = λ few bank a below. elim (cases_lt bank number) [
        | inl sooner ↦
            let apart : bank ≡ number → ⊥ = λ same. omega arith in
            subst (AreFirst log bank a (get_or rows bank None))
            (sym (c.renew-in-loop-bank.ensures.others (access_number bank a) (λ e. apart (number_bank bank number a access.Write e))
            ∙ c.renew.ensures.others (access_number bank a) (λ e. apart (number_bank bank number a access.Read e))))
            (c.loop-bank.invariant.found few bank a sooner)
        | inr late ↦
            let same : number ≡ bank = omega arith in
            subst (λ n. AreFirst log n a (get_or rows n None) (access_in now (access_number n a))) same
            (subst (λ o. AreFirst log number a o (access_in now (access_number number a))) row_is (own few a))
      ];
    }

pub returns-clause-stands : goal.returns-clause-stands
returns-clause-stands c earlier open_rows log_is stands =
    let log = c.args.log.now.log in
    let old = c.args.self.now in
    let new = c.loop-bank.self in
    let was = old.candidate_words.words.items in
    let parts : AreStanding new.rows.items was earlier open_rows = subst (λ rows. AreStanding rows was earlier open_rows) (sym c.loop-bank.invariant.rows) (to_parts old earlier open_rows stands) in
    let few : HasFewBanks log =
    subst HasFewBanks (sym log_is) (all_waiting (λ (x : Request). bank_number x.place < 64) earlier (λ k d there. omega (arith, stands.within k d there, old.few))) in
    from_parts new log open_rows
    (renewed_stand new.rows.items was new.candidate_words.words.items earlier log open_rows log_is
    (λ bank access exists. c.loop-bank.invariant.found few bank access (omega (arith, exists, ap length c.loop-bank.invariant.rows, c.len-bank-end.ensures))) parts)
    (subst (λ counts. AreCounted counts (waiting_requests log)) (sym c.loop-bank.invariant.counts) (counted_waiting old.counts.items earlier log log_is stands.counts_are))
