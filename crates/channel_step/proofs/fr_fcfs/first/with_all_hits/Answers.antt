-- One bank less is left, and then none.
use Rattle.std.proofs.Common.{ℕ, refl, sym, ap, length, ◌∙◌}
use Rattle.std.specs.Option.{is_some}
use Rattle.queue.specs.Candidates.{first_place}
use Rattle.sim_base.specs.Earlier.{earlier}
use Rattle.queue.specs.Sets.{is_in}
use Rattle.queue.specs.Stands.{bank_count, candidates_of_bank}
use Rattle.queue.proofs.BankCandidatesServed.{earlier_none}
use Rattle.channel_step.specs.FrFcfs.Offers.{only, hits_now, hits_in}
use Rattle.channel_step.proofs.FrFcfs.Beside.{place_beside, beside_all, beside_more, beside_nothing, left_before, size_less}
use Rattle.channel_step.proofs.FrFcfs.BankMore.{candidates_are, hit_none}
use Rattle.channel_step.proofs.FrFcfs.SoFar.{so_far_same, earlier_assoc}
use Rattle.channel_step.proofs.fr_fcfs.first.with_all_hits.Goals as goal

pub loop-bank-init : goal.loop-bank-init
loop-bank-init c =
    let now = c.args.commands.now in
    let access = c.args.commands.access in
    let rest = c.hit-rest.result in
    record {
      within = c.hit-rest.ensures.within;
      so_far = λ s history log hits rows known before.
          so_far_same (length log) now hits rows (λ cycle. earlier (hits cycle) (place_beside (λ k. is_in rest k) (hits_now s history (only access) cycle) log)) rows c.args.best.now
          (λ cycle late.
          sym
          (ap (earlier (hits cycle))
          (beside_nothing (λ k. is_in rest k) (bank_count c.args.bank_candidates.now) (hits_now s history (only access) cycle) log known.candidates_stand.within
          (λ k exists off.
          hit_none s history _ log access k (candidates_of_bank c.args.bank_candidates.now k) known.in_banks (known.candidates_stand.candidates_are k exists) (known.candidates_stand.rows_are k exists)
          (ap (λ x. is_some x.hit) (candidates_are c.args.bank_candidates.now k access) ∙ sym (c.hit-rest.ensures.each k exists) ∙ off) cycle))
          ∙ earlier_none (hits cycle)))
          (λ cycle late. refl) before;
    }

pub loop-bank-smaller : goal.loop-bank-smaller
loop-bank-smaller c =
    let bank = c.in-Some.bank in
    let is = c.without_first-rest.ensures.same bank c.in-Some.ensures.lowest in
    let others = λ (k : ℕ). c.without_first-rest.ensures.others bank k c.in-Some.ensures.lowest in
    size_less (λ k. is_in c.loop-bank.rest k) (λ k. is_in c.without_first-rest.result k) bank 64 c.in-Some.ensures.within c.in-Some.ensures.lowest.there is others

pub loop-bank-preserved : goal.loop-bank-preserved
loop-bank-preserved c =
    let now = c.args.commands.now in
    let access = c.args.commands.access in
    let bank = c.in-Some.bank in
    let rest = c.loop-bank.rest in
    let after = c.without_first-rest.result in
    let is = c.without_first-rest.ensures.same bank c.in-Some.ensures.lowest in
    let others = λ (k : ℕ). c.without_first-rest.ensures.others bank k c.in-Some.ensures.lowest in
    record {
      within = λ k still. c.loop-bank.invariant.within k (left_before (λ j. is_in rest j) (λ j. is_in after j) bank is others k still);
      so_far = λ s history log hits rows known before.
          let here = λ (cycle : ℕ). place_beside (λ k. is_in rest k) (hits_now s history (only access) cycle) log in
          let so_far = λ (cycle : ℕ). earlier (hits cycle) (here cycle) in
          so_far_same (length log) now (λ cycle. earlier (so_far cycle) (hits_in s history log (only access) bank cycle)) rows
          (λ cycle. earlier (hits cycle) (place_beside (λ k. is_in after k) (hits_now s history (only access) cycle) log)) rows c.with_hit.new.best
          (λ cycle late.
          earlier_assoc (hits cycle) (here cycle) (hits_in s history log (only access) bank cycle)
          ∙ ap (earlier (hits cycle))
          (sym
          (beside_more (λ k. is_in rest k) (λ k. is_in after k) bank (hits_now s history (only access) cycle) log c.in-Some.ensures.lowest.there is
          others)))
          (λ cycle late. refl)
          (c.with_hit.ensures s history log known so_far rows (c.loop-bank.invariant.so_far s history log hits rows known before));
    }

pub returns : goal.returns
returns c s history log known hits rows before =
    let rest = c.loop-bank.rest in
    so_far_same (length log) c.args.commands.now (λ cycle. earlier (hits cycle) (place_beside (λ k. is_in rest k) (hits_now s history (only c.args.commands.access) cycle) log)) rows
    (λ cycle. earlier (hits cycle) (first_place (hits_now s history (only c.args.commands.access) cycle) log)) rows c.loop-bank.best
    (λ cycle late. ap (earlier (hits cycle)) (beside_all (λ k. is_in rest k) (hits_now s history (only c.args.commands.access) cycle) log c.in_default.ensures.none)) (λ cycle late. refl)
    (c.loop-bank.invariant.so_far s history log hits rows known before)
