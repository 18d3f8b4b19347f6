-- One bank less is left, and then none but the others.
use Rattle.std.proofs.Common.{ℕ, ◌||◌, refl, sym, ap, length, ◌∙◌, arith}
use Rattle.queue.specs.Sets.{is_in}
use Rattle.sim_base.specs.Earlier.{earlier}
use Rattle.channel_step.specs.FrFcfs.Offers.{row_requests_now, row_requests_in, row_requests_beside}
use Rattle.channel_step.proofs.FrFcfs.Beside.{beside_more, beside_same, left_before, size_less}
use Rattle.channel_step.proofs.FrFcfs.SoFar.{so_far_same}
use Rattle.channel_step.proofs.fr_fcfs.first.with_rows_of.Goals as goal

pub loop-bank-init : goal.loop-bank-init
loop-bank-init c = record {
  among = λ k there. there;
  so_far = λ s history log hits left known apart before. before;
}

pub loop-bank-smaller : goal.loop-bank-smaller
loop-bank-smaller c =
    let bank = c.in-Some.bank in
    let is = c.without_first-rest.ensures.same bank c.in-Some.ensures.lowest in
    let others = λ (k : ℕ). c.without_first-rest.ensures.others bank k c.in-Some.ensures.lowest in
    size_less (λ k. is_in c.loop-bank.rest k) (λ k. is_in c.without_first-rest.result k) bank 64 c.in-Some.ensures.within c.in-Some.ensures.lowest.there is others

pub with_row-requires-clause-bank_candidates : goal.with_row-requires-clause-bank_candidates
with_row-requires-clause-bank_candidates c = c.requires.within c.in-Some.bank (c.loop-bank.invariant.among c.in-Some.bank c.in-Some.ensures.lowest.there)

pub with_row-requires-clause-banks : goal.with_row-requires-clause-banks
with_row-requires-clause-banks c =
    let within = c.requires.within c.in-Some.bank (c.loop-bank.invariant.among c.in-Some.bank c.in-Some.ensures.lowest.there) in omega (arith, c.requires.same_banks)

pub with_row-requires-clause-needed : goal.with_row-requires-clause-needed
with_row-requires-clause-needed c = c.requires.needed c.in-Some.bank (c.loop-bank.invariant.among c.in-Some.bank c.in-Some.ensures.lowest.there)

pub loop-bank-preserved : goal.loop-bank-preserved
loop-bank-preserved c =
    let now = c.args.commands.now in
    let accesses = c.args.commands.accesses in
    let bank = c.in-Some.bank in
    let rest = c.loop-bank.rest in
    let after = c.without_first-rest.result in
    let there = c.in-Some.ensures.lowest.there in
    let is = c.without_first-rest.ensures.same bank c.in-Some.ensures.lowest in
    let others = λ (k : ℕ). c.without_first-rest.ensures.others bank k c.in-Some.ensures.lowest in
    record {
      among = λ k still. c.loop-bank.invariant.among k (left_before (λ j. is_in rest j) (λ j. is_in after j) bank is others k still);
      so_far = λ s history log hits left known apart before.
          let rows = row_requests_beside s history log accesses (λ k. is_in rest k || left k) in
          so_far_same (length log) now hits (λ cycle. earlier (rows cycle) (row_requests_in s history log accesses bank cycle)) hits
          (row_requests_beside s history log accesses (λ k. is_in after k || left k)) c.with_row.new.best (λ cycle late. refl)
          (λ cycle late.
          sym
          (beside_more (λ k. is_in rest k || left k) (λ k. is_in after k || left k) bank (row_requests_now s history log accesses cycle) log (ap (λ b. b || left bank) there)
          (ap (λ b. b || left bank) is ∙ apart bank (c.loop-bank.invariant.among bank there))
          (λ j other. ap (λ b. b || left j) (others j other))))
          (c.with_row.ensures s history log known hits rows (c.loop-bank.invariant.so_far s history log hits left known apart before));
    }

pub returns : goal.returns
returns c s history log hits left known apart before =
    let accesses = c.args.commands.accesses in
    let rest = c.loop-bank.rest in
    so_far_same (length log) c.args.commands.now hits (row_requests_beside s history log accesses (λ k. is_in rest k || left k)) hits (row_requests_beside s history log accesses left) c.loop-bank.best
    (λ cycle late. refl)
    (λ cycle late. beside_same (λ k. is_in rest k || left k) left (row_requests_now s history log accesses cycle) log (λ k. ap (λ b. b || left k) (c.in_default.ensures.none k)))
    (c.loop-bank.invariant.so_far s history log hits left known apart before)
