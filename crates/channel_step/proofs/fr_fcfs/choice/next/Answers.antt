-- One rank more, from the highest on.
use Rattle.std.proofs.Common.{◌≡◌, ◌+◌, ◌-◌, false, is_some, sym, ◌∙◌, subst, arith}
use Rattle.sim_base.specs.Scheduling.{lowest_due}
use Rattle.channel_step.specs.FrFcfs.Requests.{candidates_of}
use Rattle.bank_ready.specs.Refreshes.{lowest_owed}
use Rattle.channel_step.specs.FrFcfs.Choices.{choice_in, command_of}
use Rattle.channel_step.specs.FrFcfs.Cycles.{IsNext}
use Rattle.channel_step.proofs.FrFcfs.Waking.{chosen_from, chosen_start, refreshes_more, next_none_issued}
use Rattle.channel_step.proofs.fr_fcfs.choice.next.Goals as goal

pub loop-rank-init : goal.loop-rank-init
loop-rank-init c = record {
  rank = omega (arith, c.ranks-rank.ensures);
  next = λ s history stand n all.
      chosen_start s history (candidates_of s c.args.parts.now.queue.now) (command_of s history c.args.parts.now.queue.now.log) c.ranks-rank.result c.args.now c.next_of_requests-next.result
      (c.next_of_requests-next.ensures.next s history stand.banks_stand stand.candidates_stand stand.high_is) n (omega (arith, c.ranks-rank.ensures, all));
  place = λ s history stand. c.next_of_requests-next.ensures.place s history stand.banks_stand stand.candidates_stand stand.high_is;
}

pub loop-rank-preserved : goal.loop-rank-preserved
loop-rank-preserved c =
    let rank = c.loop-rank.rank - 1 in
    let log = c.args.parts.now.queue.now.log in
    record {
      rank = omega arith;
      next = λ s history stand n all.
          let after : c.loop-rank.rank ≡ rank + 1 = omega arith in
          let is_due = c.first_due-due.ensures.stands s history stand.refreshes_stand in
          refreshes_more s history (candidates_of s c.args.parts.now.queue.now) (command_of s history log) rank c.args.parts.now.refresh.now.ranks c.args.now c.first_due-due.result c.loop-rank.next c.with_refresh.new.next is_due (omega arith)
          (λ m whole.
          subst (λ k. IsNext (chosen_from s history (candidates_of s c.args.parts.now.queue.now) k m) (command_of s history log) c.args.now c.loop-rank.next) after (c.loop-rank.invariant.next s history stand m (omega arith)))
          (λ commands rest same before. c.with_refresh.ensures.next s history log commands rest c.args.now stand.banks_stand (record { log = log; stands = stand.candidates_stand }) stand.groups_are is_due.from_now same before) n all;
      place = λ s history stand. c.with_refresh.ensures.place log (c.loop-rank.invariant.place s history stand);
    }

pub returns-clause-next : goal.returns-clause-next
unfolding lowest_due
returns-clause-next c s history stand =
    let last : c.loop-rank.rank ≡ 0 = omega arith in
    let whole : c.loop-rank.rank + s.ranks ≡ c.args.parts.now.refresh.now.ranks = omega (arith, last, stand.refreshes_stand.ranks_are) in
    subst (λ k. IsNext (chosen_from s history (candidates_of s c.args.parts.now.queue.now) k s.ranks) (command_of s history c.args.parts.now.queue.now.log) c.args.now c.loop-rank.next) last (c.loop-rank.invariant.next s history stand s.ranks whole)

-- the requests go on alone, where no refresh is due by their first cycle
pub returns-then-not-is_due_by-clause-next : goal.returns-then-not-is_due_by-clause-next
returns-then-not-is_due_by-clause-next c s history stand =
    let requests = candidates_of s c.args.parts.now.queue.now in
    let needs = command_of s history c.args.parts.now.queue.now.log in
    let cycle = c.in-Some.cycle in
    let none : is_some (lowest_owed c.args.parts.now.refresh.now cycle) ≡ false = sym c.is_due_by.ensures ∙ c.if-not-is_due_by.true in
    subst (IsNext (choice_in s history c.args.parts.now.queue.now) needs c.args.now) (sym c.in-Some.is)
    (next_none_issued s history requests c.args.parts.now.refresh.now c.args.now cycle (needs c.in-Some.field-0-1) stand.refreshes_stand none
    (c.in-Some.ensures.next s history stand.banks_stand stand.candidates_stand stand.high_is))
