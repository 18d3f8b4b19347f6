-- The words are lowered to the messages in the order in which they were sent, too.
use Rattle.std.proofs.lemmas.List.Sorted.{IsPermutation-sym}
use Rattle.sim_base.proofs.Results.{both_on_ok}
use Rattle.units.proofs.OneByOne.{lowered-permuted}
use Rattle.units.proofs.words.take_up.Goals as goal

pub returns-clause-lowered : goal.returns-clause-lowered
returns-clause-lowered c =
    let at = c.take_up_each.ensures.lowered in
    let other = IsPermutation-sym _ _ c.put_in_order.ensures.same in
    both_on_ok c.take_up_each.result
    (λ h _ early. lowered-permuted c.args.config.now c.args.first c.put_in_order.new.messages c.args.sent.now c.args.words.now c.take_up_each.new.words other (h early))
    at at
