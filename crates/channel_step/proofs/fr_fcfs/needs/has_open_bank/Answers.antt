-- A bank is open in a rank where one is in some of its groups.
use Rattle.std.proofs.Common.{◌≡◌, ◌||◌, sym, ap, ◌∙◌, arith}
use Rattle.std.specs.List.{list_any}
use Rattle.sim_base.specs.History.{below}
use Rattle.sim_base.specs.Rules.{has_open_bank_in_group, has_open_bank}
use Rattle.channel_step.proofs.FrFcfs.Booleans.{any_below_at, any_below_more}
use Rattle.channel_step.proofs.fr_fcfs.needs.has_open_bank.Goals as goal

pub returns-then-has_open_bank_in_group : goal.returns-then-has_open_bank_in_group
unfolding has_open_bank
returns-then-has_open_bank_in_group c s history stands groups =
    let here = sym (c.has_open_bank_in_group.ensures history stands) ∙ c.if-has_open_bank_in_group.true in
    sym (any_below_at (has_open_bank_in_group history c.args.rank) s.groups c.loop-group.group (omega arith) here)

pub loop-group-preserved : goal.loop-group-preserved
loop-group-preserved c history stands =
    let none = sym (c.has_open_bank_in_group.ensures history stands) ∙ c.if-has_open_bank_in_group.false in
    any_below_more (has_open_bank_in_group history c.args.rank) c.loop-group.group ∙ (λ i. c.loop-group.invariant history stands i || none i)

pub returns : goal.returns
unfolding has_open_bank
returns c s history stands groups =
    let all : s.groups ≡ c.loop-group.group = omega arith in
    sym (ap (λ n. list_any (has_open_bank_in_group history c.args.rank) (below n)) all ∙ c.loop-group.invariant history stands)
