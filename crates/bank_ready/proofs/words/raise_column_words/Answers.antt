use Rattle.std.proofs.Common.{◌∙◌, ◌≤◌, max, get_or, subst}
use Rattle.sim_base.specs.declared.command.Relation.TheVariants.{SameGroup, OtherGroup, OtherRank}
use Rattle.bank_ready.specs.Ready.{held_until}
use Rattle.bank_ready.specs.Words.{all_groups_until}
use Rattle.bank_ready.proofs.Bounds.{column_bound, column_least}
use Rattle.bank_ready.proofs.Places.{column_raised}
use Rattle.bank_ready.proofs.Raising.{least-of-three}
use Rattle.bank_ready.proofs.words.raise_column_words.Goals as goal

pub bound_until-same_group-requires-clause-bound : goal.bound_until-same_group-requires-clause-bound
bound_until-same_group-requires-clause-bound c = column_bound _ c.args.earlier.kind c.args.later SameGroup c.requires.earlier c.requires.later

pub bound_until-other_group-requires-clause-bound : goal.bound_until-other_group-requires-clause-bound
bound_until-other_group-requires-clause-bound c = column_bound _ c.args.earlier.kind c.args.later OtherGroup c.requires.earlier c.requires.later

pub bound_until-other_rank-requires-clause-bound : goal.bound_until-other_rank-requires-clause-bound
bound_until-other_rank-requires-clause-bound c = column_bound _ c.args.earlier.kind c.args.later OtherRank c.requires.earlier c.requires.later

pub returns-clause-words : goal.returns-clause-words
returns-clause-words c k d l =
    let a = c.args in
    let before = get_or a.words.now k d in
    c.raise_all_groups.ensures k d l
    ∙ (λ i. max before (all_groups_until a.earlier.bank (c.bound_until-same_group.ensures i) (c.bound_until-other_group.ensures i) (c.bound_until-other_rank.ensures i) k))
    ∙ column_raised (held_until a.gaps.now a.earlier.cycle a.earlier.kind a.later) a.earlier.bank k before

pub returns-clause-least : goal.returns-clause-least
returns-clause-least c relation =
    let a = c.args in
    let least = least-of-three _ _ _ _ _ c.min.ensures c.min-2.ensures in
    column_least a.gaps.now a.earlier.cycle a.earlier.kind a.later c.min-2.result relation c.requires.earlier c.requires.later
    (subst (λ n. c.min-2.result ≤ n) c.bound_until-same_group.ensures least.0) (subst (λ n. c.min-2.result ≤ n) c.bound_until-other_group.ensures least.1)
    (subst (λ n. c.min-2.result ≤ n) c.bound_until-other_rank.ensures least.2)
