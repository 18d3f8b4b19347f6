use Rattle.std.proofs.Common.{◌≡◌, ℕ, ◌+◌, ◌*◌, ◌%◌, ◌∙◌, eqb, cond, max, get_or, sym, ap, arith}
use Rattle.bank_ready.proofs.Raising.{none-raised, one-more, chosen-group, another-group, part-of-rank}
use Rattle.bank_ready.proofs.words.raise_groups.Goals.{then-other-group, else-other-group}
use Rattle.bank_ready.proofs.words.raise_groups.Goals as goal

pub loop-other-init : goal.loop-other-init
loop-other-init c = none-raised c.args.words.now (4 * c.args.rank) (λ k. cond (eqb c.args.group (k % 4)) c.args.same_group c.args.other_group)

pub loop-other-preserved : goal.loop-other-preserved
loop-other-preserved c =
    let a = c.args in
    let at = 4 * a.rank + c.loop-other.other in
    let until = λ (k : ℕ). cond (eqb a.group (k % 4)) a.same_group a.other_group in
    let raised : c.if-other-group.until ≡ until at = elim c.if-other-group.branch [
      | then-other-group w ↦ w.until-is ∙ chosen-group a.rank a.group c.loop-other.other a.same_group a.other_group c.loop-other-test.true (sym w.if-other-group.true)
      | else-other-group w ↦ w.until-is ∙ another-group a.rank a.group c.loop-other.other a.same_group a.other_group c.loop-other-test.true (λ e. w.if-other-group.false (sym e))
    ] in
    one-more a.words.now c.loop-other.words (4 * a.rank) c.loop-other.other c.raise_word.new.word until c.loop-other.invariant (omega arith)
    (c.raise_word.ensures ∙ ap (max (get_or c.loop-other.words at 0)) raised)

pub returns : goal.returns
returns c =
    part-of-rank c.args.words.now c.loop-other.words c.args.rank c.loop-other.other (λ k. cond (eqb c.args.group (k % 4)) c.args.same_group c.args.other_group) (omega arith)
    c.loop-other.invariant
