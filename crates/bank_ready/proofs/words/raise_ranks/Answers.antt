use Rattle.std.proofs.Common.{◌≡◌, ℕ, ◌/◌, ◌∙◌, eqb, eq-eqb, ne_eqb, sym, arith}
use Rattle.std.proofs.lemmas.Bool.{cond-true, cond-false}
use Rattle.bank_ready.specs.Words.{ranks_until}
use Rattle.bank_ready.proofs.Raising.{none-raised, four-more}
use Rattle.bank_ready.proofs.words.raise_ranks.Goals.{then-other-rank, else-other-rank}
use Rattle.bank_ready.proofs.words.raise_ranks.Goals as goal

pub loop-other-init : goal.loop-other-init
loop-other-init c = none-raised c.args.words.now 0 (ranks_until c.args.rank c.args.same_rank c.args.other_rank)

pub loop-other-preserved : goal.loop-other-preserved
loop-other-preserved c =
    let a = c.args in
    let raised : (k : ℕ) → k / 4 ≡ c.loop-other.other → c.if-other-rank.until ≡ ranks_until a.rank a.same_rank a.other_rank k = λ k at. elim c.if-other-rank.branch [
      | then-other-rank w ↦ w.until-is ∙ sym (cond-true (eqb a.rank (k / 4)) a.same_rank a.other_rank (eq-eqb a.rank (k / 4) (sym w.if-other-rank.true ∙ sym at)))
      | else-other-rank w ↦ w.until-is ∙ sym (cond-false (eqb a.rank (k / 4)) a.same_rank a.other_rank (ne_eqb a.rank (k / 4) (λ e. w.if-other-rank.false (sym (e ∙ at)))))
    ] in
    four-more a.words.now c.loop-other.words c.raise.new.words c.loop-other.other c.if-other-rank.until (ranks_until a.rank a.same_rank a.other_rank) c.loop-other.invariant
    c.raise.ensures.raised c.raise.ensures.below c.raise.ensures.above raised

pub returns : goal.returns
returns c k d l = c.loop-other.invariant.done k d (omega arith) (omega arith)
