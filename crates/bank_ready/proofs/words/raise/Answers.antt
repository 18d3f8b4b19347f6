use Rattle.std.proofs.Common.{ℕ, arith}
use Rattle.bank_ready.proofs.Raising.{none-raised, one-more}
use Rattle.bank_ready.proofs.words.raise.Goals as goal

pub loop-place-init : goal.loop-place-init
loop-place-init g c = none-raised c.args.words.now c.args.first (λ k. c.args.until)

pub loop-place-preserved : goal.loop-place-preserved
loop-place-preserved g c =
    one-more c.args.words.now c.loop-place.words c.args.first c.loop-place.place c.raise_word.new.word (λ (k : ℕ). c.args.until) c.loop-place.invariant (omega arith) c.raise_word.ensures

pub returns-clause-raised : goal.returns-clause-raised
returns-clause-raised g c k d from to = c.loop-place.invariant.done k d from (omega arith)

pub returns-clause-below : goal.returns-clause-below
returns-clause-below g c = c.loop-place.invariant.below

pub returns-clause-above : goal.returns-clause-above
returns-clause-above g c k d from = c.loop-place.invariant.left k d (omega arith)
