-- The blanks before the words, and the words.
use Rattle.std.proofs.Common.{◌-◌, length, arith}
use Rattle.measures.proofs.Texts.{no_blanks, blank_more, flushed}
use Rattle.measures.proofs.text_builder.TextBuilder.push_flush_right.Goals as goal

pub loop-init : goal.loop-init
loop-init c = (no_blanks _ c.args.self.now (omega arith), omega arith)

pub loop-preserved : goal.loop-preserved
loop-preserved c = (
  blank_more (c.loop.counter - length c.args.words.now) _ c.args.self.now c.loop.self c.push_str.new.self (omega (arith, c.loop.auto.counter))
      c.loop.invariant.0 (c.push_str.ensures.words, c.push_str.ensures.room),
  omega (arith, c.loop.auto.counter, c.loop-test.true),
)

pub returns : goal.returns
returns c =
    let both = flushed (c.loop.counter - length c.args.words.now) c.args.width c.args.words.now c.args.self.now c.loop.self c.push_str-2.new.self
    (omega (arith, c.loop.auto.counter, c.loop-test.false, c.loop.invariant.1)) c.loop.invariant.0 (c.push_str-2.ensures.words, c.push_str-2.ensures.room) in
    record { words = both.0; room = both.1 }
