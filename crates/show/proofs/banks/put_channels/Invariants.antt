-- The banks of the channels so far.
use Rattle.show.specs.Banks.{all_banks_text}
use Rattle.measures.specs.Texts.{PutsWords}
use Rattle.show.proofs.banks.put_channels.Given as goal

abbrev pub invariant-loop-channel : goal.invariant-loop-channel
invariant-loop-channel l = PutsWords (all_banks_text l.commands l.channel) l.fn.out l.out
