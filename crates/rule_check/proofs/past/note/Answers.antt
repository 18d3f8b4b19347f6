-- The row is the last, and is noted in its channel.
use Rattle.std.proofs.Common.{refl}
use Rattle.rule_check.proofs.Passing.{past-more}
use Rattle.rule_check.proofs.past.note.Goals as goal

pub returns : goal.returns
returns c rows h =
    past-more c.args.past.now _ c.args.config.now rows c.args.row c.index_mut.result.now c.note.new.channel h c.requires.fits c.index_mut.ensures.value refl refl c.note.ensures
