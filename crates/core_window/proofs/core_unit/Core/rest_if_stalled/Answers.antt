-- Where it is not stuck, it stays where it is.
use Rattle.std.proofs.Common.{refl, sym, subst, arith}
use Rattle.core_window.specs.CoreViews.{view_of}
use Rattle.core_window.specs.Inside.{GoesOnWithoutSending}
use Rattle.core_window.proofs.Stalling.{rests-goes, stalled-standing, may_rest}
use Rattle.core_window.proofs.Stretching.{unsent-none}
use Rattle.core_window.proofs.Working.{sound}
use Rattle.core_window.proofs.core_unit.Core.rest_if_stalled.Goals as goal

pub is_stalled-requires : goal.is_stalled-requires
is_stalled-requires c = (sound (view_of c.args.self.now) c.requires.stands).retired

pub returns-else-self-until : goal.returns-else-self-until
returns-else-self-until c = unsent-none (view_of c.args.self.now) c.args.until (omega arith)

pub rest-requires-clause-room : goal.rest-requires-clause-room
rest-requires-clause-room c = may_rest (view_of c.args.self.now) c.args.until c.requires.stands c.requires.early c.requires.order

pub returns-then-is_stalled : goal.returns-then-is_stalled
returns-then-is_stalled c =
    let v = view_of c.args.self.now in
    let stalled = stalled-standing v c.requires.stands (c.if-is_stalled.ensures.undone refl) (c.if-is_stalled.ensures.full refl) in
    subst (GoesOnWithoutSending c.args.until v) (sym c.rest.ensures) (rests-goes v v.stats.retired c.args.until stalled c.requires.order)
