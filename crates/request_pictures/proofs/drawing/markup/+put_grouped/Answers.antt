-- The groups before the last one, and that one.
use Rattle.std.proofs.Common.{◌++◌, subst, sym}
use Rattle.measures.proofs.Texts.{puts_as, puts_both}
use Rattle.request_pictures.specs.Pieces.{IsGrouped, few, more}
use Rattle.request_pictures.proofs.drawing.markup.+put_grouped.Goals as goal

pub returns-then-number-lt1000 : goal.returns-then-number-lt1000
returns-then-number-lt1000 t c = puts_as (λ text same. subst (IsGrouped c.args.number) (sym same) (few c.args.number c.if-number-lt1000.true)) c.write.ensures.output

pub returns : goal.returns
returns t c =
    puts_both (λ front last is same. subst (λ group. IsGrouped c.args.number (front ++ group)) (sym same) (more c.args.number front c.if-number-lt1000.false is))
    c.put_grouped.ensures c.put_group.ensures
