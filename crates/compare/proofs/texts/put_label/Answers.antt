-- The label, and the room behind it.
use Rattle.std.proofs.Common.{ap, sym, ◌++◌}
use Rattle.std.specs.Prelude.{codes}
use Rattle.std.specs.List.{repeat}
use Rattle.compare.specs.Texts.{label_text}
use Rattle.measures.proofs.Texts.{words_as, words_both}
use Rattle.compare.proofs.texts.put_label.Goals as goal

pub returns-in-Screen : goal.returns-in-Screen
returns-in-Screen c =
    words_as (ap (λ layout. label_text layout c.args.label.now) (sym c.in-Screen.is))
    (words_as (ap (λ n. c.args.label.now ++ repeat n (codes " ")) c.saturating_sub.ensures) (words_both c.push_str.ensures.words (c.push.ensures.words _ c.repeat.ensures.bytes)))
