-- The five parts of an entry.
use Rattle.measures.proofs.Texts.{words_both}
use Rattle.request_pictures.specs.Legends.{entry_text}
use Rattle.request_pictures.proofs.drawing.markup.put_entry.Goals as goal

pub returns : goal.returns
unfolding entry_text
returns c =
    words_both (words_both (words_both (words_both c.push_str.ensures.words c.push_str-2.ensures.words) c.push_str-3.ensures.words) c.push_str-4.ensures.words) c.push_str-5.ensures.words
