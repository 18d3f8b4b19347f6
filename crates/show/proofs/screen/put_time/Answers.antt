-- The words before the number, the number, and those behind it.
use Rattle.std.proofs.Common.{◌≡◌, ◌++◌, ap, codes, rules}
use Rattle.measures.specs.Number.{number_text}
use Rattle.measures.proofs.Texts.{words_as, words_both}
use Rattle.show.specs.Rows.{time}
use Rattle.show.proofs.screen.put_time.Goals as goal

pub returns-in-Some : goal.returns-in-Some
returns-in-Some c =
    let number_is : c.nanoseconds.result ≡ time c.args.cycles 1 c.in-Some.khz = search rules in
    let put = words_both (words_both c.push_str.ensures.words (c.push.ensures.words _ c.text.ensures)) c.push_str-in-Some.ensures.words in
    rw c.in-Some.is (words_as (ap (λ number. codes "\nThe cycles take " ++ number_text number ++ codes " ns\n") number_is) put)
