use Rattle.std.proofs.Common.{◌≡◌, Some, ap, ◌∙◌, arith}
use Rattle.queue.proofs.Words.{first_word, first_is}
use Rattle.queue.proofs.bank_candidates.candidate_words.first_of.Goals as goal

pub returns : goal.returns
returns c =
    let least : c.min.result ≡ first_word c.args.read c.args.write = omega arith in
    ap Some least ∙ first_is c.args.read c.args.write (omega arith) (omega arith) c.requires
