use Rattle.std.proofs.Common.{◌*◌, ◌+◌, get_or, ap, ◌∙◌}
use Rattle.std.specs.Option.{is_some}
use Rattle.queue.specs.Words.{candidate_of}
use Rattle.queue.proofs.Words.{index_is}
use Rattle.queue.proofs.bank_candidates.candidate_words.CandidateWords.banks.Goals as goal

pub returns : goal.returns
returns c bank =
    let places = c.args.self.now in
    places.agree bank c.set_number.result _ c.set_number.ensures.few
    ∙ ap (λ n. is_some (candidate_of (get_or places.words.items n 0))) (ap (λ n. 4 * bank + n) c.set_number.ensures.value ∙ index_is bank c.args.access c.args.hit)
