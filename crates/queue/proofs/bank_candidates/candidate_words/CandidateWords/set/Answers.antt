-- One word is written, and the bank is put into its set or taken out.
use Rattle.std.proofs.Common.{◌≡◌, ℕ, ◌≢◌, ◌*◌, ◌+◌, not, get_or, set, sym, ap, ◌∙◌, subst, arith}
use Rattle.std.proofs.lemmas.List.{length-set, get_or_default}
use Rattle.std.specs.Option.{is_some}
use Rattle.queue.specs.Sets.{is_in}
use Rattle.queue.specs.Words.{Agree, candidate_in, access_in}
use Rattle.queue.specs.Candidates.{access_number}
use Rattle.queue.proofs.Words.{set_agrees, read_same, read_beside, read_other}
use Rattle.queue.proofs.bank_candidates.candidate_words.CandidateWords.set.Goals as goal
use Rattle.queue.proofs.bank_candidates.candidate_words.CandidateWords.set.Goals.{then-is_some, else-is_some}

pub invariant_of-self-clause-four : goal.invariant_of-self-clause-four
invariant_of-self-clause-four c = length-set c.args.self.now.sets c.set_number-number.result c.if-is_some.self ∙ c.args.self.now.four

pub invariant_of-self-clause-agree : goal.invariant_of-self-clause-agree
invariant_of-self-clause-agree c =
    let old = c.args.self.now in
    let number = c.set_number-number.result in
    let bank = c.args.bank in
    let s = c.if-is_some.self in
    let same_set : (k : ℕ) → is_in (get_or old.sets number (record { bits = 0 })) k ≡ is_in (get_or old.sets number s) k =
    λ k. ap (λ x. is_in x k) (get_or_default old.sets number (record { bits = 0 }) s (omega (arith, old.four, c.set_number-number.ensures.few))) in
    let agrees : is_in s bank ≡ is_some c.args.candidate = elim c.if-is_some.branch [
      | then-is_some w ↦ ap (λ x. is_in x bank) w.self-is ∙ w.with.ensures.same ∙ sym (sym c.is_some.ensures ∙ w.if-is_some.true)
      | else-is_some w ↦ ap (λ x. is_in x bank) w.self-is ∙ w.without.ensures.same ∙ sym (sym c.is_some.ensures ∙ w.if-is_some.false)
    ] in
    let others : (k : ℕ) → k ≢ bank → is_in s k ≡ is_in (get_or old.sets number s) k = λ k apart. elim c.if-is_some.branch [
      | then-is_some w ↦ ap (λ x. is_in x k) w.self-is ∙ w.with.ensures.others k apart ∙ same_set k
      | else-is_some w ↦ ap (λ x. is_in x k) w.self-is ∙ w.without.ensures.others k apart ∙ same_set k
    ] in
    subst (λ word. Agree (set old.words.items (4 * bank + number) word) (set old.sets number s)) (sym c.word_of.ensures)
    (set_agrees old.words.items old.sets bank number c.args.candidate s old.four c.requires.bank c.set_number-number.ensures.few old.agree agrees others)

pub returns-clause-same : goal.returns-clause-same
returns-clause-same c =
    let words = c.args.self.now.words.items in
    let bank = c.args.bank in
    (λ i. candidate_in (set words (4 * bank + c.set_number-number.ensures.value i) (c.word_of.ensures i)) (access_number bank c.args.access) c.args.hit)
    ∙ read_same words bank c.args.access c.args.hit c.args.candidate c.requires.bank

pub returns-clause-beside : goal.returns-clause-beside
returns-clause-beside c =
    let words = c.args.self.now.words.items in
    let number = access_number c.args.bank c.args.access in
    (λ i. candidate_in (set words (4 * c.args.bank + c.set_number-number.ensures.value i) c.word_of.result) number (not c.args.hit))
    ∙ read_beside words c.args.bank c.args.access c.args.hit c.word_of.result

pub returns-clause-others : goal.returns-clause-others
returns-clause-others c number apart =
    let words = c.args.self.now.words.items in
    (λ i. access_in (set words (4 * c.args.bank + c.set_number-number.ensures.value i) c.word_of.result) number)
    ∙ read_other words c.args.bank c.args.access c.args.hit c.word_of.result number apart
