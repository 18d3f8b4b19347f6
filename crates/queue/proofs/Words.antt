-- Words of places, one of which is written.
use Rattle.std.proofs.Common.{◌≡◌, ℕ, zero, suc, ◌+◌, ◌*◌, ◌%◌, ◌^◌, ◌<◌, ◌≢◌, min, Bool, true, false, not, cond, List, length, get_or, set, Option, Some, None, refl, sym, ap, ◌∙◌, inl, inr, arith, add-one, get_or-set_same, get_or-set_other}
use Rattle.std.proofs.lemmas.Bool.{cases_eq, false≢true}
use Rattle.std.specs.Option.{is_some}
use Rattle.sim_base.specs.declared.message.Access.{Access}
use Rattle.sim_base.specs.declared.message.Access.TheVariants as access
use Rattle.queue.specs.declared.bank_candidates.sets.BankSet.{BankSet}
use Rattle.queue.specs.Candidates.{access_number}
use Rattle.sim_base.specs.Earlier.{earlier}
use Rattle.queue.specs.Words.{candidate_of, word_of, set_number, Agree, candidate_in, access_in}
use Rattle.queue.specs.Sets.{is_in}

-- the word of a bank is that of its access
pub index_is : (bank : ℕ) (access : Access) (hit : Bool) → 4 * bank + set_number access hit ≡ 2 * access_number bank access + cond hit 1 0
index_is bank access.Write true = omega arith
index_is bank access.Write false = omega arith
index_is bank access.Read true = omega arith
index_is bank access.Read false = omega arith

pub set_number_few : (access : Access) (hit : Bool) → set_number access hit < 4
set_number_few access.Write true = omega arith
set_number_few access.Write false = omega arith
set_number_few access.Read true = omega arith
set_number_few access.Read false = omega arith

pub candidate_word : (o : Option ℕ) → candidate_of (word_of o) ≡ o
candidate_word None = refl
candidate_word (Some k) = ap candidate_of (add-one k)

-- one word of a bank is written, and its set
pub set_agrees : (words : List ℕ) (sets : List BankSet) (bank number : ℕ) (candidate : Option ℕ) (s : BankSet) → length sets ≡ 4 → 4 * bank + 3 < length words → number < 4
    → Agree words sets → is_in s bank ≡ is_some candidate → ((k : ℕ) → k ≢ bank → is_in s k ≡ is_in (get_or sets number s) k)
    → Agree (set words (4 * bank + number) (word_of candidate)) (set sets number s)
set_agrees words sets bank number candidate s four room few agree same others b n d within =
    let index = 4 * bank + number in
    elim (cases_eq n number) [
      | inl n_is ↦
          let set_is : get_or (set sets number s) n d ≡ s = ap (λ m. get_or (set sets number s) m d) n_is ∙ get_or-set_same sets number s d (omega arith) in
          ap (λ x. is_in x b) set_is ∙ (elim (cases_eq b bank) [
            | inl b_is ↦
                let here : 4 * b + n ≡ index = omega arith in
                ap (is_in s) b_is ∙ same
                ∙ ap is_some (sym (ap candidate_of (ap (λ m. get_or (set words index (word_of candidate)) m 0) here ∙ get_or-set_same words index (word_of candidate) 0 (omega arith)) ∙ candidate_word candidate))
            | inr apart ↦
                let there : 4 * b + n ≡ index → ⊥ = λ e. apart (omega arith) in
                others b apart ∙ ap (λ m. is_in (get_or sets m s) b) (sym n_is) ∙ agree b n s within
                ∙ ap (λ w. is_some (candidate_of w)) (sym (get_or-set_other words index (4 * b + n) (word_of candidate) 0 there))
          ])
      | inr apart ↦
          let there : 4 * b + n ≡ index → ⊥ = λ e. apart (omega arith) in
          ap (λ x. is_in x b) (get_or-set_other sets number n s d apart) ∙ agree b n d within
          ∙ ap (λ w. is_some (candidate_of w)) (sym (get_or-set_other words index (4 * b + n) (word_of candidate) 0 there))
    ]

-- the word that was written is read
pub read_same : (words : List ℕ) (bank : ℕ) (access : Access) (hit : Bool) (candidate : Option ℕ) → 4 * bank + 3 < length words
    → candidate_in (set words (4 * bank + set_number access hit) (word_of candidate)) (access_number bank access) hit ≡ candidate
read_same words bank access hit candidate room =
    let index = 4 * bank + set_number access hit in
    let within : index < length words = omega (arith, set_number_few access hit) in
    ap (λ n. candidate_of (get_or (set words index (word_of candidate)) n 0)) (sym (index_is bank access hit))
    ∙ ap candidate_of (get_or-set_same words index (word_of candidate) 0 within) ∙ candidate_word candidate

-- the words beside the one that was written are as they were
pub read_beside : (words : List ℕ) (bank : ℕ) (access : Access) (hit : Bool) (word : ℕ)
    → candidate_in (set words (4 * bank + set_number access hit) word) (access_number bank access) (not hit) ≡ candidate_in words (access_number bank access) (not hit)
read_beside words bank access hit word =
    ap candidate_of (get_or-set_other words (4 * bank + set_number access hit) (2 * access_number bank access + cond (not hit) 1 0) word 0 (apart hit))
  where
    apart : (h : Bool) → 2 * access_number bank access + cond (not h) 1 0 ≡ 4 * bank + set_number access h → ⊥
    apart true e = let i = index_is bank access true in omega arith
    apart false e = let i = index_is bank access false in omega arith

pub read_other : (words : List ℕ) (bank : ℕ) (access : Access) (hit : Bool) (word number : ℕ) → number ≢ access_number bank access
    → access_in (set words (4 * bank + set_number access hit) word) number ≡ access_in words number
read_other words bank access hit word number other =
    let index = 4 * bank + set_number access hit in
    let is = index_is bank access hit in
    (λ i. record { oldest = candidate_of (get_or-set_other words index (2 * number + 0) word 0 (apart hit 0 (omega arith) is) i); hit = candidate_of (get_or-set_other words index (2 * number + 1) word 0 (apart hit 1 (omega arith) is) i) })
  where
    apart : (h : Bool) (n : ℕ) → n < 2 → 4 * bank + set_number access hit ≡ 2 * access_number bank access + cond h 1 0 → 2 * number + n ≡ 4 * bank + set_number access hit → ⊥
    apart true n few is e = other (omega arith)
    apart false n few is e = other (omega arith)

-- the first of two places, by their words: each less one, where none is the greatest
abbrev pub first_word : ℕ → ℕ → ℕ
first_word a b = min ((a + 65535) % 65536) ((b + 65535) % 65536)

pub first_is : (a b : ℕ) → a < 2 ^ 16 → b < 2 ^ 16 → is_some (earlier (candidate_of a) (candidate_of b)) ≡ true → Some (first_word a b) ≡ earlier (candidate_of a) (candidate_of b)
first_is zero zero short_a short_b some = absurd (false≢true some)
first_is zero (suc k) short_a short_b some = ap Some (omega arith)
first_is (suc j) zero short_a short_b some = ap Some (omega arith)
first_is (suc j) (suc k) short_a short_b some = ap Some (omega arith)
