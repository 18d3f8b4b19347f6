-- What the banks offer that are not left in a set, which gets smaller.
use Rattle.std.proofs.Common.{◌≡◌, ℕ, zero, suc, ◌+◌, ◌<◌, Bool, true, false, not, cond, ◌&&◌, ◌||◌, eqb, eq-eqb, ne_eqb, List, Option, None, refl, sym, ap, ◌∙◌, inl, inr, arith}
use Rattle.std.proofs.lemmas.Bool.{cases_Bool, cases_eq, false≢true}
use Rattle.std.specs.List.{All}
use Rattle.std.proofs.Math.Bool.{or-false, and-false}
use Rattle.sim_base.specs.declared.message.Request.{Request}
use Rattle.queue.specs.declared.request_log.Arrived.{Arrived}
use Rattle.queue.specs.Log.{all_requests}
use Rattle.queue.specs.Columns.{bank_number}
use Rattle.queue.specs.Candidates.{first_place}
use Rattle.sim_base.specs.Earlier.{earlier}
use Rattle.queue.proofs.Searches.{none_everywhere}
use Rattle.channel_step.proofs.FrFcfs.Firsts.{same_among, either_among}
use Rattle.channel_step.proofs.FrFcfs.Below.{place_below, none_below, place_more, place_all}

-- the first request that passes a test, of the banks that are not left
abbrev pub place_beside : (ℕ → Bool) → (Request → Bool) → List Arrived → Option ℕ
place_beside left test log = first_place (λ r. not (left (bank_number r.place)) && test r) log

-- no bank is left
pub beside_all : (left : ℕ → Bool) (test : Request → Bool) (log : List Arrived) → ((k : ℕ) → left k ≡ false) → place_beside left test log ≡ first_place test log
beside_all left test log none =
    same_among (λ r. not (left (bank_number r.place)) && test r) test (λ r. Unit {0}) log (λ k d exists. tt) (λ r in_all. ap (λ b. not b && test r) (none (bank_number r.place)))

-- if two functions leave the same banks, the first place among the requests of the other banks is the same
pub beside_same : (left after : ℕ → Bool) (test : Request → Bool) (log : List Arrived) → ((k : ℕ) → left k ≡ after k) → place_beside left test log ≡ place_beside after test log
beside_same left after test log same =
    same_among (λ r. not (left (bank_number r.place)) && test r) (λ r. not (after (bank_number r.place)) && test r) (λ r. Unit {0}) log (λ k d exists. tt)
    (λ r in_all. ap (λ b. not b && test r) (same (bank_number r.place)))

beside_test : (left after : ℕ → Bool) (bank k : ℕ) (t : Bool) → left bank ≡ true → after bank ≡ false → ((j : ℕ) → (j ≡ bank → ⊥) → after j ≡ left j)
    → (not (after k) && t) ≡ ((not (left k) && t) || (eqb k bank && t))
beside_test left after bank k t was is others = elim (cases_eq k bank) [
  | inl same ↦
      ap (λ b. not b && t) (ap after same ∙ is)
      ∙ (λ i. (not ((sym (ap left same ∙ was)) i) && t) || ((sym (eq-eqb k bank same)) i && t))
  | inr apart ↦
      ap (λ b. not b && t) (others k apart)
      ∙ sym (or-false (not (left k) && t))
      ∙ ap (λ b. (not (left k) && t) || (b && t)) (sym (ne_eqb k bank apart))
]

-- one bank less is left out: the first place is that of the others or of this bank
pub beside_more : (left after : ℕ → Bool) (bank : ℕ) (test : Request → Bool) (log : List Arrived) → left bank ≡ true → after bank ≡ false
    → ((j : ℕ) → (j ≡ bank → ⊥) → after j ≡ left j)
    → place_beside after test log ≡ earlier (place_beside left test log) (first_place (λ r. eqb (bank_number r.place) bank && test r) log)
beside_more left after bank test log was is others =
    either_among (λ r. not (after (bank_number r.place)) && test r) (λ r. not (left (bank_number r.place)) && test r) (λ r. eqb (bank_number r.place) bank && test r) (λ r. Unit {0}) log
    (λ k d exists. tt) (λ r in_all. beside_test left after bank (bank_number r.place) (test r) was is others)

parts_test : (asked left t : Bool) → (asked ≡ true → left ≡ false) → (not left && t) ≡ ((not (asked || left) && t) || (asked && t))
parts_test true left t apart = ap (λ b. not b && t) (apart refl)
parts_test false left t apart = sym (or-false (not left && t))

-- the banks that are asked for, and those beside them
pub beside_parts : (asked left : ℕ → Bool) (test : Request → Bool) (log : List Arrived) → ((k : ℕ) → asked k ≡ true → left k ≡ false)
    → place_beside left test log ≡ earlier (place_beside (λ k. asked k || left k) test log) (first_place (λ r. asked (bank_number r.place) && test r) log)
beside_parts asked left test log apart =
    either_among (λ r. not (left (bank_number r.place)) && test r) (λ r. not (asked (bank_number r.place) || left (bank_number r.place)) && test r) (λ r. asked (bank_number r.place) && test r) (λ r. Unit {0}) log
    (λ k d exists. tt) (λ r in_all. parts_test (asked (bank_number r.place)) (left (bank_number r.place)) (test r) (apart (bank_number r.place)))

at_bank : (left : ℕ → Bool) (n k : ℕ) (t b : Bool) → left n ≡ b → (eqb k n && (not (left k) && t)) ≡ (eqb k n && (not b && t))
at_bank left n k t b is = elim (cases_eq k n) [
  | inl same ↦ ap (λ x. eqb k n && (not x && t)) (ap left same ∙ is)
  | inr apart ↦ ap (λ e. e && (not (left k) && t)) (ne_eqb k n apart) ∙ sym (ap (λ e. e && (not b && t)) (ne_eqb k n apart))
]

none_at : (left : ℕ → Bool) (n : ℕ) (test : Request → Bool) (log : List Arrived) → (left n ≡ false → first_place (λ r. eqb (bank_number r.place) n && test r) log ≡ None)
    → first_place (λ r. eqb (bank_number r.place) n && (not (left (bank_number r.place)) && test r)) log ≡ None
none_at left n test log none = elim (cases_Bool (left n)) [
  | inl is_left ↦
      same_among (λ r. eqb (bank_number r.place) n && (not (left (bank_number r.place)) && test r)) (λ r. false) (λ r. Unit {0}) log (λ k d exists. tt)
      (λ r in_all. at_bank left n (bank_number r.place) (test r) true is_left ∙ and-false (eqb (bank_number r.place) n))
      ∙ sym (none_everywhere (λ r. false) log (λ r. refl))
  | inr out ↦
      same_among (λ r. eqb (bank_number r.place) n && (not (left (bank_number r.place)) && test r)) (λ r. eqb (bank_number r.place) n && test r) (λ r. Unit {0}) log (λ k d exists. tt)
      (λ r in_all. at_bank left n (bank_number r.place) (test r) false out)
      ∙ none out
]

none_beside_below : (left : ℕ → Bool) (n : ℕ) (test : Request → Bool) (log : List Arrived)
    → ((k : ℕ) → k < n → left k ≡ false → first_place (λ r. eqb (bank_number r.place) k && test r) log ≡ None)
    → place_below n (λ r. not (left (bank_number r.place)) && test r) log ≡ None
none_beside_below left zero test log none = none_below (λ r. not (left (bank_number r.place)) && test r) log
none_beside_below left (suc n) test log none =
    let next : suc n ≡ n + 1 = omega arith in
    ap (λ m. place_below m (λ r. not (left (bank_number r.place)) && test r) log) next
    ∙ place_more n (λ r. not (left (bank_number r.place)) && test r) log
    ∙ (λ i. earlier (none_beside_below left n test log (λ k l. none k (omega arith)) i) (none_at left n test log (none n (omega arith)) i))

-- the banks that are not left offer nothing
pub beside_nothing : (left : ℕ → Bool) (n : ℕ) (test : Request → Bool) (log : List Arrived) → All (λ r. bank_number r.place < n) (all_requests log)
    → ((k : ℕ) → k < n → left k ≡ false → first_place (λ r. eqb (bank_number r.place) k && test r) log ≡ None) → place_beside left test log ≡ None
beside_nothing left n test log within none =
    sym (place_all n (λ r. not (left (bank_number r.place)) && test r) log within) ∙ none_beside_below left n test log none

-- how many of the numbers below n are left
unfoldable pub size : (ℕ → Bool) → ℕ → ℕ
size left zero = 0
size left (suc n) = size left n + cond (left n) 1 0

size_same : (left after : ℕ → Bool) (n : ℕ) → ((k : ℕ) → k < n → after k ≡ left k) → size after n ≡ size left n
unfolding size
size_same left after zero same = refl
size_same left after (suc n) same = λ i. size_same left after n (λ k l. same k (omega arith)) i + cond (same n (omega arith) i) 1 0

-- one bank less is left out, so that fewer are
pub size_less : (left after : ℕ → Bool) (bank n : ℕ) → bank < n → left bank ≡ true → after bank ≡ false → ((j : ℕ) → (j ≡ bank → ⊥) → after j ≡ left j) → size after n < size left n
unfolding size
size_less left after bank zero within was is others = absurd (omega arith)
size_less left after bank (suc n) within was is others = elim (cases_eq n bank) [
  | inl same ↦
      let one : cond {A = ℕ} (left n) 1 0 ≡ 1 = ap (λ b. cond b 1 0) (ap left same ∙ was) in
      let none : cond {A = ℕ} (after n) 1 0 ≡ 0 = ap (λ b. cond b 1 0) (ap after same ∙ is) in
      let rest : size after n ≡ size left n = size_same left after n (λ k l. others k (λ e. omega arith)) in
      omega (arith, one, none, rest)
  | inr apart ↦
      let here : cond {A = ℕ} (after n) 1 0 ≡ cond (left n) 1 0 = ap (λ b. cond b 1 0) (others n apart) in
      let less = size_less left after bank n (below within apart) was is others in
      omega (arith, here, less)
]
  where
    below : bank < suc n → (n ≡ bank → ⊥) → bank < n
    below inside apart = omega arith

-- what is left then was left before
pub left_before : (left after : ℕ → Bool) (bank : ℕ) → after bank ≡ false → ((j : ℕ) → (j ≡ bank → ⊥) → after j ≡ left j) → (k : ℕ) → after k ≡ true → left k ≡ true
left_before left after bank is others k still = elim (cases_eq k bank) [
  | inl same ↦ absurd (false≢true (sym (ap after same ∙ is) ∙ still))
  | inr apart ↦ sym (others k apart) ∙ still
]
