-- Words that are raised one after the other.
use Rattle.std.proofs.Common.{◌≡◌, ℕ, ◌+◌, ◌*◌, ◌/◌, ◌%◌, ◌<◌, ◌≤◌, ◌∙◌, cond, eqb, eq-eqb, ne_eqb, max, min, List, length, get_or, set, refl, sym, ap, arith, inl, inr}
use Rattle.std.proofs.lemmas.Bool.{cases_lt, cases_eq, cond-true, cond-false}
use Rattle.std.proofs.lemmas.Grind.{get_or-set_at}
use Rattle.std.proofs.lemmas.List.{get_or_default, get_or-set_other}
use Rattle.sim_base.specs.declared.place.BankId.{BankId}
use Rattle.bank_ready.specs.Words.{ranks_until, all_groups_until}
use Rattle.bank_ready.specs.Raised.{AreAllRaised, IsRangeRaised, AreSameBefore, AreSameFrom}

-- so many words from a place on are raised, and no others
pub record ArePartRaised (old now : List ℕ) (first count : ℕ) (until : ℕ → ℕ) : Type 0 where
  pub done : (k d : ℕ) → first ≤ k → k < first + count → get_or now k d ≡ max (get_or old k d) (until k)
  pub below : (k d : ℕ) → k < first → get_or now k d ≡ get_or old k d
  pub left : (k d : ℕ) → first + count ≤ k → get_or now k d ≡ get_or old k d

pub none-raised : (words : List ℕ) (first : ℕ) (until : ℕ → ℕ) → ArePartRaised words words first 0 until
none-raised words first until = record { done = λ k d from to. absurd (omega arith); below = λ k d l. refl; left = λ k d l. refl }

-- the word that is written, of a list in which it was as before
raised-at : (old now : List ℕ) (at value until k d : ℕ) → k ≡ at → at < length now → value ≡ max (get_or now at 0) until → get_or now k d ≡ get_or old k d
    → get_or (set now at value) k d ≡ max (get_or old k d) until
raised-at old now at value until k d here inside is same =
    get_or-set_at now at k value d here inside ∙ is
    ∙ ap (λ x. max x until) (get_or_default now at 0 d inside ∙ ap (λ n. get_or now n d) (sym here) ∙ same)

-- one word more
pub one-more : (old now : List ℕ) (first count value : ℕ) (until : ℕ → ℕ) → ArePartRaised old now first count until → first + count < length now
    → value ≡ max (get_or now (first + count) 0) (until (first + count)) → ArePartRaised old (set now (first + count) value) first (count + 1) until
one-more old now first count value until so_far inside is = record {
  done = λ k d from to. elim (cases_lt k (first + count)) [
    | inl before ↦ get_or-set_other now (first + count) k value d (omega arith) ∙ so_far.done k d from before
    | inr after ↦
        let here : k ≡ first + count = omega arith in
        raised-at old now (first + count) value (until (first + count)) k d here inside is (so_far.left k d after) ∙ ap (λ n. max (get_or old k d) (until n)) (sym here)
  ];
  below = λ k d l. get_or-set_other now (first + count) k value d (omega arith) ∙ so_far.below k d l;
  left = λ k d l. get_or-set_other now (first + count) k value d (omega arith) ∙ so_far.left k d (omega arith);
}

-- four words more
pub four-more : (old now new : List ℕ) (count to : ℕ) (until : ℕ → ℕ) → ArePartRaised old now 0 (4 * count) until
    → IsRangeRaised now new (4 * count) 4 to → AreSameBefore now new (4 * count) → AreSameFrom now new (4 * count + 4)
    → ((k : ℕ) → k / 4 ≡ count → to ≡ until k) → ArePartRaised old new 0 (4 * (count + 1)) until
four-more old now new count to until so_far raised before after same = record {
  done = λ k d from l. elim (cases_lt k (4 * count)) [
    | inl early ↦ before k d early ∙ so_far.done k d from (omega arith)
    | inr late ↦
        raised k d late (omega arith) ∙ ap (λ x. max x to) (so_far.left k d (omega arith)) ∙ ap (max (get_or old k d)) (same k (omega arith))
  ];
  below = λ k d l. absurd (omega arith);
  left = λ k d l. after k d (omega arith) ∙ so_far.left k d (omega arith);
}

-- the cycle of a group of a rank, which one group of the rank has for itself
pub chosen-group : (rank group other same_group other_group : ℕ) → other < 4 → group ≡ other → same_group ≡ cond (eqb group ((4 * rank + other) % 4)) same_group other_group
chosen-group rank group other same_group other_group l e =
    sym (cond-true (eqb group ((4 * rank + other) % 4)) same_group other_group (eq-eqb group ((4 * rank + other) % 4) (omega arith)))

pub another-group : (rank group other same_group other_group : ℕ) → other < 4 → (group ≡ other → ⊥) → other_group ≡ cond (eqb group ((4 * rank + other) % 4)) same_group other_group
another-group rank group other same_group other_group l n =
    sym (cond-false (eqb group ((4 * rank + other) % 4)) same_group other_group (ne_eqb group ((4 * rank + other) % 4) (λ e. n (omega arith))))

-- a number that no group of the bank's rank has: its cycle is that of a rank
pub apart-from-group : (bank : BankId) (same_group other_group other_rank k : ℕ) → (bank.rank ≡ k / 4 → bank.group ≡ k % 4 → ⊥)
    → ranks_until bank.rank other_group other_rank k ≡ all_groups_until bank same_group other_group other_rank k
apart-from-group bank same_group other_group other_rank k n = elim (cases_eq bank.rank (k / 4)) [
  | inl here ↦
      let in_rank = eq-eqb bank.rank (k / 4) here in
      cond-true (eqb bank.rank (k / 4)) other_group other_rank in_rank
      ∙ sym (cond-true (eqb bank.rank (k / 4)) _ other_rank in_rank ∙ cond-false (eqb bank.group (k % 4)) same_group other_group (ne_eqb bank.group (k % 4) (n here)))
  | inr other ↦
      let apart = ne_eqb bank.rank (k / 4) other in
      cond-false (eqb bank.rank (k / 4)) other_group other_rank apart ∙ sym (cond-false (eqb bank.rank (k / 4)) _ other_rank apart)
]

-- all groups are raised as their ranks are, and one of them to a cycle of its own
pub own-group : (old new : List ℕ) (bank : BankId) (same_group other_group other_rank value : ℕ) → bank.group < 4 → 4 * bank.rank + 4 ≤ length old → length new ≡ length old
    → value ≡ max (get_or old (4 * bank.rank + bank.group) 0) same_group → AreAllRaised old new (ranks_until bank.rank other_group other_rank)
    → AreAllRaised old (set new (4 * bank.rank + bank.group) value) (all_groups_until bank same_group other_group other_rank)
own-group old new bank same_group other_group other_rank value inside fits long is each k d l =
    let own = 4 * bank.rank + bank.group in
    elim (cases_eq k own) [
      | inl here ↦
          let own_rank = eq-eqb bank.rank (k / 4) (omega arith) in
          let own_place = eq-eqb bank.group (k % 4) (omega arith) in
          get_or-set_at new own k value d here (omega arith) ∙ is
          ∙ ap (λ x. max x same_group) (get_or_default old own 0 d (omega arith) ∙ ap (λ n. get_or old n d) (sym here))
          ∙ ap (max (get_or old k d)) (sym (cond-true (eqb bank.rank (k / 4)) _ other_rank own_rank ∙ cond-true (eqb bank.group (k % 4)) same_group other_group own_place))
      | inr other ↦
          get_or-set_other new own k value d other ∙ each k d l
          ∙ ap (max (get_or old k d)) (apart-from-group bank same_group other_group other_rank k (λ r g. other (omega arith)))
    ]

-- the least of three numbers
pub least-of-three : (a b c m n : ℕ) → m ≡ min a b → n ≡ min m c → (n ≤ a) × (n ≤ b) × (n ≤ c)
least-of-three a b c m n e f = (omega arith, omega arith, omega arith)

-- the words of a rank's groups are raised, and no others
pub part-of-rank : (old now : List ℕ) (rank count : ℕ) (until : ℕ → ℕ) → count ≡ 4 → ArePartRaised old now (4 * rank) count until
    → (k d : ℕ) → get_or now k d ≡ max (get_or old k d) (cond (eqb rank (k / 4)) (until k) 0)
part-of-rank old now rank count until whole raised k d = elim (cases_eq rank (k / 4)) [
  | inl here ↦
      raised.done k d (omega arith) (omega arith)
      ∙ ap (max (get_or old k d)) (sym (cond-true (eqb rank (k / 4)) (until k) 0 (eq-eqb rank (k / 4) here)))
  | inr other ↦
      let same : get_or now k d ≡ get_or old k d = elim (cases_lt k (4 * rank)) [
        | inl before ↦ raised.below k d before
        | inr from ↦ raised.left k d (omega arith)
      ] in
      let none = cond-false (eqb rank (k / 4)) (until k) 0 (ne_eqb rank (k / 4) other) in
      omega (arith, none)
]
