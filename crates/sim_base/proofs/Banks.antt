-- Banks by their numbers, and the digits of an address.
use Rattle.std.proofs.Common.{◌≡◌, ℕ, ◌<◌, ◌/◌, ◌%◌, List, [], ◌∷◌, true, eqb, sym, ◌∙◌, arith, inl, inr, mod-lt}
use Rattle.std.proofs.lemmas.Bool.{eqb-true, eq-eqb, ne_eqb, and_from, and_parts, cases_eq, cond_both, false_from_ne_true}
use Rattle.sim_base.specs.declared.config.Config.{Config}
use Rattle.sim_base.specs.declared.place.BankId.{BankId}
use Rattle.sim_base.specs.declared.place.Field.{Field}
use Rattle.sim_base.specs.Fields.{is_field}
use Rattle.sim_base.specs.Places.{is_bank, bank_at, number_of_bank, field_size, digit_of}

-- the bank with the number of a bank is that bank
pub bank_at_number : (bank : BankId) → bank.group < 4 → bank.bank < 4 → bank_at (number_of_bank bank) ≡ bank
bank_at_number bank group_in bank_in =
    let rank : number_of_bank bank / 16 ≡ bank.rank = omega arith in
    let group : number_of_bank bank / 4 % 4 ≡ bank.group = omega arith in
    let own : number_of_bank bank % 4 ≡ bank.bank = omega arith in
    λ i. record { rank = rank i; group = group i; bank = own i }

-- a bank with a number is in the rank, the group and the place that its number says
pub is_bank_parts : (bank : BankId) (k : ℕ) → is_bank (bank_at k) bank ≡ true → (k / 16 ≡ bank.rank) × (k / 4 % 4 ≡ bank.group) × (k % 4 ≡ bank.bank)
is_bank_parts bank k h =
    let outer = and_parts _ _ h in
    let inner = and_parts _ _ outer.0 in
    (eqb-true _ _ inner.0, eqb-true _ _ inner.1, eqb-true _ _ outer.1)

-- a number is that of a bank just if the bank at it is that bank
pub number_names_bank : (k : ℕ) (bank : BankId) → bank.group < 4 → bank.bank < 4 → eqb k (number_of_bank bank) ≡ is_bank (bank_at k) bank
number_names_bank k bank g b =
    elim (cases_eq k (number_of_bank bank)) [
      | inl e ↦
          let rank : k / 16 ≡ bank.rank = omega arith in
          let group : k / 4 % 4 ≡ bank.group = omega arith in
          let last : k % 4 ≡ bank.bank = omega arith in
          eq-eqb k (number_of_bank bank) e ∙ sym (and_from _ _ (and_from _ _ (eq-eqb _ _ rank) (eq-eqb _ _ group)) (eq-eqb _ _ last))
      | inr n ↦
          ne_eqb k (number_of_bank bank) n
          ∙ sym (false_from_ne_true (is_bank (bank_at k) bank) (λ e. let parts = is_bank_parts bank k e in n (omega (arith, parts.0, parts.1, parts.2))))
    ]

-- a digit of a number is less than the size of its field
pub digit_below : (s : Config) (field : Field) (fields : List Field) (x : ℕ) → 0 < field_size s field → digit_of s field fields x < field_size s field
unfolding digit_of
digit_below s field [] x h = h
digit_below s field (f ∷ fs) x h =
    cond_both (is_field field f) (x % field_size s field) (digit_of s field fs (x / field_size s f)) (λ v. v < field_size s field)
    (λ e. mod-lt x h) (λ e. digit_below s field fs (x / field_size s f) h)
