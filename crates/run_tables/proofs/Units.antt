-- Units that are read one after the other.
use Rattle.std.proofs.Common.{◌≡◌, ◌+◌, ◌≤◌, ◌∙◌, ◌⊎◌, ℕ, List, [], ◌∷◌, ◌++◌, length, drop, Result, Ok, refl, sym, ap, subst, arith, inl, inr, append_assoc}
use Rattle.std.specs.List.{AllByRecursion as Each, enumerate_from, flat_map}
use Rattle.sim_base.specs.declared.fault.Fault.{Fault}
use Rattle.run_tables.specs.Units.{AreRead}

-- what the items of a list give with their numbers, which count from here
abbrev pub from : {A : Type 0} → ℕ → (ℕ → A → List (List (List ℕ))) → List A → List (List (List ℕ))
from k f xs = flat_map (λ p. f p.0 p.1) (enumerate_from k xs)

-- the records of units that are read
pub rows_of_units : {A : Type 0} (u : ℕ → ℕ → Result A Fault) (size : A → ℕ) (f : ℕ → A → List (List (List ℕ))) (Fits : A → Type 0) (table : List (List (List ℕ)))
    → ((row id : ℕ) (x : A) → u row id ≡ Ok x → (drop row table ≡ f id x ++ drop (row + size x) table) × Fits x)
    → (xs : List A) (row id end : ℕ) → AreRead u size row id xs end → (drop row table ≡ from id f xs ++ drop end table) × Each Fits xs
rows_of_units u size f Fits table one [] row id end h = (ap (λ k. drop k table) (sym h), tt)
rows_of_units u size f Fits table one (x ∷ xs) row id end h =
    let first = one row id x h.0 in
    let rest = rows_of_units u size f Fits table one xs (row + size x) (id + 1) end h.1 in
    (first.0 ∙ ap (λ (t : List (List (List ℕ))). f id x ++ t) rest.0 ∙ sym (append_assoc (f id x) (from (id + 1) f xs) (drop end table)), (first.1, rest.1))

-- the units that are read, where their records stand in a table
pub units_of_rows : {A : Type 0} (u : ℕ → ℕ → Result A Fault) (size : A → ℕ) (f : ℕ → A → List (List (List ℕ))) (Fits : A → Type 0) (Ends : List (List (List ℕ)) → Type 0) (table rest : List (List (List ℕ)))
    → ((row id : ℕ) (x : A) (others : List (List (List ℕ))) → drop row table ≡ f id x ++ others → Fits x → Ends others → (u row id ≡ Ok x) × (drop (row + size x) table ≡ others))
    → ((id : ℕ) (xs : List A) → Ends (from id f xs ++ rest)) → (xs : List A) (row id : ℕ) → drop row table ≡ from id f xs ++ rest → Each Fits xs
    → (end : ℕ) × AreRead u size row id xs end × (drop end table ≡ rest)
units_of_rows u size f Fits Ends table rest one ends [] row id is fits = (row, refl, is)
units_of_rows u size f Fits Ends table rest one ends (x ∷ xs) row id is fits =
    let first = one row id x (from (id + 1) f xs ++ rest) (is ∙ append_assoc (f id x) (from (id + 1) f xs) rest) fits.0 (ends (id + 1) xs) in
    let more = units_of_rows u size f Fits Ends table rest one ends xs (row + size x) (id + 1) first.1 fits.1 in
    (more.0, (first.0, more.1), more.2)

-- one more
pub one_more : {A : Type 0} (u : ℕ → ℕ → Result A Fault) (size : A → ℕ) (xs : List A) (y : A) (row id end next : ℕ) → AreRead u size row id xs end → next ≡ id + length xs → u end next ≡ Ok y
    → AreRead u size row id (xs ++ y ∷ []) (end + size y)
one_more u size [] y row id end next h n read =
    let number : next ≡ id = omega (arith, n) in
    (sym (ap (λ k. u k next) h ∙ ap (u row) number) ∙ read, ap (λ k. k + size y) h)
one_more u size (x ∷ xs) y row id end next h n read = (h.0, one_more u size xs y (row + size x) (id + 1) end next h.1 (omega (arith, n)) read)

-- they end where they begin or later
pub end_after : {A : Type 0} (u : ℕ → ℕ → Result A Fault) (size : A → ℕ) (xs : List A) (row id end : ℕ) → AreRead u size row id xs end → row ≤ end
end_after u size [] row id end h = omega (arith, h)
end_after u size (x ∷ xs) row id end h = let after = end_after u size xs (row + size x) (id + 1) end h.1 in omega (arith, after)

-- two tables in which units are read from the same row on: those of the second begin with those of the first, or end
-- where one more can be read
abbrev pub Begins : {A : Type 0} → (ℕ → ℕ → Result A Fault) → (A → ℕ) → List A → List A → ℕ → ℕ → ℕ → Type 0
Begins v size xs ys id end last =
    ((zs : List _) × (ys ≡ xs ++ zs) × AreRead v size end (id + length xs) zs last) ⊎ ((number : ℕ) × (x : _) × (v last number ≡ Ok x))

begins_more : {A : Type 0} (v : ℕ → ℕ → Result A Fault) (size : A → ℕ) (x : A) (xs ys : List A) (id end last : ℕ) → Begins v size xs ys (id + 1) end last → Begins v size (x ∷ xs) (x ∷ ys) id end last
begins_more v size x xs ys id end last h =
    elim h [
      | inl more ↦
          let number : id + 1 + length xs ≡ id + length (x ∷ xs) = omega arith in
          inl (more.0, ap (λ (t : List _). x ∷ t) more.1, subst (λ k. AreRead v size end k more.0 last) number more.2)
      | inr one ↦ inr one
    ]

pub begins : {A : Type 0} (u v : ℕ → ℕ → Result A Fault) (size : A → ℕ) (Same : ℕ → Type 0) → ((row id end : ℕ) (x : A) → u row id ≡ Ok x → row + size x ≤ end → Same end → v row id ≡ Ok x)
    → (xs ys : List A) (row id end last : ℕ) → AreRead u size row id xs end → AreRead v size row id ys last → Same end → Begins v size xs ys id end last
begins u v size Same one [] ys row id end last h k same =
    let number : id ≡ id + 0 = omega arith in
    inl (ys, refl, subst (λ n. AreRead v size end n ys last) number (subst (λ r. AreRead v size r id ys last) (sym h) k))
begins u v size Same one (x ∷ xs) [] row id end last h k same =
    let after = end_after u size xs (row + size x) (id + 1) end h.1 in
    inr (id, x, ap (λ r. v r id) k ∙ one row id end x h.0 after same)
begins u v size Same one (x ∷ xs) (y ∷ ys) row id end last h k same =
    let after = end_after u size xs (row + size x) (id + 1) end h.1 in
    let both : Ok x ≡ Ok y = sym (one row id end x h.0 after same) ∙ k.0 in
    let item : x ≡ y = cc both in
    let rest = begins u v size Same one xs ys (row + size x) (id + 1) end last h.1 (subst (λ (z : _). AreRead v size (row + size z) (id + 1) ys last) (sym item) k.1) same in
    subst (λ (z : _). Begins v size (x ∷ xs) (z ∷ ys) id end last) item (begins_more v size x xs ys id end last rest)
