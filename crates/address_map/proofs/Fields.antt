-- Fields, their values in a place, and how often each stands in an order.
use Rattle.std.proofs.Common.{◌≡◌, ℕ, ◌+◌, true, false, List, ◌∷◌, refl, cond, ◌∙◌, ap}
use Rattle.std.specs.Prelude.{count_by}
use Rattle.std.proofs.lemmas.List.Sums.{sum_by-cons}
use Rattle.std.proofs.lemmas.Bool.{cond-true, cond-false}
use Rattle.sim_base.specs.declared.place.Field.{Field}
use Rattle.sim_base.specs.declared.place.Field.TheVariants.{Channel, Column, Rank, Group, Bank, Row}
use Rattle.sim_base.specs.declared.place.Place.{Place}
use Rattle.sim_base.specs.Fields.{is_field}
use Rattle.address_map.specs.Digits.{value_of, with_value}

pub is_field-self : (f : Field) → is_field f f ≡ true
is_field-self Channel = refl
is_field-self Column = refl
is_field-self Rank = refl
is_field-self Group = refl
is_field-self Bank = refl
is_field-self Row = refl

pub is_field-same : (g f : Field) → is_field g f ≡ true → g ≡ f
is_field-same Channel Channel h = refl
is_field-same Column Column h = refl
is_field-same Rank Rank h = refl
is_field-same Group Group h = refl
is_field-same Bank Bank h = refl
is_field-same Row Row h = refl
is_field-same _ _ h = cc h

pub value_of-with_same : (p : Place) (f : Field) (v : ℕ) → value_of (with_value p f v) f ≡ v
value_of-with_same p Channel v = refl
value_of-with_same p Column v = refl
value_of-with_same p Rank v = refl
value_of-with_same p Group v = refl
value_of-with_same p Bank v = refl
value_of-with_same p Row v = refl

pub value_of-with_other : (p : Place) (g f : Field) (v : ℕ) → is_field g f ≡ false → value_of (with_value p f v) g ≡ value_of p g
value_of-with_other p Channel Channel v h = cc h
value_of-with_other p Column Column v h = cc h
value_of-with_other p Rank Rank v h = cc h
value_of-with_other p Group Group v h = cc h
value_of-with_other p Bank Bank v h = cc h
value_of-with_other p Row Row v h = cc h
value_of-with_other p _ _ v h = refl

-- how often a field stands in an order
abbrev pub count_of : Field → List Field → ℕ
count_of g fs = count_by (is_field g) fs

pub count_of-here : (g f : Field) (fs : List Field) → is_field g f ≡ true → count_of g (f ∷ fs) ≡ 1 + count_of g fs
count_of-here g f fs h = sum_by-cons (λ x. cond (is_field g x) 1 0) f fs ∙ ap (λ n. n + count_of g fs) (cond-true (is_field g f) 1 0 h)

pub count_of-later : (g f : Field) (fs : List Field) → is_field g f ≡ false → count_of g (f ∷ fs) ≡ 0 + count_of g fs
count_of-later g f fs h = sum_by-cons (λ x. cond (is_field g x) 1 0) f fs ∙ ap (λ n. n + count_of g fs) (cond-false (is_field g f) 1 0 h)
