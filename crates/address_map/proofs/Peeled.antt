-- The fields of a place, peeled off a number one after the other.
use Rattle.std.proofs.Common.{◌≡◌, ℕ, ◌+◌, ◌/◌, ◌%◌, ◌<◌, ◌≤◌, true, false, List, [], ◌∷◌, length, get_or, drop, refl, inl, inr, add-one, drop-cons, arith, ◌∙◌, sym}
use Rattle.std.proofs.Math.ListN.{drop_of_length-le}
use Rattle.std.proofs.lemmas.Bool.{cases_Bool, cases_lt, cond_both}
use Rattle.sim_base.specs.declared.config.Config.{Config}
use Rattle.sim_base.specs.declared.place.Field.{Field}
use Rattle.sim_base.specs.declared.place.Field.TheVariants.{Channel, Column, Rank, Group, Bank, Row}
use Rattle.sim_base.specs.declared.place.Place.{Place}
use Rattle.sim_base.specs.Fields.{is_field}
use Rattle.sim_base.specs.Places.{digit_of, field_size, field_of, place_of}
use Rattle.sim_base.specs.PlaceRange.{PlaceInRange}
use Rattle.sim_base.proofs.Banks.{digit_below}
use Rattle.address_map.specs.Digits.{value_of, with_value}
use Rattle.address_map.proofs.Fields.{is_field-same, value_of-with_same, value_of-with_other, count_of, count_of-here, count_of-later}

-- a place with the values that these fields have in a number
unfoldable pub peeled : Config → Place → List Field → ℕ → Place
peeled s p [] x = p
peeled s p (f ∷ fs) x = peeled s (with_value p f (x % field_size s f)) fs (x / field_size s f)

pub peeled-step : (s : Config) (p : Place) (fs : List Field) (i x : ℕ) (d : Field) → i < length fs
    → peeled s p (drop i fs) x ≡ peeled s (with_value p (get_or fs i d) (x % field_size s (get_or fs i d))) (drop (i + 1) fs) (x / field_size s (get_or fs i d))
unfolding peeled
peeled-step s p fs i x d h = rw (drop-cons fs i d h, add-one) refl

pub peeled-end : (s : Config) (p : Place) (fs : List Field) (i x : ℕ) → length fs ≤ i → peeled s p (drop i fs) x ≡ p
unfolding peeled
peeled-end s p fs i x h = rw (drop_of_length-le fs h) refl

-- a field that is not there
pub digit_of-none : (s : Config) (g : Field) (fs : List Field) (x : ℕ) → count_of g fs ≡ 0 → digit_of s g fs x ≡ 0
unfolding digit_of
digit_of-none s g [] x h = refl
digit_of-none s g (f ∷ fs) x h =
    cond_both (is_field g f) (x % field_size s g) (digit_of s g fs (x / field_size s f)) (λ v. v ≡ 0)
    (λ e. absurd (omega (arith, count_of-here g f fs e)))
    (λ e. digit_of-none s g fs (x / field_size s f) (omega (arith, count_of-later g f fs e)))

pub digit_of-here : (s : Config) (g f : Field) (fs : List Field) (x : ℕ) → is_field g f ≡ true → digit_of s g (f ∷ fs) x ≡ x % field_size s g
unfolding digit_of
digit_of-here s g f fs x h = rw h refl

pub digit_of-later : (s : Config) (g f : Field) (fs : List Field) (x : ℕ) → is_field g f ≡ false → digit_of s g (f ∷ fs) x ≡ digit_of s g fs (x / field_size s f)
unfolding digit_of
digit_of-later s g f fs x h = rw h refl

-- a field that is not there keeps its value
value_of-peeled_none : (s : Config) (p : Place) (g : Field) (fs : List Field) (x : ℕ) → count_of g fs ≡ 0 → value_of (peeled s p fs x) g ≡ value_of p g
unfolding peeled
value_of-peeled_none s p g [] x h = refl
value_of-peeled_none s p g (f ∷ fs) x h =
    elim (cases_Bool (is_field g f)) [
      | inl e ↦ absurd (omega (arith, count_of-here g f fs e))
      | inr e ↦
          value_of-peeled_none s (with_value p f (x % field_size s f)) g fs (x / field_size s f) (omega (arith, count_of-later g f fs e))
          ∙ value_of-with_other p g f (x % field_size s f) e
    ]

-- a field that stands there once has its digit
value_of-peeled_one : (s : Config) (p : Place) (g : Field) (fs : List Field) (x : ℕ) → count_of g fs ≡ 1 → value_of (peeled s p fs x) g ≡ digit_of s g fs x
unfolding peeled
value_of-peeled_one s p g [] x h = absurd (omega (arith, h))
value_of-peeled_one s p g (f ∷ fs) x h =
    elim (cases_Bool (is_field g f)) [
      | inl e ↦
          let k : value_of (peeled s (with_value p f (x % field_size s f)) fs (x / field_size s f)) g ≡ value_of (with_value p f (x % field_size s f)) g
          = value_of-peeled_none s (with_value p f (x % field_size s f)) g fs (x / field_size s f) (omega (arith, count_of-here g f fs e)) in
          let same : g ≡ f = is_field-same g f e in
          cc (value_of-with_same p f (x % field_size s f), digit_of-here s g f fs x e)
      | inr e ↦
          value_of-peeled_one s (with_value p f (x % field_size s f)) g fs (x / field_size s f) (omega (arith, count_of-later g f fs e))
          ∙ sym (digit_of-later s g f fs x e)
    ]

-- a field of a place that began at 0
value_of-peeled : (s : Config) (p : Place) (g : Field) (fs : List Field) (x : ℕ) → count_of g fs ≤ 1 → value_of p g ≡ 0 → value_of (peeled s p fs x) g ≡ digit_of s g fs x
value_of-peeled s p g fs x h z =
    elim (cases_lt 0 (count_of g fs)) [
      | inl e ↦ value_of-peeled_one s p g fs x (omega arith)
      | inr e ↦ value_of-peeled_none s p g fs x (omega arith) ∙ (z ∙ sym (digit_of-none s g fs x (omega arith)))
    ]

pub same_place : (p q : Place) → p.channel ≡ q.channel → p.rank ≡ q.rank → p.group ≡ q.group → p.bank ≡ q.bank → p.row ≡ q.row → p.column ≡ q.column → p ≡ q
same_place p q a b c d e f = λ i. record { channel = a i; rank = b i; group = c i; bank = d i; row = e i; column = f i }

-- the place where all values are 0
abbrev pub origin : Place
origin = record { channel = 0; rank = 0; group = 0; bank = 0; row = 0; column = 0 }

-- what is peeled off the number of an address's line is its place
pub peeled-origin : (s : Config) (address : ℕ) → peeled s origin s.fields (address / 64) ≡ place_of s address
unfolding place_of field_of
peeled-origin s address =
    same_place _ _
    (value_of-peeled s origin Channel s.fields (address / 64) (omega (arith, s.fields_in_order.channel)) refl)
    (value_of-peeled s origin Rank s.fields (address / 64) (omega (arith, s.fields_in_order.rank)) refl)
    (value_of-peeled s origin Group s.fields (address / 64) (omega (arith, s.fields_in_order.group)) refl)
    (value_of-peeled s origin Bank s.fields (address / 64) (omega (arith, s.fields_in_order.bank)) refl)
    (value_of-peeled s origin Row s.fields (address / 64) (omega (arith, s.fields_in_order.row)) refl)
    (value_of-peeled s origin Column s.fields (address / 64) (omega (arith, s.fields_in_order.column)) refl)

pub size-positive : (s : Config) (f : Field) → 0 < field_size s f
size-positive s Channel = omega (arith, s.machine_in_range)
size-positive s Column = omega (arith, s.memory_in_range)
size-positive s Rank = omega (arith, s.memory_in_range)
size-positive s Group = omega (arith, s.memory_in_range)
size-positive s Bank = omega arith
size-positive s Row = omega (arith, s.memory_in_range)

-- a digit of a number is less than the size of its field
pub digit_of-below : (s : Config) (g : Field) (fs : List Field) (x : ℕ) → digit_of s g fs x < field_size s g
digit_of-below s g fs x = digit_below s g fs x (size-positive s g)

-- each address lies in the memory
pub place_of-in_range : (s : Config) (address : ℕ) → PlaceInRange s (place_of s address)
unfolding place_of field_of
place_of-in_range s address = record {
  channel = digit_of-below s Channel s.fields (address / 64);
  rank = digit_of-below s Rank s.fields (address / 64);
  group = digit_of-below s Group s.fields (address / 64);
  bank = digit_of-below s Bank s.fields (address / 64);
  row = digit_of-below s Row s.fields (address / 64);
  column = digit_of-below s Column s.fields (address / 64);
}
