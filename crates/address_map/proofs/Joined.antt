-- The number of which a place's values are the digits: its digits, how small it is, and its size.
use Rattle.std.proofs.Common.{◌≡◌, ℕ, suc, ◌+◌, ◌*◌, ◌/◌, ◌%◌, ◌^◌, ◌<◌, ◌≤◌, cond, List, [], ◌∷◌, length, get_or, drop, refl, inl, inr, add-one, drop-cons, arith, ◌∙◌, sym, ap}
use Rattle.std.proofs.Math.ListN.{drop_of_length-le}
use Rattle.std.proofs.Math.Nat.{mul_assoc, mul_comm, le-mul_of_pos_right, mul-suc, mul-add, pow-le-pow_right}
use Rattle.std.proofs.lemmas.Bool.{cases_Bool, cases_lt}
use Rattle.std.proofs.lemmas.List.Sums.{sum_by-cons}
use Rattle.std.proofs.lemmas.Nat.{div-mul-add, mod-mul-add, div-add-mod', mul-le, pow-add, pow_pos}
use Rattle.std.specs.Prelude.{sum_by}
use Rattle.sim_base.specs.declared.config.Config.{Config}
use Rattle.sim_base.specs.declared.place.Field.{Field}
use Rattle.sim_base.specs.declared.place.Field.TheVariants.{Channel, Column, Rank, Group, Bank, Row}
use Rattle.sim_base.specs.declared.place.Place.{Place}
use Rattle.sim_base.specs.Fields.{is_field}
use Rattle.sim_base.specs.Places.{digit_of, field_size, field_of, place_of}
use Rattle.sim_base.specs.PlaceRange.{PlaceInRange}
use Rattle.address_map.specs.Digits.{value_of, number_of}
use Rattle.address_map.proofs.Fields.{is_field-self, is_field-same, count_of, count_of-here, count_of-later}
use Rattle.address_map.proofs.Peeled.{same_place, digit_of-none, digit_of-here, digit_of-later}

pub number_of-step : (s : Config) (p : Place) (fs : List Field) (i : ℕ) (d : Field) → i < length fs
    → number_of s p (drop i fs) ≡ number_of s p (drop (i + 1) fs) * field_size s (get_or fs i d) + value_of p (get_or fs i d)
unfolding number_of
number_of-step s p fs i d h = rw (drop-cons fs i d h, add-one) refl

pub number_of-end : (s : Config) (p : Place) (fs : List Field) (i : ℕ) → length fs ≤ i → number_of s p (drop i fs) ≡ 0
unfolding number_of
number_of-end s p fs i h = rw (drop_of_length-le fs h) refl

pub value_of-below : (s : Config) (p : Place) → PlaceInRange s p → (g : Field) → value_of p g < field_size s g
value_of-below s p h Channel = h.channel
value_of-below s p h Column = h.column
value_of-below s p h Rank = h.rank
value_of-below s p h Group = h.group
value_of-below s p h Bank = h.bank
value_of-below s p h Row = h.row

-- the digits are the values
digit_of-number : (s : Config) (p : Place) (g : Field) (fs : List Field) → PlaceInRange s p → 0 < count_of g fs → digit_of s g fs (number_of s p fs) ≡ value_of p g
unfolding number_of
digit_of-number s p g [] h k = absurd (omega arith)
digit_of-number s p g (f ∷ fs) h k =
    elim (cases_Bool (is_field g f)) [
      | inl e ↦
          let same : g ≡ f = is_field-same g f e in
          let low = mod-mul-add (number_of s p fs) (field_size s f) (value_of p f) (value_of-below s p h f) in
          cc (digit_of-here s g f fs (number_of s p fs * field_size s f + value_of p f) e, low)
      | inr e ↦
          digit_of-later s g f fs (number_of s p fs * field_size s f + value_of p f) e
          ∙ (ap (digit_of s g fs) (div-mul-add (number_of s p fs) (field_size s f) (value_of p f) (value_of-below s p h f))
          ∙ digit_of-number s p g fs h (omega (arith, count_of-later g f fs e)))
    ]

-- where each field stands once at most, a number with these digits is no less
number_of-least : (s : Config) (p : Place) (fs : List Field) (x : ℕ) → ((g : Field) → count_of g fs ≤ 1) → ((g : Field) → 0 < count_of g fs → digit_of s g fs x ≡ value_of p g) → number_of s p fs ≤ x
unfolding number_of
number_of-least s p [] x once h = omega arith
number_of-least s p (f ∷ fs) x once h =
    let here = count_of-here f f fs (is_field-self f) in
    let low : value_of p f ≡ x % field_size s f = sym (h f (omega (arith, here))) ∙ digit_of-here s f f fs x (is_field-self f) in
    let rest : number_of s p fs ≤ x / field_size s f
    = number_of-least s p fs (x / field_size s f) (λ g. once_later g)
    (λ g k. elim (cases_Bool (is_field g f)) [
      | inl e ↦ absurd (omega (arith, count_of-here g f fs e, once g))
      | inr e ↦ sym (digit_of-later s g f fs x e) ∙ h g (omega (arith, count_of-later g f fs e))
    ]) in
    let high : number_of s p fs * field_size s f ≤ x / field_size s f * field_size s f = mul-le _ _ _ _ rest (omega arith) in
    rw low (omega (arith, div-add-mod' x (field_size s f)))
  where
    once_later : (g : Field) → count_of g fs ≤ 1
    once_later g = elim (cases_Bool (is_field g f)) [
      | inl e ↦ omega (arith, count_of-here g f fs e, once g)
      | inr e ↦ omega (arith, count_of-later g f fs e, once g)
    ]

-- each field stands in the order once at most
once_at_most : (s : Config) (g : Field) → count_of g s.fields ≤ 1
once_at_most s Channel = omega (arith, s.fields_in_order.channel)
once_at_most s Column = omega (arith, s.fields_in_order.column)
once_at_most s Rank = omega (arith, s.fields_in_order.rank)
once_at_most s Group = omega (arith, s.fields_in_order.group)
once_at_most s Bank = omega (arith, s.fields_in_order.bank)
once_at_most s Row = omega (arith, s.fields_in_order.row)

-- a field that is not there has the value 0 alone
absent-value : (s : Config) (p : Place) (g : Field) → PlaceInRange s p → count_of g s.fields ≡ 0 → value_of p g ≡ 0
absent-value s p Channel h k = absurd (omega (arith, s.fields_in_order.channel))
absent-value s p Column h k = absurd (omega (arith, s.fields_in_order.column))
absent-value s p Rank h k =
    elim (cases_lt 1 s.ranks) [
      | inl e ↦ absurd (omega (arith, s.ranks_have_field e))
      | inr e ↦ omega (arith, h.rank)
    ]
absent-value s p Group h k = absurd (omega (arith, s.fields_in_order.group))
absent-value s p Bank h k = absurd (omega (arith, s.fields_in_order.bank))
absent-value s p Row h k = absurd (omega (arith, s.fields_in_order.row))

-- each field of the address has its value
field_of-joined : (s : Config) (p : Place) (g : Field) → PlaceInRange s p → field_of s (64 * number_of s p s.fields) g ≡ value_of p g
unfolding field_of
field_of-joined s p g h =
    let n = number_of s p s.fields in
    let e : 64 * n / 64 ≡ n = omega arith in
    rw e
    (elim (cases_lt 0 (count_of g s.fields)) [
      | inl k ↦ digit_of-number s p g s.fields h k
      | inr k ↦
          let none : count_of g s.fields ≡ 0 = omega arith in
          digit_of-none s g s.fields n none ∙ sym (absent-value s p g h none)
    ])

pub place_of-joined : (s : Config) (p : Place) → PlaceInRange s p → place_of s (64 * number_of s p s.fields) ≡ p
unfolding place_of
place_of-joined s p h =
    same_place _ _ (field_of-joined s p Channel h) (field_of-joined s p Rank h) (field_of-joined s p Group h) (field_of-joined s p Bank h) (field_of-joined s p Row h) (field_of-joined s p Column h)

-- the values of a place are the fields of an address that lies there
fields_at : (s : Config) (a : ℕ) (g : Field) → value_of (place_of s a) g ≡ field_of s a g
unfolding place_of
fields_at s a Channel = refl
fields_at s a Column = refl
fields_at s a Rank = refl
fields_at s a Group = refl
fields_at s a Bank = refl
fields_at s a Row = refl

digits_at : (s : Config) (p : Place) (a : ℕ) → place_of s a ≡ p → (g : Field) → digit_of s g s.fields (a / 64) ≡ value_of p g
unfolding field_of
digits_at s p a e g = sym (fields_at s a g) ∙ ap (λ q. value_of q g) e

pub joined-least : (s : Config) (p : Place) (a : ℕ) → place_of s a ≡ p → 64 * number_of s p s.fields ≤ a
joined-least s p a e =
    let k : number_of s p s.fields ≤ a / 64 = number_of-least s p s.fields (a / 64) (once_at_most s) (λ g _. digits_at s p a e g) in
    omega arith

-- how many bits of a number a field takes at most
abbrev pub width_of : Field → ℕ
width_of Channel = 4
width_of Column = 10
width_of Rank = 2
width_of Group = 2
width_of Bank = 2
width_of Row = 18

abbrev pub width_of_all : List Field → ℕ
width_of_all fs = sum_by width_of fs

-- how many numbers these fields have room for
unfoldable pub room : List Field → ℕ
room fs = 2 ^ width_of_all fs

pub field_size-room : (s : Config) (f : Field) → field_size s f ≤ 2 ^ width_of f
field_size-room s Channel = omega (arith, s.machine_in_range)
field_size-room s Column = omega (arith, s.memory_in_range)
field_size-room s Rank = omega (arith, s.memory_in_range)
field_size-room s Group = omega (arith, s.memory_in_range)
field_size-room s Bank = omega arith
field_size-room s Row = omega (arith, s.memory_in_range)

one_of : Field → Field → ℕ
one_of g f = cond (is_field g f) 1 0

width_of-counts : (f : Field) → width_of f ≡ 4 * one_of Channel f + 10 * one_of Column f + 2 * one_of Rank f + 2 * one_of Group f + 2 * one_of Bank f + 18 * one_of Row f
unfolding one_of
width_of-counts Channel = refl
width_of-counts Column = refl
width_of-counts Rank = refl
width_of-counts Group = refl
width_of-counts Bank = refl
width_of-counts Row = refl

count_of-cons : (g f : Field) (fs : List Field) → count_of g (f ∷ fs) ≡ one_of g f + count_of g fs
unfolding one_of
count_of-cons g f fs = sum_by-cons (λ x. cond (is_field g x) 1 0) f fs

width_of_all-counts : (fs : List Field)
    → width_of_all fs ≡ 4 * count_of Channel fs + 10 * count_of Column fs + 2 * count_of Rank fs + 2 * count_of Group fs + 2 * count_of Bank fs + 18 * count_of Row fs
width_of_all-counts [] = refl
width_of_all-counts (f ∷ fs) =
    let a = width_of_all-counts fs in
    let b = width_of-counts f in
    omega (arith, sum_by-cons width_of f fs, count_of-cons Channel f fs, count_of-cons Column f fs, count_of-cons Rank f fs, count_of-cons Group f fs, count_of-cons Bank f fs, count_of-cons Row f fs)

-- the fields of an address take no more than 38 bits
pub width_of_all-most : (s : Config) → width_of_all s.fields ≤ 38
width_of_all-most s =
    omega (arith, width_of_all-counts s.fields, once_at_most s Channel, once_at_most s Column, once_at_most s Rank, once_at_most s Group, once_at_most s Bank, once_at_most s Row)

pub room-all : (s : Config) → room s.fields ≤ 2 ^ 38
unfolding room
room-all s = pow-le-pow_right {n = 2} (omega arith) {i = width_of_all s.fields} {j = 38} (width_of_all-most s)

pub room-step : (fs : List Field) (i : ℕ) (d : Field) → i < length fs → room (drop i fs) ≡ 2 ^ width_of (get_or fs i d) * room (drop (i + 1) fs)
unfolding room
room-step fs i d h =
    rw (drop-cons fs i d h, add-one)
    (ap (λ n. 2 ^ n) (sum_by-cons width_of (get_or fs i d) (drop (suc i) fs)) ∙ pow-add 2 (width_of (get_or fs i d)) (width_of_all (drop (suc i) fs)))

pub room-positive : (fs : List Field) → 0 < room fs
unfolding room
room-positive fs = pow_pos (width_of_all fs)

-- One field more: the sum stays below the scale of the next field, and there is room for the fields that are left.
pub record HasAdded (address scale value size rest : ℕ) : Type 0 where
  pub below : address + scale * value < scale * size
  pub fits : scale * size * rest ≤ 2 ^ 44
  pub small : scale * size ≤ 2 ^ 44

has_added : (address scale value size all rest : ℕ) → address < scale → value < size → size * rest ≤ all → 0 < rest → scale * all ≤ 2 ^ 44 → HasAdded address scale value size rest
has_added address scale value size all rest a v r p h =
    let up : scale * suc value ≤ scale * size = mul-le scale (suc value) scale size (omega arith) v in
    let one : scale * suc value ≡ scale * value + scale = mul-suc scale value in
    let inner : scale * (size * rest) ≤ scale * all = mul-le scale (size * rest) scale all (omega arith) r in
    let move : scale * size * rest ≡ scale * (size * rest) = mul_assoc scale size rest in
    let grow : scale * size ≤ scale * size * rest = le-mul_of_pos_right (scale * size) p in
    record { below = omega arith; fits = omega arith; small = omega arith }

pub one_more : (s : Config) (p : Place) (fs : List Field) (i : ℕ) (d : Field) (address scale : ℕ) → PlaceInRange s p → i < length fs
    → address < scale → scale * room (drop i fs) ≤ 2 ^ 44
    → HasAdded address scale (value_of p (get_or fs i d)) (field_size s (get_or fs i d)) (room (drop (i + 1) fs))
one_more s p fs i d address scale h inside below fits =
    let f = get_or fs i d in
    has_added address scale (value_of p f) (field_size s f) (room (drop i fs)) (room (drop (i + 1) fs)) below (value_of-below s p h f)
    (rw (room-step fs i d inside) (mul-le (field_size s f) (room (drop (i + 1) fs)) (2 ^ width_of f) (room (drop (i + 1) fs)) (field_size-room s f) (omega arith)))
    (room-positive (drop (i + 1) fs)) fits

-- the sum with what is left of the number stays the same
pub sum-step : (address scale n size value : ℕ) → address + scale * (n * size + value) ≡ address + scale * value + scale * size * n
sum-step address scale n size value =
    let apart : scale * (n * size + value) ≡ scale * (n * size) + scale * value = mul-add scale (n * size) value in
    let added : scale * (n * size) ≡ scale * size * n = ap (λ m. scale * m) (mul_comm n size) ∙ sym (mul_assoc scale size n) in
    omega arith
