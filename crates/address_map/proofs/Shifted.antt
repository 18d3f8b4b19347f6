-- Where a field stands in a line's number: behind as many bits as the fields before it take.
use Rattle.std.proofs.Common.{◌≡◌, ℕ, suc, ◌+◌, ◌-◌, ◌/◌, ◌%◌, ◌^◌, ◌<◌, ◌≤◌, true, false, [], ◌∷◌, length, get_or, drop, refl, add-one, drop-cons, arith, ◌∙◌, sym, ap, ⊎_elim}
use Rattle.std.specs.Prelude.{IsTrue, bit_and}
use Rattle.std.specs.Int.{is_power_of_two}
use Rattle.std.specs.Int.Count.{ones}
use Rattle.std.proofs.Math.ListN.{drop_of_length-le}
use Rattle.std.proofs.lemmas.Bool.{cases_lt}
use Rattle.std.proofs.lemmas.List.Sums.{sum_by-cons}
use Rattle.std.proofs.lemmas.Nat.{and_mask, and_le_r, shr-shr, pow_below}
use Rattle.sim_base.specs.declared.config.Config.{Config}
use Rattle.sim_base.specs.declared.place.Field.{Field}
use Rattle.sim_base.specs.declared.place.Field.TheVariants.{Channel, Column, Rank, Group, Bank, Row}
use Rattle.sim_base.specs.Fields.{is_field}
use Rattle.sim_base.specs.Places.{digit_of, field_size}
use Rattle.address_map.proofs.Fields.{is_field-same}
use Rattle.address_map.proofs.Joined.{width_of, width_of_all, width_of_all-most, field_size-room}
use Rattle.address_map.proofs.Peeled.{digit_of-here, digit_of-later}

pub is_power : (s : Config) (f : Field) → IsTrue (is_power_of_two (field_size s f))
unfolding ones
is_power s Channel = s.machine_in_range.channels_in.1
is_power s Column = s.memory_in_range.columns_in.1
is_power s Rank = s.memory_in_range.ranks_in.1
is_power s Group = s.memory_in_range.groups_in.1
is_power s Bank = refl
is_power s Row = s.memory_in_range.rows_in.1

-- the bits before a field, and those from it on
pub record IsBehind (s : Config) (field : Field) (i shift : ℕ) : Type 0 where
  pub within : shift + width_of_all (drop i s.fields) ≤ 38
  pub same : (line : ℕ) → digit_of s field (drop i s.fields) (line / 2 ^ shift) ≡ digit_of s field s.fields line

pub behind-none : (s : Config) (field : Field) → IsBehind s field 0 0
behind-none s field = record {
  within = omega (arith, width_of_all-most s);
  same = λ line. let whole : line / 1 ≡ line = omega arith in ap (digit_of s field s.fields) whole;
}

-- a field takes as many bits as it has at most
pub width-most : (s : Config) (f : Field) (width : ℕ) → field_size s f ≡ 2 ^ width → width ≤ width_of f
width-most s f width e =
    ⊎_elim (λ l. let far = pow_below (width_of f) width l in absurd (omega (arith, e, far, field_size-room s f))) (λ g. g) (cases_lt (width_of f) width)

pub width-small : (s : Config) (f : Field) (width : ℕ) → field_size s f ≡ 2 ^ width → width < 32
width-small s f width e = omega (arith, width-most s f width e, width_of-small f)
  where
    width_of-small : (g : Field) → width_of g < 32
    width_of-small Channel = omega arith
    width_of-small Column = omega arith
    width_of-small Rank = omega arith
    width_of-small Group = omega arith
    width_of-small Bank = omega arith
    width_of-small Row = omega arith

pub behind-fits : (s : Config) (field : Field) (i shift width : ℕ) (d : Field) → IsBehind s field i shift → i < length s.fields → field_size s (get_or s.fields i d) ≡ 2 ^ width
    → shift + width ≤ 38
behind-fits s field i shift width d h inside e =
    let f = get_or s.fields i d in
    let cons : width_of_all (drop i s.fields) ≡ width_of f + width_of_all (drop (suc i) s.fields) = ap width_of_all (drop-cons s.fields i d inside) ∙ sum_by-cons width_of f (drop (suc i) s.fields) in
    omega (arith, h.within, cons, width-most s f width e)

pub behind-one_more : (s : Config) (field : Field) (i shift width : ℕ) (d : Field) → IsBehind s field i shift → i < length s.fields → field_size s (get_or s.fields i d) ≡ 2 ^ width
    → is_field field (get_or s.fields i d) ≡ false → IsBehind s field (i + 1) (shift + width)
behind-one_more s field i shift width d h inside e other =
    let f = get_or s.fields i d in
    let cut : drop i s.fields ≡ f ∷ drop (i + 1) s.fields = drop-cons s.fields i d inside ∙ ap (λ k. f ∷ drop k s.fields) (sym (add-one i)) in
    let cons : width_of_all (drop i s.fields) ≡ width_of f + width_of_all (drop (i + 1) s.fields) = ap width_of_all cut ∙ sum_by-cons width_of f (drop (i + 1) s.fields) in
    record {
      within = omega (arith, h.within, cons, width-most s f width e);
      same = λ line.
          ap (digit_of s field (drop (i + 1) s.fields)) (sym (shr-shr line shift width) ∙ ap (λ n. line / 2 ^ shift / n) (sym e))
          ∙ sym (digit_of-later s field f (drop (i + 1) s.fields) (line / 2 ^ shift) other)
          ∙ ap (λ fs. digit_of s field fs (line / 2 ^ shift)) (sym cut)
          ∙ h.same line;
    }

pub behind-here : (s : Config) (field : Field) (i shift width : ℕ) (d : Field) → IsBehind s field i shift → i < length s.fields → field_size s (get_or s.fields i d) ≡ 2 ^ width
    → is_field field (get_or s.fields i d) ≡ true → (line : ℕ) → bit_and (line / 2 ^ shift) (2 ^ width - 1) ≡ digit_of s field s.fields line
behind-here s field i shift width d h inside e here line =
    let f = get_or s.fields i d in
    let cut : drop i s.fields ≡ f ∷ drop (suc i) s.fields = drop-cons s.fields i d inside in
    let size : field_size s field ≡ 2 ^ width = ap (field_size s) (is_field-same field f here) ∙ e in
    and_mask (line / 2 ^ shift) width
    ∙ ap (λ n. line / 2 ^ shift % n) (sym size)
    ∙ sym (digit_of-here s field f (drop (suc i) s.fields) (line / 2 ^ shift) here)
    ∙ ap (λ fs. digit_of s field fs (line / 2 ^ shift)) (sym cut)
    ∙ h.same line

pub behind-all : (s : Config) (field : Field) (i shift : ℕ) → IsBehind s field i shift → length s.fields ≤ i → (line : ℕ) → bit_and (line / 2 ^ 0) 0 ≡ digit_of s field s.fields line
unfolding digit_of
behind-all s field i shift h out line =
    let none : bit_and (line / 2 ^ 0) 0 ≡ 0 = omega (arith, and_le_r (line / 2 ^ 0) 0) in
    let end : drop i s.fields ≡ [] = drop_of_length-le s.fields out in
    none ∙ ap (λ fs. digit_of s field fs (line / 2 ^ shift)) (sym end) ∙ h.same line
