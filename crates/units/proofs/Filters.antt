-- A part of a list that lies within another part.
use Rattle.std.proofs.Common.{◌≡◌, Bool, true, false, ◌&&◌, List, refl, sym}
use Rattle.std.specs.Prelude.{filter}
use Rattle.sim_base.proofs.Lists.{filter-both}

implied : (a b : Bool) → (b ≡ true → a ≡ true) → b ≡ (a && b)
implied true b h = refl
implied false true h = sym (h refl)
implied false false h = refl

-- what passes a test only if it passes another can be looked for among what passes the other
pub filter-within : {X : Type 0} (p q : X → Bool) → ((x : X) → p x ≡ true → q x ≡ true) → (xs : List X) → filter p (filter q xs) ≡ filter p xs
filter-within p q h xs = sym (filter-both p q p (λ x. implied (q x) (p x) (h x)) xs)
