-- The tests of relations 8 and 9 decide them.
use Rattle.std.proofs.Common.{◌≡◌, ℕ, ◌<◌, Bool, true, false, not, ◌||◌, ◌==◌, List, [], ◌∷◌, map, Decides, refl, sym, All, ltb}
use Rattle.std.specs.List.{IsDistinct, AllByRecursion, list_all, list_any}
use Rattle.std.proofs.lemmas.Bool.{false≢true}
use Rattle.std.proofs.lemmas.Cmp.{nat_eq_equiv}
use Rattle.std.proofs.lemmas.Bool.Decides.{Decides-by_and, Decides-ltb, Decides-and}
use Rattle.config_reader.specs.Document.Relations.{links_differ}
use Rattle.sim_base.specs.Relations.{LinksDiffer}
use Rattle.sim_base.specs.declared.overrides.Override.{Override}

pub links_exist : (bound : ℕ) (os : List Override) → Decides (list_all (λ o. ltb o.link bound) os) (All (λ o. o.link < bound) os)
links_exist bound os =
    Decides-by_and (λ o. ltb o.link bound) (λ o. o.link < bound) (list_all (λ o. ltb o.link bound)) (λ o. Decides-ltb o.link bound) refl (λ _ _. refl) os

not_first : (a c : Bool) (Q : Type 0) → Decides (not c) Q → Decides (not (a || c)) ((a ≡ false) × Q)
not_first true c Q h = (λ e. absurd (false≢true e), λ p. absurd (false≢true (sym p.0)))
not_first false c Q h = (λ e. (refl, h.0 e), λ p. h.1 p.1)

-- no override among these is of the link
none_of : (link : ℕ) (os : List Override) → Decides (not (list_any (λ p. p.link == link) os)) (AllByRecursion (λ y. (link == y) ≡ false) (map (λ o. o.link) os))
none_of link [] = (λ _. tt, λ _. refl)
none_of link (o ∷ os) = rw (nat_eq_equiv.symm o.link link) (not_first (link == o.link) (list_any (λ p. p.link == link) os) _ (none_of link os))

pub links_apart : (os : List Override) → Decides (links_differ os) (LinksDiffer os)
unfolding IsDistinct
links_apart [] = (λ _. tt, λ _. refl)
links_apart (o ∷ os) = Decides-and (not (list_any (λ p. p.link == o.link) os)) (links_differ os) (none_of o.link os) (links_apart os)
