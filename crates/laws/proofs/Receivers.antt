-- The unit to which a message is sent.
use Rattle.std.proofs.Common.{◌≡◌, ℕ, ◌+◌, ◌*◌, ◌%◌, ◌/◌, ◌<◌, Bool, true, false, eqb, List, [], ◌∷◌, ap, ◌∙◌, arith}
use Rattle.std.specs.Prelude.{filter}
use Rattle.std.specs.List.{AllByRecursion as Each}
use Rattle.std.proofs.lemmas.Bool.{cond_both, cond-true, cond-false}
use Rattle.std.proofs.lemmas.Bool.Decides.{nat_tests}
use Rattle.std.proofs.lemmas.Nat.{div-mul-add, mod-mul-add}
use Rattle.sim_base.specs.declared.config.Config.{Config}
use Rattle.sim_base.specs.Config.{request_link, reply_link, credit_link}
use Rattle.sim_base.specs.Places.{field_of, place_of}
use Rattle.sim_base.specs.History.{receiver}
use Rattle.sim_base.specs.declared.message.Unit.TheVariants.{Core, Channel}
use Rattle.sim_base.specs.declared.place.Field.TheVariants as field
use Rattle.sim_base.proofs.Banks.{digit_below}
use Rattle.sim_base.proofs.Grows.{has_channels}

pub receiver_request : (s : Config) (c k : ℕ) → k < s.channels → receiver s (request_link s c k) ≡ Channel k
receiver_request s c k l =
    let x = c * s.channels + k in
    let e : eqb ((3 * x) % 3) 0 ≡ true = grind (arith, nat_tests) in
    let f : (3 * x) / 3 ≡ x = omega arith in
    cond-true _ _ _ e ∙ ap (λ y. Channel (y % s.channels)) f ∙ ap Channel (mod-mul-add c s.channels k l)

pub receiver_reply : (s : Config) (c k : ℕ) → k < s.channels → receiver s (reply_link s c k) ≡ Core c
receiver_reply s c k l =
    let x = c * s.channels + k in
    let e : eqb ((3 * x + 1) % 3) 0 ≡ false = grind (arith, nat_tests) in
    let f : (3 * x + 1) / 3 ≡ x = omega arith in
    cond-false _ _ _ e ∙ ap (λ y. Core (y / s.channels)) f ∙ ap Core (div-mul-add c s.channels k l)

pub receiver_credit : (s : Config) (c k : ℕ) → k < s.channels → receiver s (credit_link s c k) ≡ Core c
receiver_credit s c k l =
    let x = c * s.channels + k in
    let e : eqb ((3 * x + 2) % 3) 0 ≡ false = grind (arith, nat_tests) in
    let f : (3 * x + 2) / 3 ≡ x = omega arith in
    cond-false _ _ _ e ∙ ap (λ y. Core (y / s.channels)) f ∙ ap Core (div-mul-add c s.channels k l)

-- an address lies in a channel of the machine
pub place_in : (s : Config) (address : ℕ) → (place_of s address).channel < s.channels
unfolding place_of field_of
place_in s address = digit_below s field.Channel s.fields _ (has_channels s)

-- what is left passes the test
pub Each-filter_passes : {X : Type 0} (P : X → Type 0) (p : X → Bool) (xs : List X) → Each P xs → Each (λ x. (p x ≡ true) × P x) (filter p xs)
Each-filter_passes P p [] h = tt
Each-filter_passes P p (x ∷ xs) h =
    cond_both (p x) _ _ (Each (λ x. (p x ≡ true) × P x)) (λ e. ((e, h.0), Each-filter_passes P p xs h.1)) (λ e. Each-filter_passes P p xs h.1)
