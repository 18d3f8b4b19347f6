-- A row that breaks no rule, all of them taken at once, breaks none by its number.
use Rattle.std.proofs.Common.{◌≡◌, ℕ, ◌∙◌, ◌&&◌, ◌==◌, Bool, true, false, not, cond, List, [], ◌∷◌, Option, Some, None, refl, ap}
use Rattle.std.specs.Prelude.{find}
use Rattle.std.specs.List.{list_any}
use Rattle.std.proofs.lemmas.Bool.{not-true, and_parts, or_parts, or_from, and_right}
use Rattle.sim_base.specs.declared.config.Config.{Config}
use Rattle.sim_base.specs.declared.rule.Rule.{Rule}
use Rattle.sim_base.specs.declared.command.IssuedCommand.{IssuedCommand}
use Rattle.rule_check.specs.Broken.{stands_wrongly}
use Rattle.rule_check.specs.Kept.{is_too_soon, comes_too_soon, keeps_each, kept_breaks_distance, kept_breaks}
use Rattle.rule_check.specs.Past.{past_breaks}
use Rattle.rule_check.specs.declared.state.Channel.{Channel}

neither : (b : Bool) (x y : Bool) → x ≡ false → y ≡ false → cond b x y ≡ false
neither true x y h k = h
neither false x y h k = k

-- what holds of none holds of none together with a test
fewer : (p a : Rule → Bool) (rs : List Rule) → list_any p rs ≡ false → list_any (λ r. a r && p r) rs ≡ false
fewer p a [] h = refl
fewer p a (r ∷ rs) h = let parts = or_parts (p r) (list_any p rs) h in or_from (a r && p r) _ (and_right (a r) (p r) parts.0) (fewer p a rs parts.1)

distances : (table : List Rule) (c : Channel) (row : IssuedCommand) (number : ℕ) → comes_too_soon table c row ≡ false → kept_breaks_distance table c row number ≡ false
unfolding kept_breaks_distance
distances table c row number soon = fewer (λ r. is_too_soon c r row) (λ r. r.number == number) table soon

-- a row that keeps each rule of its channel breaks none of them by its number
none-broken : (s : Config) (table : List Rule) (c : Channel) (row : IssuedCommand) (number : ℕ) → keeps_each s table c row ≡ true
    → kept_breaks s table c row number ≡ false
unfolding kept_breaks
none-broken s table c row number keeps =
    let early = and_parts _ _ keeps in
    let before = and_parts _ _ early.0 in
    let banks = and_parts _ _ before.0 in
    let soon = not-true _ early.1 in
    let refresh = not-true _ before.1 in
    let window = not-true _ banks.1 in
    neither (number == 2) _ _ (ap not banks.0)
    (neither (number == 16) _ _ window (neither (number == 18) _ _ refresh (distances table c row number soon)))

find-nothing : (p : ℕ → Bool) (xs : List ℕ) → ((k : ℕ) → p k ≡ false) → find p xs ≡ None
find-nothing p [] h = refl
find-nothing p (k ∷ xs) h = ap (λ b. cond b (Some k) (find p xs)) (h k) ∙ find-nothing p xs h

-- then there is no lowest one
pub none-found : (s : Config) (table : List Rule) (last : Option IssuedCommand) (c : Channel) (row : IssuedCommand) (numbers : List ℕ) → stands_wrongly last row ≡ false
    → keeps_each s table c row ≡ true → find (past_breaks s table last c row) numbers ≡ None
none-found s table last c row numbers order keeps =
    find-nothing _ numbers (λ number. neither (number == 1) _ _ order (none-broken s table c row number keeps))
