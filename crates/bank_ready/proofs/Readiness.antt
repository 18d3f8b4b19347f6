-- When the commands of a history let another follow.
use Rattle.std.proofs.Common.{◌≡◌, ℕ, ◌+◌, ◌≤◌, ◌↔◌, ◌++◌, Bool, true, false, not, ◌||◌, leb, cond, max, List, [], ◌∷◌, map, Option, Some, None, refl, arith}
use Rattle.std.specs.Prelude.{IsTrue, fold, option_map, unwrap_or}
use Rattle.std.specs.List.{list_all}
use Rattle.std.proofs.lemmas.Bool.{leb-true, le-leb, and_parts, and_from}
use Rattle.std.proofs.lemmas.List.{map-append}
use Rattle.std.proofs.lemmas.List.Sums.{fold-append}
use Rattle.sim_base.specs.declared.timing.Timing.{Timing}
use Rattle.sim_base.specs.declared.place.BankId.{BankId}
use Rattle.sim_base.specs.declared.command.Kind.{Kind}
use Rattle.sim_base.specs.declared.command.Command.{Command}
use Rattle.sim_base.specs.declared.command.IssuedCommand.{IssuedCommand}
use Rattle.sim_base.specs.Rules.{kind_of, rank_of, bank_of, is_past_gap, keeps_distances}
use Rattle.timing.specs.Holds.{hold}
use Rattle.bank_ready.specs.Ready.{held_until, held_by, ready_from}

-- one command more
pub ready_from-more : (t : Timing) (history : List IssuedCommand) (i : IssuedCommand) (later : Kind) (rank : ℕ) (bank : Option BankId)
    → ready_from t (history ++ i ∷ []) later rank bank ≡ max (ready_from t history later rank bank) (held_by t later rank bank i)
unfolding ready_from
ready_from-more t history i later rank bank =
    let f = held_by t later rank bank in
    rw (map-append f history (i ∷ [])) (fold-append max 0 (map f history) (f i ∷ []))

-- where a rule binds two commands by g, and where none does
passed : (b : Bool) (cycle g now : ℕ) → (unwrap_or (option_map (λ gap. cycle + gap) (cond b (Some g) None)) 0 ≤ now) ↔ IsTrue (not b || leb (cycle + g) now)
passed true cycle g now = (λ h. le-leb (cycle + g) now h, λ h. leb-true (cycle + g) now h)
passed false cycle g now = (λ h. refl, λ h. omega arith)

-- one command
held_by-past : (t : Timing) (now : ℕ) (command : Command) (i : IssuedCommand)
    → (held_by t (kind_of command) (rank_of command) (bank_of command) i ≤ now) ↔ IsTrue (is_past_gap t now command i)
unfolding held_until hold is_past_gap
held_by-past t now command i = passed _ i.cycle _ now

greatest-down : (f : IssuedCommand → ℕ) (p : IssuedCommand → Bool) (now a : ℕ) (history : List IssuedCommand) → ((i : IssuedCommand) → f i ≤ now → p i ≡ true)
    → fold max a (map f history) ≤ now → (a ≤ now) × (list_all p history ≡ true)
greatest-down f p now a [] h k = (k, refl)
greatest-down f p now a (i ∷ history) h k =
    let rest = greatest-down f p now (max a (f i)) history h k in
    (omega (arith, rest.0), and_from (p i) (list_all p history) (h i (omega (arith, rest.0))) rest.1)

greatest-up : (f : IssuedCommand → ℕ) (p : IssuedCommand → Bool) (now a : ℕ) (history : List IssuedCommand) → ((i : IssuedCommand) → p i ≡ true → f i ≤ now)
    → a ≤ now → list_all p history ≡ true → fold max a (map f history) ≤ now
greatest-up f p now a [] h k e = k
greatest-up f p now a (i ∷ history) h k e =
    let parts = and_parts (p i) (list_all p history) e in
    greatest-up f p now (max a (f i)) history h (omega (arith, h i parts.0)) parts.1

-- all commands of a history
pub ready_from-keeps : (t : Timing) (history : List IssuedCommand) (now : ℕ) (command : Command)
    → (ready_from t history (kind_of command) (rank_of command) (bank_of command) ≤ now) ↔ IsTrue (keeps_distances t history now command)
unfolding ready_from
ready_from-keeps t history now command =
    let f = held_by t (kind_of command) (rank_of command) (bank_of command) in
    let p = is_past_gap t now command in (
      λ h. (greatest-down f p now 0 history (λ i k. (held_by-past t now command i).0 k) h).1,
      λ h. greatest-up f p now 0 history (λ i k. (held_by-past t now command i).1 k) (omega arith) h,
    )
