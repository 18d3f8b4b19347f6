-- Where the search finds none, no word is before the cycle.
use Rattle.std.proofs.Common.{◌≡◌, ◌≤◌, ℕ, ltb, List, length, get_or, Some, None, inl, inr, sym, ◌∙◌, arith}
use Rattle.std.specs.Prelude.{All}
use Rattle.std.specs.List.{position, position_or_len}
use Rattle.std.proofs.lemmas.Bool.{cases_lt, cond-true, lt-ltb, ltb-false}
use Rattle.std.proofs.lemmas.List.Sums.{fails_before_first}
use Rattle.sim_base.proofs.Lists.{none-is}
use Rattle.in_place.proofs.taking_turns.wakes_before.Goals as goal

none-before : (words : List ℕ) (cycle : ℕ) → position (λ word. ltb word cycle) words ≡ None → All (λ word. cycle ≤ word) words
none-before words cycle e k d l =
    let p = λ (word : ℕ). ltb word cycle in
    elim (cases_lt (position_or_len p words) (length words)) [
      | inl m ↦ let bad : Some (position_or_len p words) ≡ None = sym (cond-true (ltb (position_or_len p words) (length words)) (Some (position_or_len p words)) None (lt-ltb (position_or_len p words) (length words) m)) ∙ e in cc
      | inr m ↦ ltb-false (get_or words k d) cycle (fails_before_first p words k d (omega (arith, l, m)))
    ]

pub returns : goal.returns
returns c e = none-before c.args.words.now c.args.cycle (sym c.first_below.ensures ∙ none-is c.first_below.result (sym c.is_some.ensures ∙ e))
