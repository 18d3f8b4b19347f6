-- The earliest of several cycles, when one more is looked at.
use Rattle.std.proofs.Common.{◌≡◌, ℕ, ◌+◌, ◌<◌, ◌≤◌, Bool, true, false, ltb, eqb, Option, Some, None, refl, sym, subst, arith}
use Rattle.std.specs.Prelude.{IfSome, if◌then◌else◌}
use Rattle.std.proofs.lemmas.Bool.{ltb-true, ltb-false, eqb-true, eqb-false}
use Rattle.sessions.specs.Earliest.{earlier_numbered, IsEarliestAt, IsEarliest}
use Rattle.std.proofs.lemmas.Option.{IfSome_then}

-- a number below one more is below, or is that one
pub below-more : (P : ℕ → Type 0) (n : ℕ) → ((k : ℕ) → k < n → P k) → P n → (k : ℕ) → k < n + 1 → P k
below-more P n h last k l = by (eqb k n) refl
  where
    by : (b : Bool) → eqb k n ≡ b → P k
    by true e = subst P (sym (eqb-true _ _ e)) last
    by false e = h k (let other : k ≡ n → ⊥ = eqb-false k n e in omega arith)

none-more : (cycles : ℕ → Option ℕ) (n : ℕ) → ((k : ℕ) → k < n → cycles k ≡ None) → cycles n ≡ None → (k : ℕ) → k < n + 1 → cycles k ≡ None
none-more cycles n h last = below-more (λ k. cycles k ≡ None) n h last

if-none : (P : ℕ → Type 0) (o : Option ℕ) → o ≡ None → IfSome o P
if-none P o e = subst (λ (x : Option ℕ). IfSome x P) (sym e) tt

if-some : (P : ℕ → Type 0) (o : Option ℕ) (c : ℕ) → o ≡ Some c → P c → IfSome o P
if-some P o c e h = subst (λ (x : Option ℕ). IfSome x P) (sym e) h

-- where the first of those before stays the first
stays : (cycles : ℕ → Option ℕ) (n number cycle : ℕ) → IsEarliestAt cycles n number cycle → IfSome (cycles n) (λ c. cycle ≤ c) → IsEarliestAt cycles (n + 1) number cycle
stays cycles n number cycle h last =
    record {
      is_below = let l = h.is_below in omega arith;
      cycle_is = h.cycle_is;
      none_earlier = below-more (λ k. IfSome (cycles k) (λ c. cycle ≤ c)) n h.none_earlier last;
      none_lower = h.none_lower;
    }

-- where the new one is before all
leads : (cycles : ℕ → Option ℕ) (n cycle : ℕ) → cycles n ≡ Some cycle → ((k : ℕ) → k < n → IfSome (cycles k) (λ c. cycle < c)) → IsEarliestAt cycles (n + 1) n cycle
leads cycles n cycle e h =
    record {
      is_below = omega arith;
      cycle_is = e;
      none_earlier = below-more (λ k. IfSome (cycles k) (λ c. cycle ≤ c)) n (λ k l. IfSome_then (cycles k) {P = λ c. cycle < c} {Q = λ c. cycle ≤ c} (h k l) (λ c b. omega arith)) (if-some (λ c. cycle ≤ c) (cycles n) cycle e (omega arith));
      none_lower = h;
    }

-- one more
pub earliest-more : (cycles : ℕ → Option ℕ) (n : ℕ) (first : Option (ℕ × ℕ)) (cycle : Option ℕ) → IsEarliest cycles n first → cycles n ≡ cycle → IsEarliest cycles (n + 1) (earlier_numbered first cycle n)
earliest-more cycles n None None h e = none-more cycles n h e
earliest-more cycles n (Some first) None h e = stays cycles n first.1 first.0 h (if-none (λ c. first.0 ≤ c) (cycles n) e)
earliest-more cycles n None (Some cycle) h e = leads cycles n cycle e (λ k l. if-none (λ c. cycle < c) (cycles k) (h k l))
earliest-more cycles n (Some first) (Some cycle) h e = by (ltb cycle first.0) refl
  where
    by : (b : Bool) → ltb cycle first.0 ≡ b → IsEarliest cycles (n + 1) (if b then Some (cycle, n) else Some first)
    by true is =
        let earlier : cycle < first.0 = ltb-true _ _ is in
        leads cycles n cycle e (λ k l. IfSome_then (cycles k) {P = λ c. first.0 ≤ c} {Q = λ c. cycle < c} (h.none_earlier k l) (λ c b. omega arith))
    by false is = stays cycles n first.1 first.0 h (if-some (λ c. first.0 ≤ c) (cycles n) cycle e (ltb-false _ _ is))
