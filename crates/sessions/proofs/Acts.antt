-- When a channel acts next, when one more channel is looked at.
use Rattle.std.proofs.Common.{◌≡◌, ℕ, ◌+◌, ◌<◌, ◌≤◌, Bool, true, false, leb, Option, Some, None, refl, subst, arith}
use Rattle.std.specs.Prelude.{min}
use Rattle.std.proofs.lemmas.Bool.{leb-true, leb-false}
use Rattle.sessions.specs.Ahead.{command_then, IsNextAt, IsNextAct}
use Rattle.sim_base.specs.Earlier.{earlier}
use Rattle.sessions.specs.Memories.{Pasts, ActsIn, IsNextActAt, IsNextActOf}
use Rattle.sessions.proofs.Earliest.{below-more}

-- none of the channels issues anything from now on and before a cycle
abbrev Idle : Pasts → ℕ → ℕ → ℕ → Type 0
Idle pasts now until k = (t : ℕ) → now ≤ t → t < until → command_then (pasts.past k) now t ≡ None

acts-more : (n : ℕ) (pasts : Pasts) (now cycle : ℕ) → ActsIn n pasts now cycle → ActsIn (n + 1) pasts now cycle
acts-more n pasts now cycle h = record { number = h.number; is_below = let l = h.is_below in omega arith; acts = h.acts }

-- where those before act first, or with the new one
first-acts : (n : ℕ) (pasts : Pasts) (now cycle : ℕ) → IsNextActAt n pasts now cycle → Idle pasts now cycle n → IsNextActAt (n + 1) pasts now cycle
first-acts n pasts now cycle h last =
    record {
      from_now = h.from_now;
      idle = λ k t l from b. below-more (Idle pasts now cycle) n (λ j m u from b. h.idle j u m from b) last k l t from b;
      acts = acts-more n pasts now cycle h.acts;
    }

-- where the new one acts first
last-acts : (n : ℕ) (pasts : Pasts) (now cycle : ℕ) → IsNextAt (pasts.past n) now cycle → ((k : ℕ) → k < n → Idle pasts now cycle k) → IsNextActAt (n + 1) pasts now cycle
last-acts n pasts now cycle h before =
    record {
      from_now = h.from_now;
      idle = λ k t l from b. below-more (Idle pasts now cycle) n before h.idle k l t from b;
      acts = record { number = n; is_below = omega arith; acts = h.acts };
    }

-- one more
pub acts-next : (n : ℕ) (pasts : Pasts) (now : ℕ) (first next : Option ℕ) → IsNextActOf n pasts now first → IsNextAct (pasts.past n) now next → IsNextActOf (n + 1) pasts now (earlier first next)
acts-next n pasts now None None h last =
    λ k t l from. below-more (λ j. (u : ℕ) → now ≤ u → command_then (pasts.past j) now u ≡ None) n (λ j m u from. h j u m from) last k l t from
acts-next n pasts now (Some first) None h last = first-acts n pasts now first h (λ t from b. last t from)
acts-next n pasts now None (Some next) h last = last-acts n pasts now next last (λ k l t from b. h k t l from)
acts-next n pasts now (Some first) (Some next) h last = by (leb first next) refl
  where
    by : (b : Bool) → leb first next ≡ b → IsNextActAt (n + 1) pasts now (min first next)
    by true is =
        let l : first ≤ next = leb-true _ _ is in
        let least : first ≡ min first next = omega arith in
        subst (IsNextActAt (n + 1) pasts now) least (first-acts n pasts now first h (λ t from b. last.idle t from (omega arith)))
    by false is =
        let l : next < first = leb-false _ _ is in
        let least : next ≡ min first next = omega arith in
        subst (IsNextActAt (n + 1) pasts now) least (last-acts n pasts now next last (λ k m t from b. h.idle k t m from (omega arith)))
