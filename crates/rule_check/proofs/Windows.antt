-- The last four ACTs of a rank decide whether more than three count.
use Rattle.std.proofs.Common.{◌≡◌, ℕ, ◌+◌, ◌<◌, ◌≤◌, ◌∙◌, ◌&&◌, Bool, true, false, cond, max, min, List, [], ◌∷◌, sym, ap, arith, inl, inr}
use Rattle.std.specs.Prelude.{fold, nat_lt, count_by}
use Rattle.std.proofs.lemmas.Bool.{cases_lt, lt-ltb, le-ltb}
use Rattle.std.proofs.lemmas.List.Sums.{sum_by-cons}
use Rattle.sim_base.specs.declared.timing.Timing.{Timing}
use Rattle.sim_base.specs.declared.command.IssuedCommand.{IssuedCommand}
use Rattle.sim_base.specs.Rules.{recent_acts}
use Rattle.rule_check.specs.Kept.{no_window, window_after, window_where, window_from, activates}
use Rattle.rule_check.specs.declared.window.ActWindow.{ActWindow}

-- of n ends that are still ahead, the window has the latest four
record Ahead (now n : ℕ) (w : ActWindow) : Type 0 where
  first_in : now < w.first → 1 ≤ n
  first_out : 1 ≤ n → now < w.first
  second_in : now < w.second → 2 ≤ n
  second_out : 2 ≤ n → now < w.second
  third_in : now < w.third → 3 ≤ n
  third_out : 3 ≤ n → now < w.third
  fourth_in : now < w.fourth → 4 ≤ n
  fourth_out : 4 ≤ n → now < w.fourth

step_in : (now a b end m n : ℕ) → (now < a → m + 1 ≤ n) → (now < b → m ≤ n) → now < max a (min b end) → m + 1 ≤ 1 + n
step_in now a b end m n f g k =
    elim (cases_lt now a) [
      | inl l ↦ omega (arith, f l)
      | inr l ↦ omega (arith, g (omega arith))
    ]

step_out : (now a b end m n : ℕ) → (m ≤ n → now < b) → now < end → m + 1 ≤ 1 + n → now < max a (min b end)
step_out now a b end m n g l k = let h : now < b = g (omega arith) in omega arith

ahead-one : (now n end : ℕ) (w : ActWindow) → Ahead now n w → now < end → Ahead now (1 + n) (window_after end w)
ahead-one now n end w h l =
    record {
      first_in = λ k. omega arith;
      first_out = λ k. omega arith;
      second_in = step_in now w.second w.first end 1 n h.second_in h.first_in;
      second_out = step_out now w.second w.first end 1 n h.first_out l;
      third_in = step_in now w.third w.second end 2 n h.third_in h.second_in;
      third_out = step_out now w.third w.second end 2 n h.second_out l;
      fourth_in = step_in now w.fourth w.third end 3 n h.fourth_in h.third_in;
      fourth_out = step_out now w.fourth w.third end 3 n h.third_out l;
    }

ahead-none : (now n end : ℕ) (w : ActWindow) → Ahead now n w → end ≤ now → Ahead now (0 + n) (window_after end w)
ahead-none now n end w h l =
    record {
      first_in = λ k. omega (arith, h.first_in);
      first_out = λ k. omega (arith, h.first_out);
      second_in = λ k. omega (arith, h.second_in);
      second_out = λ k. omega (arith, h.second_out);
      third_in = λ k. omega (arith, h.third_in);
      third_out = λ k. omega (arith, h.third_out);
      fourth_in = λ k. omega (arith, h.fourth_in);
      fourth_out = λ k. omega (arith, h.fourth_out);
    }

ahead-same : (now n m : ℕ) (w : ActWindow) → n ≡ m → Ahead now n w → Ahead now m w
ahead-same now n m w e h = rw (← e) h

ahead-where : (counts : Bool) (now n end : ℕ) (w : ActWindow) → Ahead now n w → Ahead now (cond (counts && nat_lt now end) 1 0 + n) (window_where counts end w)
ahead-where false now n end w h = ahead-same now n (0 + n) w (omega arith) h
ahead-where true now n end w h =
    elim (cases_lt now end) [
      | inl l ↦ ahead-same now (1 + n) _ _ (ap (λ b. cond b 1 0 + n) (sym (lt-ltb now end l))) (ahead-one now n end w h l)
      | inr l ↦ ahead-same now (0 + n) _ _ (ap (λ b. cond b 1 0 + n) (sym (le-ltb now end l))) (ahead-none now n end w h l)
    ]

abbrev counted : Timing → ℕ → ℕ → IssuedCommand → Bool
counted t rank now i = activates rank i.command && nat_lt now (i.cycle + t.n_faw)

ahead-fold : (t : Timing) (rank now n : ℕ) (w : ActWindow) (history : List IssuedCommand) → Ahead now n w
    → Ahead now (n + count_by (counted t rank now) history) (fold (λ w (i : IssuedCommand). window_where (activates rank i.command) (i.cycle + t.n_faw) w) w history)
ahead-fold t rank now n w [] h = ahead-same now n _ w (omega arith) h
ahead-fold t rank now n w (i ∷ history) h =
    let one = cond (counted t rank now i) 1 0 in
    let step : count_by (counted t rank now) (i ∷ history) ≡ one + count_by (counted t rank now) history = sum_by-cons (λ j. cond (counted t rank now j) 1 0) i history in
    ahead-same now ((one + n) + count_by (counted t rank now) history) _ _ (omega arith)
    (ahead-fold t rank now (one + n) _ history (ahead-where (activates rank i.command) now n (i.cycle + t.n_faw) w h))

ahead-start : (now : ℕ) → Ahead now 0 no_window
ahead-start now =
    record {
      first_in = λ k. omega arith;
      first_out = λ k. omega arith;
      second_in = λ k. omega arith;
      second_out = λ k. omega arith;
      third_in = λ k. omega arith;
      third_out = λ k. omega arith;
      fourth_in = λ k. omega arith;
      fourth_out = λ k. omega arith;
    }

same_tests : (now x n : ℕ) → (now < x → 4 ≤ n) → (4 ≤ n → now < x) → nat_lt now x ≡ nat_lt 3 n
same_tests now x n f g =
    elim (cases_lt now x) [
      | inl l ↦ lt-ltb now x l ∙ sym (lt-ltb 3 n (omega (arith, f l)))
      | inr l ↦
          le-ltb now x l
          ∙ sym (elim (cases_lt 3 n) [
            | inl k ↦ absurd (omega (arith, g k))
            | inr k ↦ le-ltb 3 n k
          ])
    ]

pub window-recent : (t : Timing) (rank now : ℕ) (history : List IssuedCommand) → nat_lt now (window_from t rank history).fourth ≡ nat_lt 3 (recent_acts t rank now history)
unfolding window_from
window-recent t rank now history =
    let h = ahead-fold t rank now 0 no_window history (ahead-start now) in
    let n = count_by (counted t rank now) history in
    same_tests now _ n (λ k. omega (arith, h.fourth_in k)) (λ k. h.fourth_out (omega arith))
