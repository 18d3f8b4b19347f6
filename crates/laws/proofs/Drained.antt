-- A channel drains from a cycle with many writes until one with few.
use Rattle.std.proofs.Common.{◌≡◌, ℕ, zero, suc, ◌<◌, ◌≤◌, ◌⊎◌, inl, inr, true, false, ◌&&◌, ltb, leb, List, Option, refl, sym, ap, subst, ◌∙◌, add-one, arith}
use Rattle.std.proofs.lemmas.Bool.{false≢true, or_cases, or_left, or_right, and_parts, and_from, lt-ltb, le-leb, ltb-true, leb-true, cases_lt}
use Rattle.sim_base.specs.declared.command.Command.{Command}
use Rattle.sim_base.specs.declared.config.Config.{Config}
use Rattle.sim_base.specs.declared.message.Message.{Message}
use Rattle.sim_base.specs.Scheduling.{writes_in, drains_with, drains_before}
use Rattle.laws.specs.Drains.{IsInDrain, DrainsFollowWrites}

-- one cycle of a drain
drains_step : (s : Config) (k : ℕ) (steps : List (Option Command)) (inbox : List Message) (n : ℕ)
    → drains_before s k steps inbox (suc n) ≡ drains_with s (drains_before s k steps inbox n) (writes_in k steps inbox n)
unfolding drains_before
drains_step s k steps inbox n = refl

drains_none : (s : Config) (k : ℕ) (steps : List (Option Command)) (inbox : List Message) → drains_before s k steps inbox zero ≡ false
unfolding drains_before
drains_none s k steps inbox = refl

-- many writes are more than few
low_below : (s : Config) (writes : ℕ) → 0 < s.write_high → s.write_high ≤ writes → s.write_low < writes
low_below s writes some many =
    let below : s.write_low < s.write_high = s.drain_fits.ends_below (omega arith) in
    omega arith

-- a drain begins
begins : (s : Config) (k : ℕ) (steps : List (Option Command)) (inbox : List Message) (n : ℕ)
    → (ltb 0 s.write_high && leb s.write_high (writes_in k steps inbox n)) ≡ true → IsInDrain s k steps inbox n
begins s k steps inbox n e =
    let both = and_parts (ltb 0 s.write_high) (leb s.write_high (writes_in k steps inbox n)) e in
    let some = ltb-true 0 s.write_high both.0 in
    let many = leb-true s.write_high (writes_in k steps inbox n) both.1 in
    let enough = low_below s (writes_in k steps inbox n) some many in
    record {
      first = n;
      begun = omega arith;
      allowed = some;
      high = many;
      above = λ now a b. let here : n ≡ now = omega arith in subst (λ i. s.write_low < writes_in k steps inbox i) here enough;
    }

-- and goes on
goes_on : (s : Config) (k : ℕ) (steps : List (Option Command)) (inbox : List Message) (n : ℕ)
    → IsInDrain s k steps inbox n → s.write_low < writes_in k steps inbox (suc n) → IsInDrain s k steps inbox (suc n)
goes_on s k steps inbox n d more =
    record {
      first = d.first;
      begun = let b = d.begun in omega arith;
      allowed = d.allowed;
      high = d.high;
      above = λ now a b. by now a b (cases_lt n now);
    }
  where
    by : (now : ℕ) → d.first ≤ now → now ≤ suc n → (n < now) ⊎ (now ≤ n) → s.write_low < writes_in k steps inbox now
    by now a b (inl late) = let last : suc n ≡ now = omega arith in subst (λ i. s.write_low < writes_in k steps inbox i) last more
    by now a b (inr early) = d.above now a early

-- what is drained was begun, now or before
forth : (s : Config) (k : ℕ) (steps : List (Option Command)) (inbox : List Message) (n : ℕ)
    → drains_before s k steps inbox (suc n) ≡ true → IsInDrain s k steps inbox n
forth s k steps inbox zero e =
    by (or_cases (ltb 0 s.write_high && leb s.write_high (writes_in k steps inbox zero)) (drains_before s k steps inbox zero && ltb s.write_low (writes_in k steps inbox zero)) (sym (drains_step s k steps inbox zero) ∙ e))
  where
    by : ((ltb 0 s.write_high && leb s.write_high (writes_in k steps inbox zero)) ≡ true) ⊎ ((drains_before s k steps inbox zero && ltb s.write_low (writes_in k steps inbox zero)) ≡ true)
        → IsInDrain s k steps inbox zero
    by (inl h) = begins s k steps inbox zero h
    by (inr h) =
        let both = and_parts (drains_before s k steps inbox zero) (ltb s.write_low (writes_in k steps inbox zero)) h in
        absurd (false≢true (sym (drains_none s k steps inbox) ∙ both.0))
forth s k steps inbox (suc n) e =
    by (λ d. forth s k steps inbox n d)
    (or_cases (ltb 0 s.write_high && leb s.write_high (writes_in k steps inbox (suc n))) (drains_before s k steps inbox (suc n) && ltb s.write_low (writes_in k steps inbox (suc n))) (sym (drains_step s k steps inbox (suc n)) ∙ e))
  where
    by : (drains_before s k steps inbox (suc n) ≡ true → IsInDrain s k steps inbox n)
        → ((ltb 0 s.write_high && leb s.write_high (writes_in k steps inbox (suc n))) ≡ true) ⊎ ((drains_before s k steps inbox (suc n) && ltb s.write_low (writes_in k steps inbox (suc n))) ≡ true)
        → IsInDrain s k steps inbox (suc n)
    by before (inl h) = begins s k steps inbox (suc n) h
    by before (inr h) =
        let both = and_parts (drains_before s k steps inbox (suc n)) (ltb s.write_low (writes_in k steps inbox (suc n))) h in
        goes_on s k steps inbox n (before both.0) (ltb-true s.write_low (writes_in k steps inbox (suc n)) both.1)

-- a cycle with many writes is drained
from_first : (s : Config) (k : ℕ) (steps : List (Option Command)) (inbox : List Message) (n : ℕ)
    → (d : ℕ) → d ≡ n → 0 < s.write_high → s.write_high ≤ writes_in k steps inbox d → drains_before s k steps inbox (suc n) ≡ true
from_first s k steps inbox n d same some high =
    let many : s.write_high ≤ writes_in k steps inbox n = subst (λ j. s.write_high ≤ writes_in k steps inbox j) same high in
    drains_step s k steps inbox n
    ∙ or_left (ltb 0 s.write_high && leb s.write_high (writes_in k steps inbox n)) (drains_before s k steps inbox n && ltb s.write_low (writes_in k steps inbox n))
    (and_from (ltb 0 s.write_high) (leb s.write_high (writes_in k steps inbox n)) (lt-ltb 0 s.write_high some) (le-leb s.write_high (writes_in k steps inbox n) many))

-- and so is each that follows it
back : (s : Config) (k : ℕ) (steps : List (Option Command)) (inbox : List Message) (n : ℕ)
    → IsInDrain s k steps inbox n → drains_before s k steps inbox (suc n) ≡ true
back s k steps inbox zero x = let b = x.begun in from_first s k steps inbox zero x.first (omega arith) x.allowed x.high
back s k steps inbox (suc n) x = by (λ d. back s k steps inbox n d) (cases_lt x.first (suc n))
  where
    by : (IsInDrain s k steps inbox n → drains_before s k steps inbox (suc n) ≡ true) → (x.first < suc n) ⊎ (suc n ≤ x.first) → drains_before s k steps inbox (suc (suc n)) ≡ true
    by before (inr late) = let b = x.begun in from_first s k steps inbox (suc n) x.first (omega arith) x.allowed x.high
    by before (inl early) =
        let earlier : IsInDrain s k steps inbox n =
        record { first = x.first; begun = omega arith; allowed = x.allowed; high = x.high; above = λ now a b. x.above now a (omega arith) } in
        drains_step s k steps inbox (suc n)
        ∙ or_right (ltb 0 s.write_high && leb s.write_high (writes_in k steps inbox (suc n))) (drains_before s k steps inbox (suc n) && ltb s.write_low (writes_in k steps inbox (suc n)))
        (and_from (drains_before s k steps inbox (suc n)) (ltb s.write_low (writes_in k steps inbox (suc n))) (before earlier)
        (lt-ltb s.write_low (writes_in k steps inbox (suc n)) (x.above (suc n) (omega arith) (omega arith))))

pub drains_follow_writes : (s : Config) → DrainsFollowWrites s
drains_follow_writes s k steps inbox n =
    (λ e. forth s k steps inbox n (ap (drains_before s k steps inbox) (sym (add-one n)) ∙ e), λ d. ap (drains_before s k steps inbox) (add-one n) ∙ back s k steps inbox n d)
