-- The offer that goes first.
use Rattle.std.proofs.Common.{◌≡◌, ℕ, ◌+◌, ◌<◌, ◌≤◌, Bool, true, false, cond, ltb, leb, eqb, max, min, Option, Some, None, refl, sym, ap, subst, ◌∙◌, inl, inr, arith}
use Rattle.std.proofs.lemmas.Bool.{cases_lt, cases_eq, eq-eqb, ne_eqb, ltb-true, ltb-false, lt-ltb, le-ltb, cond-true, cond-false, le-leb, lt-leb, false≢true}
use Rattle.std.specs.Option.{option_map}
use Rattle.sim_base.specs.Earlier.{earlier}
use Rattle.queue.proofs.BankCandidatesServed.{earlier_none}
use Rattle.channel_step.specs.declared.fr_fcfs.offers.Offer.{Offer}
use Rattle.channel_step.specs.FrFcfs.Offers.{goes_before, IsAt, IsBestOffer, IsBest}

none_both : (a b : Option ℕ) → a ≡ None → b ≡ None → earlier a b ≡ None
none_both a b none_a none_b = λ i. earlier (none_a i) (none_b i)

-- an offer beside one whose place is not ready yet
at_alone : (hit : Bool) (h r h2 r2 : Option ℕ) (place : ℕ) → h2 ≡ None → r2 ≡ None → IsAt hit h r place → IsAt hit (earlier h h2) (earlier r r2) place
at_alone true h r h2 r2 place none_h none_r is = ap (earlier h) none_h ∙ earlier_none h ∙ is
at_alone false h r h2 r2 place none_h none_r is = (ap (earlier h) none_h ∙ earlier_none h ∙ is.0, ap (earlier r) none_r ∙ earlier_none r ∙ is.1)

at_other : (hit : Bool) (h r h2 r2 : Option ℕ) (place : ℕ) → h ≡ None → r ≡ None → IsAt hit h2 r2 place → IsAt hit (earlier h h2) (earlier r r2) place
at_other true h r h2 r2 place none_h none_r is = ap (λ o. earlier o h2) none_h ∙ is
at_other false h r h2 r2 place none_h none_r is = (ap (λ o. earlier o h2) none_h ∙ is.0, ap (λ o. earlier o r2) none_r ∙ is.1)

-- two offers of one cycle: row hits go first, and then the older request
pick : (a_hit b_hit flag : Bool) (h r h2 r2 : Option ℕ) (a b : ℕ) → IsAt a_hit h r a → IsAt b_hit h2 r2 b
    → flag ≡ cond b_hit (cond a_hit (ltb b a) true) (cond a_hit false (ltb b a)) → IsAt (cond flag b_hit a_hit) (earlier h h2) (earlier r r2) (cond flag b a)
pick true true true h r h2 r2 a b is_a is_b flag_is =
    let less : b < a = ltb-true b a (sym flag_is) in let least : min a b ≡ b = omega arith in (λ i. earlier (is_a i) (is_b i)) ∙ ap Some least
pick true true false h r h2 r2 a b is_a is_b flag_is =
    let more : a ≤ b = ltb-false b a (sym flag_is) in let least : min a b ≡ a = omega arith in (λ i. earlier (is_a i) (is_b i)) ∙ ap Some least
pick true false true h r h2 r2 a b is_a is_b flag_is = absurd (false≢true (sym flag_is))
pick true false false h r h2 r2 a b is_a is_b flag_is = λ i. earlier (is_a i) (is_b.0 i)
pick false true true h r h2 r2 a b is_a is_b flag_is = λ i. earlier (is_a.0 i) (is_b i)
pick false true false h r h2 r2 a b is_a is_b flag_is = absurd (false≢true flag_is)
pick false false true h r h2 r2 a b is_a is_b flag_is =
    let less : b < a = ltb-true b a (sym flag_is) in
    let least : min a b ≡ b = omega arith in (none_both h h2 is_a.0 is_b.0, (λ i. earlier (is_a.1 i) (is_b.1 i)) ∙ ap Some least)
pick false false false h r h2 r2 a b is_a is_b flag_is =
    let more : a ≤ b = ltb-false b a (sym flag_is) in
    let least : min a b ≡ a = omega arith in (none_both h h2 is_a.0 is_b.0, (λ i. earlier (is_a.1 i) (is_b.1 i)) ∙ ap Some least)

-- both places of two offers are none before the cycle of either
both_before : (now x y n : ℕ) (h r h2 r2 : ℕ → Option ℕ) → n ≤ x → n ≤ y → ((c : ℕ) → now ≤ c → c < x → (h c ≡ None) × (r c ≡ None))
    → ((c : ℕ) → now ≤ c → c < y → (h2 c ≡ None) × (r2 c ≡ None)) → (c : ℕ) → now ≤ c → c < n → (earlier (h c) (h2 c) ≡ None) × (earlier (r c) (r2 c) ≡ None)
both_before now x y n h r h2 r2 in_x in_y none none_2 c from sooner =
    let first = none c from (omega arith) in
    let second = none_2 c from (omega arith) in (none_both (h c) (h2 c) first.0 second.0, none_both (r c) (r2 c) first.1 second.1)

first_stays : (now : ℕ) (h r h2 r2 : ℕ → Option ℕ) (a : Offer) (y : ℕ) → IsBestOffer now h r a → ((c : ℕ) → now ≤ c → c < y → (h2 c ≡ None) × (r2 c ≡ None)) → a.cycle < y
    → IsBestOffer now (λ c. earlier (h c) (h2 c)) (λ c. earlier (r c) (r2 c)) a
first_stays now h r h2 r2 a y best none sooner =
    let now_none = none a.cycle best.from_now sooner in
    record {
      from_now = best.from_now;
      none_before = both_before now a.cycle y a.cycle h r h2 r2 (omega arith) (omega arith) best.none_before none;
      then_is = at_alone a.hit (h a.cycle) (r a.cycle) (h2 a.cycle) (r2 a.cycle) a.place now_none.0 now_none.1 best.then_is;
    }

second_goes : (now : ℕ) (h r h2 r2 : ℕ → Option ℕ) (b : Offer) (x : ℕ) → IsBestOffer now h2 r2 b → ((c : ℕ) → now ≤ c → c < x → (h c ≡ None) × (r c ≡ None)) → b.cycle < x
    → IsBestOffer now (λ c. earlier (h c) (h2 c)) (λ c. earlier (r c) (r2 c)) b
second_goes now h r h2 r2 b x best none sooner =
    let now_none = none b.cycle best.from_now sooner in
    record {
      from_now = best.from_now;
      none_before = both_before now x b.cycle b.cycle h r h2 r2 (omega arith) (omega arith) none best.none_before;
      then_is = at_other b.hit (h b.cycle) (r b.cycle) (h2 b.cycle) (r2 b.cycle) b.place now_none.0 now_none.1 best.then_is;
    }

tie : (now : ℕ) (h r h2 r2 : ℕ → Option ℕ) (a b : Offer) (flag : Bool) → IsBestOffer now h r a → IsBestOffer now h2 r2 b → b.cycle ≡ a.cycle
    → flag ≡ cond b.hit (cond a.hit (ltb b.place a.place) true) (cond a.hit false (ltb b.place a.place))
    → IsBestOffer now (λ c. earlier (h c) (h2 c)) (λ c. earlier (r c) (r2 c)) (cond flag b a)
tie now h r h2 r2 a b true best_a best_b same flag_is = record {
  from_now = best_b.from_now;
  none_before = both_before now a.cycle b.cycle b.cycle h r h2 r2 (omega arith) (omega arith) best_a.none_before best_b.none_before;
  then_is =
      pick a.hit b.hit true (h b.cycle) (r b.cycle) (h2 b.cycle) (r2 b.cycle) a.place b.place (subst (λ c. IsAt a.hit (h c) (r c) a.place) (sym same) best_a.then_is) best_b.then_is flag_is;
}
tie now h r h2 r2 a b false best_a best_b same flag_is = record {
  from_now = best_a.from_now;
  none_before = both_before now a.cycle b.cycle a.cycle h r h2 r2 (omega arith) (omega arith) best_a.none_before best_b.none_before;
  then_is =
      pick a.hit b.hit false (h a.cycle) (r a.cycle) (h2 a.cycle) (r2 a.cycle) a.place b.place best_a.then_is (subst (λ c. IsAt b.hit (h2 c) (r2 c) b.place) same best_b.then_is) flag_is;
}

-- the offer that goes first of two is the first of all that both are first of
pub better_is : (now : ℕ) (h r h2 r2 : ℕ → Option ℕ) (a b : Offer) (flag : Bool) → flag ≡ goes_before b a → IsBestOffer now h r a → IsBestOffer now h2 r2 b
    → IsBestOffer now (λ c. earlier (h c) (h2 c)) (λ c. earlier (r c) (r2 c)) (cond flag b a)
better_is now h r h2 r2 a b flag is best_a best_b =
    let tied = cond b.hit (cond a.hit (ltb b.place a.place) true) (cond a.hit false (ltb b.place a.place)) in
    elim (cases_eq b.cycle a.cycle) [
      | inl same ↦ tie now h r h2 r2 a b flag best_a best_b same (is ∙ cond-true (eqb b.cycle a.cycle) tied (ltb b.cycle a.cycle) (eq-eqb b.cycle a.cycle same))
      | inr apart ↦
          let flag_is = is ∙ cond-false (eqb b.cycle a.cycle) tied (ltb b.cycle a.cycle) (ne_eqb b.cycle a.cycle apart) in
          elim (cases_lt b.cycle a.cycle) [
            | inl sooner ↦
                subst (IsBestOffer now (λ c. earlier (h c) (h2 c)) (λ c. earlier (r c) (r2 c)))
                (sym (cond-true flag b a (flag_is ∙ lt-ltb b.cycle a.cycle sooner)))
                (second_goes now h r h2 r2 b a.cycle best_b best_a.none_before sooner)
            | inr later ↦
                let less : a.cycle < b.cycle = between later apart in
                subst (IsBestOffer now (λ c. earlier (h c) (h2 c)) (λ c. earlier (r c) (r2 c)))
                (sym (cond-false flag b a (flag_is ∙ le-ltb b.cycle a.cycle later)))
                (first_stays now h r h2 r2 a b.cycle best_a best_b.none_before less)
          ]
    ]
  where
    between : {m n : ℕ} → n ≤ m → (m ≡ n → ⊥) → n < m
    between {m} {n} later apart = elim (cases_lt n m) [
      | inl less ↦ less
      | inr more ↦ absurd (apart (omega arith))
    ]

pub second_alone_is : (now : ℕ) (h r h2 r2 : ℕ → Option ℕ) (b : Option Offer) → ((c : ℕ) → now ≤ c → (h c ≡ None) × (r c ≡ None)) → IsBest now h2 r2 b
    → IsBest now (λ c. earlier (h c) (h2 c)) (λ c. earlier (r c) (r2 c)) b
second_alone_is now h r h2 r2 None none best =
    λ c from. let first = none c from in let second = best c from in (none_both (h c) (h2 c) first.0 second.0, none_both (r c) (r2 c) first.1 second.1)
second_alone_is now h r h2 r2 (Some b) none best = second_goes now h r h2 r2 b (b.cycle + 1) best (λ c from sooner. none c from) (omega arith)

either_none : (b : Bool) (o : Option ℕ) → o ≡ None → cond b o None ≡ None
either_none true o none = none
either_none false o none = refl

-- the offer of a row hit that is ready from a cycle on
pub hit_offer_is : (now ready : ℕ) (candidate : Option ℕ)
    → IsBest now (λ c. cond (leb ready c) candidate None) (λ c. None) (option_map (λ place. record { cycle = max now ready; hit = true; place = place }) candidate)
hit_offer_is now ready None = λ c from. (either_none (leb ready c) None refl, refl)
hit_offer_is now ready (Some place) = record {
  from_now = omega arith;
  none_before = λ c from sooner. (cond-false (leb ready c) (Some place) None (lt-leb ready c (omega arith)), refl);
  then_is = cond-true (leb ready (max now ready)) (Some place) None (le-leb ready (max now ready) (omega arith));
}

-- the offer of another request
pub row_offer_is : (now ready : ℕ) (candidate : Option ℕ)
    → IsBest now (λ c. None) (λ c. cond (leb ready c) candidate None) (option_map (λ place. record { cycle = max now ready; hit = false; place = place }) candidate)
row_offer_is now ready None = λ c from. (refl, either_none (leb ready c) None refl)
row_offer_is now ready (Some place) = record {
  from_now = omega arith;
  none_before = λ c from sooner. (refl, cond-false (leb ready c) (Some place) None (lt-leb ready c (omega arith)));
  then_is = (refl, cond-true (leb ready (max now ready)) (Some place) None (le-leb ready (max now ready) (omega arith)));
}

-- the best offer is that of any other functions that give the same places in each cycle from now on
pub best_same : (now : ℕ) (h r h2 r2 : ℕ → Option ℕ) (o : Option Offer) → ((c : ℕ) → now ≤ c → h c ≡ h2 c) → ((c : ℕ) → now ≤ c → r c ≡ r2 c) → IsBest now h r o → IsBest now h2 r2 o
best_same now h r h2 r2 None same_h same_r best = λ c from. (sym (same_h c from) ∙ (best c from).0, sym (same_r c from) ∙ (best c from).1)
best_same now h r h2 r2 (Some o) same_h same_r best = record {
  from_now = best.from_now;
  none_before = λ c from sooner. (sym (same_h c from) ∙ (best.none_before c from sooner).0, sym (same_r c from) ∙ (best.none_before c from sooner).1);
  then_is = subst (λ x. IsAt o.hit x (r2 o.cycle) o.place) (same_h o.cycle best.from_now) (subst (λ x. IsAt o.hit (h o.cycle) x o.place) (same_r o.cycle best.from_now) best.then_is);
}
