-- The best offer so far.
use Rattle.std.proofs.Common.{◌≡◌, ℕ, ◌<◌, ◌≤◌, Bool, true, false, cond, ltb, eqb, max, min, Option, Some, None, refl, sym, ap, subst, ◌∙◌, inl, inr, arith}
use Rattle.std.proofs.lemmas.Bool.{cases_lt, cases_eq, eq-eqb, ne_eqb, lt-ltb, le-ltb, cond-true, cond-false}
use Rattle.sim_base.specs.Earlier.{earlier}
use Rattle.queue.proofs.BankCandidatesServed.{earlier_none}
use Rattle.channel_step.specs.declared.fr_fcfs.offers.Offer.{Offer}
use Rattle.channel_step.specs.FrFcfs.Offers.{goes_before, no_offer, if_within, offer_from, IsAt, IsBestOffer, IsBest, IsBestSoFar}
use Rattle.channel_step.proofs.FrFcfs.Bests.{better_is, second_alone_is, best_same}

hit_or : (hit test : Bool) → test ≡ true → cond hit true test ≡ true
hit_or true test is = refl
hit_or false test is = is

-- all offers go before what stands for none
before_none : (room : ℕ) (o : Offer) → o.place < room → o.cycle ≤ 18446744073709551615 → goes_before o (no_offer room) ≡ true
before_none room o inside fits = elim (cases_eq o.cycle 18446744073709551615) [
  | inl same ↦
      cond-true (eqb o.cycle 18446744073709551615) (cond o.hit true (ltb o.place room)) (ltb o.cycle 18446744073709551615) (eq-eqb o.cycle 18446744073709551615 same)
      ∙ hit_or o.hit (ltb o.place room) (lt-ltb o.place room inside)
  | inr apart ↦
      cond-false (eqb o.cycle 18446744073709551615) (cond o.hit true (ltb o.place room)) (ltb o.cycle 18446744073709551615) (ne_eqb o.cycle 18446744073709551615 apart)
      ∙ lt-ltb o.cycle 18446744073709551615 (below o.cycle 18446744073709551615 fits apart)
]
  where
    below : (m n : ℕ) → m ≤ n → (m ≡ n → ⊥) → m < n
    below m n fits apart = elim (cases_lt m n) [
      | inl less ↦ less
      | inr more ↦ absurd (apart (omega arith))
    ]

-- an offer with one of `room` places
offer_within : (room : ℕ) (o : Offer) → o.place < room → if_within room o ≡ Some o
offer_within room o inside = cond-true (ltb o.place room) (Some o) None (lt-ltb o.place room inside)

offer_without : (room : ℕ) (o : Offer) → room ≤ o.place → if_within room o ≡ None
offer_without room o outside = cond-false (ltb o.place room) (Some o) None (le-ltb o.place room outside)

-- the offer that is the best, with one of `room` places
best_so_far : (room now : ℕ) (h r : ℕ → Option ℕ) (o : Offer) → o.place < room → IsBestOffer now h r o → IsBestSoFar room now h r o
best_so_far room now h r o inside best = record {
  none = λ outside. absurd (omega arith);
  best = subst (IsBest now h r) (sym (offer_within room o inside)) best;
}

picked : (room : ℕ) (flag : Bool) (a b : Offer) → a.place < room → b.place < room → (cond flag a b).place < room
picked room true a b in_a in_b = in_a
picked room false a b in_a in_b = in_b

-- before the first offer
pub none_so_far : (room now : ℕ) (h r : ℕ → Option ℕ) → ((c : ℕ) → now ≤ c → h c ≡ None) → ((c : ℕ) → now ≤ c → r c ≡ None) → IsBestSoFar room now h r (no_offer room)
none_so_far room now h r none_h none_r = record {
  none = λ outside. refl;
  best = subst (IsBest now h r) (sym (offer_without room (no_offer room) (omega arith))) (λ c from. (none_h c from, none_r c from));
}

-- with one offer more
pub one_more : (room now : ℕ) (h r h2 r2 : ℕ → Option ℕ) (best o : Offer) → o.place < room → o.cycle ≤ 18446744073709551615 → IsBestSoFar room now h r best → IsBestOffer now h2 r2 o
    → IsBestSoFar room now (λ c. earlier (h c) (h2 c)) (λ c. earlier (r c) (r2 c)) (cond (goes_before o best) o best)
one_more room now h r h2 r2 best o inside fits so_far offered = elim (cases_lt best.place room) [
  | inl within ↦
      let first = subst (IsBest now h r) (offer_within room best within) so_far.best in
      best_so_far room now (λ c. earlier (h c) (h2 c)) (λ c. earlier (r c) (r2 c)) (cond (goes_before o best) o best) (picked room (goes_before o best) o best inside within)
      (better_is now h r h2 r2 best o (goes_before o best) refl first offered)
  | inr outside ↦
      let never = subst (IsBest now h r) (offer_without room best outside) so_far.best in
      let goes : goes_before o best ≡ true = ap (goes_before o) (so_far.none outside) ∙ before_none room o inside fits in
      subst (IsBestSoFar room now (λ c. earlier (h c) (h2 c)) (λ c. earlier (r c) (r2 c))) (sym (cond-true (goes_before o best) o best goes))
      (best_so_far room now (λ c. earlier (h c) (h2 c)) (λ c. earlier (r c) (r2 c)) o inside (second_alone_is now h r h2 r2 (Some o) never offered))
]

-- the best offer so far is that of any other functions that give the same places in each cycle from now on
pub so_far_same : (room now : ℕ) (h r h2 r2 : ℕ → Option ℕ) (o : Offer) → ((c : ℕ) → now ≤ c → h c ≡ h2 c) → ((c : ℕ) → now ≤ c → r c ≡ r2 c) → IsBestSoFar room now h r o
    → IsBestSoFar room now h2 r2 o
so_far_same room now h r h2 r2 o same_h same_r so_far = record {
  none = so_far.none;
  best = best_same now h r h2 r2 (if_within room o) same_h same_r so_far.best;
}

-- what there is when all are looked at
pub found : (room now : ℕ) (h r : ℕ → Option ℕ) (o : Offer) → o.place < room → IsBestSoFar room now h r o → IsBest now h r (Some o)
found room now h r o inside so_far = subst (IsBest now h r) (offer_within room o inside) so_far.best

pub none_found : (room now : ℕ) (h r : ℕ → Option ℕ) (o : Offer) → room ≤ o.place → IsBestSoFar room now h r o → IsBest now h r None
none_found room now h r o outside so_far = subst (IsBest now h r) (offer_without room o outside) so_far.best

-- hits that are ready only after the best offer change nothing
pub hits_late : (room now floor : ℕ) (hits rows late_hits : ℕ → Option ℕ) (o : Offer) → o.cycle < floor → floor ≤ 18446744073709551615 → ((c : ℕ) → c < floor → late_hits c ≡ None)
    → IsBestSoFar room now hits rows o → IsBestSoFar room now (λ c. earlier (hits c) (late_hits c)) rows o
hits_late room now floor hits rows late_hits o late fits none so_far = elim (cases_lt o.place room) [
  | inl within ↦
      let best = subst (IsBest now hits rows) (offer_within room o within) so_far.best in
      best_so_far room now (λ c. earlier (hits c) (late_hits c)) rows o within
      (record {
        from_now = best.from_now;
        none_before = λ c from before. let before_it = best.none_before c from before in (ap (earlier (hits c)) (none c (omega arith)) ∙ earlier_none (hits c) ∙ before_it.0, before_it.1);
        then_is = subst (λ x. IsAt o.hit x (rows o.cycle) o.place) (sym (ap (earlier (hits o.cycle)) (none o.cycle late) ∙ earlier_none (hits o.cycle))) best.then_is;
      })
  | inr outside ↦
      let last : o.cycle ≡ 18446744073709551615 = ap (λ x. x.cycle) (so_far.none outside) in
      absurd (omega arith)
]

-- ACTs and PREs that are ready only after the best offer change nothing
pub rows_late : (room now floor : ℕ) (hits rows late_rows : ℕ → Option ℕ) (o : Offer) → o.cycle < floor → floor ≤ 18446744073709551615 → ((c : ℕ) → c < floor → late_rows c ≡ None)
    → IsBestSoFar room now hits rows o → IsBestSoFar room now hits (λ c. earlier (rows c) (late_rows c)) o
rows_late room now floor hits rows late_rows o late fits none so_far = elim (cases_lt o.place room) [
  | inl within ↦
      let best = subst (IsBest now hits rows) (offer_within room o within) so_far.best in
      best_so_far room now hits (λ c. earlier (rows c) (late_rows c)) o within
      (record {
        from_now = best.from_now;
        none_before = λ c from before. let before_it = best.none_before c from before in (before_it.0, ap (earlier (rows c)) (none c (omega arith)) ∙ earlier_none (rows c) ∙ before_it.1);
        then_is = subst (λ x. IsAt o.hit (hits o.cycle) x o.place) (sym (ap (earlier (rows o.cycle)) (none o.cycle late) ∙ earlier_none (rows o.cycle))) best.then_is;
      })
  | inr outside ↦
      let last : o.cycle ≡ 18446744073709551615 = ap (λ x. x.cycle) (so_far.none outside) in
      absurd (omega arith)
]

pub earlier_assoc : (a b c : Option ℕ) → earlier (earlier a b) c ≡ earlier a (earlier b c)
earlier_assoc None b c = refl
earlier_assoc (Some i) None c = refl
earlier_assoc (Some i) (Some j) None = refl
earlier_assoc (Some i) (Some j) (Some k) = let same : min (min i j) k ≡ min i (min j k) = omega arith in ap Some same

-- a candidate whose need may be issued from a cycle on is taken where that goes before the best offer so far
pub record IsTaken (candidate : Option ℕ) (now ready : ℕ) (hit : Bool) (best after : Offer) : Type 0 where
  pub some : (place : ℕ) → candidate ≡ Some place → after ≡ cond (goes_before (offer_from now ready hit place) best) (offer_from now ready hit place) best
  pub none : candidate ≡ None → after ≡ best

later_stays : (now ready place : ℕ) (hit : Bool) (best : Offer) → best.cycle < ready → goes_before (offer_from now ready hit place) best ≡ false
later_stays now ready place hit best late =
    cond-false (eqb (max now ready) best.cycle) (cond hit (cond best.hit (ltb place best.place) true) (cond best.hit false (ltb place best.place))) (ltb (max now ready) best.cycle)
    (ne_eqb (max now ready) best.cycle (λ e. omega arith))
    ∙ le-ltb (max now ready) best.cycle (omega arith)

-- none is where that is later than the best offer
pub not_taken : (candidate : Option ℕ) (now ready : ℕ) (hit : Bool) (best : Offer) → best.cycle < ready → IsTaken candidate now ready hit best best
not_taken candidate now ready hit best late = record {
  some = λ place is. sym (cond-false (goes_before (offer_from now ready hit place) best) (offer_from now ready hit place) best (later_stays now ready place hit best late));
  none = λ is. refl;
}

-- a candidate is taken into the best offer so far, where there is one
pub taken : (candidate : Option ℕ) (now ready place : ℕ) (hit : Bool) (best after : Offer) → candidate ≡ Some place
    → after ≡ cond (goes_before (offer_from now ready hit place) best) (offer_from now ready hit place) best → IsTaken candidate now ready hit best after
taken candidate now ready place hit best after is after_is = record {
  some = λ other other_is.
      let same : place ≡ other = cc in
      after_is ∙ ap (λ k. cond (goes_before (offer_from now ready hit k) best) (offer_from now ready hit k) best) same;
  none = λ none. let never : Some place ≡ None = sym is ∙ none in cc;
}

-- none, where there is none
pub none_taken : (candidate : Option ℕ) (now ready : ℕ) (hit : Bool) (best : Offer) → candidate ≡ None → IsTaken candidate now ready hit best best
none_taken candidate now ready hit best is = record {
  some = λ place some. let never : None ≡ Some place = sym is ∙ some in cc;
  none = λ none. refl;
}
