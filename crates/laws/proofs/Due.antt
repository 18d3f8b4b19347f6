-- When refreshes are due, and what a channel does then.
use Rattle.std.proofs.Common.{◌≡◌, ℕ, zero, suc, ◌+◌, ◌-◌, ◌/◌, ◌<◌, ◌≤◌, Bool, true, false, cond, eqb, ltb, List, length, Option, Some, None, refl, sym, ap, ap₂, subst, ◌∙◌, ◌⊎◌, inl, inr, arith, add-zero}
use Rattle.std.specs.Prelude.{count_by, find}
use Rattle.std.specs.Option.{IfSome, MatchOption}
use Rattle.std.proofs.lemmas.Bool.{false≢true, cond_both, cond-true, cond-false, eqb-true, ltb-true, eq-eqb, false_from_ne_true, ne_eqb, cases_lt}
use Rattle.std.proofs.lemmas.Nat.{le-div}
use Rattle.std.proofs.Math.Nat.{div-mul-le_self}
use Rattle.sim_base.specs.declared.config.Config.{Config}
use Rattle.sim_base.specs.History.{below, steps_of_channel, issued_commands, inbox}
use Rattle.sim_base.specs.Rules.{has_open_bank, is_legal}
use Rattle.sim_base.specs.Scheduling.{queue_in, candidates, drains, needed_at, column_command, first_ready, refreshes, due, lowest_due, refresh_command, if_legal, choice_between, choice}
use Rattle.sim_base.specs.Machine.{run}
use Rattle.sim_base.specs.declared.command.Command.TheVariants.{Prea, Ref}
use Rattle.sim_base.specs.declared.command.IssuedCommand.{IssuedCommand}
use Rattle.sim_base.specs.declared.message.Request.{Request}
use Rattle.sim_base.specs.declared.message.Unit.TheVariants.{Channel}
use Rattle.sim_base.specs.declared.trace.Entry.{Entry}
use Rattle.sim_base.proofs.Accesses.{column_both}
use Rattle.laws.specs.Commands.{channel_steps_of, history_of}
use Rattle.laws.proofs.Chosen.{find-passes, first_ready-needed}
use Rattle.laws.proofs.Counting.{test_in}
use Rattle.laws.proofs.Lists.{FailsBefore, find-range}
use Rattle.laws.proofs.Legal.{chosen, length-channel_steps_of, count-history_of}

-- the REFs of a rank before a cycle
abbrev pub refreshed : Config → List (List Entry) → ℕ → ℕ → ℕ → ℕ
refreshed s traces k rank t = count_by (λ (i : IssuedCommand). refreshes rank i.command) (history_of s traces t k)

pub refreshed-more : (s : Config) (traces : List (List Entry)) (k rank t : ℕ) → k < s.channels
    → refreshed s traces k rank (suc t) ≡ refreshed s traces k rank t + cond (test_in (refreshes rank) (chosen s traces t k)) 1 0
refreshed-more s traces k rank t l = count-history_of (refreshes rank) s traces t k l

pub refreshed-none : (s : Config) (traces : List (List Entry)) (k rank : ℕ) → refreshed s traces k rank 0 ≡ 0
unfolding run steps_of_channel issued_commands
refreshed-none s traces k rank = refl

-- a rank has a refresh due
abbrev pub is_due : Config → List (List Entry) → ℕ → ℕ → ℕ → Bool
is_due s traces k t rank = ltb 0 (due s rank (history_of s traces t k) t)

-- what is chosen, by the lowest rank with a refresh that is due
choice-lowest : (s : Config) (traces : List (List Entry)) (k t : ℕ) → (requests : List Request)
    × (chosen s traces t k ≡ choice_between s (history_of s traces t k) t requests (lowest_due s (history_of s traces t k) t))
unfolding choice
choice-lowest s traces k t =
    let steps = channel_steps_of s traces t k in
    let mail = inbox s traces (run s traces t) (Channel k) in
    let e : length steps ≡ t = length-channel_steps_of s traces t k in (
      candidates s (drains s k steps mail t) (queue_in k steps mail t),
      ap (λ i. choice_between s (history_of s traces t k) i (candidates s (drains s k steps mail i) (queue_in k steps mail i)) (lowest_due s (history_of s traces t k) i)) e,
    )

pub chosen-refresh : (s : Config) (traces : List (List Entry)) (k t rank : ℕ) → lowest_due s (history_of s traces t k) t ≡ Some rank
    → chosen s traces t k ≡ if_legal s (history_of s traces t k) t (refresh_command s (history_of s traces t k) rank)
unfolding choice_between
chosen-refresh s traces k t rank e =
    let c = choice-lowest s traces k t in
    c.1 ∙ ap (choice_between s (history_of s traces t k) t c.0) e

-- a request needs no refresh
needed-no_refresh : (rank : ℕ) (r : Request) (o : Option ℕ) → refreshes rank (needed_at o r) ≡ false
needed-no_refresh rank r None = refl
needed-no_refresh rank r (Some row) =
    cond_both (eqb row r.place.row) (column_command r) _ (λ c. refreshes rank c ≡ false) (λ e. column_both (λ c. refreshes rank c ≡ false) r.access _ _ _ _ (λ f. refl) (λ f. refl)) (λ e. refl)

-- a refresh is issued only where it is due
if_legal-refresh : (s : Config) (traces : List (List Entry)) (k t rank other : ℕ) → is_due s traces k t other ≡ true
    → test_in (refreshes rank) (if_legal s (history_of s traces t k) t (refresh_command s (history_of s traces t k) other)) ≡ true → is_due s traces k t rank ≡ true
unfolding if_legal refresh_command
if_legal-refresh s traces k t rank other d h =
    let history = history_of s traces t k in
    cond_both (is_legal s history t (cond (has_open_bank s history other) (Prea other) (Ref other))) (Some (cond (has_open_bank s history other) (Prea other) (Ref other))) None
    (λ o. test_in (refreshes rank) o ≡ true → is_due s traces k t rank ≡ true)
    (λ e. cond_both (has_open_bank s history other) (Prea other) (Ref other) (λ c. refreshes rank c ≡ true → is_due s traces k t rank ≡ true)
    (λ f g. absurd (false≢true g))
    (λ f g. ap (is_due s traces k t) (sym (eqb-true other rank g)) ∙ d))
    (λ e g. absurd (false≢true g)) h

test_in-false : {X : Type 0} (p : X → Bool) (o : Option X) → IfSome o (λ x. p x ≡ false) → test_in p o ≡ false
test_in-false p None h = refl
test_in-false p (Some x) h = h

pub lowest-due : (s : Config) (traces : List (List Entry)) (k t rank : ℕ) → lowest_due s (history_of s traces t k) t ≡ Some rank → is_due s traces k t rank ≡ true
unfolding lowest_due
lowest-due s traces k t rank e = subst (λ o. IfSome o (λ x. is_due s traces k t x ≡ true)) e (find-passes (is_due s traces k t) (below s.ranks))

pub refresh-due : (s : Config) (traces : List (List Entry)) (k t rank : ℕ) → test_in (refreshes rank) (chosen s traces t k) ≡ true → is_due s traces k t rank ≡ true
unfolding choice_between
refresh-due s traces k t rank h =
    let c = choice-lowest s traces k t in
    go c.0 c.1 (lowest_due s (history_of s traces t k) t) refl
  where
    go : (requests : List Request) → chosen s traces t k ≡ choice_between s (history_of s traces t k) t requests (lowest_due s (history_of s traces t k) t)
        → (o : Option ℕ) → lowest_due s (history_of s traces t k) t ≡ o → is_due s traces k t rank ≡ true
    go requests c None e =
        absurd (false≢true (sym (test_in-false (refreshes rank) (first_ready s (history_of s traces t k) t requests)
        (first_ready-needed (λ x. refreshes rank x ≡ false) s (history_of s traces t k) t requests (needed-no_refresh rank)))
        ∙ ap (test_in (refreshes rank)) (sym (c ∙ ap (choice_between s (history_of s traces t k) t requests) e)) ∙ h))
    go requests c (Some other) e =
        if_legal-refresh s traces k t rank other (lowest-due s traces k t other e) (ap (test_in (refreshes rank)) (sym (chosen-refresh s traces k t other e)) ∙ h)

-- what is due
pub due-more : (s : Config) (history : List IssuedCommand) (rank t : ℕ) → 0 < due s rank history t → count_by (λ (i : IssuedCommand). refreshes rank i.command) history < t / s.timing.n_refi
unfolding due
due-more s history rank t h = go (eqb s.timing.n_refi 0) h
  where
    count : ℕ
    count = count_by (λ (i : IssuedCommand). refreshes rank i.command) history

    go : (b : Bool) → 0 < cond b 0 (t / s.timing.n_refi - count) → count < t / s.timing.n_refi
    go true l = absurd (omega arith)
    go false l = omega arith

pub due-from : (s : Config) (history : List IssuedCommand) (rank t : ℕ) → 0 < s.timing.n_refi → due s rank history t ≡ t / s.timing.n_refi - count_by (λ (i : IssuedCommand). refreshes rank i.command) history
unfolding due
due-from s history rank t h = cond-false _ _ _ (ne_eqb s.timing.n_refi 0 (λ e. omega arith))

quotient_later : (n a b : ℕ) → a ≤ b → a / n ≤ b / n
quotient_later zero a b h = omega arith
quotient_later (suc n) a b h = le-div (a / suc n) b (suc n) (omega arith) (let l = div-mul-le_self a (suc n) in omega arith)

early_step : (s : Config) (traces : List (List Entry)) (k rank t : ℕ) → k < s.channels → refreshed s traces k rank t ≤ t / s.timing.n_refi → refreshed s traces k rank (suc t) ≤ t / s.timing.n_refi
early_step s traces k rank t l h = go (test_in (refreshes rank) (chosen s traces t k)) refl (refreshed-more s traces k rank t l)
  where
    go : (b : Bool) → test_in (refreshes rank) (chosen s traces t k) ≡ b → refreshed s traces k rank (suc t) ≡ refreshed s traces k rank t + cond b 1 0
        → refreshed s traces k rank (suc t) ≤ t / s.timing.n_refi
    go true e f =
        let a = due-more s (history_of s traces t k) rank t (ltb-true _ _ (refresh-due s traces k t rank e)) in
        omega arith
    go false e f = omega arith

early_before : (s : Config) (traces : List (List Entry)) (k rank : ℕ) → k < s.channels → (t : ℕ) → refreshed s traces k rank t ≤ t / s.timing.n_refi
early_before s traces k rank l zero = let e = refreshed-none s traces k rank in omega arith
early_before s traces k rank l (suc t) =
    let a = early_step s traces k rank t l (early_before s traces k rank l t) in
    let b = quotient_later s.timing.n_refi t (suc t) (omega arith) in
    omega arith

-- no rank has more refreshes than were due
pub not_early : (s : Config) (traces : List (List Entry)) (k rank : ℕ) → k < s.channels → (t : ℕ) → refreshed s traces k rank (suc t) ≤ t / s.timing.n_refi
not_early s traces k rank l t = early_step s traces k rank t l (early_before s traces k rank l t)

-- where there are no refreshes, none is issued
none_due : (s : Config) (history : List IssuedCommand) (rank t : ℕ) → s.timing.n_refi ≡ 0 → due s rank history t ≡ 0
unfolding due
none_due s history rank t z = cond-true _ _ _ (eq-eqb s.timing.n_refi 0 z)

pub not_wanted : (s : Config) (traces : List (List Entry)) (k rank : ℕ) → k < s.channels → s.timing.n_refi ≡ 0 → (t : ℕ) → refreshed s traces k rank t ≡ 0
not_wanted s traces k rank l z zero = refreshed-none s traces k rank
not_wanted s traces k rank l z (suc t) =
    refreshed-more s traces k rank t l
    ∙ ap₂ (λ n b. n + cond b 1 0) (not_wanted s traces k rank l z t)
    (false_from_ne_true (test_in (refreshes rank) (chosen s traces t k))
    (λ e. let a = ltb-true _ _ (refresh-due s traces k t rank e) in let b = none_due s (history_of s traces t k) rank t z in omega arith))

pub refreshed-later : (s : Config) (traces : List (List Entry)) (k rank a : ℕ) → k < s.channels → (d : ℕ) → refreshed s traces k rank a ≤ refreshed s traces k rank (a + d)
refreshed-later s traces k rank a l zero = let e = ap (refreshed s traces k rank) (add-zero a) in omega arith
refreshed-later s traces k rank a l (suc d) =
    let e : a + suc d ≡ suc (a + d) = omega arith in
    let f = ap (refreshed s traces k rank) e in
    let g = refreshed-more s traces k rank (a + d) l in
    let rest : refreshed s traces k rank a ≤ refreshed s traces k rank (a + d) = refreshed-later s traces k rank a l d in
    omega arith

-- refreshes are never undone
pub refreshed-by : (s : Config) (traces : List (List Entry)) (k rank a b : ℕ) → k < s.channels → a ≤ b → refreshed s traces k rank a ≤ refreshed s traces k rank b
refreshed-by s traces k rank a b l h =
    let e : a + (b - a) ≡ b = omega arith in
    let f = ap (refreshed s traces k rank) e in
    let g = refreshed-later s traces k rank a l (b - a) in
    omega arith

find_first : (p : ℕ → Bool) (n j : ℕ) → j < n → p j ≡ true → (i : ℕ) × (find p (below n) ≡ Some i) × (i ≤ j)
find_first p n j l h = go (find p (below n)) refl (find-range p 0 n)
  where
    go : (o : Option ℕ) → find p (below n) ≡ o → MatchOption o (FailsBefore p 0 (0 + n)) (FailsBefore p 0) → (i : ℕ) × (find p (below n) ≡ Some i) × (i ≤ j)
    go None e f = absurd (false≢true (sym (f j (omega arith) (omega arith)) ∙ h))
    go (Some i) e f = (i, e, before (cases_lt j i))
      where
        before : (j < i) ⊎ (i ≤ j) → i ≤ j
        before (inl b) = absurd (false≢true (sym (f j (omega arith) b) ∙ h))
        before (inr b) = b

-- where a rank has a refresh due, the lowest such rank is that one or a lower one
pub lowest-at : (s : Config) (traces : List (List Entry)) (k t j : ℕ) → j < s.ranks → is_due s traces k t j ≡ true
    → (i : ℕ) × (lowest_due s (history_of s traces t k) t ≡ Some i) × (i ≤ j)
unfolding lowest_due
lowest-at s traces k t j l h = find_first (is_due s traces k t) s.ranks j l h
