-- No queue has more requests than there are credits.
use Rattle.std.proofs.Common.{◌≡◌, ℕ, zero, suc, ◌+◌, ◌-◌, ◌*◌, ◌<◌, ◌≤◌, Bool, true, false, ◌&&◌, eqb, ltb, List, [], ◌∷◌, length, refl, sym, ap, subst, ◌∙◌, ◌⊎◌, inl, inr, arith}
use Rattle.std.specs.Prelude.{count_by, filter, not}
use Rattle.std.specs.List.{AllByRecursion as Each}
use Rattle.std.proofs.lemmas.Bool.{and_parts, and_from, and_left, eq-eqb, lt-ltb, le-ltb, ltb-true, cases_lt}
use Rattle.std.proofs.lemmas.List.Sums.{length-filter}
use Rattle.sim_base.specs.declared.message.Access.{Access}
use Rattle.sim_base.specs.declared.message.Access.TheVariants as access
use Rattle.sim_base.specs.Access.{is_access}
use Rattle.sim_base.specs.declared.config.Config.{Config}
use Rattle.sim_base.specs.History.{inbox, issued_commands}
use Rattle.sim_base.specs.Scheduling.{is_served, is_queued, queued_requests, queue_in}
use Rattle.sim_base.specs.Machine.{run}
use Rattle.sim_base.specs.declared.message.Request.{Request}
use Rattle.sim_base.specs.declared.message.Unit.TheVariants.{Channel}
use Rattle.sim_base.specs.declared.trace.Entry.{Entry}
use Rattle.sim_base.proofs.Arrived.{arrived}
use Rattle.sim_base.proofs.Ordered.{Each-weaker}
use Rattle.sim_base.proofs.Same.{queue-same}
use Rattle.sim_base.proofs.Spans.{inbox-run, inbox-stamped}
use Rattle.sim_base.proofs.Grows.{has_channels}
use Rattle.laws.specs.Commands.{channel_steps_of, history_of}
use Rattle.laws.specs.Credits.{QueuesAreBounded}
use Rattle.laws.proofs.Conserved.{is_of, unserved, unserved-bound}
use Rattle.laws.proofs.Counting.{count-none, count-weaker, count-weaker_each, count-split}
use Rattle.laws.proofs.Legal.{take-channel_steps_of}
use Rattle.laws.proofs.Traced.{requests_to, requests-traced}
use Rattle.statistics.proofs.RunSteps.{travels}

-- the requests of the first n cores, where there are no more than b of each
first_cores : (p : Request → Bool) (xs : List Request) (b n : ℕ) → ((c : ℕ) → c < n → count_by (λ r. eqb r.core c && p r) xs ≤ b) → count_by (λ r. ltb r.core n && p r) xs ≤ n * b
first_cores p xs b zero h =
    let e : count_by (λ r. ltb r.core 0 && p r) xs ≡ 0 = none xs in
    omega arith
  where
    none : (ys : List Request) → count_by (λ r. ltb r.core 0 && p r) ys ≡ 0
    none ys = count-none (λ r. ltb r.core 0 && p r) ys (every ys)
      where
        every : (zs : List Request) → Each (λ r. (ltb r.core 0 && p r) ≡ false) zs
        every [] = tt
        every (z ∷ zs) = (and_left (ltb z.core 0) (p z) (le-ltb z.core 0 (omega arith)), every zs)
first_cores p xs b (suc n) h =
    let rest : count_by (λ r. ltb r.core n && p r) xs ≤ n * b = first_cores p xs b n (λ c l. h c (omega arith)) in
    let here : count_by (λ r. eqb r.core n && p r) xs ≤ b = h n (omega arith) in
    let split : count_by (λ r. ltb r.core (suc n) && p r) xs ≤ count_by (λ r. ltb r.core n && p r) xs + count_by (λ r. eqb r.core n && p r) xs =
    count-split (λ r. ltb r.core (suc n) && p r) (λ r. ltb r.core n && p r) (λ r. eqb r.core n && p r) (λ r k. either r k) xs in
    omega arith
  where
    either : (r : Request) → (ltb r.core (suc n) && p r) ≡ true → ((ltb r.core n && p r) ≡ true) ⊎ ((eqb r.core n && p r) ≡ true)
    either r k =
        let both = and_parts (ltb r.core (suc n)) (p r) k in
        let soon = ltb-true r.core (suc n) both.0 in
        go both.1 soon (cases_lt r.core n)
      where
        go : p r ≡ true → r.core < suc n → (r.core < n) ⊎ (n ≤ r.core) → ((ltb r.core n && p r) ≡ true) ⊎ ((eqb r.core n && p r) ≡ true)
        go e l (inl m) = inl (and_from (ltb r.core n) (p r) (lt-ltb r.core n m) e)
        go e l (inr m) = inr (and_from (eqb r.core n) (p r) (eq-eqb r.core n (omega arith)) e)

all_cores : (p : Request → Bool) (xs : List Request) (b n : ℕ) → Each (λ (r : Request). r.core < n) xs → ((c : ℕ) → c < n → count_by (λ r. eqb r.core c && p r) xs ≤ b) → count_by p xs ≤ n * b
all_cores p xs b n k h =
    let a = first_cores p xs b n h in
    let c : count_by p xs ≤ count_by (λ r. ltb r.core n && p r) xs =
    count-weaker_each p (λ r. ltb r.core n && p r) xs
    (Each-weaker _ (λ r. p r ≡ true → (ltb r.core n && p r) ≡ true) (λ r l e. and_from (ltb r.core n) (p r) (lt-ltb r.core n l) e) xs k) in
    omega arith

is_unserved : Config → List (List Entry) → ℕ → ℕ → Request → Bool
is_unserved s traces n k r = not (is_served (history_of s traces n k) r)

-- of a core, reads and writes
of_core : (s : Config) (traces : List (List Entry)) (n k c : ℕ) → k < s.channels → c < s.cores
    → count_by (λ r. eqb r.core c && is_unserved s traces n k r) (requests_to s traces n k) ≤ s.read_credits + s.write_credits
unfolding unserved is_unserved
of_core s traces n k c l m =
    let a = unserved-bound s traces n c k access.Read m l in
    let b = unserved-bound s traces n c k access.Write m l in
    let d = count-split (λ r. eqb r.core c && not (is_served (history_of s traces n k) r))
    (λ r. is_of c access.Read r && not (is_served (history_of s traces n k) r)) (λ r. is_of c access.Write r && not (is_served (history_of s traces n k) r)) either (requests_to s traces n k) in
    omega arith
  where
    kind : (r : Request) (a : Access) → r.access ≡ a → eqb r.core c ≡ true → (is_of c access.Read r ≡ true) ⊎ (is_of c access.Write r ≡ true)
    kind r access.Write e h = inr (and_from (eqb r.core c) _ h (ap (is_access access.Write) e))
    kind r access.Read e h = inl (and_from (eqb r.core c) _ h (ap (is_access access.Read) e))

    both : (r : Request) → not (is_served (history_of s traces n k) r) ≡ true → (is_of c access.Read r ≡ true) ⊎ (is_of c access.Write r ≡ true)
        → ((is_of c access.Read r && not (is_served (history_of s traces n k) r)) ≡ true) ⊎ ((is_of c access.Write r && not (is_served (history_of s traces n k) r)) ≡ true)
    both r e (inl f) = inl (and_from (is_of c access.Read r) _ f e)
    both r e (inr f) = inr (and_from (is_of c access.Write r) _ f e)

    either : (r : Request) → (eqb r.core c && not (is_served (history_of s traces n k) r)) ≡ true
        → ((is_of c access.Read r && not (is_served (history_of s traces n k) r)) ≡ true) ⊎ ((is_of c access.Write r && not (is_served (history_of s traces n k) r)) ≡ true)
    either r h = let parts = and_parts (eqb r.core c) (not (is_served (history_of s traces n k) r)) h in both r parts.1 (kind r r.access refl parts.0)

-- no more requests wait than there are credits, whenever they arrived
pub queued_requests-bound : (s : Config) (traces : List (List Entry)) (n k until : ℕ) → k < s.channels
    → length (queued_requests (history_of s traces n k) (inbox s traces (run s traces n) (Channel k)) until) ≤ s.cores * (s.read_credits + s.write_credits)
unfolding queued_requests is_unserved
queued_requests-bound s traces n k until l =
    let xs = requests_to s traces n k in
    let p = is_queued (history_of s traces n k) until in
    let q = λ (r : Request). not (is_served (history_of s traces n k) r) in
    let a : length (filter p xs) ≡ count_by p xs = length-filter p xs in
    let b : count_by p xs ≤ count_by q xs = count-weaker p q (λ r h. (and_parts (ltb r.arrival until) (q r) h).1) xs in
    let c : count_by q xs ≤ s.cores * (s.read_credits + s.write_credits) =
    all_cores q xs (s.read_credits + s.write_credits) s.cores (Each-weaker _ (λ (r : Request). r.core < s.cores) (λ r h. h.0.core) xs (requests-traced s traces n k))
    (λ c m. of_core s traces n k c l m) in
    omega arith

-- the queue in a cycle does not depend on what is done from then on
pub queue-then : (s : Config) (traces : List (List Entry)) (k : ℕ) → k < s.channels → (n t : ℕ) → t ≤ n
    → queue_in k (channel_steps_of s traces n k) (inbox s traces (run s traces n) (Channel k)) t ≡ queued_requests (history_of s traces t k) (inbox s traces (run s traces t) (Channel k)) (t + 1)
unfolding queue_in
queue-then s traces k l n t h =
    let now = inbox s traces (run s traces t) (Channel k) in
    let then = inbox s traces (run s traces n) (Channel k) in
    let e : t + (n - t) ≡ n = omega arith in
    queue-same k (channel_steps_of s traces n k) then now t
    (record {
      one = inbox-stamped s traces (run s traces n) (Channel k);
      other = inbox-stamped s traces (run s traces t) (Channel k);
      same = λ u b. ap (λ i. arrived (inbox s traces (run s traces i) (Channel k)) u) (sym e) ∙ inbox-run s traces t 1 (Channel k) u (has_channels s) (travels s) b (n - t);
    })
    ∙ ap (λ steps. queued_requests (issued_commands k steps) now (t + 1)) (take-channel_steps_of s traces k l n t h)

pub queues_are_bounded : (s : Config) (traces : List (List Entry)) (n : ℕ) → QueuesAreBounded s traces n
queues_are_bounded s traces n k t l h =
    subst (λ q. length q ≤ s.cores * (s.read_credits + s.write_credits)) (sym (queue-then s traces k l n t h)) (queued_requests-bound s traces t k (t + 1) l)
