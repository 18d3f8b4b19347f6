-- The least arrival, buffer by buffer.
use Rattle.std.proofs.Common.{ℕ, ◌+◌, ◌<◌, ◌≤◌, ◌≡◌, Bool, true, false, ◌&&◌, ◌||◌, eqb, min, List, [], ◌∷◌, ◌++◌, length, append_assoc, Option, Some, None, refl, sym, ap, ◌∙◌, subst, inl, inr, ◌⊎◌, arith}
use Rattle.std.specs.Prelude.{All, Any, fold}
use Rattle.std.specs.Option.{option_map_or, IfSome, IsSomeAnd, IsNone}
use Rattle.std.specs.List.{AllByRecursion as Each, list_any, list_all}
use Rattle.std.proofs.lemmas.Bool.{cond_both, eqb-true, eq-eqb, cases_lt, both_ways, true≢false, and_parts, or_right}
use Rattle.std.proofs.lemmas.List.Elements.{All-from_recursion}
use Rattle.std.proofs.lemmas.List.Folds.{Any-from_list_any}
use Rattle.std.proofs.Math.Bool.{or-false, or_comm, or_assoc}
use Rattle.sim_base.specs.History.{is_before, by_age}
use Rattle.sim_base.specs.declared.message.Message.{Message}
use Rattle.sim_base.proofs.Arrived.{put, puts, by_age-puts, Each-by_age, not_before_le}
use Rattle.sim_base.proofs.Each.{Each-append}
use Rattle.sim_base.proofs.Ordered.{Each-weaker, Sorted}
use Rattle.links.specs.Buffers.{Buffered, contents, joined, earlier_arrival, AreBuffers}
use Rattle.links.proofs.Ages.{in_order-Sorted, by_age-nil}

-- some message arrives in this cycle
abbrev pub IsArrival : Option ℕ → List Message → Type 0
IsArrival least ms = IfSome least (λ a. list_any (λ (m : Message). eqb m.arrival a) ms ≡ true)

lesser : (least : Option ℕ) (arrival bound : ℕ) → IsSomeAnd least (λ a. a ≤ bound) → option_map_or (λ cycle. min cycle arrival) least arrival ≤ bound
lesser None arrival bound h = absurd h
lesser (Some a) arrival bound h = omega arith

lesser_last : (least : Option ℕ) (arrival bound : ℕ) → arrival ≤ bound → option_map_or (λ cycle. min cycle arrival) least arrival ≤ bound
lesser_last None arrival bound h = h
lesser_last (Some a) arrival bound h = omega arith

pub arrival_more : (least : Option ℕ) (arrival : ℕ) (ms : List Message) → IsArrival least ms → list_any (λ (m : Message). eqb m.arrival arrival) ms ≡ true
    → list_any (λ (m : Message). eqb m.arrival (option_map_or (λ cycle. min cycle arrival) least arrival)) ms ≡ true
arrival_more None arrival ms h k = k
arrival_more (Some a) arrival ms h k = by (cases_lt a arrival)
  where
    by : (a < arrival) ⊎ (arrival ≤ a) → list_any (λ (m : Message). eqb m.arrival (min a arrival)) ms ≡ true
    by (inl l) = let e : a ≡ min a arrival = omega arith in subst (λ x. list_any (λ (m : Message). eqb m.arrival x) ms ≡ true) e h
    by (inr l) = let e : arrival ≡ min a arrival = omega arith in subst (λ x. list_any (λ (m : Message). eqb m.arrival x) ms ≡ true) e k

list_any-put : (p : Message → Bool) (m : Message) (ns : List Message) → list_any p (put m ns) ≡ (p m || list_any p ns)
list_any-put p m [] = refl
list_any-put p m (n ∷ ns) =
    cond_both (is_before m n) (m ∷ n ∷ ns) (n ∷ put m ns) (λ x. list_any p x ≡ (p m || list_any p (n ∷ ns)))
    (λ e. refl)
    (λ e. ap (λ b. p n || b) (list_any-put p m ns) ∙ sym (or_assoc (p n) (p m) (list_any p ns)) ∙ ap (λ b. b || list_any p ns) (or_comm (p n) (p m)) ∙ or_assoc (p m) (p n) (list_any p ns))

list_any-puts : (p : Message → Bool) (acc ms : List Message) → list_any p (puts acc ms) ≡ (list_any p ms || list_any p acc)
list_any-puts p acc [] = refl
list_any-puts p acc (m ∷ ms) =
    list_any-puts p (put m acc) ms ∙ ap (λ b. list_any p ms || b) (list_any-put p m acc)
    ∙ sym (or_assoc (list_any p ms) (p m) (list_any p acc)) ∙ ap (λ b. b || list_any p acc) (or_comm (list_any p ms) (p m))

list_any-by_age : (p : Message → Bool) (ms : List Message) → list_any p (by_age ms) ≡ list_any p ms
list_any-by_age p ms = ap (list_any p) (by_age-puts ms) ∙ list_any-puts p [] ms ∙ or-false (list_any p ms)

-- what is the least arrival over units is the least of the messages by age
pub least_of_all : (least : Option ℕ) (ms : List Message) → Each (λ (m : Message). IsSomeAnd least (λ a. a ≤ m.arrival)) ms → IfSome least (λ a. All (λ m. a ≤ m.arrival) (by_age ms))
least_of_all None ms h = tt
least_of_all (Some a) ms h = All-from_recursion (λ m. a ≤ m.arrival) (by_age ms) (Each-by_age (λ m. a ≤ m.arrival) ms h)

pub attained : (least : Option ℕ) (ms : List Message) → IsArrival least ms → IfSome least (λ a. Any (λ m. m.arrival ≡ a) (by_age ms))
attained None ms h = tt
attained (Some a) ms h =
    let w = Any-from_list_any (λ (m : Message). eqb m.arrival a) (by_age ms) (list_any-by_age (λ m. eqb m.arrival a) ms ∙ h) in
    (w.0, w.1, w.2, w.3, eqb-true w.1.arrival a w.4)

-- there is no least arrival just where there is no message
pub none_where_empty : (least : Option ℕ) (ms : List Message) → IsArrival least ms → by_age ms ≡ [] → IsNone least
none_where_empty None ms h e = refl
none_where_empty (Some a) ms h e =
    absurd (both_ways (list_any (λ (m : Message). eqb m.arrival a) ms)
    (sym (list_any-by_age (λ m. eqb m.arrival a) ms) ∙ ap (list_any (λ (m : Message). eqb m.arrival a)) e) h)

pub empty_where_none : (least : Option ℕ) (ms : List Message) → Each (λ (m : Message). IsSomeAnd least (λ a. a ≤ m.arrival)) ms → IsNone least → by_age ms ≡ []
empty_where_none None [] h e = by_age-puts []
empty_where_none None (m ∷ ms) h e = absurd h.0
empty_where_none (Some a) ms h e = absurd (true≢false e)

-- ---- buffer by buffer
abbrev earliest_of : Option ℕ → List (List Message) → Option ℕ
earliest_of least buffers = fold earlier_arrival least buffers

bound_kept : (least : Option ℕ) (bound : ℕ) (ms : List Message) → IsSomeAnd least (λ a. a ≤ bound) → IsSomeAnd (earlier_arrival least ms) (λ a. a ≤ bound)
bound_kept least bound [] h = h
bound_kept least bound (m ∷ ms) h = lesser least m.arrival bound h

bound_stays : (least : Option ℕ) (bound : ℕ) (buffers : List (List Message)) → IsSomeAnd least (λ a. a ≤ bound) → IsSomeAnd (earliest_of least buffers) (λ a. a ≤ bound)
bound_stays least bound [] h = h
bound_stays least bound (ms ∷ rest) h = bound_stays (earlier_arrival least ms) bound rest (bound_kept least bound ms h)

first_bounds : (least : Option ℕ) (ms : List Message) → Sorted ms → Each (λ (m : Message). IsSomeAnd (earlier_arrival least ms) (λ a. a ≤ m.arrival)) ms
first_bounds least [] s = tt
first_bounds least (m ∷ ms) s = (
  lesser_last least m.arrival m.arrival (omega arith),
  Each-weaker _ (λ (y : Message). option_map_or (λ cycle. min cycle m.arrival) least m.arrival ≤ y.arrival)
      (λ y h. lesser_last least m.arrival y.arrival (not_before_le y m h)) ms s.0,
)

reached : (ch first : ℕ) (least : Option ℕ) (buffers : List (List Message)) → AreBuffers ch first buffers → Each (λ (m : Message). IsSomeAnd (earliest_of least buffers) (λ a. a ≤ m.arrival)) (joined buffers)
reached ch first least [] h = tt
reached ch first least (ms ∷ rest) h =
    Each-append (λ (m : Message). IsSomeAnd (earliest_of (earlier_arrival least ms) rest) (λ a. a ≤ m.arrival)) ms (joined rest)
    (Each-weaker _ (λ (m : Message). IsSomeAnd (earliest_of (earlier_arrival least ms) rest) (λ a. a ≤ m.arrival)) (λ m b. bound_stays (earlier_arrival least ms) m.arrival rest b) ms
    (first_bounds least ms (in_order-Sorted ms h.0.in_order)))
    (reached ch (first + 1) (earlier_arrival least ms) rest h.1)

list_any-more : (p : Message → Bool) (xs ys : List Message) → list_any p xs ≡ true → list_any p (xs ++ ys) ≡ true
list_any-more p [] ys h = cc
list_any-more p (x ∷ xs) ys h = by (p x) (list_any-more p xs ys) h
  where
    by : (b : Bool) → (list_any p xs ≡ true → list_any p (xs ++ ys) ≡ true) → (b || list_any p xs) ≡ true → (b || list_any p (xs ++ ys)) ≡ true
    by true rest e = refl
    by false rest e = rest e

list_any-here : (p : Message → Bool) (xs : List Message) (m : Message) (ys : List Message) → p m ≡ true → list_any p (xs ++ m ∷ ys) ≡ true
list_any-here p [] m ys h = ap (λ b. b || list_any p ys) h
list_any-here p (x ∷ xs) m ys h = or_right (p x) (list_any p (xs ++ m ∷ ys)) (list_any-here p xs m ys h)

IsArrival-more : (least : Option ℕ) (xs ys : List Message) → IsArrival least xs → IsArrival least (xs ++ ys)
IsArrival-more None xs ys h = tt
IsArrival-more (Some a) xs ys h = list_any-more (λ (m : Message). eqb m.arrival a) xs ys h

sooner_arrives : (least : Option ℕ) (xs ms : List Message) → IsArrival least xs → IsArrival (earlier_arrival least ms) (xs ++ ms)
sooner_arrives least xs [] h = IsArrival-more least xs [] h
sooner_arrives least xs (m ∷ ms) h =
    arrival_more least m.arrival (xs ++ m ∷ ms) (IsArrival-more least xs (m ∷ ms) h) (list_any-here (λ (y : Message). eqb y.arrival m.arrival) xs m ms (eq-eqb m.arrival m.arrival refl))

earliest_arrives : (least : Option ℕ) (xs : List Message) (buffers : List (List Message)) → IsArrival least xs → IsArrival (earliest_of least buffers) (xs ++ joined buffers)
earliest_arrives least xs [] h = IsArrival-more least xs [] h
earliest_arrives least xs (ms ∷ rest) h =
    subst (IsArrival (earliest_of least (ms ∷ rest))) (append_assoc xs ms (joined rest)) (earliest_arrives (earlier_arrival least ms) (xs ++ ms) rest (sooner_arrives least xs ms h))

-- the buffers in the words of the code
pub fold-contents : (least : Option ℕ) (buffers : List Buffered) → fold (λ least buffer. earlier_arrival least buffer.items) least buffers ≡ fold earlier_arrival least (contents buffers)
fold-contents least [] = refl
fold-contents least (r ∷ buffers) = fold-contents (earlier_arrival least r.items) buffers

pub earliest_bounds : (ch : ℕ) (buffers : List (List Message)) → AreBuffers ch 0 buffers → Each (λ (m : Message). IsSomeAnd (fold earlier_arrival None buffers) (λ a. a ≤ m.arrival)) (joined buffers)
earliest_bounds ch buffers h = reached ch 0 None buffers h

pub earliest_is : (buffers : List (List Message)) → IsArrival (fold earlier_arrival None buffers) (joined buffers)
earliest_is buffers = earliest_arrives None [] buffers tt

-- nothing stands in any buffer where nothing is in flight, and only there
pub by_age-empty : (ms : List Message) → by_age ms ≡ [] → ms ≡ []
by_age-empty [] h = refl
by_age-empty (m ∷ ms) h =
    let p = λ (y : Message). true in
    absurd (true≢false (sym (list_any-by_age p (m ∷ ms)) ∙ ap (list_any p) h))

empty_buffers : (buffers : List Buffered) → list_all (λ (buffer : Buffered). eqb (length buffer.items) 0) buffers ≡ true → joined (contents buffers) ≡ []
empty_buffers [] h = refl
empty_buffers (r ∷ buffers) h = by r.items (and_parts (eqb (length r.items) 0) _ h).0 (empty_buffers buffers (and_parts (eqb (length r.items) 0) _ h).1)
  where
    by : (ms : List Message) → eqb (length ms) 0 ≡ true → joined (contents buffers) ≡ [] → ms ++ joined (contents buffers) ≡ []
    by [] e rest = rest
    by (m ∷ ms) e rest = absurd (omega (arith, eqb-true (length (m ∷ ms)) 0 e))

buffers_empty : (buffers : List Buffered) → joined (contents buffers) ≡ [] → list_all (λ (buffer : Buffered). eqb (length buffer.items) 0) buffers ≡ true
buffers_empty [] h = refl
buffers_empty (r ∷ buffers) h = by r.items h (buffers_empty buffers)
  where
    by : (ms : List Message) → ms ++ joined (contents buffers) ≡ [] → (joined (contents buffers) ≡ [] → list_all (λ (buffer : Buffered). eqb (length buffer.items) 0) buffers ≡ true)
        → (eqb (length ms) 0 && list_all (λ (buffer : Buffered). eqb (length buffer.items) 0) buffers) ≡ true
    by [] e rest = rest e
    by (m ∷ ms) e rest = cc

pub empty_from_none : (buffers : List Buffered) → list_all (λ (buffer : Buffered). eqb (length buffer.items) 0) buffers ≡ true → by_age (joined (contents buffers)) ≡ []
empty_from_none buffers h = ap by_age (empty_buffers buffers h) ∙ by_age-nil

pub none_from_empty : (buffers : List Buffered) → by_age (joined (contents buffers)) ≡ [] → list_all (λ (buffer : Buffered). eqb (length buffer.items) 0) buffers ≡ true
none_from_empty buffers h = buffers_empty buffers (by_age-empty (joined (contents buffers)) h)
