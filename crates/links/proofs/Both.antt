-- What is in flight to a unit stands in its buffers: that of a channel, or both of a core.
use Rattle.std.proofs.Common.{ℕ, ◌+◌, ◌<◌, ◌≤◌, ◌≡◌, Bool, true, false, not, ◌&&◌, ◌||◌, eqb, cond, min, length, drop, get_or, set, List, [], ◌∷◌, Some, None, refl, sym, ap, ap₂, ◌∙◌, subst, arith}
use Rattle.std.specs.Prelude.{filter, fold, Option, IfSome}
use Rattle.std.proofs.lemmas.Bool.{cond-true, cond-false}
use Rattle.std.proofs.lemmas.Bool.Decides.{nat_tests}
use Rattle.std.proofs.Math.Bool.{and-true}
use Rattle.sim_base.specs.History.{is_before, is_unit, insert_by_age, by_age, receiver_of}
use Rattle.sim_base.specs.declared.message.Message.{Message}
use Rattle.sim_base.specs.declared.message.Unit.TheVariants.{Core, Channel}
use Rattle.sim_base.proofs.Arrived.{by_age-puts, fold-puts}
use Rattle.sim_base.proofs.Lists.{filter-both, length-filter-le}
use Rattle.links.specs.Buffers.{buffer_to, number_of_replies, goes_to, in_buffer, is_due_in, due_in_buffer, without_due_in, replies_due, credits_due, joined, AreBuffers, arrives_later}
use Rattle.links.specs.InFlight.{InFlight, arrives_before, is_due_before, due_before, without_due, in_flight_to, first_arrival, NoneArrivesBefore}
use Rattle.sim_base.specs.Earlier.{earlier}
use Rattle.links.proofs.Ages.{filter-in_order, first_is_least, by_age-twice}
use Rattle.links.proofs.Held.{channel_by_buffer, not_a_channel, core_by_buffers, of_channel, of_core, out_of_both, held, others, held_both, buffer_is, is_in}
use Rattle.links.proofs.Merging.{merge_first, merge_second}
use Rattle.links.proofs.Steps.{head_due}

filter_same : (p q : Message → Bool) (ms : List Message) → ((m : Message) → p m ≡ q m) → filter p ms ≡ filter q ms
filter_same p q [] h = refl
filter_same p q (m ∷ ms) h = ap₂ (λ b z. cond b (m ∷ z) z) (h m) (filter_same p q ms h)

-- ---- a channel has one buffer
pub to_channel_is : (flight : InFlight) (b : ℕ) → b < flight.channels → in_buffer flight b ≡ in_flight_to flight (Channel b)
to_channel_is flight b l =
    sym (filter_same (λ m. is_unit (receiver_of flight.channels m.link) (Channel b)) (goes_to flight.channels b) flight.messages
    (λ m. channel_by_buffer flight.channels b m.link l))

pub due_channel_is : (flight : InFlight) (b until : ℕ) → b < flight.channels → due_in_buffer flight b until ≡ due_before flight (Channel b) until
due_channel_is flight b until l =
    sym (filter_same (is_due_before flight.channels (Channel b) until) (is_due_in flight.channels b until) flight.messages
    (of_channel flight.channels b (arrives_before until) l))

pub without_channel_is : (flight : InFlight) (b until : ℕ) → b < flight.channels → without_due_in flight b until ≡ without_due flight (Channel b) until
without_channel_is flight b until l =
    ap (λ ms. record { channels = flight.channels; messages = ms })
    (sym (filter_same (λ m. not (is_due_before flight.channels (Channel b) until m)) (λ m. not (is_due_in flight.channels b until m)) flight.messages
    (λ m. ap not (of_channel flight.channels b (arrives_before until) l m))))

-- a channel that the machine does not have has none
nowhere : (ch b : ℕ) (q : Message → Bool) (ms : List Message) → 0 < ch → ch ≤ b
    → (filter (λ m. is_unit (receiver_of ch m.link) (Channel b) && q m) ms ≡ []) × (filter (λ m. not (is_unit (receiver_of ch m.link) (Channel b) && q m)) ms ≡ ms)
nowhere ch b q [] l k = (refl, refl)
nowhere ch b q (m ∷ ms) l k =
    let no : (is_unit (receiver_of ch m.link) (Channel b) && q m) ≡ false = ap (λ t. t && q m) (not_a_channel ch b m.link l k) in
    let rest = nowhere ch b q ms l k in
    (cond-false _ _ _ no ∙ rest.0, cond-true _ _ _ (ap not no) ∙ ap (λ x. m ∷ x) rest.1)

pub none_due_there : (flight : InFlight) (b until : ℕ) → 0 < flight.channels → flight.channels ≤ b → due_before flight (Channel b) until ≡ []
none_due_there flight b until l k = (nowhere flight.channels b (arrives_before until) flight.messages l k).0

pub all_left_there : (flight : InFlight) (b until : ℕ) → 0 < flight.channels → flight.channels ≤ b → without_due flight (Channel b) until ≡ flight
all_left_there flight b until l k = ap (λ ms. record { channels = flight.channels; messages = ms }) (nowhere flight.channels b (arrives_before until) flight.messages l k).1

pub none_first_there : (flight : InFlight) (b : ℕ) → 0 < flight.channels → flight.channels ≤ b → None ≡ first_arrival (in_flight_to flight (Channel b))
none_first_there flight b l k =
    ap first_arrival (sym (filter_same (λ m. is_unit (receiver_of flight.channels m.link) (Channel b)) (λ m. is_unit (receiver_of flight.channels m.link) (Channel b) && true) flight.messages
    (λ m. sym (and-true (is_unit (receiver_of flight.channels m.link) (Channel b)))) ∙ (nowhere flight.channels b (λ _. true) flight.messages l k).0))

-- ---- a core has two
pub without_core_is : (flight : InFlight) (b until : ℕ) → 0 < flight.channels
    → without_due_in (without_due_in flight (number_of_replies flight.channels b) until) (number_of_replies flight.channels b + 1) until
    ≡ without_due flight (Core b) until
without_core_is flight b until l =
    ap (λ ms. record { channels = flight.channels; messages = ms })
    (out_of_both flight.channels (number_of_replies flight.channels b) (is_due_before flight.channels (Core b) until) (arrives_before until)
    (of_core flight.channels b (arrives_before until) l) flight.messages)

module _ (ch b : ℕ) (q : Message → Bool) (buffers : List (List Message)) (l : 0 < ch) (h : AreBuffers ch 0 buffers) where
  -- what a test is true of, of what is in flight to a core, is what it is true of in both buffers, merged
  of_both : filter (λ m. is_unit (receiver_of ch m.link) (Core b) && q m) (by_age (joined buffers))
      ≡ fold insert_by_age (filter (is_in ch (number_of_replies ch b) q) (by_age (joined buffers))) (filter (is_in ch (number_of_replies ch b + 1) q) (by_age (joined buffers)))
  of_both =
      held_both ch (number_of_replies ch b) _ q buffers (of_core ch b q l) h
      ∙ ap₂ (λ x y. fold insert_by_age x y)
      (sym (held ch (number_of_replies ch b) (is_in ch (number_of_replies ch b) q) q buffers (λ m. refl) h))
      (sym (held ch (number_of_replies ch b + 1) (is_in ch (number_of_replies ch b + 1) q) q buffers (λ m. refl) h))

  -- what it is true of in the second stands by age
  second_in_order : by_age (filter (is_in ch (number_of_replies ch b + 1) q) (by_age (joined buffers))) ≡ filter (is_in ch (number_of_replies ch b + 1) q) (by_age (joined buffers))
  second_in_order =
      let same = held ch (number_of_replies ch b + 1) (is_in ch (number_of_replies ch b + 1) q) q buffers (λ m. refl) h in
      ap by_age same ∙ filter-in_order q _ (buffer_is ch (number_of_replies ch b + 1) 0 buffers h).in_order ∙ sym same

-- what is in flight where the messages stand in these buffers
abbrev pub held_by : ℕ → List (List Message) → InFlight
held_by ch buffers = record { channels = ch; messages = by_age (joined buffers) }

pub due_core_is : (ch b until : ℕ) (flight : InFlight) (buffers : List (List Message)) → 0 < ch → AreBuffers ch 0 buffers → flight ≡ held_by ch buffers
    → due_before flight (Core b) until ≡ fold insert_by_age (replies_due flight b until) (credits_due flight b until)
due_core_is ch b until flight buffers l h e =
    subst (λ f. due_before f (Core b) until ≡ fold insert_by_age (replies_due f b until) (credits_due f b until)) (sym e) (of_both ch b (arrives_before until) buffers l h)

-- ---- one buffer
-- what is due stands at the head of a buffer
pub due_is : (ch n until : ℕ) (flight : InFlight) (buffers : List (List Message)) → AreBuffers ch 0 buffers → flight ≡ held_by ch buffers
    → due_in_buffer flight n until ≡ filter (arrives_before until) (get_or buffers n [])
due_is ch n until flight buffers h e =
    ap (λ f. due_in_buffer f n until) e ∙ held ch n (is_due_in ch n until) (arrives_before until) buffers (λ m. refl) h

-- so what stands behind as many messages is not
pub left_is : (ch n until count : ℕ) (flight : InFlight) (buffers : List (List Message)) → AreBuffers ch 0 buffers → flight ≡ held_by ch buffers → count ≡ length (due_in_buffer flight n until)
    → drop count (get_or buffers n []) ≡ filter (arrives_later until) (get_or buffers n [])
left_is ch n until count flight buffers h e k =
    let head = head_due until (get_or buffers n []) (buffer_is ch n 0 buffers h).in_order in
    ap (λ i. drop i (get_or buffers n [])) (k ∙ ap length (due_is ch n until flight buffers h e ∙ sym head.0)) ∙ head.1

pub due_within : (ch n until count : ℕ) (flight : InFlight) (buffers : List (List Message)) → AreBuffers ch 0 buffers → flight ≡ held_by ch buffers → count ≡ length (due_in_buffer flight n until)
    → count ≤ length (get_or buffers n [])
due_within ch n until count flight buffers h e k =
    let less = length-filter-le (arrives_before until) (get_or buffers n []) in
    omega (arith, k, ap length (due_is ch n until flight buffers h e), less)

-- what is not due stays in flight
pub kept_is : (ch n until : ℕ) (buffers : List (List Message)) → AreBuffers ch 0 buffers
    → by_age (joined (set buffers n (filter (arrives_later until) (get_or buffers n [])))) ≡ filter (λ m. not (is_due_in ch n until m)) (by_age (joined buffers))
kept_is ch n until buffers h = others ch n (is_due_in ch n until) (arrives_before until) buffers (λ m. refl) h

-- the credits that are due are those that were due before the replies were taken out
pub credits_stay : (flight : InFlight) (n until : ℕ) → due_in_buffer (without_due_in flight n until) (n + 1) until ≡ due_in_buffer flight (n + 1) until
credits_stay flight n until =
    sym (filter-both (is_due_in flight.channels (n + 1) until) (λ m. not (is_due_in flight.channels n until m)) (is_due_in flight.channels (n + 1) until)
    (λ m. other_stays (buffer_to flight.channels m) n (arrives_before until m)) flight.messages)
  where
    other_stays : (x n : ℕ) (a : Bool) → (eqb x (n + 1) && a) ≡ (not (eqb x n && a) && (eqb x (n + 1) && a))
    other_stays x n a = grind (arith, nat_tests)

-- ---- the first of both buffers of a core
fold_from_none : (ms : List Message) → by_age ms ≡ ms → fold insert_by_age [] ms ≡ ms
fold_from_none ms h = fold-puts [] ms ∙ sym (by_age-puts ms) ∙ h

-- the first of both buffers
first_before : (a b : Message) → is_before b a ≡ true → min a.arrival b.arrival ≡ b.arrival
first_before a b h = let l : b.arrival ≤ a.arrival = grind (arith, nat_tests) in omega arith

first_after : (a b : Message) → is_before b a ≡ false → min a.arrival b.arrival ≡ a.arrival
first_after a b h = let l : a.arrival ≤ b.arrival = grind (arith, nat_tests) in omega arith

pub first_of_both : (xs ys : List Message) → by_age ys ≡ ys
    → earlier (first_arrival xs) (first_arrival ys)
    ≡ first_arrival (fold insert_by_age xs ys)
first_of_both [] ys s = ap first_arrival (sym (fold_from_none ys s))
first_of_both (a ∷ xs) [] s = refl
first_of_both (a ∷ xs) (b ∷ ys) s = by (is_before b a) refl
  where
    by : (t : Bool) → is_before b a ≡ t → Some (min a.arrival b.arrival) ≡ first_arrival (fold insert_by_age (a ∷ xs) (b ∷ ys))
    by true e = ap Some (first_before a b e) ∙ ap first_arrival (sym (merge_second a b xs ys s e))
    by false e = ap Some (first_after a b e) ∙ ap first_arrival (sym (merge_first a b xs ys s e))

stays : (g a : Bool) → (g && not a) ≡ (not (g && a) && g)
stays true true = refl
stays true false = refl
stays false true = refl
stays false false = refl

stays_second : (f g a : Bool) → (g && not a) ≡ (not ((f || g) && a) && g)
stays_second true true true = refl
stays_second true true false = refl
stays_second true false true = refl
stays_second true false false = refl
stays_second false true true = refl
stays_second false true false = refl
stays_second false false true = refl
stays_second false false false = refl

-- the first arrival at a core, once what is due there is taken out, is the earlier one of its buffers
pub first_core_is : (ch b until : ℕ) (flight : InFlight) (buffers : List (List Message)) → 0 < ch → AreBuffers ch 0 buffers → flight ≡ held_by ch buffers
    → earlier (first_arrival (in_buffer (without_due_in flight (number_of_replies ch b) until) (number_of_replies ch b)))
    (first_arrival (in_buffer (without_due flight (Core b) until) (number_of_replies ch b + 1)))
    ≡ first_arrival (in_flight_to (without_due flight (Core b) until) (Core b))
first_core_is ch b until flight buffers l h e =
    subst (λ f. earlier (first_arrival (in_buffer (without_due_in f n until) n)) (first_arrival (in_buffer (without_due f (Core b) until) (n + 1)))
    ≡ first_arrival (in_flight_to (without_due f (Core b) until) (Core b))) (sym e)
    (ap₂ (λ x y. earlier (first_arrival x) (first_arrival y)) first second
    ∙ first_of_both (filter (is_in ch n later) all) (filter (is_in ch (n + 1) later) all) (second_in_order ch b later buffers l h)
    ∙ ap first_arrival (sym (both ∙ of_both ch b later buffers l h)))
  where
    n : ℕ
    n = number_of_replies ch b

    all : List Message
    all = by_age (joined buffers)

    early : Message → Bool
    early = arrives_before until

    later : Message → Bool
    later = arrives_later until

    to_core : Message → Bool
    to_core m = is_unit (receiver_of ch m.link) (Core b)

    first : filter (goes_to ch n) (filter (λ m. not (is_due_in ch n until m)) all) ≡ filter (is_in ch n later) all
    first = sym (filter-both (goes_to ch n) (λ m. not (is_due_in ch n until m)) (is_in ch n later) (λ m. stays (goes_to ch n m) (early m)) all)

    second : filter (goes_to ch (n + 1)) (filter (λ m. not (is_due_before ch (Core b) until m)) all) ≡ filter (is_in ch (n + 1) later) all
    second =
        sym (filter-both (goes_to ch (n + 1)) (λ m. not (is_due_before ch (Core b) until m)) (is_in ch (n + 1) later)
        (λ m. stays_second (goes_to ch n m) (goes_to ch (n + 1) m) (early m) ∙ ap (λ t. not (t && early m) && goes_to ch (n + 1) m) (sym (core_by_buffers ch b m.link l))) all)

    both : filter to_core (filter (λ m. not (is_due_before ch (Core b) until m)) all) ≡ filter (λ m. to_core m && later m) all
    both = sym (filter-both to_core (λ m. not (is_due_before ch (Core b) until m)) (λ m. to_core m && later m) (λ m. stays (to_core m) (early m)) all)

-- and nothing arrives at it before
pub none_sooner : (ch b until : ℕ) (flight : InFlight) (buffers : List (List Message)) (first : Option ℕ) → flight ≡ held_by ch buffers
    → first ≡ first_arrival (in_flight_to (without_due flight (Core b) until) (Core b)) → IfSome first (λ cycle. NoneArrivesBefore cycle (in_flight_to (without_due flight (Core b) until) (Core b)))
none_sooner ch b until flight buffers first e h =
    subst (λ f. IfSome f (λ cycle. NoneArrivesBefore cycle (in_flight_to (without_due flight (Core b) until) (Core b)))) (sym h)
    (subst (λ f. IfSome (first_arrival (in_flight_to (without_due f (Core b) until) (Core b))) (λ cycle. NoneArrivesBefore cycle (in_flight_to (without_due f (Core b) until) (Core b)))) (sym e)
    (first_is_least _ (filter-in_order (λ m. is_unit (receiver_of ch m.link) (Core b)) _ (filter-in_order (λ m. not (is_due_before ch (Core b) until m)) _ (by_age-twice (joined buffers))))))
