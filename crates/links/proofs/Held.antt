-- The messages in buffers: those to a unit stand in its buffers, and a message that is put into its buffer is put in among
-- all.
use Rattle.std.proofs.Common.{ℕ, suc, zero, ◌+◌, ◌*◌, ◌-◌, ◌/◌, ◌%◌, ◌<◌, ◌≤◌, ◌≡◌, Bool, true, false, not, ◌&&◌, ◌||◌, eqb, cond, get_or, length, set, List, [], ◌∷◌, ◌++◌, append-nil, append_assoc, refl, sym, ap, ap₂, ◌∙◌, subst, inl, inr, ◌⊎◌, arith}
use Rattle.std.specs.Prelude.{filter, fold}
use Rattle.std.specs.List.{AllByRecursion as Each}
use Rattle.std.proofs.lemmas.Bool.{cond-true, cond-false, cases_lt, eq-eqb, and_parts, eqb-true, false_from_ne_true}
use Rattle.std.proofs.lemmas.Bool.Decides.{nat_tests}
use Rattle.std.proofs.lemmas.List.Elements.{filter-append}
use Rattle.std.proofs.Math.Bool.{and-true}
use Rattle.sim_base.specs.History.{is_unit, insert_by_age, by_age, receiver_of}
use Rattle.sim_base.specs.declared.message.Message.{Message}
use Rattle.sim_base.specs.declared.message.Unit.{Unit as MachineUnit}
use Rattle.sim_base.specs.declared.message.Unit.TheVariants.{Core, Channel}
use Rattle.sim_base.proofs.Arrived.{put, puts, by_age-puts, Each-put}
use Rattle.sim_base.proofs.Each.{Each-append, Each-filter}
use Rattle.sim_base.proofs.Lists.{filter-agree, filter-both}
use Rattle.sim_base.proofs.Ordered.{Each-weaker, puts-append, filter-by_age, is_tie}
use Rattle.links.specs.Buffers.{buffer_of, buffer_to, number_of_replies, joined, IsBuffer, AreBuffers}
use Rattle.links.proofs.Ages.{in_order-Sorted, by_age-nil, put-in_order, filter-in_order, puts-put_first}
use Rattle.links.proofs.Merging.{by_age-merge}

-- messages to a channel are those that go to its buffer
core_above : (ch b core kind : ℕ) → b < ch → false ≡ eqb (ch + 2 * core + kind) b
core_above ch b core kind l = grind (arith, nat_tests)

pub channel_by_buffer : (ch b link : ℕ) → b < ch → is_unit (receiver_of ch link) (Channel b) ≡ eqb (buffer_of ch link) b
channel_by_buffer ch b link l = by (eqb (link % 3) 0)
  where
    by : (t : Bool) → is_unit (cond t (Channel (link / 3 % ch)) (Core (link / 3 / ch))) (Channel b) ≡ eqb (cond t (link / 3 % ch) (ch + 2 * (link / 3 / ch) + (link % 3 - 1))) b
    by true = refl
    by false = core_above ch b (link / 3 / ch) (link % 3 - 1) l

-- none are to a channel that the machine does not have
pub not_a_channel : (ch b link : ℕ) → 0 < ch → ch ≤ b → is_unit (receiver_of ch link) (Channel b) ≡ false
not_a_channel ch b link h l = by (eqb (link % 3) 0)
  where
    apart : (a : ℕ) → a < ch → eqb a b ≡ false
    apart a k = grind (arith, nat_tests)

    by : (t : Bool) → is_unit (cond t (Channel (link / 3 % ch)) (Core (link / 3 / ch))) (Channel b) ≡ false
    by true = apart (link / 3 % ch) (omega arith)
    by false = refl

-- messages to a core are those that go to one of its buffers
channel_below : (ch b channel : ℕ) → channel < ch → false ≡ (eqb channel (ch + 2 * b) || eqb channel (ch + 2 * b + 1))
channel_below ch b channel l = grind (arith, nat_tests)

one_of_both : (ch b core kind : ℕ) → kind ≤ 1 → eqb core b ≡ (eqb (ch + 2 * core + kind) (ch + 2 * b) || eqb (ch + 2 * core + kind) (ch + 2 * b + 1))
one_of_both ch b core kind l = grind (arith, nat_tests)

pub core_by_buffers : (ch b link : ℕ) → 0 < ch → is_unit (receiver_of ch link) (Core b) ≡ (eqb (buffer_of ch link) (ch + 2 * b) || eqb (buffer_of ch link) (ch + 2 * b + 1))
core_by_buffers ch b link h = by (eqb (link % 3) 0)
  where
    by : (t : Bool) → is_unit (cond t (Channel (link / 3 % ch)) (Core (link / 3 / ch))) (Core b)
        ≡ (eqb (cond t (link / 3 % ch) (ch + 2 * (link / 3 / ch) + (link % 3 - 1))) (ch + 2 * b) || eqb (cond t (link / 3 % ch) (ch + 2 * (link / 3 / ch) + (link % 3 - 1))) (ch + 2 * b + 1))
    by true = channel_below ch b (link / 3 % ch) (omega arith)
    by false = one_of_both ch b (link / 3 / ch) (link % 3 - 1) (omega arith)

-- a test that is true of some messages to one buffer alone
abbrev pub IsOfBuffer : ℕ → ℕ → (Message → Bool) → (Message → Bool) → Type 0
IsOfBuffer ch n p q = (m : Message) → p m ≡ (eqb (buffer_to ch m) n && q m)

abbrev pub to_unit : ℕ → MachineUnit → (Message → Bool) → Message → Bool
to_unit ch unit q m = is_unit (receiver_of ch m.link) unit && q m

pub of_channel : (ch b : ℕ) (q : Message → Bool) → b < ch → IsOfBuffer ch b (to_unit ch (Channel b) q) q
of_channel ch b q l m = ap (λ t. t && q m) (channel_by_buffer ch b m.link l)

-- a test that is true of some messages to two buffers alone, which stand one behind the other
abbrev pub IsOfBoth : ℕ → ℕ → (Message → Bool) → (Message → Bool) → Type 0
IsOfBoth ch n p q = (m : Message) → p m ≡ ((eqb (buffer_to ch m) n || eqb (buffer_to ch m) (n + 1)) && q m)

pub of_core : (ch b : ℕ) (q : Message → Bool) → 0 < ch → IsOfBoth ch (number_of_replies ch b) (to_unit ch (Core b) q) q
of_core ch b q h m = ap (λ t. t && q m) (core_by_buffers ch b m.link h)

module _ (ch n : ℕ) (p q : Message → Bool) (is : IsOfBuffer ch n p q) where
  elsewhere : (k : ℕ) (ms : List Message) → Each (λ m. buffer_to ch m ≡ k) ms → eqb k n ≡ false → (filter p ms ≡ []) × (filter (λ m. not (p m)) ms ≡ ms)
  elsewhere k [] h e = (refl, refl)
  elsewhere k (m ∷ ms) h e =
      let no : p m ≡ false = is m ∙ ap (λ x. eqb x n && q m) h.0 ∙ ap (λ b. b && q m) e in
      let rest = elsewhere k ms h.1 e in
      (cond-false _ _ _ no ∙ rest.0, cond-true _ _ _ (ap not no) ∙ ap (λ x. m ∷ x) rest.1)

  here : (ms : List Message) → Each (λ m. buffer_to ch m ≡ n) ms → (filter p ms ≡ filter q ms) × (filter (λ m. not (p m)) ms ≡ filter (λ m. not (q m)) ms)
  here [] h = (refl, refl)
  here (m ∷ ms) h =
      let same : p m ≡ q m = is m ∙ ap (λ x. eqb x n && q m) h.0 ∙ ap (λ b. b && q m) (eq-eqb n n refl) in
      let rest = here ms h.1 in
      (ap₂ (λ b x. cond b (m ∷ x) x) same rest.0, ap₂ (λ b x. cond (not b) (m ∷ x) x) same rest.1)

  later : (first : ℕ) (buffers : List (List Message)) → AreBuffers ch first buffers → n < first → (filter p (joined buffers) ≡ []) × (filter (λ m. not (p m)) (joined buffers) ≡ joined buffers)
  later first [] h l = (refl, refl)
  later first (ms ∷ rest) h l =
      let apart : eqb first n ≡ false = grind (arith, nat_tests) in
      let none = elsewhere first ms h.0.to_buffer apart in
      let others = later (first + 1) rest h.1 (omega arith) in (
        filter-append p ms (joined rest) ∙ ap₂ (λ a b. a ++ b) none.0 others.0,
        filter-append (λ m. not (p m)) ms (joined rest) ∙ ap₂ (λ a b. a ++ b) none.1 others.1,
      )

  -- what the test is true of stands in the one buffer
  filter-joined : (i first : ℕ) (buffers : List (List Message)) → first + i ≡ n → AreBuffers ch first buffers → filter p (joined buffers) ≡ filter q (get_or buffers i [])
  filter-joined i first [] e h = refl
  filter-joined zero first (ms ∷ rest) e h =
      let same : first ≡ n = omega arith in
      filter-append p ms (joined rest)
      ∙ ap₂ (λ a b. a ++ b) (here ms (subst (λ k. Each (λ m. buffer_to ch m ≡ k) ms) same h.0.to_buffer)).0 (later (first + 1) rest h.1 (omega arith)).0
      ∙ append-nil (filter q ms)
  filter-joined (suc i) first (ms ∷ rest) e h =
      let apart : eqb first n ≡ false = grind (arith, nat_tests) in
      filter-append p ms (joined rest)
      ∙ ap₂ (λ a b. a ++ b) (elsewhere first ms h.0.to_buffer apart).0 (filter-joined i (first + 1) rest (omega arith) h.1)

  -- and the others stand in the others, and in what is left of it
  filter-others : (i first : ℕ) (buffers : List (List Message)) → first + i ≡ n → AreBuffers ch first buffers
      → joined (set buffers i (filter (λ m. not (q m)) (get_or buffers i []))) ≡ filter (λ m. not (p m)) (joined buffers)
  filter-others i first [] e h = refl
  filter-others zero first (ms ∷ rest) e h =
      let same : first ≡ n = omega arith in
      sym (filter-append (λ m. not (p m)) ms (joined rest)
      ∙ ap₂ (λ a b. a ++ b) (here ms (subst (λ k. Each (λ m. buffer_to ch m ≡ k) ms) same h.0.to_buffer)).1 (later (first + 1) rest h.1 (omega arith)).1)
  filter-others (suc i) first (ms ∷ rest) e h =
      let apart : eqb first n ≡ false = grind (arith, nat_tests) in
      ap (λ x. ms ++ x) (filter-others i (first + 1) rest (omega arith) h.1)
      ∙ ap (λ x. x ++ filter (λ m. not (p m)) (joined rest)) (sym (elsewhere first ms h.0.to_buffer apart).1)
      ∙ sym (filter-append (λ m. not (p m)) ms (joined rest))

-- what goes to one buffer
abbrev pub is_in : ℕ → ℕ → (Message → Bool) → Message → Bool
is_in ch n q m = eqb (buffer_to ch m) n && q m

neither : (a b c : Bool) → (not (a && c) && not (b && c)) ≡ not ((a || b) && c)
neither true true true = refl
neither true true false = refl
neither true false true = refl
neither true false false = refl
neither false true true = refl
neither false true false = refl
neither false false true = refl
neither false false false = refl

numbered_from : (ch first : ℕ) (buffers : List (List Message)) → AreBuffers ch first buffers → Each (λ m. first ≤ buffer_to ch m) (joined buffers)
numbered_from ch first [] h = tt
numbered_from ch first (ms ∷ rest) h =
    Each-append (λ m. first ≤ buffer_to ch m) ms (joined rest)
    (Each-weaker (λ m. buffer_to ch m ≡ first) (λ m. first ≤ buffer_to ch m) (λ m e. omega arith) ms h.0.to_buffer)
    (Each-weaker (λ m. first + 1 ≤ buffer_to ch m) (λ m. first ≤ buffer_to ch m) (λ m l. omega arith) (joined rest) (numbered_from ch (first + 1) rest h.1))

low_buffer : (r n : ℕ) (b : Bool) → r ≤ n → ((eqb r n || eqb r (n + 1)) && b) ≡ (eqb r n && b)
low_buffer r n b l = let e : eqb r (n + 1) ≡ false = grind (arith, nat_tests) in rw e (ap (λ t. t && b) (or_false (eqb r n)))
  where
    or_false : (t : Bool) → (t || false) ≡ t
    or_false true = refl
    or_false false = refl

high_buffer : (r n : ℕ) (b : Bool) → n + 1 ≤ r → ((eqb r n || eqb r (n + 1)) && b) ≡ (eqb r (n + 1) && b)
high_buffer r n b l = let e : eqb r n ≡ false = grind (arith, nat_tests) in rw e refl

module _ (ch n : ℕ) (p q : Message → Bool) (is : IsOfBoth ch n p q) where
  -- what goes to both buffers stands in the first, and then in the second
  in_both : (first : ℕ) (buffers : List (List Message)) → AreBuffers ch first buffers
      → filter p (joined buffers) ≡ filter (is_in ch n q) (joined buffers) ++ filter (is_in ch (n + 1) q) (joined buffers)
  in_both first [] h = refl
  in_both first (ms ∷ rest) h = by (cases_lt n first) (in_both (first + 1) rest h.1)
    where
      by : (n < first) ⊎ (first ≤ n)
          → filter p (joined rest) ≡ filter (is_in ch n q) (joined rest) ++ filter (is_in ch (n + 1) q) (joined rest)
          → filter p (joined (ms ∷ rest)) ≡ filter (is_in ch n q) (joined (ms ∷ rest)) ++ filter (is_in ch (n + 1) q) (joined (ms ∷ rest))
      by (inl l) others =
          filter-agree p (is_in ch (n + 1) q) (joined (ms ∷ rest))
          (Each-weaker (λ m. first ≤ buffer_to ch m) (λ m. p m ≡ is_in ch (n + 1) q m) (λ m k. is m ∙ high_buffer (buffer_to ch m) n (q m) (omega arith))
          (joined (ms ∷ rest)) (numbered_from ch first (ms ∷ rest) h))
          ∙ ap (λ x. x ++ filter (is_in ch (n + 1) q) (joined (ms ∷ rest)))
          (sym (later ch n (is_in ch n q) q (λ m. refl) first (ms ∷ rest) h l).0)
      by (inr l) others =
          let apart : eqb first (n + 1) ≡ false = grind (arith, nat_tests) in
          let none = (elsewhere ch (n + 1) (is_in ch (n + 1) q) q (λ m. refl) first ms h.0.to_buffer apart).0 in
          let same = filter-agree p (is_in ch n q) ms
          (Each-weaker (λ m. buffer_to ch m ≡ first) (λ m. p m ≡ is_in ch n q m) (λ m e. is m ∙ low_buffer (buffer_to ch m) n (q m) (omega arith)) ms h.0.to_buffer) in
          filter-append p ms (joined rest)
          ∙ ap₂ (λ x y. x ++ y) same others
          ∙ sym (append_assoc (filter (is_in ch n q) ms) (filter (is_in ch n q) (joined rest)) (filter (is_in ch (n + 1) q) (joined rest)))
          ∙ ap₂ (λ x y. x ++ y) (sym (filter-append (is_in ch n q) ms (joined rest)))
          (sym (filter-append (is_in ch (n + 1) q) ms (joined rest) ∙ ap (λ x. x ++ filter (is_in ch (n + 1) q) (joined rest)) none))

  pub out_of_both : (ms : List Message) → filter (λ m. not (is_in ch (n + 1) q m)) (filter (λ m. not (is_in ch n q m)) ms) ≡ filter (λ m. not (p m)) ms
  out_of_both ms =
      sym (filter-both (λ m. not (is_in ch (n + 1) q m)) (λ m. not (is_in ch n q m)) (λ m. not (p m))
      (λ m. sym (neither (eqb (buffer_to ch m) n) (eqb (buffer_to ch m) (n + 1)) (q m) ∙ ap not (sym (is m)))) ms)

pub IsBuffer-nil : (ch n : ℕ) → IsBuffer ch n []
IsBuffer-nil ch n = record { to_buffer = tt; in_order = by_age-nil }

pub buffer_is : (ch i first : ℕ) (buffers : List (List Message)) → AreBuffers ch first buffers → IsBuffer ch (first + i) (get_or buffers i [])
buffer_is ch i first [] h = IsBuffer-nil ch (first + i)
buffer_is ch zero first (ms ∷ rest) h = let e : first ≡ first + 0 = omega arith in subst (λ k. IsBuffer ch k ms) e h.0
buffer_is ch (suc i) first (ms ∷ rest) h = let e : first + 1 + i ≡ first + suc i = omega arith in subst (λ k. IsBuffer ch k (get_or rest i [])) e (buffer_is ch i (first + 1) rest h.1)

pub AreBuffers-set : (ch i first : ℕ) (ms : List Message) (buffers : List (List Message)) → AreBuffers ch first buffers → IsBuffer ch (first + i) ms → AreBuffers ch first (set buffers i ms)
AreBuffers-set ch i first ms [] h k = tt
AreBuffers-set ch zero first ms (r ∷ rest) h k = let e : first + 0 ≡ first = omega arith in (subst (λ x. IsBuffer ch x ms) e k, h.1)
AreBuffers-set ch (suc i) first ms (r ∷ rest) h k = let e : first + suc i ≡ first + 1 + i = omega arith in (h.0, AreBuffers-set ch i (first + 1) ms rest h.1 (subst (λ x. IsBuffer ch x ms) e k))

-- each buffer by itself stands in order
pub AreBuffers-in_order : (ch first : ℕ) (buffers : List (List Message)) → AreBuffers ch first buffers → Each (λ ms. by_age ms ≡ ms) buffers
AreBuffers-in_order ch first [] h = tt
AreBuffers-in_order ch first (ms ∷ rest) h = (h.0.in_order, AreBuffers-in_order ch (first + 1) rest h.1)

-- messages of different buffers do not tie
other_buffer : (ch : ℕ) (m y : Message) → (buffer_to ch m ≡ buffer_to ch y → ⊥) → is_tie m y ≡ false
other_buffer ch m y h =
    false_from_ne_true (is_tie m y)
    (λ t. h (ap (buffer_of ch) (eqb-true m.link y.link (and_parts (eqb m.arrival y.arrival) (eqb m.link y.link) t).1)))

no_ties : (ch first : ℕ) (m : Message) (buffers : List (List Message)) → AreBuffers ch first buffers → buffer_to ch m < first → Each (λ (y : Message). is_tie m y ≡ false) (joined buffers)
no_ties ch first m [] h l = tt
no_ties ch first m (ms ∷ rest) h l =
    Each-append _ ms (joined rest)
    (Each-weaker _ (λ (y : Message). is_tie m y ≡ false) (λ y e. other_buffer ch m y (λ f. absurd (omega arith))) ms h.0.to_buffer)
    (no_ties ch (first + 1) m rest h.1 (omega arith))

puts-joined : (ch i first : ℕ) (m : Message) (acc : List Message) (buffers : List (List Message)) → AreBuffers ch first buffers → first + i ≡ buffer_to ch m → i < length buffers
    → puts acc (joined (set buffers i (put m (get_or buffers i [])))) ≡ put m (puts acc (joined buffers))
puts-joined ch i first m acc [] h e l = absurd (omega arith)
puts-joined ch zero first m acc (ms ∷ rest) h e l = puts-put_first m acc ms (joined rest) (in_order-Sorted ms h.0.in_order) (no_ties ch (first + 1) m rest h.1 (omega arith))
puts-joined ch (suc i) first m acc (ms ∷ rest) h e l =
    puts-append acc ms (joined (set rest i (put m (get_or rest i []))))
    ∙ puts-joined ch i (first + 1) m (puts acc ms) rest h.1 (omega arith) (omega arith)
    ∙ ap (put m) (sym (puts-append acc ms (joined rest)))

-- one message more in its buffer
pub by_age-joined : (ch i : ℕ) (m : Message) (buffers : List (List Message)) → AreBuffers ch 0 buffers → i ≡ buffer_to ch m → i < length buffers
    → by_age (joined (set buffers i (put m (get_or buffers i [])))) ≡ put m (by_age (joined buffers))
by_age-joined ch i m buffers h e l =
    by_age-puts (joined (set buffers i (put m (get_or buffers i []))))
    ∙ puts-joined ch i 0 m [] buffers h (omega arith) l
    ∙ ap (put m) (sym (by_age-puts (joined buffers)))

pub AreBuffers-put : (ch i : ℕ) (m : Message) (buffers : List (List Message)) → AreBuffers ch 0 buffers → i ≡ buffer_to ch m → AreBuffers ch 0 (set buffers i (put m (get_or buffers i [])))
AreBuffers-put ch i m buffers h e =
    let buffer = buffer_is ch i 0 buffers h in
    let n : buffer_to ch m ≡ 0 + i = omega arith in
    AreBuffers-set ch i 0 (put m (get_or buffers i [])) buffers h
    (record { to_buffer = Each-put (λ (y : Message). buffer_to ch y ≡ 0 + i) m n (get_or buffers i []) buffer.to_buffer; in_order = put-in_order m (get_or buffers i []) buffer.in_order })

pub AreBuffers-filter : (ch i : ℕ) (p : Message → Bool) (buffers : List (List Message)) → AreBuffers ch 0 buffers → AreBuffers ch 0 (set buffers i (filter p (get_or buffers i [])))
AreBuffers-filter ch i p buffers h =
    let buffer = buffer_is ch i 0 buffers h in
    AreBuffers-set ch i 0 (filter p (get_or buffers i [])) buffers h
    (record { to_buffer = Each-filter (λ (y : Message). buffer_to ch y ≡ 0 + i) p (get_or buffers i []) buffer.to_buffer; in_order = filter-in_order p (get_or buffers i []) buffer.in_order })

-- the messages to a unit, by a test, are those in its buffer
pub held : (ch n : ℕ) (p q : Message → Bool) (buffers : List (List Message)) → IsOfBuffer ch n p q → AreBuffers ch 0 buffers → filter p (by_age (joined buffers)) ≡ filter q (get_or buffers n [])
held ch n p q buffers is h =
    filter-by_age p (joined buffers) ∙ ap by_age (filter-joined ch n p q is n 0 buffers (omega arith) h) ∙ filter-in_order q (get_or buffers n []) (buffer_is ch n 0 buffers h).in_order

-- and the others are those that stay
pub others : (ch n : ℕ) (p q : Message → Bool) (buffers : List (List Message)) → IsOfBuffer ch n p q → AreBuffers ch 0 buffers
    → by_age (joined (set buffers n (filter (λ m. not (q m)) (get_or buffers n [])))) ≡ filter (λ m. not (p m)) (by_age (joined buffers))
others ch n p q buffers is h = ap by_age (filter-others ch n p q is n 0 buffers (omega arith) h) ∙ sym (filter-by_age (λ m. not (p m)) (joined buffers))

-- the messages to a unit with two buffers, by a test, are those in both of them, merged
pub held_both : (ch n : ℕ) (p q : Message → Bool) (buffers : List (List Message)) → IsOfBoth ch n p q → AreBuffers ch 0 buffers
    → filter p (by_age (joined buffers)) ≡ fold insert_by_age (filter q (get_or buffers n [])) (filter q (get_or buffers (n + 1) []))
held_both ch n p q buffers is h =
    filter-by_age p (joined buffers)
    ∙ ap by_age (in_both ch n p q is 0 buffers h)
    ∙ sym (by_age-merge (filter (is_in ch n q) (joined buffers)) (filter (is_in ch (n + 1) q) (joined buffers)))
    ∙ ap₂ (λ x y. fold insert_by_age x y) (one n) (one (n + 1))
  where
    one : (i : ℕ) → by_age (filter (is_in ch i q) (joined buffers)) ≡ filter q (get_or buffers i [])
    one i = sym (filter-by_age (is_in ch i q) (joined buffers)) ∙ held ch i (is_in ch i q) q buffers (λ m. refl) h

filter_true : (ms : List Message) → filter (λ _. true) ms ≡ ms
filter_true [] = refl
filter_true (m ∷ ms) = ap (λ x. m ∷ x) (filter_true ms)

-- all messages that go to a buffer stand in it
pub all_held : (ch n : ℕ) (buffers : List (List Message)) → AreBuffers ch 0 buffers → filter (λ m. eqb (buffer_to ch m) n) (by_age (joined buffers)) ≡ get_or buffers n []
all_held ch n buffers h =
    held ch n (λ m. eqb (buffer_to ch m) n) (λ _. true) buffers (λ m. sym (and-true (eqb (buffer_to ch m) n))) h
    ∙ filter_true (get_or buffers n [])
