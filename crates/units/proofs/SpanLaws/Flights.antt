-- What is due at units in a span, and what stays when it is taken out.
use Rattle.std.proofs.Common.{◌≡◌, ℕ, ◌<◌, ◌≤◌, Bool, true, false, not, ltb, leb, eqb, ◌&&◌, ◌||◌, List, [], ◌∷◌, length, refl, sym, ap, subst, ◌∙◌, ◌⊎◌, inl, inr, arith}
use Rattle.std.specs.Prelude.{filter}
use Rattle.std.specs.List.{list_any}
use Rattle.std.proofs.lemmas.Bool.{cases_lt, lt-ltb, le-ltb, le-leb, lt-leb, eqb-true, or_parts}
use Rattle.sim_base.specs.declared.config.Config.{Config}
use Rattle.sim_base.specs.Counts.{is_in_flight, in_flight}
use Rattle.sim_base.specs.History.{is_unit, messages, by_age, receiver_of}
use Rattle.sim_base.specs.Machine.{run}
use Rattle.sim_base.specs.declared.message.Message.{Message}
use Rattle.sim_base.specs.declared.message.Unit.{Unit as MachineUnit}
use Rattle.sim_base.specs.declared.message.Unit.TheVariants.{Core, Channel}
use Rattle.sim_base.specs.declared.trace.Entry.{Entry}
use Rattle.sim_base.proofs.Each.{Each-all}
use Rattle.sim_base.proofs.Spans.{length_run}
use Rattle.sim_base.proofs.Lists.{filter-both, filter-each, filter-agree, not-or}
use Rattle.links.specs.InFlight.{is_due}
use Rattle.units.specs.SpanLaws.Flight.{has_unit, left_after}

-- a message arrives in a span
abbrev pub in_span : ℕ → ℕ → Message → Bool
in_span from until m = leb from m.arrival && ltb m.arrival until

-- what has not arrived before a cycle
abbrev pub not_before : ℕ → Message → Bool
not_before cycle m = leb cycle m.arrival

pub not-lt : (a b : ℕ) → not (ltb a b) ≡ leb b a
not-lt a b = go (cases_lt a b)
  where
    go : (a < b) ⊎ (b ≤ a) → not (ltb a b) ≡ leb b a
    go (inl h) = ap not (lt-ltb a b h) ∙ sym (lt-leb b a h)
    go (inr h) = ap not (le-ltb a b h) ∙ sym (le-leb b a h)

-- what is in flight has not arrived
pub in_flight-late : (s : Config) (traces : List (List Entry)) (now : ℕ) → in_flight s traces (run s traces now) ≡ by_age (filter (not_before now) (messages s traces (run s traces now)))
unfolding in_flight
in_flight-late s traces now =
    let history = run s traces now in
    let sent = messages s traces history in
    let long : length history ≡ now = length_run s traces now in
    let same : (m : Message) → is_in_flight history m ≡ not_before now m = λ m. ap (λ i. not (ltb m.arrival i)) long ∙ not-lt m.arrival now in
    ap by_age (filter-agree (is_in_flight history) (not_before now) sent (Each-all (λ (m : Message). is_in_flight history m ≡ not_before now m) same sent))

pub and-swap : (a b c : Bool) → (a && (b && c)) ≡ (b && (a && (b && c)))
and-swap true true c = refl
and-swap true false c = refl
and-swap false true c = refl
and-swap false false c = refl

-- a unit is not two
one-unit : (r u v : MachineUnit) → is_unit r u ≡ true → is_unit r v ≡ true → is_unit v u ≡ true
one-unit (Core a) (Core b) (Core c) h k = subst (λ x. eqb x b ≡ true) (eqb-true a c k) h
one-unit (Channel a) (Channel b) (Channel c) h k = subst (λ x. eqb x b ≡ true) (eqb-true a c k) h
one-unit (Core a) (Core b) (Channel c) h k = cc
one-unit (Core a) (Channel b) v h k = cc
one-unit (Channel a) (Core b) v h k = cc
one-unit (Channel a) (Channel b) (Core c) h k = cc

-- what is due at one unit is not due at another
other-due : (r u v : MachineUnit) (w x : Bool) → is_unit u v ≡ false → (is_unit r u && w) ≡ (not (is_unit r v && x) && (is_unit r u && w))
other-due r u v w x h = by (is_unit r u) (is_unit r v) w x (λ a b. one-unit r v u b a)
  where
    by : (a b w x : Bool) → (a ≡ true → b ≡ true → is_unit u v ≡ true) → (a && w) ≡ (not (b && x) && (a && w))
    by false true w true k = refl
    by false true w false k = refl
    by false false w x k = refl
    by true false w x k = refl
    by true true w x k = let e : is_unit u v ≡ true = k refl refl in cc

-- taking out what is due elsewhere in a span leaves it, whenever it arrives
pub due-left : (channels from until a b : ℕ) (unit : MachineUnit) (units : List MachineUnit) (ms : List Message) → has_unit units unit ≡ false
    → filter (is_due channels unit a b) (left_after channels from until units ms) ≡ filter (is_due channels unit a b) ms
due-left channels from until a b unit [] ms h = refl
due-left channels from until a b unit (u ∷ units) ms h =
    let both = or_parts (is_unit unit u) (has_unit units unit) h in
    let due = is_due channels unit a b in
    let stays = λ (m : Message). not (is_due channels u from until m) in
    due-left channels from until a b unit units (filter stays ms) both.1
    ∙ sym (filter-both due stays due (λ m. other-due (receiver_of channels m.link) unit u (in_span a b m) (in_span from until m) both.0) ms)

pub any-and : (p : MachineUnit → Bool) (w : Bool) (units : List MachineUnit) → list_any (λ u. p u && w) units ≡ (list_any p units && w)
any-and p w [] = refl
any-and p w (u ∷ units) = ap (λ b. (p u && w) || b) (any-and p w units) ∙ spread (p u) (list_any p units) w
  where
    spread : (a b w : Bool) → ((a && w) || (b && w)) ≡ ((a || b) && w)
    spread true true true = refl
    spread true true false = refl
    spread true false true = refl
    spread true false false = refl
    spread false b w = refl

-- what stays is due at none of the units
pub left-all : (channels from until : ℕ) (units : List MachineUnit) (ms : List Message)
    → left_after channels from until units ms ≡ filter (λ m. not (list_any (λ u. is_due channels u from until m) units)) ms
left-all channels from until [] ms = sym (filter-each (λ (m : Message). true) ms (Each-all (λ (m : Message). true ≡ true) (λ m. refl) ms))
left-all channels from until (u ∷ units) ms =
    let stays = λ (m : Message). not (is_due channels u from until m) in
    let rest = λ (m : Message). not (list_any (λ v. is_due channels v from until m) units) in
    left-all channels from until units (filter stays ms)
    ∙ sym (filter-both rest stays (λ m. not (list_any (λ v. is_due channels v from until m) (u ∷ units))) (λ m. not-or (is_due channels u from until m) (list_any (λ v. is_due channels v from until m) units)) ms)

pub later-both : (from until : ℕ) → from ≤ until → (m : Message) → not_before until m ≡ (not_before from m && not_before until m)
later-both from until l m = go (cases_lt m.arrival until)
  where
    go : (m.arrival < until) ⊎ (until ≤ m.arrival) → not_before until m ≡ (not_before from m && not_before until m)
    go (inl h) = lt-leb until m.arrival h ∙ sym (ap (λ b. not_before from m && b) (lt-leb until m.arrival h) ∙ none (not_before from m))
      where
        none : (b : Bool) → (b && false) ≡ false
        none true = refl
        none false = refl
    go (inr h) = ap (λ b. b && not_before until m) (sym (le-leb from m.arrival (omega arith)))
