-- The messages that units take out of the links when a phase begins, and those that are left.
use Rattle.std.proofs.Common.{◌≡◌, ℕ, zero, suc, ◌+◌, ◌<◌, ◌≤◌, Bool, true, false, eqb, ltb, leb, not, ◌&&◌, List, refl, sym, ap, subst, ◌∙◌, arith}
use Rattle.std.specs.Prelude.{filter}
use Rattle.std.specs.List.{AllByRecursion as Each}
use Rattle.std.proofs.lemmas.Bool.{cond-true, cond-false}
use Rattle.std.proofs.lemmas.Bool.Decides.{nat_tests}
use Rattle.sim_base.specs.declared.config.Config.{Config}
use Rattle.sim_base.specs.Counts.{is_in_flight, in_flight}
use Rattle.sim_base.specs.History.{receiver, is_unit, messages}
use Rattle.sim_base.specs.Machine.{run}
use Rattle.sim_base.specs.declared.message.Message.{Message}
use Rattle.sim_base.specs.declared.message.Unit.{Unit as MachineUnit}
use Rattle.sim_base.specs.declared.message.Unit.TheVariants.{Core, Channel}
use Rattle.sim_base.specs.declared.trace.Entry.{Entry}
use Rattle.sim_base.proofs.Arrived.{Each-by_age}
use Rattle.sim_base.proofs.Each.{Each-both, Each-all, Each-filter}
use Rattle.sim_base.proofs.Ordered.{Each-weaker}
use Rattle.sim_base.proofs.Spans.{length_run}
use Rattle.sim_base.proofs.Lists.{filter-both, filter-each, filter-agree}
use Rattle.sim_base.proofs.Grows.{is_unit-own}
use Rattle.links.specs.InFlight.{is_due}
use Rattle.units.specs.SpanLaws.Units.{Exists}
use Rattle.units.specs.Units.{unit_count, unit_at}
use Rattle.links.specs.Buffers.{later_of}
use Rattle.units.specs.Flight.{left}
use Rattle.units.proofs.Standing.{core-at_place, channel-at_place}
use Rattle.units.proofs.SpanLaws.Later.{IsReceived, messages-received}
use Rattle.statistics.proofs.ChannelChoices.{passes}

-- a message is not due at any of the first units
spared : Config → ℕ → ℕ → ℕ → Message → Bool
spared s from until zero m = true
spared s from until (suc k) m = spared s from until k m && not (is_due s.channels (unit_at s k) from until m)

left-spared : (s : Config) (from until k : ℕ) (ms : List Message) → left s from until k ms ≡ filter (spared s from until k) ms
unfolding left spared
left-spared s from until zero ms = sym (filter-each _ ms (Each-all _ (λ m. refl) ms))
left-spared s from until (suc k) ms =
    ap (filter _) (left-spared s from until k ms) ∙ sym (filter-both _ (spared s from until k) (spared s from until (suc k)) (λ m. refl) ms)

pub same_unit : (a b : MachineUnit) → is_unit a b ≡ true → a ≡ b
same_unit (Core a) (Core b) e = let f : a ≡ b = grind (arith, nat_tests) in ap Core f
same_unit (Channel a) (Channel b) e = let f : a ≡ b = grind (arith, nat_tests) in ap Channel f
same_unit (Core a) (Channel b) e = cc
same_unit (Channel a) (Core b) e = cc

-- the place of a unit
pub place_of_unit : Config → MachineUnit → ℕ
place_of_unit s (Core core) = core
place_of_unit s (Channel channel) = s.cores + channel

pub place-within : (s : Config) (u : MachineUnit) → Exists s u → place_of_unit s u < unit_count s
unfolding place_of_unit
place-within s (Core core) l = omega arith
place-within s (Channel channel) l = omega arith

pub at-place : (s : Config) (u : MachineUnit) → Exists s u → unit_at s (place_of_unit s u) ≡ u
unfolding place_of_unit
at-place s (Core core) l = core-at_place s core l
at-place s (Channel channel) l = channel-at_place s (s.cores + channel) channel refl

pub place-at : (s : Config) (place : ℕ) → place_of_unit s (unit_at s place) ≡ place
unfolding place_of_unit
place-at s place = by (ltb place s.cores) refl
  where
    by : (b : Bool) → ltb place s.cores ≡ b → place_of_unit s (unit_at s place) ≡ place
    by true e = ap (place_of_unit s) (cond-true _ _ _ e)
    by false e = ap (place_of_unit s) (cond-false _ _ _ e) ∙ grind (arith, nat_tests)

pub exists-at : (s : Config) (place : ℕ) → place < unit_count s → Exists s (unit_at s place)
exists-at s place l = by (ltb place s.cores) refl
  where
    by : (b : Bool) → ltb place s.cores ≡ b → Exists s (unit_at s place)
    by true e = subst (Exists s) (sym (cond-true _ _ _ e)) (grind (arith, nat_tests))
    by false e = subst (Exists s) (sym (cond-false _ _ _ e)) (grind (arith, nat_tests))

spared-none : (s : Config) (from until q : ℕ) (m : Message) → is_due s.channels (unit_at s q) from until m ≡ true → (k : ℕ) → q < k → spared s from until k m ≡ false
unfolding spared
spared-none s from until q m e zero l = absurd (omega arith)
spared-none s from until q m e (suc k) l = by (eqb q k) refl (spared-none s from until q m e k)
  where
    both : (a : Bool) → (a && false) ≡ false
    both true = refl
    both false = refl

    by : (b : Bool) → eqb q k ≡ b → (q < k → spared s from until k m ≡ false) → (spared s from until k m && not (is_due s.channels (unit_at s k) from until m)) ≡ false
    by true f h =
        let g : q ≡ k = grind (arith, nat_tests) in
        ap (λ b. spared s from until k m && not b) (subst (λ i. is_due s.channels (unit_at s i) from until m ≡ true) g e) ∙ both (spared s from until k m)
    by false f h =
        let g : q < k = grind (arith, nat_tests) in
        ap (λ b. b && not (is_due s.channels (unit_at s k) from until m)) (h g)

spared-all : (s : Config) (from until : ℕ) (m : Message) → ltb m.arrival until ≡ false → (k : ℕ) → spared s from until k m ≡ true
unfolding spared
spared-all s from until m e zero = refl
spared-all s from until m e (suc k) =
    ap (λ b. b && not (is_due s.channels (unit_at s k) from until m)) (spared-all s from until m e k)
    ∙ ap not (never (is_unit (receiver s m.link) (unit_at s k)) (leb from m.arrival))
  where
    never : (a b : Bool) → (a && (b && ltb m.arrival until)) ≡ false
    never true true = e
    never true false = refl
    never false b = refl

-- when each unit has taken its messages, those are left that arrive after the span
left-late : (s : Config) (from until : ℕ) (m : Message) → IsReceived s m → from ≤ m.arrival → spared s from until (unit_count s) m ≡ not (ltb m.arrival until)
left-late s from until m goes l = by (ltb m.arrival until) refl
  where
    by : (b : Bool) → ltb m.arrival until ≡ b → spared s from until (unit_count s) m ≡ not (ltb m.arrival until)
    by false e = spared-all s from until m e (unit_count s) ∙ sym (ap not e)
    by true e =
        let u = receiver s m.link in
        let here : is_unit u (unit_at s (place_of_unit s u)) ≡ true = subst (λ v. is_unit u v ≡ true) (sym (at-place s u goes)) (is_unit-own u) in
        let since : leb from m.arrival ≡ true = grind (arith, nat_tests) in
        let due : is_due s.channels (unit_at s (place_of_unit s u)) from until m ≡ true =
        ap (λ b. b && (leb from m.arrival && ltb m.arrival until)) here ∙ ap (λ b. b && ltb m.arrival until) since ∙ e in
        spared-none s from until (place_of_unit s u) m due (unit_count s) (place-within s u goes) ∙ sym (ap not e)

-- each message in flight goes to a unit, and is still to arrive
pub flight-each : (s : Config) (traces : List (List Entry)) (from : ℕ) → Each (λ m. IsReceived s m × (from ≤ m.arrival)) (in_flight s traces (run s traces from))
unfolding in_flight
flight-each s traces from =
    let history = run s traces from in
    let ms = messages s traces history in
    Each-by_age _ _
    (Each-both (IsReceived s) (λ m. from ≤ m.arrival) (filter (is_in_flight history) ms)
    (Each-filter (IsReceived s) (is_in_flight history) ms (messages-received s traces from))
    (Each-weaker _ (λ m. from ≤ m.arrival) (λ m e. since m (subst (λ n. not (ltb m.arrival n) ≡ true) (length_run s traces from) e)) _ (passes (is_in_flight history) ms)))
  where
    since : (m : Message) → not (ltb m.arrival from) ≡ true → from ≤ m.arrival
    since m e = grind (arith, nat_tests)

pub left-all : (s : Config) (traces : List (List Entry)) (from until : ℕ)
    → left s from until (unit_count s) (in_flight s traces (run s traces from)) ≡ later_of until (in_flight s traces (run s traces from))
left-all s traces from until =
    let ms = in_flight s traces (run s traces from) in
    left-spared s from until (unit_count s) ms
    ∙ filter-agree _ _ ms (Each-weaker _ _ (λ m h. left-late s from until m h.0 h.1) ms (flight-each s traces from))

pub left-none : (s : Config) (from until : ℕ) (ms : List Message) → left s from until 0 ms ≡ ms
unfolding left
left-none s from until ms = refl

pub left-more : (s : Config) (from until k : ℕ) (ms : List Message)
    → filter (λ m. not (is_due s.channels (unit_at s k) from until m)) (left s from until k ms) ≡ left s from until (suc k) ms
unfolding left
left-more s from until k ms = refl
