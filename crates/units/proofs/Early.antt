-- Words that are no later than the arrivals of what is in flight.
use Rattle.std.proofs.Common.{◌≡◌, ℕ, ◌+◌, ◌-◌, ◌*◌, ◌<◌, ◌≤◌, Bool, true, false, cond, eqb, ltb, leb, not, ◌&&◌, ◌||◌, List, [], ◌∷◌, length, get_or, refl, sym, ap, subst, ◌∙◌, inl, inr, arith}
use Rattle.std.specs.Prelude.{filter, All}
use Rattle.std.specs.List.{AllByRecursion as Each}
use Rattle.std.proofs.lemmas.Bool.{cases_Bool, cases_lt, cond-true, cond-false, and_parts, and_from, eqb-true, le-leb, lt-ltb, le-ltb, ltb-true, true≢false}
use Rattle.std.proofs.lemmas.List.Elements.{All-from_recursion, recursion_from_All}
use Rattle.sim_base.specs.declared.config.Config.{Config}
use Rattle.sim_base.specs.declared.message.Message.{Message}
use Rattle.sim_base.specs.declared.message.Unit.{Unit as MachineUnit}
use Rattle.sim_base.specs.declared.message.Unit.TheVariants.{Core, Channel}
use Rattle.sim_base.specs.History.{is_unit, receiver_of}
use Rattle.sim_base.proofs.Arrived.{Each-puts, fold-puts}
use Rattle.sim_base.proofs.Each.{Each-filter}
use Rattle.sim_base.proofs.Lists.{filter-both}
use Rattle.links.specs.InFlight.{InFlight, is_due, with_sent, arrives_before}
use Rattle.links.specs.Buffers.{GoesBehindInFlight, buffer_to, is_due_in, goes_to, later_of}
use Rattle.links.proofs.Held.{channel_by_buffer, core_by_buffers}
use Rattle.links.proofs.Steps.{behind-no_later}
use Rattle.units.specs.Units.{unit_at, unit_count}
use Rattle.units.specs.Flight.{goes_among}
use Rattle.units.specs.SpanLaws.Flight.{left_after}
use Rattle.units.specs.Runs.{flight_at}
use Rattle.units.specs.Wakes.{UnitWithWord, Waits, WaitAll, HoldsInbox, HoldInboxes, HaveRun, AreEarly, AreLowered, goes_to_place, links_after, unit_with_word_at, units_from}
use Rattle.units.specs.declared.machine.Machine.{Machine}
use Rattle.units.specs.declared.timed_unit.TimedUnit.{TimedUnit}
use Rattle.units.proofs.OneByOne.{Reaches}
use Rattle.units.proofs.SpanLaws.Jumps.{each-fails}
use Rattle.units.proofs.SpanLaws.Silent.{none-part}
use Rattle.units.proofs.Waiting.{due-flight}

-- messages of one buffer go to the same unit
same-buffer : (s : Config) (place : ℕ) (m n : Message) → place < unit_count s → buffer_to s.channels m ≡ buffer_to s.channels n → goes_to_place s m place ≡ goes_to_place s n place
same-buffer s place m n within same = elim (cases_lt place s.cores) [
  | inl core ↦
      let at : unit_at s place ≡ Core place = ap (λ b. cond b (Core place) (Channel (place - s.cores))) (lt-ltb place s.cores core) in
      ap (is_unit (receiver_of s.channels m.link)) at
      ∙ core_by_buffers s.channels place m.link some
      ∙ ap (λ b. eqb b (s.channels + 2 * place) || eqb b (s.channels + 2 * place + 1)) same
      ∙ sym (core_by_buffers s.channels place n.link some)
      ∙ ap (is_unit (receiver_of s.channels n.link)) (sym at)
  | inr channel ↦
      let k = place - s.cores in
      let less : k < s.channels = omega (arith, within, channel) in
      let at : unit_at s place ≡ Channel k = ap (λ b. cond b (Core place) (Channel k)) (le-ltb place s.cores channel) in
      ap (is_unit (receiver_of s.channels m.link)) at
      ∙ channel_by_buffer s.channels k m.link less
      ∙ ap (λ b. eqb b k) same
      ∙ sym (channel_by_buffer s.channels k n.link less)
      ∙ ap (is_unit (receiver_of s.channels n.link)) (sym at)
]
  where
    some : 0 < s.channels
    some = omega (arith, s.machine_in_range.channels_in.0)

-- of a list of which some pass a test, one passes it
some-passes : {T : Type 0} (p : Message → Bool) (P : Message → Type 0) (ms : List Message) → Each P ms → 0 < length (filter p ms) → ((m : Message) → p m ≡ true → P m → T) → T
some-passes p P [] h l f = absurd (omega (arith, l))
some-passes p P (m ∷ ms) h l f = elim (cases_Bool (p m)) [
  | inl passes ↦ f m passes h.0
  | inr fails ↦ some-passes p P ms h.1 (subst (λ b. 0 < length (cond b (m ∷ filter p ms) (filter p ms))) fails l) f
]

-- where words are early, they are no later than a message that goes behind one in flight
pub reaches-behind : (s : Config) (first : ℕ) (m : Message) (words : List ℕ) (links : InFlight) → first + length words ≤ unit_count s → links.channels ≡ s.channels → AreEarly s first words links → GoesBehindInFlight m links
    → Reaches s first m words words
reaches-behind s first m words links within channels early behind = record {
  count = refl;
  less = λ k l. omega arith;
  arrival = λ k l to.
      some-passes (is_due_in links.channels (buffer_to links.channels m) (m.arrival + 1)) (λ x. goes_to_place s x (first + k) ≡ true → get_or words k 0 ≤ x.arrival) links.messages
      (recursion_from_All (λ (x : Message). goes_to_place s x (first + k) ≡ true → get_or words k 0 ≤ x.arrival) links.messages (early k l)) no_later
      (λ x passes below.
      let parts = and_parts (goes_to links.channels (buffer_to links.channels m) x) (arrives_before (m.arrival + 1) x) passes in
      let same : buffer_to s.channels x ≡ buffer_to s.channels m =
      subst (λ ch. buffer_to ch x ≡ buffer_to ch m) channels (eqb-true (buffer_to links.channels x) (buffer_to links.channels m) parts.0) in
      let sooner : x.arrival < m.arrival + 1 = ltb-true x.arrival (m.arrival + 1) parts.1 in
      let word = below (same-buffer s (first + k) x m (omega (arith, within, l)) same ∙ to) in
      omega (arith, word, sooner));
  since = λ cycle k l h a. h;
}
  where
    no_later : 0 < length (filter (is_due_in links.channels (buffer_to links.channels m) (m.arrival + 1)) links.messages)
    no_later =
        subst (λ xs. 0 < length xs) (sym (filter-both (arrives_before (m.arrival + 1)) (goes_to links.channels (buffer_to links.channels m)) _ (λ x. refl) links.messages))
        (behind-no_later m (filter (goes_to links.channels (buffer_to links.channels m)) links.messages) behind)

-- words that are lowered to what was sent are early with it
pub early-after : (s : Config) (first : ℕ) (sent : List Message) (old new : List ℕ) (links after : InFlight) → after ≡ with_sent links sent → AreEarly s first old links → AreLowered s first sent old new
    → AreEarly s first new after
early-after s first sent old new links after is early low k l =
    let less : k < length old = omega (arith, l, low.count) in
    let P = λ (x : Message). goes_to_place s x (first + k) ≡ true → get_or new k 0 ≤ x.arrival in
    let before : Each P links.messages =
    recursion_from_All P links.messages (λ j d at to. let a = early k less j d at to in let b = low.less k less in omega (arith, a, b)) in
    let more : Each P sent = recursion_from_All P sent (λ j d at to. low.arrivals k j d less at to) in
    All-from_recursion P after.messages
    (subst (Each P) (sym (ap (λ (f : InFlight). f.messages) is ∙ fold-puts links.messages sent)) (Each-puts P links.messages sent before more))

each-both-fail : (channels here wake : ℕ) (u : MachineUnit) (ms : List Message) → Each (λ m. is_due channels u 0 here m ≡ false) ms → Each (λ m. is_due channels u here wake m ≡ false) ms
    → Each (λ m. is_unit (receiver_of channels m.link) u ≡ true → wake ≤ m.arrival) ms
each-both-fail channels here wake u [] a b = tt
each-both-fail channels here wake u (m ∷ ms) a b =
    (λ to. late (is_unit (receiver_of channels m.link) u) to m.arrival a.0 b.0, each-both-fail channels here wake u ms a.1 b.1)
  where
    late : (to : Bool) → to ≡ true → (arrival : ℕ) → (to && (leb 0 arrival && ltb arrival here)) ≡ false → (to && (leb here arrival && ltb arrival wake)) ≡ false → wake ≤ arrival
    late true is arrival a b = elim (cases_lt arrival here) [
      | inl sooner ↦ absurd (true≢false (sym (and_from (leb 0 arrival) (ltb arrival here) (le-leb 0 arrival (omega arith)) (lt-ltb arrival here sooner)) ∙ a))
      | inr since ↦ elim (cases_lt arrival wake) [
        | inl before ↦ absurd (true≢false (sym (and_from (leb here arrival) (ltb arrival wake) (le-leb here arrival since) (lt-ltb arrival wake before)) ∙ b))
        | inr rest ↦ rest
      ]
    ]
    late false is arrival a b = absurd (true≢false (sym is))

-- the word of a unit that waits is no later than what is in flight to it, where the links hold its inbox
waits-early : (machine : Machine) (here there until : ℕ) (u : MachineUnit) (unit_with_word : UnitWithWord) (links : InFlight) → HoldsInbox machine here there until u links → Waits machine u here there unit_with_word
    → Each (λ m. is_unit (receiver_of machine.config.channels m.link) u ≡ true → unit_with_word.wake ≤ m.arrival) links.messages
waits-early machine here there until u w links h waits =
    let none : filter (is_due machine.config.channels u here w.wake) links.messages ≡ [] =
    h.due here w.wake (omega arith) ∙ none-part machine.config machine.traces.items there w.at w.wake here w.wake u waits.behind (omega arith) waits.may.none in
    each-both-fail machine.config.channels here w.wake u links.messages (each-fails _ links.messages h.overdue) (each-fails _ links.messages none)

-- what units leave of some messages is among them
left-each : (P : Message → Type 0) (channels from until : ℕ) (units : List MachineUnit) (ms : List Message) → Each P ms → Each P (left_after channels from until units ms)
left-each P channels from until [] ms h = h
left-each P channels from until (u ∷ units) ms h = left-each P channels from until units (filter (λ m. not (is_due channels u from until m)) ms) (Each-filter P (λ m. not (is_due channels u from until m)) ms h)

-- the words of units that wait are early, where the links hold their inboxes
pub all-early : (machine : Machine) (first here there : ℕ) (units : List TimedUnit) (words : List ℕ) (links : InFlight) → length words ≡ length units → HoldInboxes machine first (length units) here there here links
    → WaitAll machine first here there units words → AreEarly machine.config first words links
all-early machine first here there [] words links long holds wait k l = absurd (omega (arith, long, l))
all-early machine first here there (x ∷ xs) words links long holds wait k l =
    All-from_recursion (λ (m : Message). goes_to_place machine.config m (first + k) ≡ true → get_or words k 0 ≤ m.arrival) links.messages
    (waits-early machine here there here (unit_at machine.config (first + k)) (unit_with_word_at (x ∷ xs) words k x) links (holds k (omega (arith, long, l))) (wait k x (omega (arith, long, l))))

-- and they stay so when units take what arrives at them
pub left-early : (s : Config) (first : ℕ) (words : List ℕ) (from until other count : ℕ) (links : InFlight) → AreEarly s first words links → AreEarly s first words (links_after s from until other count links)
left-early s first words from until other count links early k l =
    let P = λ (m : Message). goes_to_place s m (first + k) ≡ true → get_or words k 0 ≤ m.arrival in
    All-from_recursion P (left_after s.channels from until (units_from s other count) links.messages)
    (left-each P s.channels from until (units_from s other count) links.messages (recursion_from_All P links.messages (early k l)))

each-later : (channels until wake : ℕ) (u : MachineUnit) (ms : List Message) → Each (λ m. is_due channels u until wake m ≡ false) ms
    → Each (λ m. is_unit (receiver_of channels m.link) u ≡ true → wake ≤ m.arrival) (later_of until ms)
each-later channels until wake u [] fails = tt
each-later channels until wake u (m ∷ ms) fails = elim (cases_lt m.arrival until) [
  | inl sooner ↦
      subst (Each P) (sym (cond-false (not (ltb m.arrival until)) (m ∷ later_of until ms) (later_of until ms) (ap not (lt-ltb m.arrival until sooner)))) (each-later channels until wake u ms fails.1)
  | inr since ↦
      subst (Each P) (sym (cond-true (not (ltb m.arrival until)) (m ∷ later_of until ms) (later_of until ms) (ap not (le-ltb m.arrival until since))))
      ((λ to. late (is_unit (receiver_of channels m.link) u) to m.arrival since fails.0), each-later channels until wake u ms fails.1)
]
  where
    P : Message → Type 0
    P m = is_unit (receiver_of channels m.link) u ≡ true → wake ≤ m.arrival

    late : (to : Bool) → to ≡ true → (arrival : ℕ) → until ≤ arrival → (to && (leb until arrival && ltb arrival wake)) ≡ false → wake ≤ arrival
    late true is arrival since b = elim (cases_lt arrival wake) [
      | inl before ↦ absurd (true≢false (sym (and_from (leb until arrival) (ltb arrival wake) (le-leb until arrival since) (lt-ltb arrival wake before)) ∙ b))
      | inr rest ↦ rest
    ]
    late false is arrival since b = absurd (true≢false (sym is))

-- the words of units that have gone over a phase are early
pub run-early : (machine : Machine) (first now until : ℕ) (units : List TimedUnit) (words : List ℕ) (links : InFlight) → now ≤ until → HaveRun machine first now until units words links
    → AreEarly machine.config first words links
run-early machine first now until units words links order h k l = by units h.between (omega (arith, l, h.words_count))
  where
    by : (xs : List TimedUnit) → WaitAll machine first until now xs words → k < length xs → All (λ m. goes_to_place machine.config m (first + k) ≡ true → get_or words k 0 ≤ m.arrival) links.messages
    by [] wait less = absurd (omega (arith, less))
    by (x ∷ xs) wait less =
        let s = machine.config in
        let u = unit_at s (first + k) in
        let w = unit_with_word_at (x ∷ xs) words k x in
        let waits = wait k x less in
        let P = λ (m : Message). goes_to_place s m (first + k) ≡ true → get_or words k 0 ≤ m.arrival in
        let none : filter (is_due s.channels u until w.wake) (flight_at machine now) ≡ [] =
        due-flight s machine.traces.items now until w.wake u order ∙ none-part s machine.traces.items now w.at w.wake until w.wake u waits.behind (omega arith) waits.may.none in
        let each : Each P (later_of until (flight_at machine now)) = each-later s.channels until w.wake u (flight_at machine now) (each-fails _ (flight_at machine now) none) in
        All-from_recursion P links.messages
        (subst (Each P) (sym (ap (λ (f : InFlight). f.messages) h.flight))
        (Each-filter P (goes_among s first (first + length units)) (later_of until (flight_at machine now)) each))
