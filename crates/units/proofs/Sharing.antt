-- Messages in flight that are shared out by the places of the units that they go to.
use Rattle.std.proofs.Common.{◌≡◌, ℕ, ◌+◌, ◌-◌, ◌<◌, ◌≤◌, Bool, true, false, ltb, leb, not, ◌&&◌, List, [], ◌⊎◌, inl, inr, refl, sym, ap, subst, ◌∙◌, arith}
use Rattle.std.specs.Prelude.{filter, fold}
use Rattle.std.proofs.lemmas.Bool.{cond-true, cond-false, and_parts}
use Rattle.std.proofs.lemmas.Bool.Decides.{nat_tests}
use Rattle.sim_base.specs.declared.config.Config.{Config}
use Rattle.sim_base.specs.Counts.{in_flight}
use Rattle.sim_base.specs.History.{is_unit, insert_by_age, messages, receiver_of}
use Rattle.sim_base.specs.Locality.{TravelsFor}
use Rattle.sim_base.specs.Machine.{run}
use Rattle.sim_base.specs.declared.message.Message.{Message}
use Rattle.sim_base.specs.declared.message.Unit.{Unit as MachineUnit}
use Rattle.sim_base.specs.declared.message.Unit.TheVariants.{Core, Channel}
use Rattle.sim_base.specs.declared.trace.Entry.{Entry}
use Rattle.sim_base.proofs.Arrived.{by_age-puts, fold-puts}
use Rattle.sim_base.proofs.Ordered.{Sorted, Sorted-puts, Each-weaker, filter-puts}
use Rattle.sim_base.proofs.Lists.{filter-each}
use Rattle.units.proofs.SpanLaws.Flights.{not_before, in_flight-late}
use Rattle.units.proofs.SpanLaws.Lists.{Sorted-filter}
use Rattle.units.specs.SpanLaws.Units.{Exists}
use Rattle.links.specs.InFlight.{is_due}
use Rattle.units.specs.Flight.{is_at_places, goes_among, among}
use Rattle.links.specs.Buffers.{later_of}
use Rattle.units.specs.Units.{unit_at, unit_count}
use Rattle.units.proofs.Due.{same_unit, flight-each}
use Rattle.units.specs.Wakes.{sent_in}
use Rattle.units.proofs.Filters.{filter-within}
use Rattle.units.proofs.Joining.{join-flight}
use Rattle.units.specs.declared.machine.Machine.{Machine}
use Rattle.units.specs.Runs.{flight_at}
use Rattle.units.proofs.SpanLaws.Later.{IsReceived}

-- a unit of a place stands among places where the place is one of them
pub at-places : (s : Config) (first past k : ℕ) → is_at_places s first past (unit_at s k) ≡ (leb first k && ltb k past)
at-places s first past k = by (ltb k s.cores) refl
  where
    by : (b : Bool) → ltb k s.cores ≡ b → is_at_places s first past (unit_at s k) ≡ (leb first k && ltb k past)
    by true e =
        ap (is_at_places s first past) (cond-true _ _ _ e) ∙ ap (λ b. b && (leb first k && ltb k past)) e
    by false e =
        let same : s.cores + (k - s.cores) ≡ k = grind (arith, nat_tests) in
        ap (is_at_places s first past) (cond-false _ _ _ e) ∙ ap (λ n. leb first n && ltb n past) same

pub there : (first past k : ℕ) → first ≤ k → k < past → (leb first k && ltb k past) ≡ true
there first past k l m = grind (arith, nat_tests)

pub not_there : (first past k : ℕ) → (k < first) ⊎ (past ≤ k) → (leb first k && ltb k past) ≡ false
not_there first past k (inl l) = grind (arith, nat_tests)
not_there first past k (inr l) = grind (arith, nat_tests)

-- what is due at a unit goes to it
due-unit : (s : Config) (a b k : ℕ) (m : Message) → is_due s.channels (unit_at s k) a b m ≡ true → receiver_of s.channels m.link ≡ unit_at s k
due-unit s a b k m e = same_unit _ _ (and_parts (is_unit (receiver_of s.channels m.link) (unit_at s k)) _ e).0

pub due-goes : (s : Config) (first past a b k : ℕ) (m : Message) → is_due s.channels (unit_at s k) a b m ≡ true → goes_among s first past m ≡ (leb first k && ltb k past)
due-goes s first past a b k m e = ap (is_at_places s first past) (due-unit s a b k m e) ∙ at-places s first past k

-- what is due at one of the units is among what goes to them
pub due-among : (s : Config) (first past a b k : ℕ) (ms : List Message) → first ≤ k → k < past
    → filter (is_due s.channels (unit_at s k) a b) (among s first past ms) ≡ filter (is_due s.channels (unit_at s k) a b) ms
due-among s first past a b k ms l m =
    filter-within (is_due s.channels (unit_at s k) a b) (goes_among s first past) (λ x e. due-goes s first past a b k x e ∙ there first past k l m) ms

goes-all : (s : Config) (u : MachineUnit) → Exists s u → is_at_places s 0 (unit_count s) u ≡ true
goes-all s (Core core) l = grind (arith, nat_tests)
goes-all s (Channel channel) l = grind (arith, nat_tests)

-- all that is in flight goes to one of all units
pub among-all : (s : Config) (traces : List (List Entry)) (now : ℕ) → among s 0 (unit_count s) (in_flight s traces (run s traces now)) ≡ in_flight s traces (run s traces now)
among-all s traces now =
    let ms = in_flight s traces (run s traces now) in
    filter-each (goes_among s 0 (unit_count s)) ms
    (Each-weaker (λ (m : Message). IsReceived s m × (now ≤ m.arrival)) (λ (m : Message). goes_among s 0 (unit_count s) m ≡ true) (λ m h. goes-all s (receiver_of s.channels m.link) h.0) ms (flight-each s traces now))

pub flight-sorted : (s : Config) (traces : List (List Entry)) (now : ℕ) → Sorted (in_flight s traces (run s traces now))
flight-sorted s traces now =
    let sent = filter (not_before now) (messages s traces (run s traces now)) in
    subst Sorted (sym (in_flight-late s traces now ∙ by_age-puts sent)) (Sorted-puts [] sent tt)

-- what is in flight to some units at the end of a phase is what was left for them and what was sent to them
pub among-joins : (machine : Machine) (first past now until : ℕ) → now ≤ until → TravelsFor machine.config (until - now)
    → fold insert_by_age (among machine.config first past (later_of until (flight_at machine now))) (among machine.config first past (sent_in machine now until))
    ≡ among machine.config first past (flight_at machine until)
among-joins machine first past now until l t =
    let old = later_of until (flight_at machine now) in
    let new = sent_in machine now until in
    fold-puts (among machine.config first past old) (among machine.config first past new)
    ∙ sym (filter-puts (goes_among machine.config first past) old new (Sorted-filter (λ m. not (ltb m.arrival until)) _ (flight-sorted machine.config machine.traces.items now)))
    ∙ ap (among machine.config first past) (sym (fold-puts old new) ∙ join-flight machine now until l t)
