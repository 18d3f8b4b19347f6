-- A phase, in which units of both kinds go on together from one cycle.
use Rattle.std.proofs.Common.{◌≡◌, ℕ, ◌+◌, ◌-◌, ◌≤◌, Bool, true, false, ltb, leb, not, ◌&&◌, List, [], length, refl, sym, ap, subst, ◌∙◌, arith}
use Rattle.std.proofs.lemmas.Bool.Decides.{nat_tests}
use Rattle.std.specs.Prelude.{filter}
use Rattle.std.specs.List.{list_any}
use Rattle.sim_base.specs.History.{is_unit, receiver_of}
use Rattle.sim_base.specs.Locality.{TravelsFor}
use Rattle.sim_base.specs.declared.message.Message.{Message}
use Rattle.sim_base.specs.declared.message.Unit.{Unit as MachineUnit}
use Rattle.sim_base.specs.declared.message.Unit.TheVariants.{Core, Channel}
use Rattle.sim_base.proofs.Ordered.{Each-weaker}
use Rattle.sim_base.proofs.Lists.{filter-agree, filter-both}
use Rattle.links.specs.InFlight.{InFlight, is_due}
use Rattle.units.specs.SpanLaws.Flight.{left_after}
use Rattle.units.proofs.SpanLaws.Flights.{any-and}
use Rattle.units.proofs.SpanLaws.Flights as flights
use Rattle.units.proofs.SpanLaws.Bringing.{unit-overdue}
use Rattle.units.proofs.SpanLaws.FlightsInTurns.{flights-meet}
use Rattle.units.specs.declared.machine.Machine.{Machine}
use Rattle.units.specs.Runs.{flight_at}
use Rattle.units.specs.Flight.{goes_among, among}
use Rattle.links.specs.Buffers.{later_of}
use Rattle.units.specs.Units.{unit_at}
use Rattle.units.proofs.Due.{flight-each}
use Rattle.units.specs.Wakes.{HoldInboxes, HaveRun, AreBetweenPhases, HoldsInbox, WaitAll, units_from, links_after}
use Rattle.units.specs.declared.timed_unit.TimedUnit.{TimedUnit}
use Rattle.units.proofs.Going.{units-places}
use Rattle.units.proofs.Sharing.{due-among}
use Rattle.units.proofs.Waiting.{due-flight, known-phase}

-- nothing in flight is overdue
none-in_flight : (machine : Machine) (now : ℕ) (u : MachineUnit) → filter (is_due machine.config.channels u 0 now) (flight_at machine now) ≡ []
none-in_flight machine now (Core core) = ap (filter (is_due machine.config.channels (Core core) 0 now)) (sym (flights-meet machine.config machine.traces.items now)) ∙ unit-overdue machine.config machine.traces.items now now (Core core)
none-in_flight machine now (Channel channel) =
    ap (filter (is_due machine.config.channels (Channel channel) 0 now)) (sym (flights-meet machine.config machine.traces.items now)) ∙ unit-overdue machine.config machine.traces.items now now (Channel channel)

-- what is in flight is brought to all units, in a phase that is no longer than any message travels
pub phase-holds_inbox : (machine : Machine) (first now until : ℕ) (units : List TimedUnit) (words : List ℕ) (links : InFlight) → AreBetweenPhases machine first now units words links → now ≤ until
    → TravelsFor machine.config (until - now) → HoldInboxes machine first (length units) now now until links
phase-holds_inbox machine first now until units words links h l t k less =
    let u = unit_at machine.config (first + k) in
    let flying = flight_at machine now in
    subst (HoldsInbox machine now now until u) (sym h.flight)
    (record {
      channels_are = refl;
      overdue = due-among machine.config first (first + length units) 0 now (first + k) flying (omega arith) (omega (arith, less)) ∙ none-in_flight machine now u;
      due = λ from to m. due-among machine.config first (first + length units) from to (first + k) flying (omega arith) (omega (arith, less)) ∙ due-flight machine.config machine.traces.items now from to u m;
      known = known-phase machine now until u l t;
    })

kept : (goes since soon : Bool) → since ≡ true → (goes && not (goes && (since && soon))) ≡ (not soon && goes)
kept true true true e = refl
kept true true false e = refl
kept false true true e = refl
kept false true false e = refl
kept goes false soon e = cc

-- when all have taken theirs, what comes later is left
phase-left : (machine : Machine) (first count now until : ℕ) → left_after machine.config.channels now until (units_from machine.config first count) (among machine.config first (first + count) (flight_at machine now))
    ≡ among machine.config first (first + count) (later_of until (flight_at machine now))
phase-left machine first count now until =
    flights.left-all machine.config.channels now until units (filter goes flying)
    ∙ sym (filter-both stays goes _ (λ m. refl) flying)
    ∙ filter-agree (λ m. goes m && stays m) (λ m. not (ltb m.arrival until) && goes m) flying (Each-weaker _ _ (λ m h. same m h.1) flying (flight-each machine.config machine.traces.items now))
    ∙ filter-both goes (λ m. not (ltb m.arrival until)) _ (λ m. refl) flying
  where
    units : List MachineUnit
    units = units_from machine.config first count

    flying : List Message
    flying = flight_at machine now

    goes : Message → Bool
    goes m = goes_among machine.config first (first + count) m

    stays : Message → Bool
    stays m = not (list_any (λ u. is_due machine.config.channels u now until m) units)

    same : (m : Message) → now ≤ m.arrival → (goes m && stays m) ≡ (not (ltb m.arrival until) && goes m)
    same m l =
        let since : leb now m.arrival ≡ true = grind (arith, nat_tests) in
        ap (λ b. goes m && not b)
        (any-and (λ u. is_unit (receiver_of machine.config.channels m.link) u) (leb now m.arrival && ltb m.arrival until) units
        ∙ ap (λ b. b && (leb now m.arrival && ltb m.arrival until)) (units-places machine.config first count (receiver_of machine.config.channels m.link)))
        ∙ kept (goes m) (leb now m.arrival) (ltb m.arrival until) since

-- when all units have taken theirs, the phase is over for them
pub phase-has_run : (machine : Machine) (first now until : ℕ) (before units : List TimedUnit) (old words : List ℕ) (links after : InFlight) → AreBetweenPhases machine first now before old links
    → length units ≡ length before → length words ≡ length old → WaitAll machine first until now units words → after ≡ links_after machine.config now until first (length before) links
    → HaveRun machine first now until units words after
phase-has_run machine first now until before units old words links after h e f wait left =
    record {
      within = omega (arith, h.within, e);
      words_count = f ∙ h.words_count ∙ sym e;
      between = wait;
      flight = left
          ∙ ap {A = InFlight} {B = InFlight} (links_after machine.config now until first (length before)) h.flight
          ∙ ap {B = InFlight} (λ ms. record { channels = machine.config.channels; messages = ms }) (phase-left machine first (length before) now until)
          ∙ ap {B = InFlight} (λ n. record { channels = machine.config.channels; messages = among machine.config first (first + n) (later_of until (flight_at machine now)) }) (sym e);
    }
