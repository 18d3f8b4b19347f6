-- The messages in flight at the end of a phase: those that were left at its beginning, and what all units sent in it.
use Rattle.std.proofs.Common.{◌≡◌, ℕ, zero, suc, ◌+◌, ◌-◌, ◌<◌, ◌≤◌, true, ltb, not, List, [], ◌++◌, refl, sym, ap, ap₂, subst, ◌∙◌, append_assoc, append-nil, add-suc, add-zero, arith}
use Rattle.std.specs.Prelude.{filter, flat_map, fold}
use Rattle.std.specs.List.{AllByRecursion as Each}
use Rattle.std.proofs.lemmas.Bool.Decides.{nat_tests}
use Rattle.std.proofs.lemmas.List.Prefix.{front_rest}
use Rattle.sim_base.specs.declared.config.Config.{Config}
use Rattle.sim_base.specs.Counts.{in_flight}
use Rattle.sim_base.specs.History.{below, insert_by_age, by_age, messages, messages_of_core, messages_of_channel}
use Rattle.sim_base.specs.Locality.{TravelsFor}
use Rattle.sim_base.specs.Machine.{run}
use Rattle.sim_base.specs.declared.message.Message.{Message}
use Rattle.sim_base.specs.declared.message.Unit.{Unit as MachineUnit}
use Rattle.sim_base.specs.declared.message.Unit.TheVariants.{Core, Channel}
use Rattle.sim_base.specs.declared.trace.Entry.{Entry}
use Rattle.sim_base.proofs.Arrived.{puts, by_age-puts, fold-puts}
use Rattle.sim_base.proofs.Below.{flat_map_below_more, flat_map_below_same}
use Rattle.sim_base.proofs.Each.{Each-all, Each-flat_map_below, Each-last}
use Rattle.sim_base.proofs.Grows.{SentBy, of_core-by, of_channel-by, grow}
use Rattle.sim_base.proofs.Ordered.{Sorted, Each-weaker, Sorted-puts, filter-puts, filter-by_age}
use Rattle.sim_base.proofs.Spans.{length_run}
use Rattle.sim_base.proofs.Lists.{filter-each}
use Rattle.units.specs.SpanLaws.Units.{Exists, sent_of}
use Rattle.units.specs.Flight.{fresh}
use Rattle.links.specs.Buffers.{later_of}
use Rattle.units.specs.Units.{unit_at, unit_count}
use Rattle.units.proofs.Due.{place-at, place_of_unit, exists-at}
use Rattle.units.proofs.Filters.{filter-within}
use Rattle.units.proofs.Standing.{core-at_place, channel-at_place}
use Rattle.units.specs.declared.machine.Machine.{Machine}
use Rattle.units.specs.Runs.{run_of, flight_at, sent_at}
use Rattle.units.proofs.Travelling.{Added, core-added, channel-added, late-added}

-- what a unit sent in a span is what is fresh of it
pub fresh-is : (machine : Machine) (from until place : ℕ) (ms : List Message)
    → sent_at machine until (unit_at machine.config place) ≡ sent_at machine from (unit_at machine.config place) ++ ms → fresh machine from until place ≡ ms
unfolding fresh
fresh-is machine from until place ms e =
    front_rest (sent_at machine until (unit_at machine.config place)) (sent_at machine from (unit_at machine.config place)) ms e

-- what a unit sent in more cycles begins with what it sent in fewer
pub fresh-grows : (machine : Machine) (from until place : ℕ) → place < unit_count machine.config → from ≤ until
    → sent_at machine until (unit_at machine.config place) ≡ sent_at machine from (unit_at machine.config place) ++ fresh machine from until place
fresh-grows machine from until place l k =
    let a = added (unit_at machine.config place) (exists-at machine.config place l) in
    a.are ∙ ap (λ z. sent_at machine from (unit_at machine.config place) ++ z) (sym (fresh-is machine from until place a.more a.are))
  where
    e : from + (until - from) ≡ until
    e = omega (arith, k)

    Any : Message → Type 0
    Any m = m ≡ m

    added : (u : MachineUnit) → Exists machine.config u → Added Any (sent_at machine from u) (sent_at machine until u)
    added (Core core) m =
        subst (λ i. Added Any (messages_of_core machine.config machine.traces.items (run_of machine from) core) (messages_of_core machine.config machine.traces.items (run_of machine i) core)) e
        (core-added machine.config machine.traces.items Any from core (λ rows cycle h. Each-all Any (λ x. refl) _) (until - from))
    added (Channel channel) m =
        subst (λ i. Added Any (messages_of_channel machine.config (run_of machine from) channel) (messages_of_channel machine.config (run_of machine i) channel)) e
        (channel-added machine.config machine.traces.items Any from channel m (λ cycle o h c. Each-all Any (λ x. refl) _) (until - from))

pub fresh-late : (machine : Machine) (from until place : ℕ) → place < unit_count machine.config → from ≤ until → TravelsFor machine.config (until - from)
    → Each (λ m. until ≤ m.arrival) (fresh machine from until place)
fresh-late machine from until place l k t =
    let a = late-added machine.config machine.traces.items from until (unit_at machine.config place) (exists-at machine.config place l) k t in
    subst (Each (λ m. until ≤ m.arrival)) (sym (fresh-is machine from until place a.more a.are)) a.each

pub flat-split : {X : Type 0} (f : ℕ → List X) (c k : ℕ) → flat_map f (below (c + k)) ≡ flat_map f (below c) ++ flat_map (λ i. f (c + i)) (below k)
flat-split f c zero = ap (λ n. flat_map f (below n)) (add-zero c) ∙ sym (append-nil (flat_map f (below c)))
flat-split f c (suc k) =
    ap (λ n. flat_map f (below n)) (add-suc c k)
    ∙ flat_map_below_more f (c + k)
    ∙ ap (λ z. z ++ f (c + k)) (flat-split f c k)
    ∙ append_assoc (flat_map f (below c)) _ (f (c + k))
    ∙ ap (λ z. flat_map f (below c) ++ z) (sym (flat_map_below_more (λ i. f (c + i)) k))

-- all that is sent, unit by unit
pub all-sent : (s : Config) (traces : List (List Entry)) (n : ℕ) → flat_map (λ i. sent_of s traces n (unit_at s i)) (below (unit_count s)) ≡ messages s traces (run s traces n)
unfolding messages
all-sent s traces n =
    flat-split (λ i. sent_of s traces n (unit_at s i)) s.cores s.channels
    ∙ ap₂ (λ x y. x ++ y)
    (flat_map_below_same _ (messages_of_core s traces (run s traces n)) s.cores (λ i l. ap (sent_of s traces n) (core-at_place s i l)))
    (flat_map_below_same _ (messages_of_channel s (run s traces n)) s.channels (λ i l. ap (sent_of s traces n) (channel-at_place s (s.cores + i) i refl)))

sent-by : (s : Config) (traces : List (List Entry)) (n : ℕ) (u : MachineUnit) → Exists s u → SentBy s u (sent_of s traces n u)
sent-by s traces n (Core core) l = of_core-by s traces (run s traces n) core
sent-by s traces n (Channel channel) l = of_channel-by s (run s traces n) channel l

fresh-by : (machine : Machine) (from until place : ℕ) → place < unit_count machine.config → from ≤ until
    → SentBy machine.config (unit_at machine.config place) (fresh machine from until place)
fresh-by machine from until place l k =
    let u = unit_at machine.config place in
    Each-last _ (sent_at machine from u) (fresh machine from until place)
    (subst (SentBy machine.config u) (fresh-grows machine from until place l k) (sent-by machine.config machine.traces.items until u (exists-at machine.config place l)))

places-differ : (s : Config) (i j : ℕ) → i < j → unit_at s i ≡ unit_at s j → ⊥
places-differ s i j l e =
    let f : i ≡ j = sym (place-at s i) ∙ ap (place_of_unit s) e ∙ place-at s j in
    omega (arith, f, l)

-- all messages of a run, with those that are sent in a span put in last
all-grow : (machine : Machine) (from until : ℕ) → from ≤ until
    → by_age (messages machine.config machine.traces.items (run_of machine until)) ≡ puts (by_age (messages machine.config machine.traces.items (run_of machine from))) (flat_map (fresh machine from until) (below (unit_count machine.config)))
all-grow machine from until k =
    let n = unit_count machine.config in
    by_age-puts (messages machine.config machine.traces.items (run_of machine until))
    ∙ ap (puts []) (sym (all-sent machine.config machine.traces.items until) ∙ flat_map_below_same _ (λ i. sent_at machine from (unit_at machine.config i) ++ fresh machine from until i) n (λ i l. fresh-grows machine from until i l k))
    ∙ grow machine.config (unit_at machine.config) (places-differ machine.config) (λ i. sent_at machine from (unit_at machine.config i)) (fresh machine from until) [] n
    (λ i l. sent-by machine.config machine.traces.items from (unit_at machine.config i) (exists-at machine.config i l)) (λ i l. fresh-by machine from until i l k)
    ∙ ap (λ z. puts z (flat_map (fresh machine from until) (below n))) (ap (puts []) (all-sent machine.config machine.traces.items from) ∙ sym (by_age-puts (messages machine.config machine.traces.items (run_of machine from))))

flight-late : (s : Config) (traces : List (List Entry)) (n : ℕ) → in_flight s traces (run s traces n) ≡ later_of n (by_age (messages s traces (run s traces n)))
unfolding in_flight
flight-late s traces n =
    ap (λ i. by_age (filter (λ m. not (ltb m.arrival i)) (messages s traces (run s traces n)))) (length_run s traces n)
    ∙ sym (filter-by_age (λ m. not (ltb m.arrival n)) (messages s traces (run s traces n)))

later : (a from until : ℕ) → from ≤ until → not (ltb a until) ≡ true → not (ltb a from) ≡ true
later a from until l e = grind (arith, nat_tests)

since : (a until : ℕ) → until ≤ a → not (ltb a until) ≡ true
since a until l = grind (arith, nat_tests)

late-late : (from until : ℕ) → from ≤ until → (ms : List Message) → later_of until (later_of from ms) ≡ later_of until ms
late-late from until l ms =
    filter-within (λ m. not (ltb m.arrival until)) (λ m. not (ltb m.arrival from)) (λ m. later m.arrival from until l) ms

pub join-flight : (machine : Machine) (from until : ℕ) → from ≤ until → TravelsFor machine.config (until - from)
    → fold insert_by_age (later_of until (flight_at machine from)) (flat_map (fresh machine from until) (below (unit_count machine.config))) ≡ flight_at machine until
join-flight machine from until k t =
    let n = unit_count machine.config in
    let old = by_age (messages machine.config machine.traces.items (run_of machine from)) in
    let new = flat_map (fresh machine from until) (below n) in
    let p = λ (m : Message). not (ltb m.arrival until) in
    let all : Each (λ m. p m ≡ true) new =
    Each-flat_map_below (λ (m : Message). p m ≡ true) (fresh machine from until) n
    (λ i l. Each-weaker (λ (m : Message). until ≤ m.arrival) (λ (m : Message). p m ≡ true) (λ m h. since m.arrival until h) _ (fresh-late machine from until i l k t)) in
    fold-puts (later_of until (flight_at machine from)) new
    ∙ ap (λ z. puts (later_of until z) new) (flight-late machine.config machine.traces.items from)
    ∙ ap (λ z. puts z new) (late-late from until k old)
    ∙ ap (puts (later_of until old)) (sym (filter-each p new all))
    ∙ sym (filter-puts p old new (subst Sorted (sym (by_age-puts (messages machine.config machine.traces.items (run_of machine from)))) (Sorted-puts [] (messages machine.config machine.traces.items (run_of machine from)) tt)))
    ∙ ap (later_of until) (sym (all-grow machine from until k))
    ∙ sym (flight-late machine.config machine.traces.items until)
