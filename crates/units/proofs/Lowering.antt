-- Words that are lowered to what is sent in a phase.
use Rattle.std.proofs.Common.{◌≡◌, ℕ, ◌+◌, ◌-◌, ◌<◌, ◌≤◌, Bool, true, false, cond, max, ltb, leb, not, ◌&&◌, List, [], ◌∷◌, length, get_or, refl, sym, ap, ap₂, subst, ◌∙◌, arith}
use Rattle.std.specs.Prelude.{filter, slice_get, option_map, Some, None, All}
use Rattle.std.specs.List.{AllByRecursion as Each}
use Rattle.std.proofs.lemmas.Bool.Decides.{nat_tests}
use Rattle.std.proofs.lemmas.List.Elements.{All-from_recursion, recursion_from_All}
use Rattle.sim_base.specs.History.{is_unit, receiver_of}
use Rattle.sim_base.specs.Locality.{TravelsFor}
use Rattle.sim_base.specs.declared.message.Message.{Message}
use Rattle.sim_base.specs.declared.message.Unit.{Unit as MachineUnit}
use Rattle.sim_base.proofs.Arrived.{puts, fold-puts}
use Rattle.sim_base.proofs.Each.{Each-filter, Each-flat_map_below}
use Rattle.sim_base.proofs.Ordered.{filter-puts}
use Rattle.sim_base.proofs.Kept.{filter-filter}
use Rattle.sim_base.proofs.Lists.{filter-both}
use Rattle.links.specs.InFlight.{is_due, arrives_within}
use Rattle.units.specs.SpanLaws.Mail.{mail_in}
use Rattle.units.specs.SpanLaws.Quiet.{IsSilent}
use Rattle.units.proofs.SpanLaws.Lists.{Sorted-filter}
use Rattle.units.specs.Flight.{fresh, goes_among, among}
use Rattle.units.specs.Parts.{IsPart}
use Rattle.links.specs.Buffers.{later_of}
use Rattle.units.specs.Units.{unit_at, unit_count}
use Rattle.units.specs.Wakes.{UnitWithWord, Waits, WaitAll, AreLowered, unit_with_word_at, sent_in}
use Rattle.units.specs.declared.timed_unit.TimedUnit.{TimedUnit}
use Rattle.units.proofs.Filters.{filter-within}
use Rattle.units.proofs.Joining.{join-flight, fresh-late}
use Rattle.units.proofs.Sharing.{due-among, flight-sorted}
use Rattle.units.proofs.SpanLaws.Silent.{silent-sooner, none-part, none-first}
use Rattle.units.specs.declared.machine.Machine.{Machine}
use Rattle.units.specs.Runs.{flight_at}
use Rattle.units.proofs.Waiting.{none-due, due-flight, known-mail, known-phase}

-- what is sent in a phase arrives no sooner than at its end
pub sent-late : (machine : Machine) (now until : ℕ) → now ≤ until → TravelsFor machine.config (until - now) → All (λ m. until ≤ m.arrival) (sent_in machine now until)
sent-late machine now until l t =
    All-from_recursion (λ (m : Message). until ≤ m.arrival) (sent_in machine now until)
    (Each-flat_map_below (λ (m : Message). until ≤ m.arrival) (fresh machine now until) (unit_count machine.config) (λ place k. fresh-late machine now until place k l t))

-- a unit waits on, once its word is lowered to what was sent to it in the phase
pub lowered-waits : (machine : Machine) (u : MachineUnit) (now until : ℕ) (unit_with_word after : UnitWithWord) → now ≤ until → TravelsFor machine.config (until - now)
    → Waits machine u until now unit_with_word → after.part ≡ unit_with_word.part → after.at ≡ unit_with_word.at → until ≤ after.wake → after.wake ≤ unit_with_word.wake
    → filter (is_due machine.config.channels u until after.wake) (sent_in machine now until) ≡ [] → Waits machine u until until after
lowered-waits machine u now until unit_with_word after l t h part at since within none-new =
    let old = flight_at machine now in
    let new = sent_in machine now until in
    let w = after.wake in
    let p = is_due machine.config.channels u until w in
    let none-old : filter p old ≡ [] = due-flight machine.config machine.traces.items now until w u l ∙ none-part machine.config machine.traces.items now unit_with_word.at unit_with_word.wake until w u h.behind within h.may.none in
    let none-before : mail_in machine.config machine.traces.items until u unit_with_word.at until ≡ [] =
    known-mail machine now unit_with_word.at until u (known-phase machine now until u l t) ∙ none-part machine.config machine.traces.items now unit_with_word.at unit_with_word.wake unit_with_word.at until u (omega arith) h.ahead h.may.none in
    let none-late : filter p (later_of until old) ≡ [] = filter-filter p (λ m. not (ltb m.arrival until)) old ∙ ap (later_of until) none-old in
    let none : filter p (flight_at machine until) ≡ [] =
    ap (filter p) (sym (join-flight machine now until l t) ∙ fold-puts (later_of until old) new)
    ∙ filter-puts p (later_of until old) new (Sorted-filter (λ m. not (ltb m.arrival until)) old (flight-sorted machine.config machine.traces.items now))
    ∙ ap₂ puts none-late none-new in
    record {
      behind = omega (arith, at, h.behind);
      ahead = since;
      stands = subst (λ n. IsPart machine u n after.part) (sym at) (subst (IsPart machine u unit_with_word.at) (sym part) h.stands);
      may = record {
        silent = subst (λ n. IsSilent machine.config machine.traces.items n w u) (sym at) (silent-sooner machine.config machine.traces.items unit_with_word.at w unit_with_word.wake u within h.may.silent);
        none = ap (λ n. mail n w) at
            ∙ none-first machine.config machine.traces.items until unit_with_word.at until w u h.behind since none-before
            ∙ sym (due-flight machine.config machine.traces.items until until w u (omega arith))
            ∙ none;
      };
    }
  where
    mail : ℕ → ℕ → List Message
    mail a b = mail_in machine.config machine.traces.items until u a b

-- all units wait on, once their words are lowered to what was sent to them in the phase
pub lowered-wait_all : (machine : Machine) (first now until : ℕ) (units : List TimedUnit) (old new : List ℕ) (sent : List Message) → now ≤ until → TravelsFor machine.config (until - now)
    → length old ≡ length units → WaitAll machine first until now units old → sent ≡ among machine.config first (first + length units) (sent_in machine now until)
    → AreLowered machine.config first sent old new → WaitAll machine first until until units new
lowered-wait_all machine first now until units old new sent l t words between are low k d less =
    let b = between k d less in
    let i : k < length old = omega (arith, less, words) in
    let u = unit_at machine.config (first + k) in
    let all = sent_in machine now until in
    let late-sent : All (λ m. until ≤ m.arrival) sent =
    All-from_recursion (λ (m : Message). until ≤ m.arrival) sent
    (subst (Each (λ (m : Message). until ≤ m.arrival)) (sym are)
    (Each-filter (λ (m : Message). until ≤ m.arrival) (goes_among machine.config first (first + length units)) all (recursion_from_All (λ (m : Message). until ≤ m.arrival) all (sent-late machine now until l t)))) in
    let since = low.since until late-sent k i b.ahead in
    let none : filter (is_due machine.config.channels u until (get_or new k 0)) sent ≡ [] =
    none-due machine.config.channels until (get_or new k 0) (get_or new k 0) u sent (λ j e m to. low.arrivals k j e i m to) (omega arith) in
    lowered-waits machine u now until (unit_with_word_at units old k d) (unit_with_word_at units new k d) l t b refl refl since (low.less k i)
    (sym (due-among machine.config first (first + length units) until (get_or new k 0) (first + k) all (omega arith) (omega (arith, less)))
    ∙ ap (filter (is_due machine.config.channels u until (get_or new k 0))) (sym are)
    ∙ none)

late-kept : (from until word arrival : ℕ) (b c : Bool) → (b && (leb until arrival && ltb arrival word)) ≡ true → not (c && (leb from arrival && ltb arrival until)) ≡ true
late-kept from until word arrival true true h = grind (arith, nat_tests)
late-kept from until word arrival true false h = refl
late-kept from until word arrival false c h = cc

-- what is due later is left when a unit has taken what is due at it in a phase
pub taken-later : (channels from until word : ℕ) (u : MachineUnit) (ms : List Message)
    → filter (is_due channels u until word) (filter (λ m. not (is_due channels u from until m)) ms) ≡ filter (is_due channels u until word) ms
taken-later channels from until word u ms =
    let p = is_due channels u until word in
    let q = λ (m : Message). not (is_due channels u from until m) in
    filter-within p q (λ m e. late-kept from until word m.arrival (is_unit (receiver_of channels m.link) u) (is_unit (receiver_of channels m.link) u) e) ms

none-after : (from word least a : ℕ) → least ≤ a → word ≤ max least from → (leb from a && ltb a word) ≡ false
none-after from word least a h l = grind (arith, nat_tests)

none-within : (from word least : ℕ) (ms : List Message) → Each (λ (m : Message). least ≤ m.arrival) ms → word ≤ max least from → filter (arrives_within from word) ms ≡ []
none-within from word least [] h l = refl
none-within from word least (m ∷ ms) h l =
    ap (λ b. cond b (m ∷ filter (arrives_within from word) ms) (filter (arrives_within from word) ms)) (none-after from word least m.arrival h.0 l)
    ∙ none-within from word least ms h.1 l

-- where those to a unit arrive at a cycle or later, none is due at it before that
pub none-due_after : (channels from word least : ℕ) (u : MachineUnit) (ms : List Message)
    → All (λ m. least ≤ m.arrival) (filter (λ m. is_unit (receiver_of channels m.link) u) ms) → word ≤ max least from → filter (is_due channels u from word) ms ≡ []
none-due_after channels from word least u ms h l =
    let to = λ (m : Message). is_unit (receiver_of channels m.link) u in
    filter-both (arrives_within from word) to (is_due channels u from word) (λ m. refl) ms
    ∙ none-within from word least (filter to ms) (recursion_from_All (λ (m : Message). least ≤ m.arrival) (filter to ms) h) l

-- where there is no first message there is none
pub none-first_none : {X Y : Type 0} (f : X → Y) (xs : List X) → option_map f (slice_get xs 0) ≡ None → xs ≡ []
none-first_none f [] e = refl
none-first_none f (x ∷ xs) e = let bad : Some (f x) ≡ None = e in cc
