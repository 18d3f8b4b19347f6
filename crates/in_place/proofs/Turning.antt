-- A machine in turns: what is brought to the units of a kind, what holds after a turn, and how far it may be left
-- alone.
use Rattle.std.proofs.Common.{◌≡◌, ℕ, ◌+◌, ◌-◌, ◌^◌, ◌<◌, ◌≤◌, true, false, List, [], ◌++◌, ◌⊎◌, inl, inr, length, get_or, take, drop, refl, sym, ap, ap₂, subst, ◌∙◌, length-append, arith}
use Rattle.std.specs.Prelude.{fold, flat_map, All}
use Rattle.std.proofs.lemmas.Bool.{cases_lt, true≢false}
use Rattle.std.proofs.lemmas.Bool.Decides.{nat_tests}
use Rattle.std.proofs.lemmas.List.{get_or_append_left, get_or-append-add, get_or-take, get_or-drop, length-take, length-drop, get_or_default}
use Rattle.sim_base.specs.declared.config.Config.{Config}
use Rattle.sim_base.specs.Counts.{in_flight}
use Rattle.sim_base.specs.History.{below, is_unit, messages_of_core, messages_of_channel, insert_by_age, receiver_of}
use Rattle.sim_base.specs.Machine.{run}
use Rattle.sim_base.specs.declared.message.Message.{Message}
use Rattle.sim_base.specs.declared.message.Unit.{Unit as MachineUnit}
use Rattle.sim_base.specs.declared.message.Unit.TheVariants.{Core, Channel}
use Rattle.sim_base.specs.declared.trace.Entry.{Entry}
use Rattle.sim_base.proofs.Grows.{has_channels}
use Rattle.links.specs.InFlight.{InFlight}
use Rattle.units.specs.SpanLaws.Mail.{mail_in}
use Rattle.units.specs.SpanLaws.Units.{Exists}
use Rattle.units.specs.SpanLaws.FlightInTurns.{flight_of}
use Rattle.units.specs.SpanLaws.Sent.{RequestsTravelFor, AnswersTakeFor}
use Rattle.units.specs.SpanLaws.Turns.{IsInTurns, IsLowered}
use Rattle.units.specs.SpanLaws.Turns.{WaitsInTurns}
use Rattle.units.proofs.SpanLaws.Bringing.{unit-due, unit-overdue, channel-known, core-known}
use Rattle.units.proofs.SpanLaws.FlightsInTurns.{flights-meet, channels-further, cores-further}
use Rattle.units.proofs.SpanLaws.Jumps.{channels-taken, cores-taken, turns-jump, requests-none, answers-none}
use Rattle.units.proofs.SpanLaws.Taking.{channel-keeps, core-keeps, requests-shorter, answers-shorter}
use Rattle.units.specs.Flight.{fresh, among, sent_by, is_at_places}
use Rattle.units.specs.Parts.{IsPart}
use Rattle.units.specs.Units.{unit_at, unit_count}
use Rattle.units.proofs.Joining.{fresh-grows}
use Rattle.units.proofs.Standing.{core-at_place, channel-at_place}
use Rattle.in_place.specs.Turns.{AreByKind, AreInTurns, all_units, all_words}
use Rattle.in_place.specs.declared.taking_turns.UnitsByKind.{UnitsByKind}
use Rattle.units.specs.Wakes.{UnitWithWord, Waits, WaitAll, HoldsInbox, HoldInboxes, AreLowered, AreBetweenPhases, units_from, links_after, unit_with_word, unit_with_word_at}
use Rattle.units.specs.declared.timed_unit.TimedUnit.{TimedUnit}
use Rattle.units.proofs.Going.{units-places}
use Rattle.units.specs.declared.machine.Machine.{Machine}
use Rattle.units.specs.Runs.{run_of, sent_at}
use Rattle.units.proofs.Sharing.{among-all}
use Rattle.sim_base.proofs.Lists.{some-of}

core-at : (s : Config) (core : ℕ) → core < s.cores → unit_at s (0 + core) ≡ Core core
core-at s core l = let e : 0 + core ≡ core = omega arith in ap (unit_at s) e ∙ core-at_place s core l

channel-at : (s : Config) (channel : ℕ) → unit_at s (s.cores + channel) ≡ Channel channel
channel-at s channel = channel-at_place s (s.cores + channel) channel refl

-- what each channel sends in a span, and what each core does
abbrev sent_by_channel : Machine → ℕ → ℕ → ℕ → List Message
sent_by_channel machine from until channel = fresh machine from until (machine.config.cores + channel)

abbrev sent_by_core : Machine → ℕ → ℕ → ℕ → List Message
sent_by_core machine from until core = fresh machine from until (0 + core)

channels-grow : (machine : Machine) (from until : ℕ) → from ≤ until → (channel : ℕ) → channel < machine.config.channels
    → messages_of_channel machine.config (run_of machine until) channel ≡ messages_of_channel machine.config (run_of machine from) channel ++ sent_by_channel machine from until channel
channels-grow machine from until l channel k =
    subst (λ u. sent_at machine until u ≡ sent_at machine from u ++ sent_by_channel machine from until channel) (channel-at machine.config channel)
    (fresh-grows machine from until (machine.config.cores + channel) (omega (arith, k)) l)

cores-grow : (machine : Machine) (from until : ℕ) → from ≤ until → (core : ℕ) → core < machine.config.cores
    → messages_of_core machine.config machine.traces.items (run_of machine until) core ≡ messages_of_core machine.config machine.traces.items (run_of machine from) core ++ sent_by_core machine from until core
cores-grow machine from until l core k =
    subst (λ u. sent_at machine until u ≡ sent_at machine from u ++ sent_by_core machine from until core) (core-at machine.config core k)
    (fresh-grows machine from until (0 + core) (omega (arith, k)) l)

-- how many units the channels are, and how many words they have
pub channels-many : (machine : Machine) (a b : ℕ) (kinds : UnitsByKind) (links : InFlight) → AreByKind machine kinds → AreInTurns machine a b (all_units kinds) (all_words kinds) links
    → length kinds.channels.units.items ≡ machine.config.channels
channels-many machine a b kinds links k h = omega (arith, h.count, k.cores_count, length-append kinds.cores.units.items kinds.channels.units.items)

pub channel-words_many : (machine : Machine) (a b : ℕ) (kinds : UnitsByKind) (links : InFlight) → AreByKind machine kinds → AreInTurns machine a b (all_units kinds) (all_words kinds) links
    → length kinds.channels.words.items ≡ machine.config.channels
channel-words_many machine a b kinds links k h =
    omega (arith, h.count, h.words_count, k.core_words, length-append kinds.cores.words.items kinds.channels.words.items)

-- what is in flight is brought to the channels
pub channels-holds_inbox : (machine : Machine) (a b until : ℕ) (units : List TimedUnit) (words : List ℕ) (links : InFlight) → AreInTurns machine a b units words links
    → RequestsTravelFor machine.config (until - a) → HoldInboxes machine machine.config.cores machine.config.channels b a until links
channels-holds_inbox machine a b until units words links h t k less =
    subst (λ u. HoldsInbox machine b a until u links) (sym (channel-at machine.config k))
    (subst (HoldsInbox machine b a until (Channel k)) (sym h.flight)
    (record {
      channels_are = refl;
      overdue = unit-overdue machine.config machine.traces.items a b (Channel k);
      due = λ from to l. unit-due machine.config machine.traces.items a b from to (Channel k) l;
      known = channel-known machine.config machine.traces.items a until k t;
    }))

-- what is in flight is brought to the cores
pub cores-holds_inbox : (machine : Machine) (a b until : ℕ) (units : List TimedUnit) (words : List ℕ) (links : InFlight) → AreInTurns machine a b units words links
    → AnswersTakeFor machine.config (until - b) → HoldInboxes machine 0 machine.config.cores a b until links
cores-holds_inbox machine a b until units words links h t k less =
    subst (λ u. HoldsInbox machine a b until u links) (sym (core-at machine.config k less))
    (subst (HoldsInbox machine a b until (Core k)) (sym h.flight)
    (record {
      channels_are = refl;
      overdue = unit-overdue machine.config machine.traces.items a b (Core k);
      due = λ from to l. unit-due machine.config machine.traces.items a b from to (Core k) l;
      known = core-known machine.config machine.traces.items b until k t;
    }))

-- the words and units of the cores, and those of the channels
pub core-part : (units : List TimedUnit) (words : List ℕ) (cores k : ℕ) (d : TimedUnit) → k < cores → unit_with_word_at (take cores units) (take cores words) k d ≡ unit_with_word_at units words k d
core-part units words cores k d l = ap₂ unit_with_word (get_or-take cores units k d l) (get_or-take cores words k 0 l)

pub channel-part : (units : List TimedUnit) (words : List ℕ) (cores k : ℕ) (d : TimedUnit) → unit_with_word_at (drop cores units) (drop cores words) k d ≡ unit_with_word_at units words (cores + k) d
channel-part units words cores k d = ap₂ unit_with_word (get_or-drop cores units k d) (get_or-drop cores words k 0)

pub channels-wait_all : (machine : Machine) (a b : ℕ) (units : List TimedUnit) (words : List ℕ) (links : InFlight) → AreInTurns machine a b units words links
    → WaitAll machine machine.config.cores b a (drop machine.config.cores units) (drop machine.config.cores words)
channels-wait_all machine a b units words links h k d less =
    subst (λ u. Waits machine u b a (unit_with_word_at (drop machine.config.cores units) (drop machine.config.cores words) k d)) (sym (channel-at machine.config k))
    (subst (Waits machine (Channel k) b a) (sym (channel-part units words machine.config.cores k d))
    (h.channels_wait k d (omega (arith, less, length-drop machine.config.cores units, h.count))))

pub cores-wait_all : (machine : Machine) (a b : ℕ) (units : List TimedUnit) (words : List ℕ) (links : InFlight) → AreInTurns machine a b units words links
    → WaitAll machine 0 a b (take machine.config.cores units) (take machine.config.cores words)
cores-wait_all machine a b units words links h k d less =
    let l : k < machine.config.cores = omega (arith, less, length-take machine.config.cores units) in
    subst (λ u. Waits machine u a b (unit_with_word_at (take machine.config.cores units) (take machine.config.cores words) k d)) (sym (core-at machine.config k l))
    (subst (Waits machine (Core k) a b) (sym (core-part units words machine.config.cores k d l)) (h.cores_wait k d l))

left-here : (xs ys : List TimedUnit) (ws vs : List ℕ) (k : ℕ) (d : TimedUnit) → k < length xs → k < length ws → unit_with_word_at (xs ++ ys) (ws ++ vs) k d ≡ unit_with_word_at xs ws k d
left-here xs ys ws vs k d l m = ap₂ unit_with_word (get_or_append_left xs ys d k l) (get_or_append_left ws vs 0 k m)

right-here : (xs ys : List TimedUnit) (ws vs : List ℕ) (n k : ℕ) (d : TimedUnit) → length xs ≡ n → length ws ≡ n → unit_with_word_at (xs ++ ys) (ws ++ vs) (n + k) d ≡ unit_with_word_at ys vs k d
right-here xs ys ws vs n k d e f =
    ap₂ unit_with_word
    (ap (λ i. get_or (xs ++ ys) (i + k) d) (sym e) ∙ get_or-append-add xs ys k d)
    (ap (λ i. get_or (ws ++ vs) (i + k) 0) (sym f) ∙ get_or-append-add ws vs k 0)

-- where all units wait, the cores do
pub cores-wait : (machine : Machine) (now : ℕ) (kinds : UnitsByKind) → AreByKind machine kinds → WaitAll machine 0 now now (all_units kinds) (all_words kinds)
    → WaitAll machine 0 now now kinds.cores.units.items kinds.cores.words.items
cores-wait machine now kinds k h i d l =
    let cores = kinds.cores in
    let channels = kinds.channels in
    subst (Waits machine (unit_at machine.config (0 + i)) now now)
    (left-here cores.units.items channels.units.items cores.words.items channels.words.items i d l (omega (arith, l, k.core_words, k.cores_count)))
    (h i d (omega (arith, l, length-append cores.units.items channels.units.items)))

pub channels-wait : (machine : Machine) (now : ℕ) (kinds : UnitsByKind) → AreByKind machine kinds → WaitAll machine 0 now now (all_units kinds) (all_words kinds)
    → WaitAll machine machine.config.cores now now kinds.channels.units.items kinds.channels.words.items
channels-wait machine now kinds k h i d l =
    let cores = kinds.cores in
    let channels = kinds.channels in
    let n = machine.config.cores in
    let place : 0 + (n + i) ≡ n + i = omega arith in
    subst (Waits machine (unit_at machine.config (n + i)) now now)
    (right-here cores.units.items channels.units.items cores.words.items channels.words.items n i d k.cores_count k.core_words)
    (subst (λ p. Waits machine (unit_at machine.config p) now now (unit_with_word_at (all_units kinds) (all_words kinds) (n + i) d)) place
    (h (n + i) d (omega (arith, l, k.cores_count, length-append cores.units.items channels.units.items))))

-- a unit that is not touched waits on, with its word lowered
core-lowered : (machine : Machine) (a b until core : ℕ) (before after : UnitWithWord) (sent : List Message) → core < machine.config.cores → b ≤ until → AnswersTakeFor machine.config (a - b)
    → sent ≡ flat_map (sent_by_channel machine b until) (below machine.config.channels) → after.part ≡ before.part → IsLowered machine.config (Core core) before.at before.wake after.at after.wake sent
    → Waits machine (Core core) a b before → Waits machine (Core core) a until after
core-lowered machine a b until core before after sent k l near e same low h =
    let left : WaitsInTurns machine.config machine.traces.items a until (Core core) after.at after.wake =
    core-keeps machine.config machine.traces.items a b until core before.at before.wake after.at after.wake (sent_by_channel machine b until) l near (channels-grow machine b until l)
    (record { behind = h.behind; ahead = h.ahead; silent = h.may.silent; none = h.may.none })
    (subst (IsLowered machine.config (Core core) before.at before.wake after.at after.wake) e low) in
    record {
      behind = left.behind;
      ahead = left.ahead;
      stands = subst (λ n. IsPart machine (Core core) n after.part) (sym low.stays) (subst (IsPart machine (Core core) before.at) (sym same) h.stands);
      may = record { silent = left.silent; none = left.none };
    }

channel-lowered : (machine : Machine) (a b until channel : ℕ) (before after : UnitWithWord) (sent : List Message) → channel < machine.config.channels → a ≤ until → RequestsTravelFor machine.config (b - a)
    → sent ≡ flat_map (sent_by_core machine a until) (below machine.config.cores) → after.part ≡ before.part → IsLowered machine.config (Channel channel) before.at before.wake after.at after.wake sent
    → Waits machine (Channel channel) b a before → Waits machine (Channel channel) b until after
channel-lowered machine a b until channel before after sent k l near e same low h =
    let left : WaitsInTurns machine.config machine.traces.items until b (Channel channel) after.at after.wake =
    channel-keeps machine.config machine.traces.items a b until channel before.at before.wake after.at after.wake (sent_by_core machine a until) l near (cores-grow machine a until l)
    (record { behind = h.behind; ahead = h.ahead; silent = h.may.silent; none = h.may.none })
    (subst (IsLowered machine.config (Channel channel) before.at before.wake after.at after.wake) e low) in
    record {
      behind = left.behind;
      ahead = left.ahead;
      stands = subst (λ n. IsPart machine (Channel channel) n after.part) (sym low.stays) (subst (IsPart machine (Channel channel) before.at) (sym same) h.stands);
      may = record { silent = left.silent; none = left.none };
    }

-- a word among those that were lowered
word-lowered : (s : Config) (first k at : ℕ) (u : MachineUnit) (sent : List Message) (old new : List ℕ) → AreLowered s first sent old new → k < length old → unit_at s (first + k) ≡ u
    → IsLowered s u at (get_or old k 0) at (get_or new k 0) sent
word-lowered s first k at u sent old new low l e =
    record {
      stays = refl;
      less = low.less k l;
      arrivals = λ j d m to. low.arrivals k j d l m (subst (λ v. is_unit (receiver_of s.channels (get_or sent j d).link) v ≡ true) (sym e) to);
      no_further = λ cycle m all. low.since cycle all k l m;
    }

not-core : (s : Config) (core : ℕ) → is_at_places s s.cores (s.cores + s.channels) (Core core) ≡ false
not-core s core = grind (arith, nat_tests)

each-channel : (s : Config) (channel : ℕ) → channel < s.channels → is_at_places s s.cores (s.cores + s.channels) (Channel channel) ≡ true
each-channel s channel l = grind (arith, nat_tests)

not-channel : (s : Config) (channel : ℕ) → is_at_places s 0 (0 + s.cores) (Channel channel) ≡ false
not-channel s channel = grind (arith, nat_tests)

each-core : (s : Config) (core : ℕ) → core < s.cores → is_at_places s 0 (0 + s.cores) (Core core) ≡ true
each-core s core l = grind (arith, nat_tests)

-- what is in flight after a turn of the channels
channels-flight : (machine : Machine) (a b until : ℕ) (links after : InFlight) (sent : List Message) → b ≤ until → AnswersTakeFor machine.config (a - b)
    → links ≡ record { channels = machine.config.channels; messages = flight_of machine.config machine.traces.items a b } → sent ≡ flat_map (sent_by_channel machine b until) (below machine.config.channels)
    → after ≡ record links { messages = fold insert_by_age (links_after machine.config b until machine.config.cores machine.config.channels links).messages sent }
    → after ≡ record { channels = machine.config.channels; messages = flight_of machine.config machine.traces.items a until }
channels-flight machine a b until links after sent l near e f g =
    g
    ∙ ap₂ {C = InFlight} (λ (x : InFlight) ms. record x { messages = fold insert_by_age (links_after machine.config b until machine.config.cores machine.config.channels x).messages ms }) e f
    ∙ ap {B = InFlight} (λ ms. record { channels = machine.config.channels; messages = ms })
    (ap (λ ms. fold insert_by_age ms (flat_map (sent_by_channel machine b until) (below machine.config.channels)))
    (channels-taken machine.config machine.traces.items a b until units l (λ core. units-places machine.config machine.config.cores machine.config.channels (Core core) ∙ not-core machine.config core)
    (λ channel k other. absurd (true≢false (sym (units-places machine.config machine.config.cores machine.config.channels (Channel channel) ∙ each-channel machine.config channel k) ∙ other))))
    ∙ sym (channels-further machine.config machine.traces.items a b until (a - b) (sent_by_channel machine b until) near l (omega arith) (channels-grow machine b until l)))
  where
    units : List MachineUnit
    units = units_from machine.config machine.config.cores machine.config.channels

cores-flight : (machine : Machine) (a b until : ℕ) (links after : InFlight) (sent : List Message) → a ≤ until → RequestsTravelFor machine.config (b - a)
    → links ≡ record { channels = machine.config.channels; messages = flight_of machine.config machine.traces.items a b } → sent ≡ flat_map (sent_by_core machine a until) (below machine.config.cores)
    → after ≡ record links { messages = fold insert_by_age (links_after machine.config a until 0 machine.config.cores links).messages sent }
    → after ≡ record { channels = machine.config.channels; messages = flight_of machine.config machine.traces.items until b }
cores-flight machine a b until links after sent l near e f g =
    g
    ∙ ap₂ {C = InFlight} (λ (x : InFlight) ms. record x { messages = fold insert_by_age (links_after machine.config a until 0 machine.config.cores x).messages ms }) e f
    ∙ ap {B = InFlight} (λ ms. record { channels = machine.config.channels; messages = ms })
    (ap (λ ms. fold insert_by_age ms (flat_map (sent_by_core machine a until) (below machine.config.cores)))
    (cores-taken machine.config machine.traces.items a b until units l (λ channel. units-places machine.config 0 machine.config.cores (Channel channel) ∙ not-channel machine.config channel)
    (λ core k other. absurd (true≢false (sym (units-places machine.config 0 machine.config.cores (Core core) ∙ each-core machine.config core k) ∙ other))))
    ∙ sym (cores-further machine.config machine.traces.items a b until (b - a) (sent_by_core machine a until) near l (omega arith) (cores-grow machine a until l)))
  where
    units : List MachineUnit
    units = units_from machine.config 0 machine.config.cores

-- after a turn of the channels the machine is in turns again
pub channels-turned : (machine : Machine) (a b until : ℕ) (units moved : List TimedUnit) (words lowered new : List ℕ) (links after : InFlight) (sent : List Message)
    → AreInTurns machine a b units words links → b ≤ until → RequestsTravelFor machine.config (until - a)
    → length moved ≡ length (drop machine.config.cores units) → length new ≡ length (drop machine.config.cores words) → WaitAll machine machine.config.cores until a moved new
    → sent ≡ sent_by machine b until machine.config.cores machine.config.channels → AreLowered machine.config 0 sent (take machine.config.cores words) lowered
    → after ≡ record links { messages = fold insert_by_age (links_after machine.config b until machine.config.cores machine.config.channels links).messages sent }
    → AreInTurns machine a until (take machine.config.cores units ++ moved) (lowered ++ new) after
channels-turned machine a b until units moved words lowered new links after sent h l t long wide wait are low left =
    record {
      count = length-append (take machine.config.cores units) moved ∙ omega (arith, front, long, length-drop machine.config.cores units, h.count);
      words_count = length-append lowered new ∙ omega (arith, wide, low_count, length-drop machine.config.cores words, h.words_count, h.count, front, long, length-drop machine.config.cores units, length-append (take machine.config.cores units) moved);
      channels_near = t;
      cores_near = answers-shorter machine.config (a - b) (a - until) (omega arith) h.cores_near;
      cores_wait = λ core d k.
          subst (Waits machine (Core core) a until) (sym (left-here (take machine.config.cores units) moved lowered new core d (omega (arith, front, k)) (omega (arith, low_count, k))))
          (core-lowered machine a b until core (unit_with_word_at (take machine.config.cores units) (take machine.config.cores words) core d) (unit_with_word_at (take machine.config.cores units) lowered core d) sent k l h.cores_near are refl
          (word-lowered machine.config 0 core (get_or (take machine.config.cores units) core d).at (Core core) sent (take machine.config.cores words) lowered low (omega (arith, words_front, k)) (core-at machine.config core k))
          (subst (Waits machine (Core core) a b) (sym (core-part units words machine.config.cores core d k)) (h.cores_wait core d k)));
      channels_wait = λ channel d k.
          subst (Waits machine (Channel channel) until a) (sym (right-here (take machine.config.cores units) moved lowered new machine.config.cores channel d front low_count))
          (subst (λ u. Waits machine u until a (unit_with_word_at moved new channel d)) (channel-at machine.config channel) (wait channel d (omega (arith, k, long, length-drop machine.config.cores units, h.count))));
      flight = channels-flight machine a b until links after sent l h.cores_near h.flight are left;
    }
  where
    front : length (take machine.config.cores units) ≡ machine.config.cores
    front = omega (arith, length-take machine.config.cores units, h.count)

    words_front : length (take machine.config.cores words) ≡ machine.config.cores
    words_front = omega (arith, length-take machine.config.cores words, h.words_count, h.count)

    low_count : length lowered ≡ machine.config.cores
    low_count = low.count ∙ words_front

-- after a turn of the cores the machine is in turns again
pub cores-turned : (machine : Machine) (a b until : ℕ) (units moved : List TimedUnit) (words lowered new : List ℕ) (links after : InFlight) (sent : List Message)
    → AreInTurns machine a b units words links → a ≤ until → AnswersTakeFor machine.config (until - b)
    → length moved ≡ length (take machine.config.cores units) → length new ≡ length (take machine.config.cores words) → WaitAll machine 0 until b moved new
    → sent ≡ sent_by machine a until 0 machine.config.cores → AreLowered machine.config machine.config.cores sent (drop machine.config.cores words) lowered
    → after ≡ record links { messages = fold insert_by_age (links_after machine.config a until 0 machine.config.cores links).messages sent }
    → AreInTurns machine until b (moved ++ drop machine.config.cores units) (new ++ lowered) after
cores-turned machine a b until units moved words lowered new links after sent h l t long wide wait are low left =
    record {
      count = length-append moved (drop machine.config.cores units) ∙ omega (arith, front, length-drop machine.config.cores units, h.count);
      words_count = length-append new lowered ∙ omega (arith, words_front, low.count, length-drop machine.config.cores words, h.words_count, h.count, front, length-drop machine.config.cores units, length-append moved (drop machine.config.cores units));
      channels_near = requests-shorter machine.config (b - a) (b - until) (omega arith) h.channels_near;
      cores_near = t;
      cores_wait = λ core d k.
          subst (Waits machine (Core core) until b) (sym (left-here moved (drop machine.config.cores units) new lowered core d (omega (arith, front, k)) (omega (arith, words_front, k))))
          (subst (λ u. Waits machine u until b (unit_with_word_at moved new core d)) (core-at machine.config core k) (wait core d (omega (arith, k, front))));
      channels_wait = λ channel d k.
          subst (Waits machine (Channel channel) b until) (sym (right-here moved (drop machine.config.cores units) new lowered machine.config.cores channel d front words_front))
          (channel-lowered machine a b until channel (unit_with_word_at (drop machine.config.cores units) (drop machine.config.cores words) channel d) (unit_with_word_at (drop machine.config.cores units) lowered channel d) sent k l h.channels_near are refl
          (word-lowered machine.config machine.config.cores channel (get_or (drop machine.config.cores units) channel d).at (Channel channel) sent (drop machine.config.cores words) lowered low (omega (arith, k, length-drop machine.config.cores words, h.words_count, h.count)) (channel-at machine.config channel))
          (subst (Waits machine (Channel channel) b a) (sym (channel-part units words machine.config.cores channel d)) (h.channels_wait channel d k)));
      flight = cores-flight machine a b until links after sent l h.channels_near h.flight are left;
    }
  where
    front : length moved ≡ machine.config.cores
    front = omega (arith, long, length-take machine.config.cores units, h.count)

    words_front : length new ≡ machine.config.cores
    words_front = omega (arith, wide, length-take machine.config.cores words, h.words_count, h.count)

-- where each unit stands, and its word
abbrev cycle_of : Config → List TimedUnit → TimedUnit → MachineUnit → ℕ
cycle_of s units d (Core core) = (get_or units core d).at
cycle_of s units d (Channel channel) = (get_or units (s.cores + channel) d).at

abbrev word_of : Config → List ℕ → MachineUnit → ℕ
word_of s words (Core core) = get_or words core 0
word_of s words (Channel channel) = get_or words (s.cores + channel) 0

-- where neither kind is past the least word, all go on to it
pub turns-later : (machine : Machine) (a b until : ℕ) (units : List TimedUnit) (words : List ℕ) (links : InFlight) → AreInTurns machine a b units words links
    → a ≤ until → b ≤ until → All (λ w. until ≤ w) words → AreInTurns machine until until units words links
turns-later machine a b until units words links h l m sleep =
    record {
      count = h.count;
      words_count = h.words_count;
      channels_near = then.channels_near;
      cores_near = then.cores_near;
      cores_wait = λ core d k.
          let w = h.cores_wait core d k in
          record { behind = omega (arith, w.behind, l); ahead = wakes_later (Core core) k; stands = w.stands; may = record { silent = w.may.silent; none = core-none core d k } };
      channels_wait = λ channel d k.
          let w = h.channels_wait channel d k in
          record { behind = omega (arith, w.behind, m); ahead = wakes_later (Channel channel) k; stands = w.stands; may = record { silent = w.may.silent; none = channel-none channel d k } };
      flight = h.flight ∙ ap {B = InFlight} (λ ms. record { channels = machine.config.channels; messages = ms }) then.holds;
    }
  where
    some : TimedUnit
    some = some-of units (let c = has_channels machine.config in omega (arith, h.count, c))

    wakes_later : (u : MachineUnit) → Exists machine.config u → until ≤ word_of machine.config words u
    wakes_later (Core core) k = sleep core 0 (omega (arith, k, h.words_count, h.count))
    wakes_later (Channel channel) k = sleep (machine.config.cores + channel) 0 (omega (arith, k, h.words_count, h.count))

    waits : (u : MachineUnit) → Exists machine.config u → WaitsInTurns machine.config machine.traces.items a b u (cycle_of machine.config units some u) (word_of machine.config words u)
    waits (Core core) k = let w = h.cores_wait core some k in record { behind = w.behind; ahead = w.ahead; silent = w.may.silent; none = w.may.none }
    waits (Channel channel) k = let w = h.channels_wait channel some k in record { behind = w.behind; ahead = w.ahead; silent = w.may.silent; none = w.may.none }

    then : IsInTurns machine.config machine.traces.items until until (cycle_of machine.config units some) (word_of machine.config words) (flight_of machine.config machine.traces.items a b)
    then =
        turns-jump machine.config machine.traces.items a b until (cycle_of machine.config units some) (word_of machine.config words) (flight_of machine.config machine.traces.items a b) l m wakes_later
        (record { channels_near = h.channels_near; cores_near = h.cores_near; wait = waits; holds = refl })

    core-none : (core : ℕ) (d : TimedUnit) → core < machine.config.cores → mail_in machine.config machine.traces.items until (Core core) (get_or units core d).at (get_or words core 0) ≡ []
    core-none core d k =
        subst (λ (x : TimedUnit). mail_in machine.config machine.traces.items until (Core core) x.at (get_or words core 0) ≡ []) (get_or_default units core some d (omega (arith, k, h.count))) (then.wait (Core core) k).none

    channel-none : (channel : ℕ) (d : TimedUnit) → channel < machine.config.channels → mail_in machine.config machine.traces.items until (Channel channel) (get_or units (machine.config.cores + channel) d).at (get_or words (machine.config.cores + channel) 0) ≡ []
    channel-none channel d k =
        subst (λ (x : TimedUnit). mail_in machine.config machine.traces.items until (Channel channel) x.at (get_or words (machine.config.cores + channel) 0) ≡ []) (get_or_default units (machine.config.cores + channel) some d (omega (arith, k, h.count)))
        (then.wait (Channel channel) k).none

all-flight : (s : Config) (traces : List (List Entry)) (now count : ℕ) → count ≡ unit_count s → among s 0 (0 + count) (in_flight s traces (run s traces now)) ≡ flight_of s traces now now
all-flight s traces now count e =
    let f : 0 + count ≡ unit_count s = omega (arith, e) in
    ap (λ n. among s 0 n (in_flight s traces (run s traces now))) f ∙ among-all s traces now ∙ sym (flights-meet s traces now)

-- a machine whose units all wait at one cycle is in turns
pub between_phases-turns : (machine : Machine) (now : ℕ) (units : List TimedUnit) (words : List ℕ) (links : InFlight) → AreBetweenPhases machine 0 now units words links → length units ≡ unit_count machine.config
    → AreInTurns machine now now units words links
between_phases-turns machine now units words links h whole =
    record {
      count = whole;
      words_count = h.words_count;
      channels_near = requests-none machine.config (now - now) (omega arith);
      cores_near = answers-none machine.config (now - now) (omega arith);
      cores_wait = λ core d k. subst (λ u. Waits machine u now now (unit_with_word_at units words core d)) (core-at machine.config core k) (h.wait core d (omega (arith, k, whole)));
      channels_wait = λ channel d k.
          let e : 0 + (machine.config.cores + channel) ≡ machine.config.cores + channel = omega arith in
          subst (λ u. Waits machine u now now (unit_with_word_at units words (machine.config.cores + channel) d)) (ap (unit_at machine.config) e ∙ channel-at machine.config channel) (h.wait (machine.config.cores + channel) d (omega (arith, k, whole)));
      flight = h.flight ∙ ap {B = InFlight} (λ ms. record { channels = machine.config.channels; messages = ms }) (all-flight machine.config machine.traces.items now (length units) whole);
    }

-- where a machine is in turns at one cycle, all its units wait there
pub turns-between_phases : (machine : Machine) (now : ℕ) (units : List TimedUnit) (words : List ℕ) (links : InFlight) → AreInTurns machine now now units words links → now ≤ 10 ^ 12
    → AreBetweenPhases machine 0 now units words links
turns-between_phases machine now units words links h early =
    record {
      early = early;
      within = omega (arith, h.count);
      words_count = h.words_count;
      wait = λ k d less. waits k d (omega (arith, less, h.count)) (cases_lt k machine.config.cores);
      flight = h.flight ∙ ap {B = InFlight} (λ ms. record { channels = machine.config.channels; messages = ms }) (sym (all-flight machine.config machine.traces.items now (length units) h.count));
    }
  where
    waits : (k : ℕ) (d : TimedUnit) → k < unit_count machine.config → (k < machine.config.cores) ⊎ (machine.config.cores ≤ k) → Waits machine (unit_at machine.config (0 + k)) now now (unit_with_word_at units words k d)
    waits k d less (inl l) = subst (λ u. Waits machine u now now (unit_with_word_at units words k d)) (sym (core-at machine.config k l)) (h.cores_wait k d l)
    waits k d less (inr l) =
        let e : machine.config.cores + (k - machine.config.cores) ≡ k = omega (arith, l) in
        let f : 0 + k ≡ machine.config.cores + (k - machine.config.cores) = omega (arith, l) in
        subst (λ u. Waits machine u now now (unit_with_word_at units words k d)) (sym (ap (unit_at machine.config) f ∙ channel-at machine.config (k - machine.config.cores)))
        (subst (λ n. Waits machine (Channel (k - machine.config.cores)) now now (unit_with_word_at units words n d)) e (h.channels_wait (k - machine.config.cores) d (omega (arith, less, l))))
