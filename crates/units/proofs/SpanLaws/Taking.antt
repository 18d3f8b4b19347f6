-- A machine in turns, turn by turn.
use Rattle.std.proofs.Common.{◌≡◌, ℕ, ◌+◌, ◌-◌, ◌<◌, ◌≤◌, Bool, true, false, ltb, leb, ◌&&◌, List, [], ◌++◌, refl, sym, ap, ap₂, subst, ◌∙◌, ◌⊎◌, inl, inr, arith}
use Rattle.std.specs.Prelude.{filter, fold, flat_map, All}
use Rattle.std.proofs.lemmas.Bool.{le-ltb, le-leb, leb-true, and_right}
use Rattle.std.proofs.lemmas.List.{append-nil}
use Rattle.std.proofs.lemmas.List.Elements.{filter-append, recursion_from_All, All-from_recursion}
use Rattle.sim_base.specs.declared.config.Config.{Config}
use Rattle.sim_base.specs.History.{below, is_to, messages_of_core, messages_of_channel, by_age, insert_by_age}
use Rattle.sim_base.specs.Machine.{run}
use Rattle.sim_base.specs.declared.message.Message.{Message}
use Rattle.sim_base.specs.declared.message.Unit.{Unit as MachineUnit}
use Rattle.sim_base.specs.declared.message.Unit.TheVariants.{Core, Channel}
use Rattle.sim_base.specs.declared.trace.Entry.{Entry}
use Rattle.sim_base.proofs.Arrived.{puts, by_age-puts}
use Rattle.sim_base.proofs.Each.{Each-filter, Each-flat_map_below}
use Rattle.sim_base.proofs.Ordered.{Each-weaker, Sorted-puts, filter-by_age, filter-puts}
use Rattle.sim_base.proofs.Lists.{filter-both, filter-none}
use Rattle.links.specs.InFlight.{is_due}
use Rattle.units.specs.SpanLaws.Flight.{left_after}
use Rattle.units.specs.SpanLaws.Mail.{arriving, mail_in}
use Rattle.units.specs.SpanLaws.Units.{Exists}
use Rattle.units.proofs.SpanLaws.Arrivals.{mail-sent}
use Rattle.units.proofs.SpanLaws.Silent.{silent-sooner, none-part, none-first, silent-sent}
use Rattle.units.specs.SpanLaws.FlightInTurns.{is_request, flight_of, left_by_channels, left_by_cores}
use Rattle.units.specs.SpanLaws.Sent.{requests_sent, answers_sent, RequestsTravelFor, AnswersTakeFor}
use Rattle.units.specs.SpanLaws.Turns.{WaitsInTurns, IsLeftAlone, IsRunOn, IsLowered, ChannelsAreReady, CoresAreReady, ChannelsTurn, CoresTurn, ChannelGoes, CoreGoes, ChannelStays, CoreStays}
use Rattle.units.proofs.SpanLaws.Late.{core-sent_late, channel-sent_late}
use Rattle.units.proofs.SpanLaws.Requesting.{requests-each, answers-each, request-to, answer-to, to-channel, to-core}
use Rattle.units.proofs.SpanLaws.Knowing.{requests-known, answers-known}
use Rattle.units.proofs.SpanLaws.FlightsInTurns.{requests-more, answers-more, CoresSent, ChannelsSent, channels-holds_inbox, cores-holds_inbox, channels-further, cores-further}

-- a message to a unit that arrives in a span
abbrev pub due_at : Config → MachineUnit → ℕ → ℕ → Message → Bool
due_at s u from until m = is_to s u m && (leb from m.arrival && ltb m.arrival until)

pub channel-mail : (s : Config) (traces : List (List Entry)) (n from until channel : ℕ)
    → mail_in s traces n (Channel channel) from until ≡ by_age (filter (due_at s (Channel channel) from until) (requests_sent s traces n))
channel-mail s traces n from until channel =
    mail-sent s traces from until (Channel channel) n
    ∙ ap by_age
    (ap (arriving from until) (to-channel s traces n channel)
    ∙ sym (filter-both (λ (m : Message). leb from m.arrival && ltb m.arrival until) (is_to s (Channel channel)) (due_at s (Channel channel) from until) (λ m. refl) (requests_sent s traces n)))

pub core-mail : (s : Config) (traces : List (List Entry)) (n from until core : ℕ)
    → mail_in s traces n (Core core) from until ≡ by_age (filter (due_at s (Core core) from until) (answers_sent s traces n))
core-mail s traces n from until core =
    mail-sent s traces from until (Core core) n
    ∙ ap by_age
    (ap (arriving from until) (to-core s traces n core)
    ∙ sym (filter-both (λ (m : Message). leb from m.arrival && ltb m.arrival until) (is_to s (Core core)) (due_at s (Core core) from until) (λ m. refl) (answers_sent s traces n)))

-- up to the horizon a channel's mail is what the cores sent
channel-horizon : (s : Config) (traces : List (List Entry)) (a from until channel : ℕ) → RequestsTravelFor s (until - a)
    → mail_in s traces until (Channel channel) from until ≡ mail_in s traces a (Channel channel) from until
channel-horizon s traces a from until channel t =
    (requests-known s traces a until (until - a) until channel t (omega arith) (omega arith)).1 from
    ∙ sym ((requests-known s traces a until (until - a) a channel t (omega arith) (omega arith)).1 from)

core-horizon : (s : Config) (traces : List (List Entry)) (b from until core : ℕ) → AnswersTakeFor s (until - b)
    → mail_in s traces until (Core core) from until ≡ mail_in s traces b (Core core) from until
core-horizon s traces b from until core t =
    (answers-known s traces b until (until - b) until core t (omega arith) (omega arith)).1 from
    ∙ sym ((answers-known s traces b until (until - b) b core t (omega arith) (omega arith)).1 from)

absorbs : (b from until arrival : ℕ) (to : Bool) → b ≤ from → (to && (leb from arrival && ltb arrival until)) ≡ (leb b arrival && (to && (leb from arrival && ltb arrival until)))
absorbs b from until arrival false l = none (leb b arrival)
  where
    none : (x : Bool) → false ≡ (x && false)
    none true = refl
    none false = refl
absorbs b from until arrival true l = go (leb from arrival) refl
  where
    none : (x : Bool) → false ≡ (x && false)
    none true = refl
    none false = refl

    go : (x : Bool) → leb from arrival ≡ x → (x && ltb arrival until) ≡ (leb b arrival && (x && ltb arrival until))
    go true e = let h : from ≤ arrival = leb-true from arrival e in ap (λ y. y && ltb arrival until) (sym (le-leb b arrival (omega arith)))
    go false e = none (leb b arrival)

-- what is due at a channel later on, of what is in flight, is what arrives at it of what the cores sent so far
pub channel-due : (s : Config) (traces : List (List Entry)) (a b from until channel : ℕ) → b ≤ from
    → filter (is_due s.channels (Channel channel) from until) (flight_of s traces a b) ≡ mail_in s traces a (Channel channel) from until
channel-due s traces a b from until channel l =
    let due = due_at s (Channel channel) from until in
    let not_yet = λ (m : Message). leb b m.arrival in
    let xs = filter not_yet (requests_sent s traces a) in
    let ys = filter (λ (m : Message). leb a m.arrival) (answers_sent s traces b) in
    let none : filter due ys ≡ [] =
    filter-none due ys
    (Each-filter (λ (m : Message). due m ≡ false) (λ (m : Message). leb a m.arrival) (answers_sent s traces b)
    (Each-weaker (λ (m : Message). is_request m ≡ false) (λ (m : Message). due m ≡ false) (λ m e. ap (λ x. x && (leb from m.arrival && ltb m.arrival until)) (answer-to s channel m e)) (answers_sent s traces b) (answers-each s traces b))) in
    filter-by_age due (xs ++ ys)
    ∙ ap by_age
    (filter-append due xs ys
    ∙ ap₂ (λ x y. x ++ y) (sym (filter-both due not_yet due (λ m. absorbs b from until m.arrival (is_to s (Channel channel) m) l) (requests_sent s traces a))) none
    ∙ append-nil _)
    ∙ sym (channel-mail s traces a from until channel)

pub core-due : (s : Config) (traces : List (List Entry)) (a b from until core : ℕ) → a ≤ from
    → filter (is_due s.channels (Core core) from until) (flight_of s traces a b) ≡ mail_in s traces b (Core core) from until
core-due s traces a b from until core l =
    let due = due_at s (Core core) from until in
    let not_yet = λ (m : Message). leb a m.arrival in
    let xs = filter (λ (m : Message). leb b m.arrival) (requests_sent s traces a) in
    let ys = filter not_yet (answers_sent s traces b) in
    let none : filter due xs ≡ [] =
    filter-none due xs
    (Each-filter (λ (m : Message). due m ≡ false) (λ (m : Message). leb b m.arrival) (requests_sent s traces a)
    (Each-weaker (λ (m : Message). is_request m ≡ true) (λ (m : Message). due m ≡ false) (λ m e. ap (λ x. x && (leb from m.arrival && ltb m.arrival until)) (request-to s core m e)) (requests_sent s traces a) (requests-each s traces a))) in
    filter-by_age due (xs ++ ys)
    ∙ ap by_age
    (filter-append due xs ys
    ∙ ap₂ (λ x y. x ++ y) none (sym (filter-both due not_yet due (λ m. absorbs a from until m.arrival (is_to s (Core core) m) l) (answers_sent s traces b))))
    ∙ sym (core-mail s traces b from until core)

-- a channel that waits sends nothing up to a cycle before its word, within the horizon
channel-quiet : (s : Config) (traces : List (List Entry)) (a b until channel at wake : ℕ) → channel < s.channels → RequestsTravelFor s (until - a) → at ≤ until → until ≤ wake
    → WaitsInTurns s traces a b (Channel channel) at wake → messages_of_channel s (run s traces until) channel ≡ messages_of_channel s (run s traces at) channel
channel-quiet s traces a b until channel at wake k t l w h =
    silent-sent s traces at until (Channel channel) k l (silent-sooner s traces at until wake (Channel channel) w h.silent)
    (channel-horizon s traces a at until channel t ∙ none-part s traces a at wake at until (Channel channel) (omega arith) w h.none)

core-quiet : (s : Config) (traces : List (List Entry)) (a b until core at wake : ℕ) → core < s.cores → AnswersTakeFor s (until - b) → at ≤ until → until ≤ wake
    → WaitsInTurns s traces a b (Core core) at wake → messages_of_core s traces (run s traces until) core ≡ messages_of_core s traces (run s traces at) core
core-quiet s traces a b until core at wake k t l w h =
    silent-sent s traces at until (Core core) k l (silent-sooner s traces at until wake (Core core) w h.silent)
    (core-horizon s traces b at until core t ∙ none-part s traces b at wake at until (Core core) (omega arith) w h.none)

pub channels-ready : (s : Config) (traces : List (List Entry)) (a b until : ℕ) → ChannelsAreReady s traces a b until
channels-ready s traces a b until at wake flight units channel l t k other h =
    let u = Channel channel in
    let w = h.wait u k in
    let behind : at u ≤ b = w.behind in
    let ahead : b ≤ wake u = w.ahead in
    ap (λ x. filter (is_due s.channels u b until) (left_after s.channels b until units x)) h.holds
    ∙ channels-holds_inbox s traces a b until units (until - a) channel other t (omega arith)
    ∙ channel-horizon s traces a b until channel t
    ∙ sym (none-first s traces a (at u) b until u behind l (none-part s traces a (at u) (wake u) (at u) b u (omega arith) ahead w.none))
    ∙ sym (channel-horizon s traces a (at u) until channel t)

pub cores-ready : (s : Config) (traces : List (List Entry)) (a b until : ℕ) → CoresAreReady s traces a b until
cores-ready s traces a b until at wake flight units core l t k other h =
    let u = Core core in
    let w = h.wait u k in
    let behind : at u ≤ a = w.behind in
    let ahead : a ≤ wake u = w.ahead in
    ap (λ x. filter (is_due s.channels u a until) (left_after s.channels a until units x)) h.holds
    ∙ cores-holds_inbox s traces a b until units (until - b) core other t (omega arith)
    ∙ core-horizon s traces b a until core t
    ∙ sym (none-first s traces b (at u) a until u behind l (none-part s traces b (at u) (wake u) (at u) a u (omega arith) ahead w.none))
    ∙ sym (core-horizon s traces b (at u) until core t)

too-late : (to : Bool) (from until arrival : ℕ) → (to ≡ true → until ≤ arrival) → (to && (leb from arrival && ltb arrival until)) ≡ false
too-late false from until arrival h = refl
too-late true from until arrival h = and_right (leb from arrival) _ (le-ltb arrival until (h refl))

-- where none of what was sent passes a test, and none of what is sent more, none of both does
none-more : (q : Message → Bool) (old all new : List Message) → puts [] all ≡ puts (puts [] old) new → filter q new ≡ [] → by_age (filter q old) ≡ [] → by_age (filter q all) ≡ []
none-more q old all new e none h =
    by_age-puts (filter q all)
    ∙ sym (filter-puts q [] all tt)
    ∙ ap (filter q) e
    ∙ filter-puts q (puts [] old) new (Sorted-puts [] old tt)
    ∙ ap (puts (filter q (puts [] old))) none
    ∙ filter-puts q [] old tt
    ∙ sym (by_age-puts (filter q old))
    ∙ h

-- nothing that is sent arrives at a unit before its lowered word
lowered-none : (s : Config) (u : MachineUnit) (at wake at_then wake_then from : ℕ) (sent : List Message) → IsLowered s u at wake at_then wake_then sent → filter (due_at s u from wake_then) sent ≡ []
lowered-none s u at wake at_then wake_then from sent h =
    let P = λ (m : Message). is_to s u m ≡ true → wake_then ≤ m.arrival in
    filter-none (due_at s u from wake_then) sent
    (Each-weaker P (λ (m : Message). due_at s u from wake_then m ≡ false) (λ m e. too-late (is_to s u m) from wake_then m.arrival e) sent (recursion_from_All P sent h.arrivals))

-- a core in a turn of the channels
core-stays : (s : Config) (traces : List (List Entry)) (a b until core at wake at_then wake_then : ℕ) (sent : ℕ → List Message) → ChannelsSent s traces b until sent
    → All (λ m. a ≤ m.arrival) (flat_map sent (below s.channels)) → WaitsInTurns s traces a b (Core core) at wake
    → IsLowered s (Core core) at wake at_then wake_then (flat_map sent (below s.channels)) → WaitsInTurns s traces a until (Core core) at_then wake_then
core-stays s traces a b until core at wake at_then wake_then sent grown late w h =
    let u = Core core in
    let new = flat_map sent (below s.channels) in
    let q = due_at s u at wake_then in
    let before : by_age (filter q (answers_sent s traces b)) ≡ [] =
    sym (core-mail s traces b at wake_then core) ∙ none-part s traces b at wake at wake_then u (omega arith) h.less w.none in
    let none : mail_in s traces until u at wake_then ≡ [] =
    core-mail s traces until at wake_then core
    ∙ none-more q (answers_sent s traces b) (answers_sent s traces until) new (answers-more s traces b until sent grown) (lowered-none s u at wake at_then wake_then at new h) before in
    subst (λ x. WaitsInTurns s traces a until u x wake_then) (sym h.stays)
    (record { behind = w.behind; ahead = h.no_further a w.ahead late; silent = silent-sooner s traces at wake_then wake u h.less w.silent; none = none })

-- a channel in a turn of the cores
channel-stays : (s : Config) (traces : List (List Entry)) (a b until channel at wake at_then wake_then : ℕ) (sent : ℕ → List Message) → CoresSent s traces a until sent
    → All (λ m. b ≤ m.arrival) (flat_map sent (below s.cores)) → WaitsInTurns s traces a b (Channel channel) at wake
    → IsLowered s (Channel channel) at wake at_then wake_then (flat_map sent (below s.cores)) → WaitsInTurns s traces until b (Channel channel) at_then wake_then
channel-stays s traces a b until channel at wake at_then wake_then sent grown late w h =
    let u = Channel channel in
    let new = flat_map sent (below s.cores) in
    let q = due_at s u at wake_then in
    let before : by_age (filter q (requests_sent s traces a)) ≡ [] =
    sym (channel-mail s traces a at wake_then channel) ∙ none-part s traces a at wake at wake_then u (omega arith) h.less w.none in
    let none : mail_in s traces until u at wake_then ≡ [] =
    channel-mail s traces until at wake_then channel
    ∙ none-more q (requests_sent s traces a) (requests_sent s traces until) new (requests-more s traces a until sent grown) (lowered-none s u at wake at_then wake_then at new h) before in
    subst (λ x. WaitsInTurns s traces until b u x wake_then) (sym h.stays)
    (record { behind = w.behind; ahead = h.no_further b w.ahead late; silent = silent-sooner s traces at wake_then wake u h.less w.silent; none = none })

-- a channel in its own turn waits again
channel-goes : (s : Config) (traces : List (List Entry)) (a b until channel at wake at_then wake_then : ℕ) (flight sent : List Message) → b ≤ until → flight ≡ flight_of s traces a b
    → WaitsInTurns s traces a b (Channel channel) at wake
    → IsLeftAlone until at wake at_then wake_then sent ⊎ IsRunOn s traces (Channel channel) until at at_then wake_then flight sent
    → WaitsInTurns s traces a until (Channel channel) at_then wake_then
channel-goes s traces a b until channel at wake at_then wake_then flight sent l holds w (inl h) =
    let behind : at ≤ b = w.behind in
    subst (λ x. WaitsInTurns s traces a until (Channel channel) x wake_then) (sym h.same_at)
    (subst (λ y. WaitsInTurns s traces a until (Channel channel) at y) (sym h.same_wake) (record { behind = omega arith; ahead = h.wakes_later; silent = w.silent; none = w.none }))
channel-goes s traces a b until channel at wake at_then wake_then flight sent l holds w (inr h) =
    subst (λ x. WaitsInTurns s traces a until (Channel channel) x wake_then) (sym h.stands)
    (record {
      behind = omega arith;
      ahead = h.since;
      silent = h.silent;
      none = sym (channel-due s traces a b until wake_then channel l) ∙ ap (filter (is_due s.channels (Channel channel) until wake_then)) (sym holds) ∙ h.none_due;
    })

core-goes : (s : Config) (traces : List (List Entry)) (a b until core at wake at_then wake_then : ℕ) (flight sent : List Message) → a ≤ until → flight ≡ flight_of s traces a b
    → WaitsInTurns s traces a b (Core core) at wake
    → IsLeftAlone until at wake at_then wake_then sent ⊎ IsRunOn s traces (Core core) until at at_then wake_then flight sent
    → WaitsInTurns s traces until b (Core core) at_then wake_then
core-goes s traces a b until core at wake at_then wake_then flight sent l holds w (inl h) =
    let behind : at ≤ a = w.behind in
    subst (λ x. WaitsInTurns s traces until b (Core core) x wake_then) (sym h.same_at)
    (subst (λ y. WaitsInTurns s traces until b (Core core) at y) (sym h.same_wake) (record { behind = omega arith; ahead = h.wakes_later; silent = w.silent; none = w.none }))
core-goes s traces a b until core at wake at_then wake_then flight sent l holds w (inr h) =
    subst (λ x. WaitsInTurns s traces until b (Core core) x wake_then) (sym h.stands)
    (record {
      behind = omega arith;
      ahead = h.since;
      silent = h.silent;
      none = sym (core-due s traces a b until wake_then core l) ∙ ap (filter (is_due s.channels (Core core) until wake_then)) (sym holds) ∙ h.none_due;
    })

-- what a channel sent grows in its own turn by what it sends
channel-grows : (s : Config) (traces : List (List Entry)) (a b until channel at wake at_then wake_then : ℕ) (flight sent : List Message) → channel < s.channels → b ≤ until
    → RequestsTravelFor s (b - a) → RequestsTravelFor s (until - a) → WaitsInTurns s traces a b (Channel channel) at wake
    → IsLeftAlone until at wake at_then wake_then sent ⊎ IsRunOn s traces (Channel channel) until at at_then wake_then flight sent
    → messages_of_channel s (run s traces until) channel ≡ messages_of_channel s (run s traces b) channel ++ sent
channel-grows s traces a b until channel at wake at_then wake_then flight sent k l near t w (inl h) =
    let behind : at ≤ b = w.behind in
    channel-quiet s traces a b until channel at wake k t (omega arith) h.wakes_later w
    ∙ sym (channel-quiet s traces a b b channel at wake k near behind w.ahead w)
    ∙ sym (append-nil _)
    ∙ ap (λ x. messages_of_channel s (run s traces b) channel ++ x) (sym h.sends_none)
channel-grows s traces a b until channel at wake at_then wake_then flight sent k l near t w (inr h) =
    h.sends ∙ ap (λ x. x ++ sent) (sym (channel-quiet s traces a b b channel at wake k near w.behind w.ahead w))

core-grows : (s : Config) (traces : List (List Entry)) (a b until core at wake at_then wake_then : ℕ) (flight sent : List Message) → core < s.cores → a ≤ until
    → AnswersTakeFor s (a - b) → AnswersTakeFor s (until - b) → WaitsInTurns s traces a b (Core core) at wake
    → IsLeftAlone until at wake at_then wake_then sent ⊎ IsRunOn s traces (Core core) until at at_then wake_then flight sent
    → messages_of_core s traces (run s traces until) core ≡ messages_of_core s traces (run s traces a) core ++ sent
core-grows s traces a b until core at wake at_then wake_then flight sent k l near t w (inl h) =
    let behind : at ≤ a = w.behind in
    core-quiet s traces a b until core at wake k t (omega arith) h.wakes_later w
    ∙ sym (core-quiet s traces a b a core at wake k near behind w.ahead w)
    ∙ sym (append-nil _)
    ∙ ap (λ x. messages_of_core s traces (run s traces a) core ++ x) (sym h.sends_none)
core-grows s traces a b until core at wake at_then wake_then flight sent k l near t w (inr h) =
    h.sends ∙ ap (λ x. x ++ sent) (sym (core-quiet s traces a b a core at wake k near w.behind w.ahead w))

pub requests-shorter : (s : Config) (n m : ℕ) → m ≤ n → RequestsTravelFor s n → RequestsTravelFor s m
requests-shorter s n m l t core channel c k = let h = t core channel c k in omega (arith, h, l)

pub answers-shorter : (s : Config) (n m : ℕ) → m ≤ n → AnswersTakeFor s n → AnswersTakeFor s m
answers-shorter s n m l t core channel c k = let h = t core channel c k in (omega (arith, h.0, l), omega (arith, h.1, l))

answers-in_time : (s : Config) (traces : List (List Entry)) (a b until : ℕ) (sent : ℕ → List Message) → b ≤ until → AnswersTakeFor s (a - b) → ChannelsSent s traces b until sent
    → All (λ m. a ≤ m.arrival) (flat_map sent (below s.channels))
answers-in_time s traces a b until sent l near grown =
    All-from_recursion (λ (m : Message). a ≤ m.arrival) (flat_map sent (below s.channels))
    (Each-flat_map_below (λ (m : Message). a ≤ m.arrival) sent s.channels
    (λ i k. Each-weaker (λ (m : Message). b + (a - b) ≤ m.arrival) (λ (m : Message). a ≤ m.arrival) (λ m e. omega (arith, e)) (sent i)
    (channel-sent_late s traces b until (a - b) i (sent i) k l near (grown i k))))

requests-in_time : (s : Config) (traces : List (List Entry)) (a b until : ℕ) (sent : ℕ → List Message) → a ≤ until → RequestsTravelFor s (b - a) → CoresSent s traces a until sent
    → All (λ m. b ≤ m.arrival) (flat_map sent (below s.cores))
requests-in_time s traces a b until sent l near grown =
    All-from_recursion (λ (m : Message). b ≤ m.arrival) (flat_map sent (below s.cores))
    (Each-flat_map_below (λ (m : Message). b ≤ m.arrival) sent s.cores
    (λ i k. Each-weaker (λ (m : Message). a + (b - a) ≤ m.arrival) (λ (m : Message). b ≤ m.arrival) (λ m e. omega (arith, e)) (sent i)
    (core-sent_late s traces a until (b - a) i (sent i) k l near (grown i k))))

pub channel-turns : (s : Config) (traces : List (List Entry)) (a b until : ℕ) → ChannelGoes s traces a b until
channel-turns s traces a b until channel at wake at_then wake_then sent k l near t w h = (
  channel-goes s traces a b until channel at wake at_then wake_then (flight_of s traces a b) sent l refl w h,
  channel-grows s traces a b until channel at wake at_then wake_then (flight_of s traces a b) sent k l near t w h,
)

pub core-turns : (s : Config) (traces : List (List Entry)) (a b until : ℕ) → CoreGoes s traces a b until
core-turns s traces a b until core at wake at_then wake_then sent k l near t w h = (
  core-goes s traces a b until core at wake at_then wake_then (flight_of s traces a b) sent l refl w h,
  core-grows s traces a b until core at wake at_then wake_then (flight_of s traces a b) sent k l near t w h,
)

pub core-keeps : (s : Config) (traces : List (List Entry)) (a b until : ℕ) → CoreStays s traces a b until
core-keeps s traces a b until core at wake at_then wake_then sent l near grown w h =
    core-stays s traces a b until core at wake at_then wake_then sent grown (answers-in_time s traces a b until sent l near grown) w h

pub channel-keeps : (s : Config) (traces : List (List Entry)) (a b until : ℕ) → ChannelStays s traces a b until
channel-keeps s traces a b until channel at wake at_then wake_then sent l near grown w h =
    channel-stays s traces a b until channel at wake at_then wake_then sent grown (requests-in_time s traces a b until sent l near grown) w h

pub channels-turn : (s : Config) (traces : List (List Entry)) (a b until : ℕ) → ChannelsTurn s traces a b until
channels-turn s traces a b until at wake at_then wake_then flight flight_then l t h g =
    let grown : ChannelsSent s traces b until g.sent =
    λ channel k. channel-grows s traces a b until channel (at (Channel channel)) (wake (Channel channel)) (at_then (Channel channel)) (wake_then (Channel channel)) flight (g.sent channel) k l
    h.channels_near t (h.wait (Channel channel) k) (g.go channel k) in
    record {
      channels_near = t;
      cores_near = answers-shorter s (a - b) (a - until) (omega arith) h.cores_near;
      wait = waiting grown (answers-in_time s traces a b until g.sent l h.cores_near grown);
      holds = g.flight_is
          ∙ ap (λ x. fold insert_by_age (left_by_channels until x) (flat_map g.sent (below s.channels))) h.holds
          ∙ sym (channels-further s traces a b until (a - b) g.sent h.cores_near l (omega arith) grown);
    }
  where
    waiting : ChannelsSent s traces b until g.sent → All (λ m. a ≤ m.arrival) (flat_map g.sent (below s.channels))
        → (unit : MachineUnit) → Exists s unit → WaitsInTurns s traces a until unit (at_then unit) (wake_then unit)
    waiting grown late (Core core) k =
        core-stays s traces a b until core (at (Core core)) (wake (Core core)) (at_then (Core core)) (wake_then (Core core)) g.sent grown late (h.wait (Core core) k) (g.stay core k)
    waiting grown late (Channel channel) k =
        channel-goes s traces a b until channel (at (Channel channel)) (wake (Channel channel)) (at_then (Channel channel)) (wake_then (Channel channel)) flight (g.sent channel) l h.holds
        (h.wait (Channel channel) k) (g.go channel k)

pub cores-turn : (s : Config) (traces : List (List Entry)) (a b until : ℕ) → CoresTurn s traces a b until
cores-turn s traces a b until at wake at_then wake_then flight flight_then l t h g =
    let grown : CoresSent s traces a until g.sent =
    λ core k. core-grows s traces a b until core (at (Core core)) (wake (Core core)) (at_then (Core core)) (wake_then (Core core)) flight (g.sent core) k l
    h.cores_near t (h.wait (Core core) k) (g.go core k) in
    record {
      channels_near = requests-shorter s (b - a) (b - until) (omega arith) h.channels_near;
      cores_near = t;
      wait = waiting grown (requests-in_time s traces a b until g.sent l h.channels_near grown);
      holds = g.flight_is
          ∙ ap (λ x. fold insert_by_age (left_by_cores until x) (flat_map g.sent (below s.cores))) h.holds
          ∙ sym (cores-further s traces a b until (b - a) g.sent h.channels_near l (omega arith) grown);
    }
  where
    waiting : CoresSent s traces a until g.sent → All (λ m. b ≤ m.arrival) (flat_map g.sent (below s.cores))
        → (unit : MachineUnit) → Exists s unit → WaitsInTurns s traces until b unit (at_then unit) (wake_then unit)
    waiting grown late (Channel channel) k =
        channel-stays s traces a b until channel (at (Channel channel)) (wake (Channel channel)) (at_then (Channel channel)) (wake_then (Channel channel)) g.sent grown late (h.wait (Channel channel) k) (g.stay channel k)
    waiting grown late (Core core) k =
        core-goes s traces a b until core (at (Core core)) (wake (Core core)) (at_then (Core core)) (wake_then (Core core)) flight (g.sent core) l h.holds
        (h.wait (Core core) k) (g.go core k)
