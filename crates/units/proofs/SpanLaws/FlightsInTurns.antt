-- What is in flight where the cores stand at one cycle and the channels at another, as they go on in turns.
use Rattle.std.proofs.Common.{◌≡◌, ℕ, ◌+◌, ◌%◌, ◌<◌, ◌≤◌, Bool, true, false, not, ltb, leb, eqb, ◌&&◌, List, [], ◌++◌, length, refl, sym, ap, ap₂, subst, ◌∙◌, arith}
use Rattle.std.specs.Prelude.{filter, fold, flat_map}
use Rattle.std.specs.List.{AllByRecursion as Each}
use Rattle.std.proofs.lemmas.Bool.{le-leb, eqb-true, true≢false}
use Rattle.std.proofs.lemmas.List.{append-nil}
use Rattle.std.proofs.lemmas.List.Elements.{filter-append}
use Rattle.sim_base.specs.declared.config.Config.{Config}
use Rattle.sim_base.specs.Counts.{is_in_flight, in_flight}
use Rattle.sim_base.specs.History.{below, is_unit, is_to, receiver, messages, messages_of_core, messages_of_channel, insert_by_age, by_age}
use Rattle.sim_base.specs.Machine.{run}
use Rattle.sim_base.specs.declared.message.Message.{Message}
use Rattle.sim_base.specs.declared.message.Unit.{Unit as MachineUnit}
use Rattle.sim_base.specs.declared.message.Unit.TheVariants.{Core, Channel}
use Rattle.sim_base.specs.declared.trace.Entry.{Entry}
use Rattle.sim_base.proofs.Arrived.{puts, by_age-puts, fold-puts}
use Rattle.sim_base.proofs.Below.{flat_map_below_same}
use Rattle.sim_base.proofs.Each.{Each-all, Each-filter, Each-flat_map_below, Each-last}
use Rattle.sim_base.proofs.Grows.{SentBy, of_core-by, of_channel-by, grow, cores_differ, channels_differ}
use Rattle.sim_base.proofs.Ordered.{Apart, Each-weaker, puts-swap, puts-append, Sorted-puts, filter-by_age, filter-puts}
use Rattle.sim_base.proofs.Spans.{length_run}
use Rattle.sim_base.specs.Sends.{sender}
use Rattle.sim_base.proofs.Lists.{filter-both, filter-each, filter-agree, filter-none, eqb-swap}
use Rattle.links.specs.InFlight.{is_due}
use Rattle.units.specs.SpanLaws.Mail.{arriving}
use Rattle.units.specs.SpanLaws.FlightInTurns.{is_request, flight_of, left_by_channels, left_by_cores, FlightsMeet, HoldChannelInboxes, HoldCoreInboxes, ChannelsGoFurther, CoresGoFurther, ChannelsGoFurtherFor, CoresGoFurtherFor}
use Rattle.units.specs.SpanLaws.Sent.{requests_sent, answers_sent}
use Rattle.units.proofs.SpanLaws.Flights.{due-left, not_before, in_span, not-lt, and-swap, later-both}
use Rattle.units.proofs.SpanLaws.Late.{core-sent_late, channel-sent_late}
use Rattle.units.proofs.SpanLaws.Requesting.{core-requests, channel-answers, requests-each, answers-each, request-to, answer-to}
use Rattle.units.proofs.SpanLaws.Knowing.{requests-known, answers-known}

pub flights-meet : (s : Config) (traces : List (List Entry)) (now : ℕ) → FlightsMeet s traces now
unfolding in_flight messages
flights-meet s traces now =
    let history = run s traces now in
    let sent = requests_sent s traces now ++ answers_sent s traces now in
    let long : length history ≡ now = length_run s traces now in
    let same : (m : Message) → is_in_flight history m ≡ not_before now m = λ m. ap (λ i. not (ltb m.arrival i)) long ∙ not-lt m.arrival now in
    ap by_age
    (sym (filter-append (not_before now) (requests_sent s traces now) (answers_sent s traces now))
    ∙ sym (filter-agree (is_in_flight history) (not_before now) sent (Each-all (λ (m : Message). is_in_flight history m ≡ not_before now m) same sent)))

-- what is due at a unit of what has not arrived
due-mail : (s : Config) (from until : ℕ) (unit : MachineUnit) (sent : List Message)
    → filter (is_due s.channels unit from until) (filter (not_before from) sent) ≡ arriving from until (filter (is_to s unit) sent)
due-mail s from until unit sent =
    let due = is_due s.channels unit from until in
    sym (filter-both due (not_before from) due (λ m. and-swap (is_unit (receiver s m.link) unit) (leb from m.arrival) (ltb m.arrival until)) sent)
    ∙ filter-both (in_span from until) (is_to s unit) due (λ m. refl) sent

pub channels-holds_inbox : (s : Config) (traces : List (List Entry)) (a b until : ℕ) → HoldChannelInboxes s traces a b until
channels-holds_inbox s traces a b until units least channel other t h =
    let due = is_due s.channels (Channel channel) b until in
    let xs = filter (not_before b) (requests_sent s traces a) in
    let ys = filter (not_before a) (answers_sent s traces b) in
    let none : filter due ys ≡ [] =
    filter-none due ys
    (Each-filter (λ (m : Message). due m ≡ false) (not_before a) (answers_sent s traces b)
    (Each-weaker (λ (m : Message). is_request m ≡ false) (λ (m : Message). due m ≡ false) (λ m e. ap (λ x. x && in_span b until m) (answer-to s channel m e)) (answers_sent s traces b) (answers-each s traces b))) in
    due-left s.channels b until b until (Channel channel) units (by_age (xs ++ ys)) other
    ∙ filter-by_age due (xs ++ ys)
    ∙ ap by_age (filter-append due xs ys ∙ ap₂ (λ x y. x ++ y) (due-mail s b until (Channel channel) (requests_sent s traces a)) none ∙ append-nil _)
    ∙ sym ((requests-known s traces a until least until channel t h (omega arith)).1 b)

pub cores-holds_inbox : (s : Config) (traces : List (List Entry)) (a b until : ℕ) → HoldCoreInboxes s traces a b until
cores-holds_inbox s traces a b until units least core other t h =
    let due = is_due s.channels (Core core) a until in
    let xs = filter (not_before b) (requests_sent s traces a) in
    let ys = filter (not_before a) (answers_sent s traces b) in
    let none : filter due xs ≡ [] =
    filter-none due xs
    (Each-filter (λ (m : Message). due m ≡ false) (not_before b) (requests_sent s traces a)
    (Each-weaker (λ (m : Message). is_request m ≡ true) (λ (m : Message). due m ≡ false) (λ m e. ap (λ x. x && in_span a until m) (request-to s core m e)) (requests_sent s traces a) (requests-each s traces a))) in
    due-left s.channels a until a until (Core core) units (by_age (xs ++ ys)) other
    ∙ filter-by_age due (xs ++ ys)
    ∙ ap by_age (filter-append due xs ys ∙ ap₂ (λ x y. x ++ y) none (due-mail s a until (Core core) (answers_sent s traces b)))
    ∙ sym ((answers-known s traces b until least until core t h (omega arith)).1 a)

-- how what a kind of units sent grows
abbrev pub CoresSent : Config → List (List Entry) → ℕ → ℕ → (ℕ → List Message) → Type 0
CoresSent s traces from until sent =
    (core : ℕ) → core < s.cores → messages_of_core s traces (run s traces until) core ≡ messages_of_core s traces (run s traces from) core ++ sent core

abbrev pub ChannelsSent : Config → List (List Entry) → ℕ → ℕ → (ℕ → List Message) → Type 0
ChannelsSent s traces from until sent =
    (channel : ℕ) → channel < s.channels → messages_of_channel s (run s traces until) channel ≡ messages_of_channel s (run s traces from) channel ++ sent channel

pub requests-more : (s : Config) (traces : List (List Entry)) (from until : ℕ) (sent : ℕ → List Message) → CoresSent s traces from until sent
    → puts [] (requests_sent s traces until) ≡ puts (puts [] (requests_sent s traces from)) (flat_map sent (below s.cores))
requests-more s traces from until sent h =
    let f = messages_of_core s traces (run s traces from) in
    let of_core : (i : ℕ) → i < s.cores → SentBy s (Core i) (sent i) =
    λ i l. Each-last (λ (m : Message). sender s m.link ≡ Core i) (f i) (sent i) (subst (SentBy s (Core i)) (h i l) (of_core-by s traces (run s traces until) i)) in
    ap (puts []) (flat_map_below_same (messages_of_core s traces (run s traces until)) (λ i. f i ++ sent i) s.cores h)
    ∙ grow s Core cores_differ f sent [] s.cores (λ i l. of_core-by s traces (run s traces from) i) of_core

pub answers-more : (s : Config) (traces : List (List Entry)) (from until : ℕ) (sent : ℕ → List Message) → ChannelsSent s traces from until sent
    → puts [] (answers_sent s traces until) ≡ puts (puts [] (answers_sent s traces from)) (flat_map sent (below s.channels))
answers-more s traces from until sent h =
    let f = messages_of_channel s (run s traces from) in
    let of_channel : (i : ℕ) → i < s.channels → SentBy s (Channel i) (sent i) =
    λ i l. Each-last (λ (m : Message). sender s m.link ≡ Channel i) (f i) (sent i) (subst (SentBy s (Channel i)) (h i l) (of_channel-by s (run s traces until) i l)) in
    ap (puts []) (flat_map_below_same (messages_of_channel s (run s traces until)) (λ i. f i ++ sent i) s.channels h)
    ∙ grow s Channel channels_differ f sent [] s.channels (λ i l. of_channel-by s (run s traces from) i l) of_channel

new-requests : (s : Config) (traces : List (List Entry)) (from until : ℕ) (sent : ℕ → List Message) → CoresSent s traces from until sent
    → Each (λ (m : Message). is_request m ≡ true) (flat_map sent (below s.cores))
new-requests s traces from until sent h =
    let P = λ (m : Message). is_request m ≡ true in
    Each-flat_map_below P sent s.cores (λ i l. Each-last P (messages_of_core s traces (run s traces from) i) (sent i) (subst (Each P) (h i l) (core-requests s traces until i)))

new-answers : (s : Config) (traces : List (List Entry)) (from until : ℕ) (sent : ℕ → List Message) → ChannelsSent s traces from until sent
    → Each (λ (m : Message). is_request m ≡ false) (flat_map sent (below s.channels))
new-answers s traces from until sent h =
    let P = λ (m : Message). is_request m ≡ false in
    Each-flat_map_below P sent s.channels (λ i l. Each-last P (messages_of_channel s (run s traces from) i) (sent i) (subst (Each P) (h i l) (channel-answers s traces until i l)))

-- a request and another message stand on different links
link-differs : (x y : ℕ) → eqb (x % 3) 0 ≡ true → eqb (y % 3) 0 ≡ false → eqb x y ≡ false
link-differs x y h k = go (eqb x y) refl
  where
    go : (b : Bool) → eqb x y ≡ b → b ≡ false
    go false e = refl
    go true e = absurd (true≢false (sym h ∙ ap (λ z. eqb (z % 3) 0) (eqb-true x y e) ∙ k))

differs-link : (x y : ℕ) → eqb (x % 3) 0 ≡ false → eqb (y % 3) 0 ≡ true → eqb x y ≡ false
differs-link x y h k = eqb-swap x y ∙ link-differs y x k h

kinds-apart : (xs ys : List Message) → Each (λ (m : Message). is_request m ≡ true) xs → Each (λ (m : Message). is_request m ≡ false) ys → Apart xs ys
kinds-apart xs ys h k =
    Each-weaker (λ (m : Message). is_request m ≡ true) (λ (x : Message). Each (λ (y : Message). eqb x.link y.link ≡ false) ys)
    (λ x e. Each-weaker (λ (m : Message). is_request m ≡ false) (λ (y : Message). eqb x.link y.link ≡ false) (λ y f. link-differs x.link y.link e f) ys k) xs h

apart-kinds : (xs ys : List Message) → Each (λ (m : Message). is_request m ≡ false) xs → Each (λ (m : Message). is_request m ≡ true) ys → Apart xs ys
apart-kinds xs ys h k =
    Each-weaker (λ (m : Message). is_request m ≡ false) (λ (x : Message). Each (λ (y : Message). eqb x.link y.link ≡ false) ys)
    (λ x e. Each-weaker (λ (m : Message). is_request m ≡ true) (λ (y : Message). eqb x.link y.link ≡ false) (λ y f. differs-link x.link y.link e f) ys k) xs h

-- of messages that grew by more, each of which passes a test, those that pass it grew by the same
part-more : (p : Message → Bool) (old all new : List Message) → Each (λ (m : Message). p m ≡ true) new → puts [] all ≡ puts (puts [] old) new
    → puts [] (filter p all) ≡ puts (puts [] (filter p old)) new
part-more p old all new h e =
    sym (filter-puts p [] all tt)
    ∙ ap (filter p) e
    ∙ filter-puts p (puts [] old) new (Sorted-puts [] old tt)
    ∙ ap₂ puts (filter-puts p [] old tt) (filter-each p new h)

-- the first of two lists of messages grows
first-more : (xs ys all new : List Message) → Apart new ys → puts [] all ≡ puts (puts [] xs) new → puts [] (all ++ ys) ≡ puts (puts [] (xs ++ ys)) new
first-more xs ys all new far e =
    puts-append [] all ys
    ∙ ap (λ z. puts z ys) e
    ∙ puts-swap (puts [] xs) new ys far
    ∙ ap (λ z. puts z new) (sym (puts-append [] xs ys))

-- the second does
second-more : (xs ys all new : List Message) → puts [] all ≡ puts (puts [] ys) new → Apart xs all → Apart new xs → Apart ys xs
    → puts [] (xs ++ all) ≡ puts (puts [] (xs ++ ys)) new
second-more xs ys all new e far_all far_new far_old =
    puts-append [] xs all
    ∙ puts-swap [] xs all far_all
    ∙ sym (puts-append [] all xs)
    ∙ first-more ys xs all new far_new e
    ∙ ap (λ z. puts z new) (puts-append [] ys xs ∙ puts-swap [] ys xs far_old ∙ sym (puts-append [] xs ys))

-- what is left of messages of which each is taken out that arrives before a cycle
left-taken : (stay : Message → Bool) (from until : ℕ) → from ≤ until → (ms : List Message) → Each (λ (m : Message). stay m ≡ not_before until m) ms
    → filter stay (filter (not_before from) ms) ≡ filter (not_before until) ms
left-taken stay from until l ms h =
    let both = λ (m : Message). not_before from m && stay m in
    sym (filter-both stay (not_before from) both (λ m. refl) ms)
    ∙ filter-agree both (not_before until) ms
    (Each-weaker (λ (m : Message). stay m ≡ not_before until m) (λ (m : Message). both m ≡ not_before until m)
    (λ m e. ap (λ b. not_before from m && b) e ∙ sym (later-both from until l m)) ms h)

left-kept : (stay p : Message → Bool) (ms : List Message) → Each (λ (m : Message). stay m ≡ true) ms → filter stay (filter p ms) ≡ filter p ms
left-kept stay p ms h = filter-each stay (filter p ms) (Each-filter (λ (m : Message). stay m ≡ true) p ms h)

pub channels-left : (s : Config) (traces : List (List Entry)) (a b until : ℕ) → b ≤ until
    → left_by_channels until (flight_of s traces a b) ≡ by_age (filter (not_before until) (requests_sent s traces a) ++ filter (not_before a) (answers_sent s traces b))
channels-left s traces a b until l =
    let stay = λ (m : Message). not (is_request m && ltb m.arrival until) in
    let xs = requests_sent s traces a in
    let ys = answers_sent s traces b in
    filter-by_age stay (filter (not_before b) xs ++ filter (not_before a) ys)
    ∙ ap by_age
    (filter-append stay (filter (not_before b) xs) (filter (not_before a) ys)
    ∙ ap₂ (λ x y. x ++ y)
    (left-taken stay b until l xs
    (Each-weaker (λ (m : Message). is_request m ≡ true) (λ (m : Message). stay m ≡ not_before until m) (λ m e. ap (λ t. not (t && ltb m.arrival until)) e ∙ not-lt m.arrival until) xs (requests-each s traces a)))
    (left-kept stay (not_before a) ys
    (Each-weaker (λ (m : Message). is_request m ≡ false) (λ (m : Message). stay m ≡ true) (λ m e. ap (λ t. not (t && ltb m.arrival until)) e) ys (answers-each s traces b))))

pub cores-left : (s : Config) (traces : List (List Entry)) (a b until : ℕ) → a ≤ until
    → left_by_cores until (flight_of s traces a b) ≡ by_age (filter (not_before b) (requests_sent s traces a) ++ filter (not_before until) (answers_sent s traces b))
cores-left s traces a b until l =
    let stay = λ (m : Message). not (not (is_request m) && ltb m.arrival until) in
    let xs = requests_sent s traces a in
    let ys = answers_sent s traces b in
    filter-by_age stay (filter (not_before b) xs ++ filter (not_before a) ys)
    ∙ ap by_age
    (filter-append stay (filter (not_before b) xs) (filter (not_before a) ys)
    ∙ ap₂ (λ x y. x ++ y)
    (left-kept stay (not_before b) xs
    (Each-weaker (λ (m : Message). is_request m ≡ true) (λ (m : Message). stay m ≡ true) (λ m e. ap (λ t. not (not t && ltb m.arrival until)) e) xs (requests-each s traces a)))
    (left-taken stay a until l ys
    (Each-weaker (λ (m : Message). is_request m ≡ false) (λ (m : Message). stay m ≡ not_before until m) (λ m e. ap (λ t. not (not t && ltb m.arrival until)) e ∙ not-lt m.arrival until) ys (answers-each s traces b))))

pub channels-further : (s : Config) (traces : List (List Entry)) (a b until : ℕ) → ChannelsGoFurther s traces a b until
channels-further s traces a b until least sent t l h grown =
    let new = flat_map sent (below s.channels) in
    let xs = filter (not_before until) (requests_sent s traces a) in
    let ys = filter (not_before a) (answers_sent s traces b) in
    let all = filter (not_before a) (answers_sent s traces until) in
    let Asks = λ (m : Message). is_request m ≡ true in
    let Answers = λ (m : Message). is_request m ≡ false in
    let asks : Each Asks xs = Each-filter Asks (not_before until) (requests_sent s traces a) (requests-each s traces a) in
    let answers : Each Answers new = new-answers s traces b until sent grown in
    let late : Each (λ (m : Message). not_before a m ≡ true) new =
    Each-flat_map_below (λ (m : Message). not_before a m ≡ true) sent s.channels
    (λ i k. Each-weaker (λ (m : Message). b + least ≤ m.arrival) (λ (m : Message). not_before a m ≡ true) (λ m e. le-leb a m.arrival (omega arith)) (sent i)
    (channel-sent_late s traces b until least i (sent i) k l t (grown i k))) in
    by_age-puts (xs ++ all)
    ∙ second-more xs ys all new (part-more (not_before a) (answers_sent s traces b) (answers_sent s traces until) new late (answers-more s traces b until sent grown))
    (kinds-apart xs all asks (Each-filter Answers (not_before a) (answers_sent s traces until) (answers-each s traces until)))
    (apart-kinds new xs answers asks)
    (apart-kinds ys xs (Each-filter Answers (not_before a) (answers_sent s traces b) (answers-each s traces b)) asks)
    ∙ ap (λ z. puts z new) (sym (by_age-puts (xs ++ ys)) ∙ sym (channels-left s traces a b until l))
    ∙ sym (fold-puts (left_by_channels until (flight_of s traces a b)) new)

pub cores-further : (s : Config) (traces : List (List Entry)) (a b until : ℕ) → CoresGoFurther s traces a b until
cores-further s traces a b until least sent t l h grown =
    let new = flat_map sent (below s.cores) in
    let xs = filter (not_before b) (requests_sent s traces a) in
    let ys = filter (not_before until) (answers_sent s traces b) in
    let all = filter (not_before b) (requests_sent s traces until) in
    let Asks = λ (m : Message). is_request m ≡ true in
    let Answers = λ (m : Message). is_request m ≡ false in
    let late : Each (λ (m : Message). not_before b m ≡ true) new =
    Each-flat_map_below (λ (m : Message). not_before b m ≡ true) sent s.cores
    (λ i k. Each-weaker (λ (m : Message). a + least ≤ m.arrival) (λ (m : Message). not_before b m ≡ true) (λ m e. le-leb b m.arrival (omega arith)) (sent i)
    (core-sent_late s traces a until least i (sent i) k l t (grown i k))) in
    by_age-puts (all ++ ys)
    ∙ first-more xs ys all new
    (kinds-apart new ys (new-requests s traces a until sent grown) (Each-filter Answers (not_before until) (answers_sent s traces b) (answers-each s traces b)))
    (part-more (not_before b) (requests_sent s traces a) (requests_sent s traces until) new late (requests-more s traces a until sent grown))
    ∙ ap (λ z. puts z new) (sym (by_age-puts (xs ++ ys)) ∙ sym (cores-left s traces a b until l))
    ∙ sym (fold-puts (left_by_cores until (flight_of s traces a b)) new)

-- a test on messages by age to which others are added
filter-fold : (p : Message → Bool) (zs new : List Message) → filter p (fold insert_by_age (by_age zs) new) ≡ fold insert_by_age (filter p (by_age zs)) (filter p new)
filter-fold p zs new =
    ap (filter p) (fold-puts (by_age zs) new ∙ ap (λ x. puts x new) (by_age-puts zs))
    ∙ filter-puts p (puts [] zs) new (Sorted-puts [] zs tt)
    ∙ ap (λ x. puts (filter p x) (filter p new)) (sym (by_age-puts zs))
    ∙ sym (fold-puts (filter p (by_age zs)) (filter p new))

pub channels-further_for : (s : Config) (traces : List (List Entry)) (a b until : ℕ) → ChannelsGoFurtherFor s traces a b until
channels-further_for s traces a b until p least sent t l h grown =
    let new = flat_map sent (below s.channels) in
    let left = channels-left s traces a b until l in
    ap (filter p) (channels-further s traces a b until least sent t l h grown)
    ∙ ap (λ x. filter p (fold insert_by_age x new)) left
    ∙ filter-fold p (filter (not_before until) (requests_sent s traces a) ++ filter (not_before a) (answers_sent s traces b)) new
    ∙ ap (λ x. fold insert_by_age (filter p x) (filter p new)) (sym left)

pub cores-further_for : (s : Config) (traces : List (List Entry)) (a b until : ℕ) → CoresGoFurtherFor s traces a b until
cores-further_for s traces a b until p least sent t l h grown =
    let new = flat_map sent (below s.cores) in
    let left = cores-left s traces a b until l in
    ap (filter p) (cores-further s traces a b until least sent t l h grown)
    ∙ ap (λ x. filter p (fold insert_by_age x new)) left
    ∙ filter-fold p (filter (not_before b) (requests_sent s traces a) ++ filter (not_before until) (answers_sent s traces b)) new
    ∙ ap (λ x. fold insert_by_age (filter p x) (filter p new)) (sym left)
