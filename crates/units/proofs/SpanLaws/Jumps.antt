-- A machine in turns begins where all units stand at one cycle, and may be left alone up to the least word.
use Rattle.std.proofs.Common.{◌≡◌, ℕ, zero, suc, ◌+◌, ◌-◌, ◌/◌, ◌%◌, ◌<◌, ◌≤◌, Bool, true, false, not, cond, ltb, leb, eqb, ◌&&◌, List, [], ◌∷◌, ◌++◌, refl, sym, ap, subst, ◌∙◌, ◌⊎◌, inl, inr, arith}
use Rattle.std.specs.Prelude.{filter, fold, flat_map}
use Rattle.std.specs.List.{AllByRecursion as Each, list_any}
use Rattle.std.proofs.lemmas.Bool.{leb-true, le-ltb, cases_lt, cond_both, cond-true, cond-false}
use Rattle.std.proofs.lemmas.Bool.Decides.{nat_tests}
use Rattle.std.proofs.lemmas.List.Elements.{All-from_recursion}
use Rattle.sim_base.specs.declared.config.Config.{Config}
use Rattle.sim_base.specs.History.{below, trace_of, is_unit, is_to, receiver, messages, inbox, core_messages, channel_messages, by_age, insert_by_age}
use Rattle.sim_base.specs.Machine.{run, core_run, channel_run}
use Rattle.sim_base.specs.declared.message.Message.{Message}
use Rattle.sim_base.specs.declared.message.Unit.{Unit as MachineUnit}
use Rattle.sim_base.specs.declared.message.Unit.TheVariants.{Core, Channel}
use Rattle.sim_base.specs.declared.trace.Entry.{Entry}
use Rattle.sim_base.proofs.Below.{flat_map_below_more}
use Rattle.sim_base.proofs.Arrived.{Each-by_age}
use Rattle.sim_base.proofs.Each.{Each-all, Each-append, Each-first, Each-last}
use Rattle.sim_base.proofs.Ordered.{Each-weaker}
use Rattle.sim_base.proofs.Lists.{filter-both, filter-agree, filter-none}
use Rattle.sim_base.proofs.Grows.{is_unit-own}
use Rattle.links.specs.InFlight.{is_due}
use Rattle.links.proofs.Next.{by_age-empty}
use Rattle.units.specs.SpanLaws.Flight.{has_unit}
use Rattle.units.proofs.SpanLaws.Flights.{any-and, left-all}
use Rattle.laws.specs.Commands.{channel_steps_of}
use Rattle.units.specs.SpanLaws.Cores.{core_steps_of}
use Rattle.units.specs.SpanLaws.Mail.{mail_before, mail_in}
use Rattle.units.specs.SpanLaws.Quiet.{IsSilent}
use Rattle.units.specs.SpanLaws.Units.{Exists}
use Rattle.units.proofs.SpanLaws.Silent.{none-part}
use Rattle.units.proofs.SpanLaws.Later.{IsReceived, messages-received}
use Rattle.units.specs.SpanLaws.FlightInTurns.{is_request, flight_of, left_by_channels, left_by_cores, ChannelsTakeTheirs, CoresTakeTheirs, LaterStays}
use Rattle.units.specs.SpanLaws.Sent.{requests_sent, answers_sent, RequestsTravelFor, AnswersTakeFor}
use Rattle.units.specs.SpanLaws.Turns.{WaitsInTurns, IsInTurns, IsLowered, TurnsBegin, TurnsJump, ChannelsIdle, CoresIdle}
use Rattle.units.proofs.SpanLaws.Requesting.{requests-each, answers-each, request-to, answer-to}
use Rattle.units.proofs.SpanLaws.FlightsInTurns.{flights-meet, channels-left, cores-left}
use Rattle.units.proofs.SpanLaws.Leasts.{request-meets, request-positive}
use Rattle.units.proofs.SpanLaws.Taking.{due_at, channel-mail, core-mail, requests-shorter, channels-turn, cores-turn}

silent-now : (s : Config) (traces : List (List Entry)) (now : ℕ) (u : MachineUnit) → IsSilent s traces now now u
unfolding core_run channel_run
silent-now s traces now (Core core) = λ n l.
    let e : 0 ≡ n = omega arith in
    let trace = trace_of traces core in
    let steps = core_steps_of s traces now core in
    subst (λ i. core_messages s core trace (core_run s core trace steps (mail_before s traces now (Core core) now) i) ≡ core_messages s core trace steps) e refl
silent-now s traces now (Channel channel) = λ n l.
    let e : 0 ≡ n = omega arith in
    let steps = channel_steps_of s traces now channel in
    subst (λ i. channel_messages s channel (channel_run s channel steps (mail_before s traces now (Channel channel) now) i) ≡ channel_messages s channel steps) e refl

nothing-in : (now arrival : ℕ) → (leb now arrival && ltb arrival now) ≡ false
nothing-in now arrival = grind (arith, nat_tests)

none-now : (s : Config) (traces : List (List Entry)) (n now : ℕ) (u : MachineUnit) → mail_in s traces n u now now ≡ []
none-now s traces n now u =
    let q = λ (m : Message). leb now m.arrival && ltb m.arrival now in
    filter-none q (inbox s traces (run s traces n) u) (Each-all (λ (m : Message). q m ≡ false) (λ m. nothing-in now m.arrival) (inbox s traces (run s traces n) u))

pub requests-none : (s : Config) (n : ℕ) → n ≡ 0 → RequestsTravelFor s n
requests-none s n e core channel c k = omega arith

pub answers-none : (s : Config) (n : ℕ) → n ≡ 0 → AnswersTakeFor s n
answers-none s n e core channel c k = (omega arith, omega arith)

waits-now : (s : Config) (traces : List (List Entry)) (now : ℕ) (u : MachineUnit) → WaitsInTurns s traces now now u now now
waits-now s traces now (Core core) = record { behind = omega arith; ahead = omega arith; silent = silent-now s traces now (Core core); none = none-now s traces now now (Core core) }
waits-now s traces now (Channel channel) = record { behind = omega arith; ahead = omega arith; silent = silent-now s traces now (Channel channel); none = none-now s traces now now (Channel channel) }

pub turns-begin : (s : Config) (traces : List (List Entry)) (now : ℕ) → TurnsBegin s traces now
turns-begin s traces now =
    record {
      channels_near = requests-none s (now - now) (omega arith);
      cores_near = answers-none s (now - now) (omega arith);
      wait = λ unit k. waits-now s traces now unit;
      holds = sym (flights-meet s traces now);
    }

-- where none is left, none passes
pub each-fails : (p : Message → Bool) (ms : List Message) → filter p ms ≡ [] → Each (λ (m : Message). p m ≡ false) ms
each-fails p [] h = tt
each-fails p (m ∷ ms) h = go (p m) refl h (each-fails p ms)
  where
    go : (b : Bool) → p m ≡ b → cond b (m ∷ filter p ms) (filter p ms) ≡ [] → (filter p ms ≡ [] → Each (λ (x : Message). p x ≡ false) ms) → (p m ≡ false) × Each (λ (x : Message). p x ≡ false) ms
    go true e k rest = cc
    go false e k rest = (e, rest k)

-- what is due at no unit of the machine does not arrive in the span
none-within : (s : Config) (from until : ℕ) (ms : List Message) → Each (IsReceived s) ms
    → ((u : MachineUnit) → Exists s u → Each (λ (m : Message). due_at s u from until m ≡ false) ms)
    → Each (λ (m : Message). (leb from m.arrival && ltb m.arrival until) ≡ false) ms
none-within s from until [] h k = tt
none-within s from until (m ∷ ms) h k =
    let u = receiver s m.link in
    let here : due_at s u from until m ≡ false = (k u h.0).0 in
    (ap (λ b. b && (leb from m.arrival && ltb m.arrival until)) (sym (is_unit-own u)) ∙ here, none-within s from until ms h.1 (λ v e. (k v e).1))

same-later : (from until arrival : ℕ) → from ≤ until → (leb from arrival && ltb arrival until) ≡ false → leb until arrival ≡ leb from arrival
same-later from until arrival l h = grind (arith, nat_tests)

later-same : (from until : ℕ) → from ≤ until → (ms : List Message) → Each (λ (m : Message). (leb from m.arrival && ltb m.arrival until) ≡ false) ms
    → filter (λ m. leb until m.arrival) ms ≡ filter (λ m. leb from m.arrival) ms
later-same from until l ms h = filter-agree (λ (m : Message). leb until m.arrival) (λ (m : Message). leb from m.arrival) ms (agree ms h)
  where
    agree : (xs : List Message) → Each (λ (m : Message). (leb from m.arrival && ltb m.arrival until) ≡ false) xs → Each (λ (m : Message). leb until m.arrival ≡ leb from m.arrival) xs
    agree [] k = tt
    agree (m ∷ xs) k = (same-later from until m.arrival l k.0, agree xs k.1)

requests-received : (s : Config) (traces : List (List Entry)) (n : ℕ) → Each (IsReceived s) (requests_sent s traces n)
unfolding messages
requests-received s traces n = Each-first (IsReceived s) (requests_sent s traces n) (answers_sent s traces n) (messages-received s traces n)

answers-received : (s : Config) (traces : List (List Entry)) (n : ℕ) → Each (IsReceived s) (answers_sent s traces n)
unfolding messages
answers-received s traces n = Each-last (IsReceived s) (requests_sent s traces n) (answers_sent s traces n) (messages-received s traces n)

-- where nothing arrives at any channel up to a cycle, the channels leave what is in flight as it is
channels-leave : (s : Config) (traces : List (List Entry)) (a b until : ℕ) → b ≤ until → ((channel : ℕ) → channel < s.channels → mail_in s traces a (Channel channel) b until ≡ [])
    → left_by_channels until (flight_of s traces a b) ≡ flight_of s traces a b
channels-leave s traces a b until l none =
    let sent = requests_sent s traces a in
    channels-left s traces a b until l
    ∙ ap (λ x. by_age (x ++ filter (λ (m : Message). leb a m.arrival) (answers_sent s traces b)))
    (later-same b until l sent (none-within s b until sent (requests-received s traces a) fails))
  where
    core-fails : (core : ℕ) (xs : List Message) → Each (λ (m : Message). is_to s (Core core) m ≡ false) xs → Each (λ (m : Message). due_at s (Core core) b until m ≡ false) xs
    core-fails core [] h = tt
    core-fails core (m ∷ xs) h = (ap (λ x. x && (leb b m.arrival && ltb m.arrival until)) h.0, core-fails core xs h.1)

    to-none : (core : ℕ) (xs : List Message) → Each (λ (m : Message). eqb (m.link % 3) 0 ≡ true) xs → Each (λ (m : Message). is_to s (Core core) m ≡ false) xs
    to-none core [] h = tt
    to-none core (m ∷ xs) h = (request-to s core m h.0, to-none core xs h.1)

    fails : (u : MachineUnit) → Exists s u → Each (λ (m : Message). due_at s u b until m ≡ false) (requests_sent s traces a)
    fails (Core core) k = core-fails core (requests_sent s traces a) (to-none core (requests_sent s traces a) (requests-each s traces a))
    fails (Channel channel) k =
        each-fails (due_at s (Channel channel) b until) (requests_sent s traces a)
        (by_age-empty (filter (due_at s (Channel channel) b until) (requests_sent s traces a)) (sym (channel-mail s traces a b until channel) ∙ none channel k))

cores-leave : (s : Config) (traces : List (List Entry)) (a b until : ℕ) → a ≤ until → ((core : ℕ) → core < s.cores → mail_in s traces b (Core core) a until ≡ [])
    → left_by_cores until (flight_of s traces a b) ≡ flight_of s traces a b
cores-leave s traces a b until l none =
    let sent = answers_sent s traces b in
    cores-left s traces a b until l
    ∙ ap (λ x. by_age (filter (λ (m : Message). leb b m.arrival) (requests_sent s traces a) ++ x))
    (later-same a until l sent (none-within s a until sent (answers-received s traces b) fails))
  where
    channel-fails : (channel : ℕ) (xs : List Message) → Each (λ (m : Message). is_to s (Channel channel) m ≡ false) xs → Each (λ (m : Message). due_at s (Channel channel) a until m ≡ false) xs
    channel-fails channel [] h = tt
    channel-fails channel (m ∷ xs) h = (ap (λ x. x && (leb a m.arrival && ltb m.arrival until)) h.0, channel-fails channel xs h.1)

    to-none : (channel : ℕ) (xs : List Message) → Each (λ (m : Message). eqb (m.link % 3) 0 ≡ false) xs → Each (λ (m : Message). is_to s (Channel channel) m ≡ false) xs
    to-none channel [] h = tt
    to-none channel (m ∷ xs) h = (answer-to s channel m h.0, to-none channel xs h.1)

    fails : (u : MachineUnit) → Exists s u → Each (λ (m : Message). due_at s u a until m ≡ false) (answers_sent s traces b)
    fails (Channel channel) k = channel-fails channel (answers_sent s traces b) (to-none channel (answers_sent s traces b) (answers-each s traces b))
    fails (Core core) k =
        each-fails (due_at s (Core core) a until) (answers_sent s traces b)
        (by_age-empty (filter (due_at s (Core core) a until) (answers_sent s traces b)) (sym (core-mail s traces b a until core) ∙ none core k))

-- what units send that are not touched
abbrev nothing : ℕ → List Message
nothing place = []

nothing-sent : (n : ℕ) → flat_map nothing (below n) ≡ []
nothing-sent zero = refl
nothing-sent (suc n) = flat_map_below_more nothing n ∙ ap (λ x. x ++ []) (nothing-sent n)

lowered-nothing : (s : Config) (u : MachineUnit) (at wake : ℕ) (sent : List Message) → sent ≡ [] → IsLowered s u at wake at wake sent
lowered-nothing s u at wake sent e =
    subst (λ x. IsLowered s u at wake at wake x) (sym e)
    (record {
      stays = refl;
      less = omega arith;
      arrivals = All-from_recursion (λ (m : Message). is_to s u m ≡ true → wake ≤ m.arrival) [] tt;
      no_further = λ cycle l all. l;
    })

-- a turn of the channels in which none is touched
pub channels-idle : (s : Config) (traces : List (List Entry)) (a b until : ℕ) → ChannelsIdle s traces a b until
channels-idle s traces a b until at wake flight l t wakes_later h =
    let none : (channel : ℕ) → channel < s.channels → mail_in s traces a (Channel channel) b until ≡ [] =
    λ channel k. let w = h.wait (Channel channel) k in none-part s traces a (at (Channel channel)) (wake (Channel channel)) b until (Channel channel) w.behind (wakes_later channel k) w.none in
    let same : left_by_channels until flight ≡ flight = ap (left_by_channels until) h.holds ∙ channels-leave s traces a b until l none ∙ sym h.holds in
    channels-turn s traces a b until at wake at wake flight flight l t h
    (record {
      sent = nothing;
      go = λ channel k. inl (record { wakes_later = wakes_later channel k; same_at = refl; same_wake = refl; sends_none = refl });
      stay = λ core k. lowered-nothing s (Core core) (at (Core core)) (wake (Core core)) (flat_map nothing (below s.channels)) (nothing-sent s.channels);
      flight_is = sym same ∙ ap (fold insert_by_age (left_by_channels until flight)) (sym (nothing-sent s.channels));
    })

pub cores-idle : (s : Config) (traces : List (List Entry)) (a b until : ℕ) → CoresIdle s traces a b until
cores-idle s traces a b until at wake flight l t wakes_later h =
    let none : (core : ℕ) → core < s.cores → mail_in s traces b (Core core) a until ≡ [] =
    λ core k. let w = h.wait (Core core) k in none-part s traces b (at (Core core)) (wake (Core core)) a until (Core core) w.behind (wakes_later core k) w.none in
    let same : left_by_cores until flight ≡ flight = ap (left_by_cores until) h.holds ∙ cores-leave s traces a b until l none ∙ sym h.holds in
    cores-turn s traces a b until at wake at wake flight flight l t h
    (record {
      sent = nothing;
      go = λ core k. inl (record { wakes_later = wakes_later core k; same_at = refl; same_wake = refl; sends_none = refl });
      stay = λ channel k. lowered-nothing s (Channel channel) (at (Channel channel)) (wake (Channel channel)) (flat_map nothing (below s.cores)) (nothing-sent s.cores);
      flight_is = sym same ∙ ap (fold insert_by_age (left_by_cores until flight)) (sym (nothing-sent s.cores));
    })

-- cores and channels go on by a cycle at a time, and none is touched
steps-on : (s : Config) (traces : List (List Entry)) (now until : ℕ) (at wake : MachineUnit → ℕ) (flight : List Message) → ((unit : MachineUnit) → Exists s unit → until ≤ wake unit)
    → IsInTurns s traces now now at wake flight → (k : ℕ) → now + k ≤ until → IsInTurns s traces (now + k) (now + k) at wake flight
steps-on s traces now until at wake flight wakes_later h zero l = let e : now ≡ now + 0 = omega arith in subst (λ n. IsInTurns s traces n n at wake flight) e h
steps-on s traces now until at wake flight wakes_later h (suc k) l =
    let n = now + k in
    let before = steps-on s traces now until at wake flight wakes_later h k (omega arith) in
    let soon : (unit : MachineUnit) → Exists s unit → n + 1 ≤ wake unit = λ unit e. let w = wakes_later unit e in omega arith in
    let e : n + 1 ≡ now + suc k = omega arith in
    let one : RequestsTravelFor s (n + 1 - n) = let p = request-positive s in requests-shorter s _ (n + 1 - n) (omega arith) (request-meets s) in
    subst (λ i. IsInTurns s traces i i at wake flight) e
    (cores-idle s traces n (n + 1) (n + 1) at wake flight (omega arith) (answers-none s (n + 1 - (n + 1)) (omega arith)) (λ core e. soon (Core core) e)
    (channels-idle s traces n n (n + 1) at wake flight (omega arith) one (λ channel e. soon (Channel channel) e) before))

jump-from : (s : Config) (traces : List (List Entry)) (now until : ℕ) (at wake : MachineUnit → ℕ) (flight : List Message) → now ≤ until → ((unit : MachineUnit) → Exists s unit → until ≤ wake unit)
    → IsInTurns s traces now now at wake flight → IsInTurns s traces until until at wake flight
jump-from s traces now until at wake flight l wakes_later h =
    let e : now + (until - now) ≡ until = omega arith in
    subst (λ n. IsInTurns s traces n n at wake flight) e (steps-on s traces now until at wake flight wakes_later h (until - now) (omega arith))

pub turns-jump : (s : Config) (traces : List (List Entry)) (a b until : ℕ) → TurnsJump s traces a b until
turns-jump s traces a b until at wake flight l k wakes_later h = go (cases_lt a b)
  where
    go : (a < b) ⊎ (b ≤ a) → IsInTurns s traces until until at wake flight
    go (inl m) =
        jump-from s traces b until at wake flight k wakes_later
        (cores-idle s traces a b b at wake flight (omega arith) (answers-none s (b - b) (omega arith)) (λ core e. let w = wakes_later (Core core) e in omega arith) h)
    go (inr m) =
        jump-from s traces a until at wake flight l wakes_later
        (channels-idle s traces a b a at wake flight m (requests-none s (a - a) (omega arith)) (λ channel e. let w = wakes_later (Channel channel) e in omega arith) h)

-- what a message does that goes to a unit of the kind whose turn it is: it stays just where it arrives later
stays-one : (has mine late within : Bool) → mine ≡ true → late ≡ true → (has ≡ false → (late && within) ≡ false) → not (has && (late && within)) ≡ not (mine && within)
stays-one true true true within e f h = refl
stays-one false true true false e f h = refl
stays-one false true true true e f h = let bad : true ≡ false = h refl in cc
stays-one has false late within e f h = cc
stays-one has true false within e f h = cc

-- another stays
stays-other : (has mine w within : Bool) → has ≡ false → mine ≡ false → not (has && w) ≡ not (mine && within)
stays-other false false w within e f = refl
stays-other true mine w within e f = cc
stays-other false true w within e f = cc

-- what stays is due at none of some units
abbrev is_kept : Config → List MachineUnit → ℕ → ℕ → Message → Bool
is_kept s units from until m = not (list_any (λ u. is_due s.channels u from until m) units)

kept-is : (s : Config) (units : List MachineUnit) (from until : ℕ) (m : Message) → is_kept s units from until m ≡ not (has_unit units (receiver s m.link) && (leb from m.arrival && ltb m.arrival until))
kept-is s units from until m = ap not (any-and (λ u. is_unit (receiver s m.link) u) (leb from m.arrival && ltb m.arrival until) units)

kept-ones : (s : Config) (units : List MachineUnit) (from until : ℕ) (mine : Message → Bool) (ms : List Message) → Each (λ (m : Message). mine m ≡ true) ms → Each (IsReceived s) ms
    → ((u : MachineUnit) → Exists s u → has_unit units u ≡ false → Each (λ (m : Message). due_at s u from until m ≡ false) ms)
    → Each (λ (m : Message). is_kept s units from until m ≡ not (mine m && ltb m.arrival until)) (filter (λ m. leb from m.arrival) ms)
kept-ones s units from until mine [] h r k = tt
kept-ones s units from until mine (m ∷ ms) h r k =
    let rest = kept-ones s units from until mine ms h.1 r.1 (λ u e f. (k u e f).1) in
    cond_both (leb from m.arrival) (m ∷ filter (λ x. leb from x.arrival) ms) (filter (λ x. leb from x.arrival) ms) (Each (λ (x : Message). is_kept s units from until x ≡ not (mine x && ltb x.arrival until)))
    (λ late. (
      kept-is s units from until m
          ∙ stays-one (has_unit units (receiver s m.link)) (mine m) (leb from m.arrival) (ltb m.arrival until) h.0 late
          (λ f. ap (λ b. b && (leb from m.arrival && ltb m.arrival until)) (sym (is_unit-own (receiver s m.link))) ∙ (k (receiver s m.link) r.0 f).0),
      rest,
    ))
    (λ late. rest)

kept-others : (s : Config) (units : List MachineUnit) (from until : ℕ) (mine p : Message → Bool) (ms : List Message) → Each (λ (m : Message). mine m ≡ false) ms
    → Each (λ (m : Message). has_unit units (receiver s m.link) ≡ false) ms
    → Each (λ (m : Message). is_kept s units from until m ≡ not (mine m && ltb m.arrival until)) (filter p ms)
kept-others s units from until mine p [] h r = tt
kept-others s units from until mine p (m ∷ ms) h r =
    let rest = kept-others s units from until mine p ms h.1 r.1 in
    cond_both (p m) (m ∷ filter p ms) (filter p ms) (Each (λ (x : Message). is_kept s units from until x ≡ not (mine x && ltb x.arrival until)))
    (λ e. (kept-is s units from until m ∙ stays-other (has_unit units (receiver s m.link)) (mine m) (leb from m.arrival && ltb m.arrival until) (ltb m.arrival until) r.0 h.0, rest))
    (λ e. rest)

request-receiver : (s : Config) (m : Message) → is_request m ≡ true → receiver s m.link ≡ Channel (m.link / 3 % s.channels)
request-receiver s m h = cond-true (eqb (m.link % 3) 0) (Channel (m.link / 3 % s.channels)) (Core (m.link / 3 / s.channels)) h

answer-receiver : (s : Config) (m : Message) → is_request m ≡ false → receiver s m.link ≡ Core (m.link / 3 / s.channels)
answer-receiver s m h = cond-false (eqb (m.link % 3) 0) (Channel (m.link / 3 % s.channels)) (Core (m.link / 3 / s.channels)) h

pub channels-taken : (s : Config) (traces : List (List Entry)) (a b until : ℕ) → ChannelsTakeTheirs s traces a b until
channels-taken s traces a b until units l no_core none =
    let xs = requests_sent s traces a in
    let ys = answers_sent s traces b in
    let late = λ (m : Message). leb b m.arrival in
    let soon = λ (m : Message). leb a m.arrival in
    let P = λ (m : Message). is_kept s units b until m ≡ not (is_request m && ltb m.arrival until) in
    left-all s.channels b until units (flight_of s traces a b)
    ∙ filter-agree (is_kept s units b until) (λ m. not (is_request m && ltb m.arrival until)) (flight_of s traces a b)
    (Each-by_age P (filter late xs ++ filter soon ys)
    (Each-append P (filter late xs) (filter soon ys)
    (kept-ones s units b until is_request xs (requests-each s traces a) (requests-received s traces a) fails)
    (kept-others s units b until is_request soon ys (answers-each s traces b)
    (Each-weaker (λ (m : Message). is_request m ≡ false) (λ (m : Message). has_unit units (receiver s m.link) ≡ false)
    (λ m e. ap (has_unit units) (answer-receiver s m e) ∙ no_core (m.link / 3 / s.channels)) ys (answers-each s traces b)))))
  where
    fails : (u : MachineUnit) → Exists s u → has_unit units u ≡ false → Each (λ (m : Message). due_at s u b until m ≡ false) (requests_sent s traces a)
    fails (Core core) k f =
        Each-weaker (λ (m : Message). is_request m ≡ true) (λ (m : Message). due_at s (Core core) b until m ≡ false)
        (λ m e. ap (λ x. x && (leb b m.arrival && ltb m.arrival until)) (request-to s core m e)) (requests_sent s traces a) (requests-each s traces a)
    fails (Channel channel) k f =
        each-fails (due_at s (Channel channel) b until) (requests_sent s traces a)
        (by_age-empty (filter (due_at s (Channel channel) b until) (requests_sent s traces a)) (sym (channel-mail s traces a b until channel) ∙ none channel k f))

pub cores-taken : (s : Config) (traces : List (List Entry)) (a b until : ℕ) → CoresTakeTheirs s traces a b until
cores-taken s traces a b until units l no_channel none =
    let xs = requests_sent s traces a in
    let ys = answers_sent s traces b in
    let late = λ (m : Message). leb b m.arrival in
    let soon = λ (m : Message). leb a m.arrival in
    let mine = λ (m : Message). not (is_request m) in
    let P = λ (m : Message). is_kept s units a until m ≡ not (mine m && ltb m.arrival until) in
    left-all s.channels a until units (flight_of s traces a b)
    ∙ filter-agree (is_kept s units a until) (λ m. not (mine m && ltb m.arrival until)) (flight_of s traces a b)
    (Each-by_age P (filter late xs ++ filter soon ys)
    (Each-append P (filter late xs) (filter soon ys)
    (kept-others s units a until mine late xs
    (Each-weaker (λ (m : Message). is_request m ≡ true) (λ (m : Message). mine m ≡ false) (λ m e. ap not e) xs (requests-each s traces a))
    (Each-weaker (λ (m : Message). is_request m ≡ true) (λ (m : Message). has_unit units (receiver s m.link) ≡ false)
    (λ m e. ap (has_unit units) (request-receiver s m e) ∙ no_channel (m.link / 3 % s.channels)) xs (requests-each s traces a)))
    (kept-ones s units a until mine ys
    (Each-weaker (λ (m : Message). is_request m ≡ false) (λ (m : Message). mine m ≡ true) (λ m e. ap not e) ys (answers-each s traces b))
    (answers-received s traces b) fails)))
  where
    fails : (u : MachineUnit) → Exists s u → has_unit units u ≡ false → Each (λ (m : Message). due_at s u a until m ≡ false) (answers_sent s traces b)
    fails (Channel channel) k f =
        Each-weaker (λ (m : Message). is_request m ≡ false) (λ (m : Message). due_at s (Channel channel) a until m ≡ false)
        (λ m e. ap (λ x. x && (leb a m.arrival && ltb m.arrival until)) (answer-to s channel m e)) (answers_sent s traces b) (answers-each s traces b)
    fails (Core core) k f =
        each-fails (due_at s (Core core) a until) (answers_sent s traces b)
        (by_age-empty (filter (due_at s (Core core) a until) (answers_sent s traces b)) (sym (core-mail s traces b a until core) ∙ none core k f))

-- what is due later is kept
kept-later : (has i low within g w : Bool) → (g ≡ true → within ≡ false) → (i && (g && w)) ≡ (not (has && (low && within)) && (i && (g && w)))
kept-later has false low within g w h = none (not (has && (low && within)))
  where
    none : (x : Bool) → false ≡ (x && false)
    none true = refl
    none false = refl
kept-later has true low within false w h = none (not (has && (low && within)))
  where
    none : (x : Bool) → false ≡ (x && false)
    none true = refl
    none false = refl
kept-later false true low within true w h = refl
kept-later true true false within true w h = refl
kept-later true true true false true w h = refl
kept-later true true true true true w h = let bad : true ≡ false = h refl in cc

pub later-stays : (s : Config) (from until : ℕ) → LaterStays s from until
later-stays s from until units unit word ms =
    let due = is_due s.channels unit until word in
    ap (filter due) (left-all s.channels from until units ms)
    ∙ sym (filter-both due (is_kept s units from until) due
    (λ m. kept-later (has_unit units (receiver s m.link)) (is_unit (receiver s m.link) unit) (leb from m.arrival) (ltb m.arrival until) (leb until m.arrival) (ltb m.arrival word)
    (λ e. le-ltb m.arrival until (leb-true until m.arrival e))
    ∙ ap (λ b. b && due m) (sym (kept-is s units from until m))) ms)
