-- Cores send requests, which go to channels, and channels send the other messages, which go to cores.
use Rattle.std.proofs.Common.{◌≡◌, ℕ, ◌<◌, ◌/◌, ◌%◌, Bool, true, false, cond, eqb, List, [], ◌++◌, refl, sym, ap, ◌∙◌}
use Rattle.std.specs.Prelude.{filter}
use Rattle.std.specs.List.{AllByRecursion as Each}
use Rattle.std.proofs.lemmas.Bool.{cond-true, cond-false}
use Rattle.std.proofs.lemmas.List.{append-nil}
use Rattle.std.proofs.lemmas.List.Elements.{filter-append}
use Rattle.sim_base.specs.declared.config.Config.{Config}
use Rattle.sim_base.specs.History.{is_unit, is_to, messages, messages_of_core, messages_of_channel}
use Rattle.sim_base.specs.Machine.{run}
use Rattle.sim_base.specs.Sends.{sender}
use Rattle.sim_base.specs.declared.message.Message.{Message}
use Rattle.sim_base.specs.declared.message.Unit.TheVariants.{Core, Channel}
use Rattle.sim_base.specs.declared.trace.Entry.{Entry}
use Rattle.sim_base.proofs.Each.{Each-flat_map_below}
use Rattle.sim_base.proofs.Grows.{core_channel_differ, of_core-by, of_channel-by}
use Rattle.sim_base.proofs.Ordered.{Each-weaker}
use Rattle.sim_base.proofs.Lists.{filter-none}
use Rattle.units.specs.SpanLaws.FlightInTurns.{is_request}
use Rattle.units.specs.SpanLaws.Sent.{requests_sent, answers_sent}

by_core : (b : Bool) (channel core c : ℕ) → cond b (Core core) (Channel channel) ≡ Core c → b ≡ true
by_core true channel core c e = refl
by_core false channel core c e = absurd (core_channel_differ c channel (sym e))

by_channel : (b : Bool) (channel core k : ℕ) → cond b (Core core) (Channel channel) ≡ Channel k → b ≡ false
by_channel false channel core k e = refl
by_channel true channel core k e = absurd (core_channel_differ core k e)

sent_by_core : (s : Config) (m : Message) (c : ℕ) → sender s m.link ≡ Core c → is_request m ≡ true
unfolding sender
sent_by_core s m c h = by_core (eqb (m.link % 3) 0) (m.link / 3 % s.channels) (m.link / 3 / s.channels) c h

sent_by_channel : (s : Config) (m : Message) (k : ℕ) → sender s m.link ≡ Channel k → is_request m ≡ false
unfolding sender
sent_by_channel s m k h = by_channel (eqb (m.link % 3) 0) (m.link / 3 % s.channels) (m.link / 3 / s.channels) k h

pub core-requests : (s : Config) (traces : List (List Entry)) (n core : ℕ) → Each (λ (m : Message). is_request m ≡ true) (messages_of_core s traces (run s traces n) core)
core-requests s traces n core =
    Each-weaker (λ (m : Message). sender s m.link ≡ Core core) (λ (m : Message). is_request m ≡ true) (λ m h. sent_by_core s m core h)
    (messages_of_core s traces (run s traces n) core) (of_core-by s traces (run s traces n) core)

pub channel-answers : (s : Config) (traces : List (List Entry)) (n channel : ℕ) → channel < s.channels
    → Each (λ (m : Message). is_request m ≡ false) (messages_of_channel s (run s traces n) channel)
channel-answers s traces n channel l =
    Each-weaker (λ (m : Message). sender s m.link ≡ Channel channel) (λ (m : Message). is_request m ≡ false) (λ m h. sent_by_channel s m channel h)
    (messages_of_channel s (run s traces n) channel) (of_channel-by s (run s traces n) channel l)

pub requests-each : (s : Config) (traces : List (List Entry)) (n : ℕ) → Each (λ (m : Message). is_request m ≡ true) (requests_sent s traces n)
requests-each s traces n = Each-flat_map_below (λ (m : Message). is_request m ≡ true) (messages_of_core s traces (run s traces n)) s.cores (λ i l. core-requests s traces n i)

pub answers-each : (s : Config) (traces : List (List Entry)) (n : ℕ) → Each (λ (m : Message). is_request m ≡ false) (answers_sent s traces n)
answers-each s traces n = Each-flat_map_below (λ (m : Message). is_request m ≡ false) (messages_of_channel s (run s traces n)) s.channels (λ i l. channel-answers s traces n i l)

pub request-to : (s : Config) (core : ℕ) (m : Message) → is_request m ≡ true → is_to s (Core core) m ≡ false
request-to s core m h = ap (λ r. is_unit r (Core core)) (cond-true (eqb (m.link % 3) 0) (Channel (m.link / 3 % s.channels)) (Core (m.link / 3 / s.channels)) h)

pub answer-to : (s : Config) (channel : ℕ) (m : Message) → is_request m ≡ false → is_to s (Channel channel) m ≡ false
answer-to s channel m h = ap (λ r. is_unit r (Channel channel)) (cond-false (eqb (m.link % 3) 0) (Channel (m.link / 3 % s.channels)) (Core (m.link / 3 / s.channels)) h)

-- what goes to a channel was sent by cores
pub to-channel : (s : Config) (traces : List (List Entry)) (n channel : ℕ)
    → filter (is_to s (Channel channel)) (messages s traces (run s traces n)) ≡ filter (is_to s (Channel channel)) (requests_sent s traces n)
unfolding messages
to-channel s traces n channel =
    let to = is_to s (Channel channel) in
    let none : filter to (answers_sent s traces n) ≡ [] =
    filter-none to (answers_sent s traces n) (Each-weaker (λ (m : Message). is_request m ≡ false) (λ (m : Message). to m ≡ false) (λ m h. answer-to s channel m h) (answers_sent s traces n) (answers-each s traces n)) in
    filter-append to (requests_sent s traces n) (answers_sent s traces n) ∙ ap (λ x. filter to (requests_sent s traces n) ++ x) none ∙ append-nil _

-- what goes to a core was sent by channels
pub to-core : (s : Config) (traces : List (List Entry)) (n core : ℕ)
    → filter (is_to s (Core core)) (messages s traces (run s traces n)) ≡ filter (is_to s (Core core)) (answers_sent s traces n)
unfolding messages
to-core s traces n core =
    let to = is_to s (Core core) in
    let none : filter to (requests_sent s traces n) ≡ [] =
    filter-none to (requests_sent s traces n) (Each-weaker (λ (m : Message). is_request m ≡ true) (λ (m : Message). to m ≡ false) (λ m h. request-to s core m h) (requests_sent s traces n) (requests-each s traces n)) in
    filter-append to (requests_sent s traces n) (answers_sent s traces n) ∙ ap (λ x. x ++ filter to (answers_sent s traces n)) none
