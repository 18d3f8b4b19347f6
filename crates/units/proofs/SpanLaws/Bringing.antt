-- What is in flight brings to a unit, of either kind.
use Rattle.std.proofs.Common.{◌≡◌, ℕ, ◌-◌, ◌≤◌, Bool, true, false, ltb, leb, ◌&&◌, List, [], ◌++◌, refl, sym, ap, ap₂, ◌∙◌, arith}
use Rattle.std.specs.Prelude.{filter}
use Rattle.std.proofs.lemmas.Bool.Decides.{nat_tests}
use Rattle.std.proofs.lemmas.List.Elements.{filter-append}
use Rattle.sim_base.specs.declared.config.Config.{Config}
use Rattle.sim_base.specs.declared.message.Message.{Message}
use Rattle.sim_base.specs.declared.message.Unit.{Unit as MachineUnit}
use Rattle.sim_base.specs.declared.message.Unit.TheVariants.{Core, Channel}
use Rattle.sim_base.specs.declared.trace.Entry.{Entry}
use Rattle.sim_base.specs.History.{is_to, by_age}
use Rattle.sim_base.proofs.Arrived.{by_age-puts}
use Rattle.sim_base.proofs.Each.{Each-all, Each-filter}
use Rattle.sim_base.proofs.Ordered.{Each-weaker, filter-by_age}
use Rattle.sim_base.proofs.Lists.{filter-both, filter-none}
use Rattle.links.specs.InFlight.{is_due}
use Rattle.units.specs.SpanLaws.Mail.{mail_before, mail_in}
use Rattle.units.specs.SpanLaws.FlightInTurns.{is_request, flight_of}
use Rattle.units.specs.SpanLaws.Sent.{requests_sent, answers_sent, RequestsTravelFor, AnswersTakeFor}
use Rattle.units.specs.SpanLaws.Turns.{own_cycle, other_cycle}
use Rattle.units.proofs.SpanLaws.Requesting.{requests-each, answers-each, request-to, answer-to}
use Rattle.units.proofs.SpanLaws.Knowing.{requests-known, answers-known}
use Rattle.units.proofs.SpanLaws.Taking.{due_at, channel-due, core-due}

-- what is due at a unit from where its kind stands is what arrives at it of what was sent so far
pub unit-due : (s : Config) (traces : List (List Entry)) (a b from until : ℕ) (u : MachineUnit) → own_cycle a b u ≤ from
    → filter (is_due s.channels u from until) (flight_of s traces a b) ≡ mail_in s traces (other_cycle a b u) u from until
unit-due s traces a b from until (Core core) l = core-due s traces a b from until core l
unit-due s traces a b from until (Channel channel) l = channel-due s traces a b from until channel l

overdue : (now arrival : ℕ) (to : Bool) → (leb now arrival && (to && (leb 0 arrival && ltb arrival now))) ≡ false
overdue now arrival true = grind (arith, nat_tests)
overdue now arrival false = grind (arith, nat_tests)

-- what has not arrived before a cycle is not due before it
none-overdue : (s : Config) (u : MachineUnit) (now : ℕ) (ms : List Message) → filter (due_at s u 0 now) (filter (λ m. leb now m.arrival) ms) ≡ []
none-overdue s u now ms =
    let late = λ (m : Message). leb now m.arrival in
    let both = λ (m : Message). late m && due_at s u 0 now m in
    sym (filter-both (due_at s u 0 now) late both (λ m. refl) ms)
    ∙ filter-none both ms (Each-all (λ (m : Message). both m ≡ false) (λ m. overdue now m.arrival (is_to s u m)) ms)

-- nothing is due before it
pub unit-overdue : (s : Config) (traces : List (List Entry)) (a b : ℕ) (u : MachineUnit) → filter (is_due s.channels u 0 (own_cycle a b u)) (flight_of s traces a b) ≡ []
unit-overdue s traces a b (Channel channel) =
    let due = due_at s (Channel channel) 0 b in
    let late = λ (m : Message). leb a m.arrival in
    let xs = filter (λ (m : Message). leb b m.arrival) (requests_sent s traces a) in
    let ys = filter late (answers_sent s traces b) in
    let none : filter due ys ≡ [] =
    filter-none due ys
    (Each-filter (λ (m : Message). due m ≡ false) late (answers_sent s traces b)
    (Each-weaker (λ (m : Message). is_request m ≡ false) (λ (m : Message). due m ≡ false) (λ m e. ap (λ x. x && (leb 0 m.arrival && ltb m.arrival b)) (answer-to s channel m e)) (answers_sent s traces b) (answers-each s traces b))) in
    filter-by_age due (xs ++ ys)
    ∙ ap by_age (filter-append due xs ys ∙ ap₂ (λ x y. x ++ y) (none-overdue s (Channel channel) b (requests_sent s traces a)) none)
    ∙ by_age-puts []
unit-overdue s traces a b (Core core) =
    let due = due_at s (Core core) 0 a in
    let late = λ (m : Message). leb b m.arrival in
    let xs = filter late (requests_sent s traces a) in
    let ys = filter (λ (m : Message). leb a m.arrival) (answers_sent s traces b) in
    let none : filter due xs ≡ [] =
    filter-none due xs
    (Each-filter (λ (m : Message). due m ≡ false) late (requests_sent s traces a)
    (Each-weaker (λ (m : Message). is_request m ≡ true) (λ (m : Message). due m ≡ false) (λ m e. ap (λ x. x && (leb 0 m.arrival && ltb m.arrival a)) (request-to s core m e)) (requests_sent s traces a) (requests-each s traces a))) in
    filter-by_age due (xs ++ ys)
    ∙ ap by_age (filter-append due xs ys ∙ ap₂ (λ x y. x ++ y) none (none-overdue s (Core core) a (answers_sent s traces b)))
    ∙ by_age-puts []

-- what arrives at a channel before a cycle, not further beyond the cores than any request travels, was sent before the
-- cycle where they stand
pub channel-known : (s : Config) (traces : List (List Entry)) (a until channel : ℕ) → RequestsTravelFor s (until - a)
    → mail_before s traces until (Channel channel) until ≡ mail_before s traces a (Channel channel) until
channel-known s traces a until channel t =
    (requests-known s traces a until (until - a) until channel t (omega arith) (omega arith)).0
    ∙ sym ((requests-known s traces a until (until - a) a channel t (omega arith) (omega arith)).0)

-- what arrives at a core before a cycle, not further beyond the channels than any credit or reply takes, was sent
-- before the cycle where they stand
pub core-known : (s : Config) (traces : List (List Entry)) (b until core : ℕ) → AnswersTakeFor s (until - b)
    → mail_before s traces until (Core core) until ≡ mail_before s traces b (Core core) until
core-known s traces b until core t =
    (answers-known s traces b until (until - b) until core t (omega arith) (omega arith)).0
    ∙ sym ((answers-known s traces b until (until - b) b core t (omega arith) (omega arith)).0)
