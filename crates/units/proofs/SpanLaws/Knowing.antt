-- What arrives at one kind of units is known from the other kind alone.
use Rattle.std.proofs.Common.{◌≡◌, ℕ, ◌+◌, ◌-◌, ◌<◌, ◌≤◌, Bool, false, ltb, leb, ◌&&◌, List, sym, ap, ◌∙◌, ◌⊎◌, inl, inr, arith}
use Rattle.std.specs.Prelude.{filter}
use Rattle.std.proofs.lemmas.Bool.{cases_lt, le-ltb, and_right}
use Rattle.sim_base.specs.declared.config.Config.{Config}
use Rattle.sim_base.specs.History.{messages, messages_of_core, messages_of_channel, is_to, inbox, by_age}
use Rattle.sim_base.specs.Machine.{run}
use Rattle.sim_base.specs.declared.message.Message.{Message}
use Rattle.sim_base.specs.declared.message.Unit.TheVariants.{Core, Channel}
use Rattle.sim_base.specs.declared.trace.Entry.{Entry}
use Rattle.sim_base.proofs.Arrived.{arrived}
use Rattle.sim_base.proofs.Ordered.{filter-by_age}
use Rattle.sim_base.proofs.Kept.{filter-filter, arrived-added, arrived-flat_map}
use Rattle.units.specs.SpanLaws.Sent.{requests_sent, answers_sent, RequestsTravelFor, AnswersTakeFor}
use Rattle.units.specs.SpanLaws.Known.{RequestsAreKnown, AnswersAreKnown}
use Rattle.sim_base.proofs.Arrived.{filter-arrived}
use Rattle.units.proofs.SpanLaws.Later.{GrowsLate}
use Rattle.units.proofs.SpanLaws.Late.{core-late, channel-late}
use Rattle.units.proofs.SpanLaws.Requesting.{to-channel, to-core}

grown-arrived : (u : ℕ) (old all : List Message) → GrowsLate u old all → arrived all u ≡ arrived old u
grown-arrived u old all g = ap (λ x. arrived x u) g.is_more ∙ arrived-added u old g.more g.late

requests-kept : (s : Config) (traces : List (List Entry)) (from least u : ℕ) → RequestsTravelFor s least → u ≤ from + least → (m : ℕ)
    → arrived (requests_sent s traces (from + m)) u ≡ arrived (requests_sent s traces from) u
requests-kept s traces from least u t b m =
    arrived-flat_map u (messages_of_core s traces (run s traces (from + m))) (messages_of_core s traces (run s traces from)) s.cores
    (λ core l. grown-arrived u (messages_of_core s traces (run s traces from) core) (messages_of_core s traces (run s traces (from + m)) core) (core-late s traces from least u core l t b m))

answers-kept : (s : Config) (traces : List (List Entry)) (from least u : ℕ) → AnswersTakeFor s least → u ≤ from + least → (m : ℕ)
    → arrived (answers_sent s traces (from + m)) u ≡ arrived (answers_sent s traces from) u
answers-kept s traces from least u t b m =
    arrived-flat_map u (messages_of_channel s (run s traces (from + m))) (messages_of_channel s (run s traces from)) s.channels
    (λ channel l. grown-arrived u (messages_of_channel s (run s traces from) channel) (messages_of_channel s (run s traces (from + m)) channel) (channel-late s traces from least u channel l t b m))

-- what is kept from each cycle on is the same at any two
same-arrived : (sent : ℕ → List Message) (least u : ℕ) → ((from m : ℕ) → u ≤ from + least → arrived (sent (from + m)) u ≡ arrived (sent from) u)
    → (n now : ℕ) → u ≤ n + least → u ≤ now + least → arrived (sent n) u ≡ arrived (sent now) u
same-arrived sent least u kept n now a b = go (cases_lt n now)
  where
    go : (n < now) ⊎ (now ≤ n) → arrived (sent n) u ≡ arrived (sent now) u
    go (inl l) = let e : n + (now - n) ≡ now = omega arith in sym (ap (λ i. arrived (sent i) u) (sym e) ∙ kept n (now - n) a)
    go (inr l) = let e : now + (n - now) ≡ n = omega arith in ap (λ i. arrived (sent i) u) (sym e) ∙ kept now (n - now) b

-- what can be seen of messages that arrived
seen : (q to : Message → Bool) (u : ℕ) → ((m : Message) → u ≤ m.arrival → q m ≡ false) → (xs ys : List Message) → arrived xs u ≡ arrived ys u
    → filter q (filter to xs) ≡ filter q (filter to ys)
seen q to u late xs ys h =
    sym (filter-arrived q u late (filter to xs))
    ∙ ap (filter q) (filter-filter (λ (m : Message). ltb m.arrival u) to xs ∙ ap (filter to) h ∙ filter-filter to (λ (m : Message). ltb m.arrival u) ys)
    ∙ filter-arrived q u late (filter to ys)

requests-seen : (s : Config) (traces : List (List Entry)) (now until least n channel : ℕ) → RequestsTravelFor s least → until ≤ now + least → until ≤ n + least
    → (q : Message → Bool) → ((m : Message) → until ≤ m.arrival → q m ≡ false)
    → filter q (inbox s traces (run s traces n) (Channel channel)) ≡ by_age (filter q (filter (is_to s (Channel channel)) (requests_sent s traces now)))
unfolding inbox
requests-seen s traces now until least n channel t a b q late =
    let to = is_to s (Channel channel) in
    filter-by_age q (filter to (messages s traces (run s traces n)))
    ∙ ap (λ x. by_age (filter q x)) (to-channel s traces n channel)
    ∙ ap by_age (seen q to until late (requests_sent s traces n) (requests_sent s traces now)
    (same-arrived (requests_sent s traces) least until (λ from m l. requests-kept s traces from least until t l m) n now b a))

answers-seen : (s : Config) (traces : List (List Entry)) (now until least n core : ℕ) → AnswersTakeFor s least → until ≤ now + least → until ≤ n + least
    → (q : Message → Bool) → ((m : Message) → until ≤ m.arrival → q m ≡ false)
    → filter q (inbox s traces (run s traces n) (Core core)) ≡ by_age (filter q (filter (is_to s (Core core)) (answers_sent s traces now)))
unfolding inbox
answers-seen s traces now until least n core t a b q late =
    let to = is_to s (Core core) in
    filter-by_age q (filter to (messages s traces (run s traces n)))
    ∙ ap (λ x. by_age (filter q x)) (to-core s traces n core)
    ∙ ap by_age (seen q to until late (answers_sent s traces n) (answers_sent s traces now)
    (same-arrived (answers_sent s traces) least until (λ from m l. answers-kept s traces from least until t l m) n now b a))

before-late : (until : ℕ) (m : Message) → until ≤ m.arrival → ltb m.arrival until ≡ false
before-late until m h = le-ltb m.arrival until h

within-late : (from until : ℕ) (m : Message) → until ≤ m.arrival → (leb from m.arrival && ltb m.arrival until) ≡ false
within-late from until m h = and_right (leb from m.arrival) _ (le-ltb m.arrival until h)

pub requests-known : (s : Config) (traces : List (List Entry)) (now until : ℕ) → RequestsAreKnown s traces now until
requests-known s traces now until least n channel t a b = (
  requests-seen s traces now until least n channel t a b (λ (m : Message). ltb m.arrival until) (before-late until),
  λ from. requests-seen s traces now until least n channel t a b (λ (m : Message). leb from m.arrival && ltb m.arrival until) (within-late from until),
)

pub answers-known : (s : Config) (traces : List (List Entry)) (now until : ℕ) → AnswersAreKnown s traces now until
answers-known s traces now until least n core t a b = (
  answers-seen s traces now until least n core t a b (λ (m : Message). ltb m.arrival until) (before-late until),
  λ from. answers-seen s traces now until least n core t a b (λ (m : Message). leb from m.arrival && ltb m.arrival until) (within-late from until),
)
