-- All shards of a machine, from one phase to the next.
use Rattle.std.proofs.Common.{◌≡◌, ℕ, zero, suc, ◌+◌, ◌-◌, ◌^◌, ◌<◌, ◌≤◌, Bool, true, not, ltb, List, [], ◌∷◌, ◌++◌, length, get_or, ◌⊎◌, inl, inr, refl, sym, ap, ap₂, subst, ◌∙◌, arith}
use Rattle.std.specs.Prelude.{filter, flat_map, All}
use Rattle.std.specs.List.{AllByRecursion as Each, range_with_len}
use Rattle.std.specs.declared.alloc.Global.{Global}
use Rattle.std.specs.declared.boxed.Box.{Box}
use Rattle.std.specs.declared.vec.Vec.{Vec}
use Rattle.std.proofs.lemmas.Bool.{cases_lt}
use Rattle.std.proofs.lemmas.Bool.Decides.{nat_tests}
use Rattle.std.proofs.lemmas.List.FromFn.{length-map-range_with_len}
use Rattle.std.proofs.lemmas.List.Elements.{All-from_recursion, recursion_from_All, filter-append}
use Rattle.sim_base.specs.declared.config.Config.{Config}
use Rattle.sim_base.specs.declared.message.Message.{Message}
use Rattle.sim_base.specs.History.{below}
use Rattle.sim_base.specs.Locality.{TravelsFor}
use Rattle.sim_base.proofs.Below.{flat_map_below_more}
use Rattle.sim_base.proofs.Each.{Each-flat_map_below}
use Rattle.sim_base.proofs.Ordered.{Each-weaker}
use Rattle.sim_base.proofs.Lists.{filter-each, some-of}
use Rattle.links.specs.InFlight.{InFlight}
use Rattle.units.specs.declared.machine.Machine.{Machine}
use Rattle.units.specs.Runs.{flight_at}
use Rattle.units.specs.Flight.{fresh, among, goes_among, sent_by}
use Rattle.shards.specs.Lists.{lists_of, bound, IsSquare, AreTurned}
use Rattle.shards.specs.Shards.{IsSplit, IsShard, IsAtRest, IsUpTo, IsSharded, AreFor, AreShards, sent_of_shard}
use Rattle.shards.specs.Jobs.{job_at, jobs_at}
use Rattle.shards.specs.Phases.{PhaseView, IsPhase, AreTakenApart}
use Rattle.links.specs.Buffers.{later_of}
use Rattle.units.specs.Units.{unit_at, unit_count}
use Rattle.units.specs.Wakes.{UnitWithWord, HaveRun, AreBetweenPhases, IsStill, Waits, sent_in, unit_with_word_at}
use Rattle.shards.specs.declared.shard.Shard.{Shard}
use Rattle.units.specs.declared.timed_unit.TimedUnit.{TimedUnit}
use Rattle.units.proofs.Joining.{flat-split}
use Rattle.units.proofs.Due.{flight-each}
use Rattle.units.proofs.Jumping.{AllRest, sent_by-none, sent_in-none, between_phases-until, sleep-on}
use Rattle.units.proofs.SpanLaws.Later.{IsReceived}
use Rattle.units.proofs.Lowering.{lowered-waits}
use Rattle.units.proofs.Waiting.{none-due}

-- the shard that has the unit at a place
record IsShardOfPlace (bounds : List ℕ) (place : ℕ) : Type 0 where
  index : ℕ
  exists : suc index < length bounds
  since : bound bounds index ≤ place
  before : place < bound bounds (suc index)

shard_of_place-below : (bounds : List ℕ) (place n : ℕ) → bound bounds 0 ≡ 0 → n < length bounds → place < bound bounds n → IsShardOfPlace bounds place
shard_of_place-below bounds place zero begins l less = absurd (omega (arith, begins, less))
shard_of_place-below bounds place (suc n) begins l less = go (shard_of_place-below bounds place n begins (omega (arith, l))) (cases_lt place (bound bounds n))
  where
    go : (place < bound bounds n → IsShardOfPlace bounds place) → (place < bound bounds n) ⊎ (bound bounds n ≤ place) → IsShardOfPlace bounds place
    go lower (inl m) = lower m
    go lower (inr m) = record { index = n; exists = l; since = m; before = less }

shard_of_place : (s : Config) (bounds : List ℕ) (place : ℕ) → IsSplit s bounds → place < unit_count s → IsShardOfPlace bounds place
shard_of_place s bounds place split less =
    let last : suc (length bounds - 1) ≡ length bounds = omega (arith, split.some) in
    shard_of_place-below bounds place (length bounds - 1) split.begins (omega (arith, split.some)) (subst (λ n. place < n) (sym (split.ends (length bounds - 1) last)) less)

-- what the units of all shards send is what all units send
shards-sent : (machine : Machine) (bounds : List ℕ) (now until : ℕ) → IsSplit machine.config bounds → (n : ℕ) → n < length bounds
    → flat_map (λ i. sent_by machine now until (bound bounds i) (bound bounds (suc i) - bound bounds i)) (below n) ≡ flat_map (fresh machine now until) (below (bound bounds n))
shards-sent machine bounds now until split zero l = ap (λ n. flat_map (fresh machine now until) (below n)) (sym split.begins)
shards-sent machine bounds now until split (suc n) l =
    let a = bound bounds n in
    let b = bound bounds (suc n) in
    let rises : a ≤ b = split.rises n l in
    let e : a + (b - a) ≡ b = omega (arith, rises) in
    flat_map_below_more (λ i. sent_by machine now until (bound bounds i) (bound bounds (suc i) - bound bounds i)) n
    ∙ ap (λ z. z ++ sent_by machine now until a (b - a)) (shards-sent machine bounds now until split n (omega (arith, l)))
    ∙ sym (flat-split (fresh machine now until) a (b - a))
    ∙ ap (λ k. flat_map (fresh machine now until) (below k)) e

all-shards_sent : (machine : Machine) (bounds : List ℕ) (now until count : ℕ) → IsSplit machine.config bounds → suc count ≡ length bounds
    → flat_map (λ i. sent_by machine now until (bound bounds i) (bound bounds (suc i) - bound bounds i)) (below count) ≡ sent_in machine now until
all-shards_sent machine bounds now until count split e =
    shards-sent machine bounds now until split count (omega (arith, e))
    ∙ ap (λ n. flat_map (fresh machine now until) (below n)) (split.ends count e)

-- what a shard sends, by its bounds
shard-sent : (machine : Machine) (bounds : List ℕ) (now until index : ℕ) (shard : Shard) → IsShard machine bounds index shard
    → sent_of_shard machine now until shard ≡ sent_by machine now until (bound bounds index) (bound bounds (suc index) - bound bounds index)
shard-sent machine bounds now until index shard h =
    let count : length shard.range.units.items ≡ bound bounds (suc index) - bound bounds index = omega (arith, h.first_is, h.past_is) in
    ap₂ (sent_by machine now until) h.first_is count

-- all that was sent in a phase arrives no sooner than what each shard sent
sent-later : (machine : Machine) (bounds : List ℕ) (now until wake : ℕ) (shards : List (Box Shard Global)) → IsSplit machine.config bounds → suc (length shards) ≡ length bounds
    → ((index : ℕ) (d : Box Shard Global) → index < length shards → IsAtRest machine bounds index now until wake (get_or shards index d).value)
    → All (λ m. wake ≤ m.arrival) (sent_in machine now until)
sent-later machine bounds now until wake shards split count rest =
    All-from_recursion (λ (m : Message). wake ≤ m.arrival) (sent_in machine now until)
    (subst (Each (λ (m : Message). wake ≤ m.arrival)) (all-shards_sent machine bounds now until (length shards) split count)
    (Each-flat_map_below (λ (m : Message). wake ≤ m.arrival) (λ i. sent_by machine now until (bound bounds i) (bound bounds (suc i) - bound bounds i)) (length shards)
    (λ i l.
    let d = some-of shards (omega (arith, l)) in
    let r = rest i d l in
    let sent = shard-sent machine bounds now until i (get_or shards i d).value r.is in
    subst (Each (λ (m : Message). wake ≤ m.arrival)) sent (recursion_from_All (λ (m : Message). wake ≤ m.arrival) (sent_of_shard machine now until (get_or shards i d).value) r.arrivals))))

-- a bound that comes sooner
All-sooner : (word least : ℕ) (ms : List Message) → word ≤ least → All (λ m. least ≤ m.arrival) ms → All (λ m. word ≤ m.arrival) ms
All-sooner word least ms l h k d less = let a = h k d less in omega (arith, a, l)

words-sooner : (word least : ℕ) (ws : List ℕ) → word ≤ least → All (λ w. least ≤ w) ws → All (λ w. word ≤ w) ws
words-sooner word least ws l h k d less = let a = h k d less in omega (arith, a, l)

-- before the cycle up to which all are at rest nothing happens
pub sharded-still : (machine : Machine) (bounds : List ℕ) (now phase wake then : ℕ) (shards : List (Box Shard Global)) (inbound : List (Vec (Vec Message Global) Global))
    → IsSharded machine bounds now phase wake shards inbound → now ≤ then → then ≤ wake → IsStill machine now then
sharded-still machine bounds now phase wake then shards inbound h l w = sleep-on machine now then rests l
  where
    sent : All (λ m. then ≤ m.arrival) (sent_in machine h.began now)
    sent = All-sooner then wake (sent_in machine h.began now) w (sent-later machine bounds h.began now wake shards h.split h.count h.rest)

    some : Box Shard Global
    some = some-of shards (omega (arith, h.count, h.split.some))

    rests : AllRest machine now then
    rests place less =
        let at = shard_of_place machine.config bounds place h.split less in
        let there : at.index < length shards = omega (arith, at.exists, h.count) in
        let shard = (get_or shards at.index some).value in
        let r = h.rest at.index some there in
        let k = place - bound bounds at.index in
        let i : k < length shard.range.units.items = omega (arith, at.since, at.before, r.is.first_is, r.is.past_is) in
        let d = some-of shard.range.units.items (omega (arith, i)) in
        let unit_with_word = unit_with_word_at shard.range.units.items shard.range.words.items k d in
        let e : shard.range.first + k ≡ place = omega (arith, at.since, r.is.first_is) in
        let u = unit_at machine.config place in
        let b = subst (λ n. Waits machine (unit_at machine.config n) now h.began unit_with_word) e (r.has_run.between k d i) in
        let later = r.sleep k 0 (omega (arith, i, r.has_run.words_count)) in
        let after : UnitWithWord = record { part = unit_with_word.part; at = unit_with_word.at; wake = then } in
        record {
          unit_with_word = after;
          wakes = omega arith;
          waits = lowered-waits machine u h.began now unit_with_word after h.order h.travels b refl refl l (omega (arith, later, w))
              (none-due machine.config.channels now then then u (sent_in machine h.began now) (λ j m o to. sent j m o) (omega arith));
        }

-- each shard may go on up to there
pub sharded-up_to : (machine : Machine) (bounds : List ℕ) (now phase wake then : ℕ) (shards : List (Box Shard Global)) (inbound : List (Vec (Vec Message Global) Global))
    → IsSharded machine bounds now phase wake shards inbound → now ≤ then → then ≤ wake → then ≤ 10 ^ 12
    → (index : ℕ) (d : Box Shard Global) (e : Vec (Vec Message Global) Global) → index < length shards → IsUpTo machine bounds index then (get_or shards index d).value (get_or inbound index e).items
sharded-up_to machine bounds now phase wake then shards inbound h l w early index d e less =
    let r = h.rest index d less in
    record {
      split = h.split;
      began = h.began;
      last = now;
      order = h.order;
      travels = h.travels;
      is = r.is;
      has_run = r.has_run;
      count = h.lists index e less;
      inbound_are = h.inbound_are index d e less;
      since = l;
      early = early;
      sleep = words-sooner then wake (get_or shards index d).value.range.words.items w r.sleep;
      arrivals = All-sooner then wake (sent_in machine h.began now) w (sent-later machine bounds h.began now wake shards h.split h.count h.rest);
      still = sharded-still machine bounds now phase wake then shards inbound h l w;
    }

-- lists by their numbers
flat-by_number : {X Y : Type 0} (f : X → List Y) (g : ℕ → List Y) (a : ℕ) (xs : List X) → ((i : ℕ) (d : X) → i < length xs → f (get_or xs i d) ≡ g (a + i)) → flat_map f xs ≡ flat_map g (range_with_len a (length xs))
flat-by_number f g a [] h = refl
flat-by_number f g a (x ∷ xs) h =
    let first : a + 0 ≡ a = omega arith in
    ap₂ (λ y z. y ++ z) (h 0 x (omega arith) ∙ ap g first)
    (flat-by_number f g (a + 1) xs (λ i d l. let e : a + suc i ≡ (a + 1) + i = omega arith in h (suc i) d (omega (arith, l)) ∙ ap g e))

filter-flat : {X : Type 0} (p : X → Bool) (f : ℕ → List X) (n : ℕ) → filter p (flat_map f (below n)) ≡ flat_map (λ i. filter p (f i)) (below n)
filter-flat p f zero = refl
filter-flat p f (suc n) =
    ap (filter p) (flat_map_below_more f n)
    ∙ filter-append p (flat_map f (below n)) (f n)
    ∙ ap (λ z. z ++ filter p (f n)) (filter-flat p f n)
    ∙ sym (flat_map_below_more (λ i. filter p (f i)) n)

-- what each shard sent to one, shard by shard, is what was sent to that one
pub inbound-is : (machine : Machine) (bounds : List ℕ) (now until wake index : ℕ) (shards : List (Box Shard Global)) (d : Box Shard Global) (lists : List (Vec Message Global)) → IsSplit machine.config bounds → suc (length shards) ≡ length bounds
    → ((i : ℕ) (b : Box Shard Global) → i < length shards → IsAtRest machine bounds i now until wake (get_or shards i b).value) → length lists ≡ length shards
    → ((i : ℕ) (b : Box Shard Global) (e : Vec Message Global) → i < length shards → (get_or lists i e).items ≡ among machine.config (bound bounds index) (bound bounds (suc index)) (sent_of_shard machine now until (get_or shards i b).value))
    → index < length shards → AreFor machine now until (get_or shards index d).value lists
inbound-is machine bounds now until wake index shards d lists split count rest same each less =
    let shard = (get_or shards index d).value in
    let here = (rest index d less).is in
    let p = goes_among machine.config (bound bounds index) (bound bounds (suc index)) in
    let sent = λ (i : ℕ). sent_by machine now until (bound bounds i) (bound bounds (suc i) - bound bounds i) in
    let past : bound bounds (suc index) ≡ shard.range.first + length shard.range.units.items = sym here.past_is in
    flat-by_number (λ (list : Vec Message Global). list.items) (λ i. filter p (sent i)) 0 lists
    (λ i e l.
    let j : i < length shards = omega (arith, l, same) in
    let b = some-of shards (omega (arith, j)) in
    let zero-first : i ≡ 0 + i = omega arith in
    each i b e j ∙ ap (filter p) (shard-sent machine bounds now until i (get_or shards i b).value (rest i b j).is) ∙ ap (λ n. filter p (sent n)) zero-first)
    ∙ ap (λ n. flat_map (λ i. filter p (sent i)) (below n)) same
    ∙ sym (filter-flat p sent (length shards))
    ∙ ap (filter p) (all-shards_sent machine bounds now until (length shards) split count)
    ∙ ap₂ (λ a b. among machine.config a b (sent_in machine now until)) (sym here.first_is) past

jobs-count : (machine : Machine) (bounds : List ℕ) (number from until : ℕ) → length (jobs_at machine bounds number from until) ≡ length bounds - 1
jobs-count machine bounds number from until = length-map-range_with_len (job_at machine bounds number from until) 0 (length bounds - 1)

-- each shard has sent a list to each
pub rows-square : (p : PhaseView) (wake : ℕ) (shards : List (Box Shard Global)) (outbound : List (Vec (Vec Message Global) Global)) → AreTakenApart p wake shards outbound
    → IsSplit p.machine.config p.bounds → IsSquare (length outbound) outbound
rows-square p wake shards outbound h split i d less =
    let count = jobs-count p.machine p.bounds p.number p.from p.until in
    let there : i < length shards = omega (arith, less, h.outbound_count) in
    let row = (h.outbound_are i (some-of shards (omega (arith, there))) d there).count in
    omega (arith, row, h.outbound_count, h.count, count, split.some)

-- the shards of a machine at the end of a phase
pub sharded-ends : (p : PhaseView) (wake : ℕ) (shards : List (Box Shard Global)) (outbound inbound : List (Vec (Vec Message Global) Global)) → IsPhase p → AreTakenApart p wake shards outbound
    → length inbound ≡ length outbound → IsSquare (length outbound) inbound → AreTurned outbound inbound → IsSharded p.machine p.bounds p.until (p.number + 1) wake shards inbound
sharded-ends p wake shards outbound inbound h un same square each =
    record {
      counted = omega (arith, h.counted, h.order);
      early = h.early;
      split = h.split;
      began = p.from;
      order = omega (arith, h.order);
      travels = h.travels;
      since = un.since;
      count = count;
      inbound_count = same ∙ un.outbound_count;
      rest = un.rest;
      lists = λ index d less. ap suc (square index d (omega (arith, less, un.outbound_count)) ∙ un.outbound_count) ∙ count;
      inbound_are = λ index d e less.
          inbound-is p.machine p.bounds p.from p.until wake index shards d (get_or inbound index e).items h.split count un.rest (square index e (omega (arith, less, un.outbound_count)) ∙ un.outbound_count)
          (λ i b f l.
          let row = get_or outbound i e in
          let are = un.outbound_are i b e l in
          let there : index < length row.items = omega (arith, less, are.count, count) in
          each i index e e f f (omega (arith, l, un.outbound_count)) (omega (arith, less, un.outbound_count)) ∙ are.each index f there)
          less;
    }
  where
    count : suc (length shards) ≡ length p.bounds
    count = let n = jobs-count p.machine p.bounds p.number p.from p.until in omega (arith, un.count, n, h.split.some)

-- what is in flight is still to arrive
late-now : (machine : Machine) (now : ℕ) → later_of now (flight_at machine now) ≡ flight_at machine now
late-now machine now =
    filter-each (λ (m : Message). not (ltb m.arrival now)) (flight_at machine now)
    (Each-weaker (λ (m : Message). IsReceived machine.config m × (now ≤ m.arrival)) (λ (m : Message). not (ltb m.arrival now) ≡ true) (λ m h. since m.arrival h.1) _ (flight-each machine.config machine.traces.items now))
  where
    since : (a : ℕ) → now ≤ a → not (ltb a now) ≡ true
    since a l = grind (arith, nat_tests)

-- units that wait at a cycle have gone over no cycles
between_phases-has_run : (machine : Machine) (first now : ℕ) (units : List TimedUnit) (words : List ℕ) (links : InFlight) → AreBetweenPhases machine first now units words links → HaveRun machine first now now units words links
between_phases-has_run machine first now units words links h =
    record {
      within = h.within;
      words_count = h.words_count;
      between = h.wait;
      flight = h.flight ∙ ap {B = InFlight} (λ ms. record { channels = machine.config.channels; messages = among machine.config first (first + length units) ms }) (sym (late-now machine now));
    }

-- the shards of a machine before any phase
pub sharded-begins : (machine : Machine) (bounds : List ℕ) (now phase : ℕ) (shards : List (Box Shard Global)) (inbound : List (Vec (Vec Message Global) Global)) → phase ≤ now → now ≤ 10 ^ 12
    → AreShards machine bounds now shards → length inbound ≡ length shards
    → ((index : ℕ) (d : Vec (Vec Message Global) Global) → index < length shards → length (get_or inbound index d).items ≡ length shards)
    → ((index : ℕ) (d : Vec (Vec Message Global) Global) → index < length shards → lists_of (get_or inbound index d).items ≡ [])
    → IsSharded machine bounds now phase now shards inbound
sharded-begins machine bounds now phase shards inbound counted early h many square empty =
    record {
      counted = counted;
      early = early;
      split = h.split;
      began = now;
      order = omega arith;
      travels = subst (TravelsFor machine.config) none (λ link l. omega arith);
      since = omega arith;
      count = h.count;
      inbound_count = many;
      rest = λ index d less.
          let shard = (get_or shards index d).value in
          let a = h.between_phases index d less in
          record {
            is = h.each index d less;
            has_run = between_phases-has_run machine shard.range.first now shard.range.units.items shard.range.words.items shard.traffic.links a;
            since = omega arith;
            sleep = between_phases-until machine shard.range.first now shard.range.units.items shard.range.words.items shard.traffic.links a;
            arrivals = subst (All (λ (m : Message). now ≤ m.arrival)) (sym (sent_by-none machine now shard.range.first (length shard.range.units.items))) (λ k e l. absurd (omega (arith, l)));
          };
      lists = λ index d less. ap suc (square index d less) ∙ h.count;
      inbound_are = λ index d e less.
          let shard = (get_or shards index d).value in
          empty index e less ∙ ap (among machine.config shard.range.first (shard.range.first + length shard.range.units.items)) (sym (sent_in-none machine now));
    }
  where
    none : 0 ≡ now - now
    none = omega arith
