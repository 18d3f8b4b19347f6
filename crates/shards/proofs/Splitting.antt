-- A machine that is split into shards, and joined from them.
use Rattle.std.proofs.Common.{◌≡◌, ℕ, zero, suc, ◌+◌, ◌-◌, ◌<◌, ◌≤◌, Bool, true, false, cond, eqb, not, ◌&&◌, List, [], ◌∷◌, ◌++◌, length, replicate, take, drop, get_or, ◌^◌, length-take, length-drop, get_or-drop, get_or-take, ◌⊎◌, inl, inr, refl, sym, ap, ap₂, subst, ◌∙◌, zero-add, arith}
use Rattle.std.specs.Prelude.{filter, fold}
use Rattle.std.specs.declared.alloc.Global.{Global}
use Rattle.std.specs.declared.boxed.Box.{Box}
use Rattle.std.specs.List.{AllByRecursion as Each}
use Rattle.std.proofs.lemmas.Bool.{cases_lt, cond-false}
use Rattle.std.proofs.lemmas.Bool.Decides.{nat_tests}
use Rattle.std.proofs.lemmas.List.{drop-drop, length-replicate, get_or-replicate, get_or_append_left}
use Rattle.std.proofs.lemmas.Option.{slice_get-get_or}
use Rattle.std.proofs.Math.Seq.{get_or-append_seam}
use Rattle.sim_base.specs.declared.config.Config.{Config}
use Rattle.sim_base.specs.History.{is_unit, insert_by_age, receiver_of}
use Rattle.sim_base.specs.declared.message.Message.{Message}
use Rattle.sim_base.specs.declared.message.Unit.{Unit as MachineUnit}
use Rattle.sim_base.specs.declared.message.Unit.TheVariants.{Core, Channel}
use Rattle.sim_base.proofs.Arrived.{puts, put, by_age-puts, fold-puts}
use Rattle.sim_base.proofs.Ordered.{Sorted, Each-weaker, puts-swap}
use Rattle.sim_base.proofs.Added.{length-push_suc}
use Rattle.sim_base.proofs.Lists.{filter-both}
use Rattle.sim_base.proofs.Grows.{is_unit-own}
use Rattle.units.proofs.SpanLaws.Lists.{Sorted-filter}
use Rattle.units.specs.SpanLaws.Units.{Exists}
use Rattle.links.specs.InFlight.{InFlight}
use Rattle.links.proofs.Ages.{by_age-same}
use Rattle.units.specs.declared.machine.Machine.{Machine}
use Rattle.units.specs.Runs.{flight_at}
use Rattle.units.specs.Flight.{is_at_places, goes_among, among}
use Rattle.shards.specs.Shards.{AllAwake, AreShards, IsShard, IsSplit, IsBetweenPhases, links_among}
use Rattle.units.specs.Parts.{IsPart, StandAt}
use Rattle.units.specs.Units.{unit_count, unit_at}
use Rattle.units.specs.Wakes.{AreTimedUnits, AreBetweenPhases, Waits, unit_with_word}
use Rattle.units.specs.declared.part.UnitState.{UnitState}
use Rattle.shards.specs.declared.shard.Shard.{Shard}
use Rattle.units.specs.declared.timed_unit.TimedUnit.{TimedUnit}
use Rattle.units.proofs.Due.{place_of_unit, at-place, place-within}
use Rattle.units.proofs.Sharing.{flight-sorted}
use Rattle.units.proofs.Standing.{seam-within}
use Rattle.units.proofs.Waiting.{awake-waits}
use Rattle.statistics.proofs.ChannelChoices.{passes}

-- bounds that begin with 0, never fall, and end with a number
pub record Climbs (xs : List ℕ) (last : ℕ) : Type 0 where
  pub some : 0 < length xs
  pub begins : get_or xs 0 0 ≡ 0
  pub rises : (i : ℕ) → suc i < length xs → get_or xs i 0 ≤ get_or xs (suc i) 0
  pub ends : (i : ℕ) → suc i ≡ length xs → get_or xs i 0 ≡ last

-- no bound is more than the number of units
split-within_by : (s : Config) (bounds : List ℕ) → IsSplit s bounds → (n index : ℕ) → index + suc n ≡ length bounds → get_or bounds index 0 ≤ unit_count s
split-within_by s bounds h zero index e = let f = h.ends index (omega (arith, e)) in omega (arith, f)
split-within_by s bounds h (suc n) index e =
    let f = h.rises index (omega (arith, e)) in
    let g = split-within_by s bounds h n (suc index) (omega (arith, e)) in
    omega (arith, f, g)

pub split-within : (s : Config) (bounds : List ℕ) → IsSplit s bounds → (index : ℕ) → index < length bounds → get_or bounds index 0 ≤ unit_count s
split-within s bounds h index l = split-within_by s bounds h (length bounds - suc index) index (omega (arith, l))

stands-exists : (s : Config) (first past : ℕ) (u : MachineUnit) → past ≤ unit_count s → is_at_places s first past u ≡ true → Exists s u
stands-exists s first past (Core core) l e = grind (arith, nat_tests)
stands-exists s first past (Channel channel) l e = grind (arith, nat_tests)

-- a message that goes to no unit goes to none at these places
pub goes-none : (s : Config) (first past : ℕ) (m : Message) → past ≤ unit_count s → ((place : ℕ) → place < unit_count s → is_unit (receiver_of s.channels m.link) (unit_at s place) ≡ false) → false ≡ goes_among s first past m
goes-none s first past m l h = by (goes_among s first past m) refl
  where
    by : (b : Bool) → goes_among s first past m ≡ b → false ≡ goes_among s first past m
    by false e = sym e
    by true e =
        let u = receiver_of s.channels m.link in
        let exists = stands-exists s first past u l e in
        let here : is_unit u (unit_at s (place_of_unit s u)) ≡ true = subst (λ v. is_unit u v ≡ true) (sym (at-place s u exists)) (is_unit-own u) in
        let bad : false ≡ true = sym (h (place_of_unit s u) (place-within s u exists)) ∙ here in
        cc

-- messages in order stay as they are when they are put in order
pub puts-sorted : (ms : List Message) → Sorted ms → puts [] ms ≡ ms
puts-sorted ms h = sym (by_age-puts ms) ∙ by_age-same ms h

-- messages are of other links than those that do not pass a test, where it passes or fails all of a link
apart-from : (p : Message → Bool) → ((m n : Message) → p m ≡ true → p n ≡ false → eqb n.link m.link ≡ false) → (n : Message) → p n ≡ false → (ms : List Message)
    → Each (λ (m : Message). eqb n.link m.link ≡ false) (filter p ms)
apart-from p h n e ms = Each-weaker (λ (m : Message). p m ≡ true) (λ (m : Message). eqb n.link m.link ≡ false) (λ m f. h m n f e) (filter p ms) (passes p ms)

-- where a test passes or fails all messages of a link, the messages that pass can be put in first
puts-parted : (p : Message → Bool) → ((m n : Message) → p m ≡ true → p n ≡ false → eqb n.link m.link ≡ false) → (acc ms : List Message)
    → puts acc ms ≡ puts (puts acc (filter p ms)) (filter (λ m. not (p m)) ms)
puts-parted p h acc [] = refl
puts-parted p h acc (m ∷ ms) = by (p m) refl (puts-parted p h (put m acc) ms)
  where
    by : (b : Bool) → p m ≡ b → puts (put m acc) ms ≡ puts (puts (put m acc) (filter p ms)) (filter (λ n. not (p n)) ms)
        → puts (put m acc) ms ≡ puts (puts acc (cond b (m ∷ filter p ms) (filter p ms))) (cond (not b) (m ∷ filter (λ n. not (p n)) ms) (filter (λ n. not (p n)) ms))
    by true e k = k
    by false e k = k ∙ ap (λ z. puts z (filter (λ n. not (p n)) ms)) (puts-swap acc (m ∷ []) (filter p ms) (apart-from p h m e ms, tt))

goes-link : (s : Config) (a : ℕ) (m n : Message) → goes_among s 0 a m ≡ true → goes_among s 0 a n ≡ false → eqb n.link m.link ≡ false
goes-link s a m n e f = by (eqb n.link m.link) refl
  where
    by : (b : Bool) → eqb n.link m.link ≡ b → eqb n.link m.link ≡ false
    by false g = g
    by true g =
        let same : n.link ≡ m.link = grind (arith, nat_tests) in
        let bad : false ≡ true = sym f ∙ ap (λ l. is_at_places s 0 a (receiver_of s.channels l)) same ∙ e in
        cc

both-first : (s : Config) (a b : ℕ) → a ≤ b → (u : MachineUnit) → is_at_places s 0 a u ≡ (is_at_places s 0 b u && is_at_places s 0 a u)
both-first s a b l (Core core) = grind (arith, nat_tests)
both-first s a b l (Channel channel) = grind (arith, nat_tests)

both-second : (s : Config) (a b : ℕ) → a ≤ b → (u : MachineUnit) → is_at_places s a b u ≡ (is_at_places s 0 b u && not (is_at_places s 0 a u))
both-second s a b l (Core core) = grind (arith, nat_tests)
both-second s a b l (Channel channel) = grind (arith, nat_tests)

pub among-sorted : (s : Config) (first past : ℕ) (ms : List Message) → Sorted ms → fold insert_by_age [] (among s first past ms) ≡ among s first past ms
among-sorted s first past ms h = fold-puts [] (among s first past ms) ∙ puts-sorted (among s first past ms) (Sorted-filter (goes_among s first past) ms h)

-- what goes to the units of the next places is put to what goes to those before
among-next : (s : Config) (a b : ℕ) (ms : List Message) → a ≤ b → Sorted ms → fold insert_by_age (among s 0 a ms) (among s a b ms) ≡ among s 0 b ms
among-next s a b ms l h =
    let p = goes_among s 0 a in
    let all = among s 0 b ms in
    let before : filter p all ≡ among s 0 a ms =
    sym (filter-both p (goes_among s 0 b) p (λ m. both-first s a b l (receiver_of s.channels m.link)) ms) in
    let behind : filter (λ m. not (p m)) all ≡ among s a b ms =
    sym (filter-both (λ m. not (p m)) (goes_among s 0 b) (goes_among s a b) (λ m. both-second s a b l (receiver_of s.channels m.link)) ms) in
    fold-puts (among s 0 a ms) (among s a b ms)
    ∙ ap (λ z. puts z (among s a b ms)) (sym (puts-sorted (among s 0 a ms) (Sorted-filter p ms h)))
    ∙ ap₂ (λ y z. puts (puts [] y) z) (sym before) (sym behind)
    ∙ sym (puts-parted p (goes-link s a) [] all)
    ∙ puts-sorted all (Sorted-filter (goes_among s 0 b) ms h)

pub flight-next : (machine : Machine) (now a b : ℕ) → a ≤ b
    → fold insert_by_age (among machine.config 0 a (flight_at machine now)) (among machine.config a b (flight_at machine now)) ≡ among machine.config 0 b (flight_at machine now)
flight-next machine now a b l = among-next machine.config a b (flight_at machine now) l (flight-sorted machine.config machine.traces.items now)

pub flight-share : (machine : Machine) (now first past : ℕ)
    → fold insert_by_age [] (among machine.config first past (flight_at machine now)) ≡ among machine.config first past (flight_at machine now)
flight-share machine now first past = among-sorted machine.config first past (flight_at machine now) (flight-sorted machine.config machine.traces.items now)

-- nothing goes to no units
pub among-nothing : (s : Config) (ms : List Message) → among s 0 0 ms ≡ []
among-nothing s [] = refl
among-nothing s (m ∷ ms) = cond-false _ _ _ (none (receiver_of s.channels m.link)) ∙ among-nothing s ms
  where
    none : (u : MachineUnit) → is_at_places s 0 0 u ≡ false
    none (Core core) = grind (arith, nat_tests)
    none (Channel channel) = grind (arith, nat_tests)

-- units that all stand at a cycle are between phases, with what goes to them of the messages in flight
pub shard-between_phases : (machine : Machine) (first past now : ℕ) (units : List TimedUnit) (words : List ℕ) (links : InFlight) → now ≤ 10 ^ 12 → first + length units ≡ past → past ≤ unit_count machine.config
    → AllAwake machine first now units → words ≡ replicate (length units) now → links ≡ links_among machine.config first past (flight_at machine now) → AreBetweenPhases machine first now units words links
shard-between_phases machine first past now units words links early count within wait fill flight = record {
  early = early;
  within = omega (arith, count, within);
  words_count = ap length fill ∙ length-replicate (length units) now;
  wait = λ k d l.
      let word : get_or words k 0 ≡ now = ap (λ z. get_or z k 0) fill ∙ get_or-replicate (length units) k now 0 l in
      subst (λ w. Waits machine (unit_at machine.config (first + k)) now now (unit_with_word (get_or units k d) w)) (sym word) (wait k d l);
  flight = flight
      ∙ ap {B = InFlight} (λ z. record { channels = machine.config.channels; messages = z }) (flight-share machine now first past)
      ∙ ap {B = InFlight} (λ n. record { channels = machine.config.channels; messages = among machine.config first n (flight_at machine now) }) (sym count);
}

-- the first n of the units at places from `first` on wait
pub front-waits : (machine : Machine) (now first n : ℕ) (units left own : List TimedUnit) → left ≡ drop first units → own ≡ take n left → first + n ≤ length units
    → AllAwake machine 0 now units → AllAwake machine first now own
front-waits machine now first n units left own e f l h k d m =
    let size : length own ≤ n = omega (arith, ap length f, length-take n left) in
    let less : k < n = omega (arith, m, size) in
    let at : get_or own k d ≡ get_or units (first + k) d = ap (λ z. get_or z k d) (f ∙ ap (take n) e) ∙ get_or-take n (drop first units) k d less ∙ get_or-drop first units k d in
    subst (λ (x : TimedUnit). Waits machine (unit_at machine.config (first + k)) now now (unit_with_word x now)) (sym at)
    (subst (λ n. Waits machine (unit_at machine.config n) now now (unit_with_word (get_or units (first + k) d) now)) (zero-add (first + k)) (h (first + k) d (omega (arith, less, l))))

-- a shard with its number
abbrev pub IsMade : Machine → List ℕ → ℕ → ℕ → Box Shard Global → Type 0
IsMade machine bounds now index b = IsShard machine bounds index b.value × IsBetweenPhases machine now b.value

-- the shards of a machine so far
pub record AreMade (machine : Machine) (bounds : List ℕ) (now : ℕ) (shards : List (Box Shard Global)) : Type 0 where
  pub each : (index : ℕ) (d : Box Shard Global) → index < length shards → IsShard machine bounds index (get_or shards index d).value
  pub between_phases : (index : ℕ) (d : Box Shard Global) → index < length shards → IsBetweenPhases machine now (get_or shards index d).value

pub made-none : (machine : Machine) (bounds : List ℕ) (now : ℕ) (shards : List (Box Shard Global)) → shards ≡ [] → AreMade machine bounds now shards
made-none machine bounds now shards e = let f = ap length e in record { each = λ index d l. absurd (omega (arith, l, f)); between_phases = λ index d l. absurd (omega (arith, l, f)) }

pub made-push : (machine : Machine) (bounds : List ℕ) (now : ℕ) (shards : List (Box Shard Global)) (x : Box Shard Global) → AreMade machine bounds now shards
    → IsShard machine bounds (length shards) x.value → IsBetweenPhases machine now x.value → AreMade machine bounds now (shards ++ x ∷ [])
made-push machine bounds now shards x h is between_phases = record {
  each = λ index d l. (both index d (omega (arith, l, length-push_suc shards x)) (cases_lt index (length shards))).0;
  between_phases = λ index d l. (both index d (omega (arith, l, length-push_suc shards x)) (cases_lt index (length shards))).1;
}
  where
    both : (index : ℕ) (d : Box Shard Global) → index < suc (length shards) → (index < length shards) ⊎ (length shards ≤ index) → IsMade machine bounds now index (get_or (shards ++ x ∷ []) index d)
    both index d l (inl m) = subst (IsMade machine bounds now index) (sym (get_or_append_left shards (x ∷ []) d index m)) (h.each index d m, h.between_phases index d m)
    both index d l (inr m) =
        let last : index ≡ length shards = omega (arith, l, m) in
        let at : get_or (shards ++ x ∷ []) index d ≡ x = ap (λ n. get_or (shards ++ x ∷ []) n d) last ∙ get_or-append_seam shards x [] d in
        subst (IsMade machine bounds now index) (sym at) (subst (λ n. IsMade machine bounds now n x) (sym last) (is, between_phases))

-- the shard after some of a machine's
pub shard-seam : (machine : Machine) (bounds : List ℕ) (now : ℕ) (shards ys rest : List (Box Shard Global)) (x : Box Shard Global) → AreShards machine bounds now shards
    → ys ++ x ∷ rest ≡ shards → IsMade machine bounds now (length ys) x
shard-seam machine bounds now shards ys rest x h e =
    let less = seam-within shards ys rest x (length shards) e refl in
    let at : get_or shards (length ys) x ≡ x = ap (λ z. get_or z (length ys) x) (sym e) ∙ get_or-append_seam ys x rest x in
    subst (IsMade machine bounds now (length ys)) at (h.each (length ys) x less, h.between_phases (length ys) x less)

-- a machine has a shard
pub shards-early : (machine : Machine) (bounds : List ℕ) (now : ℕ) (shards : List (Box Shard Global)) → AreShards machine bounds now shards → now ≤ 10 ^ 12
shards-early machine bounds now [] h = absurd (omega (arith, h.split.some, h.count))
shards-early machine bounds now (x ∷ xs) h = (h.between_phases 0 x (omega arith)).early

-- units that all stand at a cycle are asked in the next phase
pub units-wait : (machine : Machine) (now : ℕ) (parts : List UnitState) (units : List TimedUnit) → StandAt machine now parts → AreTimedUnits now parts units → AllAwake machine 0 now units
units-wait machine now parts units h e k d l =
    let less : k < length parts = omega (arith, l, e.count) in
    let p = some-part parts (omega (arith, less)) in
    let stands = subst (IsPart machine (unit_at machine.config k) now) (sym (e.parts_are k d p less)) (h k (get_or parts k p) (slice_get-get_or parts k p less)) in
    subst (λ n. Waits machine (unit_at machine.config n) now now (unit_with_word (get_or units k d) now)) (sym (zero-add k))
    (awake-waits machine (unit_at machine.config k) now (unit_with_word (get_or units k d) now) stands (e.stand k d less) refl)
  where
    some-part : (xs : List UnitState) → 0 < length xs → UnitState
    some-part [] l = absurd (omega (arith, l))
    some-part (x ∷ xs) l = x

-- the units of a shard are as many as its bounds say
pub front-count : (a b : ℕ) (units left own : List TimedUnit) → left ≡ drop a units → own ≡ take (b - a) left → a ≤ b → b ≤ length units → a + length own ≡ b
front-count a b units left own e f l m =
    let size = ap length e ∙ length-drop a units in
    let taken = ap length f ∙ length-take (b - a) left in
    omega (arith, size, taken, l, m)

-- the units behind those of a shard stand at the places behind its bounds
pub front-rest : (a b : ℕ) (units left rest : List TimedUnit) → left ≡ drop a units → rest ≡ drop (b - a) left → a ≤ b → rest ≡ drop b units
front-rest a b units left rest e f l =
    let sum : a + (b - a) ≡ b = omega (arith, l) in
    f ∙ ap (drop (b - a)) e ∙ drop-drop (b - a) a units ∙ ap (λ n. drop n units) sum
