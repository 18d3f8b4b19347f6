-- A shard over a phase.
use Rattle.std.proofs.Common.{◌≡◌, ℕ, suc, ◌+◌, ◌-◌, ◌<◌, ◌≤◌, List, length, get_or, sym, ap, ap₂, subst, ◌∙◌, arith}
use Rattle.std.specs.Arc.{arc_value}
use Rattle.std.specs.Prelude.{fold, All}
use Rattle.std.specs.List.{AllByRecursion}
use Rattle.std.specs.declared.vec.Vec.{Vec}
use Rattle.std.specs.declared.alloc.Global.{Global}
use Rattle.std.specs.declared.sync.Arc.{Arc}
use Rattle.std.proofs.lemmas.List.Elements.{All-from_recursion, recursion_from_All}
use Rattle.sim_base.specs.History.{insert_by_age}
use Rattle.sim_base.specs.declared.message.Message.{Message}
use Rattle.sim_base.specs.Locality.{TravelsFor}
use Rattle.sim_base.proofs.Each.{Each-filter, Each-flat_map_below}
use Rattle.links.specs.InFlight.{InFlight}
use Rattle.units.specs.Flight.{among, fresh, goes_among, sent_by}
use Rattle.shards.specs.Lists.{AreSortedByShard, bound, lists_of}
use Rattle.shards.specs.Shards.{HasShardRun, IsUpTo, sent_of_shard}
use Rattle.shards.specs.Jobs.{IsJob, IsDone}
use Rattle.units.specs.Units.{unit_at, unit_count}
use Rattle.units.specs.Wakes.{AreLowered, HaveRun, AreBetweenPhases, WaitAll, sent_in, unit_with_word_at}
use Rattle.units.specs.declared.machine.Machine.{Machine}
use Rattle.shards.specs.declared.shard.Shard.{Shard}
use Rattle.units.specs.declared.timed_unit.TimedUnit.{TimedUnit}
use Rattle.shards.specs.declared.job.JobName.{JobName}
use Rattle.units.proofs.Joining.{fresh-late}
use Rattle.units.proofs.Jumping.{still-waits, waiting-words}
use Rattle.units.proofs.Lowering.{lowered-wait_all}
use Rattle.units.proofs.Sharing.{among-joins}

-- what was sent to the units of a shard arrives no sooner than what was sent to all
pub inbound-later : (machine : Machine) (bounds : List ℕ) (index now : ℕ) (shard : Shard) (inbound : List (Vec Message Global)) → IsUpTo machine bounds index now shard inbound
    → All (λ m. now ≤ m.arrival) (lists_of inbound)
inbound-later machine bounds index now shard inbound h =
    let all = sent_in machine h.began h.last in
    All-from_recursion (λ (m : Message). now ≤ m.arrival) (lists_of inbound)
    (subst (AllByRecursion (λ (m : Message). now ≤ m.arrival)) (sym h.inbound_are)
    (Each-filter (λ (m : Message). now ≤ m.arrival) (goes_among machine.config shard.range.first (shard.range.first + length shard.range.units.items)) all (recursion_from_All (λ (m : Message). now ≤ m.arrival) all h.arrivals)))

-- a shard that takes up what was sent to it waits where nothing happens up to there
pub taken-up : (machine : Machine) (bounds : List ℕ) (index now : ℕ) (shard : Shard) (inbound : List (Vec Message Global)) (words : List ℕ) (links : InFlight)
    → IsUpTo machine bounds index now shard inbound → AreLowered machine.config shard.range.first (lists_of inbound) shard.range.words.items words
    → links ≡ record shard.traffic.links { messages = fold insert_by_age shard.traffic.links.messages (lists_of inbound) }
    → AreBetweenPhases machine shard.range.first now shard.range.units.items words links
taken-up machine bounds index now shard inbound words links h low e =
    let first = shard.range.first in
    let units = shard.range.units.items in
    let past = first + length units in
    record {
      early = h.early;
      within = h.has_run.within;
      words_count = low.count ∙ h.has_run.words_count;
      wait = λ k d less. still-waits machine (unit_at machine.config (first + k)) h.last now (unit_with_word_at units words k d) (before k d less) h.still h.since (later k less);
      flight = e
          ∙ ap {A = InFlight} {B = InFlight} (λ l. record l { messages = fold insert_by_age l.messages (lists_of inbound) }) h.has_run.flight
          ∙ ap {B = InFlight} (λ ms. record { channels = machine.config.channels; messages = ms })
          (ap (fold insert_by_age _) h.inbound_are ∙ among-joins machine first past h.began h.last h.order h.travels ∙ ap (among machine.config first past) (sym h.still.flight));
    }
  where
    before : WaitAll machine shard.range.first h.last h.last shard.range.units.items words
    before = lowered-wait_all machine shard.range.first h.began h.last shard.range.units.items shard.range.words.items words (lists_of inbound) h.order h.travels h.has_run.words_count h.has_run.between h.inbound_are low

    later : (k : ℕ) → k < length shard.range.units.items → now ≤ get_or words k 0
    later k less =
        let i : k < length shard.range.words.items = omega (arith, less, h.has_run.words_count) in
        low.since now (inbound-later machine bounds index now shard inbound h) k i (h.sleep k 0 i)

-- a shard that has gone over its part of a phase
pub job-ends : (machine : Machine) (bounds : List ℕ) (name : JobName) (wake : ℕ) (before after : Shard) (inbound lists : List (Vec Message Global)) → IsJob machine bounds name before inbound
    → after.machine ≡ before.machine → after.bounds ≡ before.bounds → after.range.first ≡ before.range.first → length after.range.units.items ≡ length before.range.units.items
    → HasShardRun machine name.from name.until after
    → after.traffic.sent.items ≡ sent_by machine name.from name.until before.range.first (length before.range.units.items)
    → name.until ≤ wake → All (λ word. wake ≤ word) after.range.words.items → All (λ m. wake ≤ m.arrival) after.traffic.sent.items → length lists ≡ length inbound
    → AreSortedByShard machine.config bounds after.traffic.sent.items lists
    → IsDone machine bounds name wake after lists
job-ends machine bounds name wake before after inbound lists h shared same first count has_run sent since sleep arrivals many each =
    let is = h.before.is in
    let sends : after.traffic.sent.items ≡ sent_of_shard machine name.from name.until after =
    sent ∙ ap₂ (sent_by machine name.from name.until) (sym first) (sym count) in
    record {
      split = h.before.split;
      rests = record {
        is = record {
          machine_is = ap (λ (m : Arc Machine Global). arc_value m) shared ∙ is.machine_is;
          bounds_are = ap (λ (b : Vec ℕ Global). b.items) same ∙ is.bounds_are;
          exists = is.exists;
          first_is = first ∙ is.first_is;
          past_is = ap₂ (λ a b. a + b) first count ∙ is.past_is;
        };
        has_run = has_run;
        since = since;
        sleep = sleep;
        arrivals = subst (All (λ (m : Message). wake ≤ m.arrival)) sends arrivals;
      };
      order = omega (arith, h.next);
      early = h.early;
      travels = h.travels;
      outbound_are = record {
        count = ap suc many ∙ h.before.count;
        each = λ index d l. each index d l ∙ ap (among machine.config (bound bounds index) (bound bounds (suc index))) sends;
      };
    }

-- at the end of a phase no word is sooner
pub has_run-words : (machine : Machine) (first now until : ℕ) (units : List TimedUnit) (words : List ℕ) (links : InFlight) → HaveRun machine first now until units words links → All (λ w. until ≤ w) words
has_run-words machine first now until units words links h = waiting-words machine first until now units words h.words_count h.between

-- what some units send in a phase does not arrive before its end
pub part-late : (machine : Machine) (now until first count : ℕ) → first + count ≤ unit_count machine.config → now ≤ until → TravelsFor machine.config (until - now) → All (λ m. until ≤ m.arrival) (sent_by machine now until first count)
part-late machine now until first count within l t =
    All-from_recursion (λ (m : Message). until ≤ m.arrival) (sent_by machine now until first count)
    (Each-flat_map_below (λ (m : Message). until ≤ m.arrival) (λ i. fresh machine now until (first + i)) count (λ i less. fresh-late machine now until (first + i) (omega (arith, within, less)) l t))
