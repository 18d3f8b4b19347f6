-- When a run is over, as its units and links show it, and how long it is surely not.
use Rattle.std.proofs.Common.{◌≡◌, ℕ, suc, ◌+◌, ◌-◌, ◌*◌, ◌/◌, ◌%◌, ◌<◌, ◌≤◌, Bool, true, false, min, List, [], length, get_or, Option, Some, ◌⊎◌, inl, inr, refl, sym, ap, subst, ◌∙◌, arith}
use Rattle.std.specs.declared.boxed.Box.{Box}
use Rattle.std.specs.declared.alloc.Global.{Global}
use Rattle.std.specs.Prelude.{Any}
use Rattle.std.proofs.lemmas.Bool.{cases_lt}
use Rattle.std.proofs.lemmas.Grind.{div_ceil_times}
use Rattle.std.proofs.lemmas.Nat.{mul-le}
use Rattle.std.proofs.lemmas.Option.{slice_get-get_or}
use Rattle.sim_base.specs.declared.config.Config.{Config}
use Rattle.sim_base.specs.Counts.{in_flight}
use Rattle.sim_base.specs.History.{trace_of, retired_before}
use Rattle.sim_base.specs.Machine.{run, is_over}
use Rattle.sim_base.specs.declared.message.Message.{Message}
use Rattle.sim_base.specs.declared.trace.Entry.{Entry}
use Rattle.statistics.specs.Cores.{core_stats}
use Rattle.statistics.specs.declared.cores.CoreStats.{CoreStats}
use Rattle.sim_base.specs.declared.command.IssuedCommand.{IssuedCommand}
use Rattle.channel_step.specs.declared.channel.Channel.{Channel}
use Rattle.core_window.specs.declared.core_unit.Core.{Core}
use Rattle.core_window.specs.Views.{CoreView}
use Rattle.core_window.specs.CoreViews.{view_of}
use Rattle.units.specs.SpanLaws.Channels.{IsChannelAt}
use Rattle.units.specs.SpanLaws.Cores.{IsCoreAt, core_steps_of}
use Rattle.units.proofs.SpanLaws.Over.{over-is_seen}
use Rattle.units.proofs.SpanLaws.Lasting.{lasts-for_trace, lasts-for_flight}
use Rattle.units.specs.Units.{unit_at}
use Rattle.units.specs.Parts.{IsPart, StandAt}
use Rattle.units.specs.Drained.{HasFinished, AllFinished, StillRuns}
use Rattle.units.specs.declared.part.UnitState.{UnitState}
use Rattle.units.specs.declared.part.UnitState.TheVariants as part
use Rattle.units.specs.declared.machine.Machine.{Machine}
use Rattle.units.specs.Runs.{flight_at, is_over_at}
use Rattle.units.proofs.Standing.{core-at_place, channel-at_place}

-- the number of a core at a place
pub record IsCorePlace (s : Config) (traces : List (List Entry)) (now place : ℕ) (c : Core) : Type 0 where
  pub below : place < s.cores
  pub stands : IsCoreAt s traces place now (view_of c)

pub core-place : (machine : Machine) (now place : ℕ) (c : Box Core Global) → IsPart machine (unit_at machine.config place) now (part.Core c) → IsCorePlace machine.config machine.traces.items now place c.value
core-place machine now place c h = go (cases_lt place machine.config.cores)
  where
    go : (place < machine.config.cores) ⊎ (machine.config.cores ≤ place) → IsCorePlace machine.config machine.traces.items now place c.value
    go (inl l) = record { below = l; stands = subst (λ u. IsPart machine u now (part.Core c)) (core-at_place machine.config place l) h }
    go (inr l) =
        let e : place ≡ machine.config.cores + (place - machine.config.cores) = omega arith in
        let wrong : ⊥ = subst (λ u. IsPart machine u now (part.Core c)) (channel-at_place machine.config place (place - machine.config.cores) e) h in
        absurd wrong

-- the number of a channel at a place
pub record IsChannelPlace (s : Config) (traces : List (List Entry)) (now place : ℕ) (c : Channel) : Type 0 where
  pub channel : ℕ
  pub is : place ≡ s.cores + channel
  pub stands : IsChannelAt s traces channel now c

pub channel-place : (machine : Machine) (now place : ℕ) (c : Box Channel Global) (rows : Option (List IssuedCommand)) → IsPart machine (unit_at machine.config place) now (part.Channel c rows)
    → IsChannelPlace machine.config machine.traces.items now place c.value
channel-place machine now place c rows h = go (cases_lt place machine.config.cores)
  where
    go : (place < machine.config.cores) ⊎ (machine.config.cores ≤ place) → IsChannelPlace machine.config machine.traces.items now place c.value
    go (inl l) = let wrong : ⊥ = subst (λ u. IsPart machine u now (part.Channel c rows)) (core-at_place machine.config place l) h in absurd wrong
    go (inr l) =
        let e : place ≡ machine.config.cores + (place - machine.config.cores) = omega arith in
        record { channel = place - machine.config.cores; is = e; stands = (subst (λ u. IsPart machine u now (part.Channel c rows)) (channel-at_place machine.config place (place - machine.config.cores) e) h).0 }

-- what a core counted as retired
pub core-retired : (s : Config) (traces : List (List Entry)) (core now : ℕ) (view : CoreView) → IsCoreAt s traces core now view
    → view.stats.retired ≡ retired_before (core_steps_of s traces now core)
unfolding core_stats
core-retired s traces core now view h = ap (λ (x : CoreStats). x.retired) h.stats

-- where all have finished and nothing is in flight the run is over
pub over-from_units : (machine : Machine) (now : ℕ) → flight_at machine now ≡ [] → AllFinished machine now → is_over_at machine now ≡ true
over-from_units machine now none all =
    (over-is_seen machine.config machine.traces.items now).1 (
      λ core l. subst (HasFinished machine now) (core-at_place machine.config core l) (all core (omega arith)),
      none,
      λ channel l. subst (HasFinished machine now) (channel-at_place machine.config (machine.config.cores + channel) channel refl) (all (machine.config.cores + channel) (omega arith)),
    )

-- where a run is over, all units have finished
pub units-from_over : (machine : Machine) (now : ℕ) → is_over_at machine now ≡ true → AllFinished machine now
units-from_over machine now over place l = go (cases_lt place machine.config.cores)
  where
    go : (place < machine.config.cores) ⊎ (machine.config.cores ≤ place) → HasFinished machine now (unit_at machine.config place)
    go (inl k) = subst (HasFinished machine now) (sym (core-at_place machine.config place k)) (((over-is_seen machine.config machine.traces.items now).0 over).0 place k)
    go (inr k) =
        let e : place ≡ machine.config.cores + (place - machine.config.cores) = omega arith in
        subst (HasFinished machine now) (sym (channel-at_place machine.config place (place - machine.config.cores) e)) (((over-is_seen machine.config machine.traces.items now).0 over).2 (place - machine.config.cores) (omega arith))

pub flight-from_over : (s : Config) (traces : List (List Entry)) (now : ℕ) → is_over s traces (run s traces now) ≡ true → in_flight s traces (run s traces now) ≡ []
flight-from_over s traces now over = ((over-is_seen s traces now).0 over).1

pub same-answer : (a b : Bool) → (a ≡ true → b ≡ true) → (b ≡ true → a ≡ true) → a ≡ b
same-answer true b f g = sym (f refl)
same-answer false true f g = g refl
same-answer false false f g = refl

-- fewer steps than those that some work takes leave some of it
work-left : (left width k : ℕ) → 0 < width → k < left / width + min 1 (left % width) → width * k < left
work-left left width k some l =
    let up = div_ceil_times left width some in
    let n = left / width + min 1 (left % width) in
    let more : suc k * width ≤ n * width = mul-le (suc k) width n width (omega arith) (omega arith) in
    let e : suc k * width ≡ width * k + width = grind arith in
    omega (arith, up.1, more, e)

pub core-goes_on : (machine : Machine) (now core : ℕ) (c : Core) (until : ℕ) → IsCorePlace machine.config machine.traces.items now core c → 0 < machine.config.width
    → let left = length (trace_of machine.traces.items core) - c.stats.retired in
    until ≤ now + (left / machine.config.width + min 1 (left % machine.config.width)) → StillRuns machine now until
core-goes_on machine now core c until h some l t m k =
    let left = length (trace_of machine.traces.items core) - c.stats.retired in
    let before : t - now < left / machine.config.width + min 1 (left % machine.config.width) = omega arith in
    let short = work-left left machine.config.width (t - now) some before in
    let same = core-retired machine.config machine.traces.items core now (view_of c) h.stands in
    lasts-for_trace machine.config machine.traces.items now t core h.below m (omega (arith, short, same))

pub flight-goes_on : (machine : Machine) (now arrival until : ℕ) (ms : List Message) → Any (λ m. m.arrival ≡ arrival) ms → ms ≡ flight_at machine now
    → until ≤ arrival + 1 → StillRuns machine now until
flight-goes_on machine now arrival until ms some e l t m k =
    let there : t ≤ some.1.arrival = omega (arith, some.4) in
    lasts-for_flight machine.config machine.traces.items now t m (subst (Any (λ (x : Message). t ≤ x.arrival)) e (some.0, some.1, some.2, some.3, there))

-- the unit at a place of those that stand for their parts
pub stands-there : (machine : Machine) (now : ℕ) (parts : List UnitState) (place : ℕ) (p : UnitState) → StandAt machine now parts → place < length parts
    → p ≡ get_or parts place p → IsPart machine (unit_at machine.config place) now p
stands-there machine now parts place p h l e = h place p (slice_get-get_or parts place p l ∙ ap Some (sym e))
