use Rattle.std.proofs.Common.{◌≡◌, ◌+◌, ◌≤◌, ◌∙◌, length, sym, ap, ap₂, subst, arith}
use Rattle.std.specs.Arc.{arc_value}
use Rattle.links.specs.InFlight.{InFlight, with_sent}
use Rattle.units.specs.Parts.{StandAt}
use Rattle.units.specs.Units.{unit_count}
use Rattle.units.specs.declared.machine.Machine.{Machine}
use Rattle.units.specs.Wakes.{WaitAll}
use Rattle.shards.specs.Shards.{flight_to}
use Rattle.shards.specs.declared.shard.Shard.{Shard}
use Rattle.shards.proofs.Splitting.{flight-next}
use Rattle.shards.proofs.split.join_shard.Goals as goal

pub bring_up-requires-clause-within : goal.bring_up-requires-clause-within
bring_up-requires-clause-within c =
    let m = arc_value c.args.layout.now.machine in
    let first = length c.args.parts.now.items in
    subst (λ (x : Machine). first + length c.into_inner-range.result.range.units.items ≤ unit_count x.config) (sym c.deref.ensures)
    (subst (λ (y : Shard). first + length y.range.units.items ≤ unit_count m.config) (sym c.into_inner-range.ensures) c.requires.between_phases.within)

pub bring_up-requires-clause-words : goal.bring_up-requires-clause-words
bring_up-requires-clause-words c =
    subst (λ (y : Shard). length y.range.words.items ≡ length y.range.units.items) (sym c.into_inner-range.ensures) c.requires.between_phases.words_count

pub bring_up-requires-clause-wait : goal.bring_up-requires-clause-wait
bring_up-requires-clause-wait c =
    let m = arc_value c.args.layout.now.machine in
    let at = c.args.layout.now.at in
    let first = length c.args.parts.now.items in
    let range = c.into_inner-range.result.range in
    subst (λ (x : Machine). WaitAll x first at at range.units.items range.words.items) (sym c.deref.ensures)
    (subst (λ (y : Shard). WaitAll m first at at y.range.units.items y.range.words.items) (sym c.into_inner-range.ensures) c.requires.between_phases.wait)

pub bring_up-requires-clause-stand : goal.bring_up-requires-clause-stand
bring_up-requires-clause-stand c =
    subst (λ (x : Machine). StandAt x c.args.layout.now.at c.args.parts.now.items) (sym c.deref.ensures) c.requires.stand

pub returns-clause-stand : goal.returns-clause-stand
returns-clause-stand c =
    subst (λ (x : Machine). StandAt x c.args.layout.now.at c.bring_up.new.parts.items) c.deref.ensures c.in_ok-bring_up.ensures.stand

pub returns-clause-links : goal.returns-clause-links
returns-clause-links c =
    let machine = arc_value c.args.layout.now.machine in
    let at = c.args.layout.now.at in
    let a = length c.args.parts.now.items in
    let n = length c.args.shard.value.range.units.items in
    let own = c.deref_mut.ensures.value ∙ c.in_ok-messages.ensures {u = tt} ∙ ap (λ (x : Shard). x.traffic.links.messages) c.into_inner-range.ensures ∙ ap (λ (l : InFlight). l.messages) c.requires.between_phases.flight in
    c.in_ok-accept.ensures.ok
    ∙ ap₂ {C = InFlight} (λ (l : InFlight) new. with_sent l new) c.requires.links own
    ∙ ap {B = InFlight} (λ z. record { channels = machine.config.channels; messages = z }) (flight-next machine at a (a + n) (omega arith))
    ∙ ap {B = InFlight} (flight_to machine at 0) (sym (c.in_ok-bring_up.ensures.count ∙ ap (λ (x : Shard). a + length x.range.units.items) c.into_inner-range.ensures))
