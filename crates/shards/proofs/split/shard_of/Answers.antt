use Rattle.std.proofs.Common.{◌≡◌, ◌+◌, ◌≤◌, ◌∙◌, suc, get_or, sym, ap, subst, arith}
use Rattle.std.specs.Arc.{arc_value}
use Rattle.std.specs.declared.vec.Vec.{Vec}
use Rattle.std.specs.declared.alloc.Global.{Global}
use Rattle.links.specs.InFlight.{InFlight}
use Rattle.units.specs.Units.{unit_count}
use Rattle.shards.specs.Shards.{IsBetweenPhases, links_among}
use Rattle.units.specs.declared.machine.Machine.{Machine}
use Rattle.units.specs.Wakes.{AreBetweenPhases}
use Rattle.units.specs.declared.timed_unit.TimedUnit.{TimedUnit}
use Rattle.shards.proofs.Splitting.{split-within, shard-between_phases}
use Rattle.shards.proofs.split.shard_of.Goals as goal

pub links_to-requires : goal.links_to-requires
links_to-requires c =
    let next : c.args.index + 1 ≡ suc c.args.index = omega arith in
    let within = split-within (arc_value c.args.snapshot.now.machine).config c.args.bounds.now c.requires.split (c.args.index + 1) (omega (arith, c.requires.exists)) in
    subst (λ (x : Machine). get_or c.args.bounds.now (c.args.index + 1) 0 ≤ unit_count x.config) (sym c.deref.ensures) within

pub returns-clause-between_phases : goal.returns-clause-between_phases
returns-clause-between_phases c =
    let snapshot = c.args.snapshot.now in
    let machine = arc_value snapshot.machine in
    let bounds = c.args.bounds.now in
    let first = get_or bounds c.args.index 0 in
    let past = get_or bounds (suc c.args.index) 0 in
    let now = snapshot.at in
    let range = c.in_ok-range.range in
    let made = c.in_ok-range.ensures in
    let links = c.in_ok-links.links in
    let within = split-within machine.config bounds c.requires.split (suc c.args.index) c.requires.exists in
    let next : c.args.index + 1 ≡ suc c.args.index = omega arith in
    let flight = c.in_ok-links.ensures {u = tt}
    ∙ ap {B = InFlight} (λ (x : Machine). links_among x.config first (get_or bounds (c.args.index + 1) 0) c.deref-2.result.now) c.deref.ensures
    ∙ ap {B = InFlight} (λ n. links_among machine.config first (get_or bounds n 0) c.deref-2.result.now) next
    ∙ ap {B = InFlight} (links_among machine.config first past) (c.deref-2.ensures.value ∙ c.requires.flight) in
    subst (IsBetweenPhases machine now) (sym c.in_ok-new.ensures.ok)
    (subst (λ i. AreBetweenPhases machine i now range.units.items range.words.items links) (sym made.first)
    (subst (λ (v : Vec TimedUnit Global). AreBetweenPhases machine first now v.items range.words.items links) (sym made.units)
    (shard-between_phases machine first past now c.args.units.items range.words.items links c.requires.early c.requires.count within c.requires.wait made.words flight)))
