use Rattle.std.proofs.Common.{◌≡◌, ◌+◌, ◌∙◌, ◌∷◌, [], ◌++◌, rules, length, refl, sym, ap, subst, append_assoc, arith}
use Rattle.std.specs.Arc.{arc_value}
use Rattle.std.specs.Vec.Iter.{into_iter_items}
use Rattle.links.specs.InFlight.{InFlight}
use Rattle.units.specs.Parts.{StandAt}
use Rattle.units.specs.Runs.{flight_at}
use Rattle.shards.specs.Lists.{bound}
use Rattle.shards.specs.Shards.{IsBetweenPhasesAt, flight_to}
use Rattle.units.proofs.Sharing.{among-all}
use Rattle.shards.proofs.Splitting.{among-nothing, shard-seam}
use Rattle.units.proofs.Standing.{stand-none, all-yielded}
use Rattle.shards.proofs.split.join_all.Goals as goal
use Rattle.sim_base.proofs.Added.{length-push_suc}

pub loop-shard-init : goal.loop-shard-init
loop-shard-init c =
    let machine = arc_value c.args.layout.now.machine in
    let now = c.args.layout.now.at in
    let ms = flight_at machine now in
    let begins = sym c.requires.shards.split.begins in (
      refl,
      search rules,
      ap length c.requires.none ∙ begins,
      subst (StandAt machine now) (sym c.requires.none) (stand-none machine now),
      c.requires.empty
          ∙ ap {B = InFlight} (λ z. record { channels = machine.config.channels; messages = z }) (sym (among-nothing machine.config ms))
          ∙ ap {B = InFlight} (flight_to machine now 0) begins,
    )

pub loop-shard-preserved : goal.loop-shard-preserved
loop-shard-preserved c =
    let machine = arc_value c.args.layout.now.machine in
    let now = c.args.layout.now.at in
    let bounds = c.args.layout.now.bounds.items in
    let at = c.loop-shard in
    let x = c.in-Some.shard in
    let steps = c.in-Some.ensures.steps in
    let whole = ap (λ z. at.yielded ++ z) (sym steps.0) ∙ at.invariant.0 ∙ c.into_iter-shard-iterator.ensures.into_iter_gives.0 in
    let made = shard-seam machine bounds now c.args.shards.items at.yielded _ x c.requires.shards whole in
    let grown = length-push_suc at.yielded x in
    let joined = c.in_ok-join_shard.ensures {u = tt} in
    let past : length at.parts.items + length x.value.range.units.items ≡ bound bounds (length (at.yielded ++ x ∷ [])) =
    ap (λ n. n + length x.value.range.units.items) (at.invariant.2 ∙ sym made.0.first_is) ∙ made.0.past_is ∙ ap (bound bounds) (sym grown) in (
      append_assoc at.yielded (x ∷ []) _ ∙ ap (λ z. at.yielded ++ z) (sym steps.0) ∙ at.invariant.0,
      let was = at.invariant.1 in
          let remaining = steps.1 in
          let short = ap length steps.0 in
          omega arith,
      joined.count ∙ past,
      joined.stand,
      joined.links ∙ ap {B = InFlight} (flight_to machine now 0) (joined.count ∙ past),
    )

pub join_shard-requires-clause-between_phases : goal.join_shard-requires-clause-between_phases
join_shard-requires-clause-between_phases c =
    let machine = arc_value c.args.layout.now.machine in
    let at = c.loop-shard in
    let x = c.in-Some.shard in
    let whole = ap (λ z. at.yielded ++ z) (sym c.in-Some.ensures.steps.0) ∙ at.invariant.0 ∙ c.into_iter-shard-iterator.ensures.into_iter_gives.0 in
    let made = shard-seam machine c.args.layout.now.bounds.items c.args.layout.now.at c.args.shards.items at.yielded _ x c.requires.shards whole in
    subst (λ n. IsBetweenPhasesAt machine n c.args.layout.now.at x.value) (made.0.first_is ∙ sym at.invariant.2) made.1

pub join_shard-requires-clause-links : goal.join_shard-requires-clause-links
join_shard-requires-clause-links c =
    let machine = arc_value c.args.layout.now.machine in
    c.loop-shard.invariant.4
    ∙ ap {B = InFlight} (flight_to machine c.args.layout.now.at 0) (sym c.loop-shard.invariant.2)

pub returns-clause-count : goal.returns-clause-count
returns-clause-count c =
    let at = c.loop-shard in
    let all = all-yielded at.yielded (into_iter_items at.shard-iterator) c.args.shards.items (at.invariant.0 ∙ c.into_iter-shard-iterator.ensures.into_iter_gives.0)
    (sym at.invariant.1 ∙ c.in-None.ensures.steps.0) in
    at.invariant.2 ∙ ap (bound c.args.layout.now.bounds.items) (ap length all) ∙ c.requires.shards.split.ends (length c.args.shards.items) c.requires.shards.count

pub returns-clause-links : goal.returns-clause-links
returns-clause-links c =
    let machine = arc_value c.args.layout.now.machine in
    let at = c.loop-shard in
    let all = all-yielded at.yielded (into_iter_items at.shard-iterator) c.args.shards.items (at.invariant.0 ∙ c.into_iter-shard-iterator.ensures.into_iter_gives.0)
    (sym at.invariant.1 ∙ c.in-None.ensures.steps.0) in
    let whole = ap (bound c.args.layout.now.bounds.items) (ap length all) ∙ c.requires.shards.split.ends (length c.args.shards.items) c.requires.shards.count in
    at.invariant.4
    ∙ ap {B = InFlight} (flight_to machine c.args.layout.now.at 0) whole
    ∙ ap {B = InFlight} (λ z. record { channels = machine.config.channels; messages = z }) (among-all machine.config machine.traces.items c.args.layout.now.at)
