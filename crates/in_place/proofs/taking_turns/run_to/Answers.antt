use Rattle.std.proofs.Common.{◌≡◌, subst, arith}
use Rattle.in_place.specs.Turns.{AreInTurns, all_units, all_words}
use Rattle.in_place.proofs.Turning.{between_phases-turns, turns-between_phases}
use Rattle.in_place.proofs.taking_turns.run_to.Goals as goal

pub loop-at-init : goal.loop-at-init
loop-at-init c =
    let r = c.requires in
    let kinds = c.args.kinds.now in (
      (r.by_kind, between_phases-turns c.args.machine.now c.args.from (all_units kinds) (all_words kinds) c.args.traffic.now.links r.between_phases r.whole),
      omega arith,
      r.order,
    )

pub channels_turn-requires-clause-turns : goal.channels_turn-requires-clause-turns
channels_turn-requires-clause-turns c =
    let at = c.loop-at in
    c.later-at.ensures.turns c.args.machine.now at.traffic.links at.invariant.0

pub returns-clause-between_phases : goal.returns-clause-between_phases
returns-clause-between_phases c =
    let machine = c.args.machine.now in
    let at = c.loop-at in
    let units = all_units at.kinds in
    let words = all_words at.kinds in
    let links = at.traffic.links in
    let far : at.at.cores_at ≡ c.args.limit = omega (arith, at.invariant.1, at.invariant.2, c.loop-at-test.false) in
    let near : at.at.channels_at ≡ c.args.limit = omega (arith, at.invariant.1, at.invariant.2, c.loop-at-test.false) in
    turns-between_phases machine c.args.limit units words links
    (subst (λ b. AreInTurns machine c.args.limit b units words links) near (subst (λ a. AreInTurns machine a at.at.channels_at units words links) far at.invariant.0.1))
    c.requires.early
