-- The cores come first among all units, and the channels behind them.
use Rattle.std.proofs.Common.{◌≡◌, ◌+◌, ◌++◌, length, replicate, sym, ap, ap₂, subst, ◌∙◌, length-take, length-drop, arith}
use Rattle.std.specs.declared.vec.Vec.{Vec}
use Rattle.std.specs.declared.alloc.Global.{Global}
use Rattle.std.proofs.lemmas.List.{length-replicate, replicate-append-replicate, take-append-drop}
use Rattle.units.specs.Wakes.{AreTimedUnits}
use Rattle.units.specs.declared.timed_unit.TimedUnit.{TimedUnit}
use Rattle.in_place.proofs.timed_sim.by_kind.Goals as goal

pub split_off-requires : goal.split_off-requires
split_off-requires c =
    let units = c.in_ok-units.units in
    omega (arith, c.from-first_channel.ensures, c.in_ok-units.ensures.count, c.requires, units.ok.0)

pub returns-clause-by_kind : goal.returns-clause-by_kind
returns-clause-by_kind c =
    let first = c.from-first_channel.result in
    let units = c.in_ok-units.units.items in
    let cores = c.in_ok-cores.cores in
    let many = ap (λ (v : Vec TimedUnit Global). length v.items) c.in_ok-cores.ensures.units ∙ ap length c.in_ok-channel_units.ensures.items in
    let cut = length-take first units in
    let count = c.in_ok-units.ensures.count in
    let n : length cores.units.items ≡ c.args.machine.now.config.cores = omega (arith, many, cut, count, c.requires, c.from-first_channel.ensures) in
    record {
      cores_first = c.in_ok-cores.ensures.first;
      channels_first = c.in_ok-channels.ensures.first ∙ c.from-first_channel.ensures;
      cores_count = n;
      core_words = ap length c.in_ok-cores.ensures.words ∙ length-replicate _ c.args.now ∙ ap (λ (v : Vec TimedUnit Global). length v.items) (sym c.in_ok-cores.ensures.units) ∙ n;
    }

pub returns-clause-units : goal.returns-clause-units
returns-clause-units c =
    let first = c.from-first_channel.result in
    let units = c.in_ok-units.units.items in
    let front = ap (λ (v : Vec TimedUnit Global). v.items) c.in_ok-cores.ensures.units ∙ c.in_ok-channel_units.ensures.items in
    let back = ap (λ (v : Vec TimedUnit Global). v.items) c.in_ok-channels.ensures.units ∙ c.in_ok-channel_units.ensures.tail in
    subst (AreTimedUnits c.args.now c.args.parts.items) (sym (ap₂ (λ xs ys. xs ++ ys) front back ∙ take-append-drop first units)) c.in_ok-units.ensures

pub returns-clause-words : goal.returns-clause-words
returns-clause-words c =
    let first = c.from-first_channel.result in
    let now = c.args.now in
    let units = c.in_ok-units.units.items in
    let front = ap length c.in_ok-channel_units.ensures.items in
    let back = ap length c.in_ok-channel_units.ensures.tail in
    let cut = length-take first units in
    let rest = length-drop first units in
    let n = length c.split_off.new.self.items in
    let m = length c.in_ok-channel_units.channel_units.items in
    let count = c.in_ok-units.ensures.count in
    let all : n + m ≡ length c.args.parts.items = omega (arith, front, back, cut, rest, count, c.requires, c.from-first_channel.ensures) in
    ap₂ (λ xs ys. xs ++ ys) c.in_ok-cores.ensures.words c.in_ok-channels.ensures.words ∙ replicate-append-replicate n m now ∙ ap (λ k. replicate k now) all
