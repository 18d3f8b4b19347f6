use Rattle.std.proofs.Common.{◌≡◌, ◌+◌, ◌∙◌, ap, ap₂, map, sym, subst, get_or, arith}
use Rattle.std.specs.Prelude.{is_err}
use Rattle.std.proofs.lemmas.Result.{IfOk-from_err, err_from_is_err_and}
use Rattle.sim_base.specs.History.{below}
use Rattle.sim_base.specs.declared.message.Unit.TheVariants as unit
use Rattle.units.specs.Runs.{channel_stats_at}
use Rattle.units.specs.Parts.{IsPart}
use Rattle.units.proofs.Counted.{channel-stands, places-then}
use Rattle.units.proofs.counts.stats_of_channels.Goals as goal

pub loop-channel-preserved : goal.loop-channel-preserved
loop-channel-preserved c now h =
    let machine = c.args.machine.now in
    let l = c.loop-channel in
    let x = c.index-parts-place.result in
    let stands = channel-stands machine now c.args.parts.now l.channel x h c.requires.count (omega (arith, c.loop-channel-test.true)) in
    c.in_ok-push.ensures.items
    ∙ places-then (channel_stats_at machine now) l.channel l.stats.items _ (l.invariant now h) (c.channel_stats_of.ensures machine l.channel now
    (subst (IsPart machine (unit.Channel l.channel) now) (ap₂ (λ i j. get_or c.args.parts.now (i + j) x) (sym c.from.ensures) (sym c.from-in-loop-channel.ensures) ∙ sym c.index-parts-place.is) stands))

pub bounds-parts-place : goal.bounds-parts-place
bounds-parts-place c = omega (arith, c.from.ensures, c.from-in-loop-channel.ensures, c.loop-channel-test.true, c.requires.count)

pub returns-in_err-push : goal.returns-in_err-push
returns-in_err-push c now h = IfOk-from_err c.from_residual.result _ (ap is_err (err_from_is_err_and c.from_residual.result c.from_residual.ensures.1).1)

pub returns : goal.returns
returns c now h =
    let machine = c.args.machine.now in
    let all : c.loop-channel.channel ≡ machine.config.channels = omega arith in
    subst (λ n. c.loop-channel.stats.items ≡ map (channel_stats_at machine now) (below n)) all (c.loop-channel.invariant now h)
