use Rattle.std.proofs.Common.{◌≡◌, ◌∙◌, ap, map, sym, subst, get_or, arith}
use Rattle.std.specs.Prelude.{is_err}
use Rattle.std.proofs.lemmas.Result.{IfOk-from_err, err_from_is_err_and}
use Rattle.sim_base.specs.History.{below}
use Rattle.sim_base.specs.declared.message.Unit.TheVariants as unit
use Rattle.units.specs.Runs.{core_stats_at}
use Rattle.units.specs.Parts.{IsPart}
use Rattle.units.proofs.Counted.{core-stands, places-then}
use Rattle.units.proofs.counts.stats_of_cores.Goals as goal

pub loop-core-preserved : goal.loop-core-preserved
loop-core-preserved c now h =
    let machine = c.args.machine.now in
    let l = c.loop-core in
    let stands = core-stands machine now c.args.parts.now l.core c.index-parts-from.result h c.requires.count (omega (arith, c.loop-core-test.true)) in
    c.in_ok-push.ensures.items
    ∙ places-then (core_stats_at machine now) l.core l.stats.items _ (l.invariant now h) (c.core_stats_of.ensures machine l.core now
    (subst (IsPart machine (unit.Core l.core) now) (ap (λ i. get_or c.args.parts.now i c.index-parts-from.result) (sym c.from.ensures) ∙ sym c.index-parts-from.is) stands))

pub returns-in_err-push : goal.returns-in_err-push
returns-in_err-push c now h = IfOk-from_err c.from_residual.result _ (ap is_err (err_from_is_err_and c.from_residual.result c.from_residual.ensures.1).1)

pub returns : goal.returns
returns c now h =
    let machine = c.args.machine.now in
    let all : c.loop-core.core ≡ machine.config.cores = omega arith in
    subst (λ n. c.loop-core.stats.items ≡ map (core_stats_at machine now) (below n)) all (c.loop-core.invariant now h)
