-- The cycles count as a product.
use Rattle.std.proofs.Common.{◌+◌, ap, arith}
use Rattle.statistics.specs.declared.cores.CoreStats.{CoreStats}
use Rattle.core_window.specs.CoreViews.{view_of}
use Rattle.core_window.proofs.Stretching.{steady-fits}
use Rattle.core_window.proofs.core_unit.Core.repeat.Goals as goal

pub count_cycles-requires : goal.count_cycles-requires
count_cycles-requires c =
    steady-fits (view_of c.args.self.now) c.args.cycles c.args.core_step c.args.why c.requires.stands c.requires.steady c.requires.some
    (omega (arith, c.len.ensures.value, c.len.ensures.limit)) c.requires.early

pub returns : goal.returns
returns c = ap (λ (st : CoreStats). record (view_of c.args.self.now) { now = c.args.self.now.cycle + c.args.cycles; stats = st }) c.count_cycles.ensures
