use Rattle.std.proofs.Common.{ap, ◌∙◌}
use Rattle.statistics.specs.Outcomes.{outcome_after, outcome_of}
use Rattle.statistics.specs.Values.{RunOutcome}
use Rattle.units.specs.Views.{SimView}
use Rattle.units.specs.declared.machine.Machine.{Machine}
use Rattle.units.proofs.Ended.{outcome_is}
use Rattle.units.proofs.sim.Sim.outcome.Goals as goal

pub returns : goal.returns
unfolding outcome_of outcome_after
returns c =
    let told = c.in_ok-stats.ensures {u = tt} in
    let made = c.in_ok-commands.ensures {u = tt} in
    ap {B = RunOutcome} (λ (m : Machine). record {
      tables = c.args.tables;
      commands = c.in_ok-commands.commands;
      requests = c.in_ok-commands.requests;
      stats = c.in_ok-stats.stats;
      last = c.in_ok-stats.last;
      ranks = m.config.ranks;
    }) (c.deref.ensures ∙ ap (λ (v : SimView). v.machine) c.self.view_is)
    ∙ outcome_is c.args.tables c.args.self.machine.config.ranks made.commands made.requests told.stats told.last
