-- An override that is found is in range.
use Rattle.std.proofs.Common.{◌∙◌, sym}
use Rattle.sim_base.proofs.LinkNumbers.{override_in_range}
use Rattle.sim_base.proofs.config.Config.latency.Goals as goal

pub returns-in-Some-clause-range : goal.returns-in-Some-clause-range
returns-in-Some-clause-range c =
    let self = c.args.self.now in
    override_in_range self.overrides c.args.link _ self.overrides_in_range (sym c.override_of.ensures ∙ c.in-Some.is)
