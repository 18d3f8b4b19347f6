use Rattle.std.proofs.Common.{◌≡◌, ◌∙◌, ap, sym}
use Rattle.sim_base.specs.declared.config.Config.{Config}
use Rattle.sessions.proofs.memory_session.memory.MemorySession.open.Goals as goal

pub returns-clause-opened : goal.returns-clause-opened
returns-clause-opened c =
    let same : c.in_ok-copy.field-0 ≡ c.args.config.now = c.in_ok-copy.ensures {u = tt} in
    record {
      count_is = c.in_ok-opened.ensures.count ∙ ap (λ (s : Config). s.channels) (sym same);
      each = rw same c.in_ok-opened.ensures.each;
    }
