-- The core has a row for each cycle.
use Rattle.std.proofs.Common.{◌≡◌, length, ap, ◌∙◌, arith}
use Rattle.one_clock.proofs.Next.{length_steps}
use Rattle.one_clock.proofs.sending.requests_of_core.Goals as goal

pub issued_count-first-requires : goal.issued_count-first-requires
issued_count-first-requires c =
    let f : length c.past_steps.result.now ≡ c.args.cycle.now.number =
    ap length c.past_steps.ensures ∙ length_steps c.args.cycle.now.config.now c.args.cycle.now.traces.now c.args.cycle.now.number c.args.core c.args.past.now c.requires.past in
    omega arith
