use Rattle.std.proofs.Common.{take, sym, ap, ◌∙◌}
use Rattle.std.specs.List.{take_while}
use Rattle.links.specs.InFlight.{arrives_before}
use Rattle.links.specs.Buffers.{is_last_due}
use Rattle.links.proofs.Steps.{all_due, head_due}
use Rattle.links.proofs.buffers.Buffer.due_before.Goals as goal

pub returns-then-is_last_due : goal.returns-then-is_last_due
returns-then-is_last_due c =
    let messages = c.as_slice-messages.ensures in
    messages ∙ sym (all_due c.args.until _ c.requires (ap (is_last_due c.args.until) (sym messages) ∙ sym c.is_last_due.ensures ∙ c.if-is_last_due.true))

pub returns : goal.returns
returns c =
    ap (λ n. take n c.as_slice-messages.result.now) c.count_before.ensures.count
    ∙ ap (take_while (arrives_before c.args.until)) c.as_slice-messages.ensures
    ∙ (head_due c.args.until _ c.requires).0
