use Rattle.std.proofs.Common.{◌≡◌, Option, IfSome, subst, ◌∙◌}
use Rattle.std.specs.Prelude.{Vec}
use Rattle.std.specs.declared.alloc.Global.{Global}
use Rattle.sim_base.specs.declared.message.Unit.TheVariants as unit
use Rattle.laws.specs.Commands.{channel_steps_of}
use Rattle.request_table.specs.declared.served_requests.ServedRequest.{ServedRequest}
use Rattle.units.specs.SpanLaws.Mail.{mail_before}
use Rattle.units.specs.Kept.{served_by_channel}
use Rattle.units.proofs.Requested.{kept-is}
use Rattle.units.proofs.tables.list_of.Goals as goal

pub returns : goal.returns
returns c machine number now l h =
    let s = machine.config in
    let traces = machine.traces.items in
    c.of.ensures
    ∙ subst (λ (kept : Option (Vec ServedRequest Global)). IfSome kept (λ rows. rows.items ≡ served_by_channel machine now number)) c.in_ok-into_served.was
    (kept-is machine now number c.into_served.result l (c.into_served.ensures s number (channel_steps_of s traces now number) (mail_before s traces now (unit.Channel number) now) h))
