use Rattle.std.proofs.Common.{subst, sym, ◌∙◌}
use Rattle.units.specs.Runs.{HasChannelAt}
use Rattle.sim_base.specs.declared.message.Unit.TheVariants as unit
use Rattle.laws.specs.Commands.{channel_steps_of}
use Rattle.units.specs.SpanLaws.Mail.{mail_before}
use Rattle.units.specs.Parts.{IsPart}
use Rattle.units.proofs.Ended.{left_of, channel_left_is}
use Rattle.units.proofs.ending.channel_left.Goals as goal

pub returns : goal.returns
returns c =
    let machine = c.args.machine.now in
    let s = machine.config in
    let traces = machine.traces.items in
    let now = c.args.now in
    let number = c.args.number in
    let stands = subst (IsPart machine (unit.Channel number) now) c.in-Channel.is c.requires.stands in
    left_of (c.in_ok-all_due-in-Channel.ensures {u = tt}) (c.in_ok-open_rows-in-Channel.ensures {u = tt})
    (c.in_ok-requests-in-Channel.ensures {u = tt} s number (channel_steps_of s traces now number) (mail_before s traces now (unit.Channel number) now)
    (subst (HasChannelAt machine number now) (sym c.deref-in-Channel-2.ensures) stands.0))
    ∙ channel_left_is s traces number now

pub unreachable-unreachable : goal.unreachable-unreachable
unreachable-unreachable c = subst (IsPart c.args.machine.now (unit.Channel c.args.number) c.args.now) c.in-Core.is c.requires.stands

pub all_due-requires : goal.all_due-requires
all_due-requires c =
    let machine = c.args.machine.now in
    record {
      stands = subst (HasChannelAt machine c.args.number c.args.now) (sym c.deref.ensures)
          (subst (IsPart machine (unit.Channel c.args.number) c.args.now) c.in-Channel.is c.requires.stands).0;
    }

pub open_rows-requires : goal.open_rows-requires
open_rows-requires c =
    let machine = c.args.machine.now in
    record {
      stands = subst (HasChannelAt machine c.args.number c.args.now) (sym c.deref-in-Channel.ensures)
          (subst (IsPart machine (unit.Channel c.args.number) c.args.now) c.in-Channel.is c.requires.stands).0;
    }
