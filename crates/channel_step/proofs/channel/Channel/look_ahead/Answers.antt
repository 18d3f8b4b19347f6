use Rattle.std.proofs.Common.{sym, ◌∙◌, arith}
use Rattle.sim_base.specs.History.{issued_commands}
use Rattle.channel_step.specs.Past.{past_of}
use Rattle.channel_step.proofs.Starting.{at-in_banks, at-stand}
use Rattle.channel_step.proofs.Foreseen.{next_command-from, kept-stands}
use Rattle.channel_step.proofs.channel.Channel.look_ahead.Goals as goal

pub find-requires-clause-places : goal.find-requires-clause-places
find-requires-clause-places c = at-in_banks c.args.self.now c.args.from c.requires

pub find-requires-clause-banks : goal.find-requires-clause-banks
find-requires-clause-banks c = let i = c.requires.stands in omega (arith, i.made_for.banks_are, i.banks_stand.ranks)

pub returns : goal.returns
returns c s channel steps mail h at =
    let x = c.args.self.now in
    kept-stands x (past_of s channel steps mail) c.args.from c.find.result h (sym at ∙ sym h.cycle_is)
    (c.find.ensures s (issued_commands channel steps) (at-stand x (past_of s channel steps mail) h) (next_command-from _ _ _ _ _ h.foresees) (omega (arith, h.cycle_is, at)))
