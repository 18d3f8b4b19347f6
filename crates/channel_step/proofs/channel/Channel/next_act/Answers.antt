use Rattle.std.proofs.Common.{Some, None, ap, arith}
use Rattle.std.specs.Option.{is_some}
use Rattle.sim_base.specs.History.{issued_commands}
use Rattle.channel_step.specs.FrFcfs.Choices.{choice_in, command_of}
use Rattle.channel_step.proofs.FrFcfs.Waking.{first_cycle}
use Rattle.channel_step.specs.Past.{past_of}
use Rattle.channel_step.proofs.Starting.{at-in_banks, at-stand, at-first}
use Rattle.channel_step.proofs.Foreseen.{next_command-from}
use Rattle.channel_step.proofs.channel.Channel.next_act.Goals as goal

pub find-requires-clause-places : goal.find-requires-clause-places
find-requires-clause-places c = at-in_banks c.args.self.now c.args.from c.requires

pub find-requires-clause-banks : goal.find-requires-clause-banks
find-requires-clause-banks c = let i = c.requires.stands in omega (arith, i.made_for.banks_are, i.banks_stand.ranks)

pub returns-in-Some-clause-first : goal.returns-in-Some-clause-first
returns-in-Some-clause-first c s channel steps mail h at =
    let x = c.args.self.now in
    let history = issued_commands channel steps in
    let found = (c.in-Some.ensures {u = tt}) s history (at-stand x (past_of s channel steps mail) h) (next_command-from _ _ _ _ _ h.foresees) (omega (arith, h.cycle_is, at)) in
    at-first x (past_of s channel steps mail) c.args.from (Some c.in-Some.cycle) h at
    (first_cycle (choice_in s history x.queue) c.args.from c.in-Some.cycle (command_of s history x.queue.log c.in-Some.field-0-1) found.0)

pub returns-in-None-clause-first : goal.returns-in-None-clause-first
returns-in-None-clause-first c s channel steps mail h at =
    let x = c.args.self.now in
    let found = (c.in-None.ensures {u = tt}) s (issued_commands channel steps) (at-stand x (past_of s channel steps mail) h) (next_command-from _ _ _ _ _ h.foresees) (omega (arith, h.cycle_is, at)) in
    at-first x (past_of s channel steps mail) c.args.from None h at (λ t late. ap is_some (found.0 t late))
