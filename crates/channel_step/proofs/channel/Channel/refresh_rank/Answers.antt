use Rattle.std.proofs.Common.{false, length, Some, sym, ap, subst, ◌∙◌, arith}
use Rattle.std.proofs.lemmas.Result.{on_ok_weaker}
use Rattle.sim_base.specs.Scheduling.{refresh_command}
use Rattle.channel_step.specs.Past.{commands_after}
use Rattle.channel_step.specs.Readied.{HasCounted}
use Rattle.channel_step.specs.declared.channel.Channel.{Channel}
use Rattle.channel_step.proofs.Draining.{counts-drains}
use Rattle.channel_step.proofs.Issuing.{has-issued, silent-refresh}
use Rattle.channel_step.proofs.Skipping.{counted-now, counted-now_fits}
use Rattle.channel_step.proofs.channel.Channel.refresh_rank.Goals as goal

pub count_through-requires-clause-refreshing : goal.count_through-requires-clause-refreshing
count_through-requires-clause-refreshing c = c.refreshing.ensures

pub count_through-requires-clause-drains : goal.count_through-requires-clause-drains
count_through-requires-clause-drains c = let p = c.requires.chosen in counts-drains c.args.self.now p.past p.is_in

pub count_through-requires-clause-fits : goal.count_through-requires-clause-fits
count_through-requires-clause-fits c = let p = c.requires.chosen in counted-now_fits c.args.self.now p.past p.is_in c.requires.early

pub ready_rank-command-requires-clause-acts : goal.ready_rank-command-requires-clause-acts
ready_rank-command-requires-clause-acts c =
    let p = c.requires.chosen in
    record {
      past = p.past;
      command = p.command;
      is_in = subst (λ (d : Channel). HasCounted d p.past) (sym c.count_through.ensures) (counted-now c.args.self.now p.past p.is_in c.requires.early);
      place = p.place;
      needed = p.needed;
      is_chosen = p.is_chosen;
    }

pub issue-requires-clause-ready : goal.issue-requires-clause-ready
issue-requires-clause-ready c =
    let p = c.requires.chosen in
    let h = subst (λ (d : Channel). HasCounted d p.past) (sym c.count_through.ensures) (counted-now c.args.self.now p.past p.is_in c.requires.early) in
    let is = c.ready_rank-command.ensures.command p.past h in
    record {
      past = p.past;
      is_readied = c.ready_rank-command.ensures.readied p.past h (ap Some is ∙ p.needed ∙ p.is_chosen);
    }

pub returns : goal.returns
returns c past in_cycle messages chosen =
    let h = subst (λ (d : Channel). HasCounted d past) (sym c.count_through.ensures) (counted-now c.args.self.now past in_cycle c.requires.early) in
    let history = commands_after past in
    let command = refresh_command past.config history c.args.rank in
    let is = c.ready_rank-command.ensures.command past h in
    let ready = c.ready_rank-command.ensures.readied past h (ap Some is ∙ chosen) in
    on_ok_weaker c.issue.result
    (λ told. has-issued c.ready_rank-command.new.self c.issue.new.self past command c.ready_rank-command.result false c.args.commands.now c.issue.new.commands messages messages ready is
    (c.issue.ensures.stands past ready) told (silent-refresh past.config history past.channel (length past.steps) c.args.rank messages))
    c.issue.ensures.commands

pub issue-requires-clause-early : goal.issue-requires-clause-early
issue-requires-clause-early c =
    let p = c.requires.chosen in
    let h = subst (λ (d : Channel). HasCounted d p.past) (sym c.count_through.ensures) (counted-now c.args.self.now p.past p.is_in c.requires.early) in
    let is = c.ready_rank-command.ensures.command p.past h in
    let ready = c.ready_rank-command.ensures.readied p.past h (ap Some is ∙ p.needed ∙ p.is_chosen) in
    omega (arith, ready.cycle_is, p.is_in.cycle_is, c.requires.early)
