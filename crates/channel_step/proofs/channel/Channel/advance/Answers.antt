use Rattle.std.proofs.Common.{◌≡◌, ◌<◌, ◌+◌, ◌-◌, ◌++◌, true, false, [], length, take, Some, None, sym, ap, subst, ◌∙◌, arith}
use Rattle.std.proofs.lemmas.List.{append-nil}
use Rattle.std.proofs.lemmas.Result.{err_from_is_err_and, IfOk-from_err}
use Rattle.sim_base.specs.History.{issued_commands, messages_at, issued_now}
use Rattle.channel_step.specs.Past.{past_of, commands_after}
use Rattle.channel_step.specs.Runs.{with_more, HasIssued, HasAdvanced}
use Rattle.channel_step.specs.declared.channel.Advance.{Advance}
use Rattle.channel_step.specs.Queued.{request_at}
use Rattle.channel_step.specs.Readied.{IsDoing, column_command_at, command_for, rank_command}
use Rattle.channel_step.specs.declared.fr_fcfs.choice.Need.TheVariants.{Row, Column, Refresh}
use Rattle.channel_step.proofs.Running.{with_more-none}
use Rattle.std.specs.Prelude.{replicate, is_err}
use Rattle.queue.specs.View.{QueueView}
use Rattle.channel_step.specs.FrFcfs.Choices.{command_of, IsFor}
use Rattle.channel_step.specs.Channels.{IsNextBefore, IsNeededIn, idle_after}
use Rattle.channel_step.proofs.Going.{goes, goes-end, waits, acts}
use Rattle.channel_step.proofs.Foreseen.{request-needs}
use Rattle.channel_step.proofs.Readying.{doing, needed-column, serves-after}
use Rattle.channel_step.proofs.Skipping.{waited-stands}
use Rattle.channel_step.proofs.Stretches.{length-idle, idle-issued}
use Rattle.channel_step.proofs.channel.Channel.advance.Goals as goal

pub look-requires : goal.look-requires
look-requires c =
    let p = c.requires.can_run in
    let h = c.arrive-arrived.ensures.in_cycle p.s p.channel p.steps p.mail p.stands c.args.cycles.end p.at c.requires.span p.fit in
    record { past = past_of p.s p.channel p.steps (p.mail ++ take c.arrive-arrived.result c.args.inbox.now); is_in = h; at = p.at }

pub wait-requires-clause-in_cycle : goal.wait-requires-clause-in_cycle
wait-requires-clause-in_cycle c =
    let p = c.requires.can_run in
    let h = c.arrive-arrived.ensures.in_cycle p.s p.channel p.steps p.mail p.stands c.args.cycles.end p.at c.requires.span p.fit in
    let k = c.look.ensures.in_cycle (past_of p.s p.channel p.steps (p.mail ++ take c.arrive-arrived.result c.args.inbox.now)) h in
    record { past = past_of p.s p.channel p.steps (p.mail ++ take c.arrive-arrived.result c.args.inbox.now); is_in = k; at = sym k.cycle_is }

pub wait-requires-clause-span : goal.wait-requires-clause-span
wait-requires-clause-span c =
    let p = c.requires.can_run in
    let h = c.arrive-arrived.ensures.in_cycle p.s p.channel p.steps p.mail p.stands c.args.cycles.end p.at c.requires.span p.fit in
    let i = ((c.in-Some-default-Refresh.ensures {u = tt}).next (past_of p.s p.channel p.steps (p.mail ++ take c.arrive-arrived.result c.args.inbox.now)) h p.at).is_next in
    let k = c.look.ensures.in_cycle (past_of p.s p.channel p.steps (p.mail ++ take c.arrive-arrived.result c.args.inbox.now)) h in
    omega (arith, k.cycle_is, i.from_now)

pub wait-requires-clause-until : goal.wait-requires-clause-until
wait-requires-clause-until c =
    let p = c.requires.can_run in
    let arrived = c.arrive-arrived.ensures in
    let h = arrived.in_cycle p.s p.channel p.steps p.mail p.stands c.args.cycles.end p.at c.requires.span p.fit in
    let g = goes c.arrive-arrived.new.self (past_of p.s p.channel p.steps p.mail) c.args.inbox.now c.args.cycles.start c.args.cycles.end c.arrive-arrived.result c.next_arrival-end.result h p.at p.fit c.requires.span arrived.some c.next_arrival-end.ensures in
    let within = goes-end (past_of p.s p.channel p.steps p.mail) c.args.inbox.now c.args.cycles.start c.args.cycles.end c.arrive-arrived.result c.next_arrival-end.result g in
    let i = ((c.in-Some-default-Refresh.ensures {u = tt}).next (past_of p.s p.channel p.steps (p.mail ++ take c.arrive-arrived.result c.args.inbox.now)) h p.at).is_next in
    omega (arith, i.before_end, within.1, c.requires.until)

pub refresh_rank-requires-clause-chosen : goal.refresh_rank-requires-clause-chosen
refresh_rank-requires-clause-chosen c =
    let p = c.requires.can_run in
    let h = c.arrive-arrived.ensures.in_cycle p.s p.channel p.steps p.mail p.stands c.args.cycles.end p.at c.requires.span p.fit in
    let there = p.mail ++ take c.arrive-arrived.result c.args.inbox.now in
    let i = subst (IsNeededIn (past_of p.s p.channel p.steps there) c.arrive-arrived.new.self.queue.log c.next_arrival-end.result c.in-Some-default-Refresh.cycle) c.in-Some-default-Refresh.field-0-1-is ((c.in-Some-default-Refresh.ensures {u = tt}).next (past_of p.s p.channel p.steps there) h p.at) in
    let n = c.in-Some-default-Refresh.cycle - length p.steps in
    let same = sym (c.wait.ensures.same_queue ∙ c.look.ensures.same_queue) in
    record {
      past = past_of p.s p.channel (p.steps ++ replicate n None) there;
      command = i.command;
      is_in = c.wait.ensures.in_cycle (past_of p.s p.channel p.steps there) (c.look.ensures.in_cycle (past_of p.s p.channel p.steps there) h);
      place = subst (λ (q : QueueView). IsFor p.s.ranks q.log (Refresh c.in-Some-default-Refresh.rank)) same i.place;
      needed =
          subst (λ (q : QueueView). command_of p.s (issued_commands p.channel (p.steps ++ replicate n None)) q.log (Refresh c.in-Some-default-Refresh.rank) ≡ Some i.command) same
          (subst (λ x. command_of p.s x c.arrive-arrived.new.self.queue.log (Refresh c.in-Some-default-Refresh.rank) ≡ Some i.command) (sym (idle-issued p.channel p.steps n)) i.needed);
      is_chosen = i.is_next.command_is;
    }

pub pass-requires-clause-serves : goal.pass-requires-clause-serves
pass-requires-clause-serves c =
    let p = c.requires.can_run in
    let h = c.arrive-arrived.ensures.in_cycle p.s p.channel p.steps p.mail p.stands c.args.cycles.end p.at c.requires.span p.fit in
    let there = past_of p.s p.channel p.steps (p.mail ++ take c.arrive-arrived.result c.args.inbox.now) in
    let i = subst (IsNeededIn there c.arrive-arrived.new.self.queue.log c.next_arrival-end.result c.in-Some-default-Column.cycle) c.in-Some-default-Column.field-0-1-is ((c.in-Some-default-Column.ensures {u = tt}).next there h p.at) in
    record {
      past = there;
      is_in = c.look.ensures.in_cycle there h;
      serves = serves-after there c.arrive-arrived.new.self.queue.log c.next_arrival-end.result c.in-Some-default-Column.cycle c.in-Some-default-Column.place true i.command i.place.0 i.needed i.is_next;
    }

pub pass-requires-in-Some-default-Row-clause-serves : goal.pass-requires-in-Some-default-Row-clause-serves
pass-requires-in-Some-default-Row-clause-serves c =
    let p = c.requires.can_run in
    let h = c.arrive-arrived.ensures.in_cycle p.s p.channel p.steps p.mail p.stands c.args.cycles.end p.at c.requires.span p.fit in
    let there = past_of p.s p.channel p.steps (p.mail ++ take c.arrive-arrived.result c.args.inbox.now) in
    let i = subst (IsNeededIn there c.arrive-arrived.new.self.queue.log c.next_arrival-end.result c.in-Some-default-Row.cycle) c.in-Some-default-Row.field-0-1-is ((c.in-Some-default-Row.ensures {u = tt}).next there h p.at) in
    record {
      past = there;
      is_in = c.look.ensures.in_cycle there h;
      serves = serves-after there c.arrive-arrived.new.self.queue.log c.next_arrival-end.result c.in-Some-default-Row.cycle c.in-Some-default-Row.place false i.command i.place.0 i.needed i.is_next;
    }

pub pass-requires-clause-early : goal.pass-requires-clause-early
pass-requires-clause-early c =
    let p = c.requires.can_run in
    let arrived = c.arrive-arrived.ensures in
    let h = arrived.in_cycle p.s p.channel p.steps p.mail p.stands c.args.cycles.end p.at c.requires.span p.fit in
    let g = goes c.arrive-arrived.new.self (past_of p.s p.channel p.steps p.mail) c.args.inbox.now c.args.cycles.start c.args.cycles.end c.arrive-arrived.result c.next_arrival-end.result h p.at p.fit c.requires.span arrived.some c.next_arrival-end.ensures in
    let within = goes-end (past_of p.s p.channel p.steps p.mail) c.args.inbox.now c.args.cycles.start c.args.cycles.end c.arrive-arrived.result c.next_arrival-end.result g in
    let i = ((c.in-Some-default-Column.ensures {u = tt}).next (past_of p.s p.channel p.steps (p.mail ++ take c.arrive-arrived.result c.args.inbox.now)) h p.at).is_next in
    omega (arith, i.before_end, within.1, c.requires.until)

pub pass-requires-in-Some-default-Row-clause-early : goal.pass-requires-in-Some-default-Row-clause-early
pass-requires-in-Some-default-Row-clause-early c =
    let p = c.requires.can_run in
    let arrived = c.arrive-arrived.ensures in
    let h = arrived.in_cycle p.s p.channel p.steps p.mail p.stands c.args.cycles.end p.at c.requires.span p.fit in
    let g = goes c.arrive-arrived.new.self (past_of p.s p.channel p.steps p.mail) c.args.inbox.now c.args.cycles.start c.args.cycles.end c.arrive-arrived.result c.next_arrival-end.result h p.at p.fit c.requires.span arrived.some c.next_arrival-end.ensures in
    let within = goes-end (past_of p.s p.channel p.steps p.mail) c.args.inbox.now c.args.cycles.start c.args.cycles.end c.arrive-arrived.result c.next_arrival-end.result g in
    let i = ((c.in-Some-default-Row.ensures {u = tt}).next (past_of p.s p.channel p.steps (p.mail ++ take c.arrive-arrived.result c.args.inbox.now)) h p.at).is_next in
    omega (arith, i.before_end, within.1, c.requires.until)

pub issue_column_command-requires-clause-doing : goal.issue_column_command-requires-clause-doing
issue_column_command-requires-clause-doing c =
    let p = c.requires.can_run in
    let h = c.arrive-arrived.ensures.in_cycle p.s p.channel p.steps p.mail p.stands c.args.cycles.end p.at c.requires.span p.fit in
    let there = past_of p.s p.channel p.steps (p.mail ++ take c.arrive-arrived.result c.args.inbox.now) in
    let log = c.arrive-arrived.new.self.queue.log in
    let cycle = c.in-Some-default-Column.cycle in
    let place = c.in-Some-default-Column.place in
    let i = subst (IsNeededIn there log c.next_arrival-end.result cycle) c.in-Some-default-Column.field-0-1-is ((c.in-Some-default-Column.ensures {u = tt}).next there h p.at) in
    let n = cycle - length p.steps in
    let then = idle_after there (length p.steps) cycle in
    let serves = serves-after there log c.next_arrival-end.result cycle place true i.command i.place.0 i.needed i.is_next in
    let same = sym (c.pass.ensures.same_queue ∙ c.look.ensures.same_queue) in
    let log_then = c.pass.new.self.queue.log in
    let history = commands_after then in
    let waits = subst (λ (q : QueueView). IsFor p.s.ranks q.log (Column place)) same i.place in
    let asked = subst (λ (q : QueueView). command_of p.s history q.log (Column place) ≡ Some i.command) same (subst (λ x. command_of p.s x log (Column place) ≡ Some i.command) (sym (idle-issued p.channel p.steps n)) i.needed) in
    let column = (request-needs history log_then place true i.command waits.0 asked).1 in
    subst (IsDoing c.pass.new.self place) (needed-column history (request_at log_then place) column)
    (doing c.pass.new.self place true then i.command (c.pass.ensures.counted there (c.look.ensures.in_cycle there h) serves) waits asked i.is_next.command_is)

pub issue_row_command-requires-clause-acts : goal.issue_row_command-requires-clause-acts
issue_row_command-requires-clause-acts c =
    let p = c.requires.can_run in
    let h = c.arrive-arrived.ensures.in_cycle p.s p.channel p.steps p.mail p.stands c.args.cycles.end p.at c.requires.span p.fit in
    let there = past_of p.s p.channel p.steps (p.mail ++ take c.arrive-arrived.result c.args.inbox.now) in
    let log = c.arrive-arrived.new.self.queue.log in
    let i = subst (IsNeededIn there c.arrive-arrived.new.self.queue.log c.next_arrival-end.result c.in-Some-default-Row.cycle) c.in-Some-default-Row.field-0-1-is ((c.in-Some-default-Row.ensures {u = tt}).next there h p.at) in
    let n = c.in-Some-default-Row.cycle - length p.steps in
    let then = idle_after there (length p.steps) c.in-Some-default-Row.cycle in
    let serves = serves-after there log c.next_arrival-end.result c.in-Some-default-Row.cycle c.in-Some-default-Row.place false i.command i.place.0 i.needed i.is_next in
    let same = sym (c.pass-in-Some-default-Row.ensures.same_queue ∙ c.look.ensures.same_queue) in
    record {
      past = then;
      command = i.command;
      is_in = c.pass-in-Some-default-Row.ensures.counted there (c.look.ensures.in_cycle there h) serves;
      place = subst (λ (q : QueueView). IsFor p.s.ranks q.log (Row c.in-Some-default-Row.place)) same i.place;
      needed =
          subst (λ (q : QueueView). command_of p.s (commands_after then) q.log (Row c.in-Some-default-Row.place) ≡ Some i.command) same
          (subst (λ x. command_of p.s x log (Row c.in-Some-default-Row.place) ≡ Some i.command) (sym (idle-issued p.channel p.steps n)) i.needed);
      is_chosen = i.is_next.command_is;
    }

pub refresh_rank-requires-clause-early : goal.refresh_rank-requires-clause-early
refresh_rank-requires-clause-early c =
    let p = c.requires.can_run in
    let arrived = c.arrive-arrived.ensures in
    let h = arrived.in_cycle p.s p.channel p.steps p.mail p.stands c.args.cycles.end p.at c.requires.span p.fit in
    let g = goes c.arrive-arrived.new.self (past_of p.s p.channel p.steps p.mail) c.args.inbox.now c.args.cycles.start c.args.cycles.end c.arrive-arrived.result c.next_arrival-end.result h p.at p.fit c.requires.span arrived.some c.next_arrival-end.ensures in
    let within = goes-end (past_of p.s p.channel p.steps p.mail) c.args.inbox.now c.args.cycles.start c.args.cycles.end c.arrive-arrived.result c.next_arrival-end.result g in
    let there = p.mail ++ take c.arrive-arrived.result c.args.inbox.now in
    let i = ((c.in-Some-default-Refresh.ensures {u = tt}).next (past_of p.s p.channel p.steps there) h p.at).is_next in
    let k = c.wait.ensures.in_cycle (past_of p.s p.channel p.steps there) (c.look.ensures.in_cycle (past_of p.s p.channel p.steps there) h) in
    omega (arith, k.cycle_is, length-idle p.steps (c.in-Some-default-Refresh.cycle - length p.steps), i.from_now, i.before_end, within.1, c.requires.until)

pub issue_column_command-requires-clause-early : goal.issue_column_command-requires-clause-early
issue_column_command-requires-clause-early c =
    let p = c.requires.can_run in
    let arrived = c.arrive-arrived.ensures in
    let h = arrived.in_cycle p.s p.channel p.steps p.mail p.stands c.args.cycles.end p.at c.requires.span p.fit in
    let g = goes c.arrive-arrived.new.self (past_of p.s p.channel p.steps p.mail) c.args.inbox.now c.args.cycles.start c.args.cycles.end c.arrive-arrived.result c.next_arrival-end.result h p.at p.fit c.requires.span arrived.some c.next_arrival-end.ensures in
    let within = goes-end (past_of p.s p.channel p.steps p.mail) c.args.inbox.now c.args.cycles.start c.args.cycles.end c.arrive-arrived.result c.next_arrival-end.result g in
    let there = p.mail ++ take c.arrive-arrived.result c.args.inbox.now in
    let i = ((c.in-Some-default-Column.ensures {u = tt}).next (past_of p.s p.channel p.steps there) h p.at).is_next in
    let j = subst (IsNeededIn (past_of p.s p.channel p.steps there) c.arrive-arrived.new.self.queue.log c.next_arrival-end.result c.in-Some-default-Column.cycle) c.in-Some-default-Column.field-0-1-is ((c.in-Some-default-Column.ensures {u = tt}).next (past_of p.s p.channel p.steps there) h p.at) in
    let k = (c.pass.ensures.counted (past_of p.s p.channel p.steps there) (c.look.ensures.in_cycle (past_of p.s p.channel p.steps there) h) (serves-after (past_of p.s p.channel p.steps there) c.arrive-arrived.new.self.queue.log c.next_arrival-end.result c.in-Some-default-Column.cycle c.in-Some-default-Column.place true j.command j.place.0 j.needed j.is_next)).is_in in
    omega (arith, k.cycle_is, length-idle p.steps (c.in-Some-default-Column.cycle - length p.steps), i.from_now, i.before_end, within.1, c.requires.until)

pub issue_row_command-requires-clause-early : goal.issue_row_command-requires-clause-early
issue_row_command-requires-clause-early c =
    let p = c.requires.can_run in
    let arrived = c.arrive-arrived.ensures in
    let h = arrived.in_cycle p.s p.channel p.steps p.mail p.stands c.args.cycles.end p.at c.requires.span p.fit in
    let g = goes c.arrive-arrived.new.self (past_of p.s p.channel p.steps p.mail) c.args.inbox.now c.args.cycles.start c.args.cycles.end c.arrive-arrived.result c.next_arrival-end.result h p.at p.fit c.requires.span arrived.some c.next_arrival-end.ensures in
    let within = goes-end (past_of p.s p.channel p.steps p.mail) c.args.inbox.now c.args.cycles.start c.args.cycles.end c.arrive-arrived.result c.next_arrival-end.result g in
    let there = p.mail ++ take c.arrive-arrived.result c.args.inbox.now in
    let i = ((c.in-Some-default-Row.ensures {u = tt}).next (past_of p.s p.channel p.steps there) h p.at).is_next in
    let j = subst (IsNeededIn (past_of p.s p.channel p.steps there) c.arrive-arrived.new.self.queue.log c.next_arrival-end.result c.in-Some-default-Row.cycle) c.in-Some-default-Row.field-0-1-is ((c.in-Some-default-Row.ensures {u = tt}).next (past_of p.s p.channel p.steps there) h p.at) in
    let k = (c.pass-in-Some-default-Row.ensures.counted (past_of p.s p.channel p.steps there) (c.look.ensures.in_cycle (past_of p.s p.channel p.steps there) h) (serves-after (past_of p.s p.channel p.steps there) c.arrive-arrived.new.self.queue.log c.next_arrival-end.result c.in-Some-default-Row.cycle c.in-Some-default-Row.place false j.command j.place.0 j.needed j.is_next)).is_in in
    omega (arith, k.cycle_is, length-idle p.steps (c.in-Some-default-Row.cycle - length p.steps), i.from_now, i.before_end, within.1, c.requires.until)

pub wait-requires-in-None-clause-in_cycle : goal.wait-requires-in-None-clause-in_cycle
wait-requires-in-None-clause-in_cycle c =
    let p = c.requires.can_run in
    let h = c.arrive-arrived.ensures.in_cycle p.s p.channel p.steps p.mail p.stands c.args.cycles.end p.at c.requires.span p.fit in
    let k = c.look.ensures.in_cycle (past_of p.s p.channel p.steps (p.mail ++ take c.arrive-arrived.result c.args.inbox.now)) h in
    record { past = past_of p.s p.channel p.steps (p.mail ++ take c.arrive-arrived.result c.args.inbox.now); is_in = k; at = sym k.cycle_is }

pub wait-requires-in-None-clause-span : goal.wait-requires-in-None-clause-span
wait-requires-in-None-clause-span c =
    let p = c.requires.can_run in
    let arrived = c.arrive-arrived.ensures in
    let h = arrived.in_cycle p.s p.channel p.steps p.mail p.stands c.args.cycles.end p.at c.requires.span p.fit in
    let g = goes c.arrive-arrived.new.self (past_of p.s p.channel p.steps p.mail) c.args.inbox.now c.args.cycles.start c.args.cycles.end c.arrive-arrived.result c.next_arrival-end.result h p.at p.fit c.requires.span arrived.some c.next_arrival-end.ensures in
    let within = goes-end (past_of p.s p.channel p.steps p.mail) c.args.inbox.now c.args.cycles.start c.args.cycles.end c.arrive-arrived.result c.next_arrival-end.result g in
    let k = c.look.ensures.in_cycle (past_of p.s p.channel p.steps (p.mail ++ take c.arrive-arrived.result c.args.inbox.now)) h in
    omega (arith, k.cycle_is, p.at, within.0)

pub wait-requires-in-None-clause-until : goal.wait-requires-in-None-clause-until
wait-requires-in-None-clause-until c =
    let p = c.requires.can_run in
    let arrived = c.arrive-arrived.ensures in
    let h = arrived.in_cycle p.s p.channel p.steps p.mail p.stands c.args.cycles.end p.at c.requires.span p.fit in
    let g = goes c.arrive-arrived.new.self (past_of p.s p.channel p.steps p.mail) c.args.inbox.now c.args.cycles.start c.args.cycles.end c.arrive-arrived.result c.next_arrival-end.result h p.at p.fit c.requires.span arrived.some c.next_arrival-end.ensures in
    let within = goes-end (past_of p.s p.channel p.steps p.mail) c.args.inbox.now c.args.cycles.start c.args.cycles.end c.arrive-arrived.result c.next_arrival-end.result g in
    omega (arith, within.1, c.requires.until)

pub overflow_sub-end : goal.overflow_sub-end
overflow_sub-end c =
    let p = c.requires.can_run in
    let arrived = c.arrive-arrived.ensures in
    let h = arrived.in_cycle p.s p.channel p.steps p.mail p.stands c.args.cycles.end p.at c.requires.span p.fit in
    let g = goes c.arrive-arrived.new.self (past_of p.s p.channel p.steps p.mail) c.args.inbox.now c.args.cycles.start c.args.cycles.end c.arrive-arrived.result c.next_arrival-end.result h p.at p.fit c.requires.span arrived.some c.next_arrival-end.ensures in
    let within = goes-end (past_of p.s p.channel p.steps p.mail) c.args.inbox.now c.args.cycles.start c.args.cycles.end c.arrive-arrived.result c.next_arrival-end.result g in
    omega (arith, within.0)

pub returns-in_ok-issue_column_command-in-Some-default-Column-clause-from_now : goal.returns-in_ok-issue_column_command-in-Some-default-Column-clause-from_now
returns-in_ok-issue_column_command-in-Some-default-Column-clause-from_now c =
    let p = c.requires.can_run in
    let h = c.arrive-arrived.ensures.in_cycle p.s p.channel p.steps p.mail p.stands c.args.cycles.end p.at c.requires.span p.fit in
    let i = ((c.in-Some-default-Column.ensures {u = tt}).next (past_of p.s p.channel p.steps (p.mail ++ take c.arrive-arrived.result c.args.inbox.now)) h p.at).is_next in
    omega (arith, ap (λ (a : Advance). a.last) c.up_to.ensures, p.at, i.from_now)

pub returns-in_ok-issue_row_command-in-Some-default-Row-clause-from_now : goal.returns-in_ok-issue_row_command-in-Some-default-Row-clause-from_now
returns-in_ok-issue_row_command-in-Some-default-Row-clause-from_now c =
    let p = c.requires.can_run in
    let h = c.arrive-arrived.ensures.in_cycle p.s p.channel p.steps p.mail p.stands c.args.cycles.end p.at c.requires.span p.fit in
    let i = ((c.in-Some-default-Row.ensures {u = tt}).next (past_of p.s p.channel p.steps (p.mail ++ take c.arrive-arrived.result c.args.inbox.now)) h p.at).is_next in
    omega (arith, ap (λ (a : Advance). a.last) c.up_to-in-Some-default-Row.ensures, p.at, i.from_now)

pub returns-in_ok-refresh_rank-in-Some-default-Refresh-clause-from_now : goal.returns-in_ok-refresh_rank-in-Some-default-Refresh-clause-from_now
returns-in_ok-refresh_rank-in-Some-default-Refresh-clause-from_now c =
    let p = c.requires.can_run in
    let h = c.arrive-arrived.ensures.in_cycle p.s p.channel p.steps p.mail p.stands c.args.cycles.end p.at c.requires.span p.fit in
    let i = ((c.in-Some-default-Refresh.ensures {u = tt}).next (past_of p.s p.channel p.steps (p.mail ++ take c.arrive-arrived.result c.args.inbox.now)) h p.at).is_next in
    omega (arith, ap (λ (a : Advance). a.last) c.up_to-in-Some-default-Refresh.ensures, p.at, i.from_now)

pub returns-in_ok-issue_column_command-in-Some-default-Column-clause-within : goal.returns-in_ok-issue_column_command-in-Some-default-Column-clause-within
returns-in_ok-issue_column_command-in-Some-default-Column-clause-within c =
    let p = c.requires.can_run in
    let arrived = c.arrive-arrived.ensures in
    let h = arrived.in_cycle p.s p.channel p.steps p.mail p.stands c.args.cycles.end p.at c.requires.span p.fit in
    let g = goes c.arrive-arrived.new.self (past_of p.s p.channel p.steps p.mail) c.args.inbox.now c.args.cycles.start c.args.cycles.end c.arrive-arrived.result c.next_arrival-end.result h p.at p.fit c.requires.span arrived.some c.next_arrival-end.ensures in
    let within = goes-end (past_of p.s p.channel p.steps p.mail) c.args.inbox.now c.args.cycles.start c.args.cycles.end c.arrive-arrived.result c.next_arrival-end.result g in
    let i = ((c.in-Some-default-Column.ensures {u = tt}).next (past_of p.s p.channel p.steps (p.mail ++ take c.arrive-arrived.result c.args.inbox.now)) h p.at).is_next in
    omega (arith, ap (λ (a : Advance). a.last) c.up_to.ensures, i.before_end, within.1)

pub returns-in_ok-issue_row_command-in-Some-default-Row-clause-within : goal.returns-in_ok-issue_row_command-in-Some-default-Row-clause-within
returns-in_ok-issue_row_command-in-Some-default-Row-clause-within c =
    let p = c.requires.can_run in
    let arrived = c.arrive-arrived.ensures in
    let h = arrived.in_cycle p.s p.channel p.steps p.mail p.stands c.args.cycles.end p.at c.requires.span p.fit in
    let g = goes c.arrive-arrived.new.self (past_of p.s p.channel p.steps p.mail) c.args.inbox.now c.args.cycles.start c.args.cycles.end c.arrive-arrived.result c.next_arrival-end.result h p.at p.fit c.requires.span arrived.some c.next_arrival-end.ensures in
    let within = goes-end (past_of p.s p.channel p.steps p.mail) c.args.inbox.now c.args.cycles.start c.args.cycles.end c.arrive-arrived.result c.next_arrival-end.result g in
    let i = ((c.in-Some-default-Row.ensures {u = tt}).next (past_of p.s p.channel p.steps (p.mail ++ take c.arrive-arrived.result c.args.inbox.now)) h p.at).is_next in
    omega (arith, ap (λ (a : Advance). a.last) c.up_to-in-Some-default-Row.ensures, i.before_end, within.1)

pub returns-in_ok-refresh_rank-in-Some-default-Refresh-clause-within : goal.returns-in_ok-refresh_rank-in-Some-default-Refresh-clause-within
returns-in_ok-refresh_rank-in-Some-default-Refresh-clause-within c =
    let p = c.requires.can_run in
    let arrived = c.arrive-arrived.ensures in
    let h = arrived.in_cycle p.s p.channel p.steps p.mail p.stands c.args.cycles.end p.at c.requires.span p.fit in
    let g = goes c.arrive-arrived.new.self (past_of p.s p.channel p.steps p.mail) c.args.inbox.now c.args.cycles.start c.args.cycles.end c.arrive-arrived.result c.next_arrival-end.result h p.at p.fit c.requires.span arrived.some c.next_arrival-end.ensures in
    let within = goes-end (past_of p.s p.channel p.steps p.mail) c.args.inbox.now c.args.cycles.start c.args.cycles.end c.arrive-arrived.result c.next_arrival-end.result g in
    let i = ((c.in-Some-default-Refresh.ensures {u = tt}).next (past_of p.s p.channel p.steps (p.mail ++ take c.arrive-arrived.result c.args.inbox.now)) h p.at).is_next in
    omega (arith, ap (λ (a : Advance). a.last) c.up_to-in-Some-default-Refresh.ensures, i.before_end, within.1)

pub returns-in_ok-issue_column_command-in-Some-default-Column-clause-done : goal.returns-in_ok-issue_column_command-in-Some-default-Column-clause-done
returns-in_ok-issue_column_command-in-Some-default-Column-clause-done c s channel steps mail stands at f =
    let arrived = c.arrive-arrived.ensures in
    let n = c.arrive-arrived.result in
    let there = past_of s channel steps (mail ++ take n c.args.inbox.now) in
    let log = c.arrive-arrived.new.self.queue.log in
    let cycle = c.in-Some-default-Column.cycle in
    let place = c.in-Some-default-Column.place in
    let h = arrived.in_cycle s channel steps mail stands c.args.cycles.end at c.requires.span f in
    let g = goes c.arrive-arrived.new.self (past_of s channel steps mail) c.args.inbox.now c.args.cycles.start c.args.cycles.end n c.next_arrival-end.result h at f c.requires.span arrived.some c.next_arrival-end.ensures in
    let i = subst (IsNeededIn there c.arrive-arrived.new.self.queue.log c.next_arrival-end.result c.in-Some-default-Column.cycle) c.in-Some-default-Column.field-0-1-is ((c.in-Some-default-Column.ensures {u = tt}).next there h at) in
    let serves = serves-after there log c.next_arrival-end.result cycle place true i.command i.place.0 i.needed i.is_next in
    let k = c.pass.ensures.counted there (c.look.ensures.in_cycle there h) serves in
    let from = i.is_next.from_now in
    let idle = cycle - length steps in
    let then = idle_after there (length steps) cycle in
    let len : length then.steps ≡ cycle = omega (arith, length-idle steps idle) in
    let same = sym (c.pass.ensures.same_queue ∙ c.look.ensures.same_queue) in
    let needs : command_for c.pass.new.self then (Column place) ≡ Some i.command =
    subst (λ (q : QueueView). command_of s (commands_after then) q.log (Column place) ≡ Some i.command) same
    (subst (λ x. command_of s x log (Column place) ≡ Some i.command) (sym (idle-issued channel steps idle)) i.needed) in
    let log_then = c.pass.new.self.queue.log in
    let there_then : place < length log_then = subst (λ (q : QueueView). place < length q.log) same i.place.0 in
    let asked = request-needs (commands_after then) log_then place true i.command there_then needs in
    let is : column_command_at c.pass.new.self place ≡ i.command = sym (needed-column (commands_after then) (request_at log_then place) asked.1) ∙ asked.0 in
    let after =
    subst (λ z. HasIssued c.issue_column_command.new.self then z c.args.commands.now c.issue_column_command.new.commands c.args.messages.now.items c.issue_column_command.new.messages.items) is
    ((c.in_ok-issue_column_command-in-Some-default-Column.ensures {u = tt}) then k (ap Some is ∙ i.is_next.command_is)) in
    let leaves = λ (a : Advance). HasAdvanced c.issue_column_command.new.self (past_of s channel steps mail) c.args.inbox.now c.args.cycles.start (a.last + 1) c.args.cycles.end a.arrived c.args.commands.now c.issue_column_command.new.commands c.args.messages.now.items c.issue_column_command.new.messages.items in
    subst leaves (sym c.up_to.ensures) (
    record {
      issued = issued_now channel cycle (Some i.command);
      sent = messages_at s channel cycle (Some i.command);
      has_run = acts _ c.issue_column_command.new.self (past_of s channel steps mail) c.args.inbox.now c.args.cycles.start c.args.cycles.end n c.next_arrival-end.result cycle i.command g i.is_next k.is_in after.stands;
      commands_are = after.commands_are ∙ ap (λ t. with_more c.args.commands.now (issued_now channel t (Some i.command))) len;
      messages_are = after.messages_are ∙ ap (λ t. c.args.messages.now.items ++ messages_at s channel t (Some i.command)) len;
    }
    )

pub returns-in_ok-issue_row_command-in-Some-default-Row-clause-done : goal.returns-in_ok-issue_row_command-in-Some-default-Row-clause-done
returns-in_ok-issue_row_command-in-Some-default-Row-clause-done c s channel steps mail stands at f =
    let arrived = c.arrive-arrived.ensures in
    let n = c.arrive-arrived.result in
    let there = past_of s channel steps (mail ++ take n c.args.inbox.now) in
    let log = c.arrive-arrived.new.self.queue.log in
    let cycle = c.in-Some-default-Row.cycle in
    let place = c.in-Some-default-Row.place in
    let h = arrived.in_cycle s channel steps mail stands c.args.cycles.end at c.requires.span f in
    let g = goes c.arrive-arrived.new.self (past_of s channel steps mail) c.args.inbox.now c.args.cycles.start c.args.cycles.end n c.next_arrival-end.result h at f c.requires.span arrived.some c.next_arrival-end.ensures in
    let i = subst (IsNeededIn there c.arrive-arrived.new.self.queue.log c.next_arrival-end.result c.in-Some-default-Row.cycle) c.in-Some-default-Row.field-0-1-is ((c.in-Some-default-Row.ensures {u = tt}).next there h at) in
    let serves = serves-after there log c.next_arrival-end.result cycle place false i.command i.place.0 i.needed i.is_next in
    let k = c.pass-in-Some-default-Row.ensures.counted there (c.look.ensures.in_cycle there h) serves in
    let from = i.is_next.from_now in
    let idle = cycle - length steps in
    let then = idle_after there (length steps) cycle in
    let len : length then.steps ≡ cycle = omega (arith, length-idle steps idle) in
    let same = sym (c.pass-in-Some-default-Row.ensures.same_queue ∙ c.look.ensures.same_queue) in
    let needs : command_for c.pass-in-Some-default-Row.new.self then (Row place) ≡ Some i.command =
    subst (λ (q : QueueView). command_of s (commands_after then) q.log (Row place) ≡ Some i.command) same
    (subst (λ x. command_of s x log (Row place) ≡ Some i.command) (sym (idle-issued channel steps idle)) i.needed) in
    let messages = c.args.messages.now.items in
    let after = (c.in_ok-issue_row_command-in-Some-default-Row.ensures {u = tt}) then k i.command messages needs i.is_next.command_is in
    let leaves = λ (a : Advance). HasAdvanced c.issue_row_command.new.self (past_of s channel steps mail) c.args.inbox.now c.args.cycles.start (a.last + 1) c.args.cycles.end a.arrived c.args.commands.now c.issue_row_command.new.commands c.args.messages.now.items c.args.messages.now.items in
    subst leaves (sym c.up_to-in-Some-default-Row.ensures) (
    record {
      issued = issued_now channel cycle (Some i.command);
      sent = messages_at s channel cycle (Some i.command);
      has_run = acts _ c.issue_row_command.new.self (past_of s channel steps mail) c.args.inbox.now c.args.cycles.start c.args.cycles.end n c.next_arrival-end.result cycle i.command g i.is_next k.is_in after.stands;
      commands_are = after.commands_are ∙ ap (λ t. with_more c.args.commands.now (issued_now channel t (Some i.command))) len;
      messages_are = after.messages_are ∙ ap (λ t. messages ++ messages_at s channel t (Some i.command)) len;
    }
    )

pub returns-in_ok-refresh_rank-in-Some-default-Refresh-clause-done : goal.returns-in_ok-refresh_rank-in-Some-default-Refresh-clause-done
returns-in_ok-refresh_rank-in-Some-default-Refresh-clause-done c s channel steps mail stands at f =
    let arrived = c.arrive-arrived.ensures in
    let n = c.arrive-arrived.result in
    let there = past_of s channel steps (mail ++ take n c.args.inbox.now) in
    let cycle = c.in-Some-default-Refresh.cycle in
    let rank = c.in-Some-default-Refresh.rank in
    let h = arrived.in_cycle s channel steps mail stands c.args.cycles.end at c.requires.span f in
    let g = goes c.arrive-arrived.new.self (past_of s channel steps mail) c.args.inbox.now c.args.cycles.start c.args.cycles.end n c.next_arrival-end.result h at f c.requires.span arrived.some c.next_arrival-end.ensures in
    let i = subst (IsNeededIn there c.arrive-arrived.new.self.queue.log c.next_arrival-end.result c.in-Some-default-Refresh.cycle) c.in-Some-default-Refresh.field-0-1-is ((c.in-Some-default-Refresh.ensures {u = tt}).next there h at) in
    let k = c.wait.ensures.in_cycle there (c.look.ensures.in_cycle there h) in
    let from = i.is_next.from_now in
    let idle = cycle - length steps in
    let then = idle_after there (length steps) cycle in
    let len : length then.steps ≡ cycle = omega (arith, length-idle steps idle) in
    let needs : Some (rank_command then rank) ≡ Some i.command =
    ap (λ x. command_of s x c.arrive-arrived.new.self.queue.log (Refresh rank)) (idle-issued channel steps idle) ∙ i.needed in
    let is : rank_command then rank ≡ i.command = cc in
    let messages = c.args.messages.now.items in
    let after =
    subst (λ z. HasIssued c.refresh_rank.new.self then z c.args.commands.now c.refresh_rank.new.commands messages messages) is
    ((c.in_ok-refresh_rank-in-Some-default-Refresh.ensures {u = tt}) then k messages (needs ∙ i.is_next.command_is)) in
    let leaves = λ (a : Advance). HasAdvanced c.refresh_rank.new.self (past_of s channel steps mail) c.args.inbox.now c.args.cycles.start (a.last + 1) c.args.cycles.end a.arrived c.args.commands.now c.refresh_rank.new.commands c.args.messages.now.items c.args.messages.now.items in
    subst leaves (sym c.up_to-in-Some-default-Refresh.ensures) (
    record {
      issued = issued_now channel cycle (Some i.command);
      sent = messages_at s channel cycle (Some i.command);
      has_run = acts c.wait.new.self c.refresh_rank.new.self (past_of s channel steps mail) c.args.inbox.now c.args.cycles.start c.args.cycles.end n c.next_arrival-end.result cycle i.command g i.is_next k after.stands;
      commands_are = after.commands_are ∙ ap (λ t. with_more c.args.commands.now (issued_now channel t (Some i.command))) len;
      messages_are = after.messages_are ∙ ap (λ t. messages ++ messages_at s channel t (Some i.command)) len;
    }
    )

pub returns-in-None-clause-from_now : goal.returns-in-None-clause-from_now
returns-in-None-clause-from_now c =
    let p = c.requires.can_run in
    let arrived = c.arrive-arrived.ensures in
    let h = arrived.in_cycle p.s p.channel p.steps p.mail p.stands c.args.cycles.end p.at c.requires.span p.fit in
    let g = goes c.arrive-arrived.new.self (past_of p.s p.channel p.steps p.mail) c.args.inbox.now c.args.cycles.start c.args.cycles.end c.arrive-arrived.result c.next_arrival-end.result h p.at p.fit c.requires.span arrived.some c.next_arrival-end.ensures in
    let within = goes-end (past_of p.s p.channel p.steps p.mail) c.args.inbox.now c.args.cycles.start c.args.cycles.end c.arrive-arrived.result c.next_arrival-end.result g in
    omega (arith, ap (λ (a : Advance). a.last) c.up_to-in-None.ensures, within.0)

pub returns-in-None-clause-within : goal.returns-in-None-clause-within
returns-in-None-clause-within c =
    let p = c.requires.can_run in
    let arrived = c.arrive-arrived.ensures in
    let h = arrived.in_cycle p.s p.channel p.steps p.mail p.stands c.args.cycles.end p.at c.requires.span p.fit in
    let g = goes c.arrive-arrived.new.self (past_of p.s p.channel p.steps p.mail) c.args.inbox.now c.args.cycles.start c.args.cycles.end c.arrive-arrived.result c.next_arrival-end.result h p.at p.fit c.requires.span arrived.some c.next_arrival-end.ensures in
    let within = goes-end (past_of p.s p.channel p.steps p.mail) c.args.inbox.now c.args.cycles.start c.args.cycles.end c.arrive-arrived.result c.next_arrival-end.result g in
    omega (arith, ap (λ (a : Advance). a.last) c.up_to-in-None.ensures, within.0, within.1)

pub returns-in-None-clause-done : goal.returns-in-None-clause-done
returns-in-None-clause-done c s channel steps mail stands at f =
    let arrived = c.arrive-arrived.ensures in
    let n = c.arrive-arrived.result in
    let there = mail ++ take n c.args.inbox.now in
    let end = c.next_arrival-end.result in
    let h = arrived.in_cycle s channel steps mail stands c.args.cycles.end at c.requires.span f in
    let g = goes c.arrive-arrived.new.self (past_of s channel steps mail) c.args.inbox.now c.args.cycles.start c.args.cycles.end n end h at f c.requires.span arrived.some c.next_arrival-end.ensures in
    let within = goes-end (past_of s channel steps mail) c.args.inbox.now c.args.cycles.start c.args.cycles.end n end g in
    let k = c.look.ensures.in_cycle (past_of s channel steps there) h in
    let idle = subst (IsNextBefore (past_of s channel steps there) c.arrive-arrived.new.self.queue.log end) c.in-None.is (c.look.ensures.next (past_of s channel steps there) h at) in
    let leaves = λ (a : Advance). HasAdvanced c.wait-in-None.new.self (past_of s channel steps mail) c.args.inbox.now c.args.cycles.start (a.last + 1) c.args.cycles.end a.arrived c.args.commands.now c.args.commands.now c.args.messages.now.items c.args.messages.now.items in
    subst leaves (sym c.up_to-in-None.ensures) (
    record {
      issued = [];
      sent = [];
      has_run = waits c.wait-in-None.new.self (past_of s channel steps mail) c.args.inbox.now c.args.cycles.start c.args.cycles.end n end g idle
          (waited-stands c.look.new.self c.wait-in-None.new.self (past_of s channel steps there) (end - length steps) k (c.wait-in-None.ensures.in_cycle (past_of s channel steps there) k) (omega (arith, within.0)));
      commands_are = sym (with_more-none c.args.commands.now);
      messages_are = sym (append-nil c.args.messages.now.items);
    }
    )

pub arrive-arrived-requires : goal.arrive-arrived-requires
arrive-arrived-requires c = record { until = c.args.cycles.end; before_end = c.requires.span; can_run = c.requires.can_run }

pub returns-in_err-issue_column_command-in-Some-default-Column-clause-done : goal.returns-in_err-issue_column_command-in-Some-default-Column-clause-done
returns-in_err-issue_column_command-in-Some-default-Column-clause-done c s channel steps mail stands at f =
    let p = err_from_is_err_and c.from_residual.result c.from_residual.ensures.1 in
    IfOk-from_err c.from_residual.result _ (ap is_err p.1)

pub returns-in_err-issue_row_command-in-Some-default-Row-clause-done : goal.returns-in_err-issue_row_command-in-Some-default-Row-clause-done
returns-in_err-issue_row_command-in-Some-default-Row-clause-done c s channel steps mail stands at f =
    let p = err_from_is_err_and c.from_residual-in_err-issue_row_command-in-Some-default-Row.result c.from_residual-in_err-issue_row_command-in-Some-default-Row.ensures.1 in
    IfOk-from_err c.from_residual-in_err-issue_row_command-in-Some-default-Row.result _ (ap is_err p.1)

pub returns-in_err-refresh_rank-in-Some-default-Refresh-clause-done : goal.returns-in_err-refresh_rank-in-Some-default-Refresh-clause-done
returns-in_err-refresh_rank-in-Some-default-Refresh-clause-done c s channel steps mail stands at f =
    let p = err_from_is_err_and c.from_residual-in_err-refresh_rank-in-Some-default-Refresh.result c.from_residual-in_err-refresh_rank-in-Some-default-Refresh.ensures.1 in
    IfOk-from_err c.from_residual-in_err-refresh_rank-in-Some-default-Refresh.result _ (ap is_err p.1)
