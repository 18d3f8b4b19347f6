use Rattle.std.proofs.Common.{◌≡◌, ◌++◌, get_or, sym, ap, ap₂, subst, ◌∙◌, arith, length, ◌<◌}
use Rattle.std.proofs.lemmas.Result.{on_ok_weaker}
use Rattle.sim_base.specs.declared.config.Config.{Config}
use Rattle.sim_base.specs.History.{messages_of}
use Rattle.sim_base.specs.Scheduling.{column_command}
use Rattle.queue.specs.declared.request_log.Arrived.{Arrived}
use Rattle.queue.specs.Log.{absent, LogView}
use Rattle.channel_step.specs.Latencies.{answer_latencies}
use Rattle.channel_step.specs.Queued.{request_at}
use Rattle.channel_step.specs.Readied.{IsReadied}
use Rattle.channel_step.proofs.Issuing.{has-issued}
use Rattle.channel_step.proofs.channel.Channel.issue_column_command.Goals as goal

pub issue-requires-clause-ready : goal.issue-requires-clause-ready
issue-requires-clause-ready c =
    let x = c.args.self.now in
    let p = c.requires.doing in
    let read : get_or c.log-2.result.now c.args.place absent ≡ get_or x.queue.log c.args.place absent =
    ap (λ l. get_or l c.args.place absent) (c.log-2.ensures.log ∙ ap (λ (v : LogView). v.log) c.log.ensures) in
    record {
      past = p.past;
      is_readied =
          subst (λ z. IsReadied c.serve.new.self p.past z c.in_ok-hit.hit) (sym (c.column_command.ensures ∙ ap (λ (a : Arrived). column_command a.request) read))
          (c.in_ok-hit.ensures {u = tt} p.past p.is_in p.is_chosen);
    }

pub returns : goal.returns
returns c past h chosen =
    let x = c.args.self.now in
    let r = request_at x.queue.log c.args.place in
    let read : get_or c.log-2.result.now c.args.place absent ≡ get_or x.queue.log c.args.place absent =
    ap (λ l. get_or l c.args.place absent) (c.log-2.ensures.log ∙ ap (λ (v : LogView). v.log) c.log.ensures) in
    let is = c.column_command.ensures ∙ ap (λ (a : Arrived). column_command a.request) read in
    let ready = subst (λ z. IsReadied c.serve.new.self past z c.in_ok-hit.hit) (sym is) (c.in_ok-hit.ensures {u = tt} past h chosen) in
    let stands = c.issue.ensures.stands past ready in
    let before = c.args.messages.now.items in
    on_ok_weaker c.send.result
    (λ told. has-issued c.serve.new.self c.issue.new.self past (column_command r) c.column_command.result c.in_ok-hit.hit c.args.commands.now c.issue.new.commands before c.send.new.messages.items ready is stands
    (c.in_ok-issue.ensures {u = tt}).commands
    (told
    ∙ ap (λ (a : Arrived). before ++ messages_of c.issue.new.self.config c.issue.new.self.number x.cycle (column_command a.request)) read
    ∙ ap (λ (z : Config). before ++ messages_of z c.issue.new.self.number x.cycle (column_command r)) stands.made_for.config_is
    ∙ ap₂ (λ number t. before ++ messages_of past.config number t (column_command r)) stands.made_for.number_is h.is_in.cycle_is))
    c.send.ensures

pub bounds-log-place : goal.bounds-log-place
bounds-log-place c =
    subst (λ l. c.args.place < length l) (sym (c.log-2.ensures.log ∙ ap (λ (v : LogView). v.log) c.log.ensures)) c.requires.doing.within

pub serve-requires-clause-doing : goal.serve-requires-clause-doing
serve-requires-clause-doing c = c.requires.doing

pub serve-requires-clause-early : goal.serve-requires-clause-early
serve-requires-clause-early c = c.requires.early

pub issue-requires-clause-early : goal.issue-requires-clause-early
issue-requires-clause-early c =
    let p = c.requires.doing in
    let ready = c.in_ok-hit.ensures {u = tt} p.past p.is_in p.is_chosen in
    omega (arith, ready.cycle_is, p.is_in.is_in.cycle_is, c.requires.early)

pub send-requires-clause-early : goal.send-requires-clause-early
send-requires-clause-early c = c.requires.early

pub send-requires-clause-latencies : goal.send-requires-clause-latencies
send-requires-clause-latencies c =
    let x = c.args.self.now in
    let p = c.requires.doing in
    let read : get_or c.log-2.result.now c.args.place absent ≡ get_or x.queue.log c.args.place absent =
    ap (λ l. get_or l c.args.place absent) (c.log-2.ensures.log ∙ ap (λ (v : LogView). v.log) c.log.ensures) in
    let is = c.column_command.ensures ∙ ap (λ (a : Arrived). column_command a.request) read in
    let ready = subst (λ z. IsReadied c.serve.new.self p.past z c.in_ok-hit.hit) (sym is) (c.in_ok-hit.ensures {u = tt} p.past p.is_in p.is_chosen) in
    let stands = c.issue.ensures.stands p.past ready in
    c.deref.ensures.value
    ∙ stands.made_for.latencies_are
    ∙ ap₂ answer_latencies (sym stands.made_for.config_is) (sym stands.made_for.number_is)
