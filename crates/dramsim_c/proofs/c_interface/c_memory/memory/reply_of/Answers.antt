use Rattle.std.proofs.Common.{◌∙◌, ap}
use Rattle.sessions.specs.Sessions.{core_of}
use Rattle.sim_base.specs.declared.config.Config.{Config}
use Rattle.dramsim_c.proofs.CInterface.Giving.{reply-given, row-to}
use Rattle.dramsim_c.proofs.c_interface.c_memory.memory.reply_of.Goals as goal

pub returns-in-Some-clause-next : goal.returns-in-Some-clause-next
returns-in-Some-clause-next c pasts h =
    let next = c.in-Some.ensures {u = tt} in
    let reply = c.in-Some.reply in
    record {
      reply = reply;
      is_next = next.next pasts h;
      row_is = c.of.ensures ∙ ap (row-to reply) (c.core_of.ensures ∙ ap (λ (s : Config). core_of s reply) next.config);
    }

pub returns-in-Some-clause-taken : goal.returns-in-Some-clause-taken
returns-in-Some-clause-taken c pasts h =
    let next = c.in-Some.ensures {u = tt} in
    reply-given c.next_reply.new.self _ c.args.memory.now.cycle c.in-Some.number pasts c.in-Some.reply (next.next pasts h) (next.taken pasts h)

pub returns-in-None-clause-taken : goal.returns-in-None-clause-taken
returns-in-None-clause-taken c pasts h = (c.in-None.ensures {u = tt}).taken pasts h
