use Rattle.std.proofs.Common.{Some, None, arith}
use Rattle.sim_base.specs.declared.message.Message.{Message}
use Rattle.sessions.specs.Sessions.{next_reply_of}
use Rattle.sessions.specs.Memories.{with_reply_of}
use Rattle.sessions.proofs.Kept.{reply-taken, none-taken, next-now, few-channels}
use Rattle.sessions.proofs.memory_session.memory.MemorySession.take_reply.Goals as goal

pub overflow_cast-result : goal.overflow_cast-result
overflow_cast-result c = let few = few-channels c.args.self.now c.args.number c.requires.open c.requires.inside in omega arith

pub returns-in-Some-clause-next : goal.returns-in-Some-clause-next
returns-in-Some-clause-next c pasts h =
    next-now c.args.self.now pasts c.args.number _ c.index_mut.result.now next_reply_of (λ (x : Message). (c.args.number, x)) (Some c.in-Some.reply) c.requires.inside c.index_mut.ensures.value h (c.in-Some.ensures {u = tt}).next

pub returns-in-Some-clause-taken : goal.returns-in-Some-clause-taken
returns-in-Some-clause-taken c pasts h =
    reply-taken c.args.self.now pasts c.args.number _ c.index_mut.result.now c.next_reply.new.self c.in-Some.reply c.requires.inside c.index_mut.ensures.value h c.next_reply.ensures.now (c.in-Some.ensures {u = tt}).taken

pub returns-in-None-clause-next : goal.returns-in-None-clause-next
returns-in-None-clause-next c pasts h =
    next-now c.args.self.now pasts c.args.number _ c.index_mut.result.now next_reply_of (λ (x : Message). (c.args.number, x)) None c.requires.inside c.index_mut.ensures.value h (c.in-None.ensures {u = tt}).next

pub returns-in-None-clause-taken : goal.returns-in-None-clause-taken
returns-in-None-clause-taken c pasts h =
    none-taken c.args.self.now pasts c.args.number _ c.index_mut.result.now c.next_reply.new.self c.requires.inside c.index_mut.ensures.value h c.next_reply.ensures.now (c.in-None.ensures {u = tt}).taken

pub returns-in-Some-clause-open : goal.returns-in-Some-clause-open
returns-in-Some-clause-open c =
    let p = c.requires.open.pasts in
    record { pasts = with_reply_of p (Some (c.args.number, c.in-Some.reply)); is_memory = returns-in-Some-clause-taken c p c.requires.open.is_memory }

pub returns-in-None-clause-open : goal.returns-in-None-clause-open
returns-in-None-clause-open c = record { pasts = c.requires.open.pasts; is_memory = returns-in-None-clause-taken c c.requires.open.pasts c.requires.open.is_memory }
