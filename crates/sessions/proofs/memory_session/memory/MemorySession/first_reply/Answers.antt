use Rattle.std.proofs.Common.{◌≡◌, ◌+◌, ◌<◌, ◌∙◌, length, get_or, sym, ap, subst, arith}
use Rattle.std.specs.Prelude.{option_map}
use Rattle.sim_base.specs.declared.message.Message.{Message}
use Rattle.sessions.specs.Sessions.{next_reply_of}
use Rattle.sessions.specs.Earliest.{IsEarliest}
use Rattle.sessions.specs.Memories.{reply_arrivals}
use Rattle.sessions.proofs.Earliest.{earliest-more}
use Rattle.sessions.proofs.Kept.{channel-at}
use Rattle.sessions.proofs.memory_session.memory.MemorySession.first_reply.Goals as goal

pub loop-number-preserved : goal.loop-number-preserved
loop-number-preserved c pasts h =
    let m = c.args.self.now in
    let number = c.loop-number.number in
    let session = c.session-item.result in
    let lent = c.deref-session-items.ensures.value in
    let inside : number < length m.sessions.items = subst (λ l. number < length l) lent c.loop-number-test.true in
    let is : session ≡ get_or m.sessions.items number session = c.session-item.is ∙ ap (λ l. get_or l number session) lent in
    let channel = channel-at m pasts number session session h inside is in
    let cycle = c.reply_arrival.ensures (pasts.past number) channel.is_session ∙ ap (λ n. option_map (λ (x : Message). x.arrival) (next_reply_of (pasts.past number) n)) channel.cycle_is in
    subst (IsEarliest (reply_arrivals pasts m.cycle) (number + 1)) (sym c.earlier_numbered-first.ensures)
    (earliest-more (reply_arrivals pasts m.cycle) number c.loop-number.first c.reply_arrival.result (c.loop-number.invariant pasts h) (sym cycle))

pub returns : goal.returns
returns c pasts h =
    let m = c.args.self.now in
    let all : length c.deref-session-items.result.now ≡ length m.sessions.items = ap length c.deref-session-items.ensures.value in
    let end : c.loop-number.number ≡ length m.sessions.items = let a = c.loop-number.auto.number-end in let b = c.loop-number-test.false in omega arith in
    subst (λ n. IsEarliest (reply_arrivals pasts m.cycle) n c.loop-number.first) end (c.loop-number.invariant pasts h)
