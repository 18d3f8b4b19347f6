use Rattle.std.proofs.Common.{◌<◌, ◌∙◌, length, refl, sym, ap, arith}
use Rattle.sim_base.specs.Places.{place_of}
use Rattle.sim_base.specs.declared.config.Config.{Config}
use Rattle.sim_base.specs.declared.place.Place.{Place}
use Rattle.sessions.specs.Memories.{with_request_of}
use Rattle.sessions.proofs.Kept.{channel-in, answer-of, sent-to, left-at, sent-open}
use Rattle.sessions.proofs.memory_session.memory.MemorySession.send.Goals as goal

pub send_to-requires : goal.send_to-requires
send_to-requires c =
    let m = c.args.self.now in
    let place = c.place_of-place.result in
    let p = c.requires.open.pasts in
    let h = c.requires.open.is_memory in
    let inside : place.channel < length m.sessions.items = let a = c.place_of-place.ensures.channel in let b = h.count_is in omega arith in
    let channel = channel-in m p place.channel _ c.index_mut.result.now _ h inside refl c.index_mut.ensures.value in
    record { place = c.place_of-place.ensures.place ∙ ap (λ (s : Config). place_of s c.args.request.now.address) (sym (channel.is_session.config_is ∙ channel.config_is)) }

pub returns-clause-answer : goal.returns-clause-answer
returns-clause-answer c pasts other h =
    let m = c.args.self.now in
    let number = c.place_of-place.result.channel in
    let inside : number < length m.sessions.items = let a = c.place_of-place.ensures.channel in let b = h.count_is in omega arith in
    answer-of _ m pasts number other _ c.index_mut.result.now c.args.request.now c.send_to.result (ap (λ (p : Place). p.channel) c.place_of-place.ensures.place) inside c.index_mut.ensures.value h c.send_to.ensures.answer

pub returns-clause-sent : goal.returns-clause-sent
returns-clause-sent c pasts h =
    let m = c.args.self.now in
    let number = c.place_of-place.result.channel in
    let inside : number < length m.sessions.items = let a = c.place_of-place.ensures.channel in let b = h.count_is in omega arith in
    sent-to _ m pasts number _ c.index_mut.result.now c.send_to.new.self c.args.request.now c.send_to.result (ap (λ (p : Place). p.channel) c.place_of-place.ensures.place) inside c.index_mut.ensures.value h c.send_to.ensures.now c.send_to.ensures.sent

pub returns-clause-left : goal.returns-clause-left
returns-clause-left c pasts h =
    let m = c.args.self.now in
    let number = c.place_of-place.result.channel in
    let inside : number < length m.sessions.items = let a = c.place_of-place.ensures.channel in let b = h.count_is in omega arith in
    left-at _ m pasts number _ c.index_mut.result.now c.send_to.new.self c.send_to.result inside c.index_mut.ensures.value h c.send_to.ensures.now c.send_to.ensures.left

pub returns-clause-open : goal.returns-clause-open
returns-clause-open c =
    let p = c.requires.open.pasts in
    let h = c.requires.open.is_memory in
    sent-open _ _ p (with_request_of c.args.self.now.config p c.args.request.now) c.send_to.result (returns-clause-sent c p h) (returns-clause-left c p h)
