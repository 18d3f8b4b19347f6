use Rattle.std.proofs.Common.{◌≡◌, ◌+◌, ◌<◌, ◌∙◌, length, sym, ap, subst, arith}
use Rattle.std.specs.Prelude.{slice_set}
use Rattle.std.proofs.lemmas.List.{set-get_or}
use Rattle.sessions.specs.Ahead.{IsNextAct}
use Rattle.sessions.specs.Memories.{IsNextActOf}
use Rattle.sessions.proofs.Acts.{acts-next}
use Rattle.sessions.proofs.Kept.{channel-in, same-memory}
use Rattle.sessions.proofs.memory_session.memory.MemorySession.next_act.Goals as goal

pub next_act-requires : goal.next_act-requires
next_act-requires c =
    let m = c.args.self.now in
    let number = c.loop-number.number in
    let inside : number < length m.sessions.items = let a = c.loop-number-test.true in let b = c.len-number-end.ensures in omega arith in
    let h = c.requires.open.is_memory in
    let channel = channel-in m c.requires.open.pasts number _ c.index_mut.result.now _ h inside c.loop-number.invariant.sessions c.index_mut.ensures.value in
    record { «open» = record { past = c.requires.open.pasts.past number; is_session = channel.is_session } }

pub loop-number-preserved : goal.loop-number-preserved
loop-number-preserved c =
    let m = c.args.self.now in
    let number = c.loop-number.number in
    let kept = c.loop-number.invariant in
    let items = c.loop-number.self.sessions.items in
    let inside : number < length m.sessions.items = let a = c.loop-number-test.true in let b = c.len-number-end.ensures in omega arith in
    record {
      sessions = ap (slice_set items number) (c.next_act.ensures.same ∙ c.index_mut.ensures.value) ∙ set-get_or items number _ ∙ kept.sessions;
      config = kept.config;
      cycle = kept.cycle;
      next = λ pasts h.
          let channel = channel-in m pasts number _ c.index_mut.result.now _ h inside kept.sessions c.index_mut.ensures.value in
          subst (IsNextActOf (number + 1) pasts m.cycle) (sym c.earlier-first.ensures)
          (acts-next number pasts m.cycle c.loop-number.first c.next_act.result (kept.next pasts h)
          (subst (λ n. IsNextAct (pasts.past number) n c.next_act.result) channel.cycle_is (c.next_act.ensures.next (pasts.past number) channel.is_session)));
    }

pub returns-clause-next : goal.returns-clause-next
returns-clause-next c pasts h =
    let m = c.args.self.now in
    let end : c.loop-number.number ≡ m.config.channels = let a = c.loop-number.auto.number-end in let b = c.loop-number-test.false in let d = c.len-number-end.ensures in let e = h.count_is in omega arith in
    subst (λ n. IsNextActOf n pasts m.cycle c.loop-number.first) end (c.loop-number.invariant.next pasts h)

pub returns-clause-left : goal.returns-clause-left
returns-clause-left c pasts h =
    let kept = c.loop-number.invariant in
    same-memory c.args.self.now c.loop-number.self pasts kept.sessions kept.config kept.cycle h

pub returns-clause-open : goal.returns-clause-open
returns-clause-open c =
    let kept = c.loop-number.invariant in
    record { pasts = c.requires.open.pasts; is_memory = same-memory c.args.self.now c.loop-number.self c.requires.open.pasts kept.sessions kept.config kept.cycle c.requires.open.is_memory }
