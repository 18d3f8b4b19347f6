use Rattle.std.proofs.Common.{◌≡◌, ◌<◌, ◌∙◌, ℕ, List, length, get_or, sym, ap, subst}
use Rattle.sessions.specs.declared.channel_session.session.Session.{Session}
use Rattle.sessions.specs.Memories.{MayRun, HasRunTo}
use Rattle.sessions.proofs.Changed.{AreChannels}
use Rattle.sessions.proofs.Kept.{may-run, memory-ran, lent-back}
use Rattle.sessions.proofs.memory_session.memory.MemorySession.advance.Goals as goal

pub run_all-requires : goal.run_all-requires
run_all-requires c =
    let m = c.args.self.now in
    let until = c.args.until in
    record { may = subst (λ (xs : List Session). (k : ℕ) (other : Session) → k < length xs → MayRun until (get_or xs k other)) (sym c.deref_mut.ensures.value) (may-run m until c.requires.open c.requires.passed) }

pub returns-clause-done : goal.returns-clause-done
returns-clause-done c pasts h =
    let m = c.args.self.now in
    let until = c.args.until in
    let ran = c.in_ok-run_all.ensures {u = tt} in
    let lent = c.deref_mut.ensures.value in
    let now = c.run_all.new.sessions in
    let count : length now ≡ length m.sessions.items = ran.count ∙ ap length lent in
    let all = subst (λ (xs : List Session). (k : ℕ) (other : Session) → k < length xs → HasRunTo until (get_or xs k other) (get_or now k other)) lent ran.done in
    let back = lent-back m.sessions.len m.sessions.items now m.sessions.ok.0 count in
    record {
      count_is = ap length back ∙ count ∙ h.count_is;
      each = subst (AreChannels m.config until pasts) (sym back) (memory-ran m pasts until now h count all);
    }
