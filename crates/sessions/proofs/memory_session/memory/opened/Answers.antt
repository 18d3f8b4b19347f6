use Rattle.std.proofs.Common.{◌≡◌, ◌+◌, ◌∷◌, [], ◌∙◌, length, refl, sym, ap, subst}
use Rattle.std.proofs.lemmas.List.{length-append}
use Rattle.sessions.specs.Memories.{IsChannelOf, no_pasts}
use Rattle.sessions.proofs.Changed.{AreChannels, one-more}
use Rattle.sessions.proofs.memory_session.memory.opened.Goals as goal

pub loop-number-preserved : goal.loop-number-preserved
loop-number-preserved c =
    let s = c.args.config.now in
    let sessions = c.loop-number.sessions.items in
    let session = c.in_ok-open.field-0 in
    let opened = c.in_ok-open.ensures {u = tt} in
    let pushed = (c.in_ok-push.ensures {u = tt}).items in
    let count : length sessions ≡ c.loop-number.number = c.loop-number.invariant.count in
    let new : IsChannelOf s 0 ((no_pasts s).past c.loop-number.number) c.loop-number.number session = record { is_session = opened.opened; cycle_is = opened.now; config_is = refl; number_is = refl } in
    record {
      count = ap length pushed ∙ length-append sessions (session ∷ []) ∙ ap (λ n. n + 1) count;
      each = subst (AreChannels s 0 (no_pasts s)) (sym pushed) (one-more s 0 (no_pasts s) sessions session c.loop-number.invariant.each (subst (λ n. IsChannelOf s 0 ((no_pasts s).past n) n session) (sym count) new));
    }
