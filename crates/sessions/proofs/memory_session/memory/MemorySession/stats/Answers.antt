use Rattle.std.proofs.Common.{◌≡◌, ◌<◌, ◌≤◌, ◌∙◌, length, get_or, Some, refl, sym, ap, subst}
use Rattle.std.proofs.lemmas.Bool.{ltb-true, ltb-false, lt-ltb, le-ltb}
use Rattle.sessions.specs.Sessions.{statistics_of}
use Rattle.sessions.proofs.Kept.{channel-at}
use Rattle.sessions.proofs.memory_session.memory.MemorySession.stats.Goals as goal

pub returns-in-Some : goal.returns-in-Some
returns-in-Some c = λ pasts h.
    let m = c.args.self.now in
    let number = c.args.number in
    let session = c.in-Some.session.now in
    let lent = c.deref.ensures.value in
    let found = (c.in-Some.ensures {u = tt}).lookup in
    let inside : number < length m.sessions.items = subst (λ l. number < length l) lent (ltb-true _ _ (sym found.0)) in
    let is : session ≡ get_or m.sessions.items number session = found.1 ∙ ap (λ l. get_or l number session) lent in
    let channel = channel-at m pasts number session session h inside is in
    rw (lt-ltb number m.config.channels (subst (λ n. number < n) h.count_is inside))
    (ap Some (c.stats.ensures (pasts.past number) channel.is_session ∙ ap (statistics_of (pasts.past number)) channel.cycle_is))

pub returns-in-None : goal.returns-in-None
returns-in-None c = λ pasts h.
    let m = c.args.self.now in
    let number = c.args.number in
    let found = (c.in-None.ensures {u = tt}).lookup in
    let outside : length m.sessions.items ≤ number = subst (λ l. length l ≤ number) c.deref.ensures.value (ltb-false _ _ (sym found.0)) in
    rw (le-ltb number m.config.channels (subst (λ n. n ≤ number) h.count_is outside)) refl
