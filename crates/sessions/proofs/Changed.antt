-- The channels of a memory, when one of them is changed.
use Rattle.std.proofs.Common.{◌≡◌, ℕ, ◌+◌, ◌<◌, Bool, true, false, eqb, List, [], ◌∷◌, ◌++◌, length, get_or, refl, sym, subst, arith}
use Rattle.std.specs.Prelude.{slice_set, if◌then◌else◌}
use Rattle.std.proofs.lemmas.Bool.{eqb-true}
use Rattle.std.proofs.lemmas.Bool.Decides.{nat_tests}
use Rattle.std.proofs.lemmas.List.{get_or-set_same, get_or-set_other, length-set, length-append, get_or_append_left}
use Rattle.std.proofs.Math.Seq.{get_or-append_seam}
use Rattle.sim_base.specs.declared.config.Config.{Config}
use Rattle.sessions.specs.Sessions.{Past}
use Rattle.sessions.specs.declared.channel_session.session.Session.{Session}
use Rattle.sessions.specs.Memories.{Pasts, IsChannelOf, with_past}
use Rattle.sessions.proofs.Earliest.{below-more}

-- the channels of a memory have these pasts
abbrev pub AreChannels : Config → ℕ → Pasts → List Session → Type 0
AreChannels s now pasts sessions = (k : ℕ) (other : Session) → k < length sessions → IsChannelOf s now (pasts.past k) k (get_or sessions k other)

-- one is another one now
pub one-changed : (s : Config) (now : ℕ) (pasts : Pasts) (sessions : List Session) (number : ℕ) (session : Session) (p : Past) → number < length sessions
    → AreChannels s now pasts sessions → IsChannelOf s now p number session → AreChannels s now (with_past pasts number p) (slice_set sessions number session)
one-changed s now pasts sessions number session p inside h new k other l = by (eqb k number) refl
  where
    unequal : eqb k number ≡ false → k ≡ number → ⊥
    unequal e same = grind (arith, nat_tests)

    at : k < length sessions
    at = let e : length (slice_set sessions number session) ≡ length sessions = length-set sessions number session in omega arith

    by : (b : Bool) → eqb k number ≡ b → IsChannelOf s now (if b then p else pasts.past k) k (get_or (slice_set sessions number session) k other)
    by true e =
        let same : number ≡ k = sym (eqb-true _ _ e) in
        subst (λ j. IsChannelOf s now p j (get_or (slice_set sessions number session) j other)) same
        (subst (IsChannelOf s now p number) (sym (get_or-set_same sessions number session other inside)) new)
    by false e = subst (IsChannelOf s now (pasts.past k) k) (sym (get_or-set_other sessions number k session other (unequal e))) (h k other at)

-- one more is opened
pub one-more : (s : Config) (now : ℕ) (pasts : Pasts) (sessions : List Session) (session : Session) → AreChannels s now pasts sessions
    → IsChannelOf s now (pasts.past (length sessions)) (length sessions) session → AreChannels s now pasts (sessions ++ session ∷ [])
one-more s now pasts sessions session h new k other l =
    let len : length (sessions ++ session ∷ []) ≡ length sessions + 1 = length-append sessions (session ∷ []) in
    below-more (λ j. IsChannelOf s now (pasts.past j) j (get_or (sessions ++ session ∷ []) j other)) (length sessions)
    (λ j m. subst (IsChannelOf s now (pasts.past j) j) (sym (get_or_append_left sessions (session ∷ []) other j m)) (h j other m))
    (subst (IsChannelOf s now (pasts.past (length sessions)) (length sessions)) (sym (get_or-append_seam sessions session [] other)) new) k (omega arith)
