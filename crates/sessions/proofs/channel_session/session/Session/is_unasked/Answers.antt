use Rattle.std.proofs.Common.{◌≡◌, ◌-◌, ◌^◌, ◌<◌, ◌≤◌, ◌∙◌, ℕ, Bool, true, false, ◌&&◌, ltb, leb, List, length, get_or, refl, sym, ap, arith}
use Rattle.std.proofs.lemmas.Bool.{ltb-true, lt-ltb, le-ltb}
use Rattle.std.proofs.lemmas.List.{get_or_default}
use Rattle.sessions.specs.Sent.{is_unasked}
use Rattle.sessions.proofs.channel_session.session.Session.is_unasked.Goals as goal
use Rattle.sessions.proofs.channel_session.session.Session.is_unasked.Goals.{then-core-len, else-core-len}

-- where the core is there
of-core : (firsts : List ℕ) (core entry first : ℕ) (b : Bool) → core < length firsts → first ≡ get_or firsts core first → b ≡ leb first entry
    → (b && ltb entry (2 ^ 64 - 1)) ≡ is_unasked firsts core entry
of-core firsts core entry first b inside is e =
    let at : get_or firsts core 0 ≡ first = get_or_default firsts core 0 first inside ∙ sym is in
    rw (lt-ltb core (length firsts) inside, at) (ap (λ t. t && ltb entry (2 ^ 64 - 1)) e)

-- and where it is not
of-none : (firsts : List ℕ) (core entry : ℕ) → length firsts ≤ core → false ≡ is_unasked firsts core entry
of-none firsts core entry outside = rw (le-ltb core (length firsts) outside) refl

pub returns-then-index-request : goal.returns-then-index-request
returns-then-index-request c =
    let firsts = c.args.self.now.firsts.items in
    elim c.if-core-len.branch [
      | then-core-len w ↦ of-core firsts c.args.request.now.core c.args.request.now.entry w.index.result.now true (omega arith)
          (w.index.ensures ∙ ap (λ k. get_or firsts k w.index.result.now) c.from-core.ensures) (sym c.if-index-request.true ∙ w.value-is)
      | else-core-len w ↦ absurd (let inside = ltb-true _ _ (sym w.value-is ∙ c.if-index-request.true) in omega arith)
    ]

pub returns-else-index-request : goal.returns-else-index-request
returns-else-index-request c =
    let firsts = c.args.self.now.firsts.items in
    elim c.if-core-len.branch [
      | then-core-len w ↦ c.if-index-request.false ∙ of-core firsts c.args.request.now.core c.args.request.now.entry w.index.result.now false (omega arith)
          (w.index.ensures ∙ ap (λ k. get_or firsts k w.index.result.now) c.from-core.ensures) (sym c.if-index-request.false ∙ w.value-is)
      | else-core-len w ↦ c.if-index-request.false ∙ of-none firsts c.args.request.now.core c.args.request.now.entry (omega arith)
    ]
