-- It lacks the credit by those that it holds.
use Rattle.std.proofs.Common.{◌<◌, ◌≤◌, List, length, sym, ap, ◌∙◌, inl, inr, arith}
use Rattle.std.specs.Prelude.{slice_get}
use Rattle.std.proofs.lemmas.Bool.{cases_lt}
use Rattle.statistics.specs.declared.final_state.Credits.{Credits}
use Rattle.core_window.specs.CoreViews.{view_of}
use Rattle.core_window.proofs.Sticking.{short-does}
use Rattle.core_window.proofs.Working.{lacks_here}
use Rattle.core_window.proofs.core_unit.Core.is_short_of_credit.Goals as goal

pub returns : goal.returns
returns c is =
    let a = view_of c.args.self.now in
    let ahead = c.args.self.now.ahead in
    let seen = c.args.self.now.seen in
    let inside : ahead.first_at < length a.trace = elim (cases_lt ahead.first_at (length a.trace)) [
      | inl below ↦ below
      | inr past ↦ absurd (omega (arith, seen.ahead.none past, past))
    ] in
    short-does a ahead.first_at ahead.second_at ahead.entry seen c.requires.waits (omega arith) (omega (arith, inside, seen.ahead.first.is_from)) c.requires.room
    (λ v s core trace steps mail i h.
    sym (lacks_here s core trace steps mail a v ahead.entry c.is_without_credit.result i h
    (λ held says. c.is_without_credit.ensures a.config held c.args.self.now.known.placed (λ channel b. ap (λ (cs : List Credits). slice_get cs channel) c.deref.ensures.value ∙ says channel b)))
    ∙ is)
