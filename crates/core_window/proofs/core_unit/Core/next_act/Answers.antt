-- A core retires an entry that is done, and does nothing where its window is full of others.
use Rattle.std.proofs.Common.{refl, subst, List, ◌<◌, ◌≤◌, arith, ⊎_elim}
use Rattle.std.proofs.lemmas.Bool.{cases_lt, false≢true}
use Rattle.core_window.specs.Causes.{first_undone}
use Rattle.core_window.specs.CoreViews.{view_of}
use Rattle.core_window.specs.declared.outstanding.OutstandingRead.{OutstandingRead}
use Rattle.core_window.proofs.Resting.{rest-standing, retires-first}
use Rattle.core_window.proofs.Sticking.{stalled-rests}
use Rattle.core_window.proofs.Working.{sound}
use Rattle.core_window.proofs.core_unit.Core.next_act.Goals as goal

pub returns-then-is_next_done : goal.returns-then-is_next_done
returns-then-is_next_done c s core trace steps mail h =
    let a = view_of c.args.self.now in
    retires-first s core trace steps mail a c.args.from c.requires.at (omega (arith, c.args.self.now.config.core_in_range.width_in))
    (subst (λ (ws : List OutstandingRead). a.stats.retired < first_undone a.stats.issued ws) c.as_slice.ensures (c.if-is_next_done.ensures.0 refl)) h

pub is_full-requires : goal.is_full-requires
is_full-requires c = (sound (view_of c.args.self.now) (rest-standing (view_of c.args.self.now) c.requires.stands)).retired

pub returns-then-is_full : goal.returns-then-is_full
returns-then-is_full c s core trace steps mail h =
    let a = view_of c.args.self.now in
    let undone : first_undone a.stats.issued a.outstanding ≤ a.stats.retired =
    subst (λ (ws : List OutstandingRead). first_undone a.stats.issued ws ≤ a.stats.retired) c.as_slice.ensures
    (⊎_elim (λ l. absurd (false≢true (c.if-is_next_done.ensures.1 l))) (λ g. g) (cases_lt a.stats.retired (first_undone a.stats.issued c.as_slice.result.now))) in
    stalled-rests s core trace steps mail a (sound a (rest-standing a c.requires.stands)).issued undone (c.if-is_full.ensures.0 refl) h
