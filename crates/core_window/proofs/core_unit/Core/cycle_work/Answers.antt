-- What the parts say of the fields of a core is what it finds out.
use Rattle.std.proofs.Common.{Bool, false, ◌≡◌, ◌&&◌, List, length, refl, sym, ap, ap₂, ◌∙◌, min, ltb, ◌-◌, ◌+◌, ◌<◌, ◌≤◌, subst, arith}
use Rattle.std.specs.Prelude.{slice_get}
use Rattle.std.proofs.lemmas.Bool.{lt-ltb, le-ltb}
use Rattle.sim_base.specs.History.{core_messages}
use Rattle.sim_base.specs.Windows.{lacks_credit}
use Rattle.core_window.specs.Causes.{first_undone, issue_count, cause_at}
use Rattle.core_window.specs.CoreViews.{view_of}
use Rattle.core_window.specs.OneCycle.{IsLast}
use Rattle.core_window.specs.declared.outstanding.OutstandingRead.{OutstandingRead}
use Rattle.statistics.specs.declared.final_state.Credits.{Credits}
use Rattle.core_window.proofs.Stopping.{is_last}
use Rattle.core_window.proofs.Working.{IsSound, sound, cycle_work-is, lacks_here, lazy-count, issues_within}
use Rattle.core_window.proofs.core_unit.Core.cycle_work.Goals as goal
use Rattle.core_window.proofs.core_unit.Core.cycle_work.Goals.{then-self-near, else-self-near}

pub overflow_add-retired_by_end : goal.overflow_add-retired_by_end
overflow_add-retired_by_end c = let h : IsSound (view_of c.args.self.now) = sound _ c.requires in omega arith

pub returns-clause-does : goal.returns-clause-does
returns-clause-does c v s core trace steps mail i h =
    let a = view_of c.args.self.now in
    let first_at = c.args.self.now.ahead.first_at in
    let second_at = c.args.self.now.ahead.second_at in
    let r = c.retire_count-retired.result in
    let retired_by_end = a.stats.retired + r in
    let full : Bool = ltb first_at (length a.trace) && lacks_credit a.config core mail (core_messages s core trace steps) (length steps) (slice_get a.trace first_at) in
    let lack = λ (b : Bool). b && lacks_credit a.config core mail (core_messages s core trace steps) (length steps) (slice_get a.trace first_at) in
    let lacks = c.if-self-near.lacks in
    let seen = c.args.self.now.seen in
    let near : first_at < min (a.stats.issued + min a.config.width (a.config.window - (a.stats.issued - retired_by_end))) (length a.trace) → lacks ≡ full = λ l. elim c.if-self-near.branch [
      | then-self-near w ↦
          let inside : first_at < length a.trace = omega arith in
          w.lacks-is
          ∙ lacks_here s core trace steps mail a v c.args.self.now.ahead.entry w.is_without_credit-lacks.result i h
          (λ held says. w.is_without_credit-lacks.ensures a.config held c.args.self.now.known.placed (λ channel b. ap (λ (cs : List Credits). slice_get cs channel) w.deref.ensures.value ∙ says channel b))
          ∙ ap (lacks_credit a.config core mail (core_messages s core trace steps) (length steps)) (sym (seen.is_at inside))
          ∙ ap lack (sym (lt-ltb first_at (length a.trace) inside))
      | else-self-near w ↦ absurd (omega (arith, w.if-self-near.false, c.most_issued-near.ensures, c.from.ensures, c.len-len.ensures.value))
    ] in
    let far : min (a.stats.issued + min a.config.width (a.config.window - (a.stats.issued - retired_by_end))) (length a.trace) ≤ first_at → lacks ≡ false = λ g. elim c.if-self-near.branch [
      | then-self-near w ↦ absurd (omega (arith, w.if-self-near.true, c.most_issued-near.ensures, c.from.ensures, c.len-len.ensures.value))
      | else-self-near w ↦ w.lacks-is ∙ le-ltb first_at c.most_issued-near.result w.if-self-near.false
    ] in
    let count : c.issue_of-issue.result.count ≡ issue_count a.config.width a.config.window a.stats.issued retired_by_end first_at second_at full =
    c.issue_of-issue.ensures.count ∙ ap (λ n. issue_count a.config.width a.config.window a.stats.issued (a.stats.retired + n) first_at second_at lacks) c.from.ensures
    ∙ lazy-count a.trace a.config.width a.config.window a.stats.issued retired_by_end first_at second_at lacks full seen.ahead near far in
    let cause : cause_at a.config.width a.config.window (length a.trace) a.stats.issued retired_by_end second_at c.issue_of-issue.result.count ≡ c.issue_of-issue.result.why =
    sym (c.issue_of-issue.ensures.why
    ∙ ap₂ (λ n k. cause_at a.config.width a.config.window n a.stats.issued (a.stats.retired + k) second_at c.issue_of-issue.result.count) c.len-len.ensures.value c.from.ensures) in
    cycle_work-is s core trace steps mail (view_of c.args.self.now) v r first_at second_at full
    c.issue_of-issue.result.count c.issue_of-issue.result.why c.entry_issued-memory.result i h
    (record {
      retired = c.retire_count-retired.ensures ∙ ap (λ (ws : List OutstandingRead). min a.config.width (first_undone a.stats.issued ws - a.stats.retired)) c.as_slice-waiting.ensures;
      ahead = seen.ahead;
      credit = refl;
      last = λ may. subst
          (λ why. IsLast a.config core a.trace mail (core_messages s core trace steps) (length steps) a.stats.issued retired_by_end first_at second_at full c.issue_of-issue.result.count why) cause
          (is_last a.config core a.trace mail (core_messages s core trace steps) (length steps) a.stats.issued retired_by_end first_at second_at full may c.issue_of-issue.result.count count);
      issues = c.entry_issued-memory.ensures.issued a.trace seen
          (issues_within a.trace a.config.width a.config.window a.stats.issued retired_by_end first_at second_at c.issue_of-issue.result.count full seen.ahead (sound _ c.requires).issued count)
          (sound _ c.requires).issued;
      at = c.entry_issued-memory.ensures.at;
    })

pub returns-clause-within : goal.returns-clause-within
returns-clause-within c =
    let h : IsSound (view_of c.args.self.now) = sound _ c.requires in
    let a = view_of c.args.self.now in
    let retired_by_end = a.stats.retired + c.retire_count-retired.result in
    issues_within a.trace a.config.width a.config.window a.stats.issued retired_by_end c.args.self.now.ahead.first_at c.args.self.now.ahead.second_at c.issue_of-issue.result.count c.if-self-near.lacks c.args.self.now.seen.ahead h.issued
    (c.issue_of-issue.ensures.count ∙ ap (λ n. issue_count a.config.width a.config.window a.stats.issued (a.stats.retired + n) c.args.self.now.ahead.first_at c.args.self.now.ahead.second_at c.if-self-near.lacks) c.from.ensures)
