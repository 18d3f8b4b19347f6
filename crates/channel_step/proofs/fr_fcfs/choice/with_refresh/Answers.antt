-- What the rank needs goes as soon as it is due and legal, where nothing goes before it is due.
use Rattle.std.proofs.Common.{◌≡◌, ℕ, ◌<◌, ◌≤◌, None, Some, sym, subst, arith}
use Rattle.std.specs.Option.{IfSome}
use Rattle.sim_base.specs.Scheduling.{refresh_command}
use Rattle.channel_step.specs.FrFcfs.Choices.{command_of}
use Rattle.channel_step.specs.FrFcfs.Cycles.{IsNextAt, IsNext}
use Rattle.channel_step.proofs.FrFcfs.Waking.{IsRefreshed, next_later}
use Rattle.channel_step.proofs.fr_fcfs.choice.with_refresh.Goals as goal
use Rattle.channel_step.proofs.fr_fcfs.choice.with_refresh.Goals.{in_default-next-via-in-Some-next+else-cycle-due, in_default-next-via-in_default-next}

pub returns-in_default-next-clause-next : goal.returns-in_default-next-clause-next
returns-in_default-next-clause-next c s history log commands rest now stands bank_candidates groups late is next =
    let due = c.in-Some.due in
    let command = refresh_command s history c.args.rank in
    let needs = command_of s history log in
    let ready = c.refresh_ready-ready in
    let from = subst (λ o. IfSome o (λ cycle. now ≤ cycle)) c.in-Some.is late in
    let refreshed = subst (λ o. IsRefreshed s history command o now commands rest) c.in-Some.is is in
    let none : (t : ℕ) → now ≤ t → t < due → rest t ≡ None = elim c.in_default-next.branch [
      | in_default-next-via-in-Some-next+else-cycle-due w ↦
          let before = subst (IsNext rest needs now) w.in-Some-next.is next in λ t later sooner. before.none_before t later (omega arith)
      | in_default-next-via-in_default-next w ↦ let never = subst (IsNext rest needs now) w.in_default-next.is next in λ t later sooner. never t later
    ] in
    let first = next_later s history command due ready.result now commands rest refreshed (ready.ensures s history stands bank_candidates groups) from none in
    subst (λ k. IsNextAt commands now k (Some command)) (sym c.max.ensures) first
