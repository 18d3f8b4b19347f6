use Rattle.std.proofs.Common.{◌≡◌, ◌<◌, ◌≤◌, ◌^◌, ◌∙◌, ℕ, length, get_or, Result, Err, refl, sym, subst, arith, rules}
use Rattle.std.specs.Prelude.{IfErr}
use Rattle.std.proofs.lemmas.Bool.{le-ltb}
use Rattle.std.proofs.lemmas.List.{get_or_default}
use Rattle.std.proofs.Math.ListN.{length-set}
use Rattle.std.proofs.lemmas.Result.{IfOk-from_err}
use Rattle.sessions.specs.declared.channel_session.session.Session.{Session}
use Rattle.sessions.specs.declared.channel_session.fault.SessionFault.{SessionFault}
use Rattle.sessions.specs.declared.channel_session.fault.SessionFault.TheVariants.{Memory}
use Rattle.sessions.specs.Sessions.{IsOpen, end_refusal, IsAnswer}
use Rattle.sessions.specs.Memories.{HasRunTo}
use Rattle.sessions.proofs.Kept.{ran-more, left-more}
use Rattle.sessions.proofs.memory_session.memory.run_all.Goals as goal

pub run-requires : goal.run-requires
run-requires c =
    let index = c.loop-session.session-index in
    let session = c.session-item.result in
    let before = c.args.sessions.now in
    record { «open» = subst IsOpen (sym (c.loop-session.invariant.left index session (omega arith))) (c.requires.may index session c.loop-session-test.true).is_open }

pub loop-session-preserved : goal.loop-session-preserved
loop-session-preserved c =
    let index = c.loop-session.session-index in
    let session = c.session-item.result in
    let before = c.args.sessions.now in
    let now = c.loop-session.sessions in
    let done = c.in_ok-run.ensures {u = tt} in
    let same : length now ≡ length before = c.loop-session.auto.sessions in
    let inside : index < length before = c.loop-session-test.true in
    let was : get_or now index session ≡ get_or before index session = c.loop-session.invariant.left index session (omega arith) in
    let one : HasRunTo c.args.until (get_or now index session) c.run.new.self = record { past = done.done; now = done.now } in
    record {
      ran = ran-more c.args.until before now index c.run.new.self (omega arith) c.loop-session.invariant.ran c.loop-session.invariant.left
          (λ other. subst (λ x. HasRunTo c.args.until x c.run.new.self) (was ∙ get_or_default before index session other inside) one);
      left = left-more before now index c.run.new.self c.loop-session.invariant.left;
    }

pub loop-session-init : goal.loop-session-init
loop-session-init c = record { ran = λ k other below. absurd (omega arith); left = λ k other _. refl }

pub returns-clause-count : goal.returns-clause-count
returns-clause-count c = c.loop-session.auto.sessions

pub returns-clause-done : goal.returns-clause-done
returns-clause-done c = λ k other inside. c.loop-session.invariant.ran k other (omega arith)

pub returns-in_err-run-clause-count : goal.returns-in_err-run-clause-count
returns-in_err-run-clause-count c = length-set {A = Session} c.loop-session.sessions c.loop-session.session-index c.run.new.self ∙ c.loop-session.auto.sessions

pub returns-in_err-run-clause-done : goal.returns-in_err-run-clause-done
returns-in_err-run-clause-done c = IfOk-from_err c.from_residual.result _ c.from_residual.ensures.0

pub returns-clause-memory : goal.returns-clause-memory
returns-clause-memory c = tt

only-memory : (now until : ℕ) (r : Result (Unit {0}) SessionFault) → now ≤ until → until ≤ 2 ^ 62 → IsAnswer (end_refusal now until) r → IfErr r (λ e. e ≡ Memory)
only-memory now until r span in_time answer = rw (le-ltb until now span, le-ltb (2 ^ 62) until in_time) at answer

pub returns-in_err-run-clause-memory : goal.returns-in_err-run-clause-memory
returns-in_err-run-clause-memory c =
    let index = c.loop-session.session-index in
    let session = c.session-item.result in
    let same : get_or c.loop-session.sessions index session ≡ get_or c.args.sessions.now index session = c.loop-session.invariant.left index session (omega arith) in
    let may = c.requires.may index session c.loop-session-test.true in
    let kept : c.from_residual.result ≡ Err c.in_err-run.field-0.0 = search rules in
    rw kept (only-memory _ c.args.until _ (subst (λ x. x.cycle ≤ c.args.until) (sym same) may.span) may.in_time (c.in_err-run.ensures {u = tt}).answer)
