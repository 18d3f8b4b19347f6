use Rattle.std.proofs.Common.{◌≡◌, ◌<◌, ◌≤◌, ℕ, Result, Err, refl, arith}
use Rattle.std.specs.Prelude.{IfErr}
use Rattle.std.proofs.lemmas.Bool.{lt-ltb, le-ltb}
use Rattle.std.proofs.lemmas.Result.{IfOk-from_err}
use Rattle.sim_base.specs.declared.config.Config.{Config}
use Rattle.sessions.specs.Sessions.{no_past, number_refusal, IsAnswer}
use Rattle.sessions.specs.declared.channel_session.fault.SessionFault.{SessionFault}
use Rattle.sessions.specs.declared.channel_session.fault.SessionFault.TheVariants.{NoSuchChannel, Memory}
use Rattle.sessions.specs.declared.channel_session.session.Session.{Session}
use Rattle.sessions.proofs.channel_session.session.Session.open.Goals as goal

no-channel : (s : Config) (number : ℕ) (r : Result Session SessionFault) → s.channels ≤ number → r ≡ Err NoSuchChannel → IsAnswer (number_refusal s number) r
no-channel s number r above is = rw (le-ltb number s.channels above) is

a-channel : (s : Config) (number : ℕ) (r : Result Session SessionFault) → number < s.channels → IfErr r (λ e. e ≡ Memory) → IsAnswer (number_refusal s number) r
a-channel s number r below is = rw (lt-ltb number s.channels below) is

pub returns-then-from-number-clause-answer : goal.returns-then-from-number-clause-answer
returns-then-from-number-clause-answer c = no-channel c.args.config.now c.args.number _ (omega arith) refl

pub returns-then-from-number-clause-opened : goal.returns-then-from-number-clause-opened
returns-then-from-number-clause-opened c = tt

pub returns-then-from-number-clause-now : goal.returns-then-from-number-clause-now
returns-then-from-number-clause-now c = tt

pub returns-then-from-number-clause-open : goal.returns-then-from-number-clause-open
returns-then-from-number-clause-open c = tt

pub returns-in_err-start-clause-opened : goal.returns-in_err-start-clause-opened
returns-in_err-start-clause-opened c = IfOk-from_err c.from_residual.result _ c.from_residual.ensures.0

pub returns-in_err-start-clause-now : goal.returns-in_err-start-clause-now
returns-in_err-start-clause-now c = IfOk-from_err c.from_residual.result _ c.from_residual.ensures.0

pub returns-in_err-start-clause-open : goal.returns-in_err-start-clause-open
returns-in_err-start-clause-open c = IfOk-from_err c.from_residual.result _ c.from_residual.ensures.0

pub returns-clause-answer : goal.returns-clause-answer
returns-clause-answer c = a-channel c.args.config.now c.args.number _ (omega arith) tt

pub returns-clause-opened : goal.returns-clause-opened
returns-clause-opened c = (c.in_ok-start.ensures {u = tt}).opened

pub returns-clause-now : goal.returns-clause-now
returns-clause-now c = (c.in_ok-start.ensures {u = tt}).now

pub returns-clause-open : goal.returns-clause-open
returns-clause-open c = record { past = no_past c.args.config.now c.args.number; is_session = (c.in_ok-start.ensures {u = tt}).opened }
