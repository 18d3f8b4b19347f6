-- What a status says of the outcome of a call.
use Rattle.std.proofs.Common.{◌≡◌, ◌≢◌, ◌<◌, inl, inr, ℕ, Bool, true, false, Option, Some, None, Result, Ok, Err, IfErr, OnOk, OnErr, refl, sym, ap, subst, ◌∙◌, lit<, arith}
use Rattle.sessions.specs.declared.channel_session.fault.SessionFault.{SessionFault}
use Rattle.sessions.specs.declared.channel_session.fault.SessionFault.TheVariants as refused
use Rattle.sim_base.specs.declared.fault.Fault.{Fault}
use Rattle.sim_base.specs.declared.fault.Fault.TheVariants as fault
use Rattle.dramsim_c.specs.CInterface.Kept.{IsWellAt, IsThere, IsCallAnswer}
use Rattle.dramsim_c.specs.CInterface.Statuses.{session_number, fault_number, status, IsStatus}
use Rattle.dramsim_c.specs.declared.c_interface.fault.CallFault.{CallFault}
use Rattle.dramsim_c.specs.declared.c_interface.fault.CallFault.TheVariants as call

-- no refusal has the number 0
session-positive : (f : SessionFault) → 0 < session_number f
session-positive refused.Memory = lit< tt
session-positive refused.NoSuchChannel = lit< tt
session-positive refused.NoSuchCore = lit< tt
session-positive refused.OtherChannel = lit< tt
session-positive refused.InThePast = lit< tt
session-positive refused.OutOfOrder = lit< tt
session-positive refused.EntryPassed = lit< tt
session-positive refused.NoCredit = lit< tt
session-positive refused.EndPassed = lit< tt
session-positive refused.EndTooLate = lit< tt

configuration-positive : (f : Fault) → 0 < fault_number (call.Configuration f)
configuration-positive fault.Memory = lit< tt
configuration-positive fault.ConfigSyntax = lit< tt
configuration-positive (fault.ConfigKey key) = lit< tt
configuration-positive (fault.ConfigRange key) = lit< tt
configuration-positive (fault.ConfigRelation number) = lit< tt
configuration-positive (fault.TraceLine core line cause) = lit< tt
configuration-positive (fault.TraceTooLong core) = lit< tt
configuration-positive fault.TraceCount = lit< tt
configuration-positive fault.Workers = lit< tt
configuration-positive fault.Cycles = lit< tt
configuration-positive fault.WorkerStart = lit< tt
configuration-positive fault.Write = lit< tt
configuration-positive fault.Read = lit< tt
configuration-positive fault.CommandLine = lit< tt
configuration-positive (fault.CheckRow row) = lit< tt
configuration-positive (fault.Merge cause) = lit< tt

positive : (f : CallFault) → 0 < fault_number f
positive call.Closed = lit< tt
positive call.AlreadyOpen = lit< tt
positive (call.Configuration f) = configuration-positive f
positive (call.Session f) = session-positive f
positive call.NoSuchPlace = lit< tt
positive call.TooShort = lit< tt
positive call.BreaksRule = lit< tt
positive call.Malformed = lit< tt

-- the status is 0: it was done
pub done : (Holds : Type 0) (r : Result (Unit {0}) CallFault) (n : ℕ) → n ≡ status r → OnOk r Holds → n ≡ 0 → Holds
done Holds (Ok x) n is h zero = h
done Holds (Err f) n is h zero = let p = positive f in absurd (omega arith)

-- it is not: it was refused
pub not-done : (Holds : Type 0) (r : Result (Unit {0}) CallFault) (n : ℕ) → n ≡ status r → OnErr r Holds → n ≢ 0 → Holds
not-done Holds (Ok x) n is h some = absurd (some is)
not-done Holds (Err f) n is h some = h

-- it is neither 0 nor 1: it was refused, and not for memory
pub not-memory : (Holds : Type 0) (r : Result (Unit {0}) CallFault) (n : ℕ) → n ≡ status r → IfErr r (λ e. e ≢ call.Session refused.Memory → Holds) → n ≢ 0 → n ≢ 1 → Holds
not-memory Holds (Ok x) n is h some other = absurd (some is)
not-memory Holds (Err f) n is h some other = h (λ same. other (is ∙ ap fault_number same))

-- it is not 1: it was done, or refused and not for memory
pub kept : (Holds : Type 0) (r : Result (Unit {0}) CallFault) (n : ℕ) → n ≡ status r → OnOk r Holds → IfErr r (λ e. e ≢ call.Session refused.Memory → Holds) → n ≢ 1 → Holds
kept Holds (Ok x) n is h left other = h
kept Holds (Err f) n is h left other = left (λ same. other (is ∙ ap fault_number same))

-- the status of a call whose session refuses it so
pub status-of : (o : Option SessionFault) (r : Result (Unit {0}) CallFault) (n : ℕ) → n ≡ status r → IsCallAnswer {A = Unit {0}} o r → IsStatus o n
status-of (Some f) r n is h = is ∙ ap status h
status-of None (Ok x) n is h = inl is
status-of None (Err f) n is h = inr (is ∙ ap fault_number h)

-- of a session's refusals only that for memory has the number 1
session-memory : (f : SessionFault) → session_number f ≡ 1 → f ≡ refused.Memory
session-memory refused.Memory h = refl
session-memory refused.NoSuchChannel h = absurd (omega arith)
session-memory refused.NoSuchCore h = absurd (omega arith)
session-memory refused.OtherChannel h = absurd (omega arith)
session-memory refused.InThePast h = absurd (omega arith)
session-memory refused.OutOfOrder h = absurd (omega arith)
session-memory refused.EntryPassed h = absurd (omega arith)
session-memory refused.NoCredit h = absurd (omega arith)
session-memory refused.EndPassed h = absurd (omega arith)
session-memory refused.EndTooLate h = absurd (omega arith)

lost-by : (Holds : Type 0) (o : Option SessionFault) (r : Result (Unit {0}) CallFault) (n : ℕ) → IsCallAnswer {A = Unit {0}} o r → IfErr r (λ e. e ≡ call.Session refused.Memory → Holds)
    → n ≡ status r → n ≡ 1 → Holds
lost-by Holds o (Ok x) n answer h is one = absurd (omega arith)
lost-by Holds None (Err f) n answer h is one = h answer
lost-by Holds (Some g) (Err f) n answer h is one =
    let number : n ≡ session_number g = is ∙ ap status answer in
    subst (λ (r : Result (Unit {0}) CallFault). IfErr r (λ e. e ≡ call.Session refused.Memory → Holds)) answer h (ap call.Session (session-memory g (sym number ∙ one)))

-- the status is 1: what was run is closed
pub lost : {A : Type 0} (IsFit : A → Type 0) (Holds : Type 0) (is_open : Bool) (value : Option A) (refusal : A → Option SessionFault) (r : Result (Unit {0}) CallFault) (n : ℕ)
    → IsWellAt IsFit is_open value → (is_open ≡ false → r ≡ Err call.Closed) → ((a : A) → value ≡ Some a → IsFit a → IsCallAnswer {A = Unit {0}} (refusal a) r)
    → IfErr r (λ e. e ≡ call.Session refused.Memory → Holds) → n ≡ status r → n ≡ 1 → Holds
lost IsFit Holds true (Some a) refusal r n well closed answer h is one = lost-by Holds (refusal a) r n (answer a refl well) h is one
lost IsFit Holds true None refusal r n well closed answer h is one = absurd well
lost IsFit Holds false value refusal r n well closed answer h is one = let number : n ≡ 2 = is ∙ ap status (closed refl) in absurd (omega arith)

-- what holds by the value that is kept
pub by-value : {A : Type 0} (IsFit : A → Type 0) (Holds : Type 0) (value : Option A) → IsThere IsFit value → ((a : A) → value ≡ Some a → IsFit a → Holds) → Holds
by-value IsFit Holds (Some a) h k = k a refl h
by-value IsFit Holds None h k = absurd h
