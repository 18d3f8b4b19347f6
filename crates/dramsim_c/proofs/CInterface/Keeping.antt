-- A session that a channel keeps, and how its answers are passed on.
use Rattle.std.proofs.Common.{◌≡◌, ◌⊎◌, inl, inr, ℕ, List, Bool, true, false, Option, Some, None, Result, Ok, Err, refl, sym, subst, ap, ◌∙◌, IfOk, IfErr, nat_lt, if◌then◌else◌}
use Rattle.config_reader.specs.Document.{document_of}
use Rattle.sessions.specs.Sessions.{IsOpen, IsAnswer, no_past, number_refusal}
use Rattle.sessions.specs.declared.channel_session.fault.SessionFault.{SessionFault}
use Rattle.sessions.specs.declared.channel_session.fault.SessionFault.TheVariants.{Memory, NoSuchChannel}
use Rattle.sessions.specs.declared.channel_session.session.Session.{Session}
use Rattle.sim_base.specs.Values.{Values, values_of}
use Rattle.sim_base.specs.declared.config.Config.{Config}
use Rattle.sim_base.specs.declared.fault.Fault.{Fault}
use Rattle.dramsim_c.specs.CInterface.Owned.{Holds}
use Rattle.dramsim_c.specs.CInterface.Channels.{IsNewSession, open_refusal}
use Rattle.dramsim_c.specs.CInterface.Kept.{IsWellAt, IsThere, IsMemory, IsOpenAnswer, IsCallAnswer}
use Rattle.dramsim_c.specs.declared.c_interface.fault.CallFault.{CallFault}
use Rattle.dramsim_c.specs.declared.c_interface.fault.CallFault.TheVariants as call

-- a session that is new has some past
pub new-is-open : (text : List ℕ) (number : ℕ) (session : Session) → IsNewSession text number session → IsOpen session
new-is-open text number session h = record { past = no_past h.config number; is_session = h.past }

-- what is open has a value that is fit
well-some : {A : Type 0} (IsFit : A → Type 0) (is_open : Bool) (value : A) → IsWellAt IsFit is_open (Some value) → IsFit value
well-some IsFit true value h = h
well-some IsFit false value h = absurd (subst Holds h tt)

pub well-open : {A : Type 0} (IsFit : A → Type 0) (is_open : Bool) (kept : Option A) (value : A) → Some value ≡ kept → IsWellAt IsFit is_open kept → IsFit value
well-open IsFit is_open kept value is h = well-some IsFit is_open value (subst (IsWellAt IsFit is_open) (sym is) h)

-- the answer of a session that refuses, and of one that does not, is that of the call
abbrev IsDone : Result (Unit {0}) SessionFault → Type 0
IsDone (Ok done) = Unit {0}
IsDone (Err fault) = ⊥

error-or : SessionFault → Result (Unit {0}) SessionFault → SessionFault
error-or other (Ok done) = other
error-or other (Err fault) = fault

pub refused : (o : Option SessionFault) (fault : SessionFault) → IsAnswer {A = Unit {0}} o (Err fault) → IsCallAnswer {A = Unit {0}} o (Err (call.Session fault))
unfolding error-or
refused (Some other) fault h = ap (λ (r : Result (Unit {0}) SessionFault). Err (call.Session (error-or fault r))) h
refused None fault h = ap call.Session h

pub passed : (o : Option SessionFault) (done : Unit {0}) → IsAnswer {A = Unit {0}} o (Ok done) → IsCallAnswer {A = Unit {0}} o (Ok done)
passed (Some other) done h = absurd (subst IsDone h tt)
passed None done h = tt

-- why a channel is not opened
session-error-or : SessionFault → Result Session SessionFault → SessionFault
session-error-or other (Ok session) = other
session-error-or other (Err fault) = fault

abbrev IsSessionDone : Result Session SessionFault → Type 0
IsSessionDone (Ok session) = Unit {0}
IsSessionDone (Err fault) = ⊥

not-there : (there : Bool) (fault : SessionFault) → IsAnswer {A = Session} (if there then None else Some NoSuchChannel) (Err fault)
    → IsMemory (call.Session fault) ⊎ ((if there then None else Some (call.Session NoSuchChannel)) ≡ Some (call.Session fault))
unfolding session-error-or
not-there true fault h = inl (inr (ap call.Session h))
not-there false fault h = inr (ap (λ (r : Result Session SessionFault). Some (call.Session (session-error-or fault r))) (sym h))

pub not-opened : (text : List ℕ) (number : ℕ) (config : Config) (fault : SessionFault) → document_of text ≡ Ok (values_of config)
    → IsAnswer {A = Session} (number_refusal config number) (Err fault) → IsMemory (call.Session fault) ⊎ (open_refusal (document_of text) number ≡ Some (call.Session fault))
not-opened text number config fault configured h =
    subst (λ (d : Result Values Fault). IsMemory (call.Session fault) ⊎ (open_refusal d number ≡ Some (call.Session fault))) (sym configured) (not-there (nat_lt number config.channels) fault h)

there-is : (there : Bool) (session : Session) → IsAnswer {A = Session} (if there then None else Some NoSuchChannel) (Ok session)
    → (if there then None else Some (call.Session NoSuchChannel)) ≡ None
there-is true session h = refl
there-is false session h = absurd (subst IsSessionDone h tt)

pub is-opened : (text : List ℕ) (number : ℕ) (config : Config) (session : Session) → document_of text ≡ Ok (values_of config)
    → IsAnswer {A = Session} (number_refusal config number) (Ok session) → open_refusal (document_of text) number ≡ None
is-opened text number config session configured h =
    subst (λ (d : Result Values Fault). open_refusal d number ≡ None) (sym configured) (there-is (nat_lt number config.channels) session h)

-- a box that is refused is refused for memory
pub boxed-answer : {B : Type 0} (refusal : Option CallFault) (r : Result B CallFault) → IfErr r (λ e. e ≡ call.Session Memory) → refusal ≡ None → IsOpenAnswer refusal r
boxed-answer refusal (Ok owner) h is = is
boxed-answer refusal (Err e) h is = inl (inr h)

-- a new value in a box
pub new-boxed : {A B : Type 0} (IsNew : A → Type 0) (value_of : B → A) (value : A) (r : Result B CallFault)
    → IfOk r (λ owner. value_of owner ≡ value) → IsNew value → IfOk r (λ owner. IsNew (value_of owner))
new-boxed IsNew value_of value (Ok owner) is h = subst IsNew (sym is) h
new-boxed IsNew value_of value (Err fault) is h = tt

-- what a value that is fit was put in
pub well-put : {A : Type 0} (IsFit : A → Type 0) (is_open : Bool) (kept : Option A) (value : A) → is_open ≡ true → kept ≡ Some value → IsFit value → IsWellAt IsFit is_open kept
well-put IsFit is_open kept value opened is h = subst (λ (b : Bool). IsWellAt IsFit b kept) (sym opened) (subst (IsWellAt IsFit true) (sym is) h)

-- one value is held
value-or : {A : Type 0} → A → Option A → A
value-or other (Some value) = value
value-or other None = other

pub same-value : {A : Type 0} (kept : Option A) (a b : A) → Some a ≡ kept → kept ≡ Some b → a ≡ b
unfolding value-or
same-value kept a b is was = ap (value-or a) is ∙ ap (value-or a) was

-- what was put in, and what was taken out and lent
pub put-back : {A : Type 0} (IsFit : A → Type 0) (kept : Option A) (value : A) → kept ≡ Some value → IsFit value → IsThere IsFit kept
put-back IsFit kept value is h = subst (IsThere IsFit) (sym is) h

pub lent-fit : {A : Type 0} (IsFit : A → Type 0) (kept : Option A) (value now : A) → Some value ≡ kept → now ≡ value → IsThere IsFit kept → IsFit now
lent-fit IsFit kept value now is same h = subst IsFit (sym same) (subst (IsThere IsFit) (sym is) h)

pub lent-is : {A : Type 0} (kept : Option A) (value now other : A) → Some value ≡ kept → now ≡ value → kept ≡ Some other → now ≡ other
lent-is kept value now other is same was = same ∙ same-value kept value other is was

pub lent-well : {A : Type 0} (IsFit : A → Type 0) (is_open : Bool) (kept : Option A) (value now : A) → Some value ≡ kept → now ≡ value → IsWellAt IsFit is_open kept → IsFit now
lent-well IsFit is_open kept value now is same h = subst IsFit (sym same) (well-open IsFit is_open kept value is h)
