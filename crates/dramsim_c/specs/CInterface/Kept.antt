-- What a program in C keeps: it is closed and owns nothing, or open and owns one value, a channel or a memory.
--     IsWellAt IsFit is_open value      it is closed, or open with a value that is fit
--     IsThere IsFit value      it owns a value that is fit
--     IsMemory e      memory was refused
--     IsOpenAnswer refusal result      the answer of a call that opens it
--     IsCallAnswer refusal result      the answer of a call whose session refuses it so
use Rattle.std.specs.Prelude.{◌≡◌, ◌⊎◌, Bool, true, false, Option, Some, None, Result, Err, IfErr, MatchResult}
use Rattle.sessions.specs.declared.channel_session.fault.SessionFault.{SessionFault}
use Rattle.sessions.specs.declared.channel_session.fault.SessionFault.TheVariants.{Memory}
use Rattle.sim_base.specs.declared.fault.Fault.TheVariants as fault
use Rattle.dramsim_c.specs.declared.c_interface.fault.CallFault.{CallFault}
use Rattle.dramsim_c.specs.declared.c_interface.fault.CallFault.TheVariants as call

-- what is open owns a value that is fit, and what is closed owns none
abbrev pub IsWellAt : {A : Type 0} → (A → Type 0) → Bool → Option A → Type 0
IsWellAt IsFit true (Some value) = IsFit value
IsWellAt IsFit true None = ⊥
IsWellAt IsFit false value = value ≡ None

-- it owns a value that is fit
abbrev pub IsThere : {A : Type 0} → (A → Type 0) → Option A → Type 0
IsThere IsFit (Some value) = IsFit value
IsThere IsFit None = ⊥

-- memory was refused, to the reader of the configuration or to the session
abbrev pub IsMemory : CallFault → Type 0
IsMemory e = (e ≡ call.Configuration fault.Memory) ⊎ (e ≡ call.Session Memory)

-- the answer of a call that opens what is closed, where it is refused so, if at all: memory may be refused as well
abbrev pub IsOpenAnswer : {A : Type 0} → Option CallFault → Result A CallFault → Type 0
IsOpenAnswer refusal result = MatchResult result (λ owner. refusal ≡ None) (λ e. IsMemory e ⊎ (refusal ≡ Some e))

-- the answer of a call whose session refuses it so; one that is not refused has only memory as an error
abbrev pub IsCallAnswer : {A : Type 0} → Option SessionFault → Result A CallFault → Type 0
IsCallAnswer (Some fault) result = result ≡ Err (call.Session fault)
IsCallAnswer None result = IfErr result (λ e. e ≡ call.Session Memory)
