-- The refusal of a trace whose lines are not read.
use Rattle.std.proofs.Common.{◌≡◌, ◌≢◌, ℕ, List, Err, refl, sym, ap, ◌∙◌, subst}
use Rattle.sim_base.specs.declared.fault.Fault.{Fault}
use Rattle.sim_base.specs.declared.fault.Fault.TheVariants.{Memory}
use Rattle.sim_base.specs.TraceText.{lines_of, trace_answer}
use Rattle.sim_base.specs.TraceGrammar.{IsRefusedBy}
use Rattle.cpu_trace.specs.declared.reading.Unread.{Unread}
use Rattle.cpu_trace.specs.declared.reading.Unread.TheVariants as unread
use Rattle.cpu_trace.specs.Reading.{IsUnreadOf, fault_of}
use Rattle.cpu_trace.proofs.Kept.{trace_answer-bad}
use Rattle.cpu_trace.proofs.Meaning.{IsRefusedBy-answer}

answer-cases : (core : ℕ) (text : List ℕ) (why : Unread) → IsUnreadOf (lines_of text) why → fault_of core why ≢ Memory → trace_answer core text ≡ Err (fault_of core why)
answer-cases core text (unread.BadLine line cause) h other = trace_answer-bad core text line cause h
answer-cases core text unread.Memory h other = absurd (other refl)

meaning-cases : (core : ℕ) (text : List ℕ) (why : Unread) → IsUnreadOf (lines_of text) why → IsRefusedBy text (fault_of core why)
meaning-cases core text (unread.BadLine line cause) h = IsRefusedBy-answer core text _ (trace_answer-bad core text line cause h)
meaning-cases core text unread.Memory h = tt

-- the fault is the answer, if it is not out of memory
pub refused-answer : (core : ℕ) (text : List ℕ) (why : Unread) (fault : Fault) → fault ≡ fault_of core why → IsUnreadOf (lines_of text) why → fault ≢ Memory → trace_answer core text ≡ Err fault
refused-answer core text why fault e h other = answer-cases core text why h (λ same. other (e ∙ same)) ∙ ap Err (sym e)

-- and it says what it should of the text
pub refused-meaning : (core : ℕ) (text : List ℕ) (why : Unread) (fault : Fault) → fault ≡ fault_of core why → IsUnreadOf (lines_of text) why → IsRefusedBy text fault
refused-meaning core text why fault e h = subst (IsRefusedBy text) (sym e) (meaning-cases core text why h)
