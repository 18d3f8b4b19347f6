-- The status of a call that judges a table.
use Rattle.std.proofs.Common.{◌≡◌, inl, inr, ℕ, List, Result, Ok, Err, refl, ap, ◌∙◌}
use Rattle.rule_check.specs.Verdict.{records_of, verdict}
use Rattle.rule_check.specs.declared.verdict.Verdict.{Verdict}
use Rattle.rule_check.specs.declared.verdict.Verdict.TheVariants.{Legal, Broken}
use Rattle.sim_base.specs.declared.fault.Fault.{Fault}
use Rattle.sim_base.specs.declared.fault.Fault.TheVariants as fault
use Rattle.dramsim_c.specs.CInterface.Statuses.{status, fault_number, judged_status, IsJudgedUnder, IsJudgedAs}
use Rattle.dramsim_c.specs.CInterface.Verdicts.{outcome_of, IsJudged, IsUnjudged, IsCheckAnswer}
use Rattle.dramsim_c.specs.declared.c_interface.fault.CallFault.{CallFault}
use Rattle.dramsim_c.specs.declared.c_interface.fault.CallFault.TheVariants.{Closed, AlreadyOpen, Configuration, Session, NoSuchPlace, TooShort, BreaksRule, Malformed}
use Rattle.dramsim_c.specs.declared.c_interface.rows.VerdictRow.{VerdictRow}

outcome-status : (v : Result Verdict Fault) → status (outcome_of v) ≡ judged_status v
outcome-status (Ok Legal) = refl
outcome-status (Ok (Broken row rule)) = refl
outcome-status (Err fault) = refl

-- a table that was judged
under : (text table : List ℕ) (new : VerdictRow) (result : Result (Unit {0}) CallFault) → IsJudged text table result new → IsJudgedUnder text table new (status result)
under text table new result h =
    record {
      config = h.config;
      configured = h.configured;
      status = ap status h.told.outcome ∙ outcome-status (verdict h.config (records_of table));
      row_is = h.told.row_is;
    }

-- a configuration or memory that was refused
unjudged : (text table : List ℕ) (old new : VerdictRow) (refused : Fault) → IsUnjudged text refused → new ≡ old → IsJudgedAs text table old new (fault_number (Configuration refused))
unjudged text table old new fault.Memory h same = inl (refl, same)
unjudged text table old new fault.ConfigSyntax h same = inr (inl (refl, same, record { fault = fault.ConfigSyntax; refused = h }))
unjudged text table old new (fault.ConfigKey key) h same = inr (inl (refl, same, record { fault = fault.ConfigKey key; refused = h }))
unjudged text table old new (fault.ConfigRange key) h same = inr (inl (refl, same, record { fault = fault.ConfigRange key; refused = h }))
unjudged text table old new (fault.ConfigRelation number) h same = inr (inl (refl, same, record { fault = fault.ConfigRelation number; refused = h }))
unjudged text table old new (fault.TraceLine core line cause) h same = inr (inl (refl, same, record { fault = fault.TraceLine core line cause; refused = h }))
unjudged text table old new (fault.TraceTooLong core) h same = inr (inl (refl, same, record { fault = fault.TraceTooLong core; refused = h }))
unjudged text table old new fault.TraceCount h same = inr (inl (refl, same, record { fault = fault.TraceCount; refused = h }))
unjudged text table old new fault.Workers h same = inr (inl (refl, same, record { fault = fault.Workers; refused = h }))
unjudged text table old new fault.Cycles h same = inr (inl (refl, same, record { fault = fault.Cycles; refused = h }))
unjudged text table old new fault.WorkerStart h same = inr (inl (refl, same, record { fault = fault.WorkerStart; refused = h }))
unjudged text table old new fault.Write h same = inr (inl (refl, same, record { fault = fault.Write; refused = h }))
unjudged text table old new fault.Read h same = inr (inl (refl, same, record { fault = fault.Read; refused = h }))
unjudged text table old new fault.CommandLine h same = inr (inl (refl, same, record { fault = fault.CommandLine; refused = h }))
unjudged text table old new (fault.CheckRow row) h same = inr (inl (refl, same, record { fault = fault.CheckRow row; refused = h }))
unjudged text table old new (fault.Merge cause) h same = inr (inl (refl, same, record { fault = fault.Merge cause; refused = h }))

pub judged-as : (text table : List ℕ) (old new : VerdictRow) (result : Result (Unit {0}) CallFault) → IsCheckAnswer text table old new result → IsJudgedAs text table old new (status result)
judged-as text table old new (Ok done) h = inr (inr (under text table new (Ok done) h))
judged-as text table old new (Err (Configuration refused)) h = unjudged text table old new refused h.0 h.1
judged-as text table old new (Err Closed) h = inr (inr (under text table new (Err Closed) h))
judged-as text table old new (Err AlreadyOpen) h = inr (inr (under text table new (Err AlreadyOpen) h))
judged-as text table old new (Err (Session refused)) h = inr (inr (under text table new (Err (Session refused)) h))
judged-as text table old new (Err NoSuchPlace) h = inr (inr (under text table new (Err NoSuchPlace) h))
judged-as text table old new (Err TooShort) h = inr (inr (under text table new (Err TooShort) h))
judged-as text table old new (Err BreaksRule) h = inr (inr (under text table new (Err BreaksRule) h))
judged-as text table old new (Err Malformed) h = inr (inr (under text table new (Err Malformed) h))
