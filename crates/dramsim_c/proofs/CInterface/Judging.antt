-- A table that is judged under a configuration is judged under the text that states it.
use Rattle.std.proofs.Common.{◌≡◌, ℕ, List, Result, Ok, Err, sym, subst}
use Rattle.config_reader.specs.Document.{document_of}
use Rattle.rule_check.specs.Verdict.{records_of, verdict}
use Rattle.sim_base.specs.Values.{values_of}
use Rattle.sim_base.specs.declared.config.Config.{Config}
use Rattle.dramsim_c.specs.CInterface.Verdicts.{IsUnjudged, IsVerdictAnswer, IsCheckAnswer}
use Rattle.dramsim_c.specs.declared.c_interface.fault.CallFault.{CallFault}
use Rattle.dramsim_c.specs.declared.c_interface.fault.CallFault.TheVariants.{Closed, AlreadyOpen, Configuration, Session, NoSuchPlace, TooShort, BreaksRule, Malformed}
use Rattle.dramsim_c.specs.declared.c_interface.rows.VerdictRow.{VerdictRow}

pub judged : (text table : List ℕ) (config : Config) (old new : VerdictRow) (result : Result (Unit {0}) CallFault) → document_of text ≡ Ok (values_of config)
    → IsVerdictAnswer (verdict config (records_of table)) old new result → IsCheckAnswer text table old new result
judged text table config old new (Ok done) is h = record { config = config; configured = is; told = h }
judged text table config old new (Err (Configuration fault)) is h = (subst (IsUnjudged text) (sym h.0) tt, h.1)
judged text table config old new (Err Closed) is h = record { config = config; configured = is; told = h }
judged text table config old new (Err AlreadyOpen) is h = record { config = config; configured = is; told = h }
judged text table config old new (Err (Session fault)) is h = record { config = config; configured = is; told = h }
judged text table config old new (Err NoSuchPlace) is h = record { config = config; configured = is; told = h }
judged text table config old new (Err TooShort) is h = record { config = config; configured = is; told = h }
judged text table config old new (Err BreaksRule) is h = record { config = config; configured = is; told = h }
judged text table config old new (Err Malformed) is h = record { config = config; configured = is; told = h }
