-- The numbers that a program in C is told.
--     session_number fault, fault_number fault      the number of a refusal
--     status result      the status of a call
--     IsStatus refusal number      the status of a call that a session refuses so
--     text_status text room      the status of a call that writes a text to memory with this room
--     judged_status verdict      the status of a call that judges a table
--     IsJudgedAs text table old new number      a table was judged, and the status of the call
--     open_status refusal      the status of a call that opens a channel
use Rattle.std.specs.Prelude.{◌≡◌, ◌⊎◌, ℕ, nat_le, if◌then◌else◌, List, length, Option, Some, None, Result, Ok, Err}
use Rattle.sessions.specs.declared.channel_session.fault.SessionFault.{SessionFault}
use Rattle.sessions.specs.declared.channel_session.fault.SessionFault.TheVariants as refused
use Rattle.config_reader.specs.Document.{document_of}
use Rattle.rule_check.specs.Verdict.{records_of, verdict}
use Rattle.rule_check.specs.declared.verdict.Verdict.{Verdict}
use Rattle.rule_check.specs.declared.verdict.Verdict.TheVariants.{Legal, Broken}
use Rattle.sim_base.specs.Values.{values_of}
use Rattle.sim_base.specs.declared.config.Config.{Config}
use Rattle.sim_base.specs.declared.fault.Fault.{Fault}
use Rattle.sim_base.specs.declared.fault.Fault.TheVariants.{Memory}
use Rattle.dramsim_c.specs.CInterface.Verdicts.{row_of}
use Rattle.dramsim_c.specs.declared.c_interface.rows.VerdictRow.{VerdictRow}
use Rattle.dramsim_c.specs.declared.c_interface.fault.CallFault.{CallFault}
use Rattle.dramsim_c.specs.declared.c_interface.fault.CallFault.TheVariants.{Closed, AlreadyOpen, Configuration, Session, NoSuchPlace, TooShort, BreaksRule, Malformed}

-- the number of a session's refusal
abbrev pub session_number : SessionFault → ℕ
session_number refused.Memory = 1
session_number refused.NoSuchChannel = 5
session_number refused.NoSuchCore = 6
session_number refused.OtherChannel = 7
session_number refused.InThePast = 8
session_number refused.OutOfOrder = 9
session_number refused.EntryPassed = 10
session_number refused.NoCredit = 11
session_number refused.EndPassed = 12
session_number refused.EndTooLate = 13

-- The number of a refusal: that of memory is 1, whoever was refused it.
abbrev pub fault_number : CallFault → ℕ
fault_number Closed = 2
fault_number AlreadyOpen = 3
fault_number (Configuration Memory) = 1
fault_number (Configuration other) = 4
fault_number (Session fault) = session_number fault
fault_number NoSuchPlace = 14
fault_number TooShort = 15
fault_number BreaksRule = 16
fault_number Malformed = 17

-- 0, or the number of the refusal
abbrev pub status : Result (Unit {0}) CallFault → ℕ
status (Ok done) = 0
status (Err fault) = fault_number fault

-- the status of a call that a session refuses so, if it does; one that is not refused has only 1, for memory, in place
-- of 0
abbrev pub IsStatus : Option SessionFault → ℕ → Type 0
IsStatus (Some fault) number = number ≡ session_number fault
IsStatus None number = (number ≡ 0) ⊎ (number ≡ 1)

-- the status of a call that opens a channel, but for 1, which is memory: 0, or the number of why it is not opened
abbrev pub open_status : Option CallFault → ℕ
open_status None = 0
open_status (Some fault) = fault_number fault

-- the status of a call that writes a text to memory with this room, but for 1, which is memory
abbrev pub text_status : List ℕ → ℕ → ℕ
text_status text room = if nat_le (length text) room then 0 else 15

-- the status of a call that judges a table: 0 for a legal one
abbrev pub judged_status : Result Verdict Fault → ℕ
judged_status (Ok Legal) = 0
judged_status (Ok (Broken row rule)) = 16
judged_status (Err fault) = 17

-- a table was judged under the configuration of a text, and this is the status of the call
pub record IsJudgedUnder (text table : List ℕ) (new : VerdictRow) (number : ℕ) : Type 0 where
  pub config : Config
  pub configured : document_of text ≡ Ok (values_of config)
  pub status : number ≡ judged_status (verdict config (records_of table))
  pub row_is : new ≡ row_of (verdict config (records_of table))

-- the configuration is refused
pub record IsRefused (text : List ℕ) : Type 0 where
  pub fault : Fault
  pub refused : document_of text ≡ Err fault

-- The status of a call that judges a table is 1 where memory was refused, and 4 where the configuration is; the row is
-- as it was then. Otherwise the table was judged.
abbrev pub IsJudgedAs : List ℕ → List ℕ → VerdictRow → VerdictRow → ℕ → Type 0
IsJudgedAs text table old new number =
    ((number ≡ 1) × (new ≡ old)) ⊎ ((number ≡ 4) × (new ≡ old) × IsRefused text) ⊎ IsJudgedUnder text table new number
