-- The lines that tell why the program refuses.
--     fault_line fault      the line of a fault, without its end
--     refusal_text refusal, refusal_lines refusal      the lines of a refusal, without the last one's end and with it
--     TakesUntil old new text rest, AppendsBeginning old new text      how far a stream took a text
--     IsExplainedWhole old new lines      it took lines, and what explains them
--     IsExplained has_refused old new lines      it took them whole unless it has refused, and otherwise a beginning
use Rattle.std.specs.Prelude.{◌≡◌, ℕ, Bool, false, List, ◌++◌, codes, decimal, Option}
use Rattle.std.specs.Io.KnownBytes.{Appends}
use Rattle.sim_base.specs.Faults.{merge_number}
use Rattle.sim_base.specs.Keys.{key_name}
use Rattle.sim_base.specs.declared.fault.Fault.{Fault}
use Rattle.sim_base.specs.declared.fault.Fault.TheVariants as fault
use Rattle.sim_base.specs.declared.fault.LineCause.{LineCause}
use Rattle.sim_base.specs.declared.fault.LineCause.TheVariants.{TooFew, TooMany, NotANumber, TooLarge}
use Rattle.refusal.specs.declared.refusal.Refusal.{Refusal}
use Rattle.refusal.specs.declared.refusal.Refusal.TheVariants.{Kept, Torn}

-- what is wrong with a line of a trace, in a word
abbrev pub cause_word : LineCause → List ℕ
cause_word TooFew = codes "too-few"
cause_word TooMany = codes "too-many"
cause_word NotANumber = codes "not-a-number"
cause_word TooLarge = codes "too-large"

-- the line of a fault, without its end
abbrev pub fault_line : Fault → List ℕ
fault_line fault.ConfigSyntax = codes "fault 1: configuration is not TOML"
fault_line (fault.ConfigKey key) = codes "fault 2: configuration key " ++ key_name key
fault_line (fault.ConfigRange key) = codes "fault 3: configuration range " ++ key_name key
fault_line (fault.ConfigRelation number) = codes "fault 4: configuration relation " ++ decimal number
fault_line (fault.TraceLine core line cause) =
    codes "fault 5: trace " ++ decimal core ++ codes " line " ++ decimal line ++ codes " " ++ cause_word cause
fault_line (fault.TraceTooLong core) = codes "fault 6: trace " ++ decimal core ++ codes " too long"
fault_line fault.TraceCount = codes "fault 7: trace count"
fault_line fault.Workers = codes "fault 8: workers"
fault_line fault.Cycles = codes "fault 9: cycles"
fault_line fault.Memory = codes "fault 10: memory"
fault_line fault.WorkerStart = codes "fault 11: worker start"
fault_line fault.Write = codes "fault 12: write"
fault_line fault.Read = codes "fault 13: read"
fault_line fault.CommandLine = codes "fault 14: command line"
fault_line (fault.CheckRow row) = codes "fault 15: check row " ++ decimal row
fault_line (fault.Merge cause) = codes "fault 16: merge " ++ decimal (merge_number cause)

-- the lines of a refusal: a second one where the tables in the folder are of two runs
abbrev pub refusal_text : Refusal → List ℕ
refusal_text (Kept fault) = fault_line fault
refusal_text (Torn fault) =
    fault_line fault
    ++ codes "\nthe tables are of two runs: what is missing of this one stands beside them under names that end in .part"

abbrev pub refusal_lines : Refusal → List ℕ
refusal_lines refusal = refusal_text refusal ++ codes "\n"

-- a stream took what stands before the rest of a text
pub record TakesUntil (old new : Option (List ℕ)) (text rest : List ℕ) : Type 0 where
  pub taken : List ℕ
  pub text_is : text ≡ taken ++ rest
  pub took : Appends old new taken

-- a stream took a text, or a beginning of it
pub record AppendsBeginning (old new : Option (List ℕ)) (text : List ℕ) : Type 0 where
  pub rest : List ℕ
  pub taken : TakesUntil old new text rest

-- a stream took lines and what explains them
pub record IsExplainedWhole (old new : Option (List ℕ)) (lines : List ℕ) : Type 0 where
  pub more : List ℕ
  pub took : Appends old new (lines ++ more)

-- A stream took lines and what explains them, or a beginning of that where it has refused.
pub record IsExplained (has_refused : Bool) (old new : Option (List ℕ)) (lines : List ℕ) : Type 0 where
  pub more : List ℕ
  pub begun : AppendsBeginning old new (lines ++ more)
  pub whole : has_refused ≡ false → Appends old new (lines ++ more)
