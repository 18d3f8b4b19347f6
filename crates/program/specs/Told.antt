-- What is told of words that are refused.
--     IsTold tells words old new has_refused before after      the words are refused, and why is told
use Rattle.std.specs.Prelude.{◌≡◌, ◌≢◌, ℕ, Bool, List, Option}
use Rattle.sim_base.specs.declared.fault.Fault.TheVariants.{Write}
use Rattle.refusal.specs.Refusals.{fault_of}
use Rattle.refusal.specs.Lines.{refusal_lines, IsExplained}
use Rattle.refusal.specs.declared.refusal.Refusal.{Refusal}
use Rattle.program.specs.Answered.{Seen, IsRefusedBy}
use Rattle.program.specs.Refused.{IsFaultOf}

-- The words are refused for this fault, and leave this; nothing is printed, unless the fault is that it could not be
-- written; and the stream of errors took the lines of the refusal and what explains them, or a beginning of that where it
-- has refused.
pub record IsTold (tells : Type 0) (words : List (List ℕ)) (old new : Seen) (has_refused : Bool)
    (before after : Option (List ℕ)) : Type 0 where
  pub refusal : Refusal
  pub why : IsFaultOf tells old.held words (fault_of refusal)
  pub left : tells → IsRefusedBy refusal words old new
  pub unprinted : fault_of refusal ≢ Write → new.printed ≡ old.printed
  pub lines : IsExplained has_refused before after (refusal_lines refusal)
