-- The line of a configuration's fault.
--     fault_text document      the line, without its end; none where the configuration is not refused
--     written_over text memory      memory with a text at its front
--     IsTextAnswer text room result      the answer of a call that writes a text to memory with this room
use Rattle.std.specs.Prelude.{◌≡◌, ◌⊎◌, ℕ, ◌<◌, ◌≤◌, List, [], ◌++◌, drop, length, Result, Ok, Err, MatchResult}
use Rattle.refusal.specs.Lines.{fault_line}
use Rattle.sim_base.specs.Values.{Values}
use Rattle.sim_base.specs.declared.fault.Fault.{Fault}
use Rattle.sim_base.specs.declared.fault.Fault.TheVariants.{Memory}
use Rattle.dramsim_c.specs.declared.c_interface.fault.CallFault.{CallFault}
use Rattle.dramsim_c.specs.declared.c_interface.fault.CallFault.TheVariants as call

-- the line that the program tells where it refuses a configuration; none where it does not
abbrev pub fault_text : Result Values Fault → List ℕ
fault_text (Ok values) = []
fault_text (Err fault) = fault_line fault

-- memory with a text at its front, as it was behind it
abbrev pub written_over : List ℕ → List ℕ → List ℕ
written_over text memory = text ++ drop (length text) memory

-- memory was refused, or the text is longer than the room for it; otherwise it fits
abbrev pub IsTextAnswer : List ℕ → ℕ → Result (Unit {0}) CallFault → Type 0
IsTextAnswer text room result =
    MatchResult result (λ _. length text ≤ room)
    (λ e. (e ≡ call.Configuration Memory) ⊎ ((e ≡ call.TooShort) × (room < length text)))
