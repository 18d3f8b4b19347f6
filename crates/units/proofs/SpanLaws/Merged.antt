-- The rows of the table of a run: in order, each before the end of the run and of a channel of the machine.
use Rattle.std.proofs.Common.{◌≡◌, ℕ, zero, suc, ◌+◌, ◌<◌, true, List, [], ◌∷◌, length, Option, Some, None, refl, sym, subst, arith}
use Rattle.std.specs.List.{AllByRecursion as Each}
use Rattle.std.proofs.lemmas.List.Elements.{All-from_get_or, recursion_from_All}
use Rattle.std.proofs.lemmas.List.FromFn.{length-map-range_with_len}
use Rattle.sim_base.specs.declared.config.Config.{Config}
use Rattle.sim_base.specs.History.{commands, stands_before}
use Rattle.sim_base.specs.Machine.{run, next_step, next_command}
use Rattle.sim_base.specs.declared.command.Command.{Command}
use Rattle.sim_base.specs.declared.command.IssuedCommand.{IssuedCommand}
use Rattle.sim_base.specs.declared.trace.Entry.{Entry}
use Rattle.sim_base.proofs.Each.{Each-append}
use Rattle.sim_base.proofs.Ordered.{Each-weaker}
use Rattle.sim_base.proofs.Spans.{length_run}
use Rattle.laws.specs.Tables.{IsOrdered}
use Rattle.laws.proofs.Tabled.{rows_from, commands-more}

-- each row stands before those after it
abbrev pub Ordered : List IssuedCommand → Type 0
Ordered [] = Unit {0}
Ordered (x ∷ xs) = Each (λ y. stands_before x y ≡ true) xs × Ordered xs

pub ordered-pairs : (xs : List IssuedCommand) → IsOrdered xs → Ordered xs
ordered-pairs [] h = tt
ordered-pairs (x ∷ xs) h = (
  recursion_from_All (λ y. stands_before x y ≡ true) xs (All-from_get_or (λ y. stands_before x y ≡ true) xs x (λ i l. h 0 (suc i) x (omega arith) (omega arith))),
  ordered-pairs xs (λ i j d a b. h (suc i) (suc j) d (omega arith) (omega arith)),
)

-- a row of this cycle, of a channel below a number
abbrev IsIn : ℕ → ℕ → IssuedCommand → Type 0
IsIn cycle n x = (x.cycle ≡ cycle) × (x.channel < n)

in-more : (cycle a b : ℕ) → a ≡ b → (xs : List IssuedCommand) → Each (IsIn cycle a) xs → Each (IsIn cycle b) xs
in-more cycle a b e xs h = subst (λ n. Each (IsIn cycle n) xs) e h

-- the steps of one cycle
steps-of_cycle : (cycle i : ℕ) (os : List (Option Command)) → Each (IsIn cycle (i + length os)) (rows_from cycle i os)
unfolding rows_from
steps-of_cycle cycle i [] = tt
steps-of_cycle cycle i (None ∷ os) = in-more cycle (i + 1 + length os) (i + suc (length os)) (omega arith) (rows_from cycle (i + 1) os) (steps-of_cycle cycle (i + 1) os)
steps-of_cycle cycle i (Some c ∷ os) =
    ((refl, omega arith), in-more cycle (i + 1 + length os) (i + suc (length os)) (omega arith) (rows_from cycle (i + 1) os) (steps-of_cycle cycle (i + 1) os))

-- the steps of the table of a run
pub commands-within : (s : Config) (traces : List (List Entry)) (n : ℕ) → Each (λ (x : IssuedCommand). (x.cycle < n) × (x.channel < s.channels)) (commands (run s traces n))
unfolding run commands next_step
commands-within s traces zero = tt
commands-within s traces (suc n) =
    let history = run s traces n in
    let machine_step = next_step s traces history in
    let long : length history ≡ n = length_run s traces n in
    let wide : length machine_step.commands ≡ s.channels = length-map-range_with_len (next_command s traces history) 0 s.channels in
    let P = λ (x : IssuedCommand). (x.cycle < suc n) × (x.channel < s.channels) in
    subst (Each P) (sym (commands-more history machine_step))
    (Each-append P (commands history) (rows_from (length history) 0 machine_step.commands)
    (Each-weaker (λ (x : IssuedCommand). (x.cycle < n) × (x.channel < s.channels)) P (λ x h. (omega (arith, h.0), h.1)) (commands history) (commands-within s traces n))
    (Each-weaker (IsIn (length history) (0 + length machine_step.commands)) P (λ x h. (omega (arith, h.0), omega (arith, h.1))) (rows_from (length history) 0 machine_step.commands)
    (steps-of_cycle (length history) 0 machine_step.commands)))
