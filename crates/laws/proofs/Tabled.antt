-- The table of all commands of a run has those of each channel in their order.
use Rattle.std.proofs.Common.{◌≡◌, ℕ, zero, suc, ◌+◌, ◌*◌, ◌<◌, ◌≤◌, true, ◌&&◌, ◌||◌, eqb, ltb, List, [], ◌∷◌, ◌++◌, length, get_or, take, Option, Some, None, refl, sym, ap, ap₂, subst, ◌∙◌, ◌⊎◌, inl, inr, arith, add-zero, zero-add}
use Rattle.std.specs.Prelude.{count_by, filter_map, flat_map}
use Rattle.std.specs.Option.{IfSome}
use Rattle.std.specs.List.{AllByRecursion as Each, cons_option, enumerate_from}
use Rattle.std.proofs.lemmas.Bool.{cond-true, cond-false, eq-eqb, ne_eqb, or_left, lt-ltb, cases_lt}
use Rattle.std.proofs.lemmas.Bool.Decides.{nat_tests}
use Rattle.std.proofs.lemmas.List.{append-nil, append_assoc, get_or-take, length-take-le}
use Rattle.std.proofs.lemmas.List.Concat.{flat_map-append}
use Rattle.std.proofs.lemmas.List.Elements.{filter-append, All-from_recursion}
use Rattle.std.proofs.lemmas.List.FromFn.{length-map-range_with_len}
use Rattle.sim_base.specs.declared.config.Config.{Config}
use Rattle.sim_base.specs.Config.{refresh_slack}
use Rattle.sim_base.specs.MachineStep.{MachineStep}
use Rattle.sim_base.specs.History.{steps_of_channel, issued_at, issued_commands, commands_in, commands, commands_on, stands_before}
use Rattle.sim_base.specs.Rules.{is_legal}
use Rattle.sim_base.specs.Scheduling.{refreshes}
use Rattle.sim_base.specs.Machine.{next_command, next_step, run}
use Rattle.sim_base.specs.declared.command.Command.{Command}
use Rattle.sim_base.specs.declared.command.IssuedCommand.{IssuedCommand}
use Rattle.sim_base.specs.declared.trace.Entry.{Entry}
use Rattle.sim_base.proofs.Each.{Each-append}
use Rattle.sim_base.proofs.Ordered.{Each-weaker}
use Rattle.sim_base.proofs.Spans.{length_run, step_of_channel-next}
use Rattle.sim_base.proofs.Lists.{enumerate-append}
use Rattle.laws.specs.Commands.{history_of}
use Rattle.laws.specs.Tables.{TablesAreOrdered, TablesAreLegal, TablesAreRefreshed}
use Rattle.laws.proofs.Legal.{chosen, EachAfter, EachAfter-push, IsLegalStep, legal_step, length-channel_steps_of, history_of-more}
use Rattle.laws.proofs.Due.{refreshed, refreshed-by}
use Rattle.laws.proofs.Timely.{refreshed_in_time}

-- the steps of a cycle, from a channel on
unfoldable pub rows_from : ℕ → ℕ → List (Option Command) → List IssuedCommand
rows_from cycle i os = filter_map (λ (e : ℕ × Option Command). issued_at e.0 cycle e.1) (enumerate_from i os)

-- one cycle more
pub commands-more : (history : List MachineStep) (machine_step : MachineStep) → commands (history ++ machine_step ∷ []) ≡ commands history ++ rows_from (length history) 0 machine_step.commands
unfolding commands rows_from
commands-more history machine_step =
    let f = λ (e : ℕ × MachineStep). commands_in e.0 e.1 in
    ap (flat_map f) (enumerate-append 0 history (machine_step ∷ []))
    ∙ flat_map-append f (enumerate_from 0 history) (enumerate_from (0 + length history) (machine_step ∷ []))
    ∙ ap (λ i. commands history ++ (commands_in i machine_step ++ [])) (zero-add (length history))
    ∙ ap (λ x. commands history ++ x) (append-nil (commands_in (length history) machine_step))

-- lower channels have no steps among them
none_below : (cycle k i : ℕ) (os : List (Option Command)) → k < i → commands_on k (rows_from cycle i os) ≡ []
unfolding rows_from
none_below cycle k i [] l = refl
none_below cycle k i (None ∷ os) l = none_below cycle k (i + 1) os (omega arith)
none_below cycle k i (Some c ∷ os) l = cond-false _ _ _ (ne_eqb i k (λ e. omega arith)) ∙ none_below cycle k (i + 1) os (omega arith)

-- each channel has its own
one_row : (cycle i : ℕ) (os : List (Option Command)) (j k : ℕ) → i + j ≡ k → commands_on k (rows_from cycle i os) ≡ cons_option (issued_at k cycle (get_or os j None)) []
unfolding rows_from
one_row cycle i [] j k e = refl
one_row cycle i (None ∷ os) zero k e = none_below cycle k (i + 1) os (omega arith)
one_row cycle i (Some c ∷ os) zero k e =
    let f : i ≡ k = omega arith in
    cond-true _ _ _ (eq-eqb i k f)
    ∙ ap₂ (λ x y. record { cycle = cycle; channel = x; command = c } ∷ y) f (none_below cycle k (i + 1) os (omega arith))
one_row cycle i (None ∷ os) (suc j) k e = one_row cycle (i + 1) os j k (omega arith)
one_row cycle i (Some c ∷ os) (suc j) k e = cond-false _ _ _ (ne_eqb i k (λ f. omega arith)) ∙ one_row cycle (i + 1) os j k (omega arith)

-- the row of each channel in the cycle after n
row-command : (s : Config) (traces : List (List Entry)) (n j : ℕ) → j < s.channels → get_or (next_step s traces (run s traces n)).commands j None ≡ chosen s traces n j
row-command s traces n j l = step_of_channel-next s traces (run s traces n) j l

-- the steps of a channel in the table of a run are its history
pub commands_on-commands : (s : Config) (traces : List (List Entry)) (k : ℕ) → k < s.channels → (n : ℕ) → commands_on k (commands (run s traces n)) ≡ history_of s traces n k
unfolding run commands steps_of_channel issued_commands
commands_on-commands s traces k l zero = refl
commands_on-commands s traces k l (suc n) =
    let history = run s traces n in
    let machine_step = next_step s traces history in
    ap (commands_on k) (commands-more history machine_step)
    ∙ filter-append (λ (x : IssuedCommand). eqb x.channel k) (commands history) (rows_from (length history) 0 machine_step.commands)
    ∙ ap₂ (λ x y. x ++ y) (commands_on-commands s traces k l n) (one_row (length history) 0 machine_step.commands k k (zero-add k))
    ∙ ap₂ (λ i o. history_of s traces n k ++ cons_option (issued_at k i o) []) (length_run s traces n) (row-command s traces n k l)
    ∙ sym (history_of-more s traces n k l)

-- each row of a table stands before the place of a cycle and a channel
abbrev StandBefore : ℕ → ℕ → List IssuedCommand → Type 0
StandBefore cycle channel table = Each (λ (x : IssuedCommand). (ltb x.cycle cycle || (eqb x.cycle cycle && ltb x.channel channel)) ≡ true) table

stand-later : (cycle i : ℕ) (table : List IssuedCommand) → StandBefore cycle i table → StandBefore cycle (i + 1) table
stand-later cycle i table h = Each-weaker _ _ (λ (x : IssuedCommand) e. later x.cycle x.channel e) table h
  where
    later : (c k : ℕ) → (ltb c cycle || (eqb c cycle && ltb k i)) ≡ true → (ltb c cycle || (eqb c cycle && ltb k (i + 1))) ≡ true
    later c k e = grind (arith, nat_tests)

-- what holds of each choice after the steps that stand before it holds of each row of the table
abbrev OfChoices : (List IssuedCommand → IssuedCommand → Type 0) → Config → List (List Entry) → ℕ → Type 0
OfChoices P s traces n =
    (k : ℕ) (command : Command) (before : List IssuedCommand) → k < s.channels → chosen s traces n k ≡ Some command
    → commands_on k before ≡ history_of s traces n k → StandBefore n k before → P before (record { cycle = n; channel = k; command = command })

abbrev HaveHistories : Config → List (List Entry) → ℕ → ℕ → List IssuedCommand → Type 0
HaveHistories s traces n i table = (k : ℕ) → i ≤ k → k < s.channels → commands_on k table ≡ history_of s traces n k

-- what the channels from i on do in a cycle
abbrev pub AreChosen : Config → List (List Entry) → ℕ → ℕ → List (Option Command) → Type 0
AreChosen s traces n i os = (j k : ℕ) → j < length os → i + j ≡ k → (k < s.channels) × (get_or os j None ≡ chosen s traces n k)

-- one row more
have-later : (s : Config) (traces : List (List Entry)) (n i : ℕ) (c : Command) (table : List IssuedCommand) → HaveHistories s traces n i table
    → HaveHistories s traces n (i + 1) (table ++ record { cycle = n; channel = i; command = c } ∷ [])
have-later s traces n i c table have k a b =
    filter-append (λ (x : IssuedCommand). eqb x.channel k) table _
    ∙ ap (λ x. commands_on k table ++ x) (cond-false _ _ _ (ne_eqb i k (λ e. omega arith))) ∙ append-nil (commands_on k table) ∙ have k (omega arith) b

stand-more : (n i : ℕ) (c : Command) (table : List IssuedCommand) → StandBefore n i table → StandBefore n (i + 1) (table ++ record { cycle = n; channel = i; command = c } ∷ [])
stand-more n i c table stand = Each-append _ table _ (stand-later n i table stand) (here, tt)
  where
    here : (ltb n n || (eqb n n && ltb i (i + 1))) ≡ true
    here = grind (arith, nat_tests)

walk : (P : List IssuedCommand → IssuedCommand → Type 0) (s : Config) (traces : List (List Entry)) (n : ℕ) → OfChoices P s traces n → (os : List (Option Command)) (i : ℕ) (table : List IssuedCommand)
    → AreChosen s traces n i os → EachAfter P table → HaveHistories s traces n i table → StandBefore n i table → EachAfter P (table ++ rows_from n i os)
unfolding rows_from
walk P s traces n h [] i table at each have stand = subst (EachAfter P) (sym (append-nil table)) each
walk P s traces n h (None ∷ os) i table at each have stand =
    walk P s traces n h os (i + 1) table (λ j k l e. at (suc j) k (omega arith) (omega arith)) each (λ k a b. have k (omega arith) b) (stand-later n i table stand)
walk P s traces n h (Some c ∷ os) i table at each have stand =
    let x : IssuedCommand = record { cycle = n; channel = i; command = c } in
    let here = at 0 i (omega arith) (add-zero i) in
    let now : P table x = h i c table here.0 (sym here.1) (have i (omega arith) here.0) stand in
    subst (EachAfter P) (append_assoc table (x ∷ []) (rows_from n (i + 1) os))
    (walk P s traces n h os (i + 1) (table ++ x ∷ []) (λ j k l e. at (suc j) k (omega arith) (omega arith))
    (EachAfter-push P table x each now) (have-later s traces n i c table have) (stand-more n i c table stand))

steps-stand : (cycle n i : ℕ) (os : List (Option Command)) → cycle < n → StandBefore n 0 (rows_from cycle i os)
unfolding rows_from
steps-stand cycle n i [] l = tt
steps-stand cycle n i (None ∷ os) l = steps-stand cycle n (i + 1) os l
steps-stand cycle n i (Some c ∷ os) l = (or_left (ltb cycle n) _ (lt-ltb cycle n l), steps-stand cycle n (i + 1) os l)

stand-longer : (n : ℕ) (table : List IssuedCommand) → StandBefore n 0 table → StandBefore (suc n) 0 table
stand-longer n table h = Each-weaker _ _ (λ (x : IssuedCommand) e. later x.cycle x.channel e) table h
  where
    later : (c k : ℕ) → (ltb c n || (eqb c n && ltb k 0)) ≡ true → (ltb c (suc n) || (eqb c (suc n) && ltb k 0)) ≡ true
    later c k e = grind (arith, nat_tests)

table-stands : (s : Config) (traces : List (List Entry)) (n : ℕ) → StandBefore n 0 (commands (run s traces n))
unfolding run commands
table-stands s traces zero = tt
table-stands s traces (suc n) =
    let history = run s traces n in
    let long = length_run s traces n in
    subst (StandBefore (suc n) 0) (sym (commands-more history (next_step s traces history)))
    (Each-append _ (commands history) (rows_from (length history) 0 (next_step s traces history).commands)
    (stand-longer n (commands history) (table-stands s traces n)) (steps-stand (length history) (suc n) 0 (next_step s traces history).commands (omega arith)))

pub next-chosen : (s : Config) (traces : List (List Entry)) (n : ℕ) → AreChosen s traces n 0 (next_step s traces (run s traces n)).commands
unfolding next_step
next-chosen s traces n j k l e =
    let f : j ≡ k = omega arith in
    let long = length-map-range_with_len (next_command s traces (run s traces n)) 0 s.channels in
    let b : k < s.channels = omega arith in
    (b, ap (λ i. get_or (next_step s traces (run s traces n)).commands i None) f ∙ row-command s traces n k b)

-- what holds of each choice holds of each machine_step of the table of a run
each_row : (P : List IssuedCommand → IssuedCommand → Type 0) (s : Config) (traces : List (List Entry)) → ((n : ℕ) → OfChoices P s traces n) → (n : ℕ) → EachAfter P (commands (run s traces n))
unfolding run commands
each_row P s traces h zero = λ t d l. absurd (omega arith)
each_row P s traces h (suc n) =
    let history = run s traces n in
    let machine_step = next_step s traces history in
    subst (EachAfter P) (sym (commands-more history machine_step ∙ ap (λ i. commands history ++ rows_from i 0 machine_step.commands) (length_run s traces n)))
    (walk P s traces n (h n) machine_step.commands 0 (commands history) (next-chosen s traces n) (each_row P s traces h n) (λ k a b. commands_on-commands s traces k b n) (table-stands s traces n))

-- ---- the laws
legal-choices : (s : Config) (traces : List (List Entry)) (n : ℕ) → OfChoices (λ before row. is_legal s (commands_on row.channel before) row.cycle row.command ≡ true) s traces n
unfolding IsLegalStep
legal-choices s traces n k command before l e f stand =
    let long = length-channel_steps_of s traces n k in
    let legal : IfSome (chosen s traces n k) (λ c. is_legal s (history_of s traces n k) n c ≡ true) =
    subst (λ i. IfSome (chosen s traces n k) (λ c. is_legal s (history_of s traces n k) i c ≡ true)) long (legal_step s traces k n) in
    ap (λ x. is_legal s x n command) f ∙ subst (λ o. IfSome o (λ c. is_legal s (history_of s traces n k) n c ≡ true)) e legal

pub tables_are_legal : (s : Config) (traces : List (List Entry)) (n : ℕ) → TablesAreLegal s traces n
tables_are_legal s traces n = each_row (λ before row. is_legal s (commands_on row.channel before) row.cycle row.command ≡ true) s traces (legal-choices s traces) n

-- a row does not come while a refresh of its channel is overdue
abbrev IsRefreshedAfter : Config → List IssuedCommand → IssuedCommand → Type 0
IsRefreshedAfter s before row =
    (rank : ℕ) → rank < s.ranks → 0 < s.timing.n_refi
    → row.cycle ≤ (count_by (λ r. refreshes rank r.command) (commands_on row.channel before) + 1) * s.timing.n_refi + refresh_slack s

refreshed-choices : (s : Config) (traces : List (List Entry)) (n : ℕ) → OfChoices (IsRefreshedAfter s) s traces n
refreshed-choices s traces n k command before l e f stand rank b some =
    subst (λ x. n ≤ (count_by (λ (r : IssuedCommand). refreshes rank r.command) x + 1) * s.timing.n_refi + refresh_slack s) (sym f)
    (go (cases_lt ((refreshed s traces k rank n + 1) * s.timing.n_refi + refresh_slack s) n))
  where
    go : ((refreshed s traces k rank n + 1) * s.timing.n_refi + refresh_slack s < n) ⊎ (n ≤ (refreshed s traces k rank n + 1) * s.timing.n_refi + refresh_slack s)
        → n ≤ (refreshed s traces k rank n + 1) * s.timing.n_refi + refresh_slack s
    go (inl c) =
        let m = refreshed s traces k rank n + 1 in
        let a = refreshed_in_time s traces k l some m rank b in
        let d = refreshed-by s traces k rank (m * s.timing.n_refi + refresh_slack s) n l (omega arith) in
        absurd (omega arith)
    go (inr c) = c

pub tables_are_refreshed : (s : Config) (traces : List (List Entry)) (n : ℕ) → TablesAreRefreshed s traces n
tables_are_refreshed s traces n i d rank l = each_row (IsRefreshedAfter s) s traces (refreshed-choices s traces) n i d l rank

-- each row stands after those before it
abbrev StandsAfter : List IssuedCommand → IssuedCommand → Type 0
StandsAfter before row = Each (λ (x : IssuedCommand). stands_before x row ≡ true) before

pub tables_are_ordered : (s : Config) (traces : List (List Entry)) (n : ℕ) → TablesAreOrdered s traces n
tables_are_ordered s traces n i j d a b =
    let table = commands (run s traces n) in
    let row = get_or table j d in
    let all : StandsAfter (take j table) row = each_row StandsAfter s traces (λ m k command before l e f stand. stand) n j d b in
    let long : length (take j table) ≡ j = length-take-le j table (omega arith) in
    subst (λ x. stands_before x row ≡ true) (get_or-take j table i d a)
    (All-from_recursion (λ (x : IssuedCommand). stands_before x row ≡ true) (take j table) all i d (omega arith))
