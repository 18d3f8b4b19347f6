-- A table that is ordered, legal and refreshed breaks no rule.
use Rattle.std.proofs.Common.{◌≡◌, ℕ, zero, suc, ◌+◌, ◌<◌, ◌≤◌, ◌∙◌, ◌&&◌, ◌||◌, Bool, true, false, not, List, [], ◌∷◌, length, get_or, take, map, max, refl, sym, ap, arith, eqb, ltb, leb, inl, inr}
use Rattle.std.specs.Prelude.{filter, fold}
use Rattle.std.specs.List.{AllByRecursion as Each, list_any}
use Rattle.std.proofs.Math.Seq.{take-suc}
use Rattle.std.proofs.lemmas.Bool.{false≢true, cond_both, cases_Bool, and_parts, and_left, and_right, or_cases, or_parts, not-true, not_from_true, false_from_ne_true, ltb-true, leb-true, le-ltb}
use Rattle.std.proofs.lemmas.List.Elements.{All-from_recursion, recursion_from_All}
use Rattle.std.proofs.lemmas.List.Folds.{list_any_none}
use Rattle.std.proofs.lemmas.List.Sums.{AllPass-from_list_all}
use Rattle.sim_base.specs.declared.config.Config.{Config}
use Rattle.sim_base.specs.declared.timing.Timing.{Timing}
use Rattle.sim_base.specs.declared.rule.Rule.{Rule}
use Rattle.sim_base.specs.declared.command.IssuedCommand.{IssuedCommand}
use Rattle.sim_base.specs.declared.command.Kind.TheVariants as kind
use Rattle.sim_base.specs.declared.trace.Entry.{Entry}
use Rattle.sim_base.specs.History.{below, commands, commands_on, stands_before}
use Rattle.sim_base.specs.Machine.{run}
use Rattle.sim_base.specs.Rules.{rules, binds, is_bound, gap, is_kind, kind_of, rank_of, relation_of, recent_acts, is_past_gap, keeps_distances, is_allowed, finds_its_banks, is_legal}
use Rattle.sim_base.proofs.Ordered.{Each-weaker}
use Rattle.laws.specs.Tables.{IsOrdered, IsLegalTable, IsRefreshedTable}
use Rattle.laws.proofs.Tabled.{tables_are_ordered, tables_are_legal, tables_are_refreshed}
use Rattle.rule_check.specs.Broken.{last_row, stands_wrongly, breaks_order, is_too_close, breaks_distance, breaks_window, is_overdue, breaks_refresh, breaks_in_channel, breaks}
use Rattle.rule_check.specs.Verdict.{KeepsRules}
use Rattle.rule_check.proofs.Passing.{last_row-more}
use Rattle.run_tables.proofs.TableLaws.InRange.{range-below}
use Rattle.statistics.proofs.ChannelCounts.{fold-max-le}

-- RULES 3 TO 15, 17 AND 19 TO 21: THE DISTANCES

-- the greatest distance of the rules that pass a test is as far as each of theirs
far-each : (p : Rule → Bool) (a m : ℕ) (rs : List Rule) → fold max a (map (λ (r : Rule). r.cycles) (filter p rs)) ≤ m → Each (λ r. p r ≡ true → r.cycles ≤ m) rs
far-each p a m [] h = tt
far-each p a m (r ∷ rs) h =
    cond_both (p r) (r ∷ filter p rs) (filter p rs) (λ l. fold max a (map (λ (x : Rule). x.cycles) l) ≤ m → Each (λ x. p x ≡ true → x.cycles ≤ m) (r ∷ rs))
    (λ e k. (λ t. let b = fold-max-le (max a r.cycles) (map (λ (x : Rule). x.cycles) (filter p rs)) in omega arith, far-each p (max a r.cycles) m rs k))
    (λ e k. (λ t. absurd (false≢true (sym e ∙ t)), far-each p a m rs k)) h

none-each : (p : Rule → Bool) (rs : List Rule) → list_any p rs ≡ false → Each (λ r. p r ≡ false) rs
none-each p [] h = tt
none-each p (r ∷ rs) h = let both = or_parts (p r) (list_any p rs) h in (both.0, none-each p rs both.1)

-- each rule that binds two commands asks for no more than their distance
abbrev AreFar : List Rule → IssuedCommand → IssuedCommand → Type 0
AreFar rs earlier row =
    Each (λ r. binds r (kind_of earlier.command) (kind_of row.command) (relation_of earlier.command row.command) ≡ true → earlier.cycle + r.cycles ≤ row.cycle) rs

far-from : (p : Rule → Bool) (rs : List Rule) (first now : ℕ) → (not (list_any p rs) || leb (first + fold max 0 (map (λ (r : Rule). r.cycles) (filter p rs))) now) ≡ true
    → Each (λ r. p r ≡ true → first + r.cycles ≤ now) rs
far-from p rs first now h =
    elim (or_cases (not (list_any p rs)) _ h) [
      | inl none ↦
          Each-weaker (λ r. p r ≡ false) (λ r. p r ≡ true → first + r.cycles ≤ now) (λ r e t. absurd (false≢true (sym e ∙ t))) rs
          (none-each p rs (not-true _ none))
      | inr soon ↦
          let l = leb-true _ _ soon in
          Each-weaker (λ r. p r ≡ true → r.cycles ≤ fold max 0 (map (λ (x : Rule). x.cycles) (filter p rs))) (λ r. p r ≡ true → first + r.cycles ≤ now)
          (λ r f t. let b = f t in omega arith) rs
          (far-each p 0 _ rs (omega arith))
    ]

past-far : (t : Timing) (earlier row : IssuedCommand) → is_past_gap t row.cycle row.command earlier ≡ true → AreFar (rules t) earlier row
unfolding is_past_gap is_bound gap
past-far t earlier row h =
    far-from (λ (r : Rule). binds r (kind_of earlier.command) (kind_of row.command) (relation_of earlier.command row.command)) (rules t) earlier.cycle row.cycle h

-- a rule that asks for no more than the distance is not broken
far-apart : (r : Rule) (earlier row : IssuedCommand)
    → (binds r (kind_of earlier.command) (kind_of row.command) (relation_of earlier.command row.command) ≡ true → earlier.cycle + r.cycles ≤ row.cycle) → is_too_close r earlier row ≡ false
far-apart r earlier row h =
    false_from_ne_true (is_too_close r earlier row)
    (λ e.
    let both = and_parts (binds r (kind_of earlier.command) (kind_of row.command) (relation_of earlier.command row.command)) (ltb row.cycle (earlier.cycle + r.cycles)) e in
    let l = h both.0 in
    let k = ltb-true _ _ both.1 in
    omega arith)

none-close : (rs : List Rule) (number : ℕ) (history : List IssuedCommand) (row : IssuedCommand) → Each (λ earlier. AreFar rs earlier row) history
    → list_any (λ (r : Rule). eqb r.number number && list_any (λ earlier. is_too_close r earlier row) history) rs ≡ false
none-close [] number history row h = refl
none-close (r ∷ rs) number history row h =
    let here : list_any (λ earlier. is_too_close r earlier row) history ≡ false =
    list_any_none (λ earlier. is_too_close r earlier row) history
    (All-from_recursion (λ (earlier : IssuedCommand). is_too_close r earlier row ≡ false) history
    (Each-weaker (λ earlier. AreFar (r ∷ rs) earlier row) (λ earlier. is_too_close r earlier row ≡ false) (λ earlier f. far-apart r earlier row f.0) history h)) in
    let rest = none-close rs number history row (Each-weaker (λ earlier. AreFar (r ∷ rs) earlier row) (λ earlier. AreFar rs earlier row) (λ earlier f. f.1) history h) in
    ap (λ b. (eqb r.number number && b) || list_any (λ (x : Rule). eqb x.number number && list_any (λ earlier. is_too_close x earlier row) history) rs) here
    ∙ ap (λ b. b || list_any (λ (x : Rule). eqb x.number number && list_any (λ earlier. is_too_close x earlier row) history) rs) (and_right (eqb r.number number) false refl)
    ∙ rest

keeps-distance : (t : Timing) (number : ℕ) (history : List IssuedCommand) (row : IssuedCommand) → keeps_distances t history row.cycle row.command ≡ true → breaks_distance t number history row ≡ false
unfolding breaks_distance
keeps-distance t number history row h =
    none-close (rules t) number history row
    (Each-weaker (λ earlier. is_past_gap t row.cycle row.command earlier ≡ true) (λ earlier. AreFar (rules t) earlier row) (λ earlier e. past-far t earlier row e) history
    (recursion_from_All (λ (earlier : IssuedCommand). is_past_gap t row.cycle row.command earlier ≡ true) history
    (AllPass-from_list_all (is_past_gap t row.cycle row.command) history h)))

-- RULE 16: THE WINDOW

window-kept : (act : Bool) (n : ℕ) → (not act || leb n 3) ≡ true → (act && ltb 3 n) ≡ false
window-kept false n h = refl
window-kept true n h = let l = leb-true n 3 h in le-ltb 3 n l

-- what is legal keeps the distances and the window, and finds its banks
record IsAllowedRow (s : Config) (history : List IssuedCommand) (row : IssuedCommand) : Type 0 where
  banks : finds_its_banks s history row.command ≡ true
  distances : keeps_distances s.timing history row.cycle row.command ≡ true
  window : breaks_window s.timing history row ≡ false

legal-parts : (s : Config) (history : List IssuedCommand) (row : IssuedCommand) → is_legal s history row.cycle row.command ≡ true → IsAllowedRow s history row
unfolding is_legal is_allowed
legal-parts s history row h =
    let first = and_parts (finds_its_banks s history row.command) _ h in
    let second = and_parts (keeps_distances s.timing history row.cycle row.command) _ first.1 in
    record {
      banks = first.0;
      distances = second.0;
      window = window-kept (is_kind (kind_of row.command) kind.Act) (recent_acts s.timing (rank_of row.command) row.cycle history) second.1;
    }

-- RULE 18: THE REFRESHES

abbrev IsInTime : Config → List IssuedCommand → IssuedCommand → Type 0
IsInTime s history row = (rank : ℕ) → rank < s.ranks → 0 < s.timing.n_refi → is_overdue s history row.cycle rank ≡ false

keeps-refresh : (s : Config) (history : List IssuedCommand) (row : IssuedCommand) → IsInTime s history row → breaks_refresh s history row ≡ false
keeps-refresh s history row h =
    elim (cases_Bool (ltb 0 s.timing.n_refi)) [
      | inl some ↦
          and_right (ltb 0 s.timing.n_refi) _
          (list_any_none (is_overdue s history row.cycle) (below s.ranks)
          (All-from_recursion (λ rank. is_overdue s history row.cycle rank ≡ false) (below s.ranks)
          (Each-weaker (λ rank. rank < s.ranks) (λ rank. is_overdue s history row.cycle rank ≡ false) (λ rank l. h rank l (ltb-true _ _ some)) (below s.ranks)
          (range-below s.ranks 0 s.ranks (omega arith)))))
      | inr none ↦ and_left (ltb 0 s.timing.n_refi) _ none
    ]

-- a row keeps each rule of its channel
keeps-channel : (s : Config) (history : List IssuedCommand) (row : IssuedCommand) (number : ℕ) → IsAllowedRow s history row → IsInTime s history row → breaks_in_channel s history row number ≡ false
keeps-channel s history row number a f =
    cond_both (eqb number 2) (not (finds_its_banks s history row.command)) _ (λ b. b ≡ false) (λ e. not_from_true _ a.banks)
    (λ e. cond_both (eqb number 16) (breaks_window s.timing history row) _ (λ b. b ≡ false) (λ g. a.window)
    (λ g. cond_both (eqb number 18) (breaks_refresh s history row) (breaks_distance s.timing number history row) (λ b. b ≡ false) (λ k. keeps-refresh s history row f)
    (λ k. keeps-distance s.timing number history row a.distances)))

-- RULE 1: THE ORDER

keeps-order : (rows : List IssuedCommand) (i : ℕ) (d : IssuedCommand) → IsOrdered rows → i < length rows → breaks_order (take i rows) (get_or rows i d) ≡ false
unfolding last_row
keeps-order rows zero d h l = refl
keeps-order rows (suc i) d h l =
    let before = get_or rows i d in
    let row = get_or rows (suc i) d in
    ap (λ t. stands_wrongly (last_row t) row) (take-suc rows i d (omega arith))
    ∙ ap (λ o. stands_wrongly o row) (last_row-more (take i rows) before)
    ∙ not_from_true (stands_before before row) (h i (suc i) d (omega arith) l)

-- EVERY RULE

keeps-rules : (s : Config) (rows : List IssuedCommand) → IsOrdered rows → IsLegalTable s rows → IsRefreshedTable s rows → KeepsRules s rows
unfolding breaks
keeps-rules s rows ordered legal refreshed i number d l low high =
    let row = get_or rows i d in
    let history = commands_on row.channel (take i rows) in
    cond_both (eqb number 1) (breaks_order (take i rows) row) (breaks_in_channel s history row number) (λ b. b ≡ false)
    (λ e. keeps-order rows i d ordered l)
    (λ e. keeps-channel s history row number (legal-parts s history row (legal i d l)) (λ rank b some. le-ltb _ row.cycle (refreshed i d rank l b some)))

pub tables_keep_every_rule : (s : Config) (traces : List (List Entry)) (n : ℕ) → KeepsRules s (commands (run s traces n))
tables_keep_every_rule s traces n = keeps-rules s (commands (run s traces n)) (tables_are_ordered s traces n) (tables_are_legal s traces n) (tables_are_refreshed s traces n)
