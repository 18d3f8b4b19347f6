-- A table is legal just where it has the header, no malformed record, and each row keeps every rule.
use Rattle.std.proofs.Common.{◌≡◌, ℕ, zero, suc, ◌+◌, ◌<◌, ◌≤◌, ◌↔◌, ◌++◌, ◌∙◌, Bool, true, false, cond, List, [], ◌∷◌, length, get_or, take, map, Option, Some, None, Result, Ok, Err, IfOk, refl, sym, ap, arith, inl, inr, append_assoc, append-nil}
use Rattle.std.specs.Prelude.{find}
use Rattle.std.specs.List.{range_with_len}
use Rattle.std.proofs.lemmas.Bool.{cases_eq}
use Rattle.sim_base.specs.declared.config.Config.{Config}
use Rattle.sim_base.specs.declared.command.IssuedCommand.{IssuedCommand}
use Rattle.sim_base.specs.declared.fault.Fault.{Fault}
use Rattle.sim_base.specs.declared.fault.Fault.TheVariants.{CheckRow}
use Rattle.sim_base.proofs.Lists.{find-none, cond-none}
use Rattle.rule_check.specs.Fields.{limits_of, is_header, row_in}
use Rattle.rule_check.specs.Broken.{breaks, lowest_broken}
use Rattle.rule_check.specs.Verdict.{verdict, verdict_after, decided_by_row, decided_by_rule, IsLegalTable}
use Rattle.rule_check.specs.declared.verdict.Verdict.{Verdict}
use Rattle.rule_check.specs.declared.verdict.Verdict.TheVariants.{Legal}

none-found : (p : ℕ → Bool) (a n : ℕ) → find p (range_with_len a n) ≡ None → (k : ℕ) → a ≤ k → k < a + n → p k ≡ false
none-found p a zero e k l m = absurd (omega arith)
none-found p a (suc n) e k l m =
    let h = cond-none (p a) a (find p (range_with_len (a + 1) n)) e in
    elim (cases_eq k a) [
      | inl same ↦ ap p same ∙ h.0
      | inr apart ↦ none-found p (a + 1) n h.1 k (omega arith) (omega arith)
    ]

-- a row keeps every rule after these rows
abbrev Keeps : Config → List IssuedCommand → IssuedCommand → Type 0
Keeps s before row = (number : ℕ) → 1 ≤ number → number ≤ 21 → breaks s before row number ≡ false

none-keeps : (s : Config) (before : List IssuedCommand) (row : IssuedCommand) → lowest_broken s before row ≡ None → Keeps s before row
unfolding lowest_broken
none-keeps s before row e number a b = none-found (breaks s before row) 1 21 e number a (omega arith)

keeps-none : (s : Config) (before : List IssuedCommand) (row : IssuedCommand) → Keeps s before row → lowest_broken s before row ≡ None
unfolding lowest_broken
keeps-none s before row h = find-none (breaks s before row) 1 21 (λ k l m. h k l (omega arith))

-- each of these rows keeps every rule after those before it
abbrev KeepAll : Config → List IssuedCommand → List IssuedCommand → Type 0
KeepAll s before rows =
    (i number : ℕ) (d : IssuedCommand) → i < length rows → 1 ≤ number → number ≤ 21 → breaks s (before ++ take i rows) (get_or rows i d) number ≡ false

keep-cons : (s : Config) (before : List IssuedCommand) (row : IssuedCommand) (rows : List IssuedCommand) → Keeps s before row → KeepAll s (before ++ row ∷ []) rows → KeepAll s before (row ∷ rows)
keep-cons s before row rows f k zero number d l a b = ap (λ t. breaks s t row number) (append-nil before) ∙ f number a b
keep-cons s before row rows f k (suc i) number d l a b =
    ap (λ t. breaks s t (get_or rows i d) number) (sym (append_assoc before (row ∷ []) (take i rows))) ∙ k i number d (omega arith) a b

keep-head : (s : Config) (before : List IssuedCommand) (row : IssuedCommand) (rows : List IssuedCommand) → KeepAll s before (row ∷ rows) → Keeps s before row
keep-head s before row rows k number a b = ap (λ t. breaks s t row number) (sym (append-nil before)) ∙ k 0 number row (omega arith) a b

keep-tail : (s : Config) (before : List IssuedCommand) (row : IssuedCommand) (rows : List IssuedCommand) → KeepAll s before (row ∷ rows) → KeepAll s (before ++ row ∷ []) rows
keep-tail s before row rows k i number d l a b =
    ap (λ t. breaks s t (get_or rows i d) number) (append_assoc before (row ∷ []) (take i rows)) ∙ k (suc i) number d (omega arith) a b

-- some records write rows that keep every rule after others
abbrev AreKept : Config → List IssuedCommand → List (List (List ℕ)) → Type 0
AreKept s before others = (rows : List IssuedCommand) × (map (row_in (limits_of s)) others ≡ map Some rows) × KeepAll s before rows

rule-none : (n : ℕ) (o : Option ℕ) (rest : Result Verdict Fault) → decided_by_rule n o rest ≡ Ok Legal → (o ≡ None) × (rest ≡ Ok Legal)
rule-none n None rest h = (refl, h)
rule-none n (Some rule) rest h = cc h

row-kept : (s : Config) (before : List IssuedCommand) (n : ℕ) (fields : List (List ℕ)) (others : List (List (List ℕ))) (o : Option IssuedCommand) → row_in (limits_of s) fields ≡ o
    → decided_by_row n (lowest_broken s before) (λ row. verdict_after s (before ++ row ∷ []) (n + 1) others) o ≡ Ok Legal
    → ((row : IssuedCommand) → verdict_after s (before ++ row ∷ []) (n + 1) others ≡ Ok Legal → AreKept s (before ++ row ∷ []) others) → AreKept s before (fields ∷ others)
row-kept s before n fields others None e h more = cc h
row-kept s before n fields others (Some row) e h more =
    let p = rule-none n (lowest_broken s before row) (verdict_after s (before ++ row ∷ []) (n + 1) others) h in
    let r = more row p.1 in
    (row ∷ r.0, (λ x. e x ∷ r.1 x), keep-cons s before row r.0 (none-keeps s before row p.0) r.2)

legal-kept : (s : Config) (before : List IssuedCommand) (n : ℕ) (others : List (List (List ℕ))) → verdict_after s before n others ≡ Ok Legal → AreKept s before others
unfolding verdict_after
legal-kept s before n [] h = ([], refl, λ i number d l a b. absurd (omega arith))
legal-kept s before n (fields ∷ others) h = row-kept s before n fields others (row_in (limits_of s) fields) refl h (λ row e. legal-kept s (before ++ row ∷ []) (n + 1) others e)

kept-legal : (s : Config) (before : List IssuedCommand) (n : ℕ) (others : List (List (List ℕ))) (rows : List IssuedCommand) → map (row_in (limits_of s)) others ≡ map Some rows → KeepAll s before rows
    → verdict_after s before n others ≡ Ok Legal
unfolding verdict_after
kept-legal s before n [] rows e k = refl
kept-legal s before n (fields ∷ others) [] e k = cc e
kept-legal s before n (fields ∷ others) (row ∷ rows) e k =
    let rest = verdict_after s (before ++ row ∷ []) (n + 1) others in
    let head : row_in (limits_of s) fields ≡ Some row = cc e in
    let tail : map (row_in (limits_of s)) others ≡ map Some rows = cc e in
    ap (decided_by_row n (lowest_broken s before) (λ r. verdict_after s (before ++ r ∷ []) (n + 1) others)) head
    ∙ ap (λ o. decided_by_rule n o rest) (keeps-none s before row (keep-head s before row rows k))
    ∙ kept-legal s (before ++ row ∷ []) (n + 1) others rows tail (keep-tail s before row rows k)

header-parts : (b : Bool) (v : Result Verdict Fault) → cond b v (Err (CheckRow 0)) ≡ Ok Legal → (b ≡ true) × (v ≡ Ok Legal)
header-parts true v e = (refl, e)
header-parts false v e = cc e

legal-table : (s : Config) (table : List (List (List ℕ))) → verdict s table ≡ Ok Legal → IsLegalTable s table
unfolding verdict
legal-table s [] e = cc e
legal-table s (header ∷ others) e =
    let h = header-parts (is_header s.ranks header) (verdict_after s [] 1 others) e in
    let k = legal-kept s [] 1 others h.1 in
    record { header = header; others = others; rows = k.0; parts = refl; is_header = h.0; well_formed = k.1; keeps_rules = k.2 }

pub table-legal : (s : Config) (table : List (List (List ℕ))) → IsLegalTable s table → verdict s table ≡ Ok Legal
unfolding verdict
table-legal s table h =
    ap (verdict s) h.parts
    ∙ ap (λ b. cond b (verdict_after s [] 1 h.others) (Err (CheckRow 0))) h.is_header
    ∙ kept-legal s [] 1 h.others h.rows h.well_formed h.keeps_rules

-- the verdict is that a table is legal just where it is
legal_just_where : (s : Config) (table : List (List (List ℕ))) (v : Verdict) → verdict s table ≡ Ok v → (v ≡ Legal) ↔ IsLegalTable s table
legal_just_where s table v e =
    (λ h. legal-table s table (e ∙ ap (λ (w : Verdict). Ok w) h), λ h. let same : Ok v ≡ Ok Legal = sym e ∙ table-legal s table h in cc same)

-- an answer that is the verdict is that a table is legal just where it is
pub legal_if_ok : (s : Config) (table : List (List (List ℕ))) (answer : Result Verdict Fault) → IfOk answer (λ v. verdict s table ≡ Ok v)
    → IfOk answer (λ v. (v ≡ Legal) ↔ IsLegalTable s table)
legal_if_ok s table (Ok v) e = legal_just_where s table v e
legal_if_ok s table (Err f) e = tt
