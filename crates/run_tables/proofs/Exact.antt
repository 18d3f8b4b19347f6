-- A record is the line of a count just where it is written as one.
use Rattle.std.proofs.Common.{◌≡◌, ◌^◌, ◌<◌, ◌&&◌, ◌==◌, ◌∙◌, ℕ, Bool, true, false, if◌then◌else◌, List, [], ◌∷◌, length, Option, Some, None, refl, sym, ap, subst, arith, inl, inr}
use Rattle.std.specs.Prelude.{codes, IfSome, option_map}
use Rattle.std.specs.Fmt.{decimal}
use Rattle.std.specs.Str.{bytes_eq}
use Rattle.std.proofs.lemmas.Bool.{and_parts, cases_Bool, eqb-true, ne_eqb}
use Rattle.csv.specs.Records.{field_at}
use Rattle.reports.specs.Rows.{optional}
use Rattle.reports.specs.Stats.{stats_header, value_fields}
use Rattle.rule_check.specs.Fields.{text_at}
use Rattle.run_tables.specs.Lines.{is_line, optional_written, line_value, is_stats_header}
use Rattle.run_tables.specs.Numbers.{number_written}
use Rattle.run_tables.proofs.FourFields.{three_texts, four_texts}
use Rattle.run_tables.proofs.Written.{bytes_self, bytes_same, decimal_some, number_back, number_is, number_wide}

-- a value that fits 128 bits
abbrev pub IsWide : Option ℕ → Type 0
IsWide value = IfSome value (λ n. n < 2 ^ 128)

-- THE VALUE

some_is : (text : List ℕ) (o value : Option ℕ) → o ≡ number_written text → option_map (λ number. Some number) o ≡ Some value → text ≡ optional value
some_is text None value e h = cc h
some_is text (Some n) value e h =
    let same : Some n ≡ value = cc h in
    number_is text n (sym e) ∙ ap optional same

some_of : (empty : Bool) (o : Option (Option ℕ)) (value : Option ℕ) → empty ≡ false → (if empty then Some None else o) ≡ Some value → o ≡ Some value
some_of true o value e h = cc e
some_of false o value e h = h

of_some : (empty : Bool) (o : Option (Option ℕ)) (value : Option ℕ) → empty ≡ false → o ≡ Some value → (if empty then Some None else o) ≡ Some value
of_some true o value e h = cc e
of_some false o value e h = h

optional_is : (text : List ℕ) (value : Option ℕ) → optional_written text ≡ Some value → text ≡ optional value
optional_is [] value h = let same : None ≡ value = cc h in ap optional same
optional_is (c ∷ text) value h =
    let some : (length (c ∷ text) == 0) ≡ false = ne_eqb (length (c ∷ text)) 0 (λ e. omega (arith, e)) in
    some_is (c ∷ text) (number_written (c ∷ text)) value refl (some_of (length (c ∷ text) == 0) (option_map (λ number. Some number) (number_written (c ∷ text))) value some h)

optional_back : (value : Option ℕ) → IsWide value → optional_written (optional value) ≡ Some value
optional_back None h = refl
optional_back (Some n) h =
    of_some (length (decimal n) == 0) (option_map (λ number. Some number) (number_written (decimal n))) (Some n) (decimal_some n h) (ap (option_map (λ number. Some number)) (number_back n h))

some_wide : (text : List ℕ) (o value : Option ℕ) → o ≡ number_written text → option_map (λ number. Some number) o ≡ Some value → IsWide value
some_wide text None value e h = cc h
some_wide text (Some n) value e h = let same : Some n ≡ value = cc h in subst IsWide same (number_wide text n (sym e))

optional_wide : (text : List ℕ) (value : Option ℕ) → optional_written text ≡ Some value → IsWide value
optional_wide [] value h = let same : None ≡ value = cc h in subst IsWide same tt
optional_wide (c ∷ text) value h =
    let some : (length (c ∷ text) == 0) ≡ false = ne_eqb (length (c ∷ text)) 0 (λ e. omega (arith, e)) in
    some_wide (c ∷ text) (number_written (c ∷ text)) value refl (some_of (length (c ∷ text) == 0) (option_map (λ number. Some number) (number_written (c ∷ text))) value some h)

-- THE LINE

pub line_is : (scope : List ℕ) (id : ℕ) (name : List ℕ) (fields : List (List ℕ)) (value : Option ℕ) → line_value scope id name fields ≡ Some value → fields ≡ value_fields scope id (name, value)
unfolding line_value
line_is scope id name fields value h =
    elim (cases_Bool (is_line scope id name fields)) [
      | inr fails ↦ let none : None ≡ Some value = rw fails at h in cc none
      | inl holds ↦
          let last : optional_written (text_at fields 3) ≡ Some value = rw holds at h in
          let a = and_parts ((length fields == 4) && bytes_eq (text_at fields 0) scope && bytes_eq (text_at fields 1) (decimal id)) (bytes_eq (text_at fields 2) name) holds in
          let b = and_parts ((length fields == 4) && bytes_eq (text_at fields 0) scope) (bytes_eq (text_at fields 1) (decimal id)) a.0 in
          let c = and_parts (length fields == 4) (bytes_eq (text_at fields 0) scope) b.0 in
          three_texts fields scope (decimal id) name (eqb-true (length fields) 4 c.0) (bytes_same (text_at fields 0) scope c.1) (bytes_same (text_at fields 1) (decimal id) b.1) (bytes_same (text_at fields 2) name a.1)
          ∙ ap (λ (t : List ℕ). scope ∷ decimal id ∷ name ∷ t ∷ []) (optional_is (text_at fields 3) value last)
    ]

pub line_wide : (scope : List ℕ) (id : ℕ) (name : List ℕ) (fields : List (List ℕ)) (value : Option ℕ) → line_value scope id name fields ≡ Some value → IsWide value
unfolding line_value
line_wide scope id name fields value h =
    elim (cases_Bool (is_line scope id name fields)) [
      | inr fails ↦ let none : None ≡ Some value = rw fails at h in cc none
      | inl holds ↦ let last : optional_written (text_at fields 3) ≡ Some value = rw holds at h in optional_wide (text_at fields 3) value last
    ]

pub line_back : (scope : List ℕ) (id : ℕ) (name : List ℕ) (value : Option ℕ) → IsWide value → line_value scope id name (value_fields scope id (name, value)) ≡ Some value
unfolding line_value text_at field_at
line_back scope id name value h = rw (bytes_self scope, bytes_self (decimal id), bytes_self name) (optional_back value h)

-- THE HEADER

pub header_is : (fields : List (List ℕ)) → is_stats_header fields ≡ true → fields ≡ stats_header
unfolding is_stats_header
header_is fields holds =
    let a = and_parts ((length fields == 4) && bytes_eq (text_at fields 0) (codes "scope") && bytes_eq (text_at fields 1) (codes "id") && bytes_eq (text_at fields 2) (codes "name")) (bytes_eq (text_at fields 3) (codes "value")) holds in
    let b = and_parts ((length fields == 4) && bytes_eq (text_at fields 0) (codes "scope") && bytes_eq (text_at fields 1) (codes "id")) (bytes_eq (text_at fields 2) (codes "name")) a.0 in
    let c = and_parts ((length fields == 4) && bytes_eq (text_at fields 0) (codes "scope")) (bytes_eq (text_at fields 1) (codes "id")) b.0 in
    let d = and_parts (length fields == 4) (bytes_eq (text_at fields 0) (codes "scope")) c.0 in
    four_texts fields (codes "scope") (codes "id") (codes "name") (codes "value") (eqb-true (length fields) 4 d.0) (bytes_same (text_at fields 0) (codes "scope") d.1)
    (bytes_same (text_at fields 1) (codes "id") c.1) (bytes_same (text_at fields 2) (codes "name") b.1) (bytes_same (text_at fields 3) (codes "value") a.1)

pub header_back : is_stats_header stats_header ≡ true
unfolding is_stats_header text_at field_at
header_back = refl
