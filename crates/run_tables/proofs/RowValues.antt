-- What a row says of a count, just where it is the line that is written of it.
use Rattle.std.proofs.Common.{◌≡◌, ◌+◌, ◌<◌, ◌^◌, ◌∙◌, ◌⊎◌, ℕ, nat_lt, Bool, true, false, if◌then◌else◌, List, Option, Some, None, Result, Ok, Err, refl, sym, ap, subst, arith, inl, inr}
use Rattle.std.specs.Prelude.{codes, IfSome, option_and_then}
use Rattle.std.proofs.lemmas.Bool.{cases_Bool, lt-ltb, ltb-true}
use Rattle.csv.specs.Records.{field_at}
use Rattle.sim_base.specs.declared.fault.Fault.{Fault}
use Rattle.sim_base.specs.declared.fault.Fault.TheVariants.{CheckRow}
use Rattle.reports.specs.Stats.{value_fields}
use Rattle.rule_check.specs.Fields.{text_at}
use Rattle.sim_base.specs.TraceText.{◌>>=◌}
use Rattle.run_tables.specs.Lines.{or_refused, narrow, narrow_optional, line_value, value_in, sum_in, count_in, cycle_in, number_in, has_text}
use Rattle.run_tables.specs.Units.{count_at, number_at, draining_in, draining_at}
use Rattle.statistics.specs.Counters.{IsNumberOf}
use Rattle.statistics.specs.declared.counters.CounterKind.{CounterKind}
use Rattle.statistics.specs.declared.counters.CounterKind.TheVariants.{Count, Sum, Cycle}
use Rattle.run_tables.proofs.Exact.{IsWide, line_is, line_wide, line_back}
use Rattle.run_tables.proofs.RowReads.{Row, Read, row_read, row_there, bind_ok, bind_err}

-- a row that is the line of this value
abbrev pub IsLineOf : List ℕ → ℕ → List ℕ → Option (List (List ℕ)) → Option ℕ → Type 0
IsLineOf scope id name line value = line ≡ Some (value_fields scope id (name, value))

some_ok : {A : Type 0} (row : ℕ) (o : Option A) (x : A) → or_refused row o ≡ Ok x → o ≡ Some x
some_ok row (Some y) x h = let same : y ≡ x = cc h in ap Some same
some_ok row None x h = cc h

some_err : {A : Type 0} (row : ℕ) (o : Option A) (e : Fault) → or_refused row o ≡ Err e → e ≡ CheckRow row
some_err row (Some y) e h = cc h
some_err row None e h = let same : CheckRow row ≡ e = cc h in sym same

narrow_ok : (row n x : ℕ) → narrow row n ≡ Ok x → (n ≡ x) × (x < 2 ^ 64)
narrow_ok row n x h =
    elim (cases_Bool (nat_lt n (2 ^ 64))) [
      | inl less ↦ let given : Ok n ≡ Ok x = rw less at h in let same : n ≡ x = cc given in let small = ltb-true n (2 ^ 64) less in (same, omega (arith, same, small))
      | inr more ↦ let none : Err (CheckRow row) ≡ Ok x = rw more at h in cc none
    ]

narrow_err : (row n : ℕ) (e : Fault) → narrow row n ≡ Err e → e ≡ CheckRow row
narrow_err row n e h =
    elim (cases_Bool (nat_lt n (2 ^ 64))) [
      | inl less ↦ let given : Ok n ≡ Err e = rw less at h in cc given
      | inr more ↦ let none : Err (CheckRow row) ≡ Err e = rw more at h in let same : CheckRow row ≡ e = cc none in sym same
    ]

narrow_of : (row n : ℕ) → n < 2 ^ 64 → narrow row n ≡ Ok n
narrow_of row n h = rw (lt-ltb n (2 ^ 64) h) refl

-- VALUES

value_ok : (row : ℕ) (scope : List ℕ) (id : ℕ) (name : List ℕ) (o : Option (List (List ℕ))) (value : Option ℕ) → value_in row scope id name o ≡ Ok value → IsLineOf scope id name o value × IsWide value
unfolding value_in
value_ok row scope id name None value h = cc h
value_ok row scope id name (Some fields) value h =
    let is = some_ok row (line_value scope id name fields) value h in
    (ap Some (line_is scope id name fields value is), line_wide scope id name fields value is)

value_err : (row : ℕ) (scope : List ℕ) (id : ℕ) (name : List ℕ) (o : Option (List (List ℕ))) (e : Fault) → value_in row scope id name o ≡ Err e → e ≡ CheckRow row
unfolding value_in
value_err row scope id name o e h = some_err row (option_and_then (line_value scope id name) o) e h

value_of : (row : ℕ) (scope : List ℕ) (id : ℕ) (name : List ℕ) (value : Option ℕ) → IsWide value → value_in row scope id name (Some (value_fields scope id (name, value))) ≡ Ok value
unfolding value_in
value_of row scope id name value h = ap (or_refused row) (line_back scope id name value h)

value_none : (row : ℕ) (scope : List ℕ) (id : ℕ) (name : List ℕ) → value_in row scope id name None ≡ Err (CheckRow row)
unfolding value_in
value_none row scope id name = refl

-- SUMS

sum_ok : (row : ℕ) (scope : List ℕ) (id : ℕ) (name : List ℕ) (o : Option (List (List ℕ))) (n : ℕ) → sum_in row scope id name o ≡ Ok n → IsLineOf scope id name o (Some n) × (n < 2 ^ 128)
unfolding sum_in
sum_ok row scope id name o n h =
    let parts = bind_ok (value_in row scope id name o) (or_refused row) n h in
    let value = some_ok row parts.0 n parts.2 in
    let line = value_ok row scope id name o parts.0 parts.1 in
    subst (λ v. IsLineOf scope id name o v × IsWide v) value line

sum_err : (row : ℕ) (scope : List ℕ) (id : ℕ) (name : List ℕ) (o : Option (List (List ℕ))) (e : Fault) → sum_in row scope id name o ≡ Err e → e ≡ CheckRow row
unfolding sum_in
sum_err row scope id name o e h =
    elim (bind_err (value_in row scope id name o) (or_refused row) e h) [
      | inl fails ↦ value_err row scope id name o e fails
      | inr goes ↦ some_err row goes.0 e goes.2
    ]

sum_line : (row : ℕ) (scope : List ℕ) (id : ℕ) (name : List ℕ) (n : ℕ) → n < 2 ^ 128 → sum_in row scope id name (Some (value_fields scope id (name, Some n))) ≡ Ok n
unfolding sum_in
sum_line row scope id name n h = ap (λ (r : Result (Option ℕ) Fault). r >>= or_refused row) (value_of row scope id name (Some n) h)

sum_none : (row : ℕ) (scope : List ℕ) (id : ℕ) (name : List ℕ) → sum_in row scope id name None ≡ Err (CheckRow row)
unfolding sum_in
sum_none row scope id name = ap (λ (r : Result (Option ℕ) Fault). r >>= or_refused row) (value_none row scope id name)

sum_of : (row : ℕ) (scope : List ℕ) (id : ℕ) (name : List ℕ) (o : Option (List (List ℕ))) (n : ℕ) → IsLineOf scope id name o (Some n) → n < 2 ^ 128 → sum_in row scope id name o ≡ Ok n
sum_of row scope id name o n line h = ap (sum_in row scope id name) line ∙ sum_line row scope id name n h

-- COUNTS

pub count_ok : (row : ℕ) (scope : List ℕ) (id : ℕ) (name : List ℕ) (o : Option (List (List ℕ))) (n : ℕ) → count_in row scope id name o ≡ Ok n → IsLineOf scope id name o (Some n) × (n < 2 ^ 64)
unfolding count_in
count_ok row scope id name o n h =
    let parts = bind_ok (sum_in row scope id name o) (narrow row) n h in
    let value = narrow_ok row parts.0 n parts.2 in
    (subst (λ v. IsLineOf scope id name o (Some v)) value.0 (sum_ok row scope id name o parts.0 parts.1).0, value.1)

count_err : (row : ℕ) (scope : List ℕ) (id : ℕ) (name : List ℕ) (o : Option (List (List ℕ))) (e : Fault) → count_in row scope id name o ≡ Err e → e ≡ CheckRow row
unfolding count_in
count_err row scope id name o e h =
    elim (bind_err (sum_in row scope id name o) (narrow row) e h) [
      | inl fails ↦ sum_err row scope id name o e fails
      | inr goes ↦ narrow_err row goes.0 e goes.2
    ]

count_line : (row : ℕ) (scope : List ℕ) (id : ℕ) (name : List ℕ) (n : ℕ) → n < 2 ^ 64 → count_in row scope id name (Some (value_fields scope id (name, Some n))) ≡ Ok n
unfolding count_in
count_line row scope id name n h = ap (λ (r : Result ℕ Fault). r >>= narrow row) (sum_line row scope id name n (omega (arith, h))) ∙ narrow_of row n h

count_none : (row : ℕ) (scope : List ℕ) (id : ℕ) (name : List ℕ) → count_in row scope id name None ≡ Err (CheckRow row)
unfolding count_in
count_none row scope id name = ap (λ (r : Result ℕ Fault). r >>= narrow row) (sum_none row scope id name)

pub count_of : (row : ℕ) (scope : List ℕ) (id : ℕ) (name : List ℕ) (o : Option (List (List ℕ))) (n : ℕ) → IsLineOf scope id name o (Some n) → n < 2 ^ 64 → count_in row scope id name o ≡ Ok n
count_of row scope id name o n line h = ap (count_in row scope id name) line ∙ count_line row scope id name n h

-- CYCLES

abbrev IsCycle : Option ℕ → Type 0
IsCycle value = IfSome value (λ n. n < 2 ^ 64)

cycle-wide : (value : Option ℕ) → IsCycle value → IsWide value
cycle-wide None h = tt
cycle-wide (Some n) h = omega (arith, h)

optional_ok : (row : ℕ) (value found : Option ℕ) → narrow_optional row value ≡ Ok found → (value ≡ found) × IsCycle found
optional_ok row None found h = let same : None ≡ found = cc h in (same, subst IsCycle same tt)
optional_ok row (Some n) found h =
    let parts = bind_ok (narrow row n) (λ k. Ok (Some k)) found h in
    let value = narrow_ok row n parts.0 parts.1 in
    let same : Some parts.0 ≡ found = cc parts.2 in
    (ap Some value.0 ∙ same, subst IsCycle same value.1)

optional_err : (row : ℕ) (value : Option ℕ) (e : Fault) → narrow_optional row value ≡ Err e → e ≡ CheckRow row
optional_err row None e h = cc h
optional_err row (Some n) e h =
    elim (bind_err (narrow row n) (λ k. Ok (Some k)) e h) [
      | inl fails ↦ narrow_err row n e fails
      | inr goes ↦ let both = goes.2 in cc both
    ]

optional_of : (row : ℕ) (value : Option ℕ) → IsCycle value → narrow_optional row value ≡ Ok value
optional_of row None h = refl
optional_of row (Some n) h = ap (λ (r : Result ℕ Fault). r >>= (λ k. Ok (Some k))) (narrow_of row n h)

cycle_ok : (row : ℕ) (scope : List ℕ) (id : ℕ) (name : List ℕ) (o : Option (List (List ℕ))) (value : Option ℕ) → cycle_in row scope id name o ≡ Ok value → IsLineOf scope id name o value × IsCycle value
unfolding cycle_in
cycle_ok row scope id name o value h =
    let parts = bind_ok (value_in row scope id name o) (narrow_optional row) value h in
    let found = optional_ok row parts.0 value parts.2 in
    (subst (λ v. IsLineOf scope id name o v) found.0 (value_ok row scope id name o parts.0 parts.1).0, found.1)

cycle_err : (row : ℕ) (scope : List ℕ) (id : ℕ) (name : List ℕ) (o : Option (List (List ℕ))) (e : Fault) → cycle_in row scope id name o ≡ Err e → e ≡ CheckRow row
unfolding cycle_in
cycle_err row scope id name o e h =
    elim (bind_err (value_in row scope id name o) (narrow_optional row) e h) [
      | inl fails ↦ value_err row scope id name o e fails
      | inr goes ↦ optional_err row goes.0 e goes.2
    ]

cycle_line : (row : ℕ) (scope : List ℕ) (id : ℕ) (name : List ℕ) (value : Option ℕ) → IsCycle value → cycle_in row scope id name (Some (value_fields scope id (name, value))) ≡ Ok value
unfolding cycle_in
cycle_line row scope id name value h =
    ap (λ (r : Result (Option ℕ) Fault). r >>= narrow_optional row) (value_of row scope id name value (cycle-wide value h)) ∙ optional_of row value h

cycle_none : (row : ℕ) (scope : List ℕ) (id : ℕ) (name : List ℕ) → cycle_in row scope id name None ≡ Err (CheckRow row)
unfolding cycle_in
cycle_none row scope id name = ap (λ (r : Result (Option ℕ) Fault). r >>= narrow_optional row) (value_none row scope id name)

cycle_of : (row : ℕ) (scope : List ℕ) (id : ℕ) (name : List ℕ) (o : Option (List (List ℕ))) (value : Option ℕ) → IsLineOf scope id name o value → IsCycle value → cycle_in row scope id name o ≡ Ok value
cycle_of row scope id name o value line h = ap (cycle_in row scope id name) line ∙ cycle_line row scope id name value h

-- NUMBERS OF COUNTERS

pub number_ok : (kind : CounterKind) (row : ℕ) (scope : List ℕ) (id : ℕ) (name : List ℕ) (o : Option (List (List ℕ))) (value : Option ℕ) → number_in kind row scope id name o ≡ Ok value → IsLineOf scope id name o value × IsNumberOf kind value
number_ok Count row scope id name o value h =
    let parts = bind_ok (count_in row scope id name o) (λ n. Ok (Some n)) value h in
    let same : Some parts.0 ≡ value = cc parts.2 in
    subst (λ v. IsLineOf scope id name o v × IsNumberOf Count v) same (count_ok row scope id name o parts.0 parts.1)
number_ok Sum row scope id name o value h =
    let parts = bind_ok (sum_in row scope id name o) (λ n. Ok (Some n)) value h in
    let same : Some parts.0 ≡ value = cc parts.2 in
    subst (λ v. IsLineOf scope id name o v × IsNumberOf Sum v) same (sum_ok row scope id name o parts.0 parts.1)
number_ok Cycle row scope id name o value h = cycle_ok row scope id name o value h

pub number_of : (kind : CounterKind) (row : ℕ) (scope : List ℕ) (id : ℕ) (name : List ℕ) (o : Option (List (List ℕ))) (value : Option ℕ) → IsLineOf scope id name o value → IsNumberOf kind value → number_in kind row scope id name o ≡ Ok value
number_of Count row scope id name o (Some n) line h = ap (λ (r : Result ℕ Fault). r >>= (λ k. Ok (Some k))) (count_of row scope id name o n line h)
number_of Count row scope id name o None line h = absurd h
number_of Sum row scope id name o (Some n) line h = ap (λ (r : Result ℕ Fault). r >>= (λ k. Ok (Some k))) (sum_of row scope id name o n line h)
number_of Sum row scope id name o None line h = absurd h
number_of Cycle row scope id name o value line h = cycle_of row scope id name o value line h

made_err : (o : Result ℕ Fault) (row : ℕ) (e : Fault) → ((f : Fault) → o ≡ Err f → f ≡ CheckRow row) → (o >>= (λ n. Ok (Some n))) ≡ Err e → e ≡ CheckRow row
made_err o row e fault h =
    elim (bind_err o (λ n. Ok (Some n)) e h) [
      | inl fails ↦ fault e fails
      | inr goes ↦ let both = goes.2 in cc both
    ]

number_err : (kind : CounterKind) (row : ℕ) (scope : List ℕ) (id : ℕ) (name : List ℕ) (o : Option (List (List ℕ))) (e : Fault) → number_in kind row scope id name o ≡ Err e → e ≡ CheckRow row
number_err Count row scope id name o e h = made_err (count_in row scope id name o) row e (count_err row scope id name o) h
number_err Sum row scope id name o e h = made_err (sum_in row scope id name o) row e (sum_err row scope id name o) h
number_err Cycle row scope id name o e h = cycle_err row scope id name o e h

number_none : (kind : CounterKind) (row : ℕ) (scope : List ℕ) (id : ℕ) (name : List ℕ) → number_in kind row scope id name None ≡ Err (CheckRow row)
number_none Count row scope id name = ap (λ (r : Result ℕ Fault). r >>= (λ n. Ok (Some n))) (count_none row scope id name)
number_none Sum row scope id name = ap (λ (r : Result ℕ Fault). r >>= (λ n. Ok (Some n))) (sum_none row scope id name)
number_none Cycle row scope id name = cycle_none row scope id name

-- a number that a counter of this kind may have
some_number : CounterKind → Option ℕ
some_number Count = Some 0
some_number Sum = Some 0
some_number Cycle = None

some_number-is : (kind : CounterKind) → IsNumberOf kind (some_number kind)
unfolding some_number
some_number-is Count = omega arith
some_number-is Sum = omega arith
some_number-is Cycle = tt

-- THE COUNT OF CYCLES OF DRAINING

draining-by : (row id : ℕ) (o : Option (List (List ℕ))) (is : Bool) (value : Option ℕ) → (if is then count_in row (codes "channel") id (codes "draining") o >>= (λ n. Ok (Some n)) else Ok None) ≡ Ok value
    → ((is ≡ false) × (None ≡ value)) ⊎ ((n : ℕ) × (Some n ≡ value) × IsLineOf (codes "channel") id (codes "draining") o (Some n) × (n < 2 ^ 64))
draining-by row id o false value h = inl (refl, cc h)
draining-by row id o true value h =
    let parts = bind_ok (count_in row (codes "channel") id (codes "draining") o) (λ n. Ok (Some n)) value h in
    let found = count_ok row (codes "channel") id (codes "draining") o parts.0 parts.1 in
    inr (parts.0, cc parts.2, found.0, found.1)

-- there is none, or it is in the row
pub draining_ok : (row id : ℕ) (o : Option (List (List ℕ))) (value : Option ℕ) → draining_in row id o ≡ Ok value
    → (None ≡ value) ⊎ ((n : ℕ) × (Some n ≡ value) × IsLineOf (codes "channel") id (codes "draining") o (Some n) × (n < 2 ^ 64))
unfolding draining_in
draining_ok row id o value h =
    elim (draining-by row id o (has_text 2 (codes "draining") o) value h) [
      | inl none ↦ inl none.1
      | inr some ↦ inr some
    ]

draining-err-by : (row id : ℕ) (o : Option (List (List ℕ))) (is : Bool) (e : Fault) → (if is then count_in row (codes "channel") id (codes "draining") o >>= (λ n. Ok (Some n)) else Ok None) ≡ Err e → e ≡ CheckRow row
draining-err-by row id o false e h = cc h
draining-err-by row id o true e h =
    elim (bind_err (count_in row (codes "channel") id (codes "draining") o) (λ n. Ok (Some n)) e h) [
      | inl fails ↦ count_err row (codes "channel") id (codes "draining") o e fails
      | inr goes ↦ let both = goes.2 in cc both
    ]

draining_err : (row id : ℕ) (o : Option (List (List ℕ))) (e : Fault) → draining_in row id o ≡ Err e → e ≡ CheckRow row
unfolding draining_in
draining_err row id o e h = draining-err-by row id o (has_text 2 (codes "draining") o) e h

draining_line : (row id n : ℕ) → n < 2 ^ 64 → draining_in row id (Some (value_fields (codes "channel") id (codes "draining", Some n))) ≡ Ok (Some n)
unfolding draining_in text_at field_at
draining_line row id n h = ap (λ (r : Result ℕ Fault). r >>= (λ k. Ok (Some k))) (count_line row (codes "channel") id (codes "draining") n h)

pub draining_some : (row id n : ℕ) (o : Option (List (List ℕ))) → IsLineOf (codes "channel") id (codes "draining") o (Some n) → n < 2 ^ 64 → draining_in row id o ≡ Ok (Some n)
draining_some row id n o line h = ap (draining_in row id) line ∙ draining_line row id n h

pub draining_none : (row id : ℕ) (o : Option (List (List ℕ))) → has_text 2 (codes "draining") o ≡ false → draining_in row id o ≡ Ok None
unfolding draining_in
draining_none row id o h = rw h refl

-- READING

pub read_count : (scope : List ℕ) (id : ℕ) (name : List ℕ) (from to : ℕ) → to ≡ from + 1 → Row from to (λ r. count_at r from scope id name)
read_count scope id name from to next =
    row_there from to next (count_in from scope id name) (value_fields scope id (name, Some 0)) 0 (count_line from scope id name 0 (omega arith)) (count_err from scope id name) (count_none from scope id name)

pub read_number : (scope : List ℕ) (id : ℕ) (counter : List ℕ × CounterKind) (from to : ℕ) → to ≡ from + 1 → Row from to (λ r. number_at r from scope id counter)
read_number scope id counter from to next =
    let some = some_number counter.1 in
    row_there from to next (number_in counter.1 from scope id counter.0) (value_fields scope id (counter.0, some)) some
    (number_of counter.1 from scope id counter.0 (Some (value_fields scope id (counter.0, some))) some refl (some_number-is counter.1)) (number_err counter.1 from scope id counter.0) (number_none counter.1 from scope id counter.0)

pub read_draining : (id from to : ℕ) → to ≡ from + 1 → Read from to (λ r. draining_at r from id)
read_draining id from to next =
    row_read from to next (draining_in from id) (value_fields (codes "channel") id (codes "draining", Some 0)) (Some 0) (draining_line from id 0 (omega arith)) (draining_err from id)
