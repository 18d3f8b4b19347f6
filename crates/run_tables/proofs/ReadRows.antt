-- What was read of a table of commands so far, and what it says of the next record.
use Rattle.std.proofs.Common.{◌≡◌, ◌+◌, ◌<◌, ◌≤◌, ◌∙◌, ℕ, suc, List, [], ◌∷◌, ◌++◌, length, map, take, drop, Option, Some, None, IfSome, refl, sym, ap, ap₂, subst, arith, append_assoc, append-nil, length-append}
use Rattle.std.proofs.lemmas.List.{map-append, take-map, take_at}
use Rattle.sim_base.specs.declared.command.IssuedCommand.{IssuedCommand}
use Rattle.rule_check.specs.Fields.{row_in}
use Rattle.rule_check.specs.declared.limits.Limits.{Limits}
use Rattle.command_table.specs.Tables.{IsRising}
use Rattle.run_tables.specs.Commands.{limits_told, first_told, first_read, IsCommandTable, HoldsCommands}
use Rattle.run_tables.specs.Records.{IsFirstWrong}
use Rattle.run_tables.proofs.RisingRows.{AreUntil, rising_push, until_push, rising_take, rising_last}

-- the header and some records were taken, and gave these rows; the next row is of this cycle or a later one
pub record ReadSoFar (all : List (List (List ℕ))) (limits : Limits) (rows : List IssuedCommand) (earliest row : ℕ) (left : List (List (List ℕ))) : Type 0 where
  pub header : List (List ℕ)
  pub taken : List (List (List ℕ))
  pub parts : all ≡ (header ∷ taken) ++ left
  pub count : row ≡ length taken + 1
  pub columns : limits_told header ≡ Some limits
  pub read : map (row_in limits) taken ≡ map Some rows
  pub rising : IsRising rows
  pub until : AreUntil earliest rows
  pub least : (next : IssuedCommand) → IsRising (rows ++ next ∷ []) → earliest ≤ next.cycle

-- the header alone
pub header_read : (all left : List (List (List ℕ))) (limits : Limits) (row : ℕ) → first_told all ≡ Some limits → left ≡ drop 1 all → row ≡ 0 + 1 → ReadSoFar all limits [] 0 row left
header_read [] left limits row told rest count = cc told
header_read (h ∷ others) left limits row told rest count =
    record {
      header = h;
      taken = [];
      parts = ap (λ (t : List (List (List ℕ))). h ∷ t) (sym rest);
      count = count;
      columns = told;
      read = refl;
      rising = λ i j d l k. absurd (omega (arith, l, k));
      until = λ k d l. absurd (omega (arith, l));
      least = λ next h. omega arith;
    }

-- one row more
pub row_more : (all left rest : List (List (List ℕ))) (limits : Limits) (rows more : List IssuedCommand) (earliest row number : ℕ) (next : IssuedCommand) → ReadSoFar all limits rows earliest row left
    → first_read limits left ≡ Some next → earliest ≤ next.cycle → rest ≡ drop 1 left → number ≡ row + 1 → more ≡ rows ++ next ∷ [] → ReadSoFar all limits more next.cycle number rest
row_more all [] rest limits rows more earliest row number next h read later taken count pushed = cc read
row_more all (fields ∷ others) rest limits rows more earliest row number next h read later taken count pushed =
    let size : length (h.taken ++ fields ∷ []) ≡ length h.taken + 1 = length-append h.taken (fields ∷ []) in
    let before = h.count in
    subst (λ list. ReadSoFar all limits list next.cycle number rest) (sym pushed) (record {
      header = h.header;
      taken = h.taken ++ fields ∷ [];
      parts = h.parts
          ∙ ap (λ (t : List (List (List ℕ))). (h.header ∷ h.taken) ++ fields ∷ t) (sym taken)
          ∙ ap (λ (t : List (List (List ℕ))). h.header ∷ t) (sym (append_assoc h.taken (fields ∷ []) rest));
      count = omega (arith, size, before, count);
      columns = h.columns;
      read = map-append (row_in limits) h.taken (fields ∷ [])
          ∙ ap (λ (t : List (Option IssuedCommand)). t ++ row_in limits fields ∷ []) h.read
          ∙ ap (λ (o : Option IssuedCommand). map Some rows ++ o ∷ []) read
          ∙ sym (map-append Some rows (next ∷ []));
      rising = rising_push rows next earliest h.rising h.until later;
      until = until_push rows next earliest h.until later;
      least = rising_last rows next;
    })

-- all of it
pub rows_read : (all left : List (List (List ℕ))) (limits : Limits) (rows : List IssuedCommand) (earliest row : ℕ) → ReadSoFar all limits rows earliest row left → left ≡ [] → IsCommandTable all rows
rows_read all left limits rows earliest row h none =
    record {
      header = h.header;
      others = h.taken;
      limits = limits;
      parts = h.parts ∙ ap (λ t. (h.header ∷ h.taken) ++ t) none ∙ append-nil (h.header ∷ h.taken);
      columns = h.columns;
      read = h.read;
      rising = h.rising;
    }

-- the last of some rows, by what it was read from
pub record LastRead {X : Type 0} (rows all : List X) (read : Option X) : Type 0 where
  pub row : X
  pub is : read ≡ Some row
  pub whole : all ≡ rows ++ row ∷ []

pub last_read : {X : Type 0} (rows all : List X) (read : Option X) → map Some all ≡ map Some rows ++ read ∷ [] → LastRead rows all read
last_read [] [] read e = cc e
last_read [] (row ∷ []) read e = record { row = row; is = cc e; whole = refl }
last_read [] (row ∷ next ∷ more) read e = cc e
last_read (r ∷ rows) [] read e = cc e
last_read (r ∷ rows) (row ∷ more) read e =
    let rest = last_read rows more read (cc e) in
    let same : row ≡ r = cc e in
    record { row = rest.row; is = rest.is; whole = ap₂ (λ x xs. x ∷ xs) same rest.whole }

-- a table that goes on with this record has a row for it, and none of an earlier cycle
other_row : (header : List (List ℕ)) (taken other : List (List (List ℕ))) (fields : List (List ℕ)) (limits : Limits) (row earliest : ℕ) (rows others : List IssuedCommand)
    → limits_told header ≡ Some limits → map (row_in limits) taken ≡ map Some rows → ((next : IssuedCommand) → IsRising (rows ++ next ∷ []) → earliest ≤ next.cycle)
    → IsCommandTable other others → take (row + 1) other ≡ header ∷ (taken ++ fields ∷ []) → (next : IssuedCommand) × (row_in limits fields ≡ Some next) × (earliest ≤ next.cycle)
other_row header taken other fields limits row earliest rows others told read least t same =
    let number : row + 1 ≡ suc row = omega arith in
    let front : t.header ∷ take row t.others ≡ header ∷ (taken ++ fields ∷ []) = ap (λ k. take k (t.header ∷ t.others)) (sym number) ∙ ap (take (row + 1)) (sym t.parts) ∙ same in
    let header_same : t.header ≡ header = cc front in
    let others_same : take row t.others ≡ taken ++ fields ∷ [] = cc front in
    let named : limits_told t.header ≡ limits_told header = ap limits_told header_same in
    let columns = t.columns in
    let limits_same : t.limits ≡ limits = cc (named, columns, told) in
    let all : map Some (take row others) ≡ map Some rows ++ row_in limits fields ∷ [] =
    sym (take-map Some row others)
    ∙ ap (take row) (sym t.read)
    ∙ take-map (row_in t.limits) row t.others
    ∙ ap (λ (k : Limits). map (row_in k) (take row t.others)) limits_same
    ∙ ap (map (row_in limits)) others_same
    ∙ map-append (row_in limits) taken (fields ∷ [])
    ∙ ap (λ (list : List (Option IssuedCommand)). list ++ row_in limits fields ∷ []) read in
    let last = last_read rows (take row others) (row_in limits fields) all in (
      last.row,
      last.is,
      least last.row (subst IsRising {y = rows ++ last.row ∷ []} last.whole (rising_take row others t.rising)),
    )

too_early : (o : Option IssuedCommand) (next : IssuedCommand) (earliest : ℕ) → IfSome o (λ row. row.cycle < earliest) → o ≡ Some next → earliest ≤ next.cycle → ⊥
too_early None next earliest early is later = cc is
too_early (Some row) next earliest early is later = let same : row.cycle ≡ next.cycle = cc is in omega (arith, early, same, later)

-- a record that writes no row, or one of an earlier cycle, is the first that is wrong
pub row_wrong : (all left : List (List (List ℕ))) (limits : Limits) (rows : List IssuedCommand) (earliest row : ℕ) → ReadSoFar all limits rows earliest row left → 0 < length left
    → IfSome (first_read limits left) (λ next. next.cycle < earliest) → IsFirstWrong HoldsCommands all row
row_wrong all [] limits rows earliest row h some early = absurd (omega (arith, some))
row_wrong all (fields ∷ others) limits rows earliest row h some early =
    let front = h.header ∷ h.taken in
    let count = h.count in
    let size : length front ≡ row = omega (arith, count) in
    let longer : length (front ++ fields ∷ []) ≡ row + 1 = let long = length-append front (fields ∷ []) in omega (arith, long, size) in
    let goes : take (row + 1) all ≡ front ++ fields ∷ [] = ap (take (row + 1)) (h.parts ∙ sym (append_assoc front (fields ∷ []) others)) ∙ take_at (front ++ fields ∷ []) others (row + 1) longer in
    record {
      table = front;
      is_table = (rows, record { header = h.header; others = h.taken; limits = limits; parts = refl; columns = h.columns; read = h.read; rising = h.rising });
      agrees = ap (take row) (sym (append-nil front)) ∙ take_at front [] row size ∙ sym (ap (take row) h.parts ∙ take_at front (fields ∷ others) row size);
      differs = λ other t same.
          let next = other_row h.header h.taken other fields limits row earliest rows t.0 h.columns h.read h.least t.1 (same ∙ goes) in
          too_early (row_in limits fields) next.0 earliest early next.1 next.2;
    }
