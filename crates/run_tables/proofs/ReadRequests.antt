-- What was read of a table of requests so far, and what it says of the next record.
use Rattle.std.proofs.Common.{◌≡◌, ◌≢◌, ◌+◌, ◌<◌, ◌≤◌, ◌∙◌, ℕ, suc, true, false, List, [], ◌∷◌, ◌++◌, length, map, take, drop, All, Option, Some, None, IfSome, Result, Ok, Err, refl, sym, ap, subst, arith, append_assoc, append-nil, length-append}
use Rattle.std.specs.Prelude.{IfOk, IfErr, MatchResult}
use Rattle.std.proofs.lemmas.List.{length-map, map-append, take-map, take_at}
use Rattle.std.proofs.lemmas.List.Elements.{All-push}
use Rattle.sim_base.specs.declared.fault.Fault.{Fault}
use Rattle.sim_base.specs.declared.fault.Fault.TheVariants.{Memory}
use Rattle.reports.specs.Requests.{request_header, request_fields}
use Rattle.request_table.specs.declared.times.RequestTimes.{RequestTimes}
use Rattle.run_tables.specs.Records.{IsFirstWrong, IsRefusedFor}
use Rattle.run_tables.specs.RequestRows.{request_in, first_request, is_request_header, begins_requests}
use Rattle.run_tables.specs.Requests.{RequestFits, turn, IsInOrder, IsRequestTable, HoldsRequests}
use Rattle.run_tables.proofs.OrderedRows.{AreBefore, order_push, before_push, order_take, order_last}
use Rattle.run_tables.proofs.ReadRows.{last_read}
use Rattle.run_tables.proofs.Refused.{only_memory, same_rows}
use Rattle.run_tables.proofs.RequestRows.{request_is, request_back, header_is, header_back}

-- rows that fit are read back, one by one
back_tail : (row : RequestTimes) (rows : List RequestTimes) → All RequestFits (row ∷ rows) → All RequestFits rows
back_tail row rows fits k d within = fits (suc k) d (omega (arith, within))

rows_back : (rows : List RequestTimes) → All RequestFits rows → map request_in (map request_fields rows) ≡ map Some rows
rows_back [] fits = refl
rows_back (row ∷ rows) fits =
    let first = request_back row (fits 0 row (omega arith)) in
    let rest = rows_back rows (back_tail row rows fits) in
    cc (first, rest)

-- a table is of one list of rows
one_list : (all : List (List (List ℕ))) (rows others : List RequestTimes) → IsRequestTable all rows → IsRequestTable all others → rows ≡ others
one_list all rows others a b =
    let parts = sym a.parts ∙ b.parts in
    let fields_same : map request_fields rows ≡ map request_fields others = cc parts in
    same_rows rows others (sym (rows_back rows a.fits) ∙ ap (map request_in) fields_same ∙ rows_back others b.fits)

-- what is read of a table is what it is of
pub inverse : (all : List (List (List ℕ))) (rows : List RequestTimes) {V : Type 0} (items : V → List RequestTimes) (result : Result V Fault)
    → IfOk result (λ found. IsRequestTable all (items found)) → IfErr result (IsRefusedFor HoldsRequests all) → IsRequestTable all rows → MatchResult result (λ found. items found ≡ rows) (λ e. e ≡ Memory)
inverse all rows items (Ok found) read refused table = one_list all (items found) rows read table
inverse all rows items (Err e) read refused table = only_memory HoldsRequests all e (rows, table) refused

-- THE HEADER

none_wrong : AreBefore 0 []
none_wrong k d within = absurd (omega (arith, within))

no_rows : All RequestFits []
no_rows k d within = absurd (omega (arith, within))

no_order : IsInOrder []
no_order i j d before within = absurd (omega (arith, within))

-- records that do not begin with a header are wrong from the first on
header-differs : (all other : List (List (List ℕ))) (rows : List RequestTimes) → begins_requests all ≡ false → IsRequestTable other rows → take (0 + 1) other ≢ take (0 + 1) all
header-differs [] other rows begins t same = let front : request_header ∷ [] ≡ [] = ap (take 1) (sym t.parts) ∙ same in cc front
header-differs (h ∷ rest) other rows begins t same =
    let front : request_header ∷ [] ≡ h ∷ [] = ap (take 1) (sym t.parts) ∙ same in
    let first : request_header ≡ h = cc front in
    let named = ap is_request_header first in
    let is = header_back in
    cc (named, is, begins)

pub header_wrong : (all : List (List (List ℕ))) → begins_requests all ≡ false → IsFirstWrong HoldsRequests all 0
header_wrong all begins = record {
  table = request_header ∷ [];
  is_table = ([], record { parts = refl; fits = no_rows; in_order = no_order });
  agrees = refl;
  differs = λ other t same. header-differs all other t.0 begins t.1 same;
}

-- THE ROWS

-- the header and the records of these rows were taken; the next row must not stand before this place
pub record RequestsSoFar (all : List (List (List ℕ))) (rows : List RequestTimes) (least row : ℕ) (left : List (List (List ℕ))) : Type 0 where
  pub parts : all ≡ (request_header ∷ map request_fields rows) ++ left
  pub count : row ≡ length rows + 1
  pub fits : All RequestFits rows
  pub in_order : IsInOrder rows
  pub before : AreBefore least rows
  pub least_is : (next : RequestTimes) → IsInOrder (rows ++ next ∷ []) → least ≤ turn next

-- the header alone
pub header_read : (all left : List (List (List ℕ))) (row : ℕ) → begins_requests all ≡ true → left ≡ drop 1 all → row ≡ 0 + 1 → RequestsSoFar all [] 0 row left
header_read [] left row begins rest count = cc begins
header_read (h ∷ others) left row begins rest count = record {
  parts = ap (λ (t : List (List ℕ)). t ∷ others) (header_is h begins) ∙ ap (λ (t : List (List (List ℕ))). request_header ∷ t) (sym rest);
  count = count;
  fits = no_rows;
  in_order = no_order;
  before = none_wrong;
  least_is = λ next h. omega arith;
}

-- one row more
pub row_more : (all left rest : List (List (List ℕ))) (rows more : List RequestTimes) (least row number : ℕ) (next : RequestTimes) → RequestsSoFar all rows least row left → first_request left ≡ Some next
    → least ≤ turn next → rest ≡ drop 1 left → number ≡ row + 1 → more ≡ rows ++ next ∷ [] → RequestsSoFar all more (turn next + 1) number rest
row_more all [] rest rows more least row number next h read later taken count pushed = cc read
row_more all (fields ∷ others) rest rows more least row number next h read later taken count pushed =
    let written = request_is fields next read in
    let size : length (rows ++ next ∷ []) ≡ length rows + 1 = length-append rows (next ∷ []) in
    let before = h.count in
    subst (λ list. RequestsSoFar all list (turn next + 1) number rest) (sym pushed) (record {
      parts = h.parts
          ∙ ap (λ (t : List (List ℕ)). (request_header ∷ map request_fields rows) ++ t ∷ others) written.fields_are
          ∙ ap (λ (t : List (List (List ℕ))). (request_header ∷ map request_fields rows) ++ request_fields next ∷ t) (sym taken)
          ∙ ap (λ (t : List (List (List ℕ))). request_header ∷ t) (sym (append_assoc (map request_fields rows) (request_fields next ∷ []) rest))
          ∙ ap (λ (t : List (List (List ℕ))). (request_header ∷ t) ++ rest) (sym (map-append request_fields rows (next ∷ [])));
      count = omega (arith, size, before, count);
      fits = All-push RequestFits rows next h.fits written.fits;
      in_order = order_push rows next least h.in_order h.before later;
      before = before_push rows next least h.before later;
      least_is = order_last rows next;
    })

-- all of it
pub rows_read : (all left : List (List (List ℕ))) (rows : List RequestTimes) (least row : ℕ) → RequestsSoFar all rows least row left → left ≡ [] → IsRequestTable all rows
rows_read all left rows least row h none = record {
  parts = h.parts ∙ ap (λ t. (request_header ∷ map request_fields rows) ++ t) none ∙ append-nil (request_header ∷ map request_fields rows);
  fits = h.fits;
  in_order = h.in_order;
}

-- a table that goes on with this record has a row for it, and none that stands before its place
other_row : (other : List (List (List ℕ))) (fields : List (List ℕ)) (row least : ℕ) (rows others : List RequestTimes) → All RequestFits rows
    → ((next : RequestTimes) → IsInOrder (rows ++ next ∷ []) → least ≤ turn next) → IsRequestTable other others
    → take (row + 1) other ≡ request_header ∷ (map request_fields rows ++ fields ∷ []) → (next : RequestTimes) × (request_in fields ≡ Some next) × (least ≤ turn next)
other_row other fields row least rows others fits least_is t same =
    let number : row + 1 ≡ suc row = omega arith in
    let front : request_header ∷ take row (map request_fields others) ≡ request_header ∷ (map request_fields rows ++ fields ∷ []) =
    ap (λ k. take k (request_header ∷ map request_fields others)) (sym number) ∙ ap (take (row + 1)) (sym t.parts) ∙ same in
    let others_same : take row (map request_fields others) ≡ map request_fields rows ++ fields ∷ [] = cc front in
    let all : map Some (take row others) ≡ map Some rows ++ request_in fields ∷ [] =
    sym (take-map Some row others)
    ∙ ap (take row) (sym (rows_back others t.fits))
    ∙ take-map request_in row (map request_fields others)
    ∙ ap (map request_in) others_same
    ∙ map-append request_in (map request_fields rows) (fields ∷ [])
    ∙ ap (λ (list : List (Option RequestTimes)). list ++ request_in fields ∷ []) (rows_back rows fits) in
    let last = last_read rows (take row others) (request_in fields) all in (
      last.row,
      last.is,
      least_is last.row (subst IsInOrder {y = rows ++ last.row ∷ []} last.whole (order_take row others t.in_order)),
    )

too_early : (o : Option RequestTimes) (next : RequestTimes) (least : ℕ) → IfSome o (λ row. turn row < least) → o ≡ Some next → least ≤ turn next → ⊥
too_early None next least early is later = cc is
too_early (Some row) next least early is later = let same : row ≡ next = cc is in let turns = ap turn same in omega (arith, early, turns, later)

-- a record that writes no row, or one that stands before its place, is the first that is wrong
pub row_wrong : (all left : List (List (List ℕ))) (rows : List RequestTimes) (least row : ℕ) → RequestsSoFar all rows least row left → 0 < length left
    → IfSome (first_request left) (λ next. turn next < least) → IsFirstWrong HoldsRequests all row
row_wrong all [] rows least row h some early = absurd (omega (arith, some))
row_wrong all (fields ∷ others) rows least row h some early =
    let front = request_header ∷ map request_fields rows in
    let count = h.count in
    let lines = length-map rows request_fields in
    let size : length front ≡ row = omega (arith, count, lines) in
    let longer : length (front ++ fields ∷ []) ≡ row + 1 = let long = length-append front (fields ∷ []) in omega (arith, long, size) in
    let goes : take (row + 1) all ≡ front ++ fields ∷ [] = ap (take (row + 1)) (h.parts ∙ sym (append_assoc front (fields ∷ []) others)) ∙ take_at (front ++ fields ∷ []) others (row + 1) longer in
    record {
      table = front;
      is_table = (rows, record { parts = refl; fits = h.fits; in_order = h.in_order });
      agrees = ap (take row) (sym (append-nil front)) ∙ take_at front [] row size ∙ sym (ap (take row) h.parts ∙ take_at front (fields ∷ others) row size);
      differs = λ other t same.
          let next = other_row other fields row least rows t.0 h.fits h.least_is t.1 (same ∙ goes) in
          too_early (request_in fields) next.0 least early next.1 next.2;
    }
