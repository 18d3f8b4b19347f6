-- Rows in order, with one more.
use Rattle.std.proofs.Common.{◌+◌, ◌<◌, ◌≤◌, List, [], ◌∷◌, ◌++◌, ℕ, All, length, take, subst, append_assoc, length-append, arith}
use Rattle.std.proofs.lemmas.List.{get_or-take, get_or-append-add, length-take}
use Rattle.std.proofs.lemmas.List.Elements.{All-push}
use Rattle.std.proofs.lemmas.List.Quantifiers.{all_pairs_push}
use Rattle.request_table.specs.declared.times.RequestTimes.{RequestTimes}
use Rattle.run_tables.specs.Requests.{turn, IsInOrder}

-- each row stands before this place
abbrev pub AreBefore : ℕ → List RequestTimes → Type 0
AreBefore least rows = All (λ row. turn row < least) rows

pub order_push : (rows : List RequestTimes) (row : RequestTimes) (least : ℕ) → IsInOrder rows → AreBefore least rows → least ≤ turn row → IsInOrder (rows ++ row ∷ [])
order_push rows row least in_order before later =
    all_pairs_push (λ a b. turn a < turn b) rows row in_order (λ k d within. let earlier = before k d within in omega (arith, earlier, later))

pub before_push : (rows : List RequestTimes) (row : RequestTimes) (least : ℕ) → AreBefore least rows → least ≤ turn row → AreBefore (turn row + 1) (rows ++ row ∷ [])
before_push rows row least before later =
    All-push (λ r. turn r < turn row + 1) rows row (λ k d within. let earlier = before k d within in omega (arith, earlier, later)) (omega arith)

-- the first of them
pub order_take : (n : ℕ) (rows : List RequestTimes) → IsInOrder rows → IsInOrder (take n rows)
order_take n rows in_order i j d before within =
    let size = length-take n rows in
    let first = get_or-take n rows i d (omega (arith, size, before, within)) in
    let second = get_or-take n rows j d (omega (arith, size, within)) in
    let order = in_order i j d before (omega (arith, size, within)) in
    rw (first, second) order

-- what comes after them all stands behind the last
pub order_last : (rows : List RequestTimes) (row next : RequestTimes) → IsInOrder ((rows ++ row ∷ []) ++ next ∷ []) → turn row + 1 ≤ turn next
order_last rows row next in_order =
    let pair = row ∷ next ∷ [] in
    let size = length-append rows pair in
    let order = subst IsInOrder (append_assoc rows (row ∷ []) (next ∷ [])) in_order (length rows + 0) (length rows + 1) row (omega arith) (omega (arith, size)) in
    let order_is : turn row < turn next = rw (get_or-append-add rows pair 0 row, get_or-append-add rows pair 1 row) at order in
    omega (arith, order_is)
