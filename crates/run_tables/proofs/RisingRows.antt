-- Rows of which none is of an earlier cycle than one before it, with one more.
use Rattle.std.proofs.Common.{◌+◌, ◌≤◌, List, [], ◌∷◌, ◌++◌, ℕ, All, length, take, subst, append_assoc, length-append, arith}
use Rattle.std.proofs.lemmas.List.{get_or-take, get_or-append-add, length-take}
use Rattle.std.proofs.lemmas.List.Elements.{All-push}
use Rattle.std.proofs.lemmas.List.Quantifiers.{all_pairs_push}
use Rattle.command_table.specs.Tables.{IsRising}
use Rattle.sim_base.specs.declared.command.IssuedCommand.{IssuedCommand}

-- each row is of this cycle or an earlier one
abbrev pub AreUntil : ℕ → List IssuedCommand → Type 0
AreUntil cycle rows = All (λ row. row.cycle ≤ cycle) rows

pub rising_push : (rows : List IssuedCommand) (row : IssuedCommand) (earliest : ℕ) → IsRising rows → AreUntil earliest rows → earliest ≤ row.cycle → IsRising (rows ++ row ∷ [])
rising_push rows row earliest rising until later =
    all_pairs_push (λ a b. a.cycle ≤ b.cycle) rows row rising (λ k d within. let before = until k d within in omega (arith, before, later))

pub until_push : (rows : List IssuedCommand) (row : IssuedCommand) (earliest : ℕ) → AreUntil earliest rows → earliest ≤ row.cycle → AreUntil row.cycle (rows ++ row ∷ [])
until_push rows row earliest until later =
    All-push (λ r. r.cycle ≤ row.cycle) rows row (λ k d within. let before = until k d within in omega (arith, before, later)) (omega arith)

-- the first of them
pub rising_take : (n : ℕ) (rows : List IssuedCommand) → IsRising rows → IsRising (take n rows)
rising_take n rows rising i j d before within =
    let size = length-take n rows in
    let first = get_or-take n rows i d (omega (arith, size, before, within)) in
    let second = get_or-take n rows j d (omega (arith, size, within)) in
    let order = rising i j d before (omega (arith, size, within)) in
    rw (first, second) order

-- none that comes after them all is of an earlier cycle than the last
pub rising_last : (rows : List IssuedCommand) (row next : IssuedCommand) → IsRising ((rows ++ row ∷ []) ++ next ∷ []) → row.cycle ≤ next.cycle
rising_last rows row next rising =
    let pair = row ∷ next ∷ [] in
    let size = length-append rows pair in
    let order = subst IsRising (append_assoc rows (row ∷ []) (next ∷ [])) rising (length rows + 0) (length rows + 1) row (omega arith) (omega (arith, size)) in
    rw (get_or-append-add rows pair 0 row, get_or-append-add rows pair 1 row) at order
