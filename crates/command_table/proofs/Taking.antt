-- What is left of a list without its first row.
use Rattle.std.proofs.Common.{◌≡◌, ℕ, zero, suc, ◌+◌, ◌<◌, List, [], ◌∷◌, ◌++◌, length, get_or, take, set, refl, sym, ap, ap₂, ◌∙◌, arith}
use Rattle.command_table.specs.Tables.{all_rows as all}
use Rattle.std.specs.List.{remove}
use Rattle.std.proofs.lemmas.List.{take_more, append-nil}
use Rattle.std.proofs.lemmas.List.Concat.{flat_map-append}
use Rattle.sim_base.specs.declared.command.IssuedCommand.{IssuedCommand}

-- a list with no row can be left out
pub without-empty : (lists : List (List IssuedCommand)) (place : ℕ) → place < length lists → all (remove lists place) ≡ all (set lists place [])
without-empty [] place l = absurd (omega (arith, l))
without-empty (rows ∷ lists) zero l = refl
without-empty (rows ∷ lists) (suc place) l = ap (λ z. rows ++ z) (without-empty lists place (omega (arith, l)))

-- one list more
pub part-more : (lists lefts new : List (List IssuedCommand)) (i : ℕ) (list part : List IssuedCommand) → i < length lists → list ≡ get_or lists i list → part ≡ list
    → all lefts ≡ all (take i lists) → all new ≡ all lefts ++ part → all new ≡ all (take (i + 1) lists)
part-more lists lefts new i list part l is same h added =
    added
    ∙ ap₂ (λ xs ys. xs ++ ys) h (same ∙ is)
    ∙ sym (ap all (take_more lists i list l)
    ∙ flat_map-append (λ rows. rows) (take i lists) (get_or lists i list ∷ [])
    ∙ ap (λ rows. all (take i lists) ++ rows) (append-nil (get_or lists i list)))
