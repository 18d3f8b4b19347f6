-- A reader that has read its first record can go on.
use Rattle.std.proofs.Common.{◌≡◌, ◌∙◌, Bor, ℕ, ◌<◌, ◌^◌, Bool, true, false, List, [], ◌∷◌, ◌++◌, length, map, drop, sym, ap, arith, append_assoc}
use Rattle.std.proofs.lemmas.List.{map-append}
use Rattle.csv.specs.Records.{Row, fields_of}
use Rattle.csv.specs.declared.reader.Reader.{Reader}
use Rattle.rule_check.specs.Left.{Takes, left_of}
use Rattle.run_tables.specs.Records.{Stands}

pub stands_at_start : (old new : Reader (Bor (List ℕ))) (found : Bool) (fields : List (List ℕ)) → Takes old found fields new → length (left_of old) < 2 ^ 64 → Stands new fields found 0
stands_at_start old new true fields took few =
    let size = ap length took.1 in
    record { reading = λ e. took.0; few = omega (arith, few, size) }
stands_at_start old new false fields took few = record { reading = λ e. cc e; few = omega arith }

-- one record more was read
pub record_more : (all left new : List (List (List ℕ))) (xs pushed : List Row) (x : Row) → all ≡ map fields_of xs ++ left → left ≡ fields_of x ∷ drop 1 left → new ≡ drop 1 left → pushed ≡ xs ++ x ∷ []
    → all ≡ map fields_of pushed ++ new
record_more all left new xs pushed x so_far first rest push =
    so_far
    ∙ ap (λ (t : List (List (List ℕ))). map fields_of xs ++ t) (first ∙ ap (λ (t : List (List (List ℕ))). fields_of x ∷ t) (sym rest))
    ∙ sym (append_assoc (map fields_of xs) (fields_of x ∷ []) new)
    ∙ ap (λ (t : List (List (List ℕ))). t ++ new) (sym (ap (map fields_of) push ∙ map-append fields_of xs (x ∷ [])))
