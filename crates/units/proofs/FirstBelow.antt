-- The first word of a column that is below a bound, found a few words at a time.
use Rattle.std.proofs.Common.{◌≡◌, ℕ, ◌+◌, ◌<◌, ◌≤◌, true, cond, eqb, ltb, List, length, map, get_or, Some, None, ap, ◌∙◌, inl, inr, arith}
use Rattle.std.proofs.lemmas.Bool.{cases_lt, cond-true, cond-false, lt-ltb, le-ltb}
use Rattle.std.proofs.lemmas.List.Sums.{position_or_len_is}
use Rattle.std.proofs.lemmas.Simd.{first_set_mask_l, run_in_chunk_fails}
use Rattle.std.specs.List.{position_or_len, position}
use Rattle.std.specs.Simd.Lanes.{mask_l, chunk}
use Rattle.units.specs.Scans.{is_below, NoneBelow}
use lib.Count.{count_trailing_zeros}

-- the lowest bit that is set is that of the first word below the bound
pub first_set : (bound bits n : ℕ) (xs ws : List ℕ) → bits ≡ mask_l (map (is_below bound) ws) → ws ≡ xs → length xs ≡ n → n ≤ 64
    → cond (eqb bits 0) n (count_trailing_zeros 64 bits) ≡ position_or_len (is_below bound) xs
first_set bound bits n xs ws set same long few =
    ap (λ b. cond (eqb b 0) n (count_trailing_zeros 64 b)) (set ∙ ap (λ vs. mask_l (map (is_below bound) vs)) same) ∙ first_set_mask_l (is_below bound) xs n long few

-- none comes before the first of some words that is below the bound, where none comes before these
pub none_more : (bound : ℕ) (words : List ℕ) (at n run : ℕ) → at + n ≤ length words → run ≡ position_or_len (is_below bound) (chunk at n words) → NoneBelow bound words at
    → NoneBelow bound words (at + run)
none_more bound words at n run room counted none k below =
    elim (cases_lt k at) [
      | inl before ↦ none k before
      | inr from ↦ run_in_chunk_fails (is_below bound) words at n run 0 room counted k from below
    ]

-- none comes before the end of some words of which none is
pub none_all : (bound : ℕ) (words : List ℕ) (at n run : ℕ) → at + n ≤ length words → run ≡ position_or_len (is_below bound) (chunk at n words) → n ≤ run → NoneBelow bound words at
    → NoneBelow bound words (at + n)
none_all bound words at n run room counted whole none k below = none_more bound words at n run room counted none k (omega arith)

first_place : (bound : ℕ) (words : List ℕ) (i : ℕ) → i ≤ length words → NoneBelow bound words i → (i + 1 ≤ length words → is_below bound (get_or words i 0) ≡ true)
    → position_or_len (is_below bound) words ≡ i
first_place bound words i stop none found = position_or_len_is (is_below bound) words i 0 stop none (λ below. found (omega arith))

-- a word below the bound, with none before it, is the first one
pub position_found : (bound : ℕ) (words : List ℕ) (i : ℕ) → i < length words → NoneBelow bound words i → is_below bound (get_or words i 0) ≡ true
    → position (is_below bound) words ≡ Some i
position_found bound words i below none found =
    let place = first_place bound words i (omega arith) none (λ _. found) in
    ap (λ n. cond (ltb n (length words)) (Some n) None) place ∙ cond-true _ _ _ (lt-ltb i (length words) below)

-- no word of a column is below the bound
pub position_none : (bound : ℕ) (words : List ℕ) (i : ℕ) → i ≤ length words → length words ≤ i → NoneBelow bound words i → position (is_below bound) words ≡ None
position_none bound words i stop end none =
    let place = first_place bound words i stop none (λ room. absurd (omega arith)) in
    ap (λ n. cond (ltb n (length words)) (Some n) None) place ∙ cond-false _ _ _ (le-ltb i (length words) end)
