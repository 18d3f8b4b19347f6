-- The least of some words, found a few at a time.
use Rattle.std.proofs.Common.{◌≡◌, ℕ, zero, suc, ◌+◌, ◌<◌, ◌≤◌, min, List, [], ◌∷◌, ◌++◌, length, take, replicate, refl, ap, ◌∙◌, arith}
use Rattle.std.proofs.lemmas.List.{take_all}
use Rattle.std.proofs.Math.Seq.{take-add}
use Rattle.std.proofs.lemmas.Simd.{length-chunk, length-zip2}
use Rattle.std.specs.List.{fold}
use Rattle.std.specs.Prelude.{All}
use Rattle.std.specs.Simd.Lanes.{zip2, chunk}
use Rattle.units.specs.Scans.{greatest, least_of}

-- the least of a number and a list
fold-min : (a b : ℕ) (xs : List ℕ) → fold min (min a b) xs ≡ min a (fold min b xs)
fold-min a b [] = refl
fold-min a b (x ∷ xs) = let assoc : min (min a b) x ≡ min a (min b x) = omega arith in ap (λ c. fold min c xs) assoc ∙ fold-min a (min b x) xs

pub least-cons : (x : ℕ) (xs : List ℕ) → least_of (x ∷ xs) ≡ min x (least_of xs)
least-cons x xs = let turned : min greatest x ≡ min x greatest = omega arith in ap (λ c. fold min c xs) turned ∙ fold-min x greatest xs

pub least-le : (xs : List ℕ) → least_of xs ≤ greatest
least-le [] = omega arith
least-le (x ∷ xs) = omega (arith, least-cons x xs, least-le xs)

least-append : (xs ys : List ℕ) → least_of (xs ++ ys) ≡ min (least_of xs) (least_of ys)
least-append [] ys = omega (arith, least-le ys)
least-append (x ∷ xs) ys = omega (arith, least-cons x (xs ++ ys), least-cons x xs, least-append xs ys)

least-zip2 : (xs ys : List ℕ) → length xs ≡ length ys → least_of (zip2 min xs ys) ≡ min (least_of xs) (least_of ys)
least-zip2 [] [] same = refl
least-zip2 [] (y ∷ ys) same = absurd (omega arith)
least-zip2 (x ∷ xs) [] same = absurd (omega arith)
least-zip2 (x ∷ xs) (y ∷ ys) same =
    omega (arith, least-cons (min x y) (zip2 min xs ys), least-cons x xs, least-cons y ys, least-zip2 xs ys (omega arith))

pub least_replicate : (n : ℕ) → least_of (replicate n greatest) ≡ greatest
least_replicate zero = refl
least_replicate (suc n) = omega (arith, least-cons greatest (replicate n greatest), least_replicate n)

-- the least lanes so far, and those of some words more
pub least_more : (words : List ℕ) (at n : ℕ) (lanes next : List ℕ) (least : ℕ) → at + n ≤ length words → length lanes ≡ n → next ≡ zip2 min lanes (chunk at n words)
    → min least (least_of lanes) ≡ least_of (take at words) → (length next ≡ n) × (min least (least_of next) ≡ least_of (take (at + n) words))
least_more words at n lanes next least room long same so_far =
    let whole : length (chunk at n words) ≡ n = length-chunk at n words room in
    let both : length lanes ≡ length (chunk at n words) = omega arith in
    let cut = ap least_of (take-add at n words) ∙ least-append (take at words) (chunk at n words) in
    (ap length same ∙ length-zip2 min lanes (chunk at n words) both ∙ long, omega (arith, cut, ap least_of same, least-zip2 lanes (chunk at n words) both))

-- the least of all words, once none is left
pub least_whole : (words : List ℕ) (end least : ℕ) → length words < end + 1 → least ≡ least_of (take end words) → least ≡ least_of words
least_whole words end least rest so_far = so_far ∙ ap least_of (take_all end words (omega arith))

-- no word is below the least
pub least-all : (words : List ℕ) → All (λ word. least_of words ≤ word) words
least-all [] k d l = absurd (omega (arith, l))
least-all (x ∷ xs) zero d l = omega (arith, least-cons x xs)
least-all (x ∷ xs) (suc k) d l = let rest = least-all xs k d (omega (arith, l)) in omega (arith, least-cons x xs, rest)

-- a bound that is not above any of the words is not above the least
pub least-since : (words : List ℕ) (bound : ℕ) → bound ≤ greatest → All (λ word. bound ≤ word) words → bound ≤ least_of words
least-since [] bound l h = l
least-since (x ∷ xs) bound l h =
    let first : bound ≤ x = h 0 0 (omega arith) in
    let rest = least-since xs bound l (λ k d m. h (suc k) d (omega (arith, m))) in
    omega (arith, least-cons x xs, first, rest)
