-- The distances that ticks may have, one power of ten after the other.
use Rattle.std.proofs.Common.{◌≡◌, ℕ, ◌+◌, ◌*◌, ◌/◌, ◌%◌, ◌^◌, ◌<◌, ◌≤◌, ap, ap₂, subst, sym, ◌∙◌, arith, add-one, lit<}
use Rattle.std.proofs.Math.Nat.{div-lt_iff_lt-mul, one-le-pow, pow-le-pow_right, pow-suc}
use borrow.Author.Count.{below_more}
use Rattle.request_pictures.specs.Scales.{digit_at, distance_at, HasMoreTicks, IsTickStep}

-- the first distance with a power of ten, the second and the third
pub first_of : (power : ℕ) → distance_at (3 * power) ≡ 10 ^ power
unfolding distance_at
first_of power =
    let digit : 3 * power % 3 ≡ 0 = omega arith in
    let rest : 3 * power / 3 ≡ power = omega arith in
    ap₂ (λ d p. digit_at d * 10 ^ p) digit rest ∙ omega arith

pub second_of : (power : ℕ) → distance_at (3 * power + 1) ≡ 2 * 10 ^ power
unfolding distance_at
second_of power =
    let digit : (3 * power + 1) % 3 ≡ 1 = omega arith in
    let rest : (3 * power + 1) / 3 ≡ power = omega arith in
    ap₂ (λ d p. digit_at d * 10 ^ p) digit rest

pub third_of : (power : ℕ) → distance_at (3 * power + 1 + 1) ≡ 5 * 10 ^ power
unfolding distance_at
third_of power =
    let digit : (3 * power + 1 + 1) % 3 ≡ 2 = omega arith in
    let rest : (3 * power + 1 + 1) / 3 ≡ power = omega arith in
    ap₂ (λ d p. digit_at d * 10 ^ p) digit rest

-- a power of ten below the greatest of 64 bits is small, and none is 0
pub power_some : (power place : ℕ) → power ≡ 10 ^ place → 0 < power
power_some power place is = subst (λ p. 0 < p) (sym is) (one-le-pow place 10 (lit< tt))

pub power_small : (power place : ℕ) → power ≡ 10 ^ place → place < 19 → power ≤ 1000000000000000000
power_small power place is within = subst (λ p. p ≤ 1000000000000000000) (sym is) (pow-le-pow_right {n = 10} (lit< tt) {i = place} {j = 18} (omega arith))

-- with each distance below a place there are too many ticks
abbrev pub HaveMoreTicks : ℕ → ℕ → ℕ → Type 0
HaveMoreTicks span most place = (sooner : ℕ) → sooner < place → HasMoreTicks span most sooner

-- and with the one there
pub more_at : (span most place distance : ℕ) → distance ≡ distance_at place → most < span / distance → HaveMoreTicks span most place → HaveMoreTicks span most (place + 1)
more_at span most place distance is exceeds sooner = below_more (HasMoreTicks span most) place sooner (subst (λ d. most < span / d) is exceeds)

-- the first that has few enough
pub step_at : (span most place distance : ℕ) → distance ≡ distance_at place → span / distance ≤ most → HaveMoreTicks span most place → IsTickStep span most distance
step_at span most place distance is few sooner = record { place = place; step_is = is; few = few; least = sooner }

-- a power of ten, and its double and its fivefold, are distances
pub is_first : (power place : ℕ) → power ≡ 10 ^ place → power ≡ distance_at (3 * place)
is_first power place is = is ∙ sym (first_of place)

pub is_second : (power place : ℕ) → power ≡ 10 ^ place → 2 * power ≡ distance_at (3 * place + 1)
is_second power place is = ap (λ p. 2 * p) is ∙ sym (second_of place)

pub is_third : (power place : ℕ) → power ≡ 10 ^ place → 5 * power ≡ distance_at (3 * place + 1 + 1)
is_third power place is = ap (λ p. 5 * p) is ∙ sym (third_of place)

-- with no distance of a power of ten there are few enough
pub more_of_power : (span most power place : ℕ) → power ≡ 10 ^ place → most < span / power → most < span / (2 * power) → most < span / (5 * power)
    → HaveMoreTicks span most (3 * place) → HaveMoreTicks span most (3 * (place + 1))
more_of_power span most power place is first second third sooner =
    let one = more_at span most (3 * place) power (is_first power place is) first sooner in
    let two = more_at span most (3 * place + 1) (2 * power) (is_second power place is) second one in
    let all = more_at span most (3 * place + 1 + 1) (5 * power) (is_third power place is) third two in
    let same : 3 * place + 1 + 1 + 1 ≡ 3 * (place + 1) = omega arith in
    subst (HaveMoreTicks span most) same all

-- the next power of ten
pub power_more : (power place : ℕ) → power ≡ 10 ^ place → power * 10 ≡ 10 ^ (place + 1)
power_more power place is = ap (λ p. p * 10) is ∙ sym (ap (λ k. 10 ^ k) (add-one place) ∙ pow-suc 10 place)

-- with a greater power of ten than 64 bits have room for twice there is at most one tick
pub last_few : (span power place : ℕ) → power ≡ 10 ^ place → 19 ≤ place → span < 2 ^ 64 → span / power ≤ 1
last_few span power place is past fits =
    let great : 10000000000000000000 ≤ power = subst (λ p. 10000000000000000000 ≤ p) (sym is) (pow-le-pow_right {n = 10} (lit< tt) {i = 19} {j = place} past) in
    let within : span / power < 2 = (div-lt_iff_lt-mul {k = power} {x = span} {y = 2} (omega arith)).1 (omega arith) in
    omega arith
