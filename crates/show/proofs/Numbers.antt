-- Numbers with a greatest dividend.
use Rattle.std.proofs.Common.{◌≡◌, ℕ, ◌-◌, ◌*◌, ◌/◌, ◌^◌, ◌==◌, min, Some, None, ap, arith, if◌then◌else◌}
use Rattle.measures.specs.Number.{halves_of}

-- a dividend of 128 bits is above the greatest that counts
pub capped : (dividend divisor : ℕ) → halves_of (min dividend (2 ^ 128 - 1)) divisor ≡ halves_of dividend divisor
capped dividend divisor =
    let same : min (min dividend (2 ^ 128 - 1)) (2 ^ 70) ≡ min dividend (2 ^ 70) = omega arith in
    ap (λ d. if divisor == 0 then None else Some (2000 * d / divisor)) same

-- and so is a greater part
pub capped_part : (part whole : ℕ) → halves_of (100 * min part (2 ^ 79)) whole ≡ halves_of (100 * part) whole
capped_part part whole =
    let same : min (100 * min part (2 ^ 79)) (2 ^ 70) ≡ min (100 * part) (2 ^ 70) = omega arith in
    ap (λ d. if whole == 0 then None else Some (2000 * d / whole)) same
