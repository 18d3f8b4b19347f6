-- The table of the values of bytes as digits.
use Rattle.std.proofs.Common.{◌≡◌, ℕ, zero, suc, ◌-◌, ◌<◌, Bool, true, ◌&&◌, T, eqb, eqb→eq, get_or, inl, inr, eq-zero-or-pos, arith}
use lib.Ieee.Fits.{and_l, and_r}
use Rattle.std.specs.Char.{digit_value}
use Rattle.cpu_trace.specs.declared.usual.TheConstants.{DIGITS}

abbrev are_values : ℕ → Bool
are_values zero = true
are_values (suc byte) = eqb (get_or DIGITS byte 0) (digit_value byte) && are_values byte

below : (n byte : ℕ) → T (are_values n) → byte < n → get_or DIGITS byte 0 ≡ digit_value byte
below zero byte t h = absurd (omega arith)
below (suc n) byte t h =
    elim (eq-zero-or-pos (n - byte)) [
      | inl z ↦ let e : byte ≡ n = omega arith in rw e (eqb→eq _ _ (and_l _ (are_values n) t))
      | inr g ↦ below n byte (and_r _ (are_values n) t) (omega arith)
    ]

-- each byte has its value there
pub DIGITS_at : (byte : ℕ) → byte < 256 → get_or DIGITS byte 0 ≡ digit_value byte
DIGITS_at byte h = below 256 byte tt h
