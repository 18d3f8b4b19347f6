-- A stretch of cycles that are each alike is a product.
use Rattle.std.proofs.Common.{◌≡◌, ℕ, suc, Bool, true, false, cond, Option, Some, None, refl}
use Rattle.std.specs.Option.{option_or}
use Rattle.std.proofs.Math.Dec.{eqb-suc-zero}
use Rattle.std.proofs.Math.Nat.{suc-mul, zero-mul}
use Rattle.statistics.specs.declared.cores.CoreStats.{CoreStats}
use Rattle.statistics.specs.Cores.{core_none, core_joined, core_times}

finish_last : (b : Bool) (o : Option ℕ) → option_or o (cond b None o) ≡ o
finish_last true None = refl
finish_last false None = refl
finish_last b (Some x) = refl

-- one cycle more, after the others
pub core_times-more : (n : ℕ) (a : CoreStats) → core_joined (core_times n a) a ≡ core_times (suc n) a
core_times-more n a = simp (suc-mul, finish_last, eqb-suc-zero)

pub core_times-zero : (a : CoreStats) → core_times 0 a ≡ core_none
core_times-zero a = simp zero-mul
