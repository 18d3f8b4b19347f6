-- Sets of banks.
--     is_in set bank      a bank is in a set
--     IsLowest set bank      a bank is the lowest of a set
use Rattle.std.specs.Prelude.{◌≡◌, ◌<◌, ℕ, Bool, true, false, ◌==◌}
use Rattle.std.specs.Int.{bit_at}
use Rattle.queue.specs.declared.bank_candidates.sets.BankSet.{BankSet}

-- a bank is in a set
abbrev pub is_in : BankSet → ℕ → Bool
is_in set bank = bit_at set.bits bank == 1

-- a bank is the lowest of a set
pub record IsLowest (set : BankSet) (bank : ℕ) : Type 0 where
  pub there : is_in set bank ≡ true
  pub none_below : (k : ℕ) → k < bank → is_in set k ≡ false
