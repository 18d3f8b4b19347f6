-- Marks: words that say yes or no for each place of a column. The word 1 is a mark, and no other word is.
--     is_marked word      a word is a mark
--     write_bit access      1 for a write, 0 for a read
use Rattle.std.specs.Prelude.{ℕ, ◌==◌, Bool}
use Rattle.sim_base.specs.declared.message.Access.{Access}
use Rattle.sim_base.specs.declared.message.Access.TheVariants as access

-- a mark is the word 1
abbrev pub is_marked : ℕ → Bool
is_marked word = word == 1

-- 1 for a write, 0 for a read
abbrev pub write_bit : Access → ℕ
write_bit access.Read = 0
write_bit access.Write = 1
