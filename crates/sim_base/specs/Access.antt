-- Reads and writes.
--     is_access a b      the same access
use Rattle.std.specs.Prelude.{Bool, true, false}
use Rattle.sim_base.specs.declared.message.Access.{Access}
use Rattle.sim_base.specs.declared.message.Access.TheVariants as access

-- whether two accesses are equal
abbrev pub is_access : Access → Access → Bool
is_access access.Read access.Read = true
is_access access.Write access.Write = true
is_access _ _ = false
