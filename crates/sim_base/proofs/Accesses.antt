-- Reads and writes, and the commands that move their data.
use Rattle.std.proofs.Common.{◌≡◌, ℕ, true, refl}
use Rattle.sim_base.specs.Access.{is_access}
use Rattle.sim_base.specs.Scheduling.{column_command_to}
use Rattle.sim_base.specs.declared.command.Command.{Command}
use Rattle.sim_base.specs.declared.command.Command.TheVariants.{Rd, Wr}
use Rattle.sim_base.specs.declared.command.Source.{Source}
use Rattle.sim_base.specs.declared.message.Access.{Access}
use Rattle.sim_base.specs.declared.message.Access.TheVariants.{Read, Write}
use Rattle.sim_base.specs.declared.place.BankId.{BankId}

pub is_access-own : (access : Access) → is_access access access ≡ true
is_access-own Read = refl
is_access-own Write = refl

-- what holds of the RD and of the WR of an access holds of its command
pub column_both : (P : Command → Type 0) (access : Access) (bank : BankId) (row column : ℕ) (source : Source)
    → (access ≡ Read → P (Rd bank row column source)) → (access ≡ Write → P (Wr bank row column source)) → P (column_command_to access bank row column source)
column_both P Read bank row column source read write = read refl
column_both P Write bank row column source read write = write refl
