-- How the banks of a command relate to those of another, of which only the rank and the bank matter.
--     relation_to a rank bank      that relation, where the other is in this rank and names this bank or none
use Rattle.std.specs.Prelude.{ℕ, ◌==◌, Option, if◌then◌else◌}
use Rattle.sim_base.specs.declared.place.BankId.{BankId}
use Rattle.sim_base.specs.declared.command.Command.{Command}
use Rattle.sim_base.specs.declared.command.Relation.{Relation}
use Rattle.sim_base.specs.declared.command.Relation.TheVariants.{OtherRank}
use Rattle.sim_base.specs.Rules.{rank_of, bank_of, relation_in_rank}

-- how the banks of a command relate to those of one in a rank, which names this bank, if it names one
abbrev pub relation_to : Command → ℕ → Option BankId → Relation
relation_to a rank bank = if rank_of a == rank then relation_in_rank (bank_of a) bank else OtherRank
