-- The open row of a bank.
use Rattle.std.proofs.Common.{◌≡◌, ℕ, List, [], ◌∷◌, ◌++◌, Option, None}
use Rattle.std.proofs.lemmas.List.Sums.{fold_push}
use Rattle.sim_base.specs.declared.command.IssuedCommand.{IssuedCommand}
use Rattle.sim_base.specs.declared.place.BankId.{BankId}
use Rattle.sim_base.specs.Rules.{row_after, open_row}

-- the row that is open after one more command
pub open_row-push : (bank : BankId) (history : List IssuedCommand) (i : IssuedCommand) → open_row bank (history ++ i ∷ []) ≡ row_after bank (open_row bank history) i.command
unfolding open_row
open_row-push bank history i = fold_push (λ (row : Option ℕ) (x : IssuedCommand). row_after bank row x.command) None history i
