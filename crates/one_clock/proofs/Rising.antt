-- The commands that a run has issued, in their order.
use Rattle.std.proofs.Common.{◌≡◌, ℕ, ◌≤◌, true, List, get_or, sym, subst, arith}
use Rattle.std.proofs.lemmas.Bool.Decides.{nat_tests}
use Rattle.sim_base.specs.declared.command.IssuedCommand.{IssuedCommand}
use Rattle.sim_base.specs.declared.config.Config.{Config}
use Rattle.sim_base.specs.declared.trace.Entry.{Entry}
use Rattle.sim_base.specs.History.{commands, stands_before}
use Rattle.sim_base.specs.Machine.{run}
use Rattle.command_table.specs.Tables.{IsRising}
use Rattle.laws.proofs.Tabled.{tables_are_ordered}

-- no row of the table of a run is of an earlier cycle than one before it
pub table_rises : (s : Config) (traces : List (List Entry)) (n : ℕ) (table : List IssuedCommand) → table ≡ commands (run s traces n) → IsRising table
table_rises s traces n table e =
    subst (λ t. IsRising t) (sym e)
    (λ i j d a b. no_earlier (get_or (commands (run s traces n)) i d) (get_or (commands (run s traces n)) j d) (tables_are_ordered s traces n i j d a b))
  where
    no_earlier : (x y : IssuedCommand) → stands_before x y ≡ true → x.cycle ≤ y.cycle
    no_earlier x y h = grind (arith, nat_tests)
