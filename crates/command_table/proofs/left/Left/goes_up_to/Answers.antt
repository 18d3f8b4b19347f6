use Rattle.std.proofs.Common.{◌≡◌, Bool, true, false, ◌+◌, leb, take, drop, MatchBool, refl, sym, subst, ◌∙◌}
use Rattle.std.proofs.lemmas.Bool.{leb-true, leb-false}
use Rattle.sim_base.proofs.Lists.{drop-at_none}
use Rattle.command_table.specs.Lefts.{AllUpTo, AllAfter}
use Rattle.command_table.proofs.Cutting.{up-to-here, after-here}
use Rattle.command_table.proofs.left.Left.goes_up_to.Goals as goal

pub returns-in-Some : goal.returns-in-Some
returns-in-Some c = by (leb c.in-Some.row.cycle c.args.cycle) refl
  where
    by : (t : Bool) → leb c.in-Some.row.cycle c.args.cycle ≡ t → MatchBool t (AllUpTo c.args.cycle (take (c.args.count + 1) c.args.self.now)) (AllAfter c.args.cycle (drop c.args.count c.args.self.now))
    by true e = up-to-here c.args.self.now c.args.count c.args.cycle c.in-Some.row c.requires (sym c.get.ensures ∙ c.in-Some.is) (leb-true _ _ e)
    by false e = after-here c.args.self.now c.args.count c.args.cycle c.in-Some.row c.requires (sym c.get.ensures ∙ c.in-Some.is) (leb-false _ _ e)

pub returns-in-None : goal.returns-in-None
returns-in-None c = subst (AllAfter c.args.cycle) (sym (drop-at_none c.args.self.now c.args.count (sym c.get.ensures ∙ c.in-None.is))) tt
