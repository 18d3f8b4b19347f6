-- No command of the kind is allowed before the floor, whatever bank it names.
use Rattle.std.proofs.Common.{refl, ◌∙◌}
use Rattle.sim_base.specs.declared.command.Kind.TheVariants as kind
use Rattle.sim_base.specs.Rules.{rank_of, bank_of}
use Rattle.bank_ready.proofs.Allowed.{no-sooner}
use Rattle.bank_ready.proofs.banks.Banks.column_floor.Goals as goal

pub returns-in-Rd : goal.returns-in-Rd
returns-in-Rd c = record {
  least = λ s history command cycle h e from.
      no-sooner s history command cycle kind.Rd c.args.self.now.rd_floor (e ∙ c.in-Rd.is) refl from (h.rd_floor (rank_of command) (bank_of command));
}

pub returns-in-Wr : goal.returns-in-Wr
returns-in-Wr c = record {
  least = λ s history command cycle h e from.
      no-sooner s history command cycle kind.Wr c.args.self.now.wr_floor (e ∙ c.in-Wr.is) refl from (h.wr_floor (rank_of command) (bank_of command));
}
