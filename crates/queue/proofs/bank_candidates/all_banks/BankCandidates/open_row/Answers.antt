use Rattle.std.proofs.Common.{◌<◌, length, None, ap, ◌∙◌, arith}
use Rattle.std.proofs.lemmas.List.{get_or_default}
use Rattle.sim_base.specs.Rules.{open_row}
use Rattle.sim_base.specs.Places.{bank_at}
use Rattle.sim_base.proofs.Banks.{bank_at_number}
use Rattle.queue.proofs.bank_candidates.all_banks.BankCandidates.open_row.Goals as goal

pub returns : goal.returns
returns c log history stands =
    let b = c.args.bank in
    let within : c.number.result < length c.args.self.now.rows.items = omega (arith, c.requires.number, c.number.ensures) in
    c.index.ensures
    ∙ get_or_default c.args.self.now.rows.items c.number.result c.index.result.now None within
    ∙ stands.rows_are c.number.result within
    ∙ ap (λ x. open_row x history) (ap bank_at c.number.ensures ∙ bank_at_number b c.requires.group c.requires.bank)
