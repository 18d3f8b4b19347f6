use Rattle.std.proofs.Common.{◌≡◌, eqb, get_or, sym, ap, ◌∙◌}
use Rattle.std.proofs.lemmas.Option.{slice_get-get_or}
use Rattle.sim_base.specs.declared.place.Place.{Place}
use Rattle.statistics.specs.declared.final_state.Credits.{Credits}
use Rattle.core_window.specs.OneCycle.{lacks_by}
use Rattle.core_window.proofs.core_unit.is_without_credit.Goals as goal

pub returns-in-Read : goal.returns-in-Read
returns-in-Read c s held placed rows =
    let at = c.args.ahead.now.place.channel in
    let none : Credits = record { read = 0; write = 0 } in
    let there = slice_get-get_or c.args.credits.now at none c.requires in
    let row = rows at placed.in_range in
    let same : get_or c.args.credits.now at none ≡ held at = cc in
    ap (λ (x : Credits). eqb x.read 0) same ∙ ap (λ (p : Place). eqb (held p.channel).read 0) (placed.of_read c.in-Read.field-0 c.in-Read.is) ∙ ap (lacks_by s held) (sym c.in-Read.is)

pub returns-in-Write : goal.returns-in-Write
returns-in-Write c s held placed rows =
    let at = c.args.ahead.now.place.channel in
    let none : Credits = record { read = 0; write = 0 } in
    let there = slice_get-get_or c.args.credits.now at none c.requires in
    let row = rows at placed.in_range in
    let same : get_or c.args.credits.now at none ≡ held at = cc in
    ap (λ (x : Credits). eqb x.write 0) same ∙ ap (λ (p : Place). eqb (held p.channel).write 0) (placed.of_write c.in-Write.field-0 c.in-Write.is) ∙ ap (lacks_by s held) (sym c.in-Write.is)
