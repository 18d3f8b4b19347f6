-- A field writes one number or none.
use Rattle.std.proofs.Common.{◌≡◌, ◌∙◌, Some, None, rules, sym, ap, arith}
use Rattle.csv.specs.Records.{fields_of}
use Rattle.rule_check.specs.Fields.{text_at}
use Rattle.run_tables.specs.Numbers.{number_written}
use Rattle.run_tables.proofs.Written.{found_at, none_at}
use Rattle.run_tables.proofs.stats.is_number_at.Goals as goal

pub returns-in-Some : goal.returns-in-Some
returns-in-Some c =
    let text = text_at (fields_of c.args.fields.now) c.args.k in
    let same : c.from.result ≡ c.args.number = search rules in
    let read : number_written text ≡ Some c.in-Some.found = ap number_written (sym c.text_at.ensures) ∙ sym c.number_in.ensures ∙ c.in-Some.is in
    rw same (found_at text c.args.number c.in-Some.found (omega (arith, c.ranges.number.fits)) read)

pub returns-in-None : goal.returns-in-None
returns-in-None c =
    let text = text_at (fields_of c.args.fields.now) c.args.k in
    let read : number_written text ≡ None = ap number_written (sym c.text_at.ensures) ∙ sym c.number_in.ensures ∙ c.in-None.is in
    none_at text c.args.number (omega (arith, c.ranges.number.fits)) read
