-- One record more was read.
use Rattle.std.proofs.Common.{◌≡◌, ◌∙◌, ◌++◌, ◌∷◌, drop, map, rules, sym, ap}
use Rattle.csv.specs.Records.{Row, fields_of}
use Rattle.run_tables.proofs.Standing.{record_more}
use Rattle.run_tables.proofs.records.add_left.Goals as goal

pub loop-left-preserved : goal.loop-left-preserved
loop-left-preserved c =
    let left = c.loop-left.left.records in
    let same : c.in_ok-record.record ≡ c.first.result.now = search rules in
    let first = c.first.ensures ∙ ap (λ (r : Row). fields_of r ∷ drop 1 left) (sym same) in
    record_more (map fields_of c.args.records.now.items ++ c.args.left.now.records) left c.drop_first.new.self.records c.loop-left.records.items c.push_record.new.records.items c.in_ok-record.record c.loop-left.invariant first
    c.in_ok-drop_first.ensures.rest c.in_ok-push_record.ensures
