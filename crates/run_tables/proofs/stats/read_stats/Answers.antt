-- A table is refused for its first record at fault, and read as it was written.
use Rattle.std.proofs.Common.{subst}
use Rattle.std.specs.Prelude.{IfErr}
use Rattle.rule_check.specs.Verdict.{records_of}
use Rattle.run_tables.specs.Records.{IsRefusedFor}
use Rattle.run_tables.specs.Stats.{HoldsStats}
use Rattle.run_tables.proofs.StatsRefused.{reads, inverse, faults}
use Rattle.run_tables.proofs.stats.read_stats.Goals as goal

pub returns-clause-read : goal.returns-clause-read
returns-clause-read c = reads c.in_ok-records.records (records_of c.args.table.now) c.read_table.result c.in_ok-records.ensures.all c.read_table.ensures.read

pub returns-clause-refused : goal.returns-clause-refused
returns-clause-refused c = subst (λ records. IfErr c.read_table.result (IsRefusedFor HoldsStats records)) c.in_ok-records.ensures.all c.read_table.ensures.refused

pub returns-clause-inverse : goal.returns-clause-inverse
returns-clause-inverse c stats table =
    inverse c.in_ok-records.records (records_of c.args.table.now) stats c.read_table.result c.in_ok-records.ensures.all c.read_table.ensures.read c.read_table.ensures.refused table

pub returns-clause-fault : goal.returns-clause-fault
returns-clause-fault c = faults c.in_ok-records.records c.read_table.result c.read_table.ensures.refused
