use Rattle.std.proofs.Common.{sym, ◌∙◌}
use Rattle.clap.specs.Words.{found_of, one_of, rows_of}
use Rattle.clap.proofs.WalkLemmas.{first_value-rows}
use Rattle.command_line.proofs.MatchLemmas.{count_absent, count_there, count_wanted}
use Rattle.command_line.proofs.words.count_or.Goals as goal

pub returns-in-Some-clause-given : goal.returns-in-Some-clause-given
returns-in-Some-clause-given c =
    count_there (one_of c.args.id.now (rows_of (found_of c.args.found.now))) c.args.absent c.count_of.result c.count_of.ensures.given

pub returns-in-Some-clause-missing : goal.returns-in-Some-clause-missing
returns-in-Some-clause-missing c none =
    let found = found_of c.args.found.now in
    let there = sym (first_value-rows found c.args.id.now) ∙ sym (rw c.in-Some.is at c.get_str.ensures) in
    count_wanted c.args.id.now (rows_of found) _ there (c.count_of.ensures.missing none)

pub returns-in-None-clause-given : goal.returns-in-None-clause-given
returns-in-None-clause-given c =
    let found = found_of c.args.found.now in
    let none = sym (first_value-rows found c.args.id.now) ∙ sym (rw c.in-None.is at c.get_str.ensures) in
    count_absent c.args.id.now (rows_of found) c.args.absent none
