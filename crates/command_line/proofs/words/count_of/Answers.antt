use Rattle.std.proofs.Common.{subst, Option}
use Rattle.std.specs.Option.{IfSome}
use Rattle.clap.specs.Words.{Text, found_of, one_text}
use Rattle.clap.proofs.WalkLemmas.{one_text-rows}
use Rattle.command_line.specs.Ask.{IsCount, IsCountText}
use Rattle.command_line.proofs.MatchLemmas.{count_read, count_missing}
use Rattle.command_line.proofs.words.count_of.Goals as goal

pub returns-clause-given : goal.returns-clause-given
returns-clause-given c =
    let found = found_of c.args.found.now in
    subst (λ (o : Option Text). IfSome c.get_one.result (IsCount o)) (one_text-rows found c.args.id.now) (count_read (one_text found c.args.id.now) c.get_one.result c.get_one.ensures.none c.get_one.ensures.value)

pub returns-clause-missing : goal.returns-clause-missing
returns-clause-missing c none =
    let found = found_of c.args.found.now in
    subst (λ (o : Option Text). IsCountText o → ⊥) (one_text-rows found c.args.id.now) (count_missing (one_text found c.args.id.now) c.get_one.result c.get_one.ensures.value none)
