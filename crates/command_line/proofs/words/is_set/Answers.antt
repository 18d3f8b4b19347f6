use Rattle.std.proofs.Common.{Option, subst}
use Rattle.clap.specs.Words.{Text, found_of, one_text}
use Rattle.clap.proofs.WalkLemmas.{one_text-rows}
use Rattle.command_line.specs.Ask.{IsFlag}
use Rattle.command_line.proofs.words.is_set.Goals as goal

pub returns : goal.returns
returns c =
    let found = found_of c.args.found.now in
    let read : IsFlag (one_text found c.args.id.now) c.get_flag.result = record {
      none = c.get_flag.ensures.none;
      set_by = c.get_flag.ensures.value;
      unset_by = c.get_flag.ensures.other;
    } in
    subst (λ (o : Option Text). IsFlag o c.get_flag.result) (one_text-rows found c.args.id.now) read
