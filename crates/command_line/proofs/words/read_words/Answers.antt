use Rattle.std.proofs.Common.{map}
use Rattle.std.proofs.lemmas.Result.{IfOk-weaker}
use Rattle.clap.specs.Words.{app_of, subcommand_rows_of}
use Rattle.clap.specs.declared.error.kind.ErrorKind.TheVariants.{DisplayHelp, DisplayVersion}
use Rattle.command_line.proofs.AskLemmas.{matched, failed, passes, without_fault, asked_from, answered_from, help_from, helped_from, versioned_from, no_command, refused_from}
use Rattle.command_line.proofs.TakenLemmas.{taken_gives_all}
use Rattle.command_line.proofs.words.read_words.Goals as goal

pub returns-in-Ok-clause-asked : goal.returns-in-Ok-clause-asked
returns-in-Ok-clause-asked c =
    let words = map (λ w. w.now) c.args.words.now in
    let named = matched (app_of c.in_ok-program.field-0) words c.in-Ok.matches c.in_ok-program.ensures c.in-Ok.ensures.matches in
    let none = without_fault (app_of c.in_ok-program.field-0) words c.in_ok-program.ensures c.in-Ok.ensures.kinds in
    IfOk-weaker c.command_of.result _ _ (λ ask h. asked_from words (subcommand_rows_of c.in-Ok.matches) ask none named h) c.command_of.ensures.asked

pub returns-in-Ok-clause-answered : goal.returns-in-Ok-clause-answered
returns-in-Ok-clause-answered c taken =
    let words = map (λ w. w.now) c.args.words.now in
    let named = matched (app_of c.in_ok-program.field-0) words c.in-Ok.matches c.in_ok-program.ensures c.in-Ok.ensures.matches in
    answered_from words (subcommand_rows_of c.in-Ok.matches) c.command_of.result named c.command_of.ensures.asked (c.command_of.ensures.refused (rw named (taken_gives_all words taken)))

pub returns-in-Err-clause-asked : goal.returns-in-Err-clause-asked
returns-in-Err-clause-asked c =
    let words = map (λ w. w.now) c.args.words.now in
    let kinds = failed (app_of c.in_ok-program.field-0) words c.in-Err.error c.in_ok-program.ensures c.in-Err.ensures.kinds in
    IfOk-weaker c.help_of.result _ _ (λ ask h. help_from words c.in-Err.error ask kinds h) c.help_of.ensures.shown

pub returns-in-Err-clause-answered : goal.returns-in-Err-clause-answered
returns-in-Err-clause-answered c taken =
    let words = map (λ w. w.now) c.args.words.now in
    let memory = passes (app_of c.in_ok-program.field-0) words c.in-Err.error c.in_ok-program.ensures c.in-Err.ensures.passes taken in
    refused_from words c.in-Err.error c.help_of.result memory c.help_of.ensures.shown c.help_of.ensures.refused

pub returns-in-Ok-clause-helped : goal.returns-in-Ok-clause-helped
returns-in-Ok-clause-helped c help =
    let words = map (λ w. w.now) c.args.words.now in
    let none = without_fault (app_of c.in_ok-program.field-0) words c.in_ok-program.ensures c.in-Ok.ensures.kinds in
    absurd (no_command words DisplayHelp none help)

pub returns-in-Err-clause-helped : goal.returns-in-Err-clause-helped
returns-in-Err-clause-helped c help =
    let words = map (λ w. w.now) c.args.words.now in
    let kinds = failed (app_of c.in_ok-program.field-0) words c.in-Err.error c.in_ok-program.ensures c.in-Err.ensures.kinds in
    helped_from words c.in-Err.error c.help_of.result kinds help c.help_of.ensures.shown c.help_of.ensures.refused

pub returns-in-Ok-clause-versioned : goal.returns-in-Ok-clause-versioned
returns-in-Ok-clause-versioned c call =
    let words = map (λ w. w.now) c.args.words.now in
    let none = without_fault (app_of c.in_ok-program.field-0) words c.in_ok-program.ensures c.in-Ok.ensures.kinds in
    absurd (no_command words DisplayVersion none call)

pub returns-in-Err-clause-versioned : goal.returns-in-Err-clause-versioned
returns-in-Err-clause-versioned c call =
    let words = map (λ w. w.now) c.args.words.now in
    let kinds = failed (app_of c.in_ok-program.field-0) words c.in-Err.error c.in_ok-program.ensures c.in-Err.ensures.kinds in
    versioned_from words c.in-Err.error c.help_of.result kinds call c.help_of.ensures.shown c.help_of.ensures.refused
