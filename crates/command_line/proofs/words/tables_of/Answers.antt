use Rattle.std.proofs.Common.{◌≡◌, ◌⊎◌, ◌∙◌, sym, subst, codes, Option}
use Rattle.std.proofs.lemmas.Result.{IfOk-weaker, IfErr-weaker}
use Rattle.clap.specs.Words.{Text, found_of}
use Rattle.clap.proofs.WalkLemmas.{first_value-rows}
use Rattle.sim_base.specs.declared.fault.Fault.TheVariants.{Memory, CommandLine}
use Rattle.command_line.specs.Ask.{IsTables, IsNoTables}
use Rattle.command_line.proofs.words.tables_of.Goals as goal

pub returns-in-Some-clause-given : goal.returns-in-Some-clause-given
returns-in-Some-clause-given c =
    let there = sym (first_value-rows (found_of c.args.found.now) (codes "tables")) ∙ sym (rw c.in-Some.is at c.get_str.ensures) in
    IfOk-weaker c.tables_named.result _ _ (λ tables named. subst (λ (o : Option Text). IsTables o tables) (sym there) named) c.tables_named.ensures.named

pub returns-in-Some-clause-refused : goal.returns-in-Some-clause-refused
returns-in-Some-clause-refused c =
    let there = sym (first_value-rows (found_of c.args.found.now) (codes "tables")) ∙ sym (rw c.in-Some.is at c.get_str.ensures) in
    IfErr-weaker c.tables_named.result _ _ (λ e no. subst (λ (o : Option Text). (e ≡ Memory) ⊎ ((e ≡ CommandLine) × IsNoTables o)) (sym there) no) c.tables_named.ensures.refused

pub returns-in-None-clause-given : goal.returns-in-None-clause-given
returns-in-None-clause-given c =
    let none = sym (first_value-rows (found_of c.args.found.now) (codes "tables")) ∙ sym (rw c.in-None.is at c.get_str.ensures) in
    subst (λ (o : Option Text). IsTables o c.usual.result) (sym none) c.usual.ensures
