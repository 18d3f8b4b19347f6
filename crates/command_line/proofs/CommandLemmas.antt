-- What a command is, whose settings are plain.
use Rattle.std.proofs.Common.{◌≡◌, ◌&&◌, ◌+◌, ◌<◌, ℕ, Bool, true, false, not, List, [], ◌∷◌, fold, get_or, length, take, refl, sym, ap, ◌∙◌}
use Rattle.std.proofs.lemmas.List.Sums.{fold_more}
use Rattle.clap.specs.Words.{AddsSubcommand, App, app_of, new_app, with_subcommand}
use Rattle.clap.specs.declared.builder.command.Command.{Command}
use Rattle.command_line.specs.CommandLine.{with_argument, app_in, with_below}
use Rattle.command_line.specs.declared.command_line.Argument.{Argument}
use Rattle.command_line.specs.declared.command_line.Subcommand.{Subcommand}

-- the third of four tests
third_false : (a b c rest : Bool) → (a && (not b && (not c && rest))) ≡ true → c ≡ false
third_false a b false rest h = refl
third_false false b true rest h = cc
third_false true false true rest h = cc
third_false true true true rest h = cc

-- the third test of a plain command is that it has no global argument
no_global : (a b : App) (x y z rest : Bool) → a ≡ b → b.top.is_plain ≡ true → a.top.is_plain ≡ (x && (not y && (not z && rest))) → z ≡ false
no_global a b x y z rest same plain tests =
    let is_plain : (x && (not y && (not z && rest))) ≡ true = cc (ap (λ (app : App). app.top.is_plain) same) in
    third_false x y z rest is_plain

-- arguments leave a plain command plain
plain : (app : App) (arguments : List Argument) → app.top.is_plain ≡ true → (fold with_argument app arguments).top.is_plain ≡ true
plain app [] is = is
plain app (x ∷ xs) is = plain (with_argument app x) xs is

-- a command with one of the program's below it
pub with_one : (below old new : Command) (command : Subcommand) → app_of below ≡ app_in command → AddsSubcommand old below new → app_of new ≡ with_below (app_of old) command
with_one below old new command is adds =
    adds.shape (no_global _ _ _ _ _ _ is (plain (new_app command.name.now) command.arguments.now refl) refl)
    ∙ ap (λ (a : App). with_subcommand (app_of old) a.top) is

-- a command with one more part
pub one_more : {A : Type 0} (step : App → A → App) (old new : Command) (app : App) (parts : List A) (i : ℕ) (default : A) → app_of old ≡ fold step app (take i parts)
    → i < length parts → app_of new ≡ step (app_of old) (get_or parts i default) → app_of new ≡ fold step app (take (i + 1) parts)
one_more step old new app parts i default above lt is =
    is ∙ ap (λ (a : App). step a (get_or parts i default)) above ∙ sym (fold_more step app parts i default lt)
