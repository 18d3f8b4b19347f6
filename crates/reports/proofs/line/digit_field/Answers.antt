-- The text of each digit.
use Rattle.std.proofs.Common.{◌≡◌, ℕ, ◌+◌, ◌<◌, List, [], ◌∷◌, ◌++◌, decimal, sym, ap, ◌∙◌, arith}
use Rattle.std.proofs.lemmas.Fmt.{decimal_digit}
use Rattle.reports.specs.Rows.{comma}
use Rattle.reports.proofs.line.digit_field.Goals as goal

abbrev pub text : ℕ → List ℕ
text n = (48 + n) ∷ 44 ∷ []

digits : (n : ℕ) → n < 10 → text n ≡ decimal n ++ comma ∷ []
digits n few = ap (λ field. field ++ comma ∷ []) (sym (decimal_digit n few))

pub returns-in-0 : goal.returns-in-0
returns-in-0 c = ap text (sym c.in-0.is) ∙ digits c.args.digit c.requires

pub returns-in-1 : goal.returns-in-1
returns-in-1 c = ap text (sym c.in-1.is) ∙ digits c.args.digit c.requires

pub returns-in-2 : goal.returns-in-2
returns-in-2 c = ap text (sym c.in-2.is) ∙ digits c.args.digit c.requires

pub returns-in-3 : goal.returns-in-3
returns-in-3 c = ap text (sym c.in-3.is) ∙ digits c.args.digit c.requires

pub returns-in-4 : goal.returns-in-4
returns-in-4 c = ap text (sym c.in-4.is) ∙ digits c.args.digit c.requires

pub returns-in-5 : goal.returns-in-5
returns-in-5 c = ap text (sym c.in-5.is) ∙ digits c.args.digit c.requires

pub returns-in-6 : goal.returns-in-6
returns-in-6 c = ap text (sym c.in-6.is) ∙ digits c.args.digit c.requires

pub returns-in-7 : goal.returns-in-7
returns-in-7 c = ap text (sym c.in-7.is) ∙ digits c.args.digit c.requires

pub returns-in-8 : goal.returns-in-8
returns-in-8 c = ap text (sym c.in-8.is) ∙ digits c.args.digit c.requires

pub returns-in_default : goal.returns-in_default
returns-in_default c =
    let last : c.args.digit ≡ 9 = omega (arith, c.requires, c.in_default.in_default-own) in
    ap text (sym last) ∙ digits c.args.digit c.requires
