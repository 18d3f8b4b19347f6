-- The verdict, by what the next record means.
use Rattle.std.proofs.Common.{◌≡◌, ◌≢◌, true, false, ℕ, ◌+◌, ◌++◌, ◌∙◌, List, [], ◌∷◌, Option, Some, None, Result, Ok, Err, IfOk, IfErr, refl, ap}
use Rattle.sim_base.specs.declared.config.Config.{Config}
use Rattle.sim_base.specs.declared.command.IssuedCommand.{IssuedCommand}
use Rattle.sim_base.specs.declared.fault.Fault.{Fault}
use Rattle.sim_base.specs.declared.fault.Fault.TheVariants.{CheckRow, Memory}
use Rattle.rule_check.specs.Fields.{limits_of, is_header, row_in}
use Rattle.rule_check.specs.Broken.{lowest_broken}
use Rattle.rule_check.specs.Verdict.{verdict, verdict_after, decided_by_row, decided_by_rule}
use Rattle.rule_check.specs.declared.verdict.Verdict.{Verdict}
use Rattle.rule_check.specs.declared.verdict.Verdict.TheVariants.{Legal, Broken}

-- the verdict is decided by what the next record means
next_is : (s : Config) (rows : List IssuedCommand) (number : ℕ) (fields : List (List ℕ)) (others : List (List (List ℕ))) (found : Option IssuedCommand) → row_in (limits_of s) fields ≡ found
    → verdict_after s rows number (fields ∷ others)
    ≡ decided_by_row number (lowest_broken s rows) (λ row. verdict_after s (rows ++ row ∷ []) (number + 1) others) found
unfolding verdict_after
next_is s rows number fields others found e =
    ap (decided_by_row number (lowest_broken s rows) (λ row. verdict_after s (rows ++ row ∷ []) (number + 1) others)) e

pub malformed : (s : Config) (rows : List IssuedCommand) (number : ℕ) (fields : List (List ℕ)) (others : List (List (List ℕ))) → row_in (limits_of s) fields ≡ None
    → verdict_after s rows number (fields ∷ others) ≡ Err (CheckRow number)
malformed s rows number fields others e = next_is s rows number fields others None e

pub broken_by : (s : Config) (rows : List IssuedCommand) (number : ℕ) (fields : List (List ℕ)) (others : List (List (List ℕ))) (row : IssuedCommand) (rule : ℕ)
    → row_in (limits_of s) fields ≡ Some row → lowest_broken s rows row ≡ Some rule → verdict_after s rows number (fields ∷ others) ≡ Ok (Broken number rule)
broken_by s rows number fields others row rule e b =
    next_is s rows number fields others (Some row) e
    ∙ ap (λ o. decided_by_rule number o (verdict_after s (rows ++ row ∷ []) (number + 1) others)) b

pub goes_on_after : (s : Config) (rows : List IssuedCommand) (number : ℕ) (fields : List (List ℕ)) (others : List (List (List ℕ))) (row : IssuedCommand)
    → row_in (limits_of s) fields ≡ Some row → lowest_broken s rows row ≡ None
    → verdict_after s rows number (fields ∷ others) ≡ verdict_after s (rows ++ row ∷ []) (number + 1) others
goes_on_after s rows number fields others row e b =
    next_is s rows number fields others (Some row) e
    ∙ ap (λ o. decided_by_rule number o (verdict_after s (rows ++ row ∷ []) (number + 1) others)) b

pub at_end_of : (s : Config) (rows : List IssuedCommand) (number : ℕ) → verdict_after s rows number [] ≡ Ok Legal
unfolding verdict_after
at_end_of s rows number = refl

-- an answer that is the verdict is so in both of its forms
pub answers_ok : (a x : Result Verdict Fault) → x ≡ a → IfOk a (λ v. x ≡ Ok v)
answers_ok (Ok v) x e = e
answers_ok (Err f) x e = tt

pub answers_err : (a x : Result Verdict Fault) → x ≡ a → IfErr a (λ f. f ≢ Memory → x ≡ Err f)
answers_err (Ok v) x e = tt
answers_err (Err f) x e = λ h. e

-- a table without a record
pub no_header : (s : Config) (records : List (List (List ℕ))) → records ≡ [] → verdict s records ≡ Err (CheckRow 0)
unfolding verdict
no_header s records e = rw e refl

-- a table whose first record is no header
pub wrong_header : (s : Config) (records : List (List (List ℕ))) (fields : List (List ℕ)) (others : List (List (List ℕ))) → records ≡ fields ∷ others
    → is_header s.ranks fields ≡ false → verdict s records ≡ Err (CheckRow 0)
unfolding verdict
wrong_header s records fields others e h = rw (e, h) refl

-- a table whose first record is the header
pub after_header : (s : Config) (records : List (List (List ℕ))) (fields : List (List ℕ)) (others : List (List (List ℕ))) → records ≡ fields ∷ others
    → is_header s.ranks fields ≡ true → verdict s records ≡ verdict_after s [] 1 others
unfolding verdict
after_header s records fields others e h = rw (e, h) refl

-- what is said of a verdict holds of an equal one
pub ok_through : (a x y : Result Verdict Fault) → x ≡ y → IfOk a (λ v. y ≡ Ok v) → IfOk a (λ v. x ≡ Ok v)
ok_through (Ok v) x y e h = e ∙ h
ok_through (Err f) x y e h = tt

pub err_through : (a x y : Result Verdict Fault) → x ≡ y → IfErr a (λ f. f ≢ Memory → y ≡ Err f) → IfErr a (λ f. f ≢ Memory → x ≡ Err f)
err_through (Ok v) x y e h = tt
err_through (Err f) x y e h = λ n. e ∙ h n
