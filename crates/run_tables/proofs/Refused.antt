-- A table is refused for its first record at fault, or for memory.
use Rattle.std.proofs.Common.{◌≡◌, ◌≢◌, ◌+◌, ℕ, List, [], ◌∷◌, length, map, take, Some, None, Result, Ok, Err, refl, sym, ap, ap₂, subst, ◌∙◌, arith}
use Rattle.std.specs.Prelude.{IfOk, IfErr, MatchResult}
use Rattle.std.proofs.lemmas.List.{length-map}
use Rattle.command_table.specs.Tables.{IsRising}
use Rattle.sim_base.specs.declared.command.IssuedCommand.{IssuedCommand}
use Rattle.sim_base.specs.declared.fault.Fault.{Fault}
use Rattle.sim_base.specs.declared.fault.Fault.TheVariants.{CheckRow, Memory}
use Rattle.reports.specs.Commands.{header}
use Rattle.rule_check.specs.Fields.{is_header, operand, text_at, row_in}
use Rattle.csv.specs.Records.{field_at}
use Rattle.rule_check.specs.Verdict.{IsCheckFault}
use Rattle.run_tables.specs.Commands.{limits_told, without_rank, first_told, IsCommandTable, HoldsCommands}
use Rattle.run_tables.specs.Records.{IsFirstWrong, IsRefusedFor}

-- the fault is for a row or for memory
pub refused_for : (IsTable : List (List (List ℕ)) → Type 0) (all : List (List (List ℕ))) (e : Fault) (row : ℕ) → (e ≢ Memory → (e ≡ CheckRow row) × IsFirstWrong IsTable all row) → IsCheckFault e
    → IsRefusedFor IsTable all e
refused_for IsTable all (CheckRow k) row h fault =
    let wrong = h (λ same. cc same) in
    let number : row ≡ k = let same = wrong.0 in cc same in
    subst (IsFirstWrong IsTable all) number wrong.1
refused_for IsTable all Memory row h fault = tt
refused_for IsTable all _ row h fault = absurd fault

-- what is refused like this is refused for a row or for memory
pub table_fault : (IsTable : List (List (List ℕ)) → Type 0) (all : List (List (List ℕ))) (e : Fault) → IsRefusedFor IsTable all e → IsCheckFault e
table_fault IsTable all (CheckRow k) refused = tt
table_fault IsTable all Memory refused = tt
table_fault IsTable all _ refused = absurd refused

-- a table is refused for memory alone
pub only_memory : (IsTable : List (List (List ℕ)) → Type 0) (all : List (List (List ℕ))) (e : Fault) → IsTable all → IsRefusedFor IsTable all e → e ≡ Memory
only_memory IsTable all (CheckRow k) table refused = absurd (refused.differs all table refl)
only_memory IsTable all Memory table refused = refl
only_memory IsTable all _ table refused = absurd refused

-- records that do not begin with a header are wrong from the first on
first_header : IsCommandTable (header 1 ∷ []) []
unfolding limits_told is_header operand text_at field_at
first_header = record { header = header 1; others = []; limits = without_rank; parts = refl; columns = refl; read = refl; rising = λ i j d before within. absurd (omega (arith, within)) }

header-differs : (all other : List (List (List ℕ))) (rows : List IssuedCommand) → first_told all ≡ None → IsCommandTable other rows → take (0 + 1) other ≢ take (0 + 1) all
header-differs [] other rows told t same = let front : t.header ∷ [] ≡ [] = ap (take 1) (sym t.parts) ∙ same in cc front
header-differs (h ∷ rest) other rows told t same =
    let front : t.header ∷ [] ≡ h ∷ [] = ap (take 1) (sym t.parts) ∙ same in
    let first : t.header ≡ h = cc front in
    let named = ap limits_told first in
    let columns = t.columns in
    cc (named, columns, told)

pub header_wrong : (all : List (List (List ℕ))) → first_told all ≡ None → IsFirstWrong HoldsCommands all 0
header_wrong all told =
    record {
      table = header 1 ∷ [];
      is_table = ([], first_header);
      agrees = refl;
      differs = λ other t same. header-differs all other t.0 told t.1 same;
    }

-- rows are the same where what each was read from gave the same
pub same_rows : {X : Type 0} (rows others : List X) → map Some rows ≡ map Some others → rows ≡ others
same_rows [] [] e = refl
same_rows [] (row ∷ others) e = cc e
same_rows (row ∷ rows) [] e = cc e
same_rows (row ∷ rows) (other ∷ others) e =
    let first : row ≡ other = cc e in
    ap₂ (λ x xs. x ∷ xs) first (same_rows rows others (cc e))

-- a table is of one list of commands
pub one_list : (all : List (List (List ℕ))) (rows others : List IssuedCommand) → IsCommandTable all rows → IsCommandTable all others → rows ≡ others
one_list all rows others a b =
    let parts = sym a.parts ∙ b.parts in
    let header_same : a.header ≡ b.header = cc parts in
    let named = ap limits_told header_same in
    let told_a = a.columns in
    let told_b = b.columns in
    let limits_same : a.limits ≡ b.limits = cc (named, told_a, told_b) in
    let others_same : a.others ≡ b.others = cc parts in
    same_rows rows others
    (sym a.read ∙ ap (λ k. map (row_in k) a.others) limits_same ∙ ap (map (row_in b.limits)) others_same ∙ b.read)

-- what is read of a table is what it is of
pub inverse : (all : List (List (List ℕ))) (rows : List IssuedCommand) (result : Result (List IssuedCommand) Fault)
    → IfOk result (λ found. IsCommandTable all found) → IfErr result (IsRefusedFor HoldsCommands all) → IsCommandTable all rows → MatchResult result (λ found. found ≡ rows) (λ e. e ≡ Memory)
inverse all rows (Ok found) read refused table = one_list all found rows read table
inverse all rows (Err e) read refused table = only_memory HoldsCommands all e (rows, table) refused

-- a table has a record for each row, and the header
pub row_count : (all : List (List (List ℕ))) (result : Result (List IssuedCommand) Fault) → IfOk result (λ found. IsCommandTable all found) → IfOk result (λ found. length all ≡ length found + 1)
row_count all (Ok found) t =
    let whole = ap length t.parts in
    let lines = sym (length-map t.others (row_in t.limits)) ∙ ap length t.read ∙ length-map found Some in
    omega (arith, whole, lines)
row_count all (Err e) t = tt

-- its cycles do not fall
pub rows_rise : (all : List (List (List ℕ))) (result : Result (List IssuedCommand) Fault) → IfOk result (λ found. IsCommandTable all found) → IfOk result IsRising
rows_rise all (Ok found) t = t.rising
rows_rise all (Err e) t = tt
