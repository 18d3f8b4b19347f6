-- The fields of a row give that row again.
use Rattle.std.proofs.Common.{◌≡◌, ℕ, suc, ◌+◌, ◌<◌, ◌≤◌, ◌==◌, Bool, true, false, IsTrue, nat_lt, cond, List, [], ◌∷◌, ◌++◌, length, map, All, Some, refl, ap, arith, inl, inr}
use Rattle.std.specs.List.{AllByRecursion as Each}
use Rattle.std.proofs.lemmas.Bool.{cases_Bool, ltb-false}
use Rattle.std.proofs.lemmas.List.Elements.{recursion_from_All}
use Rattle.std.specs.Fmt.{decimal}
use Rattle.csv.specs.Records.{field_at}
use Rattle.sim_base.specs.Rules.{kind_of, rank_of}
use Rattle.sim_base.specs.declared.config.Config.{Config}
use Rattle.sim_base.specs.declared.place.BankId.{BankId}
use Rattle.sim_base.specs.declared.command.Command.{Command}
use Rattle.sim_base.specs.declared.command.Command.TheVariants.{Act, Rd, Wr, Pre, Prea, Ref}
use Rattle.sim_base.specs.declared.command.IssuedCommand.{IssuedCommand}
use Rattle.sim_base.specs.declared.command.Source.{Source}
use Rattle.reports.specs.Commands.{header, kind_word, operand_fields, command_fields}
use Rattle.rule_check.specs.Numbers.{number_below, number_limit}
use Rattle.rule_check.specs.Fields.{limits_of, text_at, operand, is_header, column_count, rank_in, bank_in, source_in, act_in, rd_in, wr_in, pre_in, prea_in, ref_in, has_no_operands, command_in, row_from, row_in}
use Rattle.run_tables.specs.TableLaws.Written.{SourceIsOf, BankIsOf, CommandIsOf, RowIsOf}
use Rattle.run_tables.proofs.TableLaws.Decimals.{number-back}

-- the fields of a record, with one for the rank where there are several
abbrev fields_by : Bool → List ℕ → List ℕ → List ℕ → List ℕ → List (List ℕ) → List (List ℕ)
fields_by several cycle channel word rank operands = cycle ∷ channel ∷ word ∷ (cond several (rank ∷ []) [] ++ operands)

operand-by : (several : Bool) (cycle channel word rank : List ℕ) (operands : List (List ℕ)) (k : ℕ)
    → text_at (fields_by several cycle channel word rank operands) (cond several (k + 4) (k + 3)) ≡ text_at operands k
unfolding text_at field_at
operand-by true cycle channel word rank operands k = let e : k + 4 ≡ suc (suc (suc (suc k))) = omega arith in rw e refl
operand-by false cycle channel word rank operands k = let e : k + 3 ≡ suc (suc (suc k)) = omega arith in rw e refl

-- the header is the one that is looked for
pub header-read : (ranks : ℕ) → IsTrue (is_header ranks (header ranks))
unfolding is_header text_at operand field_at
header-read ranks = elim (cases_Bool (nat_lt 1 ranks)) [ inl several ↦ rw several refl | inr one ↦ rw one refl ]

-- the fields of a record: as many as there are columns, one for the rank where there are several, and these operands
record IsRecordOf (s : Config) (fields : List (List ℕ)) (rank : ℕ) (operands : List (List ℕ)) : Type 0 where
  count : (length fields == column_count s.ranks) ≡ true
  names : rank_in (limits_of s) fields ≡ Some rank
  holds : (k : ℕ) → operand s.ranks fields k ≡ text_at operands k

rank-by : (s : Config) (fields : List (List ℕ)) (rank : ℕ) (several : Bool) → nat_lt 1 s.ranks ≡ several → rank < s.ranks
    → (several ≡ true → text_at fields 3 ≡ decimal rank) → rank_in (limits_of s) fields ≡ Some rank
unfolding rank_in
rank-by s fields rank true e h at =
    let most : s.ranks ≤ 4 = s.memory_in_range.ranks_in.0.1 in
    rw (e, at refl) (number-back s.ranks rank h (omega arith))
rank-by s fields rank false e h at =
    let one = ltb-false 1 s.ranks e in
    let zero_is : 0 ≡ rank = omega arith in
    rw e (ap (λ (k : ℕ). Some k) zero_is)

record-by : (several : Bool) (cycle channel word rank group bank row column core entry : List ℕ)
    → (length (fields_by several cycle channel word rank (group ∷ bank ∷ row ∷ column ∷ core ∷ entry ∷ [])) == cond several 10 9) ≡ true
record-by true cycle channel word rank group bank row column core entry = refl
record-by false cycle channel word rank group bank row column core entry = refl

record-fields : (s : Config) (cycle channel word : List ℕ) (rank : ℕ) (group bank row column core entry : List ℕ) → rank < s.ranks
    → IsRecordOf s (fields_by (nat_lt 1 s.ranks) cycle channel word (decimal rank) (group ∷ bank ∷ row ∷ column ∷ core ∷ entry ∷ [])) rank (group ∷ bank ∷ row ∷ column ∷ core ∷ entry ∷ [])
unfolding operand
record-fields s cycle channel word rank group bank row column core entry h =
    record {
      count = record-by (nat_lt 1 s.ranks) cycle channel word (decimal rank) group bank row column core entry;
      names = rank-by s (fields_by (nat_lt 1 s.ranks) cycle channel word (decimal rank) (group ∷ bank ∷ row ∷ column ∷ core ∷ entry ∷ [])) rank (nat_lt 1 s.ranks) refl h
          (λ several. unfold text_at field_at in rw several refl);
      holds = operand-by (nat_lt 1 s.ranks) cycle channel word (decimal rank) (group ∷ bank ∷ row ∷ column ∷ core ∷ entry ∷ []);
    }

-- a bank is read back
bank-back : (s : Config) (fields : List (List ℕ)) (bank : BankId) (row column core entry : List ℕ) → BankIsOf s bank
    → IsRecordOf s fields bank.rank (decimal bank.group ∷ decimal bank.bank ∷ row ∷ column ∷ core ∷ entry ∷ []) → bank_in (limits_of s) fields ≡ Some bank
unfolding bank_in text_at field_at
bank-back s fields bank row column core entry h w =
    let most : s.groups ≤ 4 = s.memory_in_range.groups_in.0.1 in
    rw (w.names, w.holds 0, w.holds 1, number-back s.groups bank.group h.group (omega (arith, h.group)), number-back 4 bank.bank h.bank (omega (arith, h.bank))) refl

-- so is the entry in whose name a command is issued
source-back : (s : Config) (fields : List (List ℕ)) (rank : ℕ) (source : Source) (group bank row column : List ℕ) → SourceIsOf s source
    → IsRecordOf s fields rank (group ∷ bank ∷ row ∷ column ∷ decimal source.core ∷ decimal source.entry ∷ []) → source_in (limits_of s) fields ≡ Some source
unfolding source_in text_at field_at
source-back s fields rank source group bank row column h w =
    let most : s.cores ≤ 256 = s.machine_in_range.cores_in.1 in
    rw (w.holds 4, w.holds 5, number-back s.cores source.core h.core (omega (arith, h.core)), number-back number_limit source.entry h.entry (omega (arith, h.entry))) refl

row-number : (s : Config) (row : ℕ) → row < s.rows → number_below s.rows (decimal row) ≡ Some row
row-number s row h =
    let most : s.rows ≤ 262144 = s.memory_in_range.rows_in.0.1 in
    number-back s.rows row h (omega arith)

column-number : (s : Config) (column : ℕ) → column < s.columns → number_below s.columns (decimal column) ≡ Some column
column-number s column h =
    let most : s.columns ≤ 1024 = s.memory_in_range.columns_in.0.1 in
    number-back s.columns column h (omega arith)

-- each command is read back
act-back : (s : Config) (fields : List (List ℕ)) (bank : BankId) (row : ℕ) (source : Source) → CommandIsOf s (Act bank row source)
    → IsRecordOf s fields bank.rank (operand_fields (Act bank row source)) → act_in (limits_of s) fields ≡ Some (Act bank row source)
unfolding act_in text_at field_at
act-back s fields bank row source h w =
    rw (
      bank-back s fields bank (decimal row) [] (decimal source.core) (decimal source.entry) h.0 w,
      w.holds 2,
      row-number s row h.1,
      source-back s fields bank.rank source (decimal bank.group) (decimal bank.bank) (decimal row) [] h.2 w,
      w.holds 3,
    ) refl

rd-back : (s : Config) (fields : List (List ℕ)) (bank : BankId) (row column : ℕ) (source : Source) → CommandIsOf s (Rd bank row column source)
    → IsRecordOf s fields bank.rank (operand_fields (Rd bank row column source)) → rd_in (limits_of s) fields ≡ Some (Rd bank row column source)
unfolding rd_in text_at field_at
rd-back s fields bank row column source h w =
    rw (
      bank-back s fields bank (decimal row) (decimal column) (decimal source.core) (decimal source.entry) h.0 w,
      w.holds 2,
      row-number s row h.1,
      w.holds 3,
      column-number s column h.2,
      source-back s fields bank.rank source (decimal bank.group) (decimal bank.bank) (decimal row) (decimal column) h.3 w,
    ) refl

wr-back : (s : Config) (fields : List (List ℕ)) (bank : BankId) (row column : ℕ) (source : Source) → CommandIsOf s (Wr bank row column source)
    → IsRecordOf s fields bank.rank (operand_fields (Wr bank row column source)) → wr_in (limits_of s) fields ≡ Some (Wr bank row column source)
unfolding wr_in text_at field_at
wr-back s fields bank row column source h w =
    rw (
      bank-back s fields bank (decimal row) (decimal column) (decimal source.core) (decimal source.entry) h.0 w,
      w.holds 2,
      row-number s row h.1,
      w.holds 3,
      column-number s column h.2,
      source-back s fields bank.rank source (decimal bank.group) (decimal bank.bank) (decimal row) (decimal column) h.3 w,
    ) refl

pre-back : (s : Config) (fields : List (List ℕ)) (bank : BankId) (source : Source) → CommandIsOf s (Pre bank source)
    → IsRecordOf s fields bank.rank (operand_fields (Pre bank source)) → pre_in (limits_of s) fields ≡ Some (Pre bank source)
unfolding pre_in text_at field_at
pre-back s fields bank source h w =
    rw (
      bank-back s fields bank [] [] (decimal source.core) (decimal source.entry) h.0 w,
      source-back s fields bank.rank source (decimal bank.group) (decimal bank.bank) [] [] h.1 w,
      w.holds 2,
      w.holds 3,
    ) refl

empty-back : (s : Config) (fields : List (List ℕ)) (rank : ℕ) → IsRecordOf s fields rank ([] ∷ [] ∷ [] ∷ [] ∷ [] ∷ [] ∷ []) → has_no_operands s.ranks fields ≡ true
unfolding has_no_operands text_at field_at
empty-back s fields rank w = rw (w.holds 0, w.holds 1, w.holds 2, w.holds 3, w.holds 4, w.holds 5) refl

prea-back : (s : Config) (fields : List (List ℕ)) (rank : ℕ) → IsRecordOf s fields rank (operand_fields (Prea rank)) → prea_in (limits_of s) fields ≡ Some (Prea rank)
unfolding prea_in
prea-back s fields rank w = rw (w.names, empty-back s fields rank w) refl

ref-back : (s : Config) (fields : List (List ℕ)) (rank : ℕ) → IsRecordOf s fields rank (operand_fields (Ref rank)) → ref_in (limits_of s) fields ≡ Some (Ref rank)
unfolding ref_in
ref-back s fields rank w = rw (w.names, empty-back s fields rank w) refl

-- the word of a command says which one to look for
command-by : (s : Config) (fields : List (List ℕ)) (command : Command) → CommandIsOf s command → text_at fields 2 ≡ kind_word (kind_of command)
    → IsRecordOf s fields (rank_of command) (operand_fields command) → command_in (limits_of s) fields ≡ Some command
unfolding command_in
command-by s fields (Act bank row source) h word w = rw word (act-back s fields bank row source h w)
command-by s fields (Rd bank row column source) h word w = rw word (rd-back s fields bank row column source h w)
command-by s fields (Wr bank row column source) h word w = rw word (wr-back s fields bank row column source h w)
command-by s fields (Pre bank source) h word w = rw word (pre-back s fields bank source h w)
command-by s fields (Prea rank) h word w = rw word (prea-back s fields rank w)
command-by s fields (Ref rank) h word w = rw word (ref-back s fields rank w)

rank-inside : (s : Config) (command : Command) → CommandIsOf s command → rank_of command < s.ranks
rank-inside s (Act bank row source) h = h.0.rank
rank-inside s (Rd bank row column source) h = h.0.rank
rank-inside s (Wr bank row column source) h = h.0.rank
rank-inside s (Pre bank source) h = h.0.rank
rank-inside s (Prea rank) h = h
rank-inside s (Ref rank) h = h

record-is : (s : Config) (cycle channel : List ℕ) (command : Command) → rank_of command < s.ranks
    → IsRecordOf s (fields_by (nat_lt 1 s.ranks) cycle channel (kind_word (kind_of command)) (decimal (rank_of command)) (operand_fields command)) (rank_of command) (operand_fields command)
record-is s cycle channel (Act bank row source) h = record-fields s cycle channel _ bank.rank _ _ _ _ _ _ h
record-is s cycle channel (Rd bank row column source) h = record-fields s cycle channel _ bank.rank _ _ _ _ _ _ h
record-is s cycle channel (Wr bank row column source) h = record-fields s cycle channel _ bank.rank _ _ _ _ _ _ h
record-is s cycle channel (Pre bank source) h = record-fields s cycle channel _ bank.rank _ _ _ _ _ _ h
record-is s cycle channel (Prea rank) h = record-fields s cycle channel _ rank _ _ _ _ _ _ h
record-is s cycle channel (Ref rank) h = record-fields s cycle channel _ rank _ _ _ _ _ _ h

-- a row is read back
pub row-back : (s : Config) (row : IssuedCommand) → RowIsOf s row → row_in (limits_of s) (command_fields s.ranks row) ≡ Some row
unfolding row_in row_from
row-back s row h =
    let fields = command_fields s.ranks row in
    let w = record-is s (decimal row.cycle) (decimal row.channel) row.command (rank-inside s row.command h.command) in
    let most : s.channels ≤ 16 = s.machine_in_range.channels_in.0.1 in
    let first : text_at fields 0 ≡ decimal row.cycle = unfold text_at field_at in refl in
    let second : text_at fields 1 ≡ decimal row.channel = unfold text_at field_at in refl in
    let third : text_at fields 2 ≡ kind_word (kind_of row.command) = unfold text_at field_at in refl in
    rw (
      w.count,
      first,
      second,
      number-back number_limit row.cycle h.cycle (omega (arith, h.cycle)),
      number-back s.channels row.channel h.channel (omega (arith, h.channel)),
      command-by s fields row.command h.command third w,
    ) refl

-- so are the rows of a table
rows-by : (s : Config) (rows : List IssuedCommand) → Each (RowIsOf s) rows → map (row_in (limits_of s)) (map (command_fields s.ranks) rows) ≡ map Some rows
rows-by s [] h = refl
rows-by s (row ∷ rows) h = rw (row-back s row h.0, rows-by s rows h.1) refl

pub rows-back : (s : Config) (rows : List IssuedCommand) → All (RowIsOf s) rows → map (row_in (limits_of s)) (map (command_fields s.ranks) rows) ≡ map Some rows
rows-back s rows h = rows-by s rows (recursion_from_All (RowIsOf s) rows h)
