-- What is left of a table that is read, and where a table is wrong.
--     Left      the number of the first record that is left, and the records
--     left_from found first rest      the records that are left, of which one was read
--     left_at row found first rest      the same with the number of the first
--     Stands reader first found row      what a reader keeps
--     IsFaultAt row Wrong fault      this row is wrong, and the fault names it, or memory was refused
--     IsFirstWrong IsTable records row      the first record that no table has there
--     IsRefusedFor IsTable records fault      a table is refused for its first wrong record, or for memory
use Rattle.std.specs.Borrow.{Bor}
use Rattle.std.specs.Prelude.{◌≡◌, ◌≢◌, ℕ, ◌+◌, ◌<◌, ◌^◌, Bool, true, false, List, [], ◌∷◌, length, take, ⊤}
use Rattle.csv.specs.declared.reader.Reader.{Reader}
use Rattle.sim_base.specs.declared.fault.Fault.{Fault}
use Rattle.sim_base.specs.declared.fault.Fault.TheVariants.{CheckRow, Memory}
use Rattle.rule_check.specs.Left.{IsReading, left_of}

-- the number of the first record that is left, and the records
pub record Left : Type 0 where
  pub row : ℕ
  pub records : List (List (List ℕ))

-- the records that are left, of which one was read, if there was one
abbrev pub left_from : Bool → List (List ℕ) → List (List (List ℕ)) → List (List (List ℕ))
left_from true first rest = first ∷ rest
left_from false first rest = []

-- what is left, where this is the number of the first
abbrev pub left_at : ℕ → Bool → List (List ℕ) → List (List (List ℕ)) → Left
left_at row found first rest = record { row = row; records = left_from found first rest }

-- a reader can go on after the record that it read, and the records can be counted
pub record Stands (reader : Reader (Bor (List ℕ))) (first : List (List ℕ)) (found : Bool) (row : ℕ) : Type 0 where
  pub reading : found ≡ true → IsReading reader
  pub few : row + length (left_from found first (left_of reader)) < 2 ^ 64

-- a fault names this row, of which this holds, unless memory was refused
abbrev pub IsFaultAt : ℕ → Type 0 → Fault → Type 0
IsFaultAt row Wrong fault = fault ≢ Memory → (fault ≡ CheckRow row) × Wrong

-- The first record at fault, counted from 0: there is a table that begins with the records before it, and none that
-- goes on as they do, with this record, or, where it is missing, with the end.
pub record IsFirstWrong (IsTable : List (List (List ℕ)) → Type 0) (records : List (List (List ℕ))) (row : ℕ)
    : Type 0 where
  pub table : List (List (List ℕ))
  pub is_table : IsTable table
  pub agrees : take row table ≡ take row records
  pub differs : (other : List (List (List ℕ))) → IsTable other → take (row + 1) other ≢ take (row + 1) records

-- a table is refused for its first record at fault, or for memory
abbrev pub IsRefusedFor : (List (List (List ℕ)) → Type 0) → List (List (List ℕ)) → Fault → Type 0
IsRefusedFor IsTable records (CheckRow row) = IsFirstWrong IsTable records row
IsRefusedFor IsTable records Memory = ⊤
IsRefusedFor IsTable records _ = ⊥
