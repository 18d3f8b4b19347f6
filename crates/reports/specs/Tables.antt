-- What is on its way through a table, and what a call makes of it. A call is told the writer and the table before it
-- and after it.
--     waiting table      the text of the rows that wait
--     held contents writer table      what the writer holds, and then the rows that wait
--     IsWhole table      no row was lost
--     AddsRows contents writer table writer' table' text      unless a row was lost, both hold this text more
--     KeepsRows contents writer table writer' table'      unless a row was lost, both hold what they held
--     KeepsOnOk result contents writer table writer' table'      on Ok, both hold what they held
--     SendsOnOk result contents writer table writer'      on Ok, no row was lost, and the writer holds what both held
use Rattle.std.specs.Prelude.{◌≡◌, ℕ, List, ◌++◌, Option, None, Result, OnOk}
use Rattle.std.specs.Io.KnownBytes.{Appends, Keeps, append_known}
use Rattle.csv.specs.Writing.{writer_under, writer_pending}
use Rattle.reports.specs.declared.table.RowBuffer.{RowBuffer}

-- the text of the rows that wait
abbrev pub waiting : RowBuffer → List ℕ
waiting table = (writer_under table.rows).items ++ writer_pending table.rows ++ table.block

-- what the writer holds, and then the rows that wait
abbrev pub held : {W : Type 0} → (W → Option (List ℕ)) → W → RowBuffer → Option (List ℕ)
held contents writer table = append_known (contents writer) (waiting table)

-- no row was lost
abbrev pub IsWhole : RowBuffer → Type 0
IsWhole table = table.lost ≡ None

-- if no row was lost up to then, none had been lost before, and this text was added to what the writer and the table
-- hold
abbrev pub AddsRows : {W : Type 0} → (W → Option (List ℕ)) → W → RowBuffer → W → RowBuffer → List ℕ → Type 0
AddsRows contents writer table writer' table' text =
    IsWhole table' → IsWhole table × Appends (held contents writer table) (held contents writer' table') text

-- if no row was lost up to then, none had been lost before, and the writer and the table together hold what they held
abbrev pub KeepsRows : {W : Type 0} → (W → Option (List ℕ)) → W → RowBuffer → W → RowBuffer → Type 0
KeepsRows contents writer table writer' table' =
    IsWhole table' → IsWhole table × Keeps (held contents writer table) (held contents writer' table')

-- on Ok, the writer and the table together hold what they held
abbrev pub KeepsOnOk : {T E W : Type 0} → Result T E → (W → Option (List ℕ)) → W → RowBuffer → W → RowBuffer → Type 0
KeepsOnOk result contents writer table writer' table' =
    OnOk result (Keeps (held contents writer table) (held contents writer' table'))

-- on Ok, no row was lost, and the writer alone holds what it and the table held
abbrev pub SendsOnOk : {T E W : Type 0} → Result T E → (W → Option (List ℕ)) → W → RowBuffer → W → Type 0
SendsOnOk result contents writer table writer' =
    OnOk result (IsWhole table × Keeps (held contents writer table) (contents writer'))
