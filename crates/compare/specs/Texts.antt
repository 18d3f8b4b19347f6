-- Values and changes as texts.
--     rounded value unit      a number of billionths as one of units
--     value_text layout decimals value      a value with so many decimals
--     change_text layout change      a change in percent
--     cell_text layout width text, label_text layout label      a cell, and the first one of a line
use Rattle.std.specs.Prelude.{ℕ, ◌+◌, ◌-◌, ◌/◌, ◌==◌, List, [], ◌++◌, codes, decimal, length, Option, Some, None, if◌then◌else◌}
use Rattle.std.specs.List.{repeat}
use Rattle.measures.specs.Number.{tenths_text, thousandths_text}
use Rattle.measures.specs.Texts.{flush_right}
use Rattle.compare.specs.declared.changes.Change.{Change}
use Rattle.compare.specs.declared.changes.Change.TheVariants.{Rise, Fall}
use Rattle.compare.specs.declared.layout.Layout.{Layout}
use Rattle.compare.specs.declared.layout.Layout.TheVariants.{Screen, Csv}
use Rattle.compare.specs.declared.compared.Decimals.{Decimals}
use Rattle.compare.specs.declared.compared.Decimals.TheVariants.{Zero, One, Three}

-- a number of billionths as one of units, which are some billionths each, rounded half up
abbrev pub rounded : ℕ → ℕ → ℕ
rounded value unit = (value + unit / 2) / unit

-- a value with so many decimals
abbrev pub fixed_text : Decimals → ℕ → List ℕ
fixed_text Zero value = decimal (rounded value 1000000000)
fixed_text One value = tenths_text (rounded value 100000000)
fixed_text Three value = thousandths_text (rounded value 1000000)

-- what stands where there is nothing to show
abbrev pub missing_text : Layout → List ℕ
missing_text Screen = codes "-"
missing_text Csv = []

abbrev pub value_text : Layout → Decimals → Option ℕ → List ℕ
value_text layout decimals (Some value) = fixed_text decimals value
value_text layout decimals None = missing_text layout

-- tenths of a percent behind a sign, which 0 has not
abbrev pub signed_text : List ℕ → ℕ → List ℕ
signed_text sign tenths = if tenths == 0 then tenths_text tenths else sign ++ tenths_text tenths

-- a change in percent
abbrev pub change_text : Layout → Option Change → List ℕ
change_text layout (Some (Rise tenths)) = signed_text (codes "+") tenths
change_text layout (Some (Fall tenths)) = signed_text (codes "-") tenths
change_text layout None = missing_text layout

-- a cell behind others: flush right in a column of a screen, or behind a comma
abbrev pub cell_text : Layout → ℕ → List ℕ → List ℕ
cell_text Screen width text = codes "  " ++ flush_right width text
cell_text Csv width text = codes "," ++ text

-- the first cell of a line: flush left in a column of 22 characters, or as it is
abbrev pub label_text : Layout → List ℕ → List ℕ
label_text Screen label = label ++ repeat (22 - length label) (codes " ")
label_text Csv label = label
