-- A legend of a page.
--     entry_text entry      an entry as an item of a list
--     legend_text entries      the list
use Rattle.std.specs.Prelude.{ℕ, List, ◌++◌, codes}
use Rattle.std.specs.List.{flat_map}
use Rattle.request_pictures.specs.declared.drawing.markup.LegendEntry.{LegendEntry}

-- a patch in the colour of a class of the style sheet, and what it stands for
unfoldable pub entry_text : LegendEntry → List ℕ
entry_text entry =
    codes "<li><svg class=\"patch\" viewBox=\"0 0 10 10\"><rect class=\"" ++ entry.class.now
    ++ codes "\" width=\"10\" height=\"10\"/></svg>" ++ entry.text.now ++ codes "</li>"

-- the entries as a list
unfoldable pub legend_text : List LegendEntry → List ℕ
legend_text entries = codes "<ul class=\"legend\">" ++ flat_map entry_text entries ++ codes "</ul>\n"
