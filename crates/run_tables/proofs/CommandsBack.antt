-- A table of commands is read as it was written.
use Rattle.std.proofs.Common.{◌≡◌, ◌≤◌, ◌^◌, ◌&&◌, ◌==◌, ℕ, true, IsTrue, nat_lt, List, ◌∷◌, length, map, get_or, All, Some, refl, subst, sym, arith, inl, inr}
use Rattle.std.proofs.lemmas.Bool.{cases_Bool, and_parts, eqb-true, ltb-true}
use Rattle.sim_base.specs.declared.config.Config.{Config}
use Rattle.sim_base.specs.declared.command.IssuedCommand.{IssuedCommand}
use Rattle.sim_base.specs.declared.trace.Entry.{Entry}
use Rattle.sim_base.specs.History.{commands, stands_before}
use Rattle.sim_base.specs.Machine.{run}
use Rattle.command_table.specs.Tables.{IsRising}
use Rattle.laws.specs.Tables.{IsOrdered}
use Rattle.laws.proofs.Tabled.{tables_are_ordered}
use Rattle.reports.specs.Commands.{header, command_fields, commands_text}
use Rattle.rule_check.specs.Fields.{limits_of, is_header, row_in}
use Rattle.rule_check.specs.Verdict.{records_of}
use Rattle.run_tables.specs.TableLaws.Written.{RowIsOf}
use Rattle.run_tables.proofs.TableLaws.FieldsBack.{header-read, rows-back}
use Rattle.run_tables.proofs.TableLaws.InRange.{commands_are_in_range}
use Rattle.run_tables.proofs.TableLaws.RowsBack.{records-read}
use Rattle.run_tables.specs.Commands.{IsCommandTable}
use Rattle.run_tables.proofs.Wider.{rows-wider, header-wider}

-- records that are well-formed under a configuration are those rows
pub well_formed-read : (s : Config) (header : List (List ℕ)) (others : List (List (List ℕ))) (rows : List IssuedCommand) → IsTrue (is_header s.ranks header) → map (row_in (limits_of s)) others ≡ map Some rows
    → IsRising rows → IsCommandTable (header ∷ others) rows
well_formed-read s header others rows named read rising =
    let wide = header-wider s header named in
    record {
      header = header;
      others = others;
      limits = wide.limits;
      parts = refl;
      columns = wide.told;
      read = rows-wider (limits_of s) wide.limits others rows wide.within read;
      rising = rising;
    }

-- so are those that are written of them
pub written-read : (s : Config) (rows : List IssuedCommand) → All (RowIsOf s) rows → IsRising rows → IsCommandTable (records_of (commands_text s.ranks rows)) rows
written-read s rows inside rising =
    subst (λ (records : List (List (List ℕ))). IsCommandTable records rows) (sym (records-read s.ranks rows))
    (well_formed-read s (header s.ranks) (map (command_fields s.ranks) rows) rows (header-read s.ranks) (rows-back s rows inside) rising)

-- rows in order are in cycles that do not fall
not-later : (a b : IssuedCommand) → IsTrue (stands_before a b) → a.cycle ≤ b.cycle
not-later a b h =
    elim (cases_Bool (nat_lt a.cycle b.cycle)) [
      | inl less ↦ let l = ltb-true a.cycle b.cycle less in omega arith
      | inr more ↦
          let both : ((a.cycle == b.cycle) && nat_lt a.channel b.channel) ≡ true = rw more at h in
          let same = eqb-true a.cycle b.cycle ((and_parts (a.cycle == b.cycle) _ both).0) in
          omega (arith, same)
    ]

ordered-rising : (rows : List IssuedCommand) → IsOrdered rows → IsRising rows
ordered-rising rows ordered i j d before within = not-later (get_or rows i d) (get_or rows j d) (ordered i j d before within)

-- and so are the rows of a run
pub run-read : (s : Config) (traces : List (List Entry)) (n : ℕ) → n ≤ 2 ^ 62 → All (λ (t : List Entry). length t ≤ 2 ^ 62) traces
    → IsCommandTable (records_of (commands_text s.ranks (commands (run s traces n)))) (commands (run s traces n))
run-read s traces n few short =
    let rows = commands (run s traces n) in
    written-read s rows (commands_are_in_range s traces n few short) (ordered-rising rows (tables_are_ordered s traces n))
