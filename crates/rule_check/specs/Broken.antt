-- Which rules a row of a table breaks after the rows before it. Each rule has its number, as in docs/RULES.md; in the
-- words of JESD79-4 they are:
--      1      the order of rows, which is this project's
--      2      the state of banks: idle for ACT and for REF, active with the row for RD and WR
--      3      tRCD, ACT to internal read or write delay time
--      4      tRAS, ACT to PRE command period
--      5      tRC, ACT to ACT command period
--      6      tRP, PRE command period
--      7      tRTP, internal READ command to PRECHARGE command delay
--      8      tWR, write recovery time, from the end of the data on
--      9, 10      tRRD_L and tRRD_S, ACT to ACT command delay to the same and to a different bank group
--     11, 12      tCCD_L and tCCD_S, CAS to CAS command delay for the same and for a different bank group
--     13, 14      tWTR_L and tWTR_S, internal write to internal read of the same and of a different bank group
--     15      READ to WRITE command delay, by a number of this project
--     16      tFAW, four activate window
--     17      tRFC, REF command period
--     18      tREFI, average periodic refresh interval; how long a REF may be postponed is this project's
--     19, 20, 21      data bus between two ranks: READ to READ and WRITE to WRITE, READ to WRITE, WRITE to READ
--
--     breaks_order rows row      rule 1: rows ascend by cycle and then by channel
--     breaks_distance t number history row      rules 3 to 15, 17 and 19 to 21: distances from earlier commands
--     breaks_window t history row      rule 16: at most four ACTs of a rank in a window
--     breaks_refresh s history row      rule 18: no row comes while a refresh of its channel is overdue
--     breaks s rows row number      a row breaks the rule with this number
--     lowest_broken s rows row      the lowest rule that it breaks
use Rattle.std.specs.Prelude.{ℕ, ◌+◌, ◌*◌, ◌==◌, nat_lt, Bool, false, not, ◌&&◌, List, find, fold, count_by, Option, Some, None, if◌then◌else◌}
use Rattle.std.specs.List.{list_any, range_with_len}
use Rattle.sim_base.specs.declared.config.Config.{Config}
use Rattle.sim_base.specs.declared.timing.Timing.{Timing}
use Rattle.sim_base.specs.declared.rule.Rule.{Rule}
use Rattle.sim_base.specs.declared.command.Kind.TheVariants as kind
use Rattle.sim_base.specs.declared.command.IssuedCommand.{IssuedCommand}
use Rattle.sim_base.specs.Config.{refresh_slack}
use Rattle.sim_base.specs.History.{below, commands_on, stands_before}
use Rattle.sim_base.specs.Rules.{rules, is_kind, binds, kind_of, rank_of, relation_of, recent_acts, finds_its_banks}
use Rattle.sim_base.specs.Scheduling.{refreshes}

-- the last of some rows, if there is one
unfoldable pub last_row : List IssuedCommand → Option IssuedCommand
last_row rows = fold (λ last row. Some row) None rows

-- the row before it, if there is one, does not stand before it
abbrev pub stands_wrongly : Option IssuedCommand → IssuedCommand → Bool
stands_wrongly None row = false
stands_wrongly (Some last) row = not (stands_before last row)

abbrev pub breaks_order : List IssuedCommand → IssuedCommand → Bool
breaks_order rows row = stands_wrongly (last_row rows) row

-- a rule of the table binds two commands of a channel, and the later one comes too soon
abbrev pub is_too_close : Rule → IssuedCommand → IssuedCommand → Bool
is_too_close r earlier row =
    binds r (kind_of earlier.command) (kind_of row.command) (relation_of earlier.command row.command)
    && nat_lt row.cycle (earlier.cycle + r.cycles)

-- a row comes too soon after some earlier one of its channel, by a rule of this number
unfoldable pub breaks_distance : Timing → ℕ → List IssuedCommand → IssuedCommand → Bool
breaks_distance t number history row =
    list_any (λ r. (r.number == number) && list_any (λ earlier. is_too_close r earlier row) history) (rules t)

-- an ACT with more than three earlier ones of its rank in the window before it
abbrev pub breaks_window : Timing → List IssuedCommand → IssuedCommand → Bool
breaks_window t history row =
    is_kind (kind_of row.command) kind.Act && nat_lt 3 (recent_acts t (rank_of row.command) row.cycle history)

-- The next refresh of a rank is overdue in a cycle: it comes by refresh_slack after the end of its interval of nREFI
-- cycles.
abbrev pub is_overdue : Config → List IssuedCommand → ℕ → ℕ → Bool
is_overdue s history now rank =
    nat_lt ((count_by (λ i. refreshes rank i.command) history + 1) * s.timing.n_refi + refresh_slack s) now

-- where there are refreshes, a row comes while a rank of its channel has missed one
abbrev pub breaks_refresh : Config → List IssuedCommand → IssuedCommand → Bool
breaks_refresh s history row = nat_lt 0 s.timing.n_refi && list_any (is_overdue s history row.cycle) (below s.ranks)

-- A row breaks a rule of its channel, after the rows of the channel before it: the state of banks (2), the four
-- activate window (16), the refresh interval (18), or a distance between two commands.
abbrev pub breaks_in_channel : Config → List IssuedCommand → IssuedCommand → ℕ → Bool
breaks_in_channel s history row number =
    if number == 2 then not (finds_its_banks s history row.command)
    else (if number == 16 then breaks_window s.timing history row
    else (if number == 18 then breaks_refresh s history row
    else breaks_distance s.timing number history row))

-- a row breaks the rule with this number, after all rows before it: the order of rows (1), or a rule of its channel
unfoldable pub breaks : Config → List IssuedCommand → IssuedCommand → ℕ → Bool
breaks s rows row number =
    if number == 1 then breaks_order rows row else breaks_in_channel s (commands_on row.channel rows) row number

-- the lowest rule that a row breaks; rules are numbered from 1 to 21
unfoldable pub lowest_broken : Config → List IssuedCommand → IssuedCommand → Option ℕ
lowest_broken s rows row = find (breaks s rows row) (range_with_len 1 21)
