-- Row hits among commands, by the entries on whose behalf an ACT was issued.
--     same_entry x y      two entries of traces are the same, each by its core and its number
--     has_act commands entry      an ACT was issued on behalf of an entry
--     with_entry command entry before      an ACT was issued on behalf of an entry, after one more command
--     is_hit_without acts command      a command is a RD or WR for an entry on whose behalf no ACT was issued
use Rattle.std.specs.Prelude.{ℕ, ◌==◌, Bool, false, not, ◌&&◌, ◌||◌, List}
use Rattle.std.specs.List.{list_any}
use Rattle.sim_base.specs.Counts.{is_act_for}
use Rattle.sim_base.specs.declared.command.Command.{Command}
use Rattle.sim_base.specs.declared.command.Command.TheVariants.{Act, Rd, Wr}
use Rattle.sim_base.specs.declared.command.IssuedCommand.{IssuedCommand}

-- two entries of traces are the same, each by its core and its number
abbrev pub same_entry : ℕ × ℕ → ℕ × ℕ → Bool
same_entry x y = (x.0 == y.0) && (x.1 == y.1)

-- an ACT was issued on behalf of an entry
unfoldable pub has_act : List IssuedCommand → ℕ × ℕ → Bool
has_act commands entry = list_any (λ i. is_act_for (record { core = entry.0; entry = entry.1 }) i.command) commands

-- a command is a RD or WR for an entry on whose behalf no ACT was issued
abbrev pub is_hit_without : (ℕ × ℕ → Bool) → Command → Bool
is_hit_without acts (Rd bank row column source) = not (acts (source.core, source.entry))
is_hit_without acts (Wr bank row column source) = not (acts (source.core, source.entry))
is_hit_without acts _ = false

-- whether an ACT was issued on behalf of an entry, after one more command
abbrev pub with_entry : Command → ℕ × ℕ → Bool → Bool
with_entry (Act bank row source) entry before = before || same_entry (source.core, source.entry) entry
with_entry _ entry before = before
