-- How long a command holds a later one back, for each pair of kinds and each relation of their banks.
--     hold t earlier later relation      the distance, where a rule binds two such commands
--     holds_between t earlier later      the distance for each relation, and whether a rule binds two such commands
--     holds_after t earlier, hold_table t      these for each later kind, and for each earlier and each later kind
--     place_of_kind, place_of_relation      where a kind and a relation stand in it
use Rattle.std.specs.Prelude.{ℕ, List, [], ◌∷◌, Option, Some, None, if◌then◌else◌}
use Rattle.sim_base.specs.declared.timing.Timing.{Timing}
use Rattle.sim_base.specs.declared.command.Kind.{Kind}
use Rattle.sim_base.specs.declared.command.Kind.TheVariants.{Act, Rd, Wr, Pre, Prea, Ref}
use Rattle.sim_base.specs.declared.command.Relation.{Relation}
use Rattle.sim_base.specs.declared.command.Relation.TheVariants.{SameBank, SameGroup, OtherGroup, OtherRank}
use Rattle.sim_base.specs.Rules.{is_bound, gap}
use Rattle.timing.specs.declared.gap_table.HoldsBetween.{HoldsBetween}
use Rattle.timing.specs.declared.gap_table.HoldsAfter.{HoldsAfter}

-- by the gap, where a rule binds two such commands, and not at all, where none does
unfoldable pub hold : Timing → Kind → Kind → Relation → Option ℕ
hold t earlier later relation = if is_bound t earlier later relation then Some (gap t earlier later relation) else None

-- the distance for each relation, and whether a rule binds two such commands
abbrev pub holds_between : Timing → Kind → Kind → HoldsBetween
holds_between t earlier later =
    record {
      cycles = gap t earlier later SameBank ∷ gap t earlier later SameGroup
          ∷ gap t earlier later OtherGroup ∷ gap t earlier later OtherRank ∷ [];
      bound = is_bound t earlier later SameBank ∷ is_bound t earlier later SameGroup
          ∷ is_bound t earlier later OtherGroup ∷ is_bound t earlier later OtherRank ∷ [];
    }

-- for each later kind, the distance for each relation to an earlier kind, and whether a rule binds two such commands
abbrev pub holds_after : Timing → Kind → HoldsAfter
holds_after t earlier =
    record {
      by_kind =
          holds_between t earlier Act ∷ holds_between t earlier Rd ∷ holds_between t earlier Wr
          ∷ holds_between t earlier Pre ∷ holds_between t earlier Prea ∷ holds_between t earlier Ref ∷ [];
    }

-- for each earlier and each later kind, the distance for each relation, and whether a rule binds two such commands
unfoldable pub hold_table : Timing → List HoldsAfter
hold_table t =
    holds_after t Act ∷ holds_after t Rd ∷ holds_after t Wr ∷ holds_after t Pre ∷ holds_after t Prea ∷ holds_after t Ref
    ∷ []

-- where a kind stands
abbrev pub place_of_kind : Kind → ℕ
place_of_kind Act = 0
place_of_kind Rd = 1
place_of_kind Wr = 2
place_of_kind Pre = 3
place_of_kind Prea = 4
place_of_kind Ref = 5

-- where a relation stands
abbrev pub place_of_relation : Relation → ℕ
place_of_relation SameBank = 0
place_of_relation SameGroup = 1
place_of_relation OtherGroup = 2
place_of_relation OtherRank = 3
