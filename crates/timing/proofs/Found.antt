-- What a look-up in the table finds.
use Rattle.std.proofs.Common.{◌≡◌, ℕ, Bool, get_or, refl}
use Rattle.sim_base.specs.declared.command.Kind.{Kind}
use Rattle.sim_base.specs.declared.command.Kind.TheVariants.{Act, Rd, Wr, Pre, Prea, Ref}
use Rattle.sim_base.specs.declared.command.Relation.{Relation}
use Rattle.sim_base.specs.declared.command.Relation.TheVariants.{SameBank, SameGroup, OtherGroup, OtherRank}
use Rattle.sim_base.specs.declared.timing.Timing.{Timing}
use Rattle.sim_base.specs.Rules.{is_bound, gap}
use Rattle.timing.specs.declared.gap_table.HoldsBetween.{HoldsBetween}
use Rattle.timing.specs.declared.gap_table.HoldsAfter.{HoldsAfter}
use Rattle.timing.specs.Holds.{holds_between, holds_after, hold_table, place_of_kind, place_of_relation}

hold_table-at : (t : Timing) (k : Kind) (d : HoldsAfter) → get_or (hold_table t) (place_of_kind k) d ≡ holds_after t k
unfolding hold_table
hold_table-at t Act d = refl
hold_table-at t Rd d = refl
hold_table-at t Wr d = refl
hold_table-at t Pre d = refl
hold_table-at t Prea d = refl
hold_table-at t Ref d = refl

holds_after-at : (t : Timing) (e k : Kind) (d : HoldsBetween) → get_or (holds_after t e).by_kind (place_of_kind k) d ≡ holds_between t e k
holds_after-at t e Act d = refl
holds_after-at t e Rd d = refl
holds_after-at t e Wr d = refl
holds_after-at t e Pre d = refl
holds_after-at t e Prea d = refl
holds_after-at t e Ref d = refl

pub found : (t : Timing) (e k : Kind) (a : HoldsAfter) (b : HoldsBetween) → get_or (get_or (hold_table t) (place_of_kind e) a).by_kind (place_of_kind k) b ≡ holds_between t e k
found t e k a b = rw (hold_table-at t e a) (holds_after-at t e k b)

pub cycles-at : (t : Timing) (e k : Kind) (r : Relation) (d : ℕ) → get_or (holds_between t e k).cycles (place_of_relation r) d ≡ gap t e k r
cycles-at t e k SameBank d = refl
cycles-at t e k SameGroup d = refl
cycles-at t e k OtherGroup d = refl
cycles-at t e k OtherRank d = refl

pub bound-at : (t : Timing) (e k : Kind) (r : Relation) (d : Bool) → get_or (holds_between t e k).bound (place_of_relation r) d ≡ is_bound t e k r
bound-at t e k SameBank d = refl
bound-at t e k SameGroup d = refl
bound-at t e k OtherGroup d = refl
bound-at t e k OtherRank d = refl
