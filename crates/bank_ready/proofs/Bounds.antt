-- What the table of rules says of each pair of kinds, as far as commands are noted without a look at it.
use Rattle.std.proofs.Common.{◌≡◌, ℕ, ◌+◌, ◌≤◌, max, true, Option, Some, None, refl, sym, ap, arith}
use Rattle.std.specs.Prelude.{option_map, unwrap_or}
use Rattle.std.proofs.lemmas.Bool.{cond-true, false≢true}
use Rattle.sim_base.specs.declared.timing.Timing.{Timing}
use Rattle.sim_base.specs.declared.command.Kind.{Kind}
use Rattle.sim_base.specs.declared.command.Kind.TheVariants.{Act, Rd, Wr, Pre, Prea, Ref}
use Rattle.sim_base.specs.declared.command.Relation.{Relation}
use Rattle.sim_base.specs.declared.command.Relation.TheVariants.{SameBank, SameGroup, OtherGroup, OtherRank}
use Rattle.sim_base.specs.Rules.{is_bound, gap}
use Rattle.timing.specs.Holds.{hold}
use Rattle.bank_ready.specs.Ready.{held_until}
use Rattle.bank_ready.specs.Words.{is_column_kind}

-- what a rule binds is held back by the gap
pub held_if_bound : (t : Timing) (cycle : ℕ) (earlier later : Kind) (relation : Relation) → is_bound t earlier later relation ≡ true
    → cycle + gap t earlier later relation ≡ held_until t cycle earlier later relation
unfolding held_until hold
held_if_bound t cycle earlier later relation b =
    ap (λ (o : Option ℕ). unwrap_or (option_map (λ g. cycle + g) o) 0) (sym (cond-true (is_bound t earlier later relation) (Some (gap t earlier later relation)) None b))

-- column commands are bound to one another, wherever their banks lie
pub column_bound : (t : Timing) (earlier later : Kind) (relation : Relation) → is_column_kind earlier ≡ true → is_column_kind later ≡ true → is_bound t earlier later relation ≡ true
unfolding is_bound
column_bound t Rd Rd SameBank e l = refl
column_bound t Rd Rd SameGroup e l = refl
column_bound t Rd Rd OtherGroup e l = refl
column_bound t Rd Rd OtherRank e l = refl
column_bound t Rd Wr SameBank e l = refl
column_bound t Rd Wr SameGroup e l = refl
column_bound t Rd Wr OtherGroup e l = refl
column_bound t Rd Wr OtherRank e l = refl
column_bound t Wr Rd SameBank e l = refl
column_bound t Wr Rd SameGroup e l = refl
column_bound t Wr Rd OtherGroup e l = refl
column_bound t Wr Rd OtherRank e l = refl
column_bound t Wr Wr SameBank e l = refl
column_bound t Wr Wr SameGroup e l = refl
column_bound t Wr Wr OtherGroup e l = refl
column_bound t Wr Wr OtherRank e l = refl
column_bound t Act later relation e l = absurd (false≢true e)
column_bound t Pre later relation e l = absurd (false≢true e)
column_bound t Prea later relation e l = absurd (false≢true e)
column_bound t Ref later relation e l = absurd (false≢true e)
column_bound t Rd Act relation e l = absurd (false≢true l)
column_bound t Rd Pre relation e l = absurd (false≢true l)
column_bound t Rd Prea relation e l = absurd (false≢true l)
column_bound t Rd Ref relation e l = absurd (false≢true l)
column_bound t Wr Act relation e l = absurd (false≢true l)
column_bound t Wr Pre relation e l = absurd (false≢true l)
column_bound t Wr Prea relation e l = absurd (false≢true l)
column_bound t Wr Ref relation e l = absurd (false≢true l)

pub column_pre_bound : (t : Timing) (earlier : Kind) → is_column_kind earlier ≡ true → is_bound t earlier Pre SameBank ≡ true
unfolding is_bound
column_pre_bound t Rd m = refl
column_pre_bound t Wr m = refl
column_pre_bound t Act m = absurd (false≢true m)
column_pre_bound t Pre m = absurd (false≢true m)
column_pre_bound t Prea m = absurd (false≢true m)
column_pre_bound t Ref m = absurd (false≢true m)

-- a column command holds back another in its bank as in its group
pub column_same : (t : Timing) (cycle : ℕ) (earlier later : Kind) → is_column_kind earlier ≡ true → is_column_kind later ≡ true
    → held_until t cycle earlier later SameBank ≡ held_until t cycle earlier later SameGroup
unfolding held_until hold is_bound gap
column_same t cycle Rd Rd e l = refl
column_same t cycle Rd Wr e l = refl
column_same t cycle Wr Rd e l = refl
column_same t cycle Wr Wr e l = refl
column_same t cycle Act later e l = absurd (false≢true e)
column_same t cycle Pre later e l = absurd (false≢true e)
column_same t cycle Prea later e l = absurd (false≢true e)
column_same t cycle Ref later e l = absurd (false≢true e)
column_same t cycle Rd Act e l = absurd (false≢true l)
column_same t cycle Rd Pre e l = absurd (false≢true l)
column_same t cycle Rd Prea e l = absurd (false≢true l)
column_same t cycle Rd Ref e l = absurd (false≢true l)
column_same t cycle Wr Act e l = absurd (false≢true l)
column_same t cycle Wr Pre e l = absurd (false≢true l)
column_same t cycle Wr Prea e l = absurd (false≢true l)
column_same t cycle Wr Ref e l = absurd (false≢true l)

-- so no relation of their banks holds back less than a least cycle of three
pub column_least : (t : Timing) (cycle : ℕ) (earlier later : Kind) (least : ℕ) (relation : Relation) → is_column_kind earlier ≡ true → is_column_kind later ≡ true
    → least ≤ held_until t cycle earlier later SameGroup → least ≤ held_until t cycle earlier later OtherGroup → least ≤ held_until t cycle earlier later OtherRank
    → least ≤ held_until t cycle earlier later relation
column_least t cycle earlier later least SameBank e l group other rank = rw (column_same t cycle earlier later e l) group
column_least t cycle earlier later least SameGroup e l group other rank = group
column_least t cycle earlier later least OtherGroup e l group other rank = other
column_least t cycle earlier later least OtherRank e l group other rank = rank

-- an ACT holds back another in its bank at least as long as in its group, and not in another rank
pub act_grows : (t : Timing) (cycle : ℕ) → held_until t cycle Act Act SameGroup ≤ held_until t cycle Act Act SameBank
unfolding held_until hold is_bound gap
act_grows t cycle = greater_grows cycle t.n_rc t.n_rrd_l
  where
    greater_grows : (n a b : ℕ) → n + max 0 b ≤ n + max (max 0 a) b
    greater_grows n a b = omega arith

pub act_other_rank : (t : Timing) (cycle : ℕ) → held_until t cycle Act Act OtherRank ≡ 0
unfolding held_until hold is_bound gap
act_other_rank t cycle = refl

-- no rule of a whole rank's commands binds another rank
pub rank_alone : (t : Timing) (cycle : ℕ) (earlier : Kind) → (held_until t cycle earlier Prea OtherRank ≡ 0) × (held_until t cycle earlier Ref OtherRank ≡ 0)
unfolding held_until hold is_bound gap
rank_alone t cycle Act = (refl, refl)
rank_alone t cycle Rd = (refl, refl)
rank_alone t cycle Wr = (refl, refl)
rank_alone t cycle Pre = (refl, refl)
rank_alone t cycle Prea = (refl, refl)
rank_alone t cycle Ref = (refl, refl)

-- a command holds back another of its own bank alone
pub record IsOwn (until : Relation → ℕ) : Type 0 where
  pub same_group : until SameGroup ≡ 0
  pub other_group : until OtherGroup ≡ 0
  pub other_rank : until OtherRank ≡ 0

-- an ACT does so, but for other ACTs
pub act_to_rd : (t : Timing) (cycle : ℕ) → IsOwn (held_until t cycle Act Rd)
unfolding held_until hold is_bound gap
act_to_rd t cycle = record { same_group = refl; other_group = refl; other_rank = refl }

pub act_to_wr : (t : Timing) (cycle : ℕ) → IsOwn (held_until t cycle Act Wr)
unfolding held_until hold is_bound gap
act_to_wr t cycle = record { same_group = refl; other_group = refl; other_rank = refl }

pub act_to_pre : (t : Timing) (cycle : ℕ) → IsOwn (held_until t cycle Act Pre)
unfolding held_until hold is_bound gap
act_to_pre t cycle = record { same_group = refl; other_group = refl; other_rank = refl }

-- a RD and a WR hold back a PRE of their own bank alone, and no ACT
pub column_to_pre : (t : Timing) (cycle : ℕ) (earlier : Kind) → is_column_kind earlier ≡ true → IsOwn (held_until t cycle earlier Pre)
unfolding held_until hold is_bound gap
column_to_pre t cycle Rd m = record { same_group = refl; other_group = refl; other_rank = refl }
column_to_pre t cycle Wr m = record { same_group = refl; other_group = refl; other_rank = refl }
column_to_pre t cycle Act m = absurd (false≢true m)
column_to_pre t cycle Pre m = absurd (false≢true m)
column_to_pre t cycle Prea m = absurd (false≢true m)
column_to_pre t cycle Ref m = absurd (false≢true m)

pub column_no_act : (t : Timing) (cycle : ℕ) (earlier : Kind) (relation : Relation) → is_column_kind earlier ≡ true → held_until t cycle earlier Act relation ≡ 0
unfolding held_until hold is_bound gap
column_no_act t cycle Rd SameBank m = refl
column_no_act t cycle Rd SameGroup m = refl
column_no_act t cycle Rd OtherGroup m = refl
column_no_act t cycle Rd OtherRank m = refl
column_no_act t cycle Wr SameBank m = refl
column_no_act t cycle Wr SameGroup m = refl
column_no_act t cycle Wr OtherGroup m = refl
column_no_act t cycle Wr OtherRank m = refl
column_no_act t cycle Act relation m = absurd (false≢true m)
column_no_act t cycle Pre relation m = absurd (false≢true m)
column_no_act t cycle Prea relation m = absurd (false≢true m)
column_no_act t cycle Ref relation m = absurd (false≢true m)

-- a PRE holds back an ACT of its own bank alone, and no other command of a bank
pub pre_to_act : (t : Timing) (cycle : ℕ) → IsOwn (held_until t cycle Pre Act)
unfolding held_until hold is_bound gap
pre_to_act t cycle = record { same_group = refl; other_group = refl; other_rank = refl }

pub pre_nothing : (t : Timing) (cycle : ℕ) (relation : Relation)
    → (held_until t cycle Pre Rd relation ≡ 0) × (held_until t cycle Pre Wr relation ≡ 0) × (held_until t cycle Pre Pre relation ≡ 0)
unfolding held_until hold is_bound gap
pre_nothing t cycle SameBank = (refl, refl, refl)
pre_nothing t cycle SameGroup = (refl, refl, refl)
pre_nothing t cycle OtherGroup = (refl, refl, refl)
pre_nothing t cycle OtherRank = (refl, refl, refl)

-- a PREA and a REF hold back commands of their own rank alone: a PREA no other than an ACT, and a REF an ACT and a PRE
pub prea_rank : (t : Timing) (cycle : ℕ) → held_until t cycle Prea Act OtherRank ≡ 0
unfolding held_until hold is_bound gap
prea_rank t cycle = refl

pub prea_nothing : (t : Timing) (cycle : ℕ) (relation : Relation)
    → (held_until t cycle Prea Rd relation ≡ 0) × (held_until t cycle Prea Wr relation ≡ 0) × (held_until t cycle Prea Pre relation ≡ 0)
unfolding held_until hold is_bound gap
prea_nothing t cycle SameBank = (refl, refl, refl)
prea_nothing t cycle SameGroup = (refl, refl, refl)
prea_nothing t cycle OtherGroup = (refl, refl, refl)
prea_nothing t cycle OtherRank = (refl, refl, refl)

pub refresh_rank : (t : Timing) (cycle : ℕ) → (held_until t cycle Ref Act OtherRank ≡ 0) × (held_until t cycle Ref Pre OtherRank ≡ 0)
unfolding held_until hold is_bound gap
refresh_rank t cycle = (refl, refl)

pub refresh_nothing : (t : Timing) (cycle : ℕ) (relation : Relation) → (held_until t cycle Ref Rd relation ≡ 0) × (held_until t cycle Ref Wr relation ≡ 0)
unfolding held_until hold is_bound gap
refresh_nothing t cycle SameBank = (refl, refl)
refresh_nothing t cycle SameGroup = (refl, refl)
refresh_nothing t cycle OtherGroup = (refl, refl)
refresh_nothing t cycle OtherRank = (refl, refl)

-- a PREA waits for each command in its rank but a PRE and a PREA, and a REF for a PRE, a PREA and a REF
pub prea_bound : (t : Timing) (earlier : Kind) → (earlier ≡ Pre → ⊥) → (earlier ≡ Prea → ⊥) → is_bound t earlier Prea SameBank ≡ true
unfolding is_bound
prea_bound t Act a b = refl
prea_bound t Rd a b = refl
prea_bound t Wr a b = refl
prea_bound t Ref a b = refl
prea_bound t Pre a b = absurd (a refl)
prea_bound t Prea a b = absurd (b refl)

pub refresh_bound : (t : Timing) (earlier : Kind) → (earlier ≡ Act → ⊥) → (earlier ≡ Rd → ⊥) → (earlier ≡ Wr → ⊥) → is_bound t earlier Ref SameBank ≡ true
unfolding is_bound
refresh_bound t Pre a b c = refl
refresh_bound t Prea a b c = refl
refresh_bound t Ref a b c = refl
refresh_bound t Act a b c = absurd (a refl)
refresh_bound t Rd a b c = absurd (b refl)
refresh_bound t Wr a b c = absurd (c refl)

pub pre_to_prea : (t : Timing) (cycle : ℕ) → 0 ≡ held_until t cycle Pre Prea SameBank
unfolding held_until hold is_bound gap
pre_to_prea t cycle = refl

pub prea_to_prea : (t : Timing) (cycle : ℕ) → 0 ≡ held_until t cycle Prea Prea SameBank
unfolding held_until hold is_bound gap
prea_to_prea t cycle = refl

pub act_to_refresh : (t : Timing) (cycle : ℕ) → 0 ≡ held_until t cycle Act Ref SameBank
unfolding held_until hold is_bound gap
act_to_refresh t cycle = refl

pub rd_to_refresh : (t : Timing) (cycle : ℕ) → 0 ≡ held_until t cycle Rd Ref SameBank
unfolding held_until hold is_bound gap
rd_to_refresh t cycle = refl

pub wr_to_refresh : (t : Timing) (cycle : ℕ) → 0 ≡ held_until t cycle Wr Ref SameBank
unfolding held_until hold is_bound gap
wr_to_refresh t cycle = refl
