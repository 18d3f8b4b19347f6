-- What is kept in each scope is read at its place, or of what is new.
use Rattle.std.proofs.Common.{◌≡◌, ℕ, ◌∙◌, List, Option, Some, None, refl, sym, ap}
use Rattle.std.specs.Prelude.{slice_get, option_and_then, unwrap_or}
use Rattle.sim_base.specs.declared.place.BankId.{BankId}
use Rattle.sim_base.specs.declared.command.Kind.{Kind}
use Rattle.sim_base.specs.declared.rule.Scope.{Scope}
use Rattle.sim_base.specs.declared.rule.Scope.TheVariants.{InBank, InGroup, AcrossGroups, InRank, AcrossRanks}
use Rattle.rule_check.specs.Kept.{latest_of, nothing, kept, group_number}
use Rattle.sim_base.specs.Places.{number_of_bank}
use Rattle.rule_check.specs.Around.{latest_at, IsAround}
use Rattle.rule_check.specs.declared.around.Around.{Around}
use Rattle.rule_check.specs.declared.latest.Latest.{Latest}
use Rattle.rule_check.specs.declared.state.Bank.{Bank}
use Rattle.rule_check.specs.declared.state.Group.{Group}
use Rattle.rule_check.specs.declared.state.Rank.{Rank}
use Rattle.rule_check.specs.declared.state.Channel.{Channel}
use Rattle.rule_check.proofs.Near.{latest_of-nothing}
use Rattle.rule_check.proofs.around.around_command.Goals as goal

-- the latest of what stands at a place, or of what is new
at-place : {X : Type 0} (part : X → Latest) (o : Option X) (new : X) (which : Kind) → part new ≡ nothing
    → latest_of (part (unwrap_or o new)) which ≡ option_and_then (λ x. latest_of (part x) which) o
at-place part (Some x) new which e = refl
at-place part None new which e = ap (λ l. latest_of l which) e ∙ latest_of-nothing which

-- the latest that is read through a reference to a part of what stands at a place, or of what is new
read : {X : Type 0} (part : X → Latest) (l : Latest) (x new : X) (xs items : List X) (k : ℕ) (which : Kind) → l ≡ part x → x ≡ unwrap_or (slice_get xs k) new → xs ≡ items
    → part new ≡ nothing → latest_of l which ≡ option_and_then (λ y. latest_of (part y) which) (slice_get items k)
read part l x new xs items k which own at same e =
    ap (λ m. latest_of m which) own ∙ ap (λ y. latest_of (part y) which) at ∙ ap (λ ys. latest_of (part (unwrap_or (slice_get ys k) new)) which) same
    ∙ at-place part (slice_get items k) new which e

-- around a command that names a bank
in-scope : (around : Around) (c : Channel) (rank : ℕ) (bank : BankId)
    → ((which : Kind) → latest_of around.bank.now which ≡ option_and_then (λ (x : Bank). latest_of x.latest which) (slice_get c.banks.items (number_of_bank bank)))
    → ((which : Kind) → latest_of around.group.now which ≡ option_and_then (λ (x : Group). latest_of x.within which) (slice_get c.groups.items (group_number bank)))
    → ((which : Kind) → latest_of around.other_groups.now which ≡ option_and_then (λ (x : Group). latest_of x.across which) (slice_get c.groups.items (group_number bank)))
    → ((which : Kind) → latest_of around.rank.now which ≡ option_and_then (λ (x : Rank). latest_of x.within which) (slice_get c.ranks.items rank))
    → ((which : Kind) → latest_of around.other_ranks.now which ≡ option_and_then (λ (x : Rank). latest_of x.across which) (slice_get c.ranks.items rank))
    → (scope : Scope) (which : Kind) → latest_of (latest_at around scope) which ≡ kept c scope which rank (Some bank)
unfolding kept
in-scope around c rank bank own group others state ranks InBank which = own which
in-scope around c rank bank own group others state ranks InGroup which = group which
in-scope around c rank bank own group others state ranks AcrossGroups which = others which
in-scope around c rank bank own group others state ranks InRank which = state which
in-scope around c rank bank own group others state ranks AcrossRanks which = ranks which

around-bank : (around : Around) (c : Channel) (rank own_rank : ℕ) (bank : BankId) (named : Option BankId) → rank ≡ own_rank → named ≡ Some bank
    → ((which : Kind) → latest_of around.bank.now which ≡ option_and_then (λ (x : Bank). latest_of x.latest which) (slice_get c.banks.items (number_of_bank bank)))
    → ((which : Kind) → latest_of around.group.now which ≡ option_and_then (λ (x : Group). latest_of x.within which) (slice_get c.groups.items (group_number bank)))
    → ((which : Kind) → latest_of around.other_groups.now which ≡ option_and_then (λ (x : Group). latest_of x.across which) (slice_get c.groups.items (group_number bank)))
    → ((which : Kind) → latest_of around.rank.now which ≡ option_and_then (λ (x : Rank). latest_of x.within which) (slice_get c.ranks.items rank))
    → ((which : Kind) → latest_of around.other_ranks.now which ≡ option_and_then (λ (x : Rank). latest_of x.across which) (slice_get c.ranks.items rank))
    → IsAround around c own_rank named
around-bank around c rank own_rank bank named same e own group others state ranks =
    record {
      each = λ scope which. in-scope around c rank bank own group others state ranks scope which ∙ (λ x. kept c scope which (same x) (sym e x));
    }

pub returns-in-Some : goal.returns-in-Some
returns-in-Some c =
    let channel = c.args.channel.now in
    around-bank _ channel c.rank.result _ c.in-Some.bank _ c.rank.ensures (sym c.in-Some.ensures)
    (λ k. read (λ (x : Bank). x.latest) _ _ _ _ channel.banks.items _ k refl c.bank_at.ensures c.deref-in-Some-2.ensures.value refl)
    (λ k. read (λ (x : Group). x.within) _ _ _ _ channel.groups.items _ k refl c.group_at-group.ensures c.deref-in-Some.ensures.value refl)
    (λ k. read (λ (x : Group). x.across) _ _ _ _ channel.groups.items _ k refl c.group_at-group.ensures c.deref-in-Some.ensures.value refl)
    (λ k. read (λ (x : Rank). x.within) _ _ _ _ channel.ranks.items _ k refl c.rank_at-rank.ensures c.deref.ensures.value refl)
    (λ k. read (λ (x : Rank). x.across) _ _ _ _ channel.ranks.items _ k refl c.rank_at-rank.ensures c.deref.ensures.value refl)

-- around one that names none
in-rank : (around : Around) (c : Channel) (rank : ℕ)
    → ((which : Kind) → latest_of around.bank.now which ≡ option_and_then (λ (x : Rank). latest_of x.within which) (slice_get c.ranks.items rank))
    → ((which : Kind) → latest_of around.group.now which ≡ option_and_then (λ (x : Rank). latest_of x.within which) (slice_get c.ranks.items rank))
    → around.other_groups.now ≡ nothing
    → ((which : Kind) → latest_of around.rank.now which ≡ option_and_then (λ (x : Rank). latest_of x.within which) (slice_get c.ranks.items rank))
    → ((which : Kind) → latest_of around.other_ranks.now which ≡ option_and_then (λ (x : Rank). latest_of x.across which) (slice_get c.ranks.items rank))
    → (scope : Scope) (which : Kind) → latest_of (latest_at around scope) which ≡ kept c scope which rank None
unfolding kept
in-rank around c rank own group others state ranks InBank which = own which
in-rank around c rank own group others state ranks InGroup which = group which
in-rank around c rank own group others state ranks AcrossGroups which = ap (λ l. latest_of l which) others ∙ latest_of-nothing which
in-rank around c rank own group others state ranks InRank which = state which
in-rank around c rank own group others state ranks AcrossRanks which = ranks which

around-rank : (around : Around) (c : Channel) (rank own_rank : ℕ) (named : Option BankId) → rank ≡ own_rank → named ≡ None
    → ((which : Kind) → latest_of around.bank.now which ≡ option_and_then (λ (x : Rank). latest_of x.within which) (slice_get c.ranks.items rank))
    → ((which : Kind) → latest_of around.group.now which ≡ option_and_then (λ (x : Rank). latest_of x.within which) (slice_get c.ranks.items rank))
    → around.other_groups.now ≡ nothing
    → ((which : Kind) → latest_of around.rank.now which ≡ option_and_then (λ (x : Rank). latest_of x.within which) (slice_get c.ranks.items rank))
    → ((which : Kind) → latest_of around.other_ranks.now which ≡ option_and_then (λ (x : Rank). latest_of x.across which) (slice_get c.ranks.items rank))
    → IsAround around c own_rank named
around-rank around c rank own_rank named same e own group others state ranks =
    record { each = λ scope which. in-rank around c rank own group others state ranks scope which ∙ (λ x. kept c scope which (same x) (sym e x)) }

pub returns-in-None : goal.returns-in-None
returns-in-None c =
    let items = c.args.channel.now.ranks.items in
    let within = λ (k : Kind). read (λ (x : Rank). x.within) c.rank_at-rank.result.now.within _ _ _ items _ k refl c.rank_at-rank.ensures c.deref.ensures.value refl in
    around-rank _ c.args.channel.now c.rank.result _ _ c.rank.ensures (sym c.in-None.ensures) within within refl within
    (λ k. read (λ (x : Rank). x.across) _ _ _ _ items _ k refl c.rank_at-rank.ensures c.deref.ensures.value refl)
