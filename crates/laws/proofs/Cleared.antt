-- When a rank may be precharged and refreshed.
use Rattle.std.proofs.Common.{◌≡◌, ℕ, ◌+◌, ◌≤◌, Bool, true, false, ◌&&◌, ◌||◌, cond, eqb, leb, List, [], ◌∷◌, ◌++◌, max, refl, ap, ap₂, ◌∙◌, arith}
use Rattle.std.specs.Prelude.{not, is_some}
use Rattle.std.specs.List.{AllByRecursion as Each, list_all, list_any}
use Rattle.std.proofs.lemmas.Bool.{cond-true, le-leb, eqb-true, eq-eqb, cond_both}
use Rattle.sim_base.specs.declared.config.Config.{Config}
use Rattle.sim_base.specs.declared.timing.Timing.{Timing}
use Rattle.sim_base.specs.declared.command.Kind.{Kind}
use Rattle.sim_base.specs.declared.command.Kind.TheVariants as kind
use Rattle.sim_base.specs.declared.command.Relation.{Relation}
use Rattle.sim_base.specs.declared.command.Relation.TheVariants.{SameBank, OtherRank}
use Rattle.sim_base.specs.declared.command.Command.{Command}
use Rattle.sim_base.specs.declared.command.Command.TheVariants.{Act, Rd, Wr, Pre, Prea, Ref}
use Rattle.sim_base.specs.declared.command.IssuedCommand.{IssuedCommand}
use Rattle.sim_base.specs.declared.place.BankId.{BankId}
use Rattle.sim_base.proofs.Each.{list_all-each}
use Rattle.sim_base.proofs.Ordered.{Each-weaker}
use Rattle.sim_base.specs.History.{below}
use Rattle.sim_base.specs.Rules.{is_bound, gap, kind_of, relation_of, is_past_gap, is_allowed, is_open, has_open_bank_in_group, has_open_bank, is_legal}
use Rattle.sim_base.proofs.OpenRows.{open_row-push}

-- the longest that a rank's banks can hold a precharge of all of them back
abbrev pub close_wait : Timing → ℕ
close_wait t = max t.n_ras (max t.n_rtp (t.n_cwl + 4 + t.n_wr))

-- a command at a cycle lets a precharge of a rank be issued now
abbrev pub LetsClose : Timing → ℕ → ℕ → ℕ → Command → Type 0
LetsClose t rank now at (Act bank row source) = at + close_wait t ≤ now
LetsClose t rank now at (Rd bank row column source) = at + close_wait t ≤ now
LetsClose t rank now at (Wr bank row column source) = at + close_wait t ≤ now
LetsClose t rank now at (Pre bank source) = Unit {0}
LetsClose t rank now at (Prea other) = Unit {0}
LetsClose t rank now at (Ref other) = other ≡ rank → at + t.n_rfc ≤ now

-- a command at a cycle lets a refresh of a rank be issued now
abbrev pub LetsRefresh : Timing → ℕ → ℕ → ℕ → Command → Type 0
LetsRefresh t rank now at (Act bank row source) = Unit {0}
LetsRefresh t rank now at (Rd bank row column source) = Unit {0}
LetsRefresh t rank now at (Wr bank row column source) = Unit {0}
LetsRefresh t rank now at (Pre bank source) = at + t.n_rp ≤ now
LetsRefresh t rank now at (Prea other) = other ≡ rank → at + t.n_rp ≤ now
LetsRefresh t rank now at (Ref other) = other ≡ rank → at + t.n_rfc ≤ now

-- a later command of a whole rank is past an earlier one
past_gap : Timing → ℕ → ℕ → Kind → Kind → Relation → Bool
past_gap t at now a b relation = not (is_bound t a b relation) || leb (at + gap t a b relation) now

-- an earlier command with a bank, and a later one with none
with_bank : (t : Timing) (at now : ℕ) (a b : Kind) (bank : BankId) (rank : ℕ) → past_gap t at now a b SameBank ≡ true → past_gap t at now a b OtherRank ≡ true
    → past_gap t at now a b (cond (eqb bank.rank rank) SameBank OtherRank) ≡ true
with_bank t at now a b bank rank h k = cond_both (eqb bank.rank rank) SameBank OtherRank (λ relation. past_gap t at now a b relation ≡ true) (λ e. h) (λ e. k)

close-past : (t : Timing) (rank now at : ℕ) (a : Command) → LetsClose t rank now at a → past_gap t at now (kind_of a) kind.Prea (relation_of a (Prea rank)) ≡ true
unfolding past_gap is_bound gap
close-past t rank now at (Act bank row source) h = with_bank t at now kind.Act kind.Prea bank rank (le-leb _ _ (omega arith)) refl
close-past t rank now at (Rd bank row column source) h = with_bank t at now kind.Rd kind.Prea bank rank (le-leb _ _ (omega arith)) refl
close-past t rank now at (Wr bank row column source) h = with_bank t at now kind.Wr kind.Prea bank rank (le-leb _ _ (omega arith)) refl
close-past t rank now at (Pre bank source) h = with_bank t at now kind.Pre kind.Prea bank rank refl refl
close-past t rank now at (Prea other) h = cond_both (eqb other rank) SameBank OtherRank (λ relation. past_gap t at now kind.Prea kind.Prea relation ≡ true) (λ e. refl) (λ e. refl)
close-past t rank now at (Ref other) h =
    cond_both (eqb other rank) SameBank OtherRank (λ relation. past_gap t at now kind.Ref kind.Prea relation ≡ true) (λ e. le-leb _ _ (let l = h (eqb-true _ _ e) in omega arith)) (λ e. refl)

refresh-past : (t : Timing) (rank now at : ℕ) (a : Command) → LetsRefresh t rank now at a → past_gap t at now (kind_of a) kind.Ref (relation_of a (Ref rank)) ≡ true
unfolding past_gap is_bound gap
refresh-past t rank now at (Act bank row source) h = with_bank t at now kind.Act kind.Ref bank rank refl refl
refresh-past t rank now at (Rd bank row column source) h = with_bank t at now kind.Rd kind.Ref bank rank refl refl
refresh-past t rank now at (Wr bank row column source) h = with_bank t at now kind.Wr kind.Ref bank rank refl refl
refresh-past t rank now at (Pre bank source) h = with_bank t at now kind.Pre kind.Ref bank rank (le-leb _ _ (omega arith)) refl
refresh-past t rank now at (Prea other) h =
    cond_both (eqb other rank) SameBank OtherRank (λ relation. past_gap t at now kind.Prea kind.Ref relation ≡ true) (λ e. le-leb _ _ (let l = h (eqb-true _ _ e) in omega arith)) (λ e. refl)
refresh-past t rank now at (Ref other) h =
    cond_both (eqb other rank) SameBank OtherRank (λ relation. past_gap t at now kind.Ref kind.Ref relation ≡ true) (λ e. le-leb _ _ (let l = h (eqb-true _ _ e) in omega arith)) (λ e. refl)

-- where each earlier command lets it, a rank's banks can all be closed now
pub close-legal : (s : Config) (history : List IssuedCommand) (now rank : ℕ) → Each (λ (i : IssuedCommand). LetsClose s.timing rank now i.cycle i.command) history
    → is_legal s history now (Prea rank) ≡ true
unfolding is_legal is_allowed is_past_gap past_gap
close-legal s history now rank h =
    ap (λ b. b && true)
    (list_all-each (is_past_gap s.timing now (Prea rank)) history
    (Each-weaker _ (λ i. is_past_gap s.timing now (Prea rank) i ≡ true) (λ i k. close-past s.timing rank now i.cycle i.command k) history h))

-- where each earlier command lets it, a rank with no open bank can be refreshed now
pub refresh-legal : (s : Config) (history : List IssuedCommand) (now rank : ℕ) → has_open_bank s history rank ≡ false → Each (λ (i : IssuedCommand). LetsRefresh s.timing rank now i.cycle i.command) history
    → is_legal s history now (Ref rank) ≡ true
unfolding is_legal is_allowed is_past_gap past_gap
refresh-legal s history now rank closed h =
    ap (λ b. not b && (list_all (is_past_gap s.timing now (Ref rank)) history && true)) closed
    ∙ ap (λ b. b && true)
    (list_all-each (is_past_gap s.timing now (Ref rank)) history
    (Each-weaker _ (λ i. is_past_gap s.timing now (Ref rank) i ≡ true) (λ i k. refresh-past s.timing rank now i.cycle i.command k) history h))

list_any-none : {X : Type 0} (p : X → Bool) → ((x : X) → p x ≡ false) → (xs : List X) → list_any p xs ≡ false
list_any-none p h [] = refl
list_any-none p h (x ∷ xs) = ap₂ (λ a b. a || b) (h x) (list_any-none p h xs)

list_any-same : {X : Type 0} (p q : X → Bool) → ((x : X) → p x ≡ q x) → (xs : List X) → list_any p xs ≡ list_any q xs
list_any-same p q h [] = refl
list_any-same p q h (x ∷ xs) = ap₂ (λ a b. a || b) (h x) (list_any-same p q h xs)

-- a precharge of all banks leaves none open
pub closed-prea : (s : Config) (history : List IssuedCommand) (rank cycle channel : ℕ)
    → has_open_bank s (history ++ record { cycle = cycle; channel = channel; command = Prea rank } ∷ []) rank ≡ false
unfolding has_open_bank
closed-prea s history rank cycle channel =
    let i : IssuedCommand = record { cycle = cycle; channel = channel; command = Prea rank } in
    list_any-none (has_open_bank_in_group (history ++ i ∷ []) rank)
    (λ group. list_any-none (λ bank. is_open (history ++ i ∷ []) (record { rank = rank; group = group; bank = bank }))
    (λ bank. ap is_some (open_row-push (record { rank = rank; group = group; bank = bank }) history i ∙ cond-true _ _ _ (eq-eqb rank rank refl))) (below 4))
    (below s.groups)

-- a refresh opens none
pub closed-ref : (s : Config) (history : List IssuedCommand) (rank other cycle channel : ℕ)
    → has_open_bank s (history ++ record { cycle = cycle; channel = channel; command = Ref other } ∷ []) rank ≡ has_open_bank s history rank
unfolding has_open_bank
closed-ref s history rank other cycle channel =
    let i : IssuedCommand = record { cycle = cycle; channel = channel; command = Ref other } in
    list_any-same (has_open_bank_in_group (history ++ i ∷ []) rank) (has_open_bank_in_group history rank)
    (λ group. list_any-same (λ bank. is_open (history ++ i ∷ []) (record { rank = rank; group = group; bank = bank })) (λ bank. is_open history (record { rank = rank; group = group; bank = bank }))
    (λ bank. ap is_some (open_row-push (record { rank = rank; group = group; bank = bank }) history i)) (below 4))
    (below s.groups)
