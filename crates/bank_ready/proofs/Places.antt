-- How banks lie to the one with a number, and what a word is raised to by that.
use Rattle.std.proofs.Common.{◌≡◌, ℕ, ◌/◌, ◌%◌, ◌≤◌, Bool, true, false, ◌&&◌, cond, eqb, max, refl, sym, ap, ◌∙◌, arith}
use Rattle.std.proofs.lemmas.Bool.{false_from_ne_true}
use Rattle.sim_base.specs.declared.place.BankId.{BankId}
use Rattle.sim_base.specs.declared.command.Relation.{Relation}
use Rattle.sim_base.specs.declared.command.Relation.TheVariants.{SameBank, SameGroup, OtherGroup, OtherRank}
use Rattle.sim_base.specs.Places.{is_bank, bank_at}
use Rattle.sim_base.proofs.Lists.{eqb-swap}
use Rattle.sim_base.proofs.Banks.{is_bank_parts}
use Rattle.bank_ready.specs.Words.{relation_from, group_relation_from}

pub no_group : (bank : BankId) (k : ℕ) → 4 ≤ bank.group → false ≡ is_bank (bank_at k) bank
no_group bank k g = sym (false_from_ne_true (is_bank (bank_at k) bank) (λ e. let parts = is_bank_parts bank k e in omega (arith, parts.1)))

pub no_bank : (bank : BankId) (k : ℕ) → 4 ≤ bank.bank → false ≡ is_bank (bank_at k) bank
no_bank bank k b = sym (false_from_ne_true (is_bank (bank_at k) bank) (λ e. let parts = is_bank_parts bank k e in omega (arith, parts.2)))

-- The relation to a bank by the three tests, and to a group by two, for a word that is raised in parts.
by_tests : (A B C : Bool) → Relation
by_tests A B C = cond A (cond B (cond C SameBank SameGroup) OtherGroup) OtherRank

group_by_tests : (A B : Bool) → Relation
group_by_tests A B = cond A (cond B SameGroup OtherGroup) OtherRank

own_tests : (f : Relation → ℕ) (A B C : Bool) → f SameGroup ≡ 0 → f OtherGroup ≡ 0 → f OtherRank ≡ 0
    → cond ((A && B) && C) (f SameBank) 0 ≡ f (by_tests A B C)
unfolding by_tests
own_tests f true true true g o r = refl
own_tests f true true false g o r = sym g
own_tests f true false C g o r = sym o
own_tests f false B C g o r = sym r

column_tests : (f : Relation → ℕ) (A B : Bool) → cond A (cond B (f SameGroup) (f OtherGroup)) (f OtherRank) ≡ f (group_by_tests A B)
unfolding group_by_tests
column_tests f true true = refl
column_tests f true false = refl
column_tests f false B = refl

act_tests : (f : Relation → ℕ) (A B : Bool) (x end : ℕ) → f OtherRank ≡ 0
    → max x (cond A (cond B (max (f SameGroup) end) (max (f OtherGroup) end)) 0) ≡ max x (max (f (group_by_tests A B)) (cond A end 0))
unfolding group_by_tests
act_tests f true true x end r = refl
act_tests f true false x end r = refl
act_tests f false B x end r = omega arith

-- the tests of `is_bank`, eqb-swap round
is_bank_turned : (bank : BankId) (k : ℕ) → is_bank (bank_at k) bank ≡ ((eqb bank.rank (k / 16) && eqb bank.group (k / 4 % 4)) && eqb bank.bank (k % 4))
is_bank_turned bank k = λ i. (eqb-swap (k / 16) bank.rank i && eqb-swap (k / 4 % 4) bank.group i) && eqb-swap (k % 4) bank.bank i

-- A word is raised by the bank's own command alone.
pub own_raised : (f : Relation → ℕ) (bank : BankId) (k : ℕ) → f SameGroup ≡ 0 → f OtherGroup ≡ 0 → f OtherRank ≡ 0
    → cond (is_bank (bank_at k) bank) (f SameBank) 0 ≡ f (relation_from bank k)
unfolding by_tests
own_raised f bank k g o r =
    ap (λ b. cond b (f SameBank) 0) (is_bank_turned bank k)
    ∙ own_tests f (eqb bank.rank (k / 16)) (eqb bank.group (k / 4 % 4)) (eqb bank.bank (k % 4)) g o r

-- A group's word is raised by the commands of each rank.
pub column_raised : (f : Relation → ℕ) (bank : BankId) (k x : ℕ)
    → max x (cond (eqb bank.rank (k / 4)) (cond (eqb bank.group (k % 4)) (f SameGroup) (f OtherGroup)) (f OtherRank)) ≡ max x (f (group_relation_from bank k))
unfolding group_by_tests
column_raised f bank k x = ap (max x) (column_tests f (eqb bank.rank (k / 4)) (eqb bank.group (k % 4)))

-- A group's word of ACTs is raised by those of the rank, and to the end of a window.
pub act_raised : (f : Relation → ℕ) (bank : BankId) (k x end : ℕ) → f OtherRank ≡ 0
    → max x (cond (eqb bank.rank (k / 4)) (cond (eqb bank.group (k % 4)) (max (f SameGroup) end) (max (f OtherGroup) end)) 0)
    ≡ max x (max (f (group_relation_from bank k)) (cond (eqb bank.rank (k / 4)) end 0))
unfolding group_by_tests
act_raised f bank k x end r = act_tests f (eqb bank.rank (k / 4)) (eqb bank.group (k % 4)) x end r

-- the rank of a group is that of its banks
pub group_rank : (k : ℕ) → k / 4 / 4 ≡ k / 16
group_rank k = omega arith

column_joint_tests : (f : Relation → ℕ) (A B C : Bool) → f SameBank ≡ f SameGroup → f (group_by_tests A B) ≡ f (by_tests A B C)
unfolding by_tests group_by_tests
column_joint_tests f true true true e = sym e
column_joint_tests f true true false e = refl
column_joint_tests f true false C e = refl
column_joint_tests f false B C e = refl

act_joint_tests : (f : Relation → ℕ) (A B C : Bool) (end : ℕ) → f SameGroup ≤ f SameBank → f OtherRank ≡ 0
    → max (cond ((A && B) && C) (f SameBank) 0) (max (f (group_by_tests A B)) (cond A end 0)) ≡ max (f (by_tests A B C)) (cond A end 0)
unfolding by_tests group_by_tests
act_joint_tests f true true true end le r = omega arith
act_joint_tests f true true false end le r = omega arith
act_joint_tests f true false C end le r = omega arith
act_joint_tests f false B C end le r = omega arith

-- Where a command holds back its own bank as its group, it holds back each bank as its group.
pub column_joint : (f : Relation → ℕ) (bank : BankId) (k : ℕ) → f SameBank ≡ f SameGroup → f (group_relation_from bank (k / 4)) ≡ f (relation_from bank k)
unfolding by_tests group_by_tests
column_joint f bank k e =
    ap (λ (r : ℕ). f (group_by_tests (eqb bank.rank r) (eqb bank.group (k / 4 % 4)))) (group_rank k)
    ∙ column_joint_tests f (eqb bank.rank (k / 16)) (eqb bank.group (k / 4 % 4)) (eqb bank.bank (k % 4)) e

-- An ACT holds back its own bank longer than its group, and each other bank as its group.
pub act_joint : (f : Relation → ℕ) (bank : BankId) (k end : ℕ) → f SameGroup ≤ f SameBank → f OtherRank ≡ 0
    → max (cond (is_bank (bank_at k) bank) (f SameBank) 0) (max (f (group_relation_from bank (k / 4))) (cond (eqb bank.rank (k / 4 / 4)) end 0))
    ≡ max (f (relation_from bank k)) (cond (eqb bank.rank (k / 16)) end 0)
unfolding by_tests group_by_tests
act_joint f bank k end le r =
    ap (λ (n : ℕ). max (cond (is_bank (bank_at k) bank) (f SameBank) 0) (max (f (group_by_tests (eqb bank.rank n) (eqb bank.group (k / 4 % 4)))) (cond (eqb bank.rank n) end 0))) (group_rank k)
    ∙ ap (λ b. max (cond b (f SameBank) 0) (max (f (group_by_tests (eqb bank.rank (k / 16)) (eqb bank.group (k / 4 % 4)))) (cond (eqb bank.rank (k / 16)) end 0))) (is_bank_turned bank k)
    ∙ act_joint_tests f (eqb bank.rank (k / 16)) (eqb bank.group (k / 4 % 4)) (eqb bank.bank (k % 4)) end le r
