-- The entries on whose behalf ACTs were issued, command by command.
use Rattle.std.proofs.Common.{◌≡◌, ℕ, ◌+◌, ◌<◌, length, take, get_or, Bool, false, not, ◌||◌, ◌&&◌, List, [], refl, sym, ap, ap₂, ◌∙◌}
use Rattle.std.specs.Prelude.{count_by}
use Rattle.std.proofs.Math.Bool.{or-false}
use Rattle.std.proofs.lemmas.Cmp.{nat_eq_equiv}
use Rattle.std.proofs.lemmas.List.Folds.{list_any_more}
use Rattle.sim_base.specs.Counts.{is_act_for, is_hit, hits}
use Rattle.sim_base.specs.declared.command.Command.{Command}
use Rattle.sim_base.specs.declared.command.Command.TheVariants.{Act, Rd, Wr, Pre, Prea, Ref}
use Rattle.sim_base.specs.declared.command.IssuedCommand.{IssuedCommand}
use Rattle.sim_base.proofs.Lists.{count-same}
use Rattle.measures.specs.Hits.{has_act, is_hit_without, with_entry}

hit_same : (commands : List IssuedCommand) (acts : ℕ × ℕ → Bool) → ((q : ℕ × ℕ) → acts q ≡ has_act commands q) → (command : Command) → is_hit_without acts command ≡ is_hit commands command
unfolding has_act
hit_same commands acts same (Act bank row source) = refl
hit_same commands acts same (Rd bank row column source) = ap not (same (source.core, source.entry))
hit_same commands acts same (Wr bank row column source) = ap not (same (source.core, source.entry))
hit_same commands acts same (Pre bank source) = refl
hit_same commands acts same (Prea rank) = refl
hit_same commands acts same (Ref rank) = refl

-- row hits by the entries that had an ACT
pub count_hits : (commands : List IssuedCommand) (acts : ℕ × ℕ → Bool) → ((q : ℕ × ℕ) → acts q ≡ has_act commands q) → count_by (λ i. is_hit_without acts i.command) commands ≡ hits commands
unfolding hits
count_hits commands acts same = count-same (λ i. is_hit_without acts i.command) (λ i. is_hit commands i.command) (λ i. hit_same commands acts same i.command) commands

step : (command : Command) (q : ℕ × ℕ) (before : Bool) → with_entry command q before ≡ (before || is_act_for (record { core = q.0; entry = q.1 }) command)
step (Act bank row source) q before = ap₂ (λ x y. before || (x && y)) (nat_eq_equiv.symm source.core q.0) (nat_eq_equiv.symm source.entry q.1)
step (Rd bank row column source) q before = sym (or-false before)
step (Wr bank row column source) q before = sym (or-false before)
step (Pre bank source) q before = sym (or-false before)
step (Prea rank) q before = sym (or-false before)
step (Ref rank) q before = sym (or-false before)

-- what is known of an entry after one more command
pub one_more : (commands : List IssuedCommand) (i : ℕ) (d : IssuedCommand) (q : ℕ × ℕ) (before : Bool) → i < length commands → before ≡ has_act (take i commands) q
    → with_entry (get_or commands i d).command q before ≡ has_act (take (i + 1) commands) q
unfolding has_act
one_more commands i d q before below is =
    step (get_or commands i d).command q before
    ∙ ap (λ b. b || is_act_for (record { core = q.0; entry = q.1 }) (get_or commands i d).command) is
    ∙ sym (list_any_more (λ c. is_act_for (record { core = q.0; entry = q.1 }) c.command) commands i d below)

-- no ACT was issued yet
pub none_yet : (q : ℕ × ℕ) → has_act [] q ≡ false
unfolding has_act
none_yet q = refl
