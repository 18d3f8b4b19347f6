-- The gaps between column commands keep their data apart on the bus.
use Rattle.std.proofs.Common.{◌≡◌, ℕ, zero, suc, ◌+◌, ◌<◌, ◌≤◌, Bool, true, false, leb, ◌||◌, cond, List, [], ◌∷◌, ◌++◌, length, Option, Some, None, refl, sym, ap, subst, ◌∙◌, arith}
use Rattle.std.specs.Prelude.{count_by, not}
use Rattle.std.specs.List.{list_all, cons_option}
use Rattle.std.proofs.lemmas.Bool.{false≢true, leb-true, and_parts}
use Rattle.std.proofs.lemmas.Bool.Decides.{nat_tests}
use Rattle.std.proofs.lemmas.List.{append-nil}
use Rattle.sim_base.specs.declared.config.Config.{Config}
use Rattle.sim_base.specs.declared.command.Kind.{Kind}
use Rattle.sim_base.specs.declared.command.Kind.TheVariants as kind
use Rattle.sim_base.specs.declared.command.Relation.{Relation}
use Rattle.sim_base.specs.declared.command.Relation.TheVariants.{SameBank, SameGroup, OtherGroup, OtherRank}
use Rattle.sim_base.specs.declared.command.Command.{Command}
use Rattle.sim_base.specs.declared.command.Command.TheVariants.{Act, Rd, Wr, Pre, Prea, Ref}
use Rattle.sim_base.specs.declared.command.IssuedCommand.{IssuedCommand}
use Rattle.sim_base.specs.Rules.{is_bound, gap, is_past_gap, is_allowed, finds_its_banks, is_legal, kind_of, relation_of}
use Rattle.sim_base.specs.History.{steps_of_channel, issued_at, issued_commands}
use Rattle.sim_base.specs.Machine.{run}
use Rattle.sim_base.specs.declared.trace.Entry.{Entry}
use Rattle.sim_base.proofs.Ordered.{Each-weaker}
use Rattle.sim_base.proofs.Lists.{count-push}
use Rattle.laws.specs.Commands.{channel_steps_of, history_of}
use Rattle.laws.specs.DataBus.{is_in_burst, has_data_in, moves_data_in, BurstsDoNotOverlap}
use Rattle.laws.proofs.Counting.{count-none, Each-list_all}
use Rattle.statistics.proofs.ChannelCounts.{issued_commands-push}
use Rattle.laws.proofs.Legal.{chosen, channel_steps_of-more, IsLegalStep, legal_step}

-- an earlier command at a cycle does not hold back a later one now
abbrev IsPast : Config → Kind → Kind → Relation → ℕ → ℕ → Type 0
IsPast s a b relation at now = (not (is_bound s.timing a b relation) || leb (at + gap s.timing a b relation) now) ≡ true

read_read : (s : Config) (relation : Relation) (at now : ℕ) → IsPast s kind.Rd kind.Rd relation at now → at + 4 ≤ now
unfolding is_bound gap
read_read s SameBank at now h = let e = leb-true _ _ h in let f = s.distances_fit in omega arith
read_read s SameGroup at now h = let e = leb-true _ _ h in let f = s.distances_fit in omega arith
read_read s OtherGroup at now h = let e = leb-true _ _ h in let f = s.distances_fit in omega arith
read_read s OtherRank at now h = let e = leb-true _ _ h in let f = s.distances_fit in omega arith

write_write : (s : Config) (relation : Relation) (at now : ℕ) → IsPast s kind.Wr kind.Wr relation at now → at + 4 ≤ now
unfolding is_bound gap
write_write s SameBank at now h = let e = leb-true _ _ h in let f = s.distances_fit in omega arith
write_write s SameGroup at now h = let e = leb-true _ _ h in let f = s.distances_fit in omega arith
write_write s OtherGroup at now h = let e = leb-true _ _ h in let f = s.distances_fit in omega arith
write_write s OtherRank at now h = let e = leb-true _ _ h in let f = s.distances_fit in omega arith

read_write : (s : Config) (relation : Relation) (at now : ℕ) → IsPast s kind.Rd kind.Wr relation at now → at + s.timing.n_cl + 4 ≤ now + s.timing.n_cwl
unfolding is_bound gap
read_write s SameBank at now h = let e = leb-true _ _ h in let f = s.distances_fit in omega arith
read_write s SameGroup at now h = let e = leb-true _ _ h in let f = s.distances_fit in omega arith
read_write s OtherGroup at now h = let e = leb-true _ _ h in let f = s.distances_fit in omega arith
read_write s OtherRank at now h = let e = leb-true _ _ h in let f = s.distances_fit in omega arith

write_read : (s : Config) (relation : Relation) (at now : ℕ) → IsPast s kind.Wr kind.Rd relation at now → at + s.timing.n_cwl + 4 ≤ now + s.timing.n_cl
unfolding is_bound gap
write_read s SameBank at now h = let e = leb-true _ _ h in let f = s.distances_fit in omega arith
write_read s SameGroup at now h = let e = leb-true _ _ h in let f = s.distances_fit in omega arith
write_read s OtherGroup at now h = let e = leb-true _ _ h in let f = s.distances_fit in omega arith
write_read s OtherRank at now h = let e = leb-true _ _ h in let f = s.distances_fit in omega arith

bursts_apart : (first second cycle : ℕ) → first + 4 ≤ second → is_in_burst first cycle ≡ true → is_in_burst second cycle ≡ false
bursts_apart first second cycle l h = grind (arith, nat_tests)

-- two commands of which the one does not hold back the other do not have data on the bus in one cycle
apart : (s : Config) (relation : Relation) (at now cycle : ℕ) (a b : Command) → IsPast s (kind_of a) (kind_of b) relation at now
    → moves_data_in s.timing cycle at a ≡ true → moves_data_in s.timing cycle now b ≡ false
apart s relation at now cycle (Rd _ _ _ _) (Rd _ _ _ _) p h = bursts_apart _ _ cycle (let l = read_read s relation at now p in omega arith) h
apart s relation at now cycle (Rd _ _ _ _) (Wr _ _ _ _) p h = bursts_apart _ _ cycle (read_write s relation at now p) h
apart s relation at now cycle (Wr _ _ _ _) (Rd _ _ _ _) p h = bursts_apart _ _ cycle (write_read s relation at now p) h
apart s relation at now cycle (Wr _ _ _ _) (Wr _ _ _ _) p h = bursts_apart _ _ cycle (let l = write_write s relation at now p in omega arith) h
apart s relation at now cycle (Act _ _ _) b p h = absurd (false≢true h)
apart s relation at now cycle (Pre _ _) b p h = absurd (false≢true h)
apart s relation at now cycle (Prea _) b p h = absurd (false≢true h)
apart s relation at now cycle (Ref _) b p h = absurd (false≢true h)
apart s relation at now cycle a (Act _ _ _) p h = refl
apart s relation at now cycle a (Pre _ _) p h = refl
apart s relation at now cycle a (Prea _) p h = refl
apart s relation at now cycle a (Ref _) p h = refl

past_apart : (s : Config) (now cycle : ℕ) (command : Command) (i : IssuedCommand) → is_past_gap s.timing now command i ≡ true
    → has_data_in s.timing cycle i ≡ true → moves_data_in s.timing cycle now command ≡ false
unfolding is_past_gap
past_apart s now cycle command i p h = apart s (relation_of i.command command) i.cycle now cycle i.command command p h

keeps_past : (s : Config) (history : List IssuedCommand) (now : ℕ) (command : Command) → is_legal s history now command ≡ true
    → list_all (is_past_gap s.timing now command) history ≡ true
unfolding is_legal is_allowed
keeps_past s history now command h = (and_parts _ _ (and_parts (finds_its_banks s history command) (is_allowed s.timing history now command) h).1).0

-- a legal command that has data on the bus in a cycle is the only one
free_bus : (s : Config) (cycle now : ℕ) (command : Command) (history : List IssuedCommand) → is_legal s history now command ≡ true
    → moves_data_in s.timing cycle now command ≡ true → count_by (has_data_in s.timing cycle) history ≡ 0
free_bus s cycle now command history h k =
    count-none (has_data_in s.timing cycle) history
    (Each-weaker _ (λ i. has_data_in s.timing cycle i ≡ false)
    (λ i p. cases_from i p (has_data_in s.timing cycle i) refl)
    history (Each-list_all (is_past_gap s.timing now command) history (keeps_past s history now command h)))
  where
    cases_from : (i : IssuedCommand) → is_past_gap s.timing now command i ≡ true → (b : Bool) → has_data_in s.timing cycle i ≡ b → has_data_in s.timing cycle i ≡ false
    cases_from i p true e = absurd (false≢true (sym (past_apart s now cycle command i p e) ∙ k))
    cases_from i p false e = e

-- with one command more, that is legal, the bus is still shared
shared_more : (s : Config) (k cycle : ℕ) (steps : List (Option Command)) (o : Option Command) → IsLegalStep s k steps o
    → count_by (has_data_in s.timing cycle) (issued_commands k steps) ≤ 1 → count_by (has_data_in s.timing cycle) (issued_commands k steps ++ cons_option (issued_at k (length steps) o) []) ≤ 1
unfolding IsLegalStep
shared_more s k cycle steps None h l = subst (λ x. count_by (has_data_in s.timing cycle) x ≤ 1) (sym (append-nil (issued_commands k steps))) l
shared_more s k cycle steps (Some command) h l =
    let history = issued_commands k steps in
    let now = length steps in
    let i : IssuedCommand = record { cycle = now; channel = k; command = command } in
    let e : count_by (has_data_in s.timing cycle) (history ++ i ∷ []) ≡ count_by (has_data_in s.timing cycle) history + cond (moves_data_in s.timing cycle now command) 1 0 = count-push (has_data_in s.timing cycle) history i in
    go (moves_data_in s.timing cycle now command) refl e
  where
    go : (b : Bool) → moves_data_in s.timing cycle (length steps) command ≡ b
        → count_by (has_data_in s.timing cycle) (issued_commands k steps ++ record { cycle = length steps; channel = k; command = command } ∷ []) ≡ count_by (has_data_in s.timing cycle) (issued_commands k steps) + cond b 1 0
        → count_by (has_data_in s.timing cycle) (issued_commands k steps ++ record { cycle = length steps; channel = k; command = command } ∷ []) ≤ 1
    go true f e = let z = free_bus s cycle (length steps) command (issued_commands k steps) h f in omega arith
    go false f e = omega arith

bus_shared : (s : Config) (traces : List (List Entry)) (k cycle : ℕ) → k < s.channels → (n : ℕ) → count_by (has_data_in s.timing cycle) (history_of s traces n k) ≤ 1
unfolding run steps_of_channel issued_commands
bus_shared s traces k cycle l zero = omega arith
bus_shared s traces k cycle l (suc n) =
    let steps = channel_steps_of s traces n k in
    subst (λ x. count_by (has_data_in s.timing cycle) x ≤ 1) (sym (ap (issued_commands k) (channel_steps_of-more s traces n k l) ∙ issued_commands-push k steps (chosen s traces n k)))
    (shared_more s k cycle steps (chosen s traces n k) (legal_step s traces k n) (bus_shared s traces k cycle l n))

pub bursts_do_not_overlap : (s : Config) (traces : List (List Entry)) (n : ℕ) → BurstsDoNotOverlap s traces n
bursts_do_not_overlap s traces n k cycle l = bus_shared s traces k cycle l n
