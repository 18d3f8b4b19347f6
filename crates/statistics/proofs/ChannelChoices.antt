-- A channel issues no ACT for a request that was served: what it chooses is for a request that waits.
use Rattle.std.proofs.Common.{◌≡◌, ℕ, ◌+◌, Bool, true, false, eqb, List, [], ◌∷◌, length, take, Option, Some, None, refl, subst}
use Rattle.std.specs.Prelude.{filter, filter_map, option_map}
use Rattle.std.specs.List.{AllByRecursion as Each}
use Rattle.std.specs.Option.{IfSome}
use Rattle.std.proofs.Math.Seq.{take-length}
use Rattle.std.proofs.lemmas.Bool.{cond_both, and_parts, not-true}
use Rattle.sim_base.proofs.Each.{IfSome-find}
use Rattle.sim_base.proofs.Ordered.{Each-weaker}
use Rattle.sim_base.proofs.Served.{candidates-each, or_else-each}
use Rattle.sim_base.specs.declared.config.Config.{Config}
use Rattle.sim_base.specs.History.{issued_commands}
use Rattle.sim_base.specs.Rules.{is_legal, has_open_bank, open_row}
use Rattle.sim_base.specs.Places.{bank_in}
use Rattle.sim_base.specs.Scheduling.{request_in, source_of, is_served, is_queued, queued_requests, queue_in, column_command, needed_at, needed, ready_hit, ready_row, first_ready, refresh_command, if_legal, choice_between, drains, lowest_due, choice}
use Rattle.sim_base.specs.declared.command.Command.{Command}
use Rattle.sim_base.specs.declared.command.Command.TheVariants.{Pre}
use Rattle.sim_base.specs.declared.command.IssuedCommand.{IssuedCommand}
use Rattle.sim_base.specs.declared.message.Message.{Message}
use Rattle.sim_base.specs.declared.message.Request.{Request}
use Rattle.sim_base.proofs.Accesses.{column_both}
use Rattle.statistics.specs.Channels.{is_late_act}

pub passes : {X : Type 0} (p : X → Bool) (xs : List X) → Each (λ x. p x ≡ true) (filter p xs)
passes p [] = tt
passes p (x ∷ xs) = cond_both (p x) (x ∷ filter p xs) (filter p xs) (Each (λ y. p y ≡ true)) (λ e. (e, passes p xs)) (λ e. passes p xs)

-- a request was not served
abbrev pub Unserved : List IssuedCommand → Request → Type 0
Unserved history r = is_served history r ≡ false

queued_requests-unserved : (history : List IssuedCommand) (inbox : List Message) (until : ℕ) → Each (Unserved history) (queued_requests history inbox until)
unfolding queued_requests
queued_requests-unserved history inbox until =
    let requests = filter_map (λ m. request_in m.payload) inbox in
    Each-weaker (λ (r : Request). is_queued history until r ≡ true) (Unserved history) (λ r e. not-true _ (and_parts _ _ e).1)
    (filter (is_queued history until) requests) (passes (is_queued history until) requests)

pub queue-unserved : (channel : ℕ) (steps : List (Option Command)) (inbox : List Message)
    → Each (Unserved (issued_commands channel steps)) (queue_in channel steps inbox (length steps))
unfolding queue_in
queue-unserved channel steps inbox =
    subst (λ x. Each (Unserved (issued_commands channel x)) (queued_requests (issued_commands channel (take (length steps) steps)) inbox (length steps + 1)))
    (take-length steps) (queued_requests-unserved (issued_commands channel (take (length steps) steps)) inbox (length steps + 1))

needed_at-not_late : (history : List IssuedCommand) (r : Request) → Unserved history r → (row : Option ℕ) → is_late_act history (Some (needed_at row r)) ≡ false
unfolding is_served
needed_at-not_late history r h None = h
needed_at-not_late history r h (Some row) =
    cond_both (eqb row r.place.row) (column_command r) (Pre (bank_in r.place) (source_of r)) (λ c. is_late_act history (Some c) ≡ false)
    (λ e. column_both (λ c. is_late_act history (Some c) ≡ false) r.access _ _ _ _ (λ f. refl) (λ f. refl))
    (λ e. refl)

needed-not_late : (history : List IssuedCommand) (o : Option Request) → IfSome o (Unserved history) → is_late_act history (option_map (needed history) o) ≡ false
unfolding needed
needed-not_late history None h = refl
needed-not_late history (Some r) h = needed_at-not_late history r h (open_row (bank_in r.place) history)

between-not_late : (s : Config) (history : List IssuedCommand) (now : ℕ) (requests : List Request) → Each (Unserved history) requests → (due : Option ℕ)
    → is_late_act history (choice_between s history now requests due) ≡ false
unfolding choice_between first_ready if_legal refresh_command
between-not_late s history now requests h None =
    needed-not_late history _ (or_else-each (Unserved history) _ _ (IfSome-find _ (ready_hit s history now) requests h) (IfSome-find _ (ready_row s history now requests) requests h))
between-not_late s history now requests h (Some rank) =
    cond_both (is_legal s history now (refresh_command s history rank)) _ _ (λ o. is_late_act history o ≡ false)
    (λ e. cond_both (has_open_bank s history rank) _ _ (λ c. is_late_act history (Some c) ≡ false) (λ f. refl) (λ f. refl))
    (λ e. refl)

-- what a channel chooses is no ACT for an entry that was served
pub choice-not_late : (s : Config) (channel : ℕ) (steps : List (Option Command)) (inbox : List Message)
    → is_late_act (issued_commands channel steps) (choice s channel steps inbox) ≡ false
unfolding choice
choice-not_late s channel steps inbox =
    let history = issued_commands channel steps in
    between-not_late s history (length steps) _
    (candidates-each (Unserved history) s (drains s channel steps inbox (length steps)) (queue_in channel steps inbox (length steps)) (queue-unserved channel steps inbox))
    (lowest_due s history (length steps))
