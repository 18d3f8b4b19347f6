-- The command that a channel chooses is legal, and a request of its queue needs it, or a refresh.
use Rattle.std.proofs.Common.{◌≡◌, ℕ, Bool, true, List, [], ◌∷◌, length, Option, Some, None}
use Rattle.std.specs.Prelude.{find, option_map, not}
use Rattle.std.specs.Option.{IfSome}
use Rattle.std.specs.List.{AllByRecursion as Each}
use Rattle.std.proofs.lemmas.Bool.{cond_both, and_parts}
use Rattle.sim_base.specs.declared.config.Config.{Config}
use Rattle.sim_base.specs.Places.{bank_in}
use Rattle.sim_base.specs.History.{issued_commands}
use Rattle.sim_base.specs.Rules.{is_legal, open_row, has_open_bank}
use Rattle.sim_base.specs.Scheduling.{needed_at, needed, is_column_command, is_withheld, ready_hit, ready_row, first_ready, or_else, if_legal, refresh_command, choice_between, drains, lowest_due, queue_in, choice}
use Rattle.sim_base.specs.declared.command.Command.{Command}
use Rattle.sim_base.specs.declared.command.Command.TheVariants.{Prea, Ref}
use Rattle.sim_base.specs.declared.command.IssuedCommand.{IssuedCommand}
use Rattle.sim_base.specs.declared.message.Message.{Message}
use Rattle.sim_base.specs.declared.message.Request.{Request}
use Rattle.sim_base.proofs.Each.{IfSome-find}
use Rattle.sim_base.proofs.Served.{or_else-each, candidates-each}
use Rattle.std.proofs.lemmas.Option.{IfSome_then}

pub find-passes : {X : Type 0} (p : X → Bool) (xs : List X) → IfSome (find p xs) (λ x. p x ≡ true)
find-passes p [] = tt
find-passes p (x ∷ xs) = cond_both (p x) (Some x) (find p xs) (λ o. IfSome o (λ y. p y ≡ true)) (λ e. e) (λ e. find-passes p xs)

pub IfSome-option_map : {X Y : Type 0} (P : Y → Type 0) (f : X → Y) (o : Option X) → IfSome o (λ x. P (f x)) → IfSome (option_map f o) P
IfSome-option_map P f None h = tt
IfSome-option_map P f (Some x) h = h

-- a command is legal now
abbrev pub IsLegalNow : Config → List IssuedCommand → ℕ → Command → Type 0
IsLegalNow s history now command = is_legal s history now command ≡ true

hit-legal : (s : Config) (history : List IssuedCommand) (now : ℕ) (r : Request) → ready_hit s history now r ≡ true → IsLegalNow s history now (needed history r)
unfolding ready_hit
hit-legal s history now r h = (and_parts (is_column_command (needed history r)) (is_legal s history now (needed history r)) h).1

row-legal : (s : Config) (history : List IssuedCommand) (now : ℕ) (requests : List Request) (r : Request) → ready_row s history now requests r ≡ true → IsLegalNow s history now (needed history r)
unfolding ready_row
row-legal s history now requests r h =
    let legal = is_legal s history now (needed history r) in
    (and_parts (not (is_column_command (needed history r))) legal (and_parts _ (not (is_withheld history requests (needed history r))) h).0).1

first_ready-legal : (s : Config) (history : List IssuedCommand) (now : ℕ) (requests : List Request) → IfSome (first_ready s history now requests) (IsLegalNow s history now)
unfolding first_ready
first_ready-legal s history now requests =
    let wanted = λ (r : Request). IsLegalNow s history now (needed history r) in
    IfSome-option_map (IsLegalNow s history now) (needed history) _
    (or_else-each wanted (find (ready_hit s history now) requests) (find (ready_row s history now requests) requests)
    (IfSome_then _ (find-passes (ready_hit s history now) requests) (hit-legal s history now))
    (IfSome_then _ (find-passes (ready_row s history now requests) requests) (row-legal s history now requests)))

if_legal-legal : (s : Config) (history : List IssuedCommand) (now : ℕ) (command : Command) → IfSome (if_legal s history now command) (IsLegalNow s history now)
unfolding if_legal
if_legal-legal s history now command = cond_both (is_legal s history now command) (Some command) None (λ o. IfSome o (IsLegalNow s history now)) (λ e. e) (λ e. tt)

between-legal : (s : Config) (history : List IssuedCommand) (now : ℕ) (requests : List Request) (due : Option ℕ) → IfSome (choice_between s history now requests due) (IsLegalNow s history now)
unfolding choice_between
between-legal s history now requests None = first_ready-legal s history now requests
between-legal s history now requests (Some rank) = if_legal-legal s history now (refresh_command s history rank)

pub choice-legal : (s : Config) (channel : ℕ) (steps : List (Option Command)) (inbox : List Message)
    → IfSome (choice s channel steps inbox) (IsLegalNow s (issued_commands channel steps) (length steps))
unfolding choice
choice-legal s channel steps inbox =
    between-legal s (issued_commands channel steps) (length steps) _ (lowest_due s (issued_commands channel steps) (length steps))

-- a command that is chosen is one that a request of the queue needs, or it serves a refresh
option_map-needed : (P : Request → Type 0) (Q : Command → Type 0) (history : List IssuedCommand) → ((r : Request) (o : Option ℕ) → P r → Q (needed_at o r))
    → (o : Option Request) → IfSome o P → IfSome (option_map (needed history) o) Q
unfolding needed
option_map-needed P Q history f None h = tt
option_map-needed P Q history f (Some r) h = f r (open_row (bank_in r.place) history) h

between-needed : (P : Request → Type 0) (Q : Command → Type 0) (s : Config) (history : List IssuedCommand) (now : ℕ) (requests : List Request) (due : Option ℕ)
    → ((r : Request) (o : Option ℕ) → P r → Q (needed_at o r)) → ((rank : ℕ) → Q (Prea rank)) → ((rank : ℕ) → Q (Ref rank))
    → Each P requests → IfSome (choice_between s history now requests due) Q
unfolding choice_between first_ready if_legal refresh_command
between-needed P Q s history now requests None f g k h =
    option_map-needed P Q history f _
    (or_else-each P _ _ (IfSome-find P (ready_hit s history now) requests h) (IfSome-find P (ready_row s history now requests) requests h))
between-needed P Q s history now requests (Some rank) f g k h =
    cond_both (is_legal s history now (refresh_command s history rank)) _ _ (λ o. IfSome o Q)
    (λ e. cond_both (has_open_bank s history rank) (Prea rank) (Ref rank) Q (λ d. g rank) (λ d. k rank))
    (λ e. tt)

pub choice-needed : (P : Request → Type 0) (Q : Command → Type 0) (s : Config) (channel : ℕ) (steps : List (Option Command)) (inbox : List Message)
    → ((r : Request) (o : Option ℕ) → P r → Q (needed_at o r)) → ((rank : ℕ) → Q (Prea rank)) → ((rank : ℕ) → Q (Ref rank))
    → Each P (queue_in channel steps inbox (length steps)) → IfSome (choice s channel steps inbox) Q
unfolding choice
choice-needed P Q s channel steps inbox f g k h =
    between-needed P Q s (issued_commands channel steps) (length steps) _ (lowest_due s (issued_commands channel steps) (length steps)) f g k
    (candidates-each P s (drains s channel steps inbox (length steps)) (queue_in channel steps inbox (length steps)) h)

-- what is ready first is one that a request needs
pub first_ready-needed : (Q : Command → Type 0) (s : Config) (history : List IssuedCommand) (now : ℕ) (requests : List Request) → ((r : Request) (o : Option ℕ) → Q (needed_at o r))
    → IfSome (first_ready s history now requests) Q
unfolding first_ready needed
first_ready-needed Q s history now requests f = any_needed (or_else (find (ready_hit s history now) requests) (find (ready_row s history now requests) requests))
  where
    any_needed : (o : Option Request) → IfSome (option_map (λ (r : Request). needed_at (open_row (bank_in r.place) history) r) o) Q
    any_needed None = tt
    any_needed (Some r) = f r (open_row (bank_in r.place) history)
