-- Cycles in which a channel issues nothing and nothing arrives, but in the first.
use Rattle.std.proofs.Common.{◌≡◌, ℕ, zero, suc, ◌+◌, ◌<◌, ◌≤◌, Bool, true, false, ◌&&◌, ◌||◌, List, [], ◌∷◌, ◌++◌, length, Option, None, refl, sym, ap, ap₂, ◌∙◌, add-one, arith}
use Rattle.std.specs.Prelude.{replicate, count_by, is_some}
use Rattle.std.specs.List.{AllByRecursion as Each}
use Rattle.std.proofs.lemmas.List.{append-nil, append_assoc, replicate_more, length-replicate, length-append}
use Rattle.sim_base.proofs.Added.{channel_messages-push}
use Rattle.sim_base.specs.declared.config.Config.{Config}
use Rattle.sim_base.specs.Access.{is_access}
use Rattle.sim_base.specs.Counts.{has_refresh_due, queue_length}
use Rattle.sim_base.specs.History.{issued_commands, channel_messages}
use Rattle.sim_base.specs.Machine.{channel_run}
use Rattle.sim_base.specs.Scheduling.{queued_requests, drains_with, drains_before, drains, candidates, lowest_due, choice_between, choice}
use Rattle.sim_base.specs.declared.command.Command.{Command}
use Rattle.sim_base.specs.declared.message.Access.TheVariants as access
use Rattle.sim_base.specs.declared.message.Message.{Message}
use Rattle.statistics.proofs.ChannelCounts.{issued_commands-push}
use Rattle.statistics.specs.Channels.{channel_cycle_with, channel_cycle}
use Rattle.channel_step.proofs.Requests.{ArrivedBefore, queued_requests-until}
use Rattle.channel_step.proofs.Spans.{queue-next, drains-next, drains_before-row, choice-next}
use Rattle.channel_step.specs.Past.{carried_requests}
use Rattle.channel_step.specs.Fit.{IsIdle}
use Rattle.channel_step.proofs.Cycle.{has_due-next}

-- the steps of some idle cycles, and one more
pub idle-push : (steps : List (Option Command)) (n : ℕ) → steps ++ replicate (suc n) None ≡ (steps ++ replicate n None) ++ None ∷ []
idle-push steps n =
    ap (λ x. steps ++ x) (ap (λ k. replicate k None) (sym (add-one n)) ∙ sym (replicate_more {X = Option Command} n None))
    ∙ sym (append_assoc steps (replicate n None) (None ∷ []))

pub length-idle : (steps : List (Option Command)) (n : ℕ) → length (steps ++ replicate n None) ≡ length steps + n
length-idle steps n = length-append steps (replicate n None) ∙ ap (λ k. length steps + k) (length-replicate {A = Option Command} n None)

-- idle cycles issue nothing
pub idle-issued : (channel : ℕ) (steps : List (Option Command)) (n : ℕ) → issued_commands channel (steps ++ replicate n None) ≡ issued_commands channel steps
idle-issued channel steps zero = ap (issued_commands channel) (append-nil steps)
idle-issued channel steps (suc n) =
    ap (issued_commands channel) (idle-push steps n)
    ∙ issued_commands-push channel (steps ++ replicate n None) None
    ∙ append-nil _
    ∙ idle-issued channel steps n

-- idle cycles send nothing
pub idle-messages : (s : Config) (channel : ℕ) (steps : List (Option Command)) (n : ℕ) → channel_messages s channel (steps ++ replicate n None) ≡ channel_messages s channel steps
idle-messages s channel steps zero = ap (channel_messages s channel) (append-nil steps)
idle-messages s channel steps (suc n) =
    ap (channel_messages s channel) (idle-push steps n)
    ∙ channel_messages-push s channel (steps ++ replicate n None) None
    ∙ append-nil _
    ∙ idle-messages s channel steps n

-- in each cycle in which the channel issues nothing the same requests wait, since all have arrived
pub idle-queued_requests : (channel : ℕ) (steps : List (Option Command)) (mail : List Message) → Each (ArrivedBefore (length steps + 1)) (carried_requests mail) → (n later : ℕ) → length steps + 1 ≤ later
    → queued_requests (issued_commands channel (steps ++ replicate n None)) mail later ≡ queued_requests (issued_commands channel steps) mail (length steps + 1)
idle-queued_requests channel steps mail h n later l =
    ap (λ x. queued_requests x mail later) (idle-issued channel steps n) ∙ queued_requests-until (issued_commands channel steps) mail (length steps + 1) later l h

pub settled_twice : (a b d : Bool) → (a || ((a || (d && b)) && b)) ≡ (a || (d && b))
settled_twice true b d = refl
settled_twice false true true = refl
settled_twice false true false = refl
settled_twice false false true = refl
settled_twice false false false = refl

-- a drain that goes on or has ended does so in each further cycle with as many writes
pub drains-twice : (s : Config) (draining : Bool) (writes : ℕ) → drains_with s (drains_with s draining writes) writes ≡ drains_with s draining writes
drains-twice s draining writes = settled_twice _ _ draining

-- in each of them the channel drains as in the first
pub idle-drains : (s : Config) (channel : ℕ) (steps : List (Option Command)) (mail : List Message) → Each (ArrivedBefore (length steps + 1)) (carried_requests mail) → (n : ℕ)
    → drains s channel (steps ++ replicate n None) mail (length (steps ++ replicate n None)) ≡ drains s channel steps mail (length steps)
idle-drains s channel steps mail h zero = ap (λ x. drains s channel x mail (length x)) (append-nil steps)
idle-drains s channel steps mail h (suc n) =
    let before = steps ++ replicate n None in
    let more = steps ++ replicate (suc n) None in
    let same : queued_requests (issued_commands channel more) mail (length more + 1) ≡ queued_requests (issued_commands channel before) mail (length before + 1) =
    idle-queued_requests channel steps mail h (suc n) (length more + 1) (omega (arith, length-idle steps (suc n)))
    ∙ sym (idle-queued_requests channel steps mail h n (length before + 1) (omega (arith, length-idle steps n))) in
    let drain_decided : drains_before s channel more mail (length more) ≡ drains s channel before mail (length before) =
    ap (λ x. drains_before s channel x mail (length x)) (idle-push steps n) ∙ drains_before-row s channel before None mail in
    drains-next s channel more mail
    ∙ ap₂ (λ d q. drains_with s d (count_by (λ r. is_access access.Write r.access) q)) (drain_decided ∙ drains-next s channel before mail) same
    ∙ drains-twice s _ _
    ∙ sym (drains-next s channel before mail)
    ∙ idle-drains s channel steps mail h n

-- what the channel would choose in each of them
pub idle-choice : (s : Config) (channel : ℕ) (steps : List (Option Command)) (mail : List Message) → Each (ArrivedBefore (length steps + 1)) (carried_requests mail) → (n : ℕ)
    → choice s channel (steps ++ replicate n None) mail
    ≡ choice_between s (issued_commands channel steps) (length steps + n)
    (candidates s (drains s channel steps mail (length steps)) (queued_requests (issued_commands channel steps) mail (length steps + 1)))
    (lowest_due s (issued_commands channel steps) (length steps + n))
idle-choice s channel steps mail h n =
    let more = steps ++ replicate n None in
    let queue = queued_requests (issued_commands channel steps) mail (length steps + 1) in
    let draining = drains s channel steps mail (length steps) in
    choice-next s channel more mail queue draining
    (idle-queued_requests channel steps mail h n (length more + 1) (omega (arith, length-idle steps n))) (idle-drains s channel steps mail h n)
    ∙ ap₂ (λ x k. choice_between s x k (candidates s draining queue) (lowest_due s x k)) (idle-issued channel steps n) (length-idle steps n)

-- the steps that follow from idle cycles
pub idle-run : (s : Config) (channel : ℕ) (steps : List (Option Command)) (mail : List Message) (n : ℕ) → IsIdle s channel steps mail n
    → channel_run s channel steps mail n ≡ steps ++ replicate n None
unfolding channel_run
idle-run s channel steps mail zero h = sym (append-nil steps)
idle-run s channel steps mail (suc n) h =
    ap (λ before. before ++ choice s channel before mail ∷ []) (idle-run s channel steps mail n (λ k l. h k (omega arith)))
    ∙ ap (λ o. (steps ++ replicate n None) ++ o ∷ []) (h n (omega arith))
    ∙ sym (idle-push steps n)

-- a refresh is due in each of these cycles, or in none
abbrev pub IsDueAlike : Config → ℕ → List (Option Command) → ℕ → Type 0
IsDueAlike s channel steps n =
    (k : ℕ) → k < n → is_some (lowest_due s (issued_commands channel steps) (length steps + k)) ≡ is_some (lowest_due s (issued_commands channel steps) (length steps))

idle-has_due : (s : Config) (channel : ℕ) (steps : List (Option Command)) (n k : ℕ) → k < n → IsDueAlike s channel steps n
    → has_refresh_due s channel (steps ++ replicate k None) (length (steps ++ replicate k None)) ≡ has_refresh_due s channel steps (length steps)
idle-has_due s channel steps n k l h =
    has_due-next s channel (steps ++ replicate k None)
    ∙ ap₂ (λ x i. is_some (lowest_due s x i)) (idle-issued channel steps k) (length-idle steps k)
    ∙ h k l
    ∙ sym (has_due-next s channel steps)

-- each of these cycles counts as much as the first
pub idle-cycle : (s : Config) (channel : ℕ) (steps : List (Option Command)) (mail : List Message) → Each (ArrivedBefore (length steps + 1)) (carried_requests mail)
    → (n k : ℕ) → k < n → IsDueAlike s channel steps n
    → channel_cycle s channel (steps ++ replicate k None) mail None ≡ channel_cycle s channel steps mail None
unfolding channel_cycle queue_length
idle-cycle s channel steps mail h n k l due =
    let more = steps ++ replicate k None in
    let q : length (queued_requests (issued_commands channel more) mail (length more + 1)) ≡ length (queued_requests (issued_commands channel steps) mail (length steps + 1)) =
    ap length (idle-queued_requests channel steps mail h k (length more + 1) (omega (arith, length-idle steps k))) in
    ap₂ (λ x y. channel_cycle_with s x y (has_refresh_due s channel more (length more)) (drains s channel more mail (length more)) None)
    (idle-issued channel steps k) (ap length (queue-next channel more mail) ∙ q ∙ sym (ap length (queue-next channel steps mail)))
    ∙ ap₂ (λ x y. channel_cycle_with s (issued_commands channel steps) (queue_length channel steps mail (length steps)) x y None)
    (idle-has_due s channel steps n k l due) (idle-drains s channel steps mail h k)
