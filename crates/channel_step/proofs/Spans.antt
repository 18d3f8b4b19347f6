-- What a channel does over some cycles: what comes after what it did before, and what arrives later does not count.
use Rattle.std.proofs.Common.{◌≡◌, ℕ, zero, suc, ◌+◌, Bool, List, [], ◌∷◌, ◌++◌, length, Option, refl, sym, ap, ap₂, ◌∙◌, add-zero, add-suc, add-one, arith}
use Rattle.std.specs.Prelude.{count_by}
use Rattle.std.proofs.Math.Seq.{take-length}
use Rattle.std.proofs.lemmas.List.{append_assoc}
use Rattle.sim_base.proofs.Same.{AgreeUpTo, sooner, choice-same}
use Rattle.sim_base.specs.declared.config.Config.{Config}
use Rattle.sim_base.specs.Access.{is_access}
use Rattle.sim_base.specs.History.{issued_commands, issued_now}
use Rattle.sim_base.specs.Machine.{channel_run}
use Rattle.sim_base.specs.Scheduling.{queued_requests, queue_in, writes_in, drains_with, drains_before, drains, candidates, lowest_due, choice_between, choice}
use Rattle.sim_base.specs.declared.command.Command.{Command}
use Rattle.sim_base.specs.declared.command.IssuedCommand.{IssuedCommand}
use Rattle.sim_base.specs.declared.message.Access.TheVariants as access
use Rattle.sim_base.specs.declared.message.Message.{Message}
use Rattle.sim_base.specs.declared.message.Request.{Request}
use Rattle.sim_base.proofs.Added.{length-push_suc}
use Rattle.statistics.proofs.ChannelCounts.{issued_commands-push, drains_before-push}

-- the queue of the next cycle
pub queue-next : (channel : ℕ) (steps : List (Option Command)) (mail : List Message)
    → queue_in channel steps mail (length steps) ≡ queued_requests (issued_commands channel steps) mail (length steps + 1)
unfolding queue_in
queue-next channel steps mail = ap (λ x. queued_requests (issued_commands channel x) mail (length steps + 1)) (take-length steps)

-- whether the channel drains its writes in the next cycle
pub drains-next : (s : Config) (channel : ℕ) (steps : List (Option Command)) (mail : List Message)
    → drains s channel steps mail (length steps)
    ≡ drains_with s (drains_before s channel steps mail (length steps)) (count_by (λ r. is_access access.Write r.access) (queued_requests (issued_commands channel steps) mail (length steps + 1)))
unfolding drains_before writes_in
drains-next s channel steps mail =
    ap (drains_before s channel steps mail) (add-one (length steps))
    ∙ ap (λ q. drains_with s (drains_before s channel steps mail (length steps)) (count_by (λ r. is_access access.Write r.access) q)) (queue-next channel steps mail)

-- the command of the next cycle, by the queue and the drain in it
pub choice-next : (s : Config) (channel : ℕ) (steps : List (Option Command)) (mail : List Message) (queue : List Request) (draining : Bool)
    → queued_requests (issued_commands channel steps) mail (length steps + 1) ≡ queue → drains s channel steps mail (length steps) ≡ draining
    → choice s channel steps mail
    ≡ choice_between s (issued_commands channel steps) (length steps) (candidates s draining queue) (lowest_due s (issued_commands channel steps) (length steps))
unfolding choice
choice-next s channel steps mail queue draining e f =
    ap₂ (λ d q. choice_between s (issued_commands channel steps) (length steps) (candidates s d q) (lowest_due s (issued_commands channel steps) (length steps)))
    f (queue-next channel steps mail ∙ e)

-- after the row of a cycle, the channel drains as it did in that cycle
pub drains_before-row : (s : Config) (channel : ℕ) (steps : List (Option Command)) (o : Option Command) (mail : List Message)
    → drains_before s channel (steps ++ o ∷ []) mail (length (steps ++ o ∷ [])) ≡ drains s channel steps mail (length steps)
drains_before-row s channel steps o mail =
    ap (drains_before s channel (steps ++ o ∷ []) mail) (length-push_suc steps o)
    ∙ drains_before-push s channel steps o mail (suc (length steps)) (omega arith)
    ∙ ap (drains_before s channel steps mail) (sym (add-one (length steps)))

pub length-channel_run : (s : Config) (channel : ℕ) (steps : List (Option Command)) (mail : List Message) (n : ℕ)
    → length (channel_run s channel steps mail n) ≡ length steps + n
unfolding channel_run
length-channel_run s channel steps mail zero = sym (add-zero (length steps))
length-channel_run s channel steps mail (suc n) =
    let before = channel_run s channel steps mail n in
    let e : length before ≡ length steps + n = length-channel_run s channel steps mail n in
    let f : length (before ++ choice s channel before mail ∷ []) ≡ suc (length before) = length-push_suc before _ in
    omega arith

-- some cycles, and then some more
pub channel_run-more : (s : Config) (channel : ℕ) (steps : List (Option Command)) (mail : List Message) (m n : ℕ)
    → channel_run s channel steps mail (m + n) ≡ channel_run s channel (channel_run s channel steps mail m) mail n
unfolding channel_run
channel_run-more s channel steps mail m zero = ap (channel_run s channel steps mail) (add-zero m)
channel_run-more s channel steps mail m (suc n) =
    ap (channel_run s channel steps mail) (add-suc m n)
    ∙ ap (λ before. before ++ choice s channel before mail ∷ []) (channel_run-more s channel steps mail m n)

-- the run of a channel over one cycle more
pub channel_run-one : (s : Config) (channel : ℕ) (steps : List (Option Command)) (mail : List Message) (n : ℕ)
    → channel_run s channel steps mail (n + 1)
    ≡ channel_run s channel steps mail n ++ choice s channel (channel_run s channel steps mail n) mail ∷ []
unfolding channel_run
channel_run-one s channel steps mail n = ap (channel_run s channel steps mail) (add-one n)

-- the first cycle
pub channel_run-first : (s : Config) (channel : ℕ) (steps : List (Option Command)) (mail : List Message) → channel_run s channel steps mail 1 ≡ steps ++ choice s channel steps mail ∷ []
unfolding channel_run
channel_run-first s channel steps mail = refl

-- what arrives after these cycles does not count
pub channel_run-same : (s : Config) (channel : ℕ) (steps : List (Option Command)) (a b : List Message) (n : ℕ) → AgreeUpTo (length steps + n) a b
    → channel_run s channel steps a n ≡ channel_run s channel steps b n
unfolding channel_run
channel_run-same s channel steps a b zero h = refl
channel_run-same s channel steps a b (suc n) h =
    let len : length (channel_run s channel steps a n) ≡ length steps + n = length-channel_run s channel steps a n in
    ap (λ o. channel_run s channel steps a n ++ o ∷ []) (choice-same s channel (channel_run s channel steps a n) a b (sooner (omega arith) h))
    ∙ ap (λ before. before ++ choice s channel before b ∷ []) (channel_run-same s channel steps a b n (sooner (omega arith) h))

-- the commands and messages of one cycle more come after the earlier ones
pub issued-after : (channel : ℕ) (steps : List (Option Command)) (o : Option Command) (old new : List IssuedCommand)
    → issued_commands channel steps ≡ old ++ new → issued_commands channel (steps ++ o ∷ []) ≡ old ++ (new ++ issued_now channel (length steps) o)
issued-after channel steps o old new e =
    issued_commands-push channel steps o ∙ ap (λ x. x ++ issued_now channel (length steps) o) e ∙ append_assoc old new (issued_now channel (length steps) o)
