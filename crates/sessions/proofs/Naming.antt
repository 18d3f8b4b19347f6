-- A channel issues no command in the name of what has not arrived.
use Rattle.std.proofs.Common.{◌≡◌, ℕ, zero, suc, ◌+◌, false, List, [], length, take, Option, Some, None, refl, sym, subst}
use Rattle.std.specs.Option.{IfSome}
use Rattle.std.specs.List.{AllByRecursion as Each}
use Rattle.sim_base.proofs.Each.{Each-append, Each-filter, Each-turned}
use Rattle.sim_base.proofs.Ordered.{Each-weaker}
use Rattle.sim_base.specs.declared.config.Config.{Config}
use Rattle.sim_base.specs.Counts.{source_in}
use Rattle.sim_base.specs.History.{issued_commands, issued_now}
use Rattle.sim_base.specs.Machine.{channel_run}
use Rattle.sim_base.specs.Scheduling.{is_source, source_of, is_queued, queued_requests, queue_in, drains, choice}
use Rattle.sim_base.specs.declared.command.Command.{Command}
use Rattle.sim_base.specs.declared.command.IssuedCommand.{IssuedCommand}
use Rattle.sim_base.specs.declared.command.Source.{Source}
use Rattle.sim_base.specs.declared.message.Message.{Message}
use Rattle.sim_base.specs.declared.message.Request.{Request}
use Rattle.statistics.proofs.ChannelCounts.{issued_commands-push}
use Rattle.channel_step.specs.Fit.{comes_from, is_issued_for, NoneIssuedFor}
use Rattle.channel_step.specs.Past.{carried_requests, IsOther}
use Rattle.channel_step.proofs.Chosen.{chosen-named}

-- what is chosen stands in the name of a request, if it stands in the name of one
choice-named : (P : Source → Type 0) (s : Config) (channel : ℕ) (steps : List (Option Command)) (mail : List Message) → Each (λ (r : Request). P (source_of r)) (carried_requests mail)
    → IfSome (choice s channel steps mail) (λ c. IfSome (source_in c) P)
unfolding choice queue_in queued_requests
choice-named P s channel steps mail h =
    chosen-named P s (issued_commands channel steps) (length steps) (drains s channel steps mail (length steps)) (queue_in channel steps mail (length steps))
    (Each-filter (λ (r : Request). P (source_of r)) (is_queued (issued_commands channel (take (length steps) steps)) (length steps + 1)) (carried_requests mail) h)

now-named : (P : Source → Type 0) (channel now : ℕ) (o : Option Command) → IfSome o (λ c. IfSome (source_in c) P) → Each (λ (i : IssuedCommand). IfSome (source_in i.command) P) (issued_now channel now o)
now-named P channel now None h = tt
now-named P channel now (Some c) h = (h, tt)

-- so do all commands of a run from the first cycle on
run-named : (P : Source → Type 0) (s : Config) (channel : ℕ) (mail : List Message) (n : ℕ) → Each (λ (r : Request). P (source_of r)) (carried_requests mail)
    → Each (λ (i : IssuedCommand). IfSome (source_in i.command) P) (issued_commands channel (channel_run s channel [] mail n))
unfolding channel_run issued_commands
run-named P s channel mail zero h = tt
run-named P s channel mail (suc n) h =
    let last = channel_run s channel [] mail n in
    let Q = λ (i : IssuedCommand). IfSome (source_in i.command) P in
    subst (Each Q) (sym (issued_commands-push channel last (choice s channel last mail)))
    (Each-append Q (issued_commands channel last) (issued_now channel (length last) (choice s channel last mail)) (run-named P s channel mail n h)
    (now-named P channel (length last) (choice s channel last mail) (choice-named P s channel last mail h)))

none_issued-of : (q : Request) (o : Option Source) → IfSome o (λ source. is_source q source ≡ false) → comes_from o q ≡ false
none_issued-of q None h = refl
none_issued-of q (Some source) h = h

-- no command that is issued for some requests stands in the name of another one
pub run-none_issued : (s : Config) (channel : ℕ) (mail : List Message) (n : ℕ) (later : List Request) → Each (λ (r : Request). Each (IsOther r) later) (carried_requests mail)
    → Each (NoneIssuedFor (issued_commands channel (channel_run s channel [] mail n))) later
run-none_issued s channel mail n later h =
    let history = issued_commands channel (channel_run s channel [] mail n) in
    Each-weaker (λ (q : Request). Each (λ (r : Request). IsOther r q) (carried_requests mail)) (NoneIssuedFor history)
    (λ q k. Each-weaker (λ (i : IssuedCommand). IfSome (source_in i.command) (λ (source : Source). is_source q source ≡ false)) (λ (i : IssuedCommand). is_issued_for i.command q ≡ false)
    (λ i l. none_issued-of q (source_in i.command) l) history (run-named (λ (source : Source). is_source q source ≡ false) s channel mail n k))
    later (Each-turned IsOther (carried_requests mail) later h)
