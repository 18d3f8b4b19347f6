-- The table of all requests: those that the channels served, read by cycle.
use Rattle.std.proofs.Common.{◌≡◌, ℕ, ◌<◌, Bool, true, false, cond, eqb, List, [], ◌∷◌, ◌++◌, length, map, Option, Some, None, IfSome, refl, sym, ap, ap₂, subst, ◌∙◌}
use Rattle.std.specs.Prelude.{All, filter_map, flat_map, Vec}
use Rattle.std.specs.List.{AllByRecursion as Each, cons_option}
use Rattle.std.specs.declared.alloc.Global.{Global}
use Rattle.std.proofs.lemmas.Bool.{cond-true, cond-false}
use Rattle.std.proofs.lemmas.List.{append-nil}
use Rattle.std.proofs.lemmas.List.Elements.{All-from_recursion, recursion_from_All, filter-append, filter_map-append}
use Rattle.sim_base.specs.declared.config.Config.{Config}
use Rattle.sim_base.specs.declared.command.IssuedCommand.{IssuedCommand}
use Rattle.sim_base.specs.declared.message.Message.{Message}
use Rattle.sim_base.specs.declared.message.Request.{Request}
use Rattle.sim_base.specs.declared.message.Unit.TheVariants as unit
use Rattle.sim_base.specs.History.{below, issued_commands, inbox, commands}
use Rattle.sim_base.specs.MachineStep.{MachineStep}
use Rattle.sim_base.specs.Scheduling.{request_in, source_of}
use Rattle.sim_base.proofs.Each.{Each-filter}
use Rattle.sim_base.proofs.Spans.{length_run}
use Rattle.command_table.specs.Tables.{rows_in}
use Rattle.command_table.proofs.Rising.{by_cycle-same}
use Rattle.channel_step.specs.Channels.{KeepsServed}
use Rattle.channel_step.specs.Past.{carried_requests}
use Rattle.laws.specs.Commands.{channel_steps_of}
use Rattle.laws.proofs.Legal.{length-channel_steps_of}
use Rattle.request_table.specs.Served.{served_in, served_requests}
use Rattle.request_table.specs.declared.served_requests.ServedRequest.{ServedRequest}
use Rattle.request_table.specs.Requests.{arrival_of, requests_of}
use Rattle.request_table.specs.Tables.{AreServedBetween, served_at, by_cycle, times_of, times_by_cycle}
use Rattle.request_table.proofs.Cutting.{at}
use Rattle.request_table.proofs.Cycles.{flat-same}
use Rattle.request_table.proofs.Reading.{own-table}
use Rattle.laws.specs.Timed.{served_in_run}
use Rattle.laws.proofs.Dated.{requests_arrive_as_issued}
use Rattle.laws.proofs.Serving.{KeepsCycles, run-keeps, are_timed, are_by_cycle, channel_by_cycle}
use Rattle.laws.proofs.Summing.{of-channel}
use Rattle.units.specs.SpanLaws.Mail.{mail_before}
use Rattle.units.specs.Kept.{served_by_channel}
use Rattle.units.specs.declared.machine.Machine.{Machine}
use Rattle.units.specs.Runs.{run_of, commands_at}
use Rattle.units.proofs.Tabled.{lists_below, table-is}

-- the requests that the channels below a number served
abbrev pub served_below : Machine → ℕ → ℕ → List (List ServedRequest)
served_below machine now n = map (served_by_channel machine now) (below n)

-- each of these lists stands by cycle
pub served-rise : (machine : Machine) (now : ℕ) (channels : List ℕ) → All (AreServedBetween 0 now) (map (served_by_channel machine now) channels)
served-rise machine now channels = All-from_recursion (AreServedBetween 0 now) _ (each channels)
  where
    each : (channels : List ℕ) → Each (AreServedBetween 0 now) (map (served_by_channel machine now) channels)
    each [] = tt
    each (channel ∷ channels) = (
      subst (λ n. AreServedBetween 0 n (served_by_channel machine now channel)) (length-channel_steps_of machine.config machine.traces.items now channel)
          (channel_by_cycle (arrival_of machine.config (run_of machine now) channel) channel (channel_steps_of machine.config machine.traces.items now channel)),
      each channels,
    )

-- what a command of a cycle serves is served in it
at-cons : (t : ℕ) (o : Option ServedRequest) (ys : List ServedRequest) (b : Bool) (cycle : ℕ) → IfSome o (λ r. r.served ≡ cycle) → eqb cycle t ≡ b → at t (cons_option o ys) ≡ cond b (cons_option o (at t ys)) (at t ys)
at-cons t None ys true cycle h e = refl
at-cons t None ys false cycle h e = refl
at-cons t (Some r) ys true cycle h e = cond-true _ _ _ (ap (λ n. eqb n t) h ∙ e)
at-cons t (Some r) ys false cycle h e = cond-false _ _ _ (ap (λ n. eqb n t) h ∙ e)

at-serving : (f : IssuedCommand → Option ServedRequest) → KeepsCycles f → (t : ℕ) (xs : List IssuedCommand) → at t (filter_map f xs) ≡ filter_map f (rows_in t xs)
at-serving f h t [] = refl
at-serving f h t (x ∷ xs) = by (eqb x.cycle t) refl (at-serving f h t xs)
  where
    by : (b : Bool) → eqb x.cycle t ≡ b → at t (filter_map f xs) ≡ filter_map f (rows_in t xs) → at t (filter_map f (x ∷ xs)) ≡ filter_map f (rows_in t (x ∷ xs))
    by true e k = at-cons t (f x) (filter_map f xs) true x.cycle (h x) e ∙ ap (cons_option (f x)) k ∙ ap (filter_map f) (sym (cond-true _ _ _ e))
    by false e k = at-cons t (f x) (filter_map f xs) false x.cycle (h x) e ∙ k ∙ ap (filter_map f) (sym (cond-false _ _ _ e))

-- what a channel serves
own-serving : (machine : Machine) (now channel : ℕ) → filter_map (served_in_run machine.config (run_of machine now)) (commands_at machine now channel) ≡ served_by_channel machine now channel
unfolding served_requests issued_commands
own-serving machine now channel =
    let history = run_of machine now in
    of-channel (λ k i. served_in (arrival_of machine.config history k) (commands_at machine now k) i) channel 0 (channel_steps_of machine.config machine.traces.items now channel)

-- in a cycle
lists-at : (machine : Machine) (now t : ℕ) (channels : List ℕ)
    → at t (filter_map (served_in_run machine.config (run_of machine now)) (flat_map (λ rows. rows) (map (commands_at machine now) channels))) ≡ served_at (map (served_by_channel machine now) channels) t
lists-at machine now t [] = refl
lists-at machine now t (channel ∷ channels) =
    let f = served_in_run machine.config (run_of machine now) in
    let rest = flat_map (λ rows. rows) (map (commands_at machine now) channels) in
    ap (at t) (filter_map-append f (commands_at machine now channel) rest)
    ∙ filter-append (λ (r : ServedRequest). eqb r.served t) (filter_map f (commands_at machine now channel)) (filter_map f rest)
    ∙ ap₂ (λ xs ys. xs ++ ys) (ap (at t) (own-serving machine now channel)) (lists-at machine now t channels)

cycle-is : (machine : Machine) (now t : ℕ)
    → at t (filter_map (served_in_run machine.config (run_of machine now)) (commands (run_of machine now))) ≡ served_at (served_below machine now machine.config.channels) t
cycle-is machine now t =
    let f = served_in_run machine.config (run_of machine now) in
    let lists = lists_below machine.config machine.traces.items now machine.config.channels in
    let same : rows_in t (commands (run_of machine now)) ≡ rows_in t (flat_map (λ rows. rows) lists) = ap (rows_in t) (sym (table-is machine.config machine.traces.items now)) ∙ by_cycle-same (flat_map (λ rows. rows) lists) t in
    at-serving f (run-keeps machine.config (run_of machine now)) t (commands (run_of machine now))
    ∙ ap (filter_map f) same
    ∙ sym (at-serving f (run-keeps machine.config (run_of machine now)) t (flat_map (λ rows. rows) lists))
    ∙ lists-at machine now t (below machine.config.channels)

-- read by cycle they are the requests of the run
pub requests-are : (machine : Machine) (now : ℕ) → times_by_cycle machine.config now (served_below machine now machine.config.channels) ≡ requests_of machine.config (run_of machine now)
unfolding by_cycle
requests-are machine now =
    let history = run_of machine now in
    let served = filter_map (served_in_run machine.config history) (commands history) in
    let long : length history ≡ now = length_run machine.config machine.traces.items now in
    let stand : AreServedBetween 0 now served = subst (λ n. AreServedBetween 0 n served) long (are_by_cycle machine.config history) in
    let same : by_cycle now (served ∷ []) ≡ by_cycle now (served_below machine now machine.config.channels) =
    flat-same (served_at (served ∷ [])) (served_at (served_below machine now machine.config.channels)) 0 now (λ t l. append-nil (at t served) ∙ cycle-is machine now t) in
    ap (map (times_of machine.config now)) (sym same ∙ own-table now served stand)
    ∙ ap (λ n. map (times_of machine.config n) served) (sym long)
    ∙ sym (are_timed machine.config history)

-- what a channel keeps is what it served in the run
dated : (s : Config) (history : List MachineStep) (channel : ℕ) (mail : List Message)
    → Each (λ m. IfSome (request_in m.payload) (λ r. r.arrival ≡ arrival_of s history channel (source_of r))) mail → Each (λ r. r.arrival ≡ arrival_of s history channel (source_of r)) (carried_requests mail)
dated s history channel [] h = tt
dated s history channel (m ∷ mail) h = by (request_in m.payload) h.0 (dated s history channel mail h.1)
  where
    by : (o : Option Request) → IfSome o (λ r. r.arrival ≡ arrival_of s history channel (source_of r)) → Each (λ r. r.arrival ≡ arrival_of s history channel (source_of r)) (carried_requests mail)
        → Each (λ (r : Request). r.arrival ≡ arrival_of s history channel (source_of r)) (cons_option o (carried_requests mail))
    by None k rest = rest
    by (Some r) k rest = (k, rest)

pub kept-is : (machine : Machine) (now channel : ℕ) (kept : Option (Vec ServedRequest Global)) → channel < machine.config.channels
    → KeepsServed kept (commands_at machine now channel) (mail_before machine.config machine.traces.items now (unit.Channel channel) now) → IfSome kept (λ rows. rows.items ≡ served_by_channel machine now channel)
kept-is machine now channel None l h = tt
kept-is machine now channel (Some rows) l h =
    let history = run_of machine now in
    let P = λ (m : Message). IfSome (request_in m.payload) (λ r. r.arrival ≡ arrival_of machine.config history channel (source_of r)) in
    h (arrival_of machine.config history channel)
    (dated machine.config history channel (mail_before machine.config machine.traces.items now (unit.Channel channel) now)
    (Each-filter P _ (inbox machine.config machine.traces.items history (unit.Channel channel)) (recursion_from_All P (inbox machine.config machine.traces.items history (unit.Channel channel)) (requests_arrive_as_issued machine.config machine.traces.items now channel l))))
