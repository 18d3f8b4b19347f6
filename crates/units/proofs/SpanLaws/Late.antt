-- What cores send in some cycles arrives no sooner than the least latency of a request later; what channels send, no
-- sooner than the least way back.
use Rattle.std.proofs.Common.{◌≡◌, ℕ, zero, suc, ◌+◌, ◌*◌, ◌-◌, ◌<◌, ◌≤◌, List, ◌++◌, length, Option, Some, None, ap, ◌∙◌, add-zero, add-suc, arith}
use Rattle.std.specs.Option.{IfSome}
use Rattle.std.proofs.lemmas.List.Elements.{All-from_recursion}
use Rattle.sim_base.specs.declared.config.Config.{Config}
use Rattle.sim_base.specs.Config.{request_link, reply_link, credit_link, latency}
use Rattle.sim_base.specs.Places.{place_of}
use Rattle.sim_base.specs.History.{trace_of, reply, credit, messages_of, messages_at, channel_messages, messages_of_core, messages_of_channel}
use Rattle.sim_base.specs.Machine.{run}
use Rattle.sim_base.specs.declared.command.Command.{Command}
use Rattle.sim_base.specs.declared.command.Command.TheVariants.{Act, Rd, Wr, Pre, Prea, Ref}
use Rattle.sim_base.specs.declared.message.Message.{Message}
use Rattle.sim_base.specs.declared.trace.Entry.{Entry}
use Rattle.sim_base.specs.Machine.{next_step}
use Rattle.sim_base.specs.Sends.{core_sends}
use Rattle.sim_base.proofs.Added.{ServesCoreBelow, channel_messages-push, between_late}
use Rattle.sim_base.proofs.LinkNumbers.{link_below}
use Rattle.sim_base.proofs.Arrived.{NotBefore}
use Rattle.sim_base.proofs.Grows.{core-grows}
use Rattle.sim_base.proofs.Spans.{length_run}
use Rattle.laws.specs.Commands.{channel_steps_of}
use Rattle.laws.proofs.Legal.{chosen, channel_steps_of-more, length-channel_steps_of}
use Rattle.laws.proofs.Receivers.{place_in}
use Rattle.units.specs.SpanLaws.Sent.{RequestsTravelFor, AnswersTakeFor, PhasesAreTurns, RequestsAreLate, AnswersAreLate}
use Rattle.units.proofs.SpanLaws.Later.{GrowsLate, grows-none, grows-again, grows-late, chosen-below}

command-late : (s : Config) (channel cycle n u : ℕ) → channel < s.channels → AnswersTakeFor s n → u ≤ cycle + n
    → (o : Option Command) → IfSome o (ServesCoreBelow s.cores) → NotBefore u (messages_at s channel cycle o)
unfolding messages_of reply credit
command-late s channel cycle n u l t h None c = tt
command-late s channel cycle n u l t h (Some (Rd bank row column source)) c =
    let a : n ≤ latency s (credit_link s source.core channel) = (t source.core channel c l).0 in
    let b : n ≤ s.timing.n_cl + 4 + latency s (reply_link s source.core channel) = (t source.core channel c l).1 in
    (omega arith, (omega arith, tt))
command-late s channel cycle n u l t h (Some (Wr bank row column source)) c =
    let a : n ≤ latency s (credit_link s source.core channel) = (t source.core channel c l).0 in
    (omega arith, tt)
command-late s channel cycle n u l t h (Some (Act bank row source)) c = tt
command-late s channel cycle n u l t h (Some (Pre bank source)) c = tt
command-late s channel cycle n u l t h (Some (Prea rank)) c = tt
command-late s channel cycle n u l t h (Some (Ref rank)) c = tt

-- what a core sends in the first cycles of a span
pub core-late : (s : Config) (traces : List (List Entry)) (from n u core : ℕ) → core < s.cores → RequestsTravelFor s n → u ≤ from + n → (m : ℕ)
    → GrowsLate u (messages_of_core s traces (run s traces from) core) (messages_of_core s traces (run s traces (from + m)) core)
unfolding run core_sends
core-late s traces from n u core k t b zero =
    grows-none u (messages_of_core s traces (run s traces from) core) (messages_of_core s traces (run s traces (from + zero)) core)
    (ap (λ i. messages_of_core s traces (run s traces i) core) (add-zero from))
core-late s traces from n u core k t b (suc m) =
    let history = run s traces (from + m) in
    let long : length history ≡ from + m = length_run s traces (from + m) in
    grows-again u (messages_of_core s traces (run s traces from) core) (messages_of_core s traces history core) (messages_of_core s traces (run s traces (from + suc m)) core)
    (core_sends s traces history (next_step s traces history) core)
    (core-late s traces from n u core k t b m)
    (ap (λ i. messages_of_core s traces (run s traces i) core) (add-suc from m) ∙ core-grows s traces history (next_step s traces history) core)
    (between_late s core (trace_of traces core) (length history) _ _ n u (λ address. t core (place_of s address).channel k (place_in s address)) (omega arith))

-- what a channel sends in them
pub channel-late : (s : Config) (traces : List (List Entry)) (from n u channel : ℕ) → channel < s.channels → AnswersTakeFor s n → u ≤ from + n → (m : ℕ)
    → GrowsLate u (messages_of_channel s (run s traces from) channel) (messages_of_channel s (run s traces (from + m)) channel)
unfolding messages_of_channel
channel-late s traces from n u channel k t b zero =
    grows-none u (messages_of_channel s (run s traces from) channel) (messages_of_channel s (run s traces (from + zero)) channel)
    (ap (λ i. messages_of_channel s (run s traces i) channel) (add-zero from))
channel-late s traces from n u channel k t b (suc m) =
    let now = from + m in
    let steps = channel_steps_of s traces now channel in
    let long : length steps ≡ now = length-channel_steps_of s traces now channel in
    grows-again u (messages_of_channel s (run s traces from) channel) (messages_of_channel s (run s traces now) channel) (messages_of_channel s (run s traces (from + suc m)) channel)
    (messages_at s channel (length steps) (chosen s traces now channel))
    (channel-late s traces from n u channel k t b m)
    (ap (λ i. messages_of_channel s (run s traces i) channel) (add-suc from m) ∙ ap (channel_messages s channel) (channel_steps_of-more s traces now channel k) ∙ channel_messages-push s channel steps (chosen s traces now channel))
    (command-late s channel (length steps) n u k t (omega arith) (chosen s traces now channel) (chosen-below s traces now channel))

pub core-sent_late : (s : Config) (traces : List (List Entry)) (from until least core : ℕ) (sent : List Message) → core < s.cores → from ≤ until → RequestsTravelFor s least
    → messages_of_core s traces (run s traces until) core ≡ messages_of_core s traces (run s traces from) core ++ sent → NotBefore (from + least) sent
core-sent_late s traces from until least core sent k l t e =
    let i : from + (until - from) ≡ until = omega arith in
    grows-late (from + least) (messages_of_core s traces (run s traces from) core) (messages_of_core s traces (run s traces (from + (until - from))) core) sent
    (core-late s traces from least (from + least) core k t (omega arith) (until - from))
    (ap (λ n. messages_of_core s traces (run s traces n) core) i ∙ e)

pub channel-sent_late : (s : Config) (traces : List (List Entry)) (from until least channel : ℕ) (sent : List Message) → channel < s.channels → from ≤ until → AnswersTakeFor s least
    → messages_of_channel s (run s traces until) channel ≡ messages_of_channel s (run s traces from) channel ++ sent → NotBefore (from + least) sent
channel-sent_late s traces from until least channel sent k l t e =
    let i : from + (until - from) ≡ until = omega arith in
    grows-late (from + least) (messages_of_channel s (run s traces from) channel) (messages_of_channel s (run s traces (from + (until - from))) channel) sent
    (channel-late s traces from least (from + least) channel k t (omega arith) (until - from))
    (ap (λ n. messages_of_channel s (run s traces n) channel) i ∙ e)

pub requests-late : (s : Config) (traces : List (List Entry)) (from until : ℕ) → RequestsAreLate s traces from until
requests-late s traces from until least core sent k l t e =
    All-from_recursion (λ (m : Message). from + least ≤ m.arrival) sent (core-sent_late s traces from until least core sent k l t e)

pub answers-late : (s : Config) (traces : List (List Entry)) (from until : ℕ) → AnswersAreLate s traces from until
answers-late s traces from until least channel sent k l t e =
    All-from_recursion (λ (m : Message). from + least ≤ m.arrival) sent (channel-sent_late s traces from until least channel sent k l t e)

pub phases-turns : (s : Config) → PhasesAreTurns s
phases-turns s n t = (requests, answers)
  where
    requests : RequestsTravelFor s n
    requests core channel c k =
        let low : 3 * (core * s.channels + channel) + 0 < 3 * s.cores * s.channels = link_below s.cores s.channels core channel 0 c k (omega arith) in
        t (request_link s core channel) (omega arith)

    answers : AnswersTakeFor s n
    answers core channel c k =
        let credit : n ≤ latency s (credit_link s core channel) = t (credit_link s core channel) (link_below s.cores s.channels core channel 2 c k (omega arith)) in
        let reply : n ≤ latency s (reply_link s core channel) = t (reply_link s core channel) (link_below s.cores s.channels core channel 1 c k (omega arith)) in
        (credit, omega arith)
