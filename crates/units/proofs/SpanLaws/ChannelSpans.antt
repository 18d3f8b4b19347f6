-- A channel of a run does alone what it does in the run, and the requests that come to it are fit.
use Rattle.std.proofs.Common.{◌≡◌, ℕ, zero, suc, ◌+◌, ◌-◌, ◌<◌, ◌≤◌, ltb, leb, ◌&&◌, List, [], ◌∷◌, ◌++◌, length, sym, ap, ap₂, subst, ◌∙◌, add-zero, add-suc, arith}
use Rattle.sim_base.specs.declared.config.Config.{Config}
use Rattle.sim_base.specs.Counts.{queue_length}
use Rattle.sim_base.specs.History.{inbox}
use Rattle.sim_base.specs.Machine.{run, channel_run}
use Rattle.sim_base.specs.Scheduling.{choice, queue_in, queue_room}
use Rattle.sim_base.specs.declared.message.Message.{Message}
use Rattle.sim_base.specs.declared.message.Unit.TheVariants.{Channel}
use Rattle.sim_base.specs.declared.trace.Entry.{Entry}
use Rattle.sim_base.proofs.Ordered.{Each-weaker}
use Rattle.sim_base.proofs.Same.{AgreeUpTo, choice-same, queue-same}
use Rattle.sim_base.proofs.Spans.{inbox-sorted}
use Rattle.laws.specs.Commands.{channel_steps_of}
use Rattle.laws.specs.Links.{arrives_on}
use Rattle.laws.proofs.Bounded.{queues_are_bounded}
use Rattle.laws.proofs.Legal.{channel_steps_of-more, length-channel_steps_of}
use Rattle.laws.proofs.Travel.{links_carry_one_a_cycle}
use Rattle.channel_step.specs.Past.{CarriesRequest}
use Rattle.channel_step.specs.Fit.{ComeByAge}
use Rattle.units.specs.SpanLaws.Channels.{RequestsFitSpans, ChannelsRunAlone}
use Rattle.units.specs.SpanLaws.Mail.{mail_before, mail_in}
use Rattle.units.proofs.SpanLaws.Arrivals.{count-mine, arrived-agree, spans-join}
use Rattle.units.proofs.SpanLaws.Lists.{Sorted-filter, arriving-within, count-kept, come-by_age}
use Rattle.units.proofs.SpanLaws.Requests.{all-carry, span-differ, span-none_issued}

-- the first cycles of a span
channel-alone : (s : Config) (traces : List (List Entry)) (from until channel : ℕ) → channel < s.channels → (n : ℕ) → from + n ≤ until
    → channel_run s channel (channel_steps_of s traces from channel) (mail_before s traces until (Channel channel) until) n ≡ channel_steps_of s traces (from + n) channel
unfolding channel_run
channel-alone s traces from until channel k zero l = ap (λ i. channel_steps_of s traces i channel) (sym (add-zero from))
channel-alone s traces from until channel k (suc n) l =
    let now = from + n in
    let steps = channel_steps_of s traces now channel in
    let mail = mail_before s traces until (Channel channel) until in
    let long : length steps ≡ now = length-channel_steps_of s traces now channel in
    let agree : AgreeUpTo (length steps + 1) mail (inbox s traces (run s traces now) (Channel channel)) =
    subst (λ i. AgreeUpTo (i + 1) mail (inbox s traces (run s traces now) (Channel channel))) (sym long) (arrived-agree s traces now until (Channel channel) (omega arith)) in
    ap (λ x. x ++ choice s channel x mail ∷ []) (channel-alone s traces from until channel k n (omega arith))
    ∙ ap (λ o. steps ++ o ∷ []) (choice-same s channel steps mail (inbox s traces (run s traces now) (Channel channel)) agree)
    ∙ sym (channel_steps_of-more s traces now channel k)
    ∙ ap (λ i. channel_steps_of s traces i channel) (sym (add-suc from n))

-- the first cycles of a span, from what arrived before the span and what arrives in it
channel-span : (s : Config) (traces : List (List Entry)) (from until channel : ℕ) → channel < s.channels → from ≤ until → (n : ℕ) → from + n ≤ until
    → channel_run s channel (channel_steps_of s traces from channel) (mail_before s traces until (Channel channel) from ++ mail_in s traces until (Channel channel) from until) n
    ≡ channel_steps_of s traces (from + n) channel
channel-span s traces from until channel k l n h =
    ap (λ ms. channel_run s channel (channel_steps_of s traces from channel) ms n) (spans-join s traces from until (Channel channel) l) ∙ channel-alone s traces from until channel k n h

pub channels-run_alone : (s : Config) (traces : List (List Entry)) (from until : ℕ) → ChannelsRunAlone s traces from until
channels-run_alone s traces from until channel k l =
    let e : from + (until - from) ≡ until = omega arith in
    channel-span s traces from until channel k l (until - from) (omega arith) ∙ ap (λ i. channel_steps_of s traces i channel) e

-- in no cycle of the span the queue has more requests than it has places
span-room : (s : Config) (traces : List (List Entry)) (from until channel : ℕ) → channel < s.channels → from ≤ until → (n : ℕ) → from + n < until
    → let all = mail_before s traces until (Channel channel) from ++ mail_in s traces until (Channel channel) from until in
    queue_length channel (channel_run s channel (channel_steps_of s traces from channel) all n) all (from + n) ≤ queue_room s
unfolding queue_length
span-room s traces from until channel k l n h =
    let now = from + n in
    let all = mail_before s traces until (Channel channel) from ++ mail_in s traces until (Channel channel) from until in
    let steps = channel_run s channel (channel_steps_of s traces from channel) all n in
    let e : queue_in channel steps all now ≡ queue_in channel (channel_steps_of s traces now channel) (inbox s traces (run s traces now) (Channel channel)) now =
    ap₂ (λ r ms. queue_in channel r ms now) (channel-span s traces from until channel k l n (omega arith)) (spans-join s traces from until (Channel channel) l)
    ∙ queue-same channel (channel_steps_of s traces now channel) (mail_before s traces until (Channel channel) until) (inbox s traces (run s traces now) (Channel channel)) now
    (arrived-agree s traces now until (Channel channel) h) in
    subst (λ q. length q ≤ queue_room s) (sym e) (queues_are_bounded s traces now channel now k (omega arith))

span-by_age : (s : Config) (traces : List (List Entry)) (from until channel : ℕ) → ComeByAge (mail_in s traces until (Channel channel) from until)
span-by_age s traces from until channel =
    let all = inbox s traces (run s traces until) (Channel channel) in
    let p = λ (m : Message). leb from m.arrival && ltb m.arrival until in
    come-by_age (mail_in s traces until (Channel channel) from until) (Sorted-filter p all (inbox-sorted s traces (run s traces until) (Channel channel)))
    (λ link cycle.
    let a = count-kept p (arrives_on link cycle) all in
    let b = count-mine (arrives_on link cycle) s traces (run s traces until) (Channel channel) in
    let c = links_carry_one_a_cycle s traces until link cycle in
    omega arith)

pub requests-fit_spans : (s : Config) (traces : List (List Entry)) (from until : ℕ) → RequestsFitSpans s traces from until
requests-fit_spans s traces from until channel k l =
    let all = inbox s traces (run s traces until) (Channel channel) in
    let new = mail_in s traces until (Channel channel) from until in
    let within = arriving-within from until (CarriesRequest s channel) all (all-carry s traces until channel k) in
    let P = λ (m : Message). (from ≤ m.arrival) × (m.arrival < until) × CarriesRequest s channel m in
    record {
      requests = Each-weaker P (CarriesRequest s channel) (λ m h. h.2) new within;
      by_age = span-by_age s traces from until channel;
      in_span = Each-weaker P (λ (m : Message). (from ≤ m.arrival) × (m.arrival < until)) (λ m h. (h.0, h.1)) new within;
      differ = span-differ s traces from until channel l;
      none_issued = span-none_issued s traces from until channel k l;
      room = span-room s traces from until channel k l;
    }
