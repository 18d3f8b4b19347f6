-- What arrives at a unit of a run, span by span.
use Rattle.std.proofs.Common.{◌≡◌, ℕ, ◌+◌, ◌-◌, ◌<◌, ◌≤◌, Bool, ltb, leb, ◌&&◌, List, [], sym, ap, ◌∙◌, arith}
use Rattle.std.specs.Prelude.{filter, count_by}
use Rattle.std.proofs.lemmas.Bool.{and_parts, and_right, le-ltb}
use Rattle.sim_base.specs.declared.config.Config.{Config}
use Rattle.sim_base.specs.MachineStep.{MachineStep}
use Rattle.sim_base.specs.History.{messages, is_to, inbox}
use Rattle.sim_base.specs.Machine.{run}
use Rattle.sim_base.specs.declared.message.Message.{Message}
use Rattle.sim_base.specs.declared.message.Unit.{Unit as MachineUnit}
use Rattle.sim_base.specs.declared.trace.Entry.{Entry}
use Rattle.sim_base.proofs.Arrived.{arrived, arrived-none, filter-arrived}
use Rattle.sim_base.proofs.Each.{Each-all, Each-filter}
use Rattle.sim_base.proofs.Ordered.{filter-by_age}
use Rattle.sim_base.proofs.Same.{Stamped, AgreeUpTo}
use Rattle.sim_base.proofs.Spans.{inbox-sorted, inbox-run, inbox-stamped}
use Rattle.sim_base.proofs.Grows.{has_channels}
use Rattle.statistics.proofs.Messages.{arrived-arrived}
use Rattle.statistics.proofs.RunSteps.{travels}
use Rattle.laws.proofs.Counting.{count-weaker}
use Rattle.laws.proofs.Spent.{count-inbox}
use Rattle.units.specs.SpanLaws.Mail.{arriving, mail_before, MailIsSettled, MailIsKnown, SpansJoin, MailIsSent}
use Rattle.units.proofs.SpanLaws.Lists.{arriving-more}

-- a unit has no more of a kind of message than there are in all
pub count-mine : (p : Message → Bool) (s : Config) (traces : List (List Entry)) (history : List MachineStep) (unit : MachineUnit)
    → count_by p (inbox s traces history unit) ≤ count_by p (messages s traces history)
count-mine p s traces history unit =
    let a = count-inbox p s traces history unit in
    let b = count-weaker (λ m. is_to s unit m && p m) p (λ m h. (and_parts (is_to s unit m) (p m) h).1) (messages s traces history) in
    omega arith

-- what arrives up to a cycle is there when the run has come to it
pub arrived-then : (s : Config) (traces : List (List Entry)) (now until : ℕ) (unit : MachineUnit) (u : ℕ) → now ≤ until → u ≤ now + 1
    → arrived (inbox s traces (run s traces until) unit) u ≡ arrived (inbox s traces (run s traces now) unit) u
arrived-then s traces now until unit u l h =
    let e : until ≡ now + (until - now) = omega arith in
    ap (λ i. arrived (inbox s traces (run s traces i) unit) u) e ∙ inbox-run s traces now 1 unit u (has_channels s) (travels s) h (until - now)

pub mail-settled : (s : Config) (traces : List (List Entry)) (from until : ℕ) → MailIsSettled s traces from until
mail-settled s traces from until unit l = arrived-then s traces from until unit from l (omega arith)

pub arriving-arrived : (from until : ℕ) (ms : List Message) → arriving from until (arrived ms until) ≡ arriving from until ms
arriving-arrived from until ms = filter-arrived (λ (m : Message). leb from m.arrival && ltb m.arrival until) until (λ m h. and_right (leb from m.arrival) _ (le-ltb m.arrival until h)) ms

pub mail-known : (s : Config) (traces : List (List Entry)) (from until : ℕ) → MailIsKnown s traces from until
mail-known s traces from until unit l t =
    let e : until ≡ from + (until - from) = omega arith in
    let same : arrived (inbox s traces (run s traces until) unit) until ≡ arrived (inbox s traces (run s traces from) unit) until =
    ap (λ i. arrived (inbox s traces (run s traces i) unit) until) e ∙ inbox-run s traces from (until - from) unit until (has_channels s) t (omega arith) (until - from) in
    sym (arriving-arrived from until (inbox s traces (run s traces until) unit)) ∙ ap (arriving from until) same ∙ arriving-arrived from until (inbox s traces (run s traces from) unit)

pub spans-join : (s : Config) (traces : List (List Entry)) (from until : ℕ) → SpansJoin s traces from until
spans-join s traces from until unit l = arriving-more from until l (inbox s traces (run s traces until) unit) (inbox-sorted s traces (run s traces until) unit)

-- up to a cycle of a span, what arrives by its end is what the run knows in that cycle
pub arrived-agree : (s : Config) (traces : List (List Entry)) (now until : ℕ) (unit : MachineUnit) → now < until
    → AgreeUpTo (now + 1) (mail_before s traces until unit until) (inbox s traces (run s traces now) unit)
arrived-agree s traces now until unit l =
    let all = inbox s traces (run s traces until) unit in
    record {
      one = Each-filter Stamped (λ (m : Message). ltb m.arrival until) all (inbox-stamped s traces (run s traces until) unit);
      other = inbox-stamped s traces (run s traces now) unit;
      same = λ u h. arrived-arrived u until (omega arith) all ∙ arrived-then s traces now until unit u (omega arith) h;
    }

pub mail-sent : (s : Config) (traces : List (List Entry)) (from until : ℕ) → MailIsSent s traces from until
unfolding inbox
mail-sent s traces from until unit n =
    filter-by_age (λ (m : Message). leb from m.arrival && ltb m.arrival until) (filter (is_to s unit) (messages s traces (run s traces n)))

-- nothing arrives before the first cycle
pub mail-none : (s : Config) (traces : List (List Entry)) (unit : MachineUnit) → mail_before s traces 0 unit 0 ≡ []
mail-none s traces unit = none (inbox s traces (run s traces 0) unit)
  where
    none : (ms : List Message) → arrived ms 0 ≡ []
    none ms = arrived-none 0 ms (Each-all (λ (m : Message). 0 ≤ m.arrival) (λ m. omega arith) ms)
