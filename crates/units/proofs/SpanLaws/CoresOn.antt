-- A core that stands for its part of a run, from span to span.
use Rattle.std.proofs.Common.{◌≡◌, ℕ, ◌+◌, ◌-◌, ◌<◌, ◌≤◌, eqb, ltb, ◌&&◌, List, [], ◌++◌, length, sym, ap, ap₂, subst, ◌∙◌, arith}
use Rattle.std.specs.Prelude.{count_by}
use Rattle.std.proofs.lemmas.Bool.{and_parts, and_from}
use Rattle.sim_base.specs.declared.config.Config.{Config}
use Rattle.sim_base.specs.Config.{credit_link}
use Rattle.sim_base.specs.Final.{credits_left}
use Rattle.sim_base.specs.History.{trace_of, steps_of_core, core_messages, messages_of_core, inbox, issued_before, retired_before}
use Rattle.sim_base.specs.Machine.{run, core_run}
use Rattle.sim_base.specs.Windows.{is_request_for, is_credit, is_credit_on, credit_cap, held}
use Rattle.sim_base.specs.declared.history.CoreStep.{CoreStep}
use Rattle.sim_base.specs.declared.message.Message.{Message}
use Rattle.sim_base.specs.declared.message.Unit.TheVariants.{Core}
use Rattle.sim_base.specs.declared.trace.Entry.{Entry}
use Rattle.sim_base.proofs.Arrived.{arrived}
use Rattle.sim_base.proofs.Spans.{length_run}
use Rattle.sim_base.specs.declared.message.Access.{Access}
use Rattle.sim_base.specs.declared.message.Access.TheVariants as access
use Rattle.statistics.specs.Cores.{core_stats}
use Rattle.statistics.specs.Runs.{stats_of_core, credits_of, core_final, final_of_core}
use Rattle.statistics.proofs.CoreCounts.{core_stats-same}
use Rattle.statistics.proofs.Lists.{map_below_same}
use Rattle.statistics.proofs.Messages.{arrived-arrived}
use Rattle.statistics.proofs.Replies.{length-steps_of_core}
use Rattle.laws.proofs.Counting.{count-filter, count-weaker}
use Rattle.core_window.specs.Fit.{IsFit}
use Rattle.core_window.specs.Stands.{StandsFor}
use Rattle.units.specs.SpanLaws.Cores.{core_steps_of, CoresStart, CoresMayRun, CoresGoOn, CoresEndAlike}
use Rattle.units.specs.SpanLaws.Mail.{mail_before, mail_in}
use Rattle.units.proofs.SpanLaws.Arrivals.{mail-none, mail-settled, spans-join}
use Rattle.units.proofs.SpanLaws.CoreSpans.{messages-fit_spans, cores-run_alone}

pub cores-start : (s : Config) (traces : List (List Entry)) → CoresStart s traces
unfolding run steps_of_core
cores-start s traces core view h = subst (λ mail. StandsFor s core (trace_of traces core) [] mail view) (sym (mail-none s traces (Core core))) h

-- the messages of a span are fit after what the run knew before it
fit-then : (s : Config) (traces : List (List Entry)) (from until core : ℕ) → core < s.cores → from ≤ until
    → IsFit s core (trace_of traces core) (core_steps_of s traces from core) (mail_before s traces from (Core core) from) from until (mail_in s traces until (Core core) from until)
fit-then s traces from until core k l =
    subst (λ mail. IsFit s core (trace_of traces core) (core_steps_of s traces from core) mail from until (mail_in s traces until (Core core) from until))
    (mail-settled s traces from until (Core core) l) (messages-fit_spans s traces from until core k l)

pub cores-may_run : (s : Config) (traces : List (List Entry)) (from until : ℕ) → CoresMayRun s traces from until
cores-may_run s traces from until core view k l h =
    record {
      s = s;
      core = core;
      trace = trace_of traces core;
      steps = core_steps_of s traces from core;
      mail = mail_before s traces from (Core core) from;
      stands = h;
      fit = fit-then s traces from until core k l;
    }

pub cores-go_on : (s : Config) (traces : List (List Entry)) (from until : ℕ) → CoresGoOn s traces from until
unfolding messages_of_core
cores-go_on s traces from until core before after sent k l h runs =
    let trace = trace_of traces core in
    let old = core_steps_of s traces from core in
    let mail = mail_before s traces from (Core core) from in
    let new = mail_in s traces until (Core core) from until in
    let was = runs s core trace old mail h (fit-then s traces from until core k l) in
    let settled : mail_before s traces until (Core core) from ≡ mail = mail-settled s traces from until (Core core) l in
    let all : mail ++ new ≡ mail_before s traces until (Core core) until = ap (λ ms. ms ++ new) (sym settled) ∙ spans-join s traces from until (Core core) l in
    let steps : core_run s core trace old (mail ++ new) (until - from) ≡ core_steps_of s traces until core =
    ap (λ ms. core_run s core trace old (ms ++ new) (until - from)) (sym settled) ∙ cores-run_alone s traces from until core k l in (
      subst (λ ms. StandsFor s core trace (core_steps_of s traces until core) ms after) all (subst (λ r. StandsFor s core trace r (mail ++ new) after) steps was.0),
      ap (core_messages s core trace) (sym steps) ∙ was.1,
    )

pub length-core_steps_of : (s : Config) (traces : List (List Entry)) (n core : ℕ) → length (core_steps_of s traces n core) ≡ n
length-core_steps_of s traces n core = length-steps_of_core core (run s traces n) ∙ length_run s traces n

-- what has not arrived is no credit
credits-arrived : (link : ℕ) (access : Access) (until : ℕ) (ms : List Message) → count_by (is_credit_on link access until) (arrived ms until) ≡ count_by (is_credit_on link access until) ms
credits-arrived link access until ms =
    let p = λ (m : Message). ltb m.arrival until in
    let q = is_credit_on link access until in
    let a : count_by q (arrived ms until) ≡ count_by (λ m. p m && q m) ms = count-filter p q ms in
    let b = count-weaker (λ m. p m && q m) q (λ m h. (and_parts (p m) (q m) h).1) ms in
    let c = count-weaker q (λ m. p m && q m) (λ m h. and_from (p m) (q m) (and_parts (eqb m.link link && is_credit access m.payload) (p m) h).1 h) ms in
    omega arith

credits-alike : (s : Config) (core now : ℕ) (trace : List Entry) (steps : List CoreStep) (ms : List Message) (channel : ℕ) → length steps ≡ now
    → credits_of s core trace steps (arrived ms now) channel ≡ credits_of s core trace steps ms channel
unfolding credits_of credits_left held
credits-alike s core now trace steps ms channel e =
    let left = λ (access : Access) (n : ℕ). credit_cap s access + n - count_by (λ m. is_request_for channel access m.payload) (core_messages s core trace steps) in
    let same : (access : Access) → count_by (is_credit_on (credit_link s core channel) access (length steps)) (arrived ms now) ≡ count_by (is_credit_on (credit_link s core channel) access (length steps)) ms =
    λ access. subst (λ u. count_by (is_credit_on (credit_link s core channel) access (length steps)) (arrived ms u) ≡ count_by (is_credit_on (credit_link s core channel) access (length steps)) ms) e
    (credits-arrived (credit_link s core channel) access (length steps) ms) in
    ap₂ (λ r w. record { read = left access.Read r; write = left access.Write w }) (same access.Read) (same access.Write)

stats-alike : (s : Config) (traces : List (List Entry)) (now core : ℕ)
    → core_stats s core (trace_of traces core) (core_steps_of s traces now core) (mail_before s traces now (Core core) now) ≡ stats_of_core s traces (run s traces now) core
unfolding stats_of_core
stats-alike s traces now core =
    let steps = core_steps_of s traces now core in
    let all = inbox s traces (run s traces now) (Core core) in
    let long : length steps ≡ now = length-core_steps_of s traces now core in
    core_stats-same s core (trace_of traces core) steps (arrived all now) all (arrived-arrived (length steps) now (omega arith) all)

last-alike : (s : Config) (traces : List (List Entry)) (now core : ℕ)
    → core_final s core (trace_of traces core) (core_steps_of s traces now core) (mail_before s traces now (Core core) now) ≡ final_of_core s traces (run s traces now) core
unfolding final_of_core core_final
last-alike s traces now core =
    let steps = core_steps_of s traces now core in
    let trace = trace_of traces core in
    let all = inbox s traces (run s traces now) (Core core) in
    ap (λ c. record { issued = issued_before steps; retired = retired_before steps; credits = c })
    (map_below_same (credits_of s core trace steps (arrived all now)) (credits_of s core trace steps all) s.channels
    (λ channel l. credits-alike s core now trace steps all channel (length-core_steps_of s traces now core)))

pub cores-end_alike : (s : Config) (traces : List (List Entry)) (now : ℕ) → CoresEndAlike s traces now
cores-end_alike s traces now core = (stats-alike s traces now core, last-alike s traces now core)
