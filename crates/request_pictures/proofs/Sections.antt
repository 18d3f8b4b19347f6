-- The section of a page on requests, from its parts.
use Rattle.std.specs.Prelude.{Some}
use Rattle.std.proofs.Common.{◌≢◌, List, [], ◌++◌, ap, ap₂, subst, sym, ◌∙◌, inr, append_assoc, rules}
use Rattle.std.specs.List.{Contains}
use Rattle.measures.specs.Latency.{AreLatenciesOf, read_latencies}
use Rattle.measures.specs.declared.request_measures.latency.Latencies.{Latencies}
use Rattle.request_table.specs.declared.times.RequestTimes.{RequestTimes}
use Rattle.measures.specs.Texts.{Grows, Puts, PutsWords}
use Rattle.measures.specs.declared.text_builder.TextBuilder.{TextBuilder}
use Rattle.measures.proofs.Texts.{puts_both}
use Rattle.request_pictures.specs.Section.{Begins, IsSection, latency_heading, histograms_head}

no_item : {A : Type 0} (x : A) → Contains [] x → ⊥
no_item x h = search rules

-- percentiles are of some latency
pub some_latency : (requests : List RequestTimes) (found : Latencies) → AreLatenciesOf requests (Some found) → read_latencies requests ≢ []
some_latency requests found are none = no_item found.median (subst (λ values. Contains values found.median) none are.median_is.is_one)

-- the heading and the pictures
pub section_of : (requests : List RequestTimes) {a b c d e : TextBuilder} → read_latencies requests ≢ [] → PutsWords latency_heading a b → Puts (Begins histograms_head) b c → Grows c d
    → Grows d e → Puts (IsSection requests) a e
section_of requests some heading pictures trend breakdown =
    puts_both
    (λ sooner last begins any. inr (some, (begins.0 ++ last, ap (λ t. t ++ last) begins.1 ∙ append_assoc (latency_heading ++ histograms_head) begins.0 last)))
    (puts_both {C = Begins (latency_heading ++ histograms_head)}
    (λ sooner more begins any. (begins.0 ++ more, ap (λ t. t ++ more) begins.1 ∙ append_assoc (latency_heading ++ histograms_head) begins.0 more))
    (puts_both {C = Begins (latency_heading ++ histograms_head)}
    (λ words below same begins. (begins.0, ap₂ (λ s t. s ++ t) same begins.1 ∙ sym (append_assoc latency_heading histograms_head begins.0)))
    heading pictures)
    trend)
    breakdown
