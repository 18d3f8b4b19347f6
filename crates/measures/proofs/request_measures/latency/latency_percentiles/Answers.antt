-- The percentiles of the same values in ascending order.
use Rattle.std.proofs.Common.{◌≡◌, ◌∙◌, sym, length, rules}
use Rattle.std.proofs.lemmas.List.Sorted.{length_permutation}
use Rattle.measures.specs.Latency.{read_latencies}
use Rattle.measures.proofs.Ordered.{summary_same}
use Rattle.measures.proofs.request_measures.latency.latency_percentiles.Goals as goal

pub summary-requires : goal.summary-requires
summary-requires c =
    let count : c.len-replies.result ≡ length c.in_ok-values.values.items = search rules in
    record { count = count ∙ sym (length_permutation c.in_ok-values.values.items c.of.result c.of.ensures) }

pub returns : goal.returns
returns c = summary_same (read_latencies c.args.requests.now) c.in_ok-values.values.items c.of.result c.summary-2.result c.in_ok-values.ensures c.of.ensures c.summary-2.ensures
