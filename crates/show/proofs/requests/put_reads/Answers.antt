-- As many replies came as there are read latencies.
use Rattle.std.proofs.Common.{subst, sym}
use Rattle.measures.specs.Texts.{Puts}
use Rattle.show.specs.Requests.{latencies_head, AreLatencyRows, AreLatencyLines}
use Rattle.show.specs.Screen.{IsBelow}
use Rattle.measures.specs.Latency.{AreLatenciesOf}
use Rattle.show.proofs.Texts.{replies_are}
use Rattle.show.proofs.requests.put_reads.Goals as goal

pub returns-in-Ok-Ok : goal.returns-in-Ok-Ok
returns-in-Ok-Ok c =
    let requests = c.args.requests.now in
    let options = c.args.options in
    let cores = c.args.cores in
    let rows_are : AreLatencyRows options.khz requests cores c.in-Ok-Ok.rows.items = rw c.in-Ok-Ok.is-0 at c.latency_rows-rows.ensures in
    let all_are : AreLatenciesOf requests c.in-Ok-Ok.all = rw c.in-Ok-Ok.is-1 at c.latency_percentiles-all.ensures in
    let put = c.put_latencies.ensures requests cores (subst (AreLatencyRows options.khz requests cores) (sym c.deref.ensures.value) rows_are) all_are in
    subst (λ count. Puts (IsBelow (latencies_head count) (AreLatencyLines requests options cores)) c.args.out.now c.put_latencies.new.out) (replies_are requests c.in-Ok-Ok.all all_are) put
