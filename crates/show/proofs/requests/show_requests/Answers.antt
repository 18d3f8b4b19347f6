-- The read latencies, and the waits below them.
use Rattle.std.proofs.Common.{refl}
use Rattle.show.specs.Requests.{AreRequests}
use Rattle.measures.proofs.Texts.{finished, puts_both}
use Rattle.show.proofs.requests.show_requests.Goals as goal

pub returns : goal.returns
returns c =
    finished {A = AreRequests c.args.requests.now c.args.options c.args.cores c.args.channels} c.new-text.result c.put_waits.new.out c.finish.result c.new-text.ensures.empty
    (puts_both (λ latencies waits h k. record { latencies = latencies; waits = waits; latencies_are = h; waits_are = k; text_is = refl }) c.put_reads.ensures c.put_waits.ensures) c.finish.ensures
