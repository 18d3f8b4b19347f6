-- The heading, the histograms, and what stands below them.
use Rattle.request_pictures.proofs.Sections.{section_of, some_latency}
use Rattle.request_pictures.proofs.section.put_requests.Goals as goal

pub returns : goal.returns
returns c =
    let are = rw c.in-Ok-Some.field-0-is at c.in-Ok-Some.ensures in
    section_of c.args.requests.now (some_latency c.args.requests.now c.in-Ok-Some.all are) c.push_str.ensures.words c.put_histograms.ensures c.put_trend.ensures c.put_breakdown.ensures
