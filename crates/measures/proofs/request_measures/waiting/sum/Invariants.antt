-- The sum is that of the requests so far, each of which waited less than 2^64 cycles.
use Rattle.std.proofs.Common.{◌≡◌, ◌≤◌, ◌*◌, ◌^◌, take}
use Rattle.std.specs.List.{sum_by}
use Rattle.measures.specs.Waiting.{waited_in}
use Rattle.measures.proofs.request_measures.waiting.sum.Given as goal

abbrev pub invariant-loop-request : goal.invariant-loop-request
invariant-loop-request l = record {
  sum_is : l.sum ≡ sum_by (waited_in l.class l.channel) (take l.request-index l.requests);
  few : l.sum ≤ 2 ^ 64 * l.request-index;
}
