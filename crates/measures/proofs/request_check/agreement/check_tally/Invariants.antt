-- The count over the requests so far, each of which adds less than 2^64, is not too much.
use Rattle.std.proofs.Common.{◌≡◌, ◌≤◌, ◌*◌, ◌^◌, take}
use Rattle.measures.specs.Tally.{amount}
use Rattle.measures.proofs.request_check.agreement.check_tally.Given as goal

abbrev pub invariant-loop-place : goal.invariant-loop-place
invariant-loop-place l = record {
  amount_is : l.amount ≡ amount l.tally (take l.place l.requests);
  fits : l.amount ≤ l.told;
  few : l.amount ≤ 2 ^ 64 * l.place;
}
