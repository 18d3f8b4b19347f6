-- The chains are those of the requests before the place.
use Rattle.std.proofs.Common.{◌≡◌, take}
use Rattle.std.specs.Prelude.{vec_capacity}
use Rattle.queue.specs.Chains.{classes_of, AreChained}
use Rattle.queue.proofs.request_log.chains.Chains.renew.Given as goal

abbrev pub invariant-loop-arrived : goal.invariant-loop-arrived
invariant-loop-arrived l = AreChained (classes_of (take l.arrived-index l.log)) l.self × (vec_capacity l.self.behind ≡ vec_capacity l.fn.self.behind)
