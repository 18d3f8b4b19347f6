use Rattle.std.proofs.Common.{◌≡◌, take}
use Rattle.queue.specs.Log.{waiting_requests}
use Rattle.queue.proofs.request_log.RequestLog.waiting_requests.Given as goal

-- those that wait so far
abbrev pub invariant-loop-arrived : goal.invariant-loop-arrived
invariant-loop-arrived l = l.requests.items ≡ waiting_requests (take l.arrived-index l.self.log)
