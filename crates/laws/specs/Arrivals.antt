-- When requests reach their channels.
--     RequestsArriveAsIssued s traces n      each request arrives its link's latency after its entry issues
use Rattle.std.specs.Prelude.{◌≡◌, ℕ, ◌<◌, List, All, IfSome}
use Rattle.sim_base.specs.declared.config.Config.{Config}
use Rattle.sim_base.specs.History.{inbox}
use Rattle.sim_base.specs.Machine.{run}
use Rattle.sim_base.specs.Scheduling.{request_in, source_of}
use Rattle.sim_base.specs.declared.message.Unit.TheVariants.{Channel}
use Rattle.sim_base.specs.declared.trace.Entry.{Entry}
use Rattle.request_table.specs.Requests.{arrival_of}

-- each request that is sent to a channel in the first n cycles arrives at the cycle in which its entry issues plus the
-- latency of its link
abbrev pub RequestsArriveAsIssued : Config → List (List Entry) → ℕ → Type 0
RequestsArriveAsIssued s traces n =
    (channel : ℕ) → channel < s.channels →
    All (λ m. IfSome (request_in m.payload) (λ r. r.arrival ≡ arrival_of s (run s traces n) channel (source_of r)))
    (inbox s traces (run s traces n) (Channel channel))
