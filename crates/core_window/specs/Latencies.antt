-- How long the requests of a core travel.
--     request_latencies s core      for each channel by number, the latency of the link for requests
--     KnowsLatencies sender      a core that sends a request has the latencies of its request links at hand
use Rattle.std.specs.Prelude.{◌≡◌, ℕ, List, map}
use Rattle.sim_base.specs.Config.{latency, request_link}
use Rattle.sim_base.specs.History.{below}
use Rattle.sim_base.specs.declared.config.Config.{Config}
use Rattle.core_window.specs.declared.issue_effects.RequestingCore.{RequestingCore}

-- for each channel by number, the latency of the core's link for requests to it
abbrev pub request_latencies : Config → ℕ → List ℕ
request_latencies s core = map (λ channel. latency s (request_link s core channel)) (below s.channels)

-- a core that sends a request has the latencies of its links for requests at hand
abbrev pub KnowsLatencies : RequestingCore → Type 0
KnowsLatencies sender = sender.latencies.now ≡ request_latencies sender.config.now sender.core
