-- The latencies of a core's links for requests, channel by channel.
use Rattle.std.proofs.Common.{get_or, length, ap, ◌∙◌, arith}
use Rattle.std.proofs.lemmas.List.FromFn.{get_or-map-range_with_len, length-map-range_with_len}
use Rattle.sim_base.specs.Config.{latency, request_link}
use Rattle.core_window.proofs.issue_effects.travel_to.Goals as goal

pub bounds-sender-channel : goal.bounds-sender-channel
bounds-sender-channel c =
    omega (arith, c.requires.exists, ap length c.requires.latencies, length-map-range_with_len (λ k. latency c.args.sender.now.config.now (request_link c.args.sender.now.config.now c.args.sender.now.core k)) 0 c.args.sender.now.config.now.channels)

pub returns : goal.returns
returns c =
    let s = c.args.sender.now.config.now in
    let core = c.args.sender.now.core in
    ap (λ ls. get_or ls c.args.channel 0) c.requires.latencies
    ∙ get_or-map-range_with_len (λ k. latency s (request_link s core k)) 0 s.channels c.args.channel c.args.channel 0 c.requires.exists (omega arith)
