-- How long what a channel sends travels.
--     latencies_to s channel core      the latencies of a channel's links to a core, for replies and for credits
--     answer_latencies s channel      the latencies of a channel's links to each core, by number
--     KnowsLatencies sender      a channel that answers has the latencies of its links to the cores at hand
use Rattle.std.specs.Prelude.{◌≡◌, ℕ, List, map}
use Rattle.sim_base.specs.Config.{latency, reply_link, credit_link}
use Rattle.sim_base.specs.History.{below}
use Rattle.sim_base.specs.declared.config.Config.{Config}
use Rattle.channel_step.specs.declared.sending.AnswerLatencies.{AnswerLatencies}
use Rattle.channel_step.specs.declared.sending.AnsweringChannel.{AnsweringChannel}

-- the latencies of a channel's links to a core, for replies and for credits
abbrev pub latencies_to : Config → ℕ → ℕ → AnswerLatencies
latencies_to s channel core =
    record {
      reply = latency s (reply_link s core channel);
      credit = latency s (credit_link s core channel);
    }

-- the latencies of a channel's links to each core, by number
abbrev pub answer_latencies : Config → ℕ → List AnswerLatencies
answer_latencies s channel = map (latencies_to s channel) (below s.cores)

-- a channel that answers has the latencies of its links to the cores at hand
abbrev pub KnowsLatencies : AnsweringChannel → Type 0
KnowsLatencies sender = sender.latencies.now ≡ answer_latencies sender.config.now sender.channel
