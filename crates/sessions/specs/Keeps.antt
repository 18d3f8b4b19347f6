-- What a session keeps of its past.
--     steps_of s channel sent now      what the definition's channel does before a cycle, for the requests sent to it
--     waiting s channel sent now      how many of them wait at that cycle
--     Keeps c s channel now firsts sent coming      a channel stands for this past, and what is coming is fit for it
use Rattle.std.specs.Prelude.{◌≡◌, ℕ, ◌+◌, ◌≤◌, ◌^◌, List, [], ◌++◌, length, Option}
use Rattle.std.specs.List.{AllByRecursion as Each}
use Rattle.sim_base.specs.History.{issued_commands}
use Rattle.sim_base.specs.Machine.{channel_run}
use Rattle.sim_base.specs.Scheduling.{queued_requests, queue_room}
use Rattle.sim_base.specs.declared.config.Config.{Config}
use Rattle.sim_base.specs.declared.command.Command.{Command}
use Rattle.sim_base.specs.declared.message.Message.{Message}
use Rattle.channel_step.specs.Channels.{StandsFor}
use Rattle.channel_step.specs.Fit.{ComeByAge}
use Rattle.channel_step.specs.Past.{carried_requests, CarriesRequest, Differ}
use Rattle.channel_step.specs.declared.channel.Channel.{Channel}
use Rattle.sessions.specs.Sent.{IsAsked}

-- what the definition's channel does in each cycle before one, from the first on, for the requests that were sent to it
abbrev pub steps_of : Config → ℕ → List Message → ℕ → List (Option Command)
steps_of s channel sent now = channel_run s channel [] sent now

-- how many of them wait at that cycle
abbrev pub waiting : Config → ℕ → List Message → ℕ → ℕ
waiting s channel sent now = length (queued_requests (issued_commands channel (steps_of s channel sent now)) sent now)

-- A channel stands for what the definition's channel does before a cycle, for the requests that were sent. Of these,
-- some arrived before that cycle, and the others are on their way:
--     requests, by_age, late      they come from the machine's cores, by arrival, then by link, at that cycle or later
--     differ, asked      no two of all are of one entry, and each entry was asked for
--     room      there is a place for each of those that wait or are on their way
pub record Keeps (c : Channel) (s : Config) (channel now : ℕ) (firsts : List ℕ) (sent coming : List Message)
    : Type 0 where
  pub mail : List Message
  pub sent_is : sent ≡ mail ++ coming
  pub stands : StandsFor c s channel (steps_of s channel sent now) mail
  pub requests : Each (CarriesRequest s channel) coming
  pub by_age : ComeByAge coming
  pub late : Each (λ (m : Message). now ≤ m.arrival) coming
  pub differ : Differ (carried_requests sent)
  pub asked : Each (IsAsked firsts) (carried_requests sent)
  pub cores : length firsts ≡ s.cores
  pub room : waiting s channel sent now + length coming ≤ queue_room s
  pub in_time : now ≤ 2 ^ 62
