-- What follows from a configuration.
--     request_link, reply_link, credit_link      the three links of a core and a channel
--     latency s link      how many cycles a message travels on a link
--     refresh_slack s      how many cycles late a refresh of a rank may be
use Rattle.std.specs.Prelude.{ℕ, ◌+◌, ◌*◌, ◌%◌, ◌==◌, find, option_map, unwrap_or, if◌then◌else◌}
use Rattle.sim_base.specs.Relations.{refresh_slack_of}
use Rattle.sim_base.specs.declared.config.Config.{Config}

-- the link that carries the requests of a core to a channel
abbrev pub request_link : Config → ℕ → ℕ → ℕ
request_link s core channel = 3 * (core * s.channels + channel)

-- the link that carries the data of reads back from a channel to a core
abbrev pub reply_link : Config → ℕ → ℕ → ℕ
reply_link s core channel = request_link s core channel + 1

-- the link that carries credits back from a channel to a core
abbrev pub credit_link : Config → ℕ → ℕ → ℕ
credit_link s core channel = request_link s core channel + 2

-- the latency of a link that has no override
abbrev pub usual_latency : Config → ℕ → ℕ
usual_latency s link =
    if link % 3 == 0 then s.request_latency else (if link % 3 == 1 then s.reply_latency else s.credit_latency)

-- how many cycles a message travels on a link
unfoldable pub latency : Config → ℕ → ℕ
latency s link = unwrap_or (option_map (λ o. o.latency) (find (λ o. o.link == link) s.overrides)) (usual_latency s link)

-- the cycles from the end of an interval in which a rank's refresh may still come
abbrev pub refresh_slack : Config → ℕ
refresh_slack s = refresh_slack_of s.timing s.ranks
