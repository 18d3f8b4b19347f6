-- The least latencies of links, from the overrides and the kinds. A kind is the remainder of links by 3.
--     has_usual s kind      some link of a kind has no override
--     least_own_of s kind      the least latency of an override of a link of a kind
--     least_of_kind s kind usual      the least latency of a link of a kind, whose usual latency this is
--     SomeLinkTakes s cycles      some link of the machine has this latency
use Rattle.std.specs.Prelude.{◌≡◌, ℕ, ◌*◌, ◌%◌, ◌==◌, ◌<◌, nat_lt, Bool, min, filter, fold, count_by, if◌then◌else◌}
use Rattle.sim_base.specs.Config.{latency}
use Rattle.sim_base.specs.declared.config.Config.{Config}

-- some link of a kind has no override: there are fewer overrides of such links than such links
abbrev pub has_usual : Config → ℕ → Bool
has_usual s kind = nat_lt (count_by (λ o. o.link % 3 == kind) s.overrides) (s.cores * s.channels)

-- the least latency of an override of a link of a kind; where there is none, what none is above
abbrev pub least_own_of : Config → ℕ → ℕ
least_own_of s kind = fold (λ least o. min least o.latency) 1000000 (filter (λ o. o.link % 3 == kind) s.overrides)

-- the least latency of a link of a kind, whose usual latency this is
abbrev pub least_of_kind : Config → ℕ → ℕ → ℕ
least_of_kind s kind usual = if has_usual s kind then min (least_own_of s kind) usual else least_own_of s kind

-- some link of the machine has this latency; a core and a channel have three links
abbrev pub SomeLinkTakes : Config → ℕ → Type 0
SomeLinkTakes s cycles = (link : ℕ) × (link < 3 * s.cores * s.channels) × (latency s link ≡ cycles)
