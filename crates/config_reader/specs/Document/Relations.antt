-- The tests of what must hold between the numbers of a configuration, by their numbers from 1 to 12.
--     relation n holds      refuses a relation that does not hold, by its number
--     relations_of v      the first relation that does not hold
--     distances_of, refresh_of, credits_of, links_of, ranks_of, drain_fits_of      one relation after the other
use Rattle.std.specs.Prelude.{ℕ, ◌+◌, ◌*◌, List, [], ◌∷◌, Bool, true, not, nat_lt, nat_le, ◌==◌, ◌&&◌, ◌||◌, if◌then◌else◌, count_by, Result, Ok, Err}
use Rattle.std.specs.List.{list_any, list_all}
use Rattle.sim_base.specs.Fields.{is_field}
use Rattle.sim_base.specs.Relations.{refresh_slack_of, LinksExist, LinksDiffer}
use Rattle.sim_base.specs.Values.{Values}
use Rattle.sim_base.specs.declared.fault.Fault.{Fault}
use Rattle.sim_base.specs.declared.fault.Fault.TheVariants.{ConfigRelation}
use Rattle.sim_base.specs.declared.overrides.Override.{Override}
use Rattle.sim_base.specs.declared.place.Field.{Field}
use Rattle.sim_base.specs.declared.place.Field.TheVariants.{Rank}
use Rattle.sim_base.specs.declared.timing.Timing.{Timing}
use Rattle.sim_base.specs.TraceText.{◌>>=◌}

-- what relations 8 and 9 say: each override is for a link of the machine, no two for the same one
abbrev pub LinksFit : ℕ → ℕ → List Override → Type 0
LinksFit cores channels overrides = LinksExist cores channels overrides × LinksDiffer overrides

-- refuses a relation that does not hold, by its number
abbrev pub relation : ℕ → Bool → Result (Unit {0}) Fault
relation n holds = if holds then Ok tt else Err (ConfigRelation n)

-- relations 1 to 5: the distances between commands agree with one another
unfoldable pub distances_of : Timing → Result (Unit {0}) Fault
distances_of t = do
  _ ← relation 1 (nat_le (t.n_cl + 4) (t.n_rtw + t.n_cwl))
  _ ← relation 2 (nat_le 4 t.n_ccd_s)
  _ ← relation 3 (nat_le t.n_ccd_s t.n_ccd_l)
  _ ← relation 4 (nat_le t.n_rrd_s t.n_rrd_l)
  relation 5 (nat_le t.n_wtr_s t.n_wtr_l)

-- relation 6: where there are refreshes, even the latest permitted one is over before the next one is due
unfoldable pub refresh_of : Timing → ℕ → Result (Unit {0}) Fault
refresh_of t ranks = relation 6 ((t.n_refi == 0) || nat_le (refresh_slack_of t ranks + t.n_rfc + 1) t.n_refi)

-- relation 7: the queue of a channel, of at most 8192 places, has one for each credit
unfoldable pub credits_of : ℕ → ℕ → ℕ → Result (Unit {0}) Fault
credits_of cores read_credits write_credits = relation 7 (nat_le (cores * (read_credits + write_credits)) 8192)

-- no two overrides are for the same link
abbrev pub links_differ : List Override → Bool
links_differ [] = true
links_differ (o ∷ os) = not (list_any (λ p. p.link == o.link) os) && links_differ os

-- relations 8 and 9: each override is for a link of the machine, and no two are for the same link
unfoldable pub links_of : ℕ → ℕ → List Override → Result (Unit {0}) Fault
links_of cores channels overrides = do
  _ ← relation 8 (list_all (λ o. nat_lt o.link (3 * cores * channels)) overrides)
  relation 9 (links_differ overrides)

-- relation 10: where there are several ranks, an address says which one it lies in
unfoldable pub ranks_of : ℕ → List Field → Result (Unit {0}) Fault
ranks_of ranks fields = relation 10 ((ranks == 1) || (count_by (is_field Rank) fields == 1))

-- relations 11 and 12: a drain, if there is one, begins above where it ends, and its beginning can be reached
unfoldable pub drain_fits_of : ℕ → ℕ → ℕ → ℕ → Result (Unit {0}) Fault
drain_fits_of cores write_credits write_high write_low = do
  _ ← relation 11 ((write_high + write_low == 0) || nat_lt write_low write_high)
  relation 12 (nat_le write_high (cores * write_credits))

-- the relations in the order of their numbers: the fault is that of the first that does not hold
unfoldable pub relations_of : Values → Result (Unit {0}) Fault
relations_of v = do
  _ ← distances_of v.timing
  _ ← refresh_of v.timing v.ranks
  _ ← credits_of v.cores v.read_credits v.write_credits
  _ ← links_of v.cores v.channels v.overrides
  _ ← ranks_of v.ranks v.fields
  drain_fits_of v.cores v.write_credits v.write_high v.write_low
