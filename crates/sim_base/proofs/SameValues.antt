-- A configuration is known by what it says.
use Rattle.std.proofs.Common.{◌≡◌, ap, subst}
use Rattle.std.proofs.Props.{props}
use Rattle.sim_base.specs.Keys.{MachineInRange, MemoryInRange, CoreInRange, LatenciesInRange, OverridesInRange, TimingInRange, DrainInRange}
use Rattle.sim_base.specs.Fields.{FieldsInOrder}
use Rattle.sim_base.specs.Relations.{DistancesFit, RefreshFits, CreditsFit, LinksExist, LinksDiffer, RanksHaveField, DrainFits}
use Rattle.sim_base.specs.Values.{Values, values_of}
use Rattle.sim_base.specs.declared.config.Config.{Config}

-- what is proved of a configuration that says this
record Facts (v : Values) : Type 0 where
  machine_in_range : MachineInRange v.cores v.channels
  memory_in_range : MemoryInRange v.ranks v.groups v.columns v.rows
  core_in_range : CoreInRange v.window v.width v.read_credits v.write_credits
  latencies_in_range : LatenciesInRange v.request_latency v.reply_latency v.credit_latency
  overrides_in_range : OverridesInRange v.overrides
  timing_in_range : TimingInRange v.timing
  drain_in_range : DrainInRange v.write_high v.write_low
  fields_in_order : FieldsInOrder v.fields
  distances_fit : DistancesFit v.timing
  refresh_fits : RefreshFits v.timing v.ranks
  credits_fit : CreditsFit v.cores v.read_credits v.write_credits
  links_exist : LinksExist v.cores v.channels v.overrides
  links_differ : LinksDiffer v.overrides
  ranks_have_field : RanksHaveField v.ranks v.fields
  drain_fits : DrainFits v.cores v.write_credits v.write_high v.write_low

-- a fact of it has one proof at most
Facts-prop : (v : Values) → IsProp (Facts v)
Facts-prop v = hlevel props

-- the configuration that says this
abbrev stated : (v : Values) → Facts v → Config
stated v f = record {
  cores = v.cores;
  channels = v.channels;
  ranks = v.ranks;
  groups = v.groups;
  columns = v.columns;
  rows = v.rows;
  fields = v.fields;
  window = v.window;
  width = v.width;
  read_credits = v.read_credits;
  write_credits = v.write_credits;
  request_latency = v.request_latency;
  reply_latency = v.reply_latency;
  credit_latency = v.credit_latency;
  timing = v.timing;
  write_high = v.write_high;
  write_low = v.write_low;
  overrides = v.overrides;
  ends_drained = v.ends_drained;
  machine_in_range = f.machine_in_range;
  memory_in_range = f.memory_in_range;
  core_in_range = f.core_in_range;
  latencies_in_range = f.latencies_in_range;
  overrides_in_range = f.overrides_in_range;
  timing_in_range = f.timing_in_range;
  drain_in_range = f.drain_in_range;
  fields_in_order = f.fields_in_order;
  distances_fit = f.distances_fit;
  refresh_fits = f.refresh_fits;
  credits_fit = f.credits_fit;
  links_exist = f.links_exist;
  links_differ = f.links_differ;
  ranks_have_field = f.ranks_have_field;
  drain_fits = f.drain_fits;
}

abbrev facts_of : (s : Config) → Facts (values_of s)
facts_of s = record {
  machine_in_range = s.machine_in_range;
  memory_in_range = s.memory_in_range;
  core_in_range = s.core_in_range;
  latencies_in_range = s.latencies_in_range;
  overrides_in_range = s.overrides_in_range;
  timing_in_range = s.timing_in_range;
  drain_in_range = s.drain_in_range;
  fields_in_order = s.fields_in_order;
  distances_fit = s.distances_fit;
  refresh_fits = s.refresh_fits;
  credits_fit = s.credits_fit;
  links_exist = s.links_exist;
  links_differ = s.links_differ;
  ranks_have_field = s.ranks_have_field;
  drain_fits = s.drain_fits;
}

stated-same : (v w : Values) → v ≡ w → (p : Facts v) (q : Facts w) → stated v p ≡ stated w q
stated-same v w e p =
    subst (λ (u : Values). (q : Facts u) → stated v p ≡ stated u q) e (λ q. ap (stated v) (Facts-prop v p q))

-- two configurations that say the same are the same
pub same_from_values : (a b : Config) → values_of a ≡ values_of b → a ≡ b
same_from_values a b e = stated-same (values_of a) (values_of b) e (facts_of a) (facts_of b)
