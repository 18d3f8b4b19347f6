-- What a configuration says: its numbers, its fields and its overrides, apart from what is proved of them.
--     Values      what the keys of a configuration say
--     values_of s      those of a configuration
--     values_from number fields overrides ends_drained      those of a configuration whose number at each key is this
--     IsRelated v      each relation between them holds
use Rattle.std.specs.Prelude.{ℕ, Bool, List}
use Rattle.sim_base.specs.Keys.{timing_from}
use Rattle.sim_base.specs.Relations.{DistancesFit, RefreshFits, CreditsFit, LinksExist, LinksDiffer, RanksHaveField, DrainFits}
use Rattle.sim_base.specs.declared.config.Config.{Config}
use Rattle.sim_base.specs.declared.key.Key.{Key}
use Rattle.sim_base.specs.declared.key.Key.TheVariants as key
use Rattle.sim_base.specs.declared.overrides.Override.{Override}
use Rattle.sim_base.specs.declared.place.Field.{Field}
use Rattle.sim_base.specs.declared.timing.Timing.{Timing}

-- what the keys of a configuration say
pub record Values : Type 0 where
  pub cores : ℕ
  pub channels : ℕ
  pub ranks : ℕ
  pub groups : ℕ
  pub columns : ℕ
  pub rows : ℕ
  pub fields : List Field
  pub window : ℕ
  pub width : ℕ
  pub read_credits : ℕ
  pub write_credits : ℕ
  pub request_latency : ℕ
  pub reply_latency : ℕ
  pub credit_latency : ℕ
  pub timing : Timing
  pub write_high : ℕ
  pub write_low : ℕ
  pub overrides : List Override
  pub ends_drained : Bool

-- what a configuration says
abbrev pub values_of : Config → Values
values_of s = record {
  cores = s.cores;
  channels = s.channels;
  ranks = s.ranks;
  groups = s.groups;
  columns = s.columns;
  rows = s.rows;
  fields = s.fields;
  window = s.window;
  width = s.width;
  read_credits = s.read_credits;
  write_credits = s.write_credits;
  request_latency = s.request_latency;
  reply_latency = s.reply_latency;
  credit_latency = s.credit_latency;
  timing = s.timing;
  write_high = s.write_high;
  write_low = s.write_low;
  overrides = s.overrides;
  ends_drained = s.ends_drained;
}

-- what a configuration says whose number at each key is this, with these fields, overrides and end
abbrev pub values_from : (Key → ℕ) → List Field → List Override → Bool → Values
values_from number fields overrides ends_drained = record {
  cores = number key.Cores;
  channels = number key.Channels;
  ranks = number key.Ranks;
  groups = number key.Groups;
  columns = number key.Columns;
  rows = number key.Rows;
  fields = fields;
  window = number key.Window;
  width = number key.Width;
  read_credits = number key.ReadCredits;
  write_credits = number key.WriteCredits;
  request_latency = number key.RequestLatency;
  reply_latency = number key.ReplyLatency;
  credit_latency = number key.CreditLatency;
  timing = timing_from number;
  write_high = number key.WriteHigh;
  write_low = number key.WriteLow;
  overrides = overrides;
  ends_drained = ends_drained;
}

-- each relation between these numbers holds
pub record IsRelated (v : Values) : Type 0 where
  pub distances_fit : DistancesFit v.timing
  pub refresh_fits : RefreshFits v.timing v.ranks
  pub credits_fit : CreditsFit v.cores v.read_credits v.write_credits
  pub links_exist : LinksExist v.cores v.channels v.overrides
  pub links_differ : LinksDiffer v.overrides
  pub ranks_have_field : RanksHaveField v.ranks v.fields
  pub drain_fits : DrainFits v.cores v.write_credits v.write_high v.write_low
