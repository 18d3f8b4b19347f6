-- The keys of a configuration: their names, what may stand at each, and so how large each of its numbers may be.
--     key_name key      the key's name in a document
--     key_accepts key      what may stand at it
--     key_default key      the number that stands for it where it is absent, if there is one
--     Within low high n      a number lies in a range
--     IsAccepted accepts n, AcceptedAt key n      a number is accepted, may stand at a key
--     MachineInRange cores channels      these numbers of units may stand at their keys
--     MemoryInRange ranks groups columns rows      so may these sizes of a channel's memory
--     CoreInRange window width read_credits write_credits      so may what a core holds and does at once
--     LatenciesInRange request reply credit, OverridesInRange overrides      so may these latencies of messages
--     TimingInRange t      so may these distances between commands
--     DrainInRange write_high write_low      so may these numbers of writes, at which a drain begins and ends
--     numbers_before_fields, numbers_behind_fields      the keys of numbers, in the order in which they are tested
--     document_keys      the keys that a document may have, beside those of an item of `link`
--     has_number key      a document has a number at this key
--     timing_from number      the distances between commands, from the number at each key
use Rattle.std.specs.Prelude.{ℕ, ◌≤◌, List, [], ◌∷◌, ◌++◌, All, IsTrue, Bool, true, false, Option, Some, None, codes}
use Rattle.std.specs.Int.{is_power_of_two}
use Rattle.sim_base.specs.declared.key.Key.{Key}
use Rattle.sim_base.specs.declared.key.Key.TheVariants as key
use Rattle.sim_base.specs.declared.key.Accepts.{Accepts}
use Rattle.sim_base.specs.declared.key.Accepts.TheVariants.{Integer, PowerOfTwo, Fields, End, Links, Nothing}
use Rattle.sim_base.specs.declared.overrides.Override.{Override}
use Rattle.sim_base.specs.declared.timing.Timing.{Timing}

-- the key's name in a document
abbrev pub key_name : Key → List ℕ
key_name key.Cores = codes "cores"
key_name key.Channels = codes "channels"
key_name key.Groups = codes "groups"
key_name key.Ranks = codes "ranks"
key_name key.Columns = codes "columns"
key_name key.Rows = codes "rows"
key_name key.Fields = codes "fields"
key_name key.Window = codes "window"
key_name key.Width = codes "width"
key_name key.ReadCredits = codes "read_credits"
key_name key.WriteCredits = codes "write_credits"
key_name key.RequestLatency = codes "request_latency"
key_name key.ReplyLatency = codes "reply_latency"
key_name key.CreditLatency = codes "credit_latency"
key_name key.NRcd = codes "nRCD"
key_name key.NRp = codes "nRP"
key_name key.NRas = codes "nRAS"
key_name key.NRc = codes "nRC"
key_name key.NCl = codes "nCL"
key_name key.NCwl = codes "nCWL"
key_name key.NCcdS = codes "nCCD_S"
key_name key.NCcdL = codes "nCCD_L"
key_name key.NRrdS = codes "nRRD_S"
key_name key.NRrdL = codes "nRRD_L"
key_name key.NFaw = codes "nFAW"
key_name key.NRtp = codes "nRTP"
key_name key.NWr = codes "nWR"
key_name key.NWtrS = codes "nWTR_S"
key_name key.NWtrL = codes "nWTR_L"
key_name key.NRtw = codes "nRTW"
key_name key.NRfc = codes "nRFC"
key_name key.NRtrs = codes "nRTRS"
key_name key.NRefi = codes "nREFI"
key_name key.WriteHigh = codes "write_high"
key_name key.WriteLow = codes "write_low"
key_name key.End = codes "end"
key_name key.Link = codes "link"
key_name key.Id = codes "id"
key_name key.Latency = codes "latency"
key_name key.Unknown = codes "unknown"

-- what may stand at a key; the last line is that of the 17 distances between commands from nRCD to nRFC
abbrev pub key_accepts : Key → Accepts
key_accepts key.Cores = Integer 1 256
key_accepts key.Channels = PowerOfTwo 1 16
key_accepts key.Groups = PowerOfTwo 2 4
key_accepts key.Ranks = PowerOfTwo 1 4
key_accepts key.Columns = PowerOfTwo 1 1024
key_accepts key.Rows = PowerOfTwo 1 262144
key_accepts key.Fields = Fields
key_accepts key.Window = Integer 1 4096
key_accepts key.Width = Integer 1 16
key_accepts key.ReadCredits = Integer 1 64
key_accepts key.WriteCredits = Integer 1 64
key_accepts key.RequestLatency = Integer 1 1000000
key_accepts key.ReplyLatency = Integer 1 1000000
key_accepts key.CreditLatency = Integer 1 1000000
key_accepts key.NRtrs = Integer 0 100000
key_accepts key.NRefi = Integer 0 100000
key_accepts key.WriteHigh = Integer 0 8192
key_accepts key.WriteLow = Integer 0 8192
key_accepts key.End = End
key_accepts key.Link = Links
key_accepts key.Id = Integer 0 12287
key_accepts key.Latency = Integer 1 1000000
key_accepts key.Unknown = Nothing
key_accepts _ = Integer 1 100000

-- the number that stands for a key that is absent; there is none where the configuration is refused without the key, or
-- where its absence means something else: no link has a latency of its own, or the run ends at the limit
abbrev pub key_default : Key → Option ℕ
key_default key.Ranks = Some 1
key_default key.NRtrs = Some 0
key_default key.WriteHigh = Some 0
key_default key.WriteLow = Some 0
key_default _ = None

-- a number lies from low up to high
abbrev pub Within : ℕ → ℕ → ℕ → Type 0
Within low high n = (low ≤ n) × (n ≤ high)

-- a number is one that is accepted: a key that takes something else accepts none
abbrev pub IsAccepted : Accepts → ℕ → Type 0
IsAccepted (Integer low high) n = Within low high n
IsAccepted (PowerOfTwo low high) n = Within low high n × IsTrue (is_power_of_two n)
IsAccepted _ n = IsTrue false

-- a number is one that may stand at a key
abbrev pub AcceptedAt : Key → ℕ → Type 0
AcceptedAt k n = IsAccepted (key_accepts k) n

-- these numbers of cores and of channels may stand at their keys
pub record MachineInRange (cores channels : ℕ) : Type 0 where
  pub cores_in : AcceptedAt key.Cores cores
  pub channels_in : AcceptedAt key.Channels channels

-- these sizes of a channel's memory may stand at their keys: its ranks, their groups, the rows of a bank, and the lines
-- of a row
pub record MemoryInRange (ranks groups columns rows : ℕ) : Type 0 where
  pub ranks_in : AcceptedAt key.Ranks ranks
  pub groups_in : AcceptedAt key.Groups groups
  pub columns_in : AcceptedAt key.Columns columns
  pub rows_in : AcceptedAt key.Rows rows

-- these may stand at their keys: how many entries a core holds in its window and issues in a cycle, and how many
-- credits of each kind it has for a channel
pub record CoreInRange (window width read_credits write_credits : ℕ) : Type 0 where
  pub window_in : AcceptedAt key.Window window
  pub width_in : AcceptedAt key.Width width
  pub read_credits_in : AcceptedAt key.ReadCredits read_credits
  pub write_credits_in : AcceptedAt key.WriteCredits write_credits

-- these latencies of the three kinds of messages, in cycles, may stand at their keys
pub record LatenciesInRange (request reply credit : ℕ) : Type 0 where
  pub request_in : AcceptedAt key.RequestLatency request
  pub reply_in : AcceptedAt key.ReplyLatency reply
  pub credit_in : AcceptedAt key.CreditLatency credit

-- this latency may be a link's own
abbrev pub LatencyInRange : ℕ → Type 0
LatencyInRange latency = AcceptedAt key.Latency latency

-- the latency of each of these overrides may be a link's own
abbrev pub OverridesInRange : List Override → Type 0
OverridesInRange overrides = All (λ o. LatencyInRange o.latency) overrides

-- these distances between commands, in cycles, may stand at their keys
pub record TimingInRange (t : Timing) : Type 0 where
  pub n_rcd : AcceptedAt key.NRcd t.n_rcd
  pub n_rp : AcceptedAt key.NRp t.n_rp
  pub n_ras : AcceptedAt key.NRas t.n_ras
  pub n_rc : AcceptedAt key.NRc t.n_rc
  pub n_cl : AcceptedAt key.NCl t.n_cl
  pub n_cwl : AcceptedAt key.NCwl t.n_cwl
  pub n_ccd_s : AcceptedAt key.NCcdS t.n_ccd_s
  pub n_ccd_l : AcceptedAt key.NCcdL t.n_ccd_l
  pub n_rrd_s : AcceptedAt key.NRrdS t.n_rrd_s
  pub n_rrd_l : AcceptedAt key.NRrdL t.n_rrd_l
  pub n_faw : AcceptedAt key.NFaw t.n_faw
  pub n_rtp : AcceptedAt key.NRtp t.n_rtp
  pub n_wr : AcceptedAt key.NWr t.n_wr
  pub n_wtr_s : AcceptedAt key.NWtrS t.n_wtr_s
  pub n_wtr_l : AcceptedAt key.NWtrL t.n_wtr_l
  pub n_rtw : AcceptedAt key.NRtw t.n_rtw
  pub n_rfc : AcceptedAt key.NRfc t.n_rfc
  pub n_rtrs : AcceptedAt key.NRtrs t.n_rtrs
  pub n_refi : AcceptedAt key.NRefi t.n_refi

-- these numbers of waiting writes, at which a drain begins and ends, may stand at their keys
pub record DrainInRange (write_high write_low : ℕ) : Type 0 where
  pub write_high_in : AcceptedAt key.WriteHigh write_high
  pub write_low_in : AcceptedAt key.WriteLow write_low

-- the keys of numbers that are tested before the order of the fields of an address, one after the other
abbrev pub numbers_before_fields : List Key
numbers_before_fields = key.Cores ∷ key.Channels ∷ key.Groups ∷ key.Ranks ∷ key.Columns ∷ key.Rows ∷ []

-- the keys of numbers that are tested behind it
abbrev pub numbers_behind_fields : List Key
numbers_behind_fields =
    key.Window ∷ key.Width ∷ key.ReadCredits ∷ key.WriteCredits ∷ key.RequestLatency ∷ key.ReplyLatency
    ∷ key.CreditLatency
    ∷ key.NRcd ∷ key.NRp ∷ key.NRas ∷ key.NRc ∷ key.NCl ∷ key.NCwl ∷ key.NCcdS ∷ key.NCcdL ∷ key.NRrdS ∷ key.NRrdL
    ∷ key.NFaw
    ∷ key.NRtp ∷ key.NWr ∷ key.NWtrS ∷ key.NWtrL ∷ key.NRtw ∷ key.NRfc ∷ key.NRtrs ∷ key.NRefi ∷ key.WriteHigh
    ∷ key.WriteLow ∷ []

-- the keys that a document may have, beside those of an item of `link`
abbrev pub document_keys : List Key
document_keys = numbers_before_fields ++ key.Fields ∷ numbers_behind_fields ++ key.End ∷ key.Link ∷ []

-- a document has a number at this key: at each of its keys but three
abbrev pub has_number : Key → Bool
has_number key.Fields = false
has_number key.End = false
has_number key.Link = false
has_number key.Id = false
has_number key.Latency = false
has_number key.Unknown = false
has_number _ = true

-- the distances between commands of a configuration whose number at each key is this
abbrev pub timing_from : (Key → ℕ) → Timing
timing_from number = record {
  n_rcd = number key.NRcd;
  n_rp = number key.NRp;
  n_ras = number key.NRas;
  n_rc = number key.NRc;
  n_cl = number key.NCl;
  n_cwl = number key.NCwl;
  n_ccd_s = number key.NCcdS;
  n_ccd_l = number key.NCcdL;
  n_rrd_s = number key.NRrdS;
  n_rrd_l = number key.NRrdL;
  n_faw = number key.NFaw;
  n_rtp = number key.NRtp;
  n_wr = number key.NWr;
  n_wtr_s = number key.NWtrS;
  n_wtr_l = number key.NWtrL;
  n_rtw = number key.NRtw;
  n_rfc = number key.NRfc;
  n_rtrs = number key.NRtrs;
  n_refi = number key.NRefi;
}
