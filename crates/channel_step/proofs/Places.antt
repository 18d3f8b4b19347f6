-- Where the requests that wait lie.
use Rattle.std.proofs.Common.{◌≡◌, ℕ, ◌*◌, ◌<◌, ◌≤◌, ◌/◌, List, sym, subst, arith}
use Rattle.std.specs.List.{All, AllByRecursion as Each}
use Rattle.std.proofs.lemmas.List.Elements.{All-weaker}
use Rattle.sim_base.proofs.Banks.{digit_below}
use Rattle.sim_base.proofs.Each.{Each-all, Each-filter}
use Rattle.sim_base.proofs.Ordered.{Each-weaker}
use Rattle.sim_base.specs.declared.config.Config.{Config}
use Rattle.sim_base.specs.Places.{digit_of, field_of, place_of}
use Rattle.sim_base.specs.Scheduling.{is_queued, queued_requests}
use Rattle.sim_base.specs.declared.command.IssuedCommand.{IssuedCommand}
use Rattle.sim_base.specs.declared.message.Message.{Message}
use Rattle.sim_base.specs.declared.message.Request.{Request}
use Rattle.sim_base.specs.declared.place.Place.{Place}
use Rattle.sim_base.specs.declared.place.Field.TheVariants.{Rank, Group, Bank}
use Rattle.queue.specs.declared.request_log.Arrived.{Arrived}
use Rattle.queue.specs.Log.{all_requests}
use Rattle.queue.specs.Columns.{bank_number}
use Rattle.std.proofs.lemmas.List.{get_or-map, length-map}
use Rattle.channel_step.specs.FrFcfs.Requests.{IsInBanks}
use Rattle.channel_step.specs.Past.{carried_requests, IsRequestOf, CarriesRequest}
use Rattle.channel_step.proofs.Requests.{carried}

-- an address lies in one of the banks
abbrev pub InBanks : Config → Request → Type 0
InBanks s r = (r.place.rank < s.ranks) × (r.place.group < 4) × (r.place.bank < 4)

place-in_banks : (s : Config) (address : ℕ) → ((place_of s address).rank < s.ranks) × ((place_of s address).group < 4) × ((place_of s address).bank < 4)
unfolding place_of field_of
place-in_banks s address =
    let ranks : 1 ≤ s.ranks = s.memory_in_range.ranks_in.0.0 in
    let groups : 2 ≤ s.groups = s.memory_in_range.groups_in.0.0 in
    let most : s.groups ≤ 4 = s.memory_in_range.groups_in.0.1 in
    let a : digit_of s Rank s.fields (address / 64) < s.ranks = digit_below s Rank s.fields (address / 64) (omega arith) in
    let b : digit_of s Group s.fields (address / 64) < s.groups = digit_below s Group s.fields (address / 64) (omega arith) in
    let d : digit_of s Bank s.fields (address / 64) < 4 = digit_below s Bank s.fields (address / 64) (omega arith) in
    (a, omega arith, d)

pub request-in_banks : (s : Config) (channel : ℕ) (m : Message) (r : Request) → IsRequestOf s channel m r → InBanks s r
request-in_banks s channel m r h =
    subst (λ (p : Place). (p.rank < s.ranks) × (p.group < 4) × (p.bank < 4)) (sym h.place) (place-in_banks s r.address)

-- the requests that wait ask for banks that there are
pub queued_requests-in_banks : (s : Config) (channel : ℕ) (history : List IssuedCommand) (mail : List Message) (until : ℕ) → Each (CarriesRequest s channel) mail
    → Each (InBanks s) (queued_requests history mail until)
unfolding queued_requests
queued_requests-in_banks s channel history mail until h =
    Each-filter (InBanks s) (is_queued history until) (carried_requests mail)
    (carried s channel (InBanks s) mail h (Each-all _ (λ m r i. request-in_banks s channel m r i) mail))

pub queue-ranks : (s : Config) (channel : ℕ) (history : List IssuedCommand) (mail : List Message) (until : ℕ) (queue : List Request)
    → Each (CarriesRequest s channel) mail → queue ≡ queued_requests history mail until → Each (λ (r : Request). r.place.rank < s.ranks) queue
queue-ranks s channel history mail until queue h is =
    subst (Each (λ (r : Request). r.place.rank < s.ranks)) (sym is)
    (Each-weaker (InBanks s) (λ (r : Request). r.place.rank < s.ranks) (λ r b. b.0) (queued_requests history mail until) (queued_requests-in_banks s channel history mail until h))

-- the numbers of the banks that these requests ask for
pub below-count : (ranks count : ℕ) (queue : List Request) → count ≡ 16 * ranks → All (IsInBanks ranks) queue → All (λ r. bank_number r.place < count) queue
below-count ranks count queue is places =
    All-weaker (IsInBanks ranks) (λ (r : Request). bank_number r.place < count)
    (λ r placed. let rank = placed.rank in let group = placed.group in let bank = placed.bank in omega arith) queue places

-- of all requests that have arrived, each asks for a bank whose number is below the number of banks
pub banks-below : (ranks count : ℕ) (log : List Arrived) → count ≡ 16 * ranks → All (IsInBanks ranks) (all_requests log) → All (λ a. bank_number a.request.place < count) log
banks-below ranks count log is places k d within =
    let all = below-count ranks count (all_requests log) is places in
    subst (λ (r : Request). bank_number r.place < count) (get_or-map (λ (a : Arrived). a.request) log k d d.request within)
    (all k d.request (omega (arith, length-map log (λ (a : Arrived). a.request))))
