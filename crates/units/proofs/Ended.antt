-- The state in which units are left.
use Rattle.std.proofs.Common.{◌≡◌, ℕ, ◌+◌, ◌<◌, List, [], ◌∷◌, ◌++◌, length, map, slice_get, Option, Some, sym, ap, ap₂, ◌∙◌, zero-add, arith}
use Rattle.std.specs.Prelude.{filter_map, flat_map}
use Rattle.std.specs.Option.{option_to_list}
use Rattle.std.proofs.lemmas.List.Elements.{filter_map-append}
use Rattle.std.proofs.lemmas.List.{ext_get_or}
use Rattle.std.proofs.lemmas.List.FromFn.{length-map-range_with_len, get_or-map-range_with_len}
use Rattle.std.proofs.lemmas.Option.{get_or_from_slice_get}
use Rattle.sim_base.specs.Final.{due_left, banks, queue_left}
use Rattle.sim_base.specs.Scheduling.{queued_requests, due}
use Rattle.statistics.specs.Cores.{core_stats}
use Rattle.statistics.specs.declared.final_state.OpenRow.{OpenRow}
use Rattle.sim_base.specs.declared.message.Request.{Request}
use Rattle.sim_base.specs.declared.message.Message.{Message}
use Rattle.sim_base.specs.declared.command.IssuedCommand.{IssuedCommand}
use Rattle.statistics.specs.declared.cores.CoreStats.{CoreStats}
use Rattle.laws.specs.Commands.{history_of, channel_steps_of}
use Rattle.units.proofs.SpanLaws.ChannelsOn.{channels-end_alike}
use Rattle.sim_base.specs.declared.config.Config.{Config}
use Rattle.sim_base.specs.declared.trace.Entry.{Entry}
use Rattle.sim_base.specs.History.{below, trace_of}
use Rattle.statistics.specs.Runs.{credits_of, core_final, open_row_of_bank, open_rows_left, channel_final, final_of_core, final_of_channel}
use Rattle.statistics.specs.Values.{FinalCore, FinalChannel, FinalView, RunStats, RunOutcome}
use Rattle.request_table.specs.declared.times.RequestTimes.{RequestTimes}
use Rattle.statistics.specs.declared.tables.Tables.{Tables}
use Rattle.laws.proofs.Legal.{length-channel_steps_of}
use Rattle.core_window.specs.Views.{CoreView}
use Rattle.units.specs.SpanLaws.Cores.{IsCoreAt, core_steps_of}
use Rattle.units.specs.SpanLaws.Mail.{mail_before}
use Rattle.units.proofs.SpanLaws.CoresOn.{cores-end_alike}
use Rattle.sim_base.specs.Machine.{run}
use Rattle.sim_base.specs.declared.message.Unit.TheVariants as unit
use Rattle.sim_base.proofs.Lists.{flat_map_below-more, cons_option-none, map_below-more}

-- what a function gives of the elements so far, with one more
pub given_more : {X Y : Type 0} (g : X → Option Y) (f : ℕ → X) (n : ℕ) → filter_map g (map f (below (n + 1))) ≡ filter_map g (map f (below n)) ++ option_to_list (g (f n))
given_more g f n =
    ap (filter_map g) (map_below-more f n) ∙ filter_map-append g (map f (below n)) (f n ∷ []) ∙ ap (λ z. filter_map g (map f (below n)) ++ z) (cons_option-none (g (f n)))

-- what a function gives of the elements of lists so far, with one more list
pub given_list : {X Y : Type 0} (g : X → Option Y) (f : ℕ → List X) (n : ℕ) → filter_map g (flat_map f (below (n + 1))) ≡ filter_map g (flat_map f (below n)) ++ filter_map g (f n)
given_list g f n = ap (filter_map g) (flat_map_below-more f n) ∙ filter_map-append g (flat_map f (below n)) (f n)

-- a list that has this at each place
pub placed : {X : Type 0} (f : ℕ → X) (n : ℕ) (xs : List X) → length xs ≡ n → ((i : ℕ) → i < n → slice_get xs i ≡ Some (f i)) → xs ≡ map f (below n)
placed f n xs e h =
    let long : length (map f (below n)) ≡ n = length-map-range_with_len f 0 n in
    ext_get_or (f 0) xs (map f (below n)) (e ∙ sym long)
    (λ i l. let k : i < n = omega (arith, e, l) in
    get_or_from_slice_get xs i (f i) (f 0) (h i k) ∙ sym (get_or-map-range_with_len f 0 n i i (f 0) k (zero-add i)))

-- the state of a core, as it keeps it
pub core_left_is : (s : Config) (traces : List (List Entry)) (core now : ℕ) (view : CoreView) → IsCoreAt s traces core now view
    → ◌≡◌ {A = FinalCore} (record { issued = view.stats.issued; retired = view.stats.retired; credits = view.credits }) (final_of_core s traces (run s traces now) core)
unfolding core_final core_stats
core_left_is s traces core now view h =
    let steps = core_steps_of s traces now core in
    let trace = trace_of traces core in
    let mail = mail_before s traces now (unit.Core core) now in
    ap₂ {C = FinalCore} (λ (x : CoreStats) credits. record { issued = x.issued; retired = x.retired; credits = credits }) h.stats
    (placed (credits_of s core trace steps mail) s.channels view.credits h.channels h.credits)
    ∙ (cores-end_alike s traces now core).1

-- the state of a channel, by what it keeps
pub channel_left_is : (s : Config) (traces : List (List Entry)) (channel now : ℕ)
    → ◌≡◌ {A = FinalChannel} (record {
      due = map (λ rank. due s rank (history_of s traces now channel) now) (below s.ranks);
      open_rows = filter_map (open_row_of_bank (history_of s traces now channel)) (banks s);
      queue = queued_requests (history_of s traces now channel) (mail_before s traces now (unit.Channel channel) now) (length (channel_steps_of s traces now channel));
    })
    (final_of_channel s traces (run s traces now) channel)
unfolding channel_final due_left open_rows_left queue_left
channel_left_is s traces channel now =
    let h = history_of s traces now channel in
    ap {B = FinalChannel} (λ n. record {
      due = map (λ rank. due s rank h n) (below s.ranks);
      open_rows = filter_map (open_row_of_bank h) (banks s);
      queue = queued_requests h (mail_before s traces now (unit.Channel channel) now) (length (channel_steps_of s traces now channel));
    })
    (sym (length-channel_steps_of s traces now channel))
    ∙ (channels-end_alike s traces now channel).1

-- three lists that are the same leave the same
pub left_of : {due due' : List ℕ} → {rows rows' : List OpenRow} → {queue queue' : List Request} → due ≡ due' → rows ≡ rows' → queue ≡ queue'
    → ◌≡◌ {A = FinalChannel} (record { due = due; open_rows = rows; queue = queue }) (record { due = due'; open_rows = rows'; queue = queue' })
left_of e f g = cc

pub state_of : {cores cores' : List FinalCore} → {channels channels' : List FinalChannel} → {flight flight' : List Message} → cores ≡ cores' → channels ≡ channels' → flight ≡ flight'
    → ◌≡◌ {A = FinalView} (record { cores = cores; channels = channels; in_flight = flight }) (record { cores = cores'; channels = channels'; in_flight = flight' })
state_of e f g = cc

pub outcome_is : {rows rows' : Option (List IssuedCommand)} → {requests requests' : Option (List RequestTimes)} → {stats stats' : RunStats} → {last last' : FinalView} → (tables : Tables) (ranks : ℕ)
    → rows ≡ rows' → requests ≡ requests' → stats ≡ stats' → last ≡ last'
    → ◌≡◌ {A = RunOutcome} (record { tables = tables; commands = rows; requests = requests; stats = stats; last = last; ranks = ranks })
    (record { tables = tables; commands = rows'; requests = requests'; stats = stats'; last = last'; ranks = ranks })
outcome_is tables ranks e f g h = cc
