-- The text of the table of the state in which a run ends.
--     final_header ranks      the names of its columns
--     final_fields ranks item numbers      the fields of a row
--     final_rows ranks state      its rows
--     final_text ranks state      the whole table
use Rattle.std.specs.Prelude.{ℕ, ◌/◌, ◌%◌, ◌==◌, List, [], ◌∷◌, ◌++◌, length, map, codes, Option, Some, None, if◌then◌else◌}
use Rattle.reports.specs.Commands.{rank_field}
use Rattle.reports.specs.Rows.{optional, numbered, table_text}
use Rattle.reports.specs.declared.final_state.Numbers.{Numbers}
use Rattle.sim_base.specs.declared.message.Payload.{Payload}
use Rattle.sim_base.specs.declared.message.Payload.TheVariants as payload
use Rattle.sim_base.specs.declared.message.Message.{Message}
use Rattle.sim_base.specs.declared.message.Request.{Request}
use Rattle.sim_base.specs.declared.message.Access.{Access}
use Rattle.sim_base.specs.declared.message.Access.TheVariants as access
use Rattle.statistics.specs.Values.{FinalCore, FinalChannel, FinalView}
use Rattle.statistics.specs.declared.final_state.Credits.{Credits}
use Rattle.statistics.specs.declared.final_state.OpenRow.{OpenRow}
use Rattle.sim_base.specs.Scheduling.{entry_in}

-- the names of the columns
abbrev pub final_header : ℕ → List (List ℕ)
final_header ranks =
    codes "item" ∷ codes "core" ∷ codes "channel" ∷ (rank_field ranks (codes "rank")
    ++ (codes "group" ∷ codes "bank" ∷ codes "entry" ∷ codes "cycle" ∷ codes "value" ∷ []))

-- the fields of a row: what it tells of, and its numbers
abbrev pub final_fields : ℕ → List ℕ → Numbers → List (List ℕ)
final_fields ranks item numbers =
    item ∷ optional numbers.core ∷ optional numbers.channel ∷ (rank_field ranks (optional numbers.rank)
    ++ (optional numbers.group ∷ optional numbers.bank ∷ optional numbers.entry ∷ optional numbers.cycle
    ∷ optional numbers.value ∷ []))

-- no number
abbrev pub blank : Numbers
blank =
    record {
      core = None;
      channel = None;
      rank = None;
      group = None;
      bank = None;
      entry = None;
      cycle = None;
      value = None;
    }

-- a count of a core, or of what it holds for a channel
abbrev pub core_numbers : ℕ → Option ℕ → ℕ → Numbers
core_numbers core channel count = record blank { core = Some core; channel = channel; value = Some count }

-- how many entries a core issued and retired
abbrev pub progress_rows : ℕ → ℕ → FinalCore → List (List (List ℕ))
progress_rows ranks core state =
    final_fields ranks (codes "issued") (core_numbers core None state.issued)
    ∷ final_fields ranks (codes "retired") (core_numbers core None state.retired)
    ∷ []

-- the credits that a core holds for a channel
abbrev pub credit_rows : ℕ → ℕ → ℕ → Credits → List (List (List ℕ))
credit_rows ranks core channel credits =
    final_fields ranks (codes "credit_read") (core_numbers core (Some channel) credits.read)
    ∷ final_fields ranks (codes "credit_write") (core_numbers core (Some channel) credits.write)
    ∷ []

-- the credits that a core holds, by channel
abbrev pub credits_of_core : ℕ → ℕ → FinalCore → List (List (List ℕ))
credits_of_core ranks core state = numbered (credit_rows ranks core) state.credits

-- the refreshes that are due to a rank of a channel
abbrev pub due_rows : ℕ → ℕ → ℕ → ℕ → List (List (List ℕ))
due_rows ranks channel rank due =
    final_fields ranks (codes "due") (record blank { channel = Some channel; rank = Some rank; value = Some due }) ∷ []

-- a row that is open in a bank of a channel
abbrev pub open_numbers : ℕ → OpenRow → Numbers
open_numbers channel opened =
    record blank {
      channel = Some channel;
      rank = Some opened.bank.rank;
      group = Some opened.bank.group;
      bank = Some opened.bank.bank;
      value = Some opened.row;
    }

abbrev pub open_fields : ℕ → ℕ → OpenRow → List (List ℕ)
open_fields ranks channel opened = final_fields ranks (codes "open") (open_numbers channel opened)

-- what a request that waits is called
abbrev pub queued_item : Access → List ℕ
queued_item access.Read = codes "queued_read"
queued_item access.Write = codes "queued_write"

-- a request that waits in the queue of a channel
abbrev pub queued_numbers : ℕ → Request → Numbers
queued_numbers channel request =
    record {
      core = Some request.core;
      channel = Some channel;
      rank = Some request.place.rank;
      group = Some request.place.group;
      bank = Some request.place.bank;
      entry = Some request.entry;
      cycle = Some request.arrival;
      value = Some request.address;
    }

abbrev pub queued_fields : ℕ → ℕ → Request → List (List ℕ)
queued_fields ranks channel request = final_fields ranks (queued_item request.access) (queued_numbers channel request)

-- a channel: the refreshes that are due, by rank, its open rows, and its queue
abbrev pub channel_rows : ℕ → ℕ → FinalChannel → List (List (List ℕ))
channel_rows ranks channel state =
    numbered (due_rows ranks channel) state.due
    ++ (map (open_fields ranks channel) state.open_rows ++ map (queued_fields ranks channel) state.queue)

-- what a message that carries this is called
abbrev pub flight_item : Payload → List ℕ
flight_item (payload.Request request) = codes "flight_request"
flight_item (payload.Reply entry) = codes "flight_reply"
flight_item (payload.Credit access.Read entry) = codes "flight_credit_read"
flight_item (payload.Credit access.Write entry) = codes "flight_credit_write"

-- the core of a link of a machine with this many channels; none where there is no channel
abbrev pub core_of_link : ℕ → ℕ → Option ℕ
core_of_link channels link = if channels == 0 then None else Some (link / 3 / channels)

-- its channel
abbrev pub channel_of_link : ℕ → ℕ → Option ℕ
channel_of_link channels link = if channels == 0 then None else Some (link / 3 % channels)

-- a message in flight of a machine with this many channels
abbrev pub flight_numbers : ℕ → Message → Numbers
flight_numbers channels message =
    record blank {
      core = core_of_link channels message.link;
      channel = channel_of_link channels message.link;
      entry = Some (entry_in message.payload);
      cycle = Some message.arrival;
      value = Some message.link;
    }

abbrev pub flight_fields : ℕ → ℕ → Message → List (List ℕ)
flight_fields ranks channels message =
    final_fields ranks (flight_item message.payload) (flight_numbers channels message)

-- the rows: the progress of each core, the credits of each core, each channel, and the messages in flight
abbrev pub final_rows : ℕ → FinalView → List (List (List ℕ))
final_rows ranks state =
    numbered (progress_rows ranks) state.cores
    ++ (numbered (credits_of_core ranks) state.cores
    ++ (numbered (channel_rows ranks) state.channels
    ++ map (flight_fields ranks (length state.channels)) state.in_flight))

-- the table of the state in which a run ends
unfoldable pub final_text : ℕ → FinalView → List ℕ
final_text ranks state = table_text (final_header ranks) (final_rows ranks state)
