-- What becomes of the requests of a run.
--     serves_entry core entry command      a command is a column command for an entry of a core
--     IsServedAt s traces n core entry channel cycle      a channel serves an entry in a cycle
--     RequestsAreServedOnce s traces n      an entry is served by at most one command
--     AnswersRead trace steps m      a reply is that of a Read that the core issued before the reply arrives
--     RepliesAnswerReads s traces n      each reply is that of such a Read
--     ReadsAreAnsweredOnce s traces n      no two replies are those of one entry
--     CommandsNameTheQueue s traces n      a command is issued only on behalf of an entry whose request is in the queue
use Rattle.std.specs.Prelude.{◌≡◌, ℕ, ◌<◌, ◌≤◌, Bool, false, IsTrue, List, take, slice_get, slice_index_or, count_by, All, Contains, IfSome, Option, Some, None}
use Rattle.sim_base.specs.declared.config.Config.{Config}
use Rattle.sim_base.specs.History.{trace_of, steps_of_core, issued_before, inbox}
use Rattle.sim_base.specs.Counts.{source_in}
use Rattle.sim_base.specs.Scheduling.{queue_in, source_of, is_column_command_of}
use Rattle.sim_base.specs.Machine.{run}
use Rattle.sim_base.specs.Windows.{is_reply_to}
use Rattle.sim_base.specs.declared.history.CoreStep.{CoreStep}
use Rattle.sim_base.specs.declared.command.Command.{Command}
use Rattle.sim_base.specs.declared.message.Payload.{Payload}
use Rattle.sim_base.specs.declared.message.Payload.TheVariants as payload
use Rattle.sim_base.specs.declared.message.Message.{Message}
use Rattle.sim_base.specs.declared.message.Request.{Request}
use Rattle.sim_base.specs.declared.message.Unit.TheVariants.{Core, Channel}
use Rattle.sim_base.specs.declared.trace.Entry.{Entry}
use Rattle.sim_base.specs.declared.trace.Entry.TheVariants.{Read}
use Rattle.laws.specs.Commands.{channel_steps_of}

-- a command is a column command for an entry of a core
abbrev pub serves_entry : ℕ → ℕ → Command → Bool
serves_entry core entry = is_column_command_of (record { core = core; entry = entry })

-- whether a command, if there is one, serves this entry of this core
abbrev pub serves_entry_in : ℕ → ℕ → Option Command → Bool
serves_entry_in core entry None = false
serves_entry_in core entry (Some command) = serves_entry core entry command

-- a channel serves an entry of a core in a cycle, by a column command
abbrev pub IsServedAt : Config → List (List Entry) → ℕ → ℕ → ℕ → ℕ → ℕ → Type 0
IsServedAt s traces n core entry channel cycle =
    IsTrue (serves_entry_in core entry (slice_index_or (channel_steps_of s traces n channel) cycle None))

-- an entry of a core is served by at most one channel, and in at most one cycle
abbrev pub RequestsAreServedOnce : Config → List (List Entry) → ℕ → Type 0
RequestsAreServedOnce s traces n =
    (core entry channel other cycle later : ℕ) → channel < s.channels → other < s.channels →
    IsServedAt s traces n core entry channel cycle → IsServedAt s traces n core entry other later →
    (channel ≡ other) × (cycle ≡ later)

-- this entry reads memory
abbrev pub IsRead : List Entry → ℕ → Type 0
IsRead trace entry = (address : ℕ) × (slice_get trace entry ≡ Some (Read address))

-- a reply to an entry in a cycle is that of a Read that was issued in an earlier cycle
abbrev pub AnswersReadAs : List Entry → List CoreStep → ℕ → Payload → Type 0
AnswersReadAs trace steps cycle (payload.Reply entry) = IsRead trace entry × entry < issued_before (take cycle steps)
AnswersReadAs trace steps cycle (payload.Request r) = Unit {0}
AnswersReadAs trace steps cycle (payload.Credit access entry) = Unit {0}

-- a message that is a reply is that of a Read that the core issued before the cycle in which the reply arrives
abbrev pub AnswersRead : List Entry → List CoreStep → Message → Type 0
AnswersRead trace steps m = AnswersReadAs trace steps m.arrival m.payload

-- each reply that is sent to a core in the first n cycles is that of such a Read
abbrev pub RepliesAnswerReads : Config → List (List Entry) → ℕ → Type 0
RepliesAnswerReads s traces n =
    (core : ℕ) → core < s.cores →
    All (AnswersRead (trace_of traces core) (steps_of_core core (run s traces n)))
    (inbox s traces (run s traces n) (Core core))

-- no two replies are sent for the same entry
abbrev pub ReadsAreAnsweredOnce : Config → List (List Entry) → ℕ → Type 0
ReadsAreAnsweredOnce s traces n =
    (core entry : ℕ) → core < s.cores
    → count_by (λ m. is_reply_to entry m.payload) (inbox s traces (run s traces n) (Core core)) ≤ 1

-- each command that is issued on behalf of an entry is issued while the entry's request is in the channel's queue
abbrev pub CommandsNameTheQueue : Config → List (List Entry) → ℕ → Type 0
CommandsNameTheQueue s traces n =
    (channel cycle : ℕ) (command : Command) → channel < s.channels → cycle < n →
    slice_index_or (channel_steps_of s traces n channel) cycle None ≡ Some command →
    let queue = queue_in channel (channel_steps_of s traces n channel)
    (inbox s traces (run s traces n) (Channel channel)) cycle in
    IfSome (source_in command) (λ source. (r : Request) × Contains queue r × (source ≡ source_of r))
