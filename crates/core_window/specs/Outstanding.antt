-- Reads that wait for their reply.
--     is_read_at trace entry      the entry of this number is a Read
--     is_answered mail entry      a reply to an entry is among these messages
--     outstanding_reads trace steps mail      the Reads that were issued and have no reply, in order, with their cycles
--     IsByNumber outstanding      these Reads are in the order of their numbers, each of which is there once
use Rattle.std.specs.Prelude.{ℕ, ◌<◌, Bool, false, not, ◌&&◌, List, [], ◌∷◌, slice_get, Option, Some, None, if◌then◌else◌}
use Rattle.std.specs.List.{AllByRecursion as Each, filter_map, list_any}
use Rattle.sim_base.specs.Counts.{is_read, issue_cycle}
use Rattle.sim_base.specs.History.{below, issued_before}
use Rattle.sim_base.specs.Windows.{is_reply_to}
use Rattle.sim_base.specs.declared.history.CoreStep.{CoreStep}
use Rattle.sim_base.specs.declared.message.Message.{Message}
use Rattle.sim_base.specs.declared.trace.Entry.{Entry}
use Rattle.core_window.specs.declared.outstanding.OutstandingRead.{OutstandingRead}

-- an entry is a Read, where there is one
abbrev pub is_read_in : Option Entry → Bool
is_read_in (Some entry) = is_read entry
is_read_in None = false

-- the entry of this number is a Read
abbrev pub is_read_at : List Entry → ℕ → Bool
is_read_at trace entry = is_read_in (slice_get trace entry)

-- a reply to this entry is among the messages
unfoldable pub is_answered : List Message → ℕ → Bool
is_answered mail entry = list_any (λ m. is_reply_to entry m.payload) mail

-- an entry that was issued, if it is a Read that has no reply, with the cycle in which it was issued
unfoldable pub outstanding_read : List Entry → List CoreStep → List Message → ℕ → Option OutstandingRead
outstanding_read trace steps mail entry =
    if is_read_at trace entry && not (is_answered mail entry)
    then Some (record { entry = entry; issued = issue_cycle steps entry })
    else None

-- the Reads that were issued and have no reply, in order
unfoldable pub outstanding_reads : List Entry → List CoreStep → List Message → List OutstandingRead
outstanding_reads trace steps mail = filter_map (outstanding_read trace steps mail) (below (issued_before steps))

-- these Reads are in the order of their numbers, each of which is there once
abbrev pub IsByNumber : List OutstandingRead → Type 0
IsByNumber [] = Unit {0}
IsByNumber (read ∷ others) = Each (λ other. read.entry < other.entry) others × IsByNumber others
