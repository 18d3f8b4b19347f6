-- What the messages of a run say.
--     is_request_of core entry payload      a request of this entry of this core
--     RequestsAreSentOnce s traces n      no entry is requested twice
--     IsRequestTo s traces history channel m r      a message carries a request to a channel, as the trace has it
--     RequestsFit s traces n      each message to a channel carries such a request
--     FitsCore s core link payload      a message to a core is a reply or a credit of a channel, on its link
--     AnswersFit s traces n      each message to a core is such a reply or credit
use Rattle.std.specs.Prelude.{◌≡◌, ℕ, ◌<◌, ◌≤◌, ◌==◌, Bool, false, ◌&&◌, List, slice_get, count_by, All, Some, IsSomeAnd}
use Rattle.sim_base.specs.declared.message.Access.{Access}
use Rattle.sim_base.specs.declared.message.Access.TheVariants as access
use Rattle.sim_base.specs.declared.config.Config.{Config}
use Rattle.sim_base.specs.Config.{request_link, reply_link, credit_link}
use Rattle.sim_base.specs.Places.{place_of}
use Rattle.sim_base.specs.MachineStep.{MachineStep}
use Rattle.sim_base.specs.History.{trace_of, steps_of_core, issued_before, messages, inbox}
use Rattle.sim_base.specs.Machine.{run}
use Rattle.sim_base.specs.Scheduling.{request_in}
use Rattle.sim_base.specs.declared.message.Payload.{Payload}
use Rattle.sim_base.specs.declared.message.Payload.TheVariants as payload
use Rattle.sim_base.specs.declared.message.Message.{Message}
use Rattle.sim_base.specs.declared.message.Request.{Request}
use Rattle.sim_base.specs.declared.message.Unit.TheVariants.{Core, Channel}
use Rattle.sim_base.specs.declared.trace.Entry.{Entry}
use Rattle.sim_base.specs.declared.trace.Entry.TheVariants.{Read, Write}

-- a request of this entry of this core
abbrev pub is_request_of : ℕ → ℕ → Payload → Bool
is_request_of core entry (payload.Request r) = (r.core == core) && (r.entry == entry)
is_request_of core entry (payload.Reply e) = false
is_request_of core entry (payload.Credit access e) = false

-- of the messages that are sent in the first n cycles, at most one is the request of an entry of a core
abbrev pub RequestsAreSentOnce : Config → List (List Entry) → ℕ → Type 0
RequestsAreSentOnce s traces n =
    (core entry : ℕ) → count_by (λ m. is_request_of core entry m.payload) (messages s traces (run s traces n)) ≤ 1

-- the entry of a trace that reads an address, or writes to it
abbrev pub memory_entry : Access → ℕ → Entry
memory_entry access.Read address = Read address
memory_entry access.Write address = Write address

-- a message carries this request to a channel: that of an entry which its core has issued, with the entry's kind and
-- address
pub record IsRequestTo (s : Config) (traces : List (List Entry)) (history : List MachineStep) (channel : ℕ)
    (m : Message) (r : Request) : Type 0 where
  pub core : r.core < s.cores
  pub entry : slice_get (trace_of traces r.core) r.entry ≡ Some (memory_entry r.access r.address)
  pub issued : r.entry < issued_before (steps_of_core r.core history)
  pub place : r.place ≡ place_of s r.address
  pub channel_of : r.place.channel ≡ channel
  pub link_of : m.link ≡ request_link s r.core channel
  pub link : r.link ≡ m.link
  pub arrival : r.arrival ≡ m.arrival

-- each message to a channel carries such a request
abbrev pub RequestsFit : Config → List (List Entry) → ℕ → Type 0
RequestsFit s traces n =
    (channel : ℕ) → channel < s.channels →
    All (λ m. IsSomeAnd (request_in m.payload) (IsRequestTo s traces (run s traces n) channel m))
    (inbox s traces (run s traces n) (Channel channel))

-- a message on this link to a core is a reply or a credit of a channel
abbrev pub FitsCore : Config → ℕ → ℕ → Payload → Type 0
FitsCore s core link (payload.Reply entry) = (channel : ℕ) × (channel < s.channels) × (link ≡ reply_link s core channel)
FitsCore s core link (payload.Credit access entry) =
    (channel : ℕ) × (channel < s.channels) × (link ≡ credit_link s core channel)
FitsCore s core link (payload.Request r) = ⊥

-- each message to a core is such a reply or credit
abbrev pub AnswersFit : Config → List (List Entry) → ℕ → Type 0
AnswersFit s traces n =
    (core : ℕ) → core < s.cores
    → All (λ m. FitsCore s core m.link m.payload) (inbox s traces (run s traces n) (Core core))
