-- A memory that a program in C keeps.
--     IsWell m      it is closed and owns nothing, or open with a memory whose channels have some pasts
--     ForOpen m fact, ForMemory m fact      a fact of its memory, where it is open, and of each past that its channels may have
--     ForPasts m fact      a fact of the pasts of its channels, where it is open
--     HasPasts m pasts      it is open, and its channels have these pasts
--     StandsAt m now      it is open, and its memory stands at this cycle
--     StandsAsBefore old new      where it was open, it is, and stands where it stood
--     IsOf m s      it is open, and its memory is that of a machine with this configuration
--     IsClosed m      it is closed
--     IsNewMemory text memory      a memory before its first cycle, for the configuration of a text
--     IsOpened text m      it is open with such a memory
--     configuration_refusal document      why it is not opened
--     stats_answer stats      what a call answers that asks for the statistics of a channel
--     IsCommandRow s pasts now given, IsReplyRow s pasts now given      the row of the next command, or reply, of all channels, with the channel's number
--     with_command_at pasts now number, with_reply_at pasts now number      the next command, or reply, of a channel was taken
--     with_command_given pasts now given, with_reply_given pasts now given      the same, where a call gave one
use Rattle.std.specs.Prelude.{◌≡◌, ℕ, List, false, Option, Some, None, Result, Ok, Err}
use Rattle.config_reader.specs.Document.{document_of}
use Rattle.sessions.specs.declared.channel_session.fault.SessionFault.TheVariants.{NoSuchChannel}
use Rattle.sessions.specs.Sessions.{next_command_of, next_reply_of, with_command, with_reply}
use Rattle.sessions.specs.Memories.{Pasts, IsMemory, IsOpenMemory, no_pasts, with_past, IsNextCommandAt, IsNextCommand, IsNextReplyAt, IsNextReply}
use Rattle.sessions.specs.declared.memory_session.memory.MemorySession.{MemorySession}
use Rattle.sim_base.specs.Values.{Values, values_of}
use Rattle.sim_base.specs.declared.config.Config.{Config}
use Rattle.sim_base.specs.declared.fault.Fault.{Fault}
use Rattle.sim_base.specs.declared.command.IssuedCommand.{IssuedCommand}
use Rattle.sim_base.specs.declared.message.Message.{Message}
use Rattle.statistics.specs.declared.channels.ChannelStats.{ChannelStats}
use Rattle.dramsim_c.specs.CInterface.Kept.{IsWellAt, IsThere}
use Rattle.dramsim_c.specs.CInterface.Rows.{command_row, reply_row}
use Rattle.dramsim_c.specs.declared.c_interface.fault.CallFault.{CallFault}
use Rattle.dramsim_c.specs.declared.c_interface.fault.CallFault.TheVariants as call
use Rattle.dramsim_c.specs.declared.c_interface.rows.CommandRow.{CommandRow}
use Rattle.dramsim_c.specs.declared.c_interface.rows.ReplyRow.{ReplyRow}
use Rattle.dramsim_c.specs.declared.c_interface.c_memory.memory.KeptMemory.{KeptMemory}

-- a memory that is open has channels with some pasts, and one that is closed has none
abbrev pub IsWell : KeptMemory → Type 0
IsWell m = IsWellAt IsOpenMemory m.is_open m.handle.value

-- its channels have these pasts
abbrev pub HasPasts : KeptMemory → Pasts → Type 0
HasPasts m pasts = IsThere (λ memory. IsMemory memory pasts) m.handle.value

-- this is so of the pasts that its channels may have, where it is open
abbrev pub ForPasts : KeptMemory → (Pasts → Type 0) → Type 0
ForPasts m fact = (pasts : Pasts) → HasPasts m pasts → fact pasts

-- this is so of its memory, where it is open
abbrev pub ForOpen : KeptMemory → (MemorySession → Type 0) → Type 0
ForOpen m fact = (memory : MemorySession) → m.handle.value ≡ Some memory → fact memory

-- this is so of its memory, where it is open, and of the pasts that its channels may have
abbrev pub ForMemory : KeptMemory → (MemorySession → Pasts → Type 0) → Type 0
ForMemory m fact =
    (memory : MemorySession) (pasts : Pasts) → m.handle.value ≡ Some memory → IsMemory memory pasts → fact memory pasts

-- it stands at this cycle
abbrev pub StandsAt : KeptMemory → ℕ → Type 0
StandsAt m now = IsThere (λ (memory : MemorySession). memory.cycle ≡ now) m.handle.value

-- where it stood at a cycle, it does so still
abbrev pub StandsAsBefore : KeptMemory → KeptMemory → Type 0
StandsAsBefore old new = (cycle : ℕ) → StandsAt old cycle → StandsAt new cycle

-- it is the memory of a machine with this configuration
abbrev pub IsOf : KeptMemory → Config → Type 0
IsOf m s = IsThere (λ (memory : MemorySession). memory.config ≡ s) m.handle.value

-- it is closed
abbrev pub IsClosed : KeptMemory → Type 0
IsClosed m = m.is_open ≡ false

-- The memory of the machine whose configuration a text states, before its first cycle; nothing was sent to it, and
-- nothing was taken.
pub record IsNewMemory (text : List ℕ) (memory : MemorySession) : Type 0 where
  pub config : Config
  pub configured : document_of text ≡ Ok (values_of config)
  pub pasts : IsMemory memory (no_pasts config)
  pub now : memory.cycle ≡ 0
  pub is_of : memory.config ≡ config

-- it is open with such a memory
abbrev pub IsOpened : List ℕ → KeptMemory → Type 0
IsOpened text m = IsThere (IsNewMemory text) m.handle.value

-- why no memory is opened for what a document says, if none is: the document is refused
abbrev pub configuration_refusal : Result Values Fault → Option CallFault
configuration_refusal (Err refused) = Some (call.Configuration refused)
configuration_refusal (Ok values) = None

-- the statistics of a channel, or that there is no such channel
abbrev pub stats_answer : Option ChannelStats → Result ChannelStats CallFault
stats_answer (Some stats) = Ok stats
stats_answer None = Err (call.Session NoSuchChannel)

-- the row of a command of a channel, which is the first that was not taken, of all channels
pub record IsCommandRowAt (s : Config) (pasts : Pasts) (now number : ℕ) (row : CommandRow) : Type 0 where
  pub command : IssuedCommand
  pub is_next : IsNextCommandAt s.channels pasts now number command
  pub row_is : row ≡ command_row command

-- the row of the first command that was not taken, of all channels, or none where each was taken
abbrev pub IsCommandRow : Config → Pasts → ℕ → Option (ℕ × CommandRow) → Type 0
IsCommandRow s pasts now (Some given) = IsCommandRowAt s pasts now given.0 given.1
IsCommandRow s pasts now None = IsNextCommand s.channels pasts now None

-- the row of a reply of a channel, which is the first that was not taken, of all channels
pub record IsReplyRowAt (s : Config) (pasts : Pasts) (now number : ℕ) (row : ReplyRow) : Type 0 where
  pub reply : Message
  pub is_next : IsNextReplyAt s.channels pasts now number reply
  pub row_is : row ≡ reply_row s reply

-- the row of the first reply that was not taken, of all channels, or none where each was taken
abbrev pub IsReplyRow : Config → Pasts → ℕ → Option (ℕ × ReplyRow) → Type 0
IsReplyRow s pasts now (Some given) = IsReplyRowAt s pasts now given.0 given.1
IsReplyRow s pasts now None = IsNextReply s.channels pasts now None

-- the next command of a channel was taken
abbrev pub with_command_at : Pasts → ℕ → ℕ → Pasts
with_command_at pasts now number =
    with_past pasts number (with_command (pasts.past number) (next_command_of (pasts.past number) now))

-- the next reply of a channel was taken
abbrev pub with_reply_at : Pasts → ℕ → ℕ → Pasts
with_reply_at pasts now number =
    with_past pasts number (with_reply (pasts.past number) (next_reply_of (pasts.past number) now))

-- what a call gave was taken from its channel, if it gave anything
abbrev pub with_command_given : Pasts → ℕ → Option (ℕ × CommandRow) → Pasts
with_command_given pasts now (Some given) = with_command_at pasts now given.0
with_command_given pasts now None = pasts

-- the pasts with the reply that was handed over, if there was one
abbrev pub with_reply_given : Pasts → ℕ → Option (ℕ × ReplyRow) → Pasts
with_reply_given pasts now (Some given) = with_reply_at pasts now given.0
with_reply_given pasts now None = pasts
