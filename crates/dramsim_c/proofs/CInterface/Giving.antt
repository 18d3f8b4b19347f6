-- What a call gives, with the number of its channel, is the next of that channel.
use Rattle.std.proofs.Common.{ℕ, Some, sym, subst}
use Rattle.sessions.specs.Sessions.{with_command, with_reply}
use Rattle.sim_base.specs.declared.command.IssuedCommand.{IssuedCommand}
use Rattle.sim_base.specs.declared.message.Message.{Message}
use Rattle.sessions.specs.Memories.{Pasts, IsMemory, with_past, IsNextCommandAt, IsNextReplyAt, with_command_of, with_reply_of}
use Rattle.sessions.specs.declared.memory_session.memory.MemorySession.{MemorySession}
use Rattle.dramsim_c.specs.CInterface.Rows.{reply_kind}
use Rattle.sim_base.specs.Scheduling.{entry_in}
use Rattle.dramsim_c.specs.declared.c_interface.rows.ReplyRow.{ReplyRow}
use Rattle.dramsim_c.specs.CInterface.Memories.{with_command_at, with_reply_at}

pub command-given : (m : MemorySession) (channels now number : ℕ) (pasts : Pasts) (command : IssuedCommand) → IsNextCommandAt channels pasts now number command
    → IsMemory m (with_command_of pasts (Some (number, command))) → IsMemory m (with_command_at pasts now number)
command-given m channels now number pasts command is h =
    subst (λ o. IsMemory m (with_past pasts number (with_command (pasts.past number) o))) (sym is.command_is) h

pub reply-given : (m : MemorySession) (channels now number : ℕ) (pasts : Pasts) (reply : Message) → IsNextReplyAt channels pasts now number reply
    → IsMemory m (with_reply_of pasts (Some (number, reply))) → IsMemory m (with_reply_at pasts now number)
reply-given m channels now number pasts reply is h =
    subst (λ o. IsMemory m (with_past pasts number (with_reply (pasts.past number) o))) (sym is.reply_is) h

-- the row of a reply that goes to a core
abbrev pub row-to : Message → ℕ → ReplyRow
row-to reply core = record { arrival = reply.arrival; entry = entry_in reply.payload; core = core; kind = reply_kind reply.payload }
