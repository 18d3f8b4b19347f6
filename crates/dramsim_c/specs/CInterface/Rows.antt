-- What a program in C hands in and gets back.
--     sent_access is_write      what a row asks for
--     sent_request row      the request of a row
--     kind_number kind      the number of a kind of commands
--     command_row issued      the row of a command
--     message_row core reply, reply_row s reply      the row of a reply or of a credit
--     place_row place      the row of a place
--     place_in row      the place that a row states
--     stats_row stats      the row of a channel's statistics
use Rattle.std.specs.Prelude.{ℕ, ◌/◌, ◌%◌, ◌^◌, Bool, true, false, Option, Some, None}
use Rattle.sessions.specs.Sessions.{core_of}
use Rattle.sessions.specs.declared.channel_session.requests.SentRequest.{SentRequest}
use Rattle.sim_base.specs.Counts.{source_in}
use Rattle.sim_base.specs.Rules.{kind_of, rank_of, bank_of}
use Rattle.sim_base.specs.declared.command.Command.{Command}
use Rattle.sim_base.specs.declared.command.Command.TheVariants.{Act, Rd, Wr, Pre, Prea, Ref}
use Rattle.sim_base.specs.declared.command.IssuedCommand.{IssuedCommand}
use Rattle.sim_base.specs.declared.command.Kind.{Kind}
use Rattle.sim_base.specs.declared.command.Kind.TheVariants as kind
use Rattle.sim_base.specs.declared.command.Source.{Source}
use Rattle.sim_base.specs.declared.config.Config.{Config}
use Rattle.sim_base.specs.declared.message.Payload.{Payload}
use Rattle.sim_base.specs.declared.message.Payload.TheVariants as payload
use Rattle.sim_base.specs.declared.message.Message.{Message}
use Rattle.sim_base.specs.declared.place.BankId.{BankId}
use Rattle.sim_base.specs.declared.place.Place.{Place}
use Rattle.sim_base.specs.declared.message.Access.{Access}
use Rattle.sim_base.specs.declared.message.Access.TheVariants as access
use Rattle.statistics.specs.declared.channels.ChannelStats.{ChannelStats}
use Rattle.dramsim_c.specs.declared.c_interface.rows.CommandRow.{CommandRow}
use Rattle.dramsim_c.specs.declared.c_interface.rows.PlaceRow.{PlaceRow}
use Rattle.dramsim_c.specs.declared.c_interface.rows.ReplyRow.{ReplyRow}
use Rattle.dramsim_c.specs.declared.c_interface.rows.RequestRow.{RequestRow}
use Rattle.dramsim_c.specs.declared.c_interface.rows.StatsRow.{StatsRow}
use Rattle.sim_base.specs.Scheduling.{entry_in}

-- what a row asks for
abbrev pub sent_access : Bool → Access
sent_access true = access.Write
sent_access false = access.Read

-- the request that a row states
abbrev pub sent_request : RequestRow → SentRequest
sent_request row =
    record {
      core = row.core;
      entry = row.entry;
      access = sent_access row.is_write;
      address = row.address;
      arrival = row.arrival;
    }

-- the number of a kind of commands
abbrev pub kind_number : Kind → ℕ
kind_number kind.Act = 0
kind_number kind.Rd = 1
kind_number kind.Wr = 2
kind_number kind.Pre = 3
kind_number kind.Prea = 4
kind_number kind.Ref = 5

-- the row that a command names, and the column; 0 where it names none
abbrev pub row_in : Command → ℕ
row_in (Act bank row source) = row
row_in (Rd bank row column source) = row
row_in (Wr bank row column source) = row
row_in (Pre bank source) = 0
row_in (Prea rank) = 0
row_in (Ref rank) = 0

-- the column that a command names, or 0
abbrev pub column_in : Command → ℕ
column_in (Act bank row source) = 0
column_in (Rd bank row column source) = column
column_in (Wr bank row column source) = column
column_in (Pre bank source) = 0
column_in (Prea rank) = 0
column_in (Ref rank) = 0

-- a bank and a source, all numbers 0 where there is none
abbrev pub bank_or_0 : ℕ → Option BankId → BankId
bank_or_0 rank (Some bank) = bank
bank_or_0 rank None = record { rank = rank; group = 0; bank = 0 }

-- the request that a command is for, or core 0 and entry 0
abbrev pub source_or_0 : Option Source → Source
source_or_0 (Some source) = source
source_or_0 None = record { core = 0; entry = 0 }

-- the row of a command; a number that its kind has not is 0
abbrev pub command_row : IssuedCommand → CommandRow
command_row issued =
    record {
      cycle = issued.cycle;
      entry = (source_or_0 (source_in issued.command)).entry;
      row = row_in issued.command;
      column = column_in issued.command;
      rank = rank_of issued.command;
      group = (bank_or_0 (rank_of issued.command) (bank_of issued.command)).group;
      bank = (bank_or_0 (rank_of issued.command) (bank_of issued.command)).bank;
      core = (source_or_0 (source_in issued.command)).core;
      kind = kind_number (kind_of issued.command);
    }

-- 0 for the data of a Read, 1 for the credit of a Read, 2 for that of a Write
abbrev pub reply_kind : Payload → ℕ
reply_kind (payload.Request request) = 0
reply_kind (payload.Reply entry) = 0
reply_kind (payload.Credit access.Read entry) = 1
reply_kind (payload.Credit access.Write entry) = 2

-- the row of a message to the core with a number
abbrev pub message_row : ℕ → Message → ReplyRow
message_row core reply =
    record { arrival = reply.arrival; entry = entry_in reply.payload; core = core; kind = reply_kind reply.payload }

-- the row of a reply or of a credit
abbrev pub reply_row : Config → Message → ReplyRow
reply_row s reply = message_row (core_of s reply) reply

-- the row of a place
abbrev pub place_row : Place → PlaceRow
place_row place =
    record {
      channel = place.channel;
      rank = place.rank;
      group = place.group;
      bank = place.bank;
      row = place.row;
      column = place.column;
    }

-- the place that a row states
abbrev pub place_in : PlaceRow → Place
place_in row =
    record {
      channel = row.channel;
      rank = row.rank;
      group = row.group;
      bank = row.bank;
      row = row.row;
      column = row.column;
    }

-- a count, or 0 where there is none
abbrev pub count_or_0 : Option ℕ → ℕ
count_or_0 (Some count) = count
count_or_0 None = 0

-- the row of a channel's statistics; the sum of 128 bits is in two halves
abbrev pub stats_row : ChannelStats → StatsRow
stats_row stats =
    record {
      act = stats.act;
      rd = stats.rd;
      wr = stats.wr;
      pre = stats.pre;
      prea = stats.prea;
      refs = stats.refs;
      hits = stats.hits;
      queued_low = stats.queued % 2 ^ 64;
      queued_high = stats.queued / 2 ^ 64;
      queued_max = stats.queued_max;
      idle = stats.idle;
      refreshing = stats.refreshing;
      draining = count_or_0 stats.draining;
    }
