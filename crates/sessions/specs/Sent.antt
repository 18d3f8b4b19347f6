-- What is sent to a session, and which entries were asked for: for each core, those below its first entry that may be
-- asked for.
--     request_of s channel sent      the request with its place and link
--     message_of s channel sent      the message that carries it
--     is_unasked firsts core entry      an entry may be asked for
--     firsts_with firsts core entry      it was asked for
--     IsAsked firsts r      the entry of a request was asked for
use Rattle.std.specs.Prelude.{ℕ, ◌+◌, ◌-◌, ◌^◌, ◌<◌, nat_lt, nat_le, Bool, ◌&&◌, List, length, slice_index_or, slice_set}
use Rattle.sim_base.specs.Config.{request_link}
use Rattle.sim_base.specs.Places.{place_of}
use Rattle.sim_base.specs.declared.config.Config.{Config}
use Rattle.sim_base.specs.declared.message.Payload.TheVariants as payload
use Rattle.sim_base.specs.declared.message.Message.{Message}
use Rattle.sim_base.specs.declared.message.Request.{Request}
use Rattle.sessions.specs.declared.channel_session.requests.SentRequest.{SentRequest}

-- the request, with the place of its address and the link of its core
abbrev pub request_of : Config → ℕ → SentRequest → Request
request_of s channel sent =
    record {
      core = sent.core;
      access = sent.access;
      entry = sent.entry;
      address = sent.address;
      place = place_of s sent.address;
      arrival = sent.arrival;
      link = request_link s sent.core channel;
    }

-- the message that carries it
abbrev pub message_of : Config → ℕ → SentRequest → Message
message_of s channel sent =
    record {
      link = request_link s sent.core channel;
      arrival = sent.arrival;
      payload = payload.Request (request_of s channel sent);
    }

-- an entry of a core may be asked for: neither it nor a later one was, and it is not the last number there is
abbrev pub is_unasked : List ℕ → ℕ → ℕ → Bool
is_unasked firsts core entry =
    nat_lt core (length firsts) && nat_le (slice_index_or firsts core 0) entry && nat_lt entry (2 ^ 64 - 1)

-- it was asked for, and so only later ones may be
abbrev pub firsts_with : List ℕ → ℕ → ℕ → List ℕ
firsts_with firsts core entry = slice_set firsts core (entry + 1)

-- the entry of a request was asked for
abbrev pub IsAsked : List ℕ → Request → Type 0
IsAsked firsts r = r.entry < slice_index_or firsts r.core 0
