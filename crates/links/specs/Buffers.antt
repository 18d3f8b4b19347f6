-- The messages in flight in buffers: first one for each channel, then two for each core, of replies and of credits.
--     Buffered      the messages of a buffer, and how many there is room for
--     empty_buffer      a buffer with no messages and no room
--     buffer_of channels link      the number of the buffer of a link's messages
--     buffer_to channels m      the number of the buffer that a message goes to
--     goes_to channels number m      a message goes to the buffer with a number
--     number_of_replies channels core      the number of a core's buffer of replies; that of its credits follows
--     in_buffer flight number      what is in flight in the buffer with a number
--     due_in_buffer flight number until      what of it arrives before a cycle
--     without_due_in flight number until      what is in flight when that is taken out
--     replies_due flight core until, credits_due flight core until      what arrives at a core before a cycle
--     AreNumbers channels numbers      the numbers of the buffers of the first links
--     HasBufferNumbers channels numbers      they are those of a machine that has a channel
--     contents buffers      what stands in each buffer
--     joined buffers      what stands in all of them, buffer by buffer
--     buffer_messages buffers      the messages in all buffers, by age
--     buffer_messages_at buffers number      the messages in one buffer
--     IsByAge ms      messages stand by age
--     AreBuffers channels first buffers      each buffer holds messages that go to it, by age
--     AreInBuffers channels numbers buffers      what holds of the messages in flight on the links of a machine
--     earlier_arrival least ms      the earlier of a cycle and of the first arrival
--     arrives_later until m      a message does not arrive before a cycle
--     due_of until ms, later_of until ms      those of some messages that arrive before a cycle, and the others
--     due_in until buffers number      what arrives before a cycle in the buffer with a number
--     HasRoom buffers number more      a buffer has room for this many further messages
--     HasSpace list more      a list has room for this many further messages
--     count_to channels number ms      how many of some messages go to a buffer
--     AreCounts channels ms counts      how many of some messages go to each buffer
--     IsOneMore number old new      counts to which one is added at a number
--     CanTakeUp channels buffers ms      each buffer has room for those of some messages that go to it
--     HaveRoomForAll channels buffers ms      the buffer of each message has room for all of them
--     HaveCountedRoom buffers counts      each buffer has room for as many further messages as its count says
--     HoldSame old new      the buffers hold the messages that they held, buffer by buffer
--     HaveGained old new ms      the buffers hold the messages that they held, and these
--     JoinAlike old new      two lists that are the same once they are put among other messages
--     Grows old new      the buffers hold the messages that they held, and have no less room
--     HasYoungerBefore ms place m      the message directly before a place is younger than another
--     NoneYoungerBefore ms place m      the message directly before a place, if any, is not younger than another
--     IsInserted m old new      a message is put among others by age, of which the last was younger and stood twice
--     is_last_due until ms      the last of some messages arrives before a cycle
--     is_younger_last m ms      the last of some messages is younger than another
--     GoesBehind m ms      a message goes behind some others, of which there is one
--     GoesBehindInFlight m flight      a message goes behind what is in flight in its buffer
use Rattle.std.specs.Prelude.{◌≡◌, ℕ, ◌+◌, ◌*◌, ◌-◌, ◌/◌, ◌%◌, ◌==◌, ◌^◌, ◌<◌, ◌≤◌, Bool, true, false, not, ◌&&◌, filter, count_by, fold, slice_get, List, [], ◌∷◌, ◌++◌, length, map, min, slice_index_or, vec_len, vec_capacity, Option, Some, if◌then◌else◌}
use Rattle.std.specs.declared.vec.Vec.{Vec}
use Rattle.std.specs.declared.alloc.Global.{Global}
use Rattle.std.specs.List.{AllByRecursion}
use Rattle.std.specs.Option.{option_map_or}
use Rattle.sim_base.specs.History.{is_before, by_age, insert_by_age}
use Rattle.sim_base.specs.declared.message.Message.{Message}
use Rattle.links.specs.InFlight.{InFlight, arrives_before}

-- the messages of a buffer, and how many there is room for until messages have to be moved
pub record Buffered : Type 0 where
  pub items : List Message
  pub capacity : ℕ

-- a buffer with no messages and no room
abbrev pub empty_buffer : Buffered
empty_buffer = record { items = []; capacity = 0 }

-- the number of the buffer of a link's messages; of those to a core, replies are on links with the remainder 1, credits
-- with 2
abbrev pub buffer_of : ℕ → ℕ → ℕ
buffer_of channels link =
    if link % 3 == 0 then link / 3 % channels else channels + 2 * (link / 3 / channels) + (link % 3 - 1)

-- the number of the buffer that a message goes to
abbrev pub buffer_to : ℕ → Message → ℕ
buffer_to channels m = buffer_of channels m.link

-- a message goes to this buffer
abbrev pub goes_to : ℕ → ℕ → Message → Bool
goes_to channels number m = buffer_to channels m == number

-- the number of a core's buffer of replies; its buffer of credits stands behind it
abbrev pub number_of_replies : ℕ → ℕ → ℕ
number_of_replies channels core = channels + 2 * core

-- what is in flight in the buffer with this number, by age
abbrev pub in_buffer : InFlight → ℕ → List Message
in_buffer flight number = filter (goes_to flight.channels number) flight.messages

-- a message that goes to this buffer and arrives before a cycle
abbrev pub is_due_in : ℕ → ℕ → ℕ → Message → Bool
is_due_in channels number until m = goes_to channels number m && arrives_before until m

-- what is in flight in the buffer with this number and arrives before a cycle, by age
abbrev pub due_in_buffer : InFlight → ℕ → ℕ → List Message
due_in_buffer flight number until = filter (is_due_in flight.channels number until) flight.messages

-- what is in flight once what arrives before a cycle is taken out of the buffer with this number
abbrev pub without_due_in : InFlight → ℕ → ℕ → InFlight
without_due_in flight number until =
    record flight { messages = filter (λ m. not (is_due_in flight.channels number until m)) flight.messages }

-- the replies to a core that arrive before a cycle, by age
abbrev pub replies_due : InFlight → ℕ → ℕ → List Message
replies_due flight core until = due_in_buffer flight (number_of_replies flight.channels core) until

-- the credits to a core that arrive before a cycle, by age
abbrev pub credits_due : InFlight → ℕ → ℕ → List Message
credits_due flight core until = due_in_buffer flight (number_of_replies flight.channels core + 1) until

-- the numbers of the buffers of the first links
abbrev pub AreNumbers : ℕ → List ℕ → Type 0
AreNumbers channels numbers =
    (link : ℕ) → link < length numbers
    → (slice_index_or numbers link 0 ≡ buffer_of channels link) × (slice_index_or numbers link 0 + 1 < 2 ^ 64)

-- there is a channel, and these are the numbers of the buffers of the first links
abbrev pub HasBufferNumbers : ℕ → List ℕ → Type 0
HasBufferNumbers channels numbers = (0 < channels) × AreNumbers channels numbers

-- what stands in each buffer
abbrev pub contents : List Buffered → List (List Message)
contents buffers = map (λ buffer. buffer.items) buffers

-- what stands in a buffer; nothing, where there is no such buffer
abbrev pub buffer_at : List (List Message) → ℕ → List Message
buffer_at buffers number = slice_index_or buffers number []

-- what stands in all buffers, buffer by buffer
abbrev pub joined : List (List Message) → List Message
joined [] = []
joined (ms ∷ rest) = ms ++ joined rest

-- the messages in all buffers, by age
abbrev pub buffer_messages : List Buffered → List Message
buffer_messages buffers = by_age (joined (contents buffers))

-- the messages in the buffer with a number; none, where there is no such buffer
abbrev pub buffer_messages_at : List Buffered → ℕ → List Message
buffer_messages_at buffers number = buffer_at (contents buffers) number

-- messages that stand by age
abbrev pub IsByAge : List Message → Type 0
IsByAge ms = by_age ms ≡ ms

-- a buffer holds messages that go to it, by age
pub record IsBuffer (channels number : ℕ) (ms : List Message) : Type 0 where
  pub to_buffer : AllByRecursion (λ m. buffer_to channels m ≡ number) ms
  pub in_order : by_age ms ≡ ms

-- each buffer of a list holds messages that go to it, by age, where the first has the number `first`
abbrev pub AreBuffers : ℕ → ℕ → List (List Message) → Type 0
AreBuffers channels first [] = Unit {0}
AreBuffers channels first (ms ∷ rest) = IsBuffer channels first ms × AreBuffers channels (first + 1) rest

-- What holds of the messages in flight on the links of a machine: it has a channel, each message stands by age in the
-- buffer that it goes to, and the numbers of buffers that are kept are right.
abbrev pub AreInBuffers : ℕ → List ℕ → List Buffered → Type 0
AreInBuffers channels numbers buffers = (0 < channels) × AreBuffers channels 0 (contents buffers) × AreNumbers channels numbers

-- the buffer has room for this many further messages
pub record HasRoom (buffers : List Buffered) (number more : ℕ) : Type 0 where
  pub exists : number < length buffers
  pub room : length (slice_index_or buffers number empty_buffer).items
      + more ≤ (slice_index_or buffers number empty_buffer).capacity

-- how many of some messages go to this buffer
abbrev pub count_to : ℕ → ℕ → List Message → ℕ
count_to channels number ms = count_by (goes_to channels number) ms

-- how many of some messages go to each buffer, by its number
abbrev pub AreCounts : ℕ → List Message → List ℕ → Type 0
AreCounts channels ms counts = (number : ℕ) → slice_index_or counts number 0 ≡ count_to channels number ms

-- two lists of counts are equal, but for one more at this number in the second; counts that do not exist are 0
abbrev pub IsOneMore : ℕ → List ℕ → List ℕ → Type 0
IsOneMore number old new = (n : ℕ) → slice_index_or new n 0 ≡ slice_index_or old n 0 + (if number == n then 1 else 0)

-- each buffer with a count has room for as many further messages
abbrev pub HaveCountedRoom : List Buffered → List ℕ → Type 0
HaveCountedRoom buffers counts =
    (number : ℕ) → number < length counts → HasRoom buffers number (slice_index_or counts number 0)

-- the list has room for this many further messages
abbrev pub HasSpace : Vec Message Global → ℕ → Type 0
HasSpace list more = vec_len list + more ≤ vec_capacity list

-- each buffer that some of these messages go to has room for all that do
abbrev pub CanTakeUp : ℕ → List Buffered → List Message → Type 0
CanTakeUp channels buffers ms =
    (number : ℕ) → 0 < count_to channels number ms → HasRoom buffers number (count_to channels number ms)

-- the buffer of each message has room for this many more
abbrev pub HaveRoom : ℕ → List Buffered → ℕ → List Message → Type 0
HaveRoom channels buffers more ms = AllByRecursion (λ m. HasRoom buffers (buffer_to channels m) more) ms

-- the buffer of each of these messages has room for all of them
abbrev pub HaveRoomForAll : ℕ → List Buffered → List Message → Type 0
HaveRoomForAll channels buffers ms = HaveRoom channels buffers (length ms) ms

-- the buffers hold the messages that they held, in the same order, read buffer by buffer
abbrev pub HoldSame : List Buffered → List Buffered → Type 0
HoldSame old new = joined (contents new) ≡ joined (contents old)

-- the buffers hold what they held, and these messages, by age
abbrev pub HaveGained : List Buffered → List Buffered → List Message → Type 0
HaveGained old new ms = buffer_messages new ≡ fold insert_by_age (buffer_messages old) ms

-- put one after the other among any other messages, the two lists come to the same
abbrev pub JoinAlike : List Message → List Message → Type 0
JoinAlike old new = (ms : List Message) → fold insert_by_age ms new ≡ fold insert_by_age ms old

-- the earlier of a cycle and of the arrival of the first message; if there is only one of them, that one
abbrev pub earlier_arrival : Option ℕ → List Message → Option ℕ
earlier_arrival least [] = least
earlier_arrival least (m ∷ ms) = Some (option_map_or (λ cycle. min cycle m.arrival) least m.arrival)

-- the same buffers, some of which may have got more room, and which may have got empty buffers behind them
pub record Grows (old new : List Buffered) : Type 0 where
  pub messages : joined (contents new) ≡ joined (contents old)
  pub buffers : (channels first : ℕ) → AreBuffers channels first (contents old) → AreBuffers channels first (contents new)
  pub room : (number more : ℕ) → HasRoom old number more → HasRoom new number more

-- a message does not arrive before a cycle
abbrev pub arrives_later : ℕ → Message → Bool
arrives_later until m = not (arrives_before until m)

-- the messages of a list that arrive before a cycle
abbrev pub due_of : ℕ → List Message → List Message
due_of until ms = filter (arrives_before until) ms

-- the messages of a list that arrive in a cycle or later
abbrev pub later_of : ℕ → List Message → List Message
later_of until ms = filter (arrives_later until) ms

-- what arrives before a cycle in a buffer
abbrev pub due_in : ℕ → List Buffered → ℕ → List Message
due_in until buffers number = due_of until (buffer_messages_at buffers number)

-- the message directly before a place is younger than another
abbrev pub HasYoungerBefore : List Message → ℕ → Message → Type 0
HasYoungerBefore ms place m = (0 < place) × (is_before m (slice_index_or ms (place - 1) m) ≡ true)

-- the message directly before a place, if there is one, is not younger than this one
abbrev pub NoneYoungerBefore : List Message → ℕ → Message → Type 0
NoneYoungerBefore ms place m = 0 < place → place ≤ length ms → is_before m (slice_index_or ms (place - 1) m) ≡ false

-- others stood by age, of which the last was younger than this message and stood twice; now the message is among them
abbrev pub IsInserted : Message → List Message → List Message → Type 0
IsInserted m old new =
    (ms : List Message) (y : Message) → IsByAge ms → old ≡ ms ++ y ∷ [] → slice_get ms (length ms - 1) ≡ Some y
    → is_before m y ≡ true
    → new ≡ insert_by_age ms m

-- the last of some messages arrives before a cycle
abbrev pub is_last_due : ℕ → List Message → Bool
is_last_due until ms = option_map_or (arrives_before until) (slice_get ms (length ms - 1)) false

-- the last of some messages is younger than this one
abbrev pub is_younger_last : Message → List Message → Bool
is_younger_last m ms = option_map_or (is_before m) (slice_get ms (length ms - 1)) false

-- a message goes behind some others: there is one, and the last of them is not younger
abbrev pub GoesBehind : Message → List Message → Type 0
GoesBehind m ms = (0 < length ms) × (is_younger_last m ms ≡ false)

-- a message goes behind those in flight in its buffer, of which there is one
abbrev pub GoesBehindInFlight : Message → InFlight → Type 0
GoesBehindInFlight m flight = GoesBehind m (in_buffer flight (buffer_to flight.channels m))
