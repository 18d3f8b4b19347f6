-- What arrives at a core: replies and credits.
--     IsByAge ms      messages stand by age
--     all_arriving arriving      the replies and the credits together, by age
--     IsNextCredit arriving m later      the first of the credits is the next message by age
--     BeginsWithReply arriving      the first of the replies is the next message by age
--     IsNextReply first arriving reply after      the next message by age is a reply to another entry, and is taken
--     first_arrival until ms      the cycle in which the first of some messages arrives
use Rattle.std.specs.Prelude.{◌≡◌, ℕ, fold, List, [], ◌∷◌}
use Rattle.sim_base.specs.History.{by_age, insert_by_age}
use Rattle.sim_base.specs.declared.message.Message.{Message}
use Rattle.sim_base.specs.declared.message.Payload.TheVariants as payload
use Rattle.core_window.specs.declared.receive.Arriving.{Arriving}
use Rattle.core_window.specs.declared.receive.Reply.{Reply}

-- messages that stand by age, that is by arrival and then by link
abbrev pub IsByAge : List Message → Type 0
IsByAge ms = by_age ms ≡ ms

-- all that arrives, by age: the credits, each put among the replies
abbrev pub all_arriving : Arriving → List Message
all_arriving arriving = fold insert_by_age arriving.replies.now arriving.credits.now

-- the first of the credits is the next message by age, and these come after it
pub record IsNextCredit (arriving : Arriving) (m : Message) (later : List Message) : Type 0 where
  pub first : arriving.credits.now ≡ m ∷ later
  pub next : all_arriving arriving ≡ m ∷ fold insert_by_age arriving.replies.now later
  pub by_age : IsByAge later

-- the first of the replies, if there is one, is the next message by age
abbrev pub BeginsWithReply : Arriving → Type 0
BeginsWithReply arriving =
    (m : Message) (later : List Message) → arriving.replies.now ≡ m ∷ later
    → all_arriving arriving ≡ m ∷ fold insert_by_age later arriving.credits.now

-- the first of the replies is a reply to another entry than the first that waits, and all but that are left
pub record IsNextReply (first : ℕ) (arriving : Arriving) (reply : Reply) (after : Arriving) : Type 0 where
  pub message : Message
  pub at : arriving.replies.now ≡ message ∷ after.replies.now
  pub others : after.credits.now ≡ arriving.credits.now
  pub is : message.payload ≡ payload.Reply reply.entry
  pub arrival : message.arrival ≡ reply.arrival
  pub other : reply.entry ≡ first → ⊥

-- the cycle in which the first of some messages arrives; where there is none, the one that is given
abbrev pub first_arrival : ℕ → List Message → ℕ
first_arrival until [] = until
first_arrival until (m ∷ ms) = m.arrival
