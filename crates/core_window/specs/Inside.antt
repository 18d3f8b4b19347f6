-- What a core stands for within a span, where messages of the cycle at which it stands may have come already.
--     StandsAt s core trace steps mail view      what a core stands for within a span
--     Sends n a b sent      a core goes n cycles, in which no message comes, and sends these messages
--     Advances n a before b after      a core goes n cycles, in which no message comes, and adds what it sends
--     GoesOn until a before b after      a core goes some cycles, at most up to `until`, and adds what it sends
--     GoesOnWithoutSending until a b      a core goes zero or more cycles, and sends nothing
--     IsReceiving view m      a core stands at the cycle in which a message comes
--     HasTaken before from until inbox taken view sent      a core has taken the first messages of its inbox
--     Does view core_step why memory      what a core does in the next cycle
use Rattle.std.specs.Prelude.{◌≡◌, ℕ, ◌-◌, ◌<◌, ◌≤◌, List, ◌++◌, length, take, drop, slice_get, Option, Some}
use Rattle.std.specs.List.{AllByRecursion as Each}
use Rattle.sim_base.specs.declared.config.Config.{Config}
use Rattle.sim_base.specs.History.{core_messages}
use Rattle.sim_base.specs.Machine.{core_run}
use Rattle.sim_base.specs.declared.history.CoreStep.{CoreStep}
use Rattle.sim_base.specs.declared.message.Access.TheVariants as access
use Rattle.sim_base.specs.declared.message.Message.{Message}
use Rattle.sim_base.specs.declared.trace.Entry.{Entry}
use Rattle.sim_base.specs.declared.trace.Stop.{Stop}
use Rattle.cpu_trace.specs.declared.entries.MemoryEntry.{MemoryEntry}
use Rattle.statistics.specs.Cores.{core_stats, core_joined, replies_in, only_replies}
use Rattle.statistics.specs.declared.cores.CoreStats.{CoreStats}
use Rattle.statistics.specs.declared.final_state.Credits.{Credits}
use Rattle.core_window.specs.Fit.{MayCome, IsFit}
use Rattle.core_window.specs.Stands.{IsPast, StandsFor, credits_had, credits_spent}
use Rattle.core_window.specs.OneCycle.{IsWork}
use Rattle.core_window.specs.Views.{CoreView}
use Rattle.core_window.specs.Outstanding.{outstanding_reads}

-- the credits that a core holds for a channel, after all of this mail
abbrev pub credits_now : Config → ℕ → List Entry → List CoreStep → List Message → ℕ → Credits
credits_now s core trace steps mail channel =
    record {
      read = credits_had s core mail channel access.Read - credits_spent s core trace steps channel access.Read;
      write = credits_had s core mail channel access.Write - credits_spent s core trace steps channel access.Write;
    }

-- the statistics of the replies that came in the cycle after these steps, and of nothing else
abbrev pub core_arrived : List CoreStep → List Message → CoreStats
core_arrived steps mail = only_replies steps (replies_in (length steps) mail)

-- a core did what these steps say, and had these messages in those cycles or in the one after them, where it stands
pub record StandsAt (s : Config) (core : ℕ) (trace : List Entry) (steps : List CoreStep) (mail : List Message)
    (view : CoreView) : Type 0 where
  pub config : view.config ≡ s
  pub number : view.core ≡ core
  pub entries : view.trace ≡ trace
  pub now : view.now ≡ length steps
  pub outstanding : view.outstanding ≡ outstanding_reads trace steps mail
  pub channels : length view.credits ≡ s.channels
  pub credits : (channel : ℕ) → channel < s.channels
      → slice_get view.credits channel ≡ Some (credits_now s core trace steps mail channel)
  pub stats : view.stats ≡ core_joined (core_stats s core trace steps mail) (core_arrived steps mail)
  pub past : IsPast s core trace steps mail

-- there are steps and messages that a core stands for
pub record IsStanding (view : CoreView) : Type 0 where
  pub s : Config
  pub core : ℕ
  pub trace : List Entry
  pub steps : List CoreStep
  pub mail : List Message
  pub stands : StandsAt s core trace steps mail view

-- in n cycles in which no further message comes, a core comes from one state to another, and sends these messages
abbrev pub Sends : ℕ → CoreView → CoreView → List Message → Type 0
Sends n a b sent =
    (s : Config) (core : ℕ) (trace : List Entry) (steps : List CoreStep) (mail : List Message)
    → StandsAt s core trace steps mail a
    → StandsAt s core trace (core_run s core trace steps mail n) mail b
    × (core_messages s core trace (core_run s core trace steps mail n) ≡ core_messages s core trace steps ++ sent)

-- in n cycles in which no further message comes, a core comes to another state, and what it sends is put behind what a
-- list held before
pub record Advances (n : ℕ) (a : CoreView) (before : List Message) (b : CoreView) (after : List Message) : Type 0 where
  pub sent : List Message
  pub behind : after ≡ before ++ sent
  pub sends : Sends n a b sent

-- a core goes on by some cycles, at most up to `until`, while no further message comes
pub record GoesOn (until : ℕ) (a : CoreView) (before : List Message) (b : CoreView) (after : List Message)
    : Type 0 where
  pub later : a.now < b.now
  pub until_then : b.now ≤ until
  pub advances : Advances (b.now - a.now) a before b after

-- a core goes on by zero or more cycles, at most up to `until`, while no further message comes, and sends nothing
pub record GoesOnWithoutSending (until : ℕ) (a b : CoreView) : Type 0 where
  pub since : a.now ≤ b.now
  pub until_then : b.now ≤ until
  pub advances : (sent : List Message) → Advances (b.now - a.now) a sent b sent

-- a core stands at the cycle in which a message comes, and the message may come
pub record IsReceiving (view : CoreView) (m : Message) : Type 0 where
  pub s : Config
  pub core : ℕ
  pub trace : List Entry
  pub steps : List CoreStep
  pub mail : List Message
  pub stands : StandsAt s core trace steps mail view
  pub now : m.arrival ≡ length steps
  pub due : MayCome s core trace steps mail m

-- within a span a core has taken the first `taken` messages of its inbox, and sent these; no other comes before the
-- cycle where it stands
pub record IsMidway (s : Config) (core : ℕ) (trace : List Entry) (steps : List CoreStep) (mail : List Message)
    (from until : ℕ) (inbox : List Message) (taken : ℕ) (view : CoreView) (sent : List Message) : Type 0 where
  pub since : from ≤ view.now
  pub stands : StandsAt s core trace (core_run s core trace steps (mail ++ inbox) (view.now - from))
      (mail ++ take taken inbox) view
  pub messages : core_messages s core trace (core_run s core trace steps (mail ++ inbox) (view.now - from))
      ≡ core_messages s core trace steps ++ sent
  pub others : Each (λ m. view.now ≤ m.arrival) (drop taken inbox)
  pub until_then : view.now ≤ until

-- within a span a core has taken the first `taken` messages of its inbox, and sent these, whatever it stood for before
abbrev pub HasTaken : CoreView → ℕ → ℕ → List Message → ℕ → CoreView → List Message → Type 0
HasTaken before from until inbox taken view sent =
    (s : Config) (core : ℕ) (trace : List Entry) (steps : List CoreStep) (mail : List Message)
    → StandsFor s core trace steps mail before → IsFit s core trace steps mail from until inbox
    → IsMidway s core trace steps mail from until inbox taken view sent

-- one core may do what another may: they may differ in their number, in the cycle where they stand, and in what they
-- counted, except for the entries that they issued and retired
pub record IsLike (a v : CoreView) : Type 0 where
  pub config : v.config ≡ a.config
  pub entries : v.trace ≡ a.trace
  pub outstanding : v.outstanding ≡ a.outstanding
  pub credits : v.credits ≡ a.credits
  pub issued : v.stats.issued ≡ a.stats.issued
  pub retired : v.stats.retired ≡ a.stats.retired

-- what a core does in the next cycle, if no further message comes: each core that is like this one does it
abbrev pub Does : CoreView → CoreStep → Stop → Option MemoryEntry → Type 0
Does a core_step why memory =
    (v : CoreView) (s : Config) (core : ℕ) (trace : List Entry) (steps : List CoreStep) (mail : List Message)
    → IsLike a v → StandsAt s core trace steps mail v → IsWork s core trace steps mail core_step why memory
