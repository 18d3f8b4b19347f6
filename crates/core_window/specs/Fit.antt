-- Messages that may arrive at a core.
--     MayCome s core trace steps mail m      a message may come in the cycle after these steps, and after this mail
--     IsFit s core trace steps mail from until inbox      these messages may come in a span of cycles
--     CanRun view from until inbox      these messages may come in a span of cycles to a core as it stands
--     RunsOver before from until inbox after sent      what a core does and sends in a span in which messages come
--     RunsOnto before from until inbox after held holds      what a core does in a span, and puts behind a list
use Rattle.std.specs.Prelude.{◌≡◌, ℕ, ◌+◌, ◌-◌, ◌<◌, ◌≤◌, true, false, List, [], ◌∷◌, ◌++◌}
use Rattle.std.specs.List.{AllByRecursion as Each}
use Rattle.sim_base.specs.declared.config.Config.{Config}
use Rattle.sim_base.specs.Config.{credit_link}
use Rattle.sim_base.specs.History.{issued_before, core_messages}
use Rattle.sim_base.specs.Machine.{core_run}
use Rattle.sim_base.specs.Windows.{credit_cap}
use Rattle.sim_base.specs.declared.history.CoreStep.{CoreStep}
use Rattle.sim_base.specs.declared.message.Access.{Access}
use Rattle.sim_base.specs.declared.message.Payload.{Payload}
use Rattle.sim_base.specs.declared.message.Payload.TheVariants as payload
use Rattle.sim_base.specs.declared.message.Message.{Message}
use Rattle.sim_base.specs.declared.trace.Entry.{Entry}
use Rattle.core_window.specs.Stands.{credits_had, credits_spent, StandsFor}
use Rattle.core_window.specs.Views.{CoreView}
use Rattle.core_window.specs.Outstanding.{is_read_at, is_answered}

-- a reply is of a Read that was issued in an earlier cycle, and that has had none yet
pub record IsAwaited (trace : List Entry) (steps : List CoreStep) (mail : List Message) (entry : ℕ) : Type 0 where
  pub is_of_a_read : is_read_at trace entry ≡ true
  pub is_issued : entry < issued_before steps
  pub is_first : is_answered mail entry ≡ false

-- a credit comes on the link of a channel, and the core does not hold all its credits for that channel
pub record IsOutstandingCredit (s : Config) (core : ℕ) (trace : List Entry) (steps : List CoreStep)
    (mail : List Message) (link : ℕ) (access : Access) : Type 0 where
  pub channel : ℕ
  pub exists : channel < s.channels
  pub on_its_link : link ≡ credit_link s core channel
  pub has_room : credits_had s core mail channel access < credit_cap s access
      + credits_spent s core trace steps channel access

-- what a message may bring in the cycle after these steps, after this mail: a reply or a credit
abbrev pub MayCarry : Config → ℕ → List Entry → List CoreStep → List Message → ℕ → Payload → Type 0
MayCarry s core trace steps mail link (payload.Reply entry) = IsAwaited trace steps mail entry
MayCarry s core trace steps mail link (payload.Credit access entry) =
    IsOutstandingCredit s core trace steps mail link access
MayCarry s core trace steps mail link (payload.Request r) = ⊥

-- a message may come in the cycle after these steps, after this mail
abbrev pub MayCome : Config → ℕ → List Entry → List CoreStep → List Message → Message → Type 0
MayCome s core trace steps mail m = MayCarry s core trace steps mail m.link m.payload

-- each message comes no sooner than those before it
abbrev pub IsByArrival : List Message → Type 0
IsByArrival [] = Unit {0}
IsByArrival (m ∷ ms) = Each (λ n. m.arrival ≤ n.arrival) ms × IsByArrival ms

-- Messages that may arrive at a core in the cycles from `from` up to `until`, where it did these steps and had this
-- mail.
pub record IsFit (s : Config) (core : ℕ) (trace : List Entry) (steps : List CoreStep) (mail : List Message)
    (from until : ℕ) (inbox : List Message) : Type 0 where
  -- the messages arrive in these cycles: the core would not see a later one, and an earlier one would change what it
  -- did
  pub from_then : Each (λ m. from ≤ m.arrival) inbox
  pub until_then : Each (λ m. m.arrival < until) inbox
  -- the messages stand in the order of their arrival, so that the core takes them one after the other
  pub in_order : IsByArrival inbox
  -- each message may come in its cycle, after those before it: the core can tell which Read a reply is of, and counts
  -- no more credits than it ever had
  pub due : (before after : List Message) (m : Message) → inbox ≡ before ++ m ∷ after
      → MayCome s core trace (core_run s core trace steps (mail ++ inbox) (m.arrival - from)) (mail ++ before) m

-- a core stands for some steps and messages, after which these messages may arrive in a span
pub record CanRun (view : CoreView) (from until : ℕ) (inbox : List Message) : Type 0 where
  pub s : Config
  pub core : ℕ
  pub trace : List Entry
  pub steps : List CoreStep
  pub mail : List Message
  pub stands : StandsFor s core trace steps mail view
  pub fit : IsFit s core trace steps mail from until inbox

-- A core goes over a span of cycles, in which these messages arrive, from one state to another, and sends these
-- messages. For each past that the core may have, after which the messages may arrive, it then stands for the longer
-- run, and has sent what that run sends more.
abbrev pub RunsOver : CoreView → ℕ → ℕ → List Message → CoreView → List Message → Type 0
RunsOver before from until inbox after sent =
    (s : Config) (core : ℕ) (trace : List Entry) (steps : List CoreStep) (mail : List Message)
    → StandsFor s core trace steps mail before → IsFit s core trace steps mail from until inbox
    → StandsFor s core trace (core_run s core trace steps (mail ++ inbox) (until - from)) (mail ++ inbox) after
    × (core_messages s core trace (core_run s core trace steps (mail ++ inbox) (until - from))
    ≡ core_messages s core trace steps ++ sent)

-- a core goes over a span of cycles, in which these messages arrive, and what it sends is put behind what a list held
-- before
pub record RunsOnto (before : CoreView) (from until : ℕ) (inbox : List Message) (after : CoreView)
    (held holds : List Message) : Type 0 where
  pub sent : List Message
  pub behind : holds ≡ held ++ sent
  pub runs : RunsOver before from until inbox after sent
