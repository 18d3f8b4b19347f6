-- What may arrive at a channel that is run alone over a span of cycles, and what lets cycles be skipped.
--     comes_from source r      a source, if there is one, is that of a request
--     NoneIssuedFor history r      no command of a history stands in the name of a request
--     is_issued_for command r      a command stands in the name of a request
--     IsFit s channel steps mail inbox from until      messages that may arrive in a span
--     IsFitAfter p inbox from until      messages that may arrive in a span after a past
--     idle_until steps from cycle      these steps, and cycles in which nothing is issued
--     IsIdle s channel steps mail n      a channel issues nothing in the n cycles after these steps, if nothing arrives
use Rattle.std.specs.Prelude.{◌≡◌, ℕ, ◌+◌, ◌-◌, ◌<◌, ◌≤◌, Bool, true, false, List, [], ◌∷◌, ◌++◌, replicate, Option, None}
use Rattle.std.specs.List.{AllByRecursion as Each}
use Rattle.sim_base.specs.declared.config.Config.{Config}
use Rattle.sim_base.specs.Counts.{queue_length, source_in}
use Rattle.sim_base.specs.History.{issued_commands, is_before}
use Rattle.sim_base.specs.Machine.{channel_run}
use Rattle.sim_base.specs.Scheduling.{is_source, choice, queue_room}
use Rattle.sim_base.specs.declared.command.Command.{Command}
use Rattle.sim_base.specs.declared.command.IssuedCommand.{IssuedCommand}
use Rattle.sim_base.specs.declared.command.Source.{Source}
use Rattle.sim_base.specs.declared.message.Message.{Message}
use Rattle.sim_base.specs.declared.message.Request.{Request}
use Rattle.std.specs.Prelude.{Some}
use Rattle.channel_step.specs.Past.{Steps, Past, carried_requests, CarriesRequest, Differ}

-- a request is of the entry in whose name something is done, where that is done in the name of one
abbrev pub comes_from : Option Source → Request → Bool
comes_from None r = false
comes_from (Some source) r = is_source r source

-- a command stands in the name of a request
abbrev pub is_issued_for : Command → Request → Bool
is_issued_for command r = comes_from (source_in command) r

-- no command stands in the name of a request
abbrev pub NoneIssuedFor : List IssuedCommand → Request → Type 0
NoneIssuedFor history r = Each (λ (i : IssuedCommand). is_issued_for i.command r ≡ false) history

-- each message arrives before those that follow it, or with them on a lower link: so at most one arrives on a link in a
-- cycle
abbrev pub ComeByAge : List Message → Type 0
ComeByAge [] = Unit {0}
ComeByAge (m ∷ ms) = Each (λ (n : Message). is_before m n ≡ true) ms × ComeByAge ms

-- Messages that may arrive at a channel in a span of cycles, after these steps and this mail.
--     requests, by_age      each carries a request for the channel, and they come by arrival and then by link
--     in_span      they arrive in the span
--     differ      no two requests are of one entry, those that arrived before the span among them
--     none_issued      no earlier command stands in the name of one, since none is issued for what has not arrived
--     room      in the run that follows from them the queue has a place for each
pub record IsFit (s : Config) (channel : ℕ) (steps : Steps) (mail inbox : List Message) (from until : ℕ) : Type 0 where
  pub requests : Each (CarriesRequest s channel) inbox
  pub by_age : ComeByAge inbox
  pub in_span : Each (λ (m : Message). (from ≤ m.arrival) × (m.arrival < until)) inbox
  pub differ : Differ (carried_requests (mail ++ inbox))
  pub none_issued : Each (NoneIssuedFor (issued_commands channel steps)) (carried_requests inbox)
  pub room : (n : ℕ) → from + n < until
      → queue_length channel (channel_run s channel steps (mail ++ inbox) n) (mail ++ inbox) (from + n) ≤ queue_room s

-- these messages may arrive after a past, in this span
abbrev pub IsFitAfter : Past → List Message → ℕ → ℕ → Type 0
IsFitAfter p inbox from until = IsFit p.config p.channel p.steps p.mail inbox from until

-- these steps, and then nothing in the cycles from `from` up to `cycle`
abbrev pub idle_until : Steps → ℕ → ℕ → Steps
idle_until steps from cycle = steps ++ replicate (cycle - from) None

-- A channel issues nothing in the n cycles after these steps, if nothing arrives in them.
abbrev pub IsIdle : Config → ℕ → Steps → List Message → ℕ → Type 0
IsIdle s channel steps mail n = (k : ℕ) → k < n → choice s channel (steps ++ replicate k None) mail ≡ None
