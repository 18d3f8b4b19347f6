-- A channel that a program in C keeps.
--     IsWell c      it is closed and owns nothing, or open with a session that has some past
--     ForOpen c fact, ForSession c fact      a fact of its session, where it is open, and of each past that this may have
--     HasPast c past      it is open, and its session has this past
--     ForPasts c fact      a fact of each past that its session may have, where it is open
--     StandsAt c now      it is open, and its session stands at this cycle
--     StandsAsBefore old new      where it was open, it is, and stands where it stood
--     IsClosed c      it is closed
--     IsNewSession text number session      a session before its first cycle, for the configuration of a text
--     IsOpened text number c      it is open with such a session
--     open_refusal document number      why it is not opened
--     IsAddressAnswer s place result      the answer of a call that looks for an address
use Rattle.std.specs.Prelude.{◌≡◌, ℕ, List, false, Option, Some, None, Result, Ok, Err, nat_lt, if◌then◌else◌}
use Rattle.config_reader.specs.Document.{document_of}
use Rattle.sessions.specs.Addresses.{is_place, IsAddressOf}
use Rattle.sessions.specs.Sessions.{Past, IsSession, IsOpen, no_past}
use Rattle.sessions.specs.declared.channel_session.fault.SessionFault.TheVariants.{NoSuchChannel}
use Rattle.sessions.specs.declared.channel_session.session.Session.{Session}
use Rattle.sim_base.specs.Values.{Values, values_of}
use Rattle.sim_base.specs.declared.config.Config.{Config}
use Rattle.sim_base.specs.declared.fault.Fault.{Fault}
use Rattle.sim_base.specs.declared.place.Place.{Place}
use Rattle.dramsim_c.specs.CInterface.Kept.{IsWellAt, IsThere, IsOpenAnswer}
use Rattle.dramsim_c.specs.declared.c_interface.channel.KeptChannel.{KeptChannel}
use Rattle.dramsim_c.specs.declared.c_interface.fault.CallFault.{CallFault}
use Rattle.dramsim_c.specs.declared.c_interface.fault.CallFault.TheVariants as call

-- a channel that is open has a session with some past, and one that is closed has none
abbrev pub IsWell : KeptChannel → Type 0
IsWell c = IsWellAt IsOpen c.is_open c.handle.value

-- this is so of its session, where it is open
abbrev pub ForOpen : KeptChannel → (Session → Type 0) → Type 0
ForOpen c fact = (session : Session) → c.handle.value ≡ Some session → fact session

-- this is so of its session, where it is open, and of each past that the session may have
abbrev pub ForSession : KeptChannel → (Session → Past → Type 0) → Type 0
ForSession c fact =
    (session : Session) (past : Past) → c.handle.value ≡ Some session → IsSession session past → fact session past

-- its session has this past
abbrev pub HasPast : KeptChannel → Past → Type 0
HasPast c past = IsThere (λ session. IsSession session past) c.handle.value

-- this is so of each past that its session may have, where it is open
abbrev pub ForPasts : KeptChannel → (Past → Type 0) → Type 0
ForPasts c fact = (past : Past) → HasPast c past → fact past

-- its session stands at this cycle
abbrev pub StandsAt : KeptChannel → ℕ → Type 0
StandsAt c now = IsThere (λ (session : Session). session.cycle ≡ now) c.handle.value

-- where it stood at a cycle, it does so still
abbrev pub StandsAsBefore : KeptChannel → KeptChannel → Type 0
StandsAsBefore old new = (cycle : ℕ) → StandsAt old cycle → StandsAt new cycle

-- it is closed
abbrev pub IsClosed : KeptChannel → Type 0
IsClosed c = c.is_open ≡ false

-- The session of the channel with a number, of the machine whose configuration a text states, before its first cycle;
-- nothing was sent to it. It has some past then.
pub record IsNewSession (text : List ℕ) (number : ℕ) (session : Session) : Type 0 where
  pub config : Config
  pub configured : document_of text ≡ Ok (values_of config)
  pub past : IsSession session (no_past config number)
  pub now : session.cycle ≡ 0

-- it is open with such a session
abbrev pub IsOpened : List ℕ → ℕ → KeptChannel → Type 0
IsOpened text number c = IsThere (IsNewSession text number) c.handle.value

-- why no channel with a number is opened for what a document says, if none is: the document is refused, or its machine
-- has none
abbrev pub open_refusal : Result Values Fault → ℕ → Option CallFault
open_refusal (Err refused) number = Some (call.Configuration refused)
open_refusal (Ok values) number = if nat_lt number values.channels then None else Some (call.Session NoSuchChannel)

-- the answer of a call that opens a closed channel
abbrev pub IsOpenedAs : List ℕ → ℕ → Result (Unit {0}) CallFault → Type 0
IsOpenedAs text number result = IsOpenAnswer (open_refusal (document_of text) number) result

-- the answer of a call that looks for the address of a place: the least one that lies there, or that the memory has no
-- such place
abbrev pub IsAddressAnswer : Config → Place → Result ℕ CallFault → Type 0
IsAddressAnswer s place (Ok address) = IsAddressOf s place address
IsAddressAnswer s place (Err refused) = (refused ≡ call.NoSuchPlace) × (is_place s place ≡ false)
