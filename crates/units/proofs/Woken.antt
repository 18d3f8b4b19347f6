-- A unit that is woken takes what arrives at it, runs, and tells its next word.
use Rattle.std.proofs.Common.{◌≡◌, ℕ, ◌^◌, ◌-◌, ◌<◌, ◌≤◌, not, ltb, List, [], Option, Some, None, refl, sym, ap, ◌∙◌, arith}
use Rattle.std.specs.declared.boxed.Box.{Box}
use Rattle.std.specs.declared.alloc.Global.{Global}
use Rattle.std.specs.Prelude.{filter, IfSome}
use Rattle.std.proofs.lemmas.Bool.{cond_both, ltb-true}
use Rattle.sim_base.specs.History.{is_unit, receiver_of}
use Rattle.sim_base.specs.declared.command.IssuedCommand.{IssuedCommand}
use Rattle.sim_base.specs.declared.message.Message.{Message}
use Rattle.sim_base.specs.declared.message.Unit.{Unit as MachineUnit}
use Rattle.sim_base.specs.declared.message.Unit.TheVariants.{Core, Channel}
use Rattle.sim_base.proofs.Lists.{filter-both}
use Rattle.channel_step.specs.declared.channel.Channel.{Channel as ChannelUnit}
use Rattle.core_window.specs.declared.core_unit.Core.{Core as CoreUnit}
use Rattle.links.specs.InFlight.{InFlight, arrives_within, is_due, due_before, without_due, in_flight_to, first_arrival, NoneArrivesBefore}
use Rattle.units.specs.Parts.{IsPart, IsReadyFor, HasRunOnto}
use Rattle.units.specs.Quiet.{SendsNothing}
use Rattle.units.specs.SpanLaws.Mail.{mail_in}
use Rattle.units.specs.SpanLaws.Units.{Exists}
use Rattle.units.specs.Units.{unit_at}
use Rattle.units.specs.Wakes.{UnitWithWord, Waits, HoldsInbox, AddsWhatItSent, word_of}
use Rattle.units.specs.declared.machine.Machine.{Machine}
use Rattle.units.specs.declared.part.UnitState.{UnitState}
use Rattle.units.specs.declared.part.UnitState.TheVariants as part
use Rattle.units.proofs.Going.{held-mail, held-links}
use Rattle.units.proofs.Lowering.{taken-later, none-due_after, none-first_none}
use Rattle.units.proofs.SpanLaws.Silent.{silent-sooner}
use Rattle.units.proofs.Waiting.{woken-ready, woken-has_run}

-- what stands for a core is at a core's place
pub core-place : (machine : Machine) (place at : ℕ) (c : Box CoreUnit Global) → IsPart machine (unit_at machine.config place) at (part.Core c)
    → (place < machine.config.cores) × (Core place ≡ unit_at machine.config place)
core-place machine place at c h =
    cond_both (ltb place machine.config.cores) (Core place) (Channel (place - machine.config.cores))
    (λ u. IsPart machine u at (part.Core c) → (place < machine.config.cores) × (Core place ≡ u))
    (λ e k. (ltb-true place machine.config.cores e, refl)) (λ e k. absurd k) h

-- and what stands for a channel at a channel's
pub channel-place : (machine : Machine) (place at : ℕ) (c : Box ChannelUnit Global) (rows : Option (List IssuedCommand)) → IsPart machine (unit_at machine.config place) at (part.Channel c rows)
    → Channel (place - machine.config.cores) ≡ unit_at machine.config place
channel-place machine place at c rows h =
    cond_both (ltb place machine.config.cores) (Core place) (Channel (place - machine.config.cores))
    (λ u. IsPart machine u at (part.Channel c rows) → Channel (place - machine.config.cores) ≡ u)
    (λ e k. absurd k) (λ e k. refl) h

-- a unit that is woken is ready for what the links give
pub ready : (machine : Machine) (u unit : MachineUnit) (here there until : ℕ) (before : UnitWithWord) (links : InFlight) (inbox : List Message) → Exists machine.config u → here ≤ until → until ≤ 10 ^ 12
    → HoldsInbox machine here there until u links → Waits machine u here there before → unit ≡ u → inbox ≡ due_before links unit until → IsReadyFor machine u before.part inbox before.at until
ready machine u unit here there until before links inbox k l early holds waits e due =
    woken-ready machine u here there until before inbox k l early holds.known waits (held-mail machine here there until u unit links inbox holds e due)

-- no message in flight arrives at a unit in the cycles from `from` up to `until`
abbrev pub NothingArrives : InFlight → MachineUnit → ℕ → ℕ → Type 0
NothingArrives links unit from until =
    (word : ℕ) → word ≤ until → filter (is_due links.channels unit from word) links.messages ≡ []

-- nothing arrives at a unit before its word
pub nothing_arrives : (flight : InFlight) (u : MachineUnit) (from send : ℕ) (next : Option ℕ) → from ≤ send → next ≡ first_arrival (in_flight_to flight u)
    → IfSome next (λ cycle. NoneArrivesBefore cycle (in_flight_to flight u)) → NothingArrives flight u from (word_of next from send)
nothing_arrives flight u from send (Some arrival) l e h word k = none-due_after flight.channels from word arrival u flight.messages h (omega (arith, k))
nothing_arrives flight u from send None l e h word k =
    filter-both (arrives_within from word) (λ (m : Message). is_unit (receiver_of flight.channels m.link) u) _ (λ m. refl) flight.messages
    ∙ ap (filter (arrives_within from word))
    (none-first_none (λ (m : Message). m.arrival) (filter (λ (m : Message). is_unit (receiver_of flight.channels m.link) u) flight.messages) (sym e))

since_word : (next : Option ℕ) (from send : ℕ) → from ≤ send → (from ≤ word_of next from send) × (word_of next from send ≤ send)
since_word (Some arrival) from send l = (omega (arith, l), omega arith)
since_word None from send l = (l, omega arith)

-- a unit that was woken, and has run, has gone on
pub gone-on : (machine : Machine) (u unit : MachineUnit) (here there until send : ℕ) (before : UnitWithWord) (state : UnitState) (links after : InFlight) (next : Option ℕ) (held holds : List Message)
    → Exists machine.config u → here ≤ until → HoldsInbox machine here there until u links → Waits machine u here there before → unit ≡ u → HasRunOnto machine u before.at until state held holds
    → until ≤ send → SendsNothing machine until send u → after ≡ without_due links unit until → next ≡ first_arrival (in_flight_to after unit)
    → IfSome next (λ cycle. NoneArrivesBefore cycle (in_flight_to after unit))
    → AddsWhatItSent machine u here there until (record { part = state; at = until; wake = word_of next until send }) held holds
gone-on machine u unit here there until send before state links after next held holds k l inbox waits e onto since silent rest first least =
    record {
      messages = onto.messages;
      has_run = woken-has_run machine u here there until before (record { part = state; at = until; wake = wake }) onto.messages k l inbox.known waits onto.ran refl between.0
          (silent-sooner machine.config machine.traces.items until wake send u between.1 silent) none;
      added = onto.behind;
    }
  where
    wake : ℕ
    wake = word_of next until send

    between : (until ≤ wake) × (wake ≤ send)
    between = since_word next until send since

    taken : after ≡ record links { messages = filter (λ m. not (is_due machine.config.channels u here until m)) links.messages }
    taken = held-links machine here there until u unit links after inbox e rest

    channels : after.channels ≡ machine.config.channels
    channels = ap (λ (x : InFlight). x.channels) taken ∙ inbox.channels_are

    none : mail_in machine.config machine.traces.items there u until wake ≡ []
    none =
        sym (inbox.due until wake l)
        ∙ sym (taken-later machine.config.channels here until wake u links.messages)
        ∙ sym (ap {A = InFlight} (λ x. filter (is_due machine.config.channels u until wake) x.messages) taken)
        ∙ ap (λ n. filter (is_due n u until wake) after.messages) (sym channels)
        ∙ ap {A = MachineUnit} (λ v. filter (is_due after.channels v until wake) after.messages) (sym e)
        ∙ nothing_arrives after unit until send next since first least wake (omega arith)
