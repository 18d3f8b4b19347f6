-- The links while units are taken over a span, one after the other.
use Rattle.std.proofs.Common.{◌≡◌, ℕ, zero, suc, ◌+◌, ◌≤◌, Bool, true, false, ◌||◌, ltb, not, List, [], ◌∷◌, ◌++◌, inr, refl, sym, ap, ap₂, subst, ◌∙◌, arith}
use Rattle.std.proofs.lemmas.Bool.{cond-true, cond-false}
use Rattle.std.proofs.lemmas.Bool.Decides.{nat_tests}
use Rattle.std.proofs.lemmas.List.Folds.{list_any-append}
use Rattle.std.specs.Prelude.{filter}
use Rattle.std.proofs.Math.Bool.{or-false}
use Rattle.sim_base.specs.declared.config.Config.{Config}
use Rattle.sim_base.specs.History.{is_unit}
use Rattle.sim_base.specs.declared.message.Message.{Message}
use Rattle.sim_base.specs.declared.message.Unit.{Unit as MachineUnit}
use Rattle.sim_base.specs.declared.message.Unit.TheVariants.{Core, Channel}
use Rattle.links.specs.InFlight.{InFlight, is_due, is_due_before}
use Rattle.links.proofs.Due.{none_overdue}
use Rattle.units.specs.SpanLaws.Flight.{has_unit, left_after}
use Rattle.units.specs.SpanLaws.Mail.{mail_in}
use Rattle.units.proofs.SpanLaws.Flights.{due-left}
use Rattle.units.specs.Flight.{is_at_places}
use Rattle.units.specs.Units.{unit_at}
use Rattle.units.specs.Wakes.{UnitWithWord, Waits, HoldsInbox, units_from, links_after}
use Rattle.units.proofs.Sharing.{at-places, not_there}
use Rattle.units.specs.declared.machine.Machine.{Machine}
use Rattle.units.proofs.Waiting.{untouched-none, none-taken}

-- a unit stands at one place more
more-places : (s : Config) (first k : ℕ) (u : MachineUnit) → (is_at_places s first (first + k) u || is_unit u (unit_at s (first + k))) ≡ is_at_places s first (first + suc k) u
more-places s first k u = by u (ltb (first + k) s.cores) refl
  where
    by : (u : MachineUnit) (b : Bool) → ltb (first + k) s.cores ≡ b → (is_at_places s first (first + k) u || is_unit u (unit_at s (first + k))) ≡ is_at_places s first (first + suc k) u
    by (Core core) true e = ap (λ v. is_at_places s first (first + k) (Core core) || is_unit (Core core) v) (cond-true _ _ _ e) ∙ grind (arith, nat_tests)
    by (Core core) false e = ap (λ v. is_at_places s first (first + k) (Core core) || is_unit (Core core) v) (cond-false _ _ _ e) ∙ grind (arith, nat_tests)
    by (Channel channel) true e = ap (λ v. is_at_places s first (first + k) (Channel channel) || is_unit (Channel channel) v) (cond-true _ _ _ e) ∙ grind (arith, nat_tests)
    by (Channel channel) false e = ap (λ v. is_at_places s first (first + k) (Channel channel) || is_unit (Channel channel) v) (cond-false _ _ _ e) ∙ grind (arith, nat_tests)

no-places : (s : Config) (first : ℕ) (u : MachineUnit) → is_at_places s first (first + 0) u ≡ false
no-places s first (Core core) = grind (arith, nat_tests)
no-places s first (Channel channel) = grind (arith, nat_tests)

-- a unit is one of those from a place on where it stands at one of their places
pub units-places : (s : Config) (first count : ℕ) (u : MachineUnit) → has_unit (units_from s first count) u ≡ is_at_places s first (first + count) u
unfolding units_from
units-places s first zero u = sym (no-places s first u)
units-places s first (suc k) u =
    list_any-append (λ v. is_unit u v) (units_from s first k) (unit_at s (first + k) ∷ [])
    ∙ ap₂ (λ a b. a || b) (units-places s first k u) (or-false (is_unit u (unit_at s (first + k))))
    ∙ more-places s first k u

-- the next one is not among them
pub not-yet : (s : Config) (first k : ℕ) → has_unit (units_from s first k) (unit_at s (first + k)) ≡ false
not-yet s first k = units-places s first k (unit_at s (first + k)) ∙ at-places s first (first + k) (first + k) ∙ not_there first (first + k) (first + k) (inr (omega arith))

left-then : (channels from until : ℕ) (units : List MachineUnit) (u : MachineUnit) (ms : List Message)
    → left_after channels from until (units ++ u ∷ []) ms ≡ filter (λ m. not (is_due channels u from until m)) (left_after channels from until units ms)
left-then channels from until [] u ms = refl
left-then channels from until (v ∷ units) u ms = left-then channels from until units u (filter (λ m. not (is_due channels v from until m)) ms)

-- when no unit has taken anything, the links are as they were
pub after-none : (s : Config) (from until first : ℕ) (links : InFlight) → links ≡ links_after s from until first 0 links
unfolding units_from
after-none s from until first links = refl

-- when one unit more has
after-more : (s : Config) (from until first k : ℕ) (ms : List Message)
    → filter (λ m. not (is_due s.channels (unit_at s (first + k)) from until m)) (left_after s.channels from until (units_from s first k) ms) ≡ left_after s.channels from until (units_from s first (suc k)) ms
unfolding units_from
after-more s from until first k ms = sym (left-then s.channels from until (units_from s first k) (unit_at s (first + k)) ms)

-- what links hold for a unit they hold still when those before it have taken theirs
pub left-holds_inbox : (machine : Machine) (first here there until k : ℕ) (old links : InFlight) → HoldsInbox machine here there until (unit_at machine.config (first + k)) old
    → links ≡ links_after machine.config here until first k old → HoldsInbox machine here there until (unit_at machine.config (first + k)) links
left-holds_inbox machine first here there until k old links h e =
    subst (HoldsInbox machine here there until u) (sym e)
    (record {
      channels_are = h.channels_are;
      overdue = same 0 here ∙ h.overdue;
      due = λ from to l. same from to ∙ h.due from to l;
      known = h.known;
    })
  where
    u : MachineUnit
    u = unit_at machine.config (first + k)

    same : (a b : ℕ) → filter (is_due machine.config.channels u a b) (left_after machine.config.channels here until (units_from machine.config first k) old.messages) ≡ filter (is_due machine.config.channels u a b) old.messages
    same a b = due-left machine.config.channels here until a b u (units_from machine.config first k) old.messages (not-yet machine.config first k)

-- for a unit that they are brought to, what links give before a cycle is what is due from where its kind stands
pub held-due : (machine : Machine) (here there until : ℕ) (u : MachineUnit) (links : InFlight) → HoldsInbox machine here there until u links
    → (filter (is_due_before machine.config.channels u until) links.messages ≡ filter (is_due machine.config.channels u here until) links.messages)
    × (filter (λ m. not (is_due_before machine.config.channels u until m)) links.messages ≡ filter (λ m. not (is_due machine.config.channels u here until m)) links.messages)
held-due machine here there until u links h = none_overdue machine.config.channels here until u links.messages h.overdue

-- what a unit takes out of them is its mail
pub held-mail : (machine : Machine) (here there until : ℕ) (u unit : MachineUnit) (links : InFlight) (inbox : List Message)
    → HoldsInbox machine here there until u links → unit ≡ u → inbox ≡ filter (is_due_before links.channels unit until) links.messages → inbox ≡ mail_in machine.config machine.traces.items there u here until
held-mail machine here there until u unit links inbox h e m =
    m
    ∙ ap (λ c. filter (is_due_before c unit until) links.messages) h.channels_are
    ∙ ap {A = MachineUnit} (λ v. filter (is_due_before machine.config.channels v until) links.messages) e
    ∙ (held-due machine here there until u links h).0
    ∙ h.due here until (omega arith)

pub held-links : (machine : Machine) (here there until : ℕ) (u unit : MachineUnit) (links after : InFlight) → HoldsInbox machine here there until u links → unit ≡ u
    → after ≡ record links { messages = filter (λ m. not (is_due_before links.channels unit until m)) links.messages }
    → after ≡ record links { messages = filter (λ m. not (is_due machine.config.channels u here until m)) links.messages }
held-links machine here there until u unit links after h e a =
    a
    ∙ ap {B = InFlight} (λ c. record links { messages = filter (λ m. not (is_due_before c unit until m)) links.messages }) h.channels_are
    ∙ ap {A = MachineUnit} {B = InFlight} (λ v. record links { messages = filter (λ m. not (is_due_before machine.config.channels v until m)) links.messages }) e
    ∙ ap {B = InFlight} (λ ms. record links { messages = ms }) (held-due machine here there until u links h).1

-- a unit that takes its mail out of the links leaves the others
pub taken-links : (s : Config) (first here until k : ℕ) (old links after : InFlight) → links ≡ links_after s here until first k old
    → after ≡ record links { messages = filter (λ m. not (is_due s.channels (unit_at s (first + k)) here until m)) links.messages } → after ≡ links_after s here until first (suc k) old
taken-links s first here until k old links after e a =
    a
    ∙ ap {A = InFlight} {B = InFlight} (λ x. record x { messages = filter (λ m. not (is_due s.channels (unit_at s (first + k)) here until m)) x.messages }) e
    ∙ ap {B = InFlight} (λ z. record old { messages = z }) (after-more s here until first k old.messages)

-- a unit that is left alone has nothing in them that is due
pub left-alone : (machine : Machine) (first here there until k : ℕ) (old : InFlight) (unit_with_word : UnitWithWord) → here ≤ until → HoldsInbox machine here there until (unit_at machine.config (first + k)) old
    → until ≤ unit_with_word.wake → Waits machine (unit_at machine.config (first + k)) here there unit_with_word → links_after machine.config here until first k old ≡ links_after machine.config here until first (suc k) old
left-alone machine first here there until k old unit_with_word l holds_inbox w h =
    let u = unit_at machine.config (first + k) in
    let left = left_after machine.config.channels here until (units_from machine.config first k) old.messages in
    let none : filter (is_due machine.config.channels u here until) left ≡ [] =
    (left-holds_inbox machine first here there until k old (links_after machine.config here until first k old) holds_inbox refl).due here until (omega arith) ∙ untouched-none machine u here there until unit_with_word w h in
    ap {B = InFlight} (λ z. record old { messages = z }) (sym (none-taken (is_due machine.config.channels u here until) left none) ∙ after-more machine.config here until first k old.messages)
