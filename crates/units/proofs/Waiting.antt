-- Units that are left alone.
use Rattle.std.proofs.Common.{◌≡◌, ℕ, suc, ◌+◌, ◌-◌, ◌^◌, ◌<◌, ◌≤◌, not, length, get_or, Bool, true, false, cond, ltb, leb, ◌&&◌, List, [], ◌∷◌, ◌++◌, Option, Some, None, refl, sym, ap, ap₂, subst, ◌∙◌, arith}
use Rattle.std.specs.declared.boxed.Box.{Box}
use Rattle.std.specs.declared.alloc.Global.{Global}
use Rattle.std.specs.Prelude.{filter, unwrap_or}
use Rattle.std.proofs.lemmas.Bool.Decides.{nat_tests}
use Rattle.std.proofs.lemmas.List.{append-nil}
use Rattle.sim_base.specs.declared.config.Config.{Config}
use Rattle.sim_base.specs.Counts.{in_flight}
use Rattle.sim_base.specs.History.{is_unit, trace_of, core_messages, channel_messages, inbox, receiver_of}
use Rattle.sim_base.specs.Locality.{TravelsFor}
use Rattle.sim_base.specs.Machine.{run}
use Rattle.sim_base.specs.declared.message.Message.{Message}
use Rattle.sim_base.specs.declared.message.Unit.{Unit as MachineUnit}
use Rattle.sim_base.specs.declared.message.Unit.TheVariants.{Core, Channel}
use Rattle.sim_base.specs.declared.trace.Entry.{Entry}
use Rattle.sim_base.proofs.Arrived.{arrived}
use Rattle.sim_base.proofs.Spans.{inbox-run}
use Rattle.sim_base.proofs.Grows.{has_channels}
use Rattle.laws.specs.Commands.{channel_steps_of}
use Rattle.channel_step.proofs.Stretches.{idle-messages, idle-run}
use Rattle.core_window.specs.CoreViews.{view_of}
use Rattle.core_window.specs.Rests.{Rests}
use Rattle.core_window.specs.Silence.{KeepsSilent}
use Rattle.core_window.specs.declared.core_unit.Core.{Core as CoreUnit}
use Rattle.links.specs.InFlight.{is_due}
use Rattle.units.specs.SpanLaws.Cores.{core_steps_of}
use Rattle.units.specs.SpanLaws.Mail.{arriving, mail_before, mail_in}
use Rattle.units.specs.SpanLaws.Quiet.{RestsAlone, IsSilent}
use Rattle.statistics.proofs.Messages.{arrived-sooner}
use Rattle.units.proofs.SpanLaws.Arrivals.{arriving-arrived, mail-settled}
use Rattle.units.proofs.SpanLaws.FlightsInTurns.{flights-meet}
use Rattle.units.proofs.SpanLaws.Bringing.{unit-due}
use Rattle.units.proofs.SpanLaws.Silent.{silent-sooner, none-part, none-first, silent-sent}
use Rattle.units.proofs.SpanLaws.Idle.{rest-messages, rests-sooner}
use Rattle.units.specs.SpanLaws.Units.{Exists}
use Rattle.units.proofs.SpanLaws.CoresOn.{length-core_steps_of}
use Rattle.units.specs.Parts.{IsPart, IsReadyFor, HasRun}
use Rattle.units.specs.Quiet.{IsNextActOf}
use Rattle.units.specs.declared.part.UnitState.TheVariants as part
use Rattle.units.proofs.Resting.{rests-in_none}
use Rattle.units.specs.declared.machine.Machine.{Machine}
use Rattle.units.specs.Runs.{run_of, sent_at}
use Rattle.units.specs.Wakes.{UnitWithWord, Waits, IsInboxKnown, HasGoneOn}

-- who rests is silent
pub rests-silent : (s : Config) (traces : List (List Entry)) (from until : ℕ) (u : MachineUnit) → RestsAlone s traces from until u → IsSilent s traces from until u
rests-silent s traces from until (Core core) h = λ n l.
    let trace = trace_of traces core in
    let steps = core_steps_of s traces from core in
    let mail = mail_before s traces from (Core core) from in
    let parts : until - from ≡ n + (until - from - n) = omega (arith, l) in
    ap (core_messages s core trace) (rests-sooner s core trace steps mail n (until - from - n) (subst (λ k. Rests s core trace steps mail k) parts h))
    ∙ rest-messages s core trace steps n
rests-silent s traces from until (Channel channel) h = λ n l.
    let steps = channel_steps_of s traces from channel in
    let mail = mail_before s traces from (Channel channel) from in
    ap (channel_messages s channel) (idle-run s channel steps mail n (λ k m. h k (omega (arith, l, m))))
    ∙ idle-messages s channel steps n

-- what arrives up to the end of a phase is known at its beginning
pub known-phase : (machine : Machine) (now until : ℕ) (u : MachineUnit) → now ≤ until → TravelsFor machine.config (until - now) → IsInboxKnown machine now until u
known-phase machine now until u l t =
    let e : until ≡ now + (until - now) = omega arith in
    ap (λ i. arrived (inbox machine.config machine.traces.items (run_of machine i) u) until) e ∙ inbox-run machine.config machine.traces.items now (until - now) u until (has_channels machine.config) t (omega arith) (until - now)

-- what is known up to a cycle is known up to each before it
pub known-sooner : (machine : Machine) (there here until : ℕ) (u : MachineUnit) → here ≤ until → IsInboxKnown machine there until u → IsInboxKnown machine there here u
known-sooner machine there here until u l h =
    sym (mail-settled machine.config machine.traces.items here until u l) ∙ arrived-sooner here until l (inbox machine.config machine.traces.items (run_of machine until) u) (inbox machine.config machine.traces.items (run_of machine there) u) h

-- where what arrives before a cycle is known, what arrives in a span up to there is known
pub known-mail : (machine : Machine) (there from until : ℕ) (u : MachineUnit) → IsInboxKnown machine there until u → mail_in machine.config machine.traces.items until u from until ≡ mail_in machine.config machine.traces.items there u from until
known-mail machine there from until u h =
    sym (arriving-arrived from until (inbox machine.config machine.traces.items (run_of machine until) u)) ∙ ap (arriving from until) h ∙ arriving-arrived from until (inbox machine.config machine.traces.items (run_of machine there) u)

-- as far as is known nothing arrived at a unit that waits
pub waits-none : (machine : Machine) (u : MachineUnit) (here there : ℕ) (unit_with_word : UnitWithWord) → Waits machine u here there unit_with_word → mail_in machine.config machine.traces.items there u unit_with_word.at here ≡ []
waits-none machine u here there unit_with_word h = none-part machine.config machine.traces.items there unit_with_word.at unit_with_word.wake unit_with_word.at here u (omega arith) h.ahead h.may.none

-- a unit that waits has sent nothing since the cycle where it stands
pub waits-sent : (machine : Machine) (u : MachineUnit) (here there : ℕ) (unit_with_word : UnitWithWord) → Exists machine.config u → IsInboxKnown machine there here u → Waits machine u here there unit_with_word
    → sent_at machine here u ≡ sent_at machine unit_with_word.at u
waits-sent machine u here there unit_with_word k known h =
    silent-sent machine.config machine.traces.items unit_with_word.at here u k h.behind (silent-sooner machine.config machine.traces.items unit_with_word.at here unit_with_word.wake u h.ahead h.may.silent)
    (known-mail machine there unit_with_word.at here u known ∙ waits-none machine u here there unit_with_word h)

-- a unit that waits goes on, untouched, up to a cycle that is not past its word: it sends nothing, and nothing arrives
-- at it
pub untouched : (machine : Machine) (u : MachineUnit) (here there until : ℕ) (unit_with_word : UnitWithWord) → Exists machine.config u → here ≤ until → IsInboxKnown machine there until u
    → until ≤ unit_with_word.wake → Waits machine u here there unit_with_word → HasGoneOn machine u here there until unit_with_word []
untouched machine u here there until unit_with_word k l known w h =
    let none : mail_in machine.config machine.traces.items until u unit_with_word.at until ≡ [] =
    known-mail machine there unit_with_word.at until u known ∙ none-part machine.config machine.traces.items there unit_with_word.at unit_with_word.wake unit_with_word.at until u (omega arith) w h.may.none in
    record {
      waits = record { behind = omega (arith, h.behind, l); ahead = w; stands = h.stands; may = h.may };
      sent = silent-sent machine.config machine.traces.items unit_with_word.at until u k (omega (arith, h.behind, l)) (silent-sooner machine.config machine.traces.items unit_with_word.at until unit_with_word.wake u w h.may.silent) none
          ∙ sym (waits-sent machine u here there unit_with_word k (known-sooner machine there here until u l known) h) ∙ sym (append-nil (sent_at machine here u));
    }

-- nothing arrives at it in the span
pub untouched-none : (machine : Machine) (u : MachineUnit) (here there until : ℕ) (unit_with_word : UnitWithWord) → until ≤ unit_with_word.wake → Waits machine u here there unit_with_word
    → mail_in machine.config machine.traces.items there u here until ≡ []
untouched-none machine u here there until unit_with_word w h = none-part machine.config machine.traces.items there unit_with_word.at unit_with_word.wake here until u h.behind w h.may.none

-- a unit that is woken is run from its own cycle, however far back that is, with what arrives at it from where its kind
-- stands
pub woken-ready : (machine : Machine) (u : MachineUnit) (here there until : ℕ) (unit_with_word : UnitWithWord) (inbox : List Message) → Exists machine.config u → here ≤ until → until ≤ 10 ^ 12
    → IsInboxKnown machine there until u → Waits machine u here there unit_with_word → inbox ≡ mail_in machine.config machine.traces.items there u here until → IsReadyFor machine u unit_with_word.part inbox unit_with_word.at until
woken-ready machine u here there until unit_with_word mail k l early known h e =
    record {
      exists = k;
      order = omega (arith, h.behind, l);
      early = early;
      stands = h.stands;
      mail = e
          ∙ sym (none-first machine.config machine.traces.items there unit_with_word.at here until u h.behind l (waits-none machine u here there unit_with_word h))
          ∙ sym (known-mail machine there unit_with_word.at until u known);
    }

empty-span : (until arrival : ℕ) → (leb until arrival && ltb arrival until) ≡ true → (leb until arrival && ltb arrival until) ≡ false
empty-span until arrival h = grind (arith, nat_tests)

span-none : (until : ℕ) (ms : List Message) → arriving until until ms ≡ []
span-none until [] = refl
span-none until (m ∷ ms) = go (leb until m.arrival && ltb m.arrival until) refl (span-none until ms)
  where
    go : (b : Bool) → (leb until m.arrival && ltb m.arrival until) ≡ b → arriving until until ms ≡ [] → cond b (m ∷ arriving until until ms) (arriving until until ms) ≡ []
    go true e rest = let bad : true ≡ false = sym e ∙ empty-span until m.arrival e in cc
    go false e rest = rest

-- a unit that is woken, and run from its own cycle, then stands at the end of the span
pub woken-has_run : (machine : Machine) (u : MachineUnit) (here there until : ℕ) (before after : UnitWithWord) (sent : List Message) → Exists machine.config u → here ≤ until → IsInboxKnown machine there until u
    → Waits machine u here there before → HasRun machine u before.at until after.part sent → after.at ≡ until → until ≤ after.wake → IsSilent machine.config machine.traces.items until after.wake u
    → mail_in machine.config machine.traces.items there u until after.wake ≡ [] → HasGoneOn machine u here there until after sent
woken-has_run machine u here there until before after sent k l known h ran at w silent none =
    record {
      waits = record {
        behind = omega (arith, at);
        ahead = w;
        stands = subst (λ n. IsPart machine u n after.part) (sym at) ran.stands;
        may = record { silent = subst (λ n. IsSilent machine.config machine.traces.items n after.wake u) (sym at) silent; none = ap (λ n. mail_in machine.config machine.traces.items there u n after.wake) at ∙ none };
      };
      sent = ran.sent ∙ ap (λ z. z ++ sent) (sym (waits-sent machine u here there before k (known-sooner machine there here until u l known) h));
    }

-- of what is in flight, what is due at a unit later on is what arrives at it of what was sent so far
pub due-flight : (s : Config) (traces : List (List Entry)) (now from until : ℕ) (u : MachineUnit) → now ≤ from
    → filter (is_due s.channels u from until) (in_flight s traces (run s traces now)) ≡ mail_in s traces now u from until
due-flight s traces now from until (Core core) l =
    ap (filter (is_due s.channels (Core core) from until)) (sym (flights-meet s traces now)) ∙ unit-due s traces now now from until (Core core) l
due-flight s traces now from until (Channel channel) l =
    ap (filter (is_due s.channels (Channel channel) from until)) (sym (flights-meet s traces now)) ∙ unit-due s traces now now from until (Channel channel) l

-- what a unit tells of its next act is a word before which it is silent
pub acts-silent : (machine : Machine) (u : MachineUnit) (from word : ℕ) → IsNextActOf machine u from None → from ≤ word → IsSilent machine.config machine.traces.items from word u
acts-silent machine u from word h l = rests-silent machine.config machine.traces.items from word u (h word l)

pub acts-silent_then : (machine : Machine) (u : MachineUnit) (from act : ℕ) → IsNextActOf machine u from (Some act) → IsSilent machine.config machine.traces.items from act u
acts-silent_then machine u from act h = rests-silent machine.config machine.traces.items from act u (h.rests act h.since (omega arith))

-- a unit is silent before the word that it tells: its next act, or where there is none the last of all words
pub word-silent : (machine : Machine) (u : MachineUnit) (from most : ℕ) (next : Option ℕ) → IsNextActOf machine u from next → from ≤ most → IsSilent machine.config machine.traces.items from (unwrap_or next most) u
word-silent machine u from most None h l = acts-silent machine u from most h l
word-silent machine u from most (Some act) h l = acts-silent_then machine u from act h

pub word-since : (machine : Machine) (u : MachineUnit) (from most : ℕ) (next : Option ℕ) → IsNextActOf machine u from next → from ≤ most → from ≤ unwrap_or next most
word-since machine u from most None h l = l
word-since machine u from most (Some act) h l = h.since

pub core-silent : (machine : Machine) (u : MachineUnit) (c : Box CoreUnit Global) (from until : ℕ) → IsPart machine u from (part.Core c) → KeepsSilent (view_of c.value) until → IsSilent machine.config machine.traces.items from until u
core-silent machine (Core core) c from until h keeps = λ n l.
    keeps machine.config core (trace_of machine.traces.items core) (core_steps_of machine.config machine.traces.items from core) (mail_before machine.config machine.traces.items from (Core core) from) h n (omega (arith, length-core_steps_of machine.config machine.traces.items from core, l))
core-silent machine (Channel channel) c from until h keeps = absurd h

-- where none passes, none is taken out
pub none-taken : (p : Message → Bool) (ms : List Message) → filter p ms ≡ [] → filter (λ m. not (p m)) ms ≡ ms
none-taken p [] h = refl
none-taken p (m ∷ ms) h = go (p m) h (none-taken p ms)
  where
    go : (b : Bool) → cond b (m ∷ filter p ms) (filter p ms) ≡ [] → (filter p ms ≡ [] → filter (λ n. not (p n)) ms ≡ ms) → cond (not b) (m ∷ filter (λ n. not (p n)) ms) (filter (λ n. not (p n)) ms) ≡ m ∷ ms
    go true k rest = cc
    go false k rest = ap (λ z. m ∷ z) (rest k)

too-late : (from word least arrival : ℕ) (b : Bool) → (b ≡ true → least ≤ arrival) → word ≤ least → (b && (leb from arrival && ltb arrival word)) ≡ false
too-late from word least arrival true h l = let k : least ≤ arrival = h refl in grind (arith, nat_tests)
too-late from word least arrival false h l = refl

-- where those to a unit arrive at a cycle or later, none is due at it before
pub none-due : (channels from word least : ℕ) (u : MachineUnit) (ms : List Message)
    → ((k : ℕ) (d : Message) → k < length ms → is_unit (receiver_of channels (get_or ms k d).link) u ≡ true → least ≤ (get_or ms k d).arrival) → word ≤ least
    → filter (is_due channels u from word) ms ≡ []
none-due channels from word least u [] h l = refl
none-due channels from word least u (m ∷ ms) h l =
    let no : is_due channels u from word m ≡ false = too-late from word least m.arrival (is_unit (receiver_of channels m.link) u) (h 0 m (omega arith)) l in
    ap (λ b. cond b (m ∷ filter (is_due channels u from word) ms) (filter (is_due channels u from word) ms)) no
    ∙ none-due channels from word least u ms (λ k d i. h (suc k) d (omega (arith, i))) l

-- a unit that waits may be run up to the cycle where the machine stands, where nothing arrives at it
pub waits-ready : (machine : Machine) (u : MachineUnit) (now : ℕ) (unit_with_word : UnitWithWord) (none : List Message) → Exists machine.config u → now ≤ 10 ^ 12 → Waits machine u now now unit_with_word → none ≡ []
    → IsReadyFor machine u unit_with_word.part none unit_with_word.at now
waits-ready machine u now unit_with_word none k early h e =
    record { exists = k; order = h.behind; early = early; stands = h.stands; mail = e ∙ sym (waits-none machine u now now unit_with_word h) }

-- a unit that stands where the machine does may be woken at once
pub awake-waits : (machine : Machine) (u : MachineUnit) (now : ℕ) (unit_with_word : UnitWithWord) → IsPart machine u now unit_with_word.part → unit_with_word.at ≡ now → unit_with_word.wake ≡ now → Waits machine u now now unit_with_word
awake-waits machine u now unit_with_word h at wake =
    record {
      behind = omega (arith, at);
      ahead = omega (arith, wake);
      stands = subst (λ n. IsPart machine u n unit_with_word.part) (sym at) h;
      may = record {
        silent = subst (λ n. IsSilent machine.config machine.traces.items n unit_with_word.wake u) (sym at) (subst (λ n. IsSilent machine.config machine.traces.items now n u) (sym wake) (rests-silent machine.config machine.traces.items now now u (rests-in_none machine.config machine.traces.items now u)));
        none = ap₂ (λ m n. mail_in machine.config machine.traces.items now u m n) at wake ∙ span-none now _;
      };
    }
