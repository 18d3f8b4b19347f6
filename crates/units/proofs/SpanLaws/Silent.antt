-- A unit that is silent in a span sends nothing in the run, where nothing arrives at it.
use Rattle.std.proofs.Common.{◌≡◌, ℕ, ◌-◌, ◌≤◌, Bool, true, false, cond, ltb, leb, ◌&&◌, List, [], ◌∷◌, ◌++◌, refl, sym, ap, ap₂, ◌∙◌, arith}
use Rattle.std.specs.Prelude.{filter}
use Rattle.std.proofs.lemmas.Bool.Decides.{nat_tests}
use Rattle.std.proofs.lemmas.List.{append-nil}
use Rattle.sim_base.specs.declared.config.Config.{Config}
use Rattle.sim_base.specs.History.{trace_of, core_messages, channel_messages, messages_of_core, messages_of_channel, inbox}
use Rattle.sim_base.specs.Machine.{run, core_run, channel_run}
use Rattle.sim_base.specs.declared.message.Message.{Message}
use Rattle.sim_base.specs.declared.message.Unit.{Unit as MachineUnit}
use Rattle.sim_base.specs.declared.message.Unit.TheVariants.{Core, Channel}
use Rattle.sim_base.specs.declared.trace.Entry.{Entry}
use Rattle.laws.specs.Commands.{channel_steps_of}
use Rattle.units.specs.SpanLaws.Cores.{core_steps_of}
use Rattle.units.specs.SpanLaws.Mail.{mail_before, mail_in}
use Rattle.units.specs.SpanLaws.Quiet.{IsSilent}
use Rattle.units.specs.SpanLaws.Units.{Exists, sent_of}
use Rattle.units.proofs.SpanLaws.Arrivals.{mail-settled}
use Rattle.units.proofs.SpanLaws.ChannelSpans.{channels-run_alone}
use Rattle.units.proofs.SpanLaws.CoreSpans.{cores-run_alone}

-- who is silent in a span is silent in a shorter one
pub silent-sooner : (s : Config) (traces : List (List Entry)) (from sooner until : ℕ) (u : MachineUnit) → sooner ≤ until → IsSilent s traces from until u → IsSilent s traces from sooner u
silent-sooner s traces from sooner until (Core core) k h = λ n l. h n (omega (arith, k, l))
silent-sooner s traces from sooner until (Channel channel) k h = λ n l. h n (omega (arith, k, l))

-- where none passes a test, none passes a stronger one
pub none-stronger : (p q : Message → Bool) (ms : List Message) → ((m : Message) → p m ≡ true → q m ≡ true) → filter q ms ≡ [] → filter p ms ≡ []
none-stronger p q [] f h = refl
none-stronger p q (m ∷ ms) f h = go (q m) refl h (p m) refl (none-stronger p q ms f)
  where
    go : (b : Bool) → q m ≡ b → cond b (m ∷ filter q ms) (filter q ms) ≡ [] → (c : Bool) → p m ≡ c → (filter q ms ≡ [] → filter p ms ≡ []) → cond c (m ∷ filter p ms) (filter p ms) ≡ []
    go true e k c g rest = cc
    go false e k true g rest = let bad : true ≡ false = sym (f m g) ∙ e in cc
    go false e k false g rest = rest k

-- where none passes one test, two others take the same that agree on the rest
pub none-else : (o p q : Message → Bool) (ms : List Message) → ((m : Message) → o m ≡ false → p m ≡ q m) → filter o ms ≡ [] → filter p ms ≡ filter q ms
none-else o p q [] f h = refl
none-else o p q (m ∷ ms) f h = go (o m) refl h (none-else o p q ms f)
  where
    go : (b : Bool) → o m ≡ b → cond b (m ∷ filter o ms) (filter o ms) ≡ [] → (filter o ms ≡ [] → filter p ms ≡ filter q ms)
        → cond (p m) (m ∷ filter p ms) (filter p ms) ≡ cond (q m) (m ∷ filter q ms) (filter q ms)
    go true e k rest = cc
    go false e k rest = ap₂ (λ b z. cond b (m ∷ z) z) (f m e) (rest k)

inner : (a b from until arrival : ℕ) → a ≤ from → until ≤ b → (leb from arrival && ltb arrival until) ≡ true → (leb a arrival && ltb arrival b) ≡ true
inner a b from until arrival k l h = grind (arith, nat_tests)

outer : (at now until arrival : ℕ) → at ≤ now → now ≤ until → (leb at arrival && ltb arrival now) ≡ false → (leb at arrival && ltb arrival until) ≡ (leb now arrival && ltb arrival until)
outer at now until arrival k l h = grind (arith, nat_tests)

-- where nothing arrives in a span, nothing arrives in a part of it
pub none-part : (s : Config) (traces : List (List Entry)) (n a b from until : ℕ) (u : MachineUnit) → a ≤ from → until ≤ b → mail_in s traces n u a b ≡ [] → mail_in s traces n u from until ≡ []
none-part s traces n a b from until u k l h =
    none-stronger (λ (m : Message). leb from m.arrival && ltb m.arrival until) (λ (m : Message). leb a m.arrival && ltb m.arrival b) (inbox s traces (run s traces n) u)
    (λ m e. inner a b from until m.arrival k l e) h

-- where nothing arrives in the first part of a span, the mail of the span is that of the rest
pub none-first : (s : Config) (traces : List (List Entry)) (n at now until : ℕ) (u : MachineUnit) → at ≤ now → now ≤ until → mail_in s traces n u at now ≡ []
    → mail_in s traces n u at until ≡ mail_in s traces n u now until
none-first s traces n at now until u k l h =
    none-else (λ (m : Message). leb at m.arrival && ltb m.arrival now) (λ (m : Message). leb at m.arrival && ltb m.arrival until) (λ (m : Message). leb now m.arrival && ltb m.arrival until)
    (inbox s traces (run s traces n) u) (λ m e. outer at now until m.arrival k l e) h

-- THE KEY: a unit that would be silent in a span, in which nothing arrives at it, sends nothing in the run
pub silent-sent : (s : Config) (traces : List (List Entry)) (at until : ℕ) (u : MachineUnit) → Exists s u → at ≤ until → IsSilent s traces at until u → mail_in s traces until u at until ≡ []
    → sent_of s traces until u ≡ sent_of s traces at u
unfolding messages_of_core messages_of_channel
silent-sent s traces at until (Core core) k l h none =
    let trace = trace_of traces core in
    let steps = core_steps_of s traces at core in
    let n = until - at in
    ap (core_messages s core trace)
    (sym (cores-run_alone s traces at until core k l)
    ∙ ap (λ ms. core_run s core trace steps (mail_before s traces until (Core core) at ++ ms) n) none
    ∙ ap (λ ms. core_run s core trace steps ms n) (append-nil _ ∙ mail-settled s traces at until (Core core) l))
    ∙ h n (omega (arith, l))
silent-sent s traces at until (Channel channel) k l h none =
    let steps = channel_steps_of s traces at channel in
    let n = until - at in
    ap (channel_messages s channel)
    (sym (channels-run_alone s traces at until channel k l)
    ∙ ap (λ ms. channel_run s channel steps (mail_before s traces until (Channel channel) at ++ ms) n) none
    ∙ ap (λ ms. channel_run s channel steps ms n) (append-nil _ ∙ mail-settled s traces at until (Channel channel) l))
    ∙ h n (omega (arith, l))
