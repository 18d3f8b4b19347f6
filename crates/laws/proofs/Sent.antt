-- What is sent in a cycle.
use Rattle.std.proofs.Common.{◌≡◌, ℕ, zero, suc, ◌+◌, ◌<◌, ◌≤◌, Bool, true, false, cond, List, [], ◌∷◌, ◌++◌, length, Option, Some, None, refl, sym, ap, ap₂, subst, ◌∙◌, arith, add-zero, zero-add}
use Rattle.std.specs.Prelude.{count_by, flat_map, slice_get}
use Rattle.std.specs.Option.{IfSome}
use Rattle.std.specs.List.{AllByRecursion as Each}
use Rattle.std.proofs.lemmas.Bool.{cond_both}
use Rattle.sim_base.specs.declared.message.Access.{Access}
use Rattle.sim_base.specs.declared.config.Config.{Config}
use Rattle.sim_base.specs.History.{below, trace_of, steps_of_core, steps_of_channel, core_messages, channel_messages, issued_before, inbox, request_of, reply, credit, messages_of, messages_at, messages_of_core, messages_of_channel, messages, is_before, by_age}
use Rattle.sim_base.specs.Sends.{sender, core_sends, channel_sends, sends}
use Rattle.sim_base.specs.MachineStep.{MachineStep, step_of_core}
use Rattle.sim_base.specs.Machine.{next_step}
use Rattle.sim_base.specs.Windows.{step}
use Rattle.sim_base.specs.declared.history.CoreStep.{CoreStep}
use Rattle.sim_base.specs.declared.command.Command.{Command}
use Rattle.sim_base.specs.declared.command.Command.TheVariants.{Act, Rd, Wr, Pre, Prea, Ref}
use Rattle.sim_base.specs.declared.command.Source.{Source}
use Rattle.sim_base.specs.declared.message.Message.{Message}
use Rattle.sim_base.specs.declared.message.Unit.{Unit as MachineUnit}
use Rattle.sim_base.specs.declared.message.Unit.TheVariants.{Core, Channel}
use Rattle.sim_base.specs.declared.trace.Entry.{Entry}
use Rattle.sim_base.proofs.Arrived.{put, puts, by_age-puts, Each-puts}
use Rattle.sim_base.proofs.Below.{flat_map_below_more}
use Rattle.sim_base.proofs.Each.{Each-append, Each-flat_map_below}
use Rattle.sim_base.proofs.Grows.{SentBy, messages-grow, core_channel_differ, core_sends-by, channel_sends-by, has_channels}
use Rattle.sim_base.proofs.Ordered.{Each-weaker}
use Rattle.sim_base.proofs.Spans.{step_of_core-next}
use Rattle.sim_base.specs.declared.message.Access.TheVariants as access
use Rattle.sim_base.proofs.Lists.{count-cons}
use Rattle.laws.proofs.Counting.{count-append, count-none, count-flat_map-none, count-flat_map-one, count-flat_map-bound}
use Rattle.laws.proofs.Issued.{GoesOn, goes_on, between-each, one_request}

-- a count and a fact do not depend on the order
count-put : (p : Message → Bool) (m : Message) (ns : List Message) → count_by p (put m ns) ≡ cond (p m) 1 0 + count_by p ns
count-put p m [] = count-cons p m []
count-put p m (n ∷ ns) =
    cond_both (is_before m n) (m ∷ n ∷ ns) (n ∷ put m ns) (λ x. count_by p x ≡ cond (p m) 1 0 + count_by p (n ∷ ns))
    (λ e. count-cons p m (n ∷ ns))
    (λ e.
    let rest : count_by p (put m ns) ≡ cond (p m) 1 0 + count_by p ns = count-put p m ns in
    let a : count_by p (n ∷ put m ns) ≡ cond (p n) 1 0 + count_by p (put m ns) = count-cons p n (put m ns) in
    let b : count_by p (n ∷ ns) ≡ cond (p n) 1 0 + count_by p ns = count-cons p n ns in
    omega arith)

count-puts : (p : Message → Bool) (acc ms : List Message) → count_by p (puts acc ms) ≡ count_by p acc + count_by p ms
count-puts p acc [] = sym (add-zero (count_by p acc))
count-puts p acc (m ∷ ms) =
    let rest : count_by p (puts (put m acc) ms) ≡ count_by p (put m acc) + count_by p ms = count-puts p (put m acc) ms in
    let a : count_by p (put m acc) ≡ cond (p m) 1 0 + count_by p acc = count-put p m acc in
    let b : count_by p (m ∷ ms) ≡ cond (p m) 1 0 + count_by p ms = count-cons p m ms in
    omega arith

pub count-by_age : (p : Message → Bool) (ms : List Message) → count_by p (by_age ms) ≡ count_by p ms
count-by_age p ms = ap (count_by p) (by_age-puts ms) ∙ count-puts p [] ms ∙ zero-add (count_by p ms)

Each-unput : (P : Message → Type 0) (m : Message) (ns : List Message) → Each P (put m ns) → P m × Each P ns
Each-unput P m [] h = (h.0, tt)
Each-unput P m (n ∷ ns) h = go (is_before m n) (Each-unput P m ns) h
  where
    go : (b : Bool) → (Each P (put m ns) → P m × Each P ns) → Each P (cond b (m ∷ n ∷ ns) (n ∷ put m ns)) → P m × Each P (n ∷ ns)
    go true rest k = (k.0, k.1)
    go false rest k = let r = rest k.1 in (r.0, (k.0, r.1))

Each-unputs : (P : Message → Type 0) (acc ms : List Message) → Each P (puts acc ms) → Each P acc × Each P ms
Each-unputs P acc [] h = (h, tt)
Each-unputs P acc (m ∷ ms) h =
    let k = Each-unputs P (put m acc) ms h in
    let l = Each-unput P m acc k.0 in
    (l.1, (l.0, k.1))

-- with one machine_step more, what was sent is what was sent before and what is sent now
pub count-messages : (p : Message → Bool) (s : Config) (traces : List (List Entry)) (history : List MachineStep) (machine_step : MachineStep)
    → count_by p (messages s traces (history ++ machine_step ∷ [])) ≡ count_by p (messages s traces history) + count_by p (sends s traces history machine_step)
count-messages p s traces history machine_step =
    let then = messages s traces (history ++ machine_step ∷ []) in
    let now = messages s traces history in
    let new = sends s traces history machine_step in
    let a : count_by p (puts [] then) ≡ 0 + count_by p then = count-puts p [] then in
    let b : count_by p (puts (puts [] now) new) ≡ count_by p (puts [] now) + count_by p new = count-puts p (puts [] now) new in
    let c : count_by p (puts [] now) ≡ 0 + count_by p now = count-puts p [] now in
    let d : count_by p (puts [] then) ≡ count_by p (puts (puts [] now) new) = ap (count_by p) (messages-grow s traces history machine_step) in
    omega arith

pub Each-messages : (P : Message → Type 0) (s : Config) (traces : List (List Entry)) (history : List MachineStep) (machine_step : MachineStep)
    → Each P (messages s traces history) → Each P (sends s traces history machine_step) → Each P (messages s traces (history ++ machine_step ∷ []))
Each-messages P s traces history machine_step h k =
    let now = messages s traces history in
    let new = sends s traces history machine_step in
    (Each-unputs P [] (messages s traces (history ++ machine_step ∷ []))
    (subst (Each P) (sym (messages-grow s traces history machine_step)) (Each-puts P (puts [] now) new (Each-puts P [] now tt h) k))).1

-- the test passes nothing that another unit sends
abbrev pub OnlyFrom : Config → MachineUnit → (Message → Bool) → Type 0
OnlyFrom s unit p = (m : Message) → p m ≡ true → sender s m.link ≡ unit

none_from : (s : Config) (unit other : MachineUnit) (p : Message → Bool) → OnlyFrom s unit p → (other ≡ unit → ⊥) → (ms : List Message) → SentBy s other ms → count_by p ms ≡ 0
none_from s unit other p only differ ms h = count-none p ms (Each-weaker _ (λ m. p m ≡ false) (λ m e. fails m e (p m) refl) ms h)
  where
    fails : (m : Message) → sender s m.link ≡ other → (b : Bool) → p m ≡ b → p m ≡ false
    fails m e true f = absurd (differ (sym e ∙ only m f))
    fails m e false f = f

-- what is sent by cores and channels, each its part
record Parts (s : Config) (f g : ℕ → List Message) : Type 0 where
  pub cores : (i : ℕ) → i < s.cores → SentBy s (Core i) (f i)
  pub channels : (i : ℕ) → i < s.channels → SentBy s (Channel i) (g i)

abbrev parts : Config → (ℕ → List Message) → (ℕ → List Message) → List Message
parts s f g = flat_map f (below s.cores) ++ flat_map g (below s.channels)

core_from : (c i : ℕ) → (i ≡ c → ⊥) → Core i ≡ Core c → ⊥
core_from c i h e = let same : i ≡ c = cc in h same

channel_from : (c i : ℕ) → (i ≡ c → ⊥) → Channel i ≡ Channel c → ⊥
channel_from c i h e = let same : i ≡ c = cc in h same

no_channels : (s : Config) (f g : ℕ → List Message) → Parts s f g → (p : Message → Bool) (c : ℕ) → OnlyFrom s (Core c) p → count_by p (flat_map g (below s.channels)) ≡ 0
no_channels s f g h p c only =
    count-flat_map-none p g s.channels (λ i l. none_from s (Core c) (Channel i) p only (λ e. core_channel_differ c i (sym e)) (g i) (h.channels i l))

no_cores : (s : Config) (f g : ℕ → List Message) → Parts s f g → (p : Message → Bool) (k : ℕ) → OnlyFrom s (Channel k) p → count_by p (flat_map f (below s.cores)) ≡ 0
no_cores s f g h p k only =
    count-flat_map-none p f s.cores (λ i l. none_from s (Channel k) (Core i) p only (core_channel_differ i k) (f i) (h.cores i l))

count-channel : (s : Config) (f g : ℕ → List Message) → Parts s f g → (p : Message → Bool) (k : ℕ) → k < s.channels → OnlyFrom s (Channel k) p → count_by p (parts s f g) ≡ count_by p (g k)
count-channel s f g h p k l only =
    let a : count_by p (parts s f g) ≡ count_by p (flat_map f (below s.cores)) + count_by p (flat_map g (below s.channels)) = count-append p (flat_map f (below s.cores)) _ in
    let b : count_by p (flat_map f (below s.cores)) ≡ 0 = no_cores s f g h p k only in
    let d : count_by p (flat_map g (below s.channels)) ≡ count_by p (g k) =
    count-flat_map-one p g s.channels k l (λ i m e. none_from s (Channel k) (Channel i) p only (channel_from k i e) (g i) (h.channels i m)) in
    omega arith

bound-core : (s : Config) (f g : ℕ → List Message) → Parts s f g → (p : Message → Bool) (c b : ℕ) → OnlyFrom s (Core c) p → (c < s.cores → count_by p (f c) ≤ b) → count_by p (parts s f g) ≤ b
bound-core s f g h p c b only k =
    let a : count_by p (parts s f g) ≡ count_by p (flat_map f (below s.cores)) + count_by p (flat_map g (below s.channels)) = count-append p (flat_map f (below s.cores)) _ in
    let z : count_by p (flat_map g (below s.channels)) ≡ 0 = no_channels s f g h p c only in
    let d : count_by p (flat_map f (below s.cores)) ≤ b =
    count-flat_map-bound p f s.cores c b (λ i m e. none_from s (Core c) (Core i) p only (core_from c i e) (f i) (h.cores i m)) k in
    omega arith

bound-channel : (s : Config) (f g : ℕ → List Message) → Parts s f g → (p : Message → Bool) (c b : ℕ) → OnlyFrom s (Channel c) p → (c < s.channels → count_by p (g c) ≤ b) → count_by p (parts s f g) ≤ b
bound-channel s f g h p c b only k =
    let a : count_by p (parts s f g) ≡ count_by p (flat_map f (below s.cores)) + count_by p (flat_map g (below s.channels)) = count-append p (flat_map f (below s.cores)) _ in
    let z : count_by p (flat_map f (below s.cores)) ≡ 0 = no_cores s f g h p c only in
    let d : count_by p (flat_map g (below s.channels)) ≤ b =
    count-flat_map-bound p g s.channels c b (λ i m e. none_from s (Channel c) (Channel i) p only (channel_from c i e) (g i) (h.channels i m)) k in
    omega arith

sends-parts : (s : Config) (traces : List (List Entry)) (history : List MachineStep) (machine_step : MachineStep) → Parts s (core_sends s traces history machine_step) (channel_sends s history machine_step)
sends-parts s traces history machine_step =
    record { cores = λ i l. core_sends-by s traces history machine_step i (has_channels s); channels = λ i l. channel_sends-by s history machine_step i l }

pub sends-channel : (s : Config) (traces : List (List Entry)) (history : List MachineStep) (machine_step : MachineStep) (p : Message → Bool) (k : ℕ) → k < s.channels → OnlyFrom s (Channel k) p
    → count_by p (sends s traces history machine_step) ≡ count_by p (channel_sends s history machine_step k)
unfolding sends
sends-channel s traces history machine_step p k l only = count-channel s _ _ (sends-parts s traces history machine_step) p k l only

pub sends-bound_core : (s : Config) (traces : List (List Entry)) (history : List MachineStep) (machine_step : MachineStep) (p : Message → Bool) (c b : ℕ) → OnlyFrom s (Core c) p
    → (c < s.cores → count_by p (core_sends s traces history machine_step c) ≤ b) → count_by p (sends s traces history machine_step) ≤ b
unfolding sends
sends-bound_core s traces history machine_step p c b only h = bound-core s _ _ (sends-parts s traces history machine_step) p c b only h

pub sends-bound_channel : (s : Config) (traces : List (List Entry)) (history : List MachineStep) (machine_step : MachineStep) (p : Message → Bool) (k b : ℕ) → OnlyFrom s (Channel k) p
    → (k < s.channels → count_by p (channel_sends s history machine_step k) ≤ b) → count_by p (sends s traces history machine_step) ≤ b
unfolding sends
sends-bound_channel s traces history machine_step p k b only h = bound-channel s _ _ (sends-parts s traces history machine_step) p k b only h

-- what a core issues in the cycle after a history
pub issues-each : (P : Message → Type 0) (s : Config) (traces : List (List Entry)) (history : List MachineStep) (c : ℕ) → c < s.cores
    → ((j : ℕ) (e : Entry) → j < (step_of_core c (next_step s traces history)).issued → slice_get (trace_of traces c) (issued_before (steps_of_core c history) + j) ≡ Some e
    → GoesOn s c (trace_of traces c) (steps_of_core c history) (inbox s traces history (Core c)) j
    → IfSome (request_of s c (length history) (issued_before (steps_of_core c history) + j) e) P)
    → Each P (core_sends s traces history (next_step s traces history) c)
unfolding core_sends
issues-each P s traces history c l h =
    let trace = trace_of traces c in
    let steps = steps_of_core c history in
    let first = issued_before steps in
    let m = (step_of_core c (next_step s traces history)).issued in
    let e : step_of_core c (next_step s traces history) ≡ (step s c trace steps (inbox s traces history (Core c))).0 = step_of_core-next s traces history c l in
    between-each P s c trace (length history) first (first + m)
    (λ j x b f.
    let k : j < m = omega arith in
    h j x k f (goes_on s c trace steps (inbox s traces history (Core c)) j (subst (λ (r : CoreStep). j < r.issued) e k)))

-- it sends one request at most
pub issues-one : (s : Config) (traces : List (List Entry)) (history : List MachineStep) (c : ℕ) → c < s.cores → length (core_sends s traces history (next_step s traces history) c) ≤ 1
unfolding core_sends
issues-one s traces history c l =
    let trace = trace_of traces c in
    let steps = steps_of_core c history in
    let e : step_of_core c (next_step s traces history) ≡ (step s c trace steps (inbox s traces history (Core c))).0 = step_of_core-next s traces history c l in
    one_request s c trace (length history) (issued_before steps) (step_of_core c (next_step s traces history)).issued
    (λ j b. (goes_on s c trace steps (inbox s traces history (Core c)) j (subst (λ (r : CoreStep). j < r.issued) e b)).0)

-- what holds of each message that a channel sends for a command holds of what it sends in a cycle
pub commands-each : (P : Message → Type 0) (s : Config) (channel cycle : ℕ) → ((source : Source) → P (reply s channel cycle source))
    → ((access : Access) (source : Source) → P (credit s channel cycle access source)) → (o : Option Command) → Each P (messages_at s channel cycle o)
unfolding messages_of
commands-each P s channel cycle h k None = tt
commands-each P s channel cycle h k (Some (Rd bank row column source)) = (h source, (k access.Read source, tt))
commands-each P s channel cycle h k (Some (Wr bank row column source)) = (k access.Write source, tt)
commands-each P s channel cycle h k (Some (Act bank row source)) = tt
commands-each P s channel cycle h k (Some (Pre bank source)) = tt
commands-each P s channel cycle h k (Some (Prea rank)) = tt
commands-each P s channel cycle h k (Some (Ref rank)) = tt

pub sends-each : (P : Message → Type 0) (s : Config) (traces : List (List Entry)) (history : List MachineStep) (machine_step : MachineStep)
    → ((c : ℕ) → c < s.cores → Each P (core_sends s traces history machine_step c)) → ((k : ℕ) → k < s.channels → Each P (channel_sends s history machine_step k))
    → Each P (sends s traces history machine_step)
unfolding sends
sends-each P s traces history machine_step h k =
    Each-append P (flat_map (core_sends s traces history machine_step) (below s.cores)) (flat_map (channel_sends s history machine_step) (below s.channels))
    (Each-flat_map_below P (core_sends s traces history machine_step) s.cores h)
    (Each-flat_map_below P (channel_sends s history machine_step) s.channels k)

pub flat_map-none : (f : ℕ → List Message) (n : ℕ) → ((i : ℕ) → i < n → f i ≡ []) → flat_map f (below n) ≡ []
flat_map-none f zero h = refl
flat_map-none f (suc n) h = flat_map_below_more f n ∙ ap₂ (λ x y. x ++ y) (flat_map-none f n (λ i l. h i (omega arith))) (h n (omega arith))

-- nothing was sent before the first cycle
pub messages-none : (s : Config) (traces : List (List Entry)) → messages s traces [] ≡ []
unfolding messages messages_of_core messages_of_channel steps_of_core steps_of_channel core_messages channel_messages
messages-none s traces =
    ap₂ (λ x y. x ++ y) (flat_map-none (messages_of_core s traces []) s.cores (λ i l. refl)) (flat_map-none (messages_of_channel s []) s.channels (λ i l. refl))
