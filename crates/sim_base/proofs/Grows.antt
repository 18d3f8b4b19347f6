-- With one step more, what was sent grows by what is sent in that cycle, wherever in the list of all messages it
-- stands.
use Rattle.std.proofs.Common.{ℕ, zero, suc, ◌+◌, ◌*◌, ◌/◌, ◌%◌, ◌<◌, ◌≡◌, Bool, true, false, eqb, List, [], ◌∷◌, ◌++◌, length, take, drop, ◌-◌, Option, Some, None, refl, sym, ap, ap₂, ◌∙◌, add-zero, arith}
use Rattle.std.specs.Prelude.{filter, flat_map, fold, sum_by}
use Rattle.std.specs.Option.{IfSome}
use Rattle.std.specs.List.{AllByRecursion as Each, enumerate_from}
use Rattle.std.proofs.lemmas.Bool.{cond-true, cond-false}
use Rattle.std.proofs.lemmas.Bool.Decides.{nat_tests}
use Rattle.std.proofs.lemmas.Nat.{div-mul-add, mod-mul-add}
use Rattle.std.proofs.lemmas.List.{map-append, length-map, length_push}
use Rattle.std.proofs.lemmas.List.Sums.{sum_by-append, sum_by-cons}
use Rattle.std.proofs.Math.Seq.{take-append_seam, take-length}
use Rattle.sim_base.specs.declared.config.Config.{Config}
use Rattle.sim_base.specs.Config.{request_link, reply_link, credit_link}
use Rattle.sim_base.specs.Places.{field_of, place_of}
use Rattle.sim_base.specs.MachineStep.{MachineStep, step_of_core, step_of_channel}
use Rattle.sim_base.specs.History.{below, trace_of, steps_of_core, steps_of_channel, issued_before, request, request_of, reply, credit, requests_between, requests_in, core_messages, messages_of, messages_at, messages_in, channel_messages, messages_of_core, messages_of_channel, messages, is_to, is_unit, by_age, insert_by_age, inbox}
use Rattle.sim_base.specs.Sends.{sender, core_sends, channel_sends, sends}
use Rattle.sim_base.specs.declared.history.CoreStep.{CoreStep}
use Rattle.sim_base.specs.declared.command.Command.{Command}
use Rattle.sim_base.specs.declared.command.Command.TheVariants.{Act, Rd, Wr, Pre, Prea, Ref}
use Rattle.sim_base.specs.declared.message.Access.{Access}
use Rattle.sim_base.specs.declared.message.Message.{Message}
use Rattle.sim_base.specs.declared.message.Unit.{Unit as MachineUnit}
use Rattle.sim_base.specs.declared.message.Unit.TheVariants.{Core, Channel}
use Rattle.sim_base.specs.declared.place.Field.TheVariants as field
use Rattle.sim_base.specs.declared.trace.Entry.{Entry}
use Rattle.sim_base.specs.declared.trace.Entry.TheVariants.{Plain, Read, Write}
use Rattle.sim_base.proofs.Below.{flat_map_below_more, flat_map_below_same}
use Rattle.sim_base.proofs.Each.{Each-all, Each-filter_map, Each-flat_map_below}
use Rattle.sim_base.proofs.Arrived.{puts, by_age-puts, fold-puts}
use Rattle.sim_base.proofs.Ordered.{Apart, Each-weaker, puts-swap, puts-append, Sorted-puts, filter-puts}
use Rattle.sim_base.proofs.Added.{core_messages-push, channel_messages-push}
use Rattle.sim_base.proofs.Banks.{digit_below}

-- each message is sent by this unit
abbrev pub SentBy : Config → MachineUnit → List Message → Type 0
SentBy s unit ms = Each (λ (m : Message). sender s m.link ≡ unit) ms

pub sender_request : (s : Config) (c k : ℕ) → k < s.channels → sender s (request_link s c k) ≡ Core c
unfolding sender
sender_request s c k l =
    let x = c * s.channels + k in
    let e : eqb ((3 * x) % 3) 0 ≡ true = grind (arith, nat_tests) in
    let f : (3 * x) / 3 ≡ x = omega arith in
    cond-true _ _ _ e ∙ ap (λ y. Core (y / s.channels)) f ∙ ap Core (div-mul-add c s.channels k l)

pub sender_reply : (s : Config) (c k : ℕ) → k < s.channels → sender s (reply_link s c k) ≡ Channel k
unfolding sender
sender_reply s c k l =
    let x = c * s.channels + k in
    let e : eqb ((3 * x + 1) % 3) 0 ≡ false = grind (arith, nat_tests) in
    let f : (3 * x + 1) / 3 ≡ x = omega arith in
    cond-false _ _ _ e ∙ ap (λ y. Channel (y % s.channels)) f ∙ ap Channel (mod-mul-add c s.channels k l)

pub sender_credit : (s : Config) (c k : ℕ) → k < s.channels → sender s (credit_link s c k) ≡ Channel k
unfolding sender
sender_credit s c k l =
    let x = c * s.channels + k in
    let e : eqb ((3 * x + 2) % 3) 0 ≡ false = grind (arith, nat_tests) in
    let f : (3 * x + 2) / 3 ≡ x = omega arith in
    cond-false _ _ _ e ∙ ap (λ y. Channel (y % s.channels)) f ∙ ap Channel (mod-mul-add c s.channels k l)

request_by : (s : Config) (core cycle entry : ℕ) (access : Access) (address : ℕ) → 0 < s.channels → sender s (request s core cycle entry access address).link ≡ Core core
unfolding request place_of field_of
request_by s core cycle entry access address h = sender_request s core _ (digit_below s field.Channel s.fields _ h)

request_of-by : (s : Config) (core cycle : ℕ) → 0 < s.channels → (e : ℕ × Entry) → IfSome (request_of s core cycle e.0 e.1) (λ (m : Message). sender s m.link ≡ Core core)
request_of-by s core cycle h (entry, Plain) = tt
request_of-by s core cycle h (entry, Read address) = request_by s core cycle entry _ address h
request_of-by s core cycle h (entry, Write address) = request_by s core cycle entry _ address h

between-by : (s : Config) (core : ℕ) (trace : List Entry) (cycle first end : ℕ) → 0 < s.channels → SentBy s (Core core) (requests_between s core trace cycle first end)
unfolding requests_between
between-by s core trace cycle first end h =
    let es = take (end - first) (drop first (enumerate_from 0 trace)) in
    Each-filter_map (λ (m : Message). sender s m.link ≡ Core core) (λ e. request_of s core cycle e.0 e.1) es (Each-all _ (request_of-by s core cycle h) es)

pub core_messages-by : (s : Config) (core : ℕ) (trace : List Entry) (steps : List CoreStep) → 0 < s.channels → SentBy s (Core core) (core_messages s core trace steps)
unfolding core_messages requests_in
core_messages-by s core trace steps h = Each-flat_map_below _ (requests_in s core trace steps) (length steps) (λ cycle l. between-by s core trace cycle _ _ h)

messages_at-by : (s : Config) (channel cycle : ℕ) → channel < s.channels → (o : Option Command) → SentBy s (Channel channel) (messages_at s channel cycle o)
unfolding messages_of reply credit
messages_at-by s channel cycle l None = tt
messages_at-by s channel cycle l (Some (Rd bank row column source)) = (sender_reply s source.core channel l, (sender_credit s source.core channel l, tt))
messages_at-by s channel cycle l (Some (Wr bank row column source)) = (sender_credit s source.core channel l, tt)
messages_at-by s channel cycle l (Some (Act bank row source)) = tt
messages_at-by s channel cycle l (Some (Pre bank source)) = tt
messages_at-by s channel cycle l (Some (Prea rank)) = tt
messages_at-by s channel cycle l (Some (Ref rank)) = tt

pub channel_messages-by : (s : Config) (channel : ℕ) (steps : List (Option Command)) → channel < s.channels → SentBy s (Channel channel) (channel_messages s channel steps)
unfolding channel_messages messages_in
channel_messages-by s channel steps l = Each-flat_map_below _ (messages_in s channel steps) (length steps) (λ cycle h. messages_at-by s channel cycle l _)

-- two different units send on different links
pub links_differ : (s : Config) (a b : MachineUnit) → (a ≡ b → ⊥) → (x y : ℕ) → sender s x ≡ a → sender s y ≡ b → eqb x y ≡ false
links_differ s a b h x y e f = by (eqb x y) refl
  where
    by : (t : Bool) → eqb x y ≡ t → t ≡ false
    by false g = refl
    by true g =
        let same : x ≡ y = grind (arith, nat_tests) in
        absurd (h (sym e ∙ ap (sender s) same ∙ f))

pub apart : (s : Config) (a b : MachineUnit) → (a ≡ b → ⊥) → (xs ys : List Message) → SentBy s a xs → SentBy s b ys → Apart xs ys
apart s a b h xs ys j k =
    Each-weaker _ (λ (x : Message). Each (λ (y : Message). eqb x.link y.link ≡ false) ys)
    (λ x e. Each-weaker _ (λ (y : Message). eqb x.link y.link ≡ false) (λ y f. links_differ s a b h x.link y.link e f) ys k) xs j

-- what units of one kind send can be put in before or after what they sent
pub grow : (s : Config) (unit : ℕ → MachineUnit) → ((i j : ℕ) → i < j → unit i ≡ unit j → ⊥) → (f g : ℕ → List Message) (acc : List Message) (n : ℕ)
    → ((i : ℕ) → i < n → SentBy s (unit i) (f i)) → ((i : ℕ) → i < n → SentBy s (unit i) (g i))
    → puts acc (flat_map (λ i. f i ++ g i) (below n)) ≡ puts (puts acc (flat_map f (below n))) (flat_map g (below n))
grow s unit differ f g acc zero hf hg = refl
grow s unit differ f g acc (suc n) hf hg =
    let old = flat_map f (below n) in
    let new = flat_map g (below n) in
    let far : Apart new (f n) =
    Each-flat_map_below _ g n (λ i l. apart s (unit i) (unit n) (differ i n l) (g i) (f n) (hg i (omega arith)) (hf n (omega arith))) in
    ap (puts acc) (flat_map_below_more (λ i. f i ++ g i) n)
    ∙ puts-append acc (flat_map (λ i. f i ++ g i) (below n)) (f n ++ g n)
    ∙ puts-append _ (f n) (g n)
    ∙ ap (λ z. puts (puts z (f n)) (g n)) (grow s unit differ f g acc n (λ i l. hf i (omega arith)) (λ i l. hg i (omega arith)))
    ∙ ap (λ z. puts z (g n)) (puts-swap (puts acc old) new (f n) far)
    ∙ sym (puts-append (puts (puts acc old) (f n)) new (g n))
    ∙ ap₂ (λ y z. puts y z) (sym (puts-append acc old (f n)) ∙ ap (puts acc) (sym (flat_map_below_more f n))) (sym (flat_map_below_more g n))

pub cores_differ : (i j : ℕ) → i < j → Core i ≡ Core j → ⊥
cores_differ i j l e = let same : i ≡ j = cc in omega arith

pub channels_differ : (i j : ℕ) → i < j → Channel i ≡ Channel j → ⊥
channels_differ i j l e = let same : i ≡ j = cc in omega arith

pub core_channel_differ : (i j : ℕ) → Core i ≡ Channel j → ⊥
core_channel_differ i j e = cc

pub issued_before-push : (steps : List CoreStep) (core_step : CoreStep) → issued_before (steps ++ core_step ∷ []) ≡ issued_before steps + core_step.issued
unfolding issued_before
issued_before-push steps core_step =
    let e : issued_before (steps ++ core_step ∷ []) ≡ issued_before steps + sum_by (λ (r : CoreStep). r.issued) (core_step ∷ []) = sum_by-append (λ (r : CoreStep). r.issued) steps (core_step ∷ []) in
    e ∙ ap (λ n. issued_before steps + n) (sum_by-cons (λ (r : CoreStep). r.issued) core_step [] ∙ add-zero core_step.issued)

-- one machine_step more of a core
pub core-grows : (s : Config) (traces : List (List Entry)) (history : List MachineStep) (machine_step : MachineStep) (core : ℕ)
    → messages_of_core s traces (history ++ machine_step ∷ []) core ≡ messages_of_core s traces history core ++ core_sends s traces history machine_step core
unfolding messages_of_core steps_of_core core_sends requests_in
core-grows s traces history machine_step core =
    let trace = trace_of traces core in
    let steps = steps_of_core core history in
    let r = step_of_core core machine_step in
    let e : length steps ≡ length history = length-map history (step_of_core core) in
    let all : take (length steps + 1) (steps ++ r ∷ []) ≡ steps ++ r ∷ [] =
    ap (λ n. take n (steps ++ r ∷ [])) (sym (length_push steps r)) ∙ take-length (steps ++ r ∷ []) in
    ap (core_messages s core trace) (map-append (step_of_core core) history (machine_step ∷ []))
    ∙ core_messages-push s core trace steps r
    ∙ ap (λ x. core_messages s core trace steps ++ x)
    (ap₂ (λ a b. requests_between s core trace (length steps) (issued_before a) (issued_before b)) (take-append_seam steps (r ∷ [])) all
    ∙ ap₂ (λ a b. requests_between s core trace a (issued_before steps) b) e (issued_before-push steps r))

-- one machine_step more of a channel
pub channel-grows : (s : Config) (history : List MachineStep) (machine_step : MachineStep) (channel : ℕ)
    → messages_of_channel s (history ++ machine_step ∷ []) channel ≡ messages_of_channel s history channel ++ channel_sends s history machine_step channel
unfolding messages_of_channel steps_of_channel channel_sends
channel-grows s history machine_step channel =
    let steps = steps_of_channel channel history in
    ap (channel_messages s channel) (map-append (step_of_channel channel) history (machine_step ∷ []))
    ∙ channel_messages-push s channel steps (step_of_channel channel machine_step)
    ∙ ap (λ n. channel_messages s channel steps ++ messages_at s channel n (step_of_channel channel machine_step)) (length-map history (step_of_channel channel))

pub core_sends-by : (s : Config) (traces : List (List Entry)) (history : List MachineStep) (machine_step : MachineStep) (core : ℕ) → 0 < s.channels → SentBy s (Core core) (core_sends s traces history machine_step core)
unfolding core_sends
core_sends-by s traces history machine_step core h = between-by s core (trace_of traces core) (length history) _ _ h

pub channel_sends-by : (s : Config) (history : List MachineStep) (machine_step : MachineStep) (channel : ℕ) → channel < s.channels → SentBy s (Channel channel) (channel_sends s history machine_step channel)
unfolding channel_sends
channel_sends-by s history machine_step channel l = messages_at-by s channel (length history) l (step_of_channel channel machine_step)

pub has_channels : (s : Config) → 0 < s.channels
has_channels s = s.machine_in_range.channels_in.0.0

pub of_core-by : (s : Config) (traces : List (List Entry)) (history : List MachineStep) (core : ℕ) → SentBy s (Core core) (messages_of_core s traces history core)
unfolding messages_of_core
of_core-by s traces history core = core_messages-by s core (trace_of traces core) (steps_of_core core history) (has_channels s)

pub of_channel-by : (s : Config) (history : List MachineStep) (channel : ℕ) → channel < s.channels → SentBy s (Channel channel) (messages_of_channel s history channel)
unfolding messages_of_channel
of_channel-by s history channel l = channel_messages-by s channel (steps_of_channel channel history) l

pub messages-grow : (s : Config) (traces : List (List Entry)) (history : List MachineStep) (machine_step : MachineStep)
    → puts [] (messages s traces (history ++ machine_step ∷ [])) ≡ puts (puts [] (messages s traces history)) (sends s traces history machine_step)
unfolding messages sends
messages-grow s traces history machine_step =
    let f = messages_of_core s traces history in
    let g = core_sends s traces history machine_step in
    let f' = messages_of_channel s history in
    let g' = channel_sends s history machine_step in
    let old = flat_map f (below s.cores) in
    let new = flat_map g (below s.cores) in
    let old' = flat_map f' (below s.channels) in
    let new' = flat_map g' (below s.channels) in
    let far : Apart new old' =
    Each-flat_map_below _ g s.cores (λ i l. Each-far i (g i) (core_sends-by s traces history machine_step i (has_channels s))) in
    ap₂ (λ a b. puts [] (a ++ b))
    (flat_map_below_same _ (λ i. f i ++ g i) s.cores (λ i l. core-grows s traces history machine_step i))
    (flat_map_below_same _ (λ i. f' i ++ g' i) s.channels (λ i l. channel-grows s history machine_step i))
    ∙ puts-append [] (flat_map (λ i. f i ++ g i) (below s.cores)) (flat_map (λ i. f' i ++ g' i) (below s.channels))
    ∙ grow s Channel channels_differ f' g' _ s.channels (λ i l. of_channel-by s history i l) (λ i l. channel_sends-by s history machine_step i l)
    ∙ ap (λ z. puts (puts z old') new') (grow s Core cores_differ f g [] s.cores (λ i l. of_core-by s traces history i) (λ i l. core_sends-by s traces history machine_step i (has_channels s)))
    ∙ ap (λ z. puts z new') (puts-swap (puts [] old) new old' far)
    ∙ sym (puts-append (puts (puts [] old) old') new new')
    ∙ ap (λ z. puts z (new ++ new')) (sym (puts-append [] old old'))
  where
    Each-far : (i : ℕ) (xs : List Message) → SentBy s (Core i) xs → Apart xs (flat_map (messages_of_channel s history) (below s.channels))
    Each-far i xs h =
        Each-weaker _ (λ (x : Message). Each (λ (y : Message). eqb x.link y.link ≡ false) (flat_map (messages_of_channel s history) (below s.channels)))
        (λ x e. Each-flat_map_below _ (messages_of_channel s history) s.channels
        (λ k l. Each-weaker _ (λ (y : Message). eqb x.link y.link ≡ false) (λ y f. links_differ s (Core i) (Channel k) (core_channel_differ i k) x.link y.link e f)
        (messages_of_channel s history k) (of_channel-by s history k l))) xs h

-- those messages that were sent and pass a test, by age, with one machine_step more
pub by_age-filter-grows : (s : Config) (traces : List (List Entry)) (history : List MachineStep) (machine_step : MachineStep) (p : Message → Bool)
    → by_age (filter p (messages s traces (history ++ machine_step ∷ []))) ≡ fold insert_by_age (by_age (filter p (messages s traces history))) (filter p (sends s traces history machine_step))
by_age-filter-grows s traces history machine_step p =
    let now = messages s traces history in
    let then = messages s traces (history ++ machine_step ∷ []) in
    let new = sends s traces history machine_step in
    by_age-puts (filter p then)
    ∙ sym (filter-puts p [] then tt)
    ∙ ap (filter p) (messages-grow s traces history machine_step)
    ∙ filter-puts p (puts [] now) new (Sorted-puts [] now tt)
    ∙ ap (λ z. puts z (filter p new)) (filter-puts p [] now tt ∙ sym (by_age-puts (filter p now)))
    ∙ sym (fold-puts (by_age (filter p now)) (filter p new))

-- what was sent to a unit, with one machine_step more
pub inbox-grows : (s : Config) (traces : List (List Entry)) (history : List MachineStep) (machine_step : MachineStep) (unit : MachineUnit)
    → inbox s traces (history ++ machine_step ∷ []) unit ≡ fold insert_by_age (inbox s traces history unit) (filter (is_to s unit) (sends s traces history machine_step))
unfolding inbox
inbox-grows s traces history machine_step unit = by_age-filter-grows s traces history machine_step (is_to s unit)

-- a unit is itself
pub is_unit-own : (a : MachineUnit) → is_unit a a ≡ true
is_unit-own (Core a) = grind (arith, nat_tests)
is_unit-own (Channel a) = grind (arith, nat_tests)
