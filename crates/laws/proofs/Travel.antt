-- Each message of a link travels as long, so those that are sent in different cycles arrive in different cycles.
use Rattle.std.proofs.Common.{◌≡◌, ℕ, zero, suc, ◌+◌, ◌*◌, ◌%◌, ◌<◌, ◌≤◌, Bool, true, false, eqb, cond, List, [], ◌∷◌, length, Option, Some, None, refl, sym, ap, subst, ◌∙◌, ◌⊎◌, inl, inr, arith}
use Rattle.std.specs.Prelude.{count_by}
use Rattle.std.specs.Option.{IfSome}
use Rattle.std.specs.List.{AllByRecursion as Each}
use Rattle.std.proofs.lemmas.Bool.{cond-true, cond-false, and_parts, eqb-true, cases_lt, false_from_ne_true}
use Rattle.std.proofs.lemmas.Bool.Decides.{nat_tests}
use Rattle.std.proofs.lemmas.List.Sums.{count_by-le-length}
use Rattle.sim_base.specs.declared.message.Access.{Access}
use Rattle.sim_base.specs.declared.config.Config.{Config}
use Rattle.sim_base.specs.Config.{request_link, latency}
use Rattle.sim_base.specs.Places.{place_of}
use Rattle.sim_base.specs.MachineStep.{MachineStep, step_of_channel}
use Rattle.sim_base.specs.History.{request, request_of, reply, credit, messages_of, messages_at, messages}
use Rattle.sim_base.specs.Sends.{sender, core_sends, channel_sends, sends}
use Rattle.sim_base.specs.Machine.{next_step, run}
use Rattle.sim_base.specs.declared.command.Command.{Command}
use Rattle.sim_base.specs.declared.command.Command.TheVariants.{Act, Rd, Wr, Pre, Prea, Ref}
use Rattle.sim_base.specs.declared.command.Source.{Source}
use Rattle.sim_base.specs.declared.message.Message.{Message}
use Rattle.sim_base.specs.declared.message.Unit.{Unit as MachineUnit}
use Rattle.sim_base.specs.declared.message.Unit.TheVariants.{Core, Channel}
use Rattle.sim_base.specs.declared.trace.Entry.{Entry}
use Rattle.sim_base.specs.declared.trace.Entry.TheVariants.{Plain, Read, Write}
use Rattle.sim_base.proofs.Spans.{length_run}
use Rattle.sim_base.proofs.Ordered.{Each-weaker}
use Rattle.sim_base.specs.declared.message.Access.TheVariants as access
use Rattle.laws.specs.Links.{arrives_on, LinksCarryOneACycle}
use Rattle.laws.proofs.Counting.{count-none, count-weaker}
use Rattle.laws.proofs.Sent.{OnlyFrom, count-messages, Each-messages, messages-none, sends-bound_core, sends-bound_channel, issues-each, issues-one, commands-each, sends-each}

-- how long after the cycle in which it is sent a message of a link arrives
travel : Config → ℕ → ℕ
travel s link = cond (eqb (link % 3) 1) (s.timing.n_cl + 4 + latency s link) (latency s link)

-- a message is sent in a cycle
abbrev SentIn : Config → ℕ → Message → Type 0
SentIn s cycle m = m.arrival ≡ cycle + travel s m.link

travel_request : (s : Config) (x : ℕ) → travel s (3 * x) ≡ latency s (3 * x)
unfolding travel
travel_request s x =
    let e : eqb ((3 * x) % 3) 1 ≡ false = grind (arith, nat_tests) in
    cond-false _ _ _ e

travel_reply : (s : Config) (x : ℕ) → travel s (3 * x + 1) ≡ s.timing.n_cl + 4 + latency s (3 * x + 1)
unfolding travel
travel_reply s x =
    let e : eqb ((3 * x + 1) % 3) 1 ≡ true = grind (arith, nat_tests) in
    cond-true _ _ _ e

travel_credit : (s : Config) (x : ℕ) → travel s (3 * x + 2) ≡ latency s (3 * x + 2)
unfolding travel
travel_credit s x =
    let e : eqb ((3 * x + 2) % 3) 1 ≡ false = grind (arith, nat_tests) in
    cond-false _ _ _ e

request-sent : (s : Config) (core cycle entry : ℕ) (access : Access) (address : ℕ) → SentIn s cycle (request s core cycle entry access address)
unfolding request
request-sent s core cycle entry access address = ap (λ x. cycle + x) (sym (travel_request s (core * s.channels + (place_of s address).channel)))

reply-sent : (s : Config) (channel cycle : ℕ) (source : Source) → SentIn s cycle (reply s channel cycle source)
unfolding reply
reply-sent s channel cycle source =
    let e = travel_reply s (source.core * s.channels + channel) in
    omega arith

credit-sent : (s : Config) (channel cycle : ℕ) (access : Access) (source : Source) → SentIn s cycle (credit s channel cycle access source)
unfolding credit
credit-sent s channel cycle access source = ap (λ x. cycle + x) (sym (travel_credit s (source.core * s.channels + channel)))

request_of-sent : (s : Config) (core cycle entry : ℕ) (e : Entry) → IfSome (request_of s core cycle entry e) (SentIn s cycle)
request_of-sent s core cycle entry Plain = tt
request_of-sent s core cycle entry (Read address) = request-sent s core cycle entry access.Read address
request_of-sent s core cycle entry (Write address) = request-sent s core cycle entry access.Write address

-- what is sent in a cycle arrives as much later as its link says
sends-sent : (s : Config) (traces : List (List Entry)) (history : List MachineStep) → Each (SentIn s (length history)) (sends s traces history (next_step s traces history))
unfolding channel_sends
sends-sent s traces history =
    sends-each (SentIn s (length history)) s traces history (next_step s traces history)
    (λ c l. issues-each (SentIn s (length history)) s traces history c l (λ j e b f g. request_of-sent s c (length history) _ e))
    (λ k l. commands-each (SentIn s (length history)) s k (length history) (reply-sent s k (length history)) (credit-sent s k (length history)) (step_of_channel k (next_step s traces history)))

-- and what was sent before arrives sooner
messages-sent : (s : Config) (traces : List (List Entry)) (n : ℕ) → Each (λ (m : Message). m.arrival < n + travel s m.link) (messages s traces (run s traces n))
unfolding run
messages-sent s traces zero = subst (Each (λ (m : Message). m.arrival < 0 + travel s m.link)) (sym (messages-none s traces)) tt
messages-sent s traces (suc n) =
    let history = run s traces n in
    let long : length history ≡ n = length_run s traces n in
    Each-messages _ s traces history (next_step s traces history)
    (Each-weaker _ (λ (m : Message). m.arrival < suc n + travel s m.link) (λ m h. omega arith) (messages s traces history) (messages-sent s traces n))
    (Each-weaker _ (λ (m : Message). m.arrival < suc n + travel s m.link) (λ m h. omega arith) (sends s traces history (next_step s traces history)) (sends-sent s traces history))

-- in a cycle at most one message is sent on a link
abbrev is_on : ℕ → Message → Bool
is_on link m = eqb m.link link

on_link : (s : Config) (link : ℕ) (unit : MachineUnit) → sender s link ≡ unit → OnlyFrom s unit (is_on link)
on_link s link unit e m h = ap (sender s) (eqb-true _ _ h) ∙ e

two_links : (x link : ℕ) → cond (eqb (x + 1) link) 1 0 + cond (eqb (x + 2) link) 1 0 ≤ 1
two_links x link = grind (arith, nat_tests)

command-one : (s : Config) (link channel cycle : ℕ) (o : Option Command) → count_by (is_on link) (messages_at s channel cycle o) ≤ 1
unfolding messages_of reply credit
command-one s link channel cycle None = omega arith
command-one s link channel cycle (Some (Rd bank row column source)) = let b = two_links (request_link s source.core channel) link in omega arith
command-one s link channel cycle (Some (Wr bank row column source)) = count_by-le-length (is_on link) (credit s channel cycle access.Write source ∷ [])
command-one s link channel cycle (Some (Act bank row source)) = omega arith
command-one s link channel cycle (Some (Pre bank source)) = omega arith
command-one s link channel cycle (Some (Prea rank)) = omega arith
command-one s link channel cycle (Some (Ref rank)) = omega arith

sends-one : (s : Config) (traces : List (List Entry)) (history : List MachineStep) (link : ℕ) → count_by (is_on link) (sends s traces history (next_step s traces history)) ≤ 1
unfolding channel_sends
sends-one s traces history link = go (sender s link) refl
  where
    go : (unit : MachineUnit) → sender s link ≡ unit → count_by (is_on link) (sends s traces history (next_step s traces history)) ≤ 1
    go (Core c) e =
        sends-bound_core s traces history (next_step s traces history) (is_on link) c 1 (on_link s link (Core c) e)
        (λ l. let one = issues-one s traces history c l in let b = count_by-le-length (is_on link) (core_sends s traces history (next_step s traces history) c) in omega arith)
    go (Channel k) e =
        sends-bound_channel s traces history (next_step s traces history) (is_on link) k 1 (on_link s link (Channel k) e)
        (λ l. command-one s link k (length history) (step_of_channel k (next_step s traces history)))

arrives_now : (s : Config) (traces : List (List Entry)) (link cycle : ℕ) (history : List MachineStep) → count_by (arrives_on link cycle) (sends s traces history (next_step s traces history)) ≤ 1
arrives_now s traces link cycle history =
    let a : count_by (arrives_on link cycle) (sends s traces history (next_step s traces history)) ≤ count_by (is_on link) (sends s traces history (next_step s traces history)) =
    count-weaker (arrives_on link cycle) (is_on link) (λ m h. (and_parts _ _ h).0) (sends s traces history (next_step s traces history)) in
    let b = sends-one s traces history link in
    omega arith

-- a message that arrives on this link in this cycle
arrives : (link cycle : ℕ) (m : Message) → arrives_on link cycle m ≡ true → (m.link ≡ link) × (m.arrival ≡ cycle)
arrives link cycle m h = let both = and_parts (eqb m.link link) (eqb m.arrival cycle) h in (eqb-true _ _ both.0, eqb-true _ _ both.1)

-- what arrives in a cycle was sent before this one, or is sent in it
arrives_once : (s : Config) (traces : List (List Entry)) (link cycle n : ℕ)
    → (count_by (arrives_on link cycle) (messages s traces (run s traces n)) ≡ 0)
    ⊎ (count_by (arrives_on link cycle) (sends s traces (run s traces n) (next_step s traces (run s traces n))) ≡ 0)
arrives_once s traces link cycle n = go (cases_lt cycle (n + travel s link))
  where
    go : (cycle < n + travel s link) ⊎ (n + travel s link ≤ cycle)
        → (count_by (arrives_on link cycle) (messages s traces (run s traces n)) ≡ 0)
        ⊎ (count_by (arrives_on link cycle) (sends s traces (run s traces n) (next_step s traces (run s traces n))) ≡ 0)
    go (inl l) =
        inr (count-none (arrives_on link cycle) _ (Each-weaker _ (λ m. arrives_on link cycle m ≡ false)
        (λ m h. false_from_ne_true _ (λ e.
        let a = arrives link cycle m e in
        let b : travel s m.link ≡ travel s link = ap (travel s) a.0 in
        let long = length_run s traces n in
        omega arith)) _ (sends-sent s traces (run s traces n))))
    go (inr l) =
        inl (count-none (arrives_on link cycle) _ (Each-weaker _ (λ m. arrives_on link cycle m ≡ false)
        (λ m h. false_from_ne_true _ (λ e.
        let a = arrives link cycle m e in
        let b : travel s m.link ≡ travel s link = ap (travel s) a.0 in
        omega arith)) _ (messages-sent s traces n)))

one_arrival : (s : Config) (traces : List (List Entry)) (link cycle n : ℕ) → count_by (arrives_on link cycle) (messages s traces (run s traces n)) ≤ 1
unfolding run
one_arrival s traces link cycle zero = subst (λ ms. count_by (arrives_on link cycle) ms ≤ 1) (sym (messages-none s traces)) (omega arith)
one_arrival s traces link cycle (suc n) =
    let history = run s traces n in
    let e = count-messages (arrives_on link cycle) s traces history (next_step s traces history) in
    let before : count_by (arrives_on link cycle) (messages s traces history) ≤ 1 = one_arrival s traces link cycle n in
    let now : count_by (arrives_on link cycle) (sends s traces history (next_step s traces history)) ≤ 1 = arrives_now s traces link cycle history in
    let one : (count_by (arrives_on link cycle) (messages s traces history) ≡ 0) ⊎ (count_by (arrives_on link cycle) (sends s traces history (next_step s traces history)) ≡ 0) =
    arrives_once s traces link cycle n in
    omega arith

pub links_carry_one_a_cycle : (s : Config) (traces : List (List Entry)) (n : ℕ) → LinksCarryOneACycle s traces n
links_carry_one_a_cycle s traces n link cycle = one_arrival s traces link cycle n
