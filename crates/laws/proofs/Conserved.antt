-- What a core has spent of a channel's credits is in flight, queued or on its way back.
use Rattle.std.proofs.Common.{◌≡◌, ℕ, zero, suc, ◌+◌, ◌<◌, ◌≤◌, Bool, true, false, ◌&&◌, cond, eqb, List, [], ◌∷◌, ◌++◌, length, Option, Some, None, refl, sym, ap, ap₂, subst, ◌∙◌, arith}
use Rattle.std.specs.Prelude.{count_by, flat_map, not}
use Rattle.std.specs.Option.{IfSome}
use Rattle.std.specs.List.{list_any, cons_option}
use Rattle.std.proofs.lemmas.Bool.{false≢true, and_parts, and_from, and_right, and_left, eqb-true, eq-eqb, ne_eqb, not_from_false, not-true, or_left, or_right, not_from_true, both_ways, false_from_ne_true}
use Rattle.std.proofs.lemmas.List.Folds.{list_any-append}
use Rattle.sim_base.specs.declared.message.Access.{Access}
use Rattle.sim_base.specs.declared.message.Access.TheVariants as to
use Rattle.sim_base.specs.Access.{is_access}
use Rattle.sim_base.specs.declared.config.Config.{Config}
use Rattle.sim_base.specs.Config.{reply_link, credit_link}
use Rattle.sim_base.specs.Places.{place_of}
use Rattle.sim_base.specs.MachineStep.{step_of_channel}
use Rattle.sim_base.specs.History.{below, steps_of_channel, issued_at, issued_commands, request, request_of, reply, credit, messages_of, messages_at, messages, receiver, is_unit, is_to, inbox}
use Rattle.sim_base.specs.Sends.{sender, core_sends, channel_sends, sends}
use Rattle.sim_base.specs.Scheduling.{request_in, is_source, serves, is_served, source_of}
use Rattle.sim_base.specs.Machine.{next_step, run}
use Rattle.sim_base.specs.Windows.{is_request_for, is_credit, is_credit_on, credit_cap}
use Rattle.sim_base.specs.declared.command.Command.{Command}
use Rattle.sim_base.specs.declared.command.Command.TheVariants.{Act, Rd, Wr, Pre, Prea, Ref}
use Rattle.sim_base.specs.declared.command.IssuedCommand.{IssuedCommand}
use Rattle.sim_base.specs.declared.command.Source.{Source}
use Rattle.sim_base.specs.declared.message.Message.{Message}
use Rattle.sim_base.specs.declared.message.Request.{Request}
use Rattle.sim_base.specs.declared.message.Unit.{Unit as MachineUnit}
use Rattle.sim_base.specs.declared.message.Unit.TheVariants.{Core, Channel}
use Rattle.sim_base.specs.declared.trace.Entry.{Entry}
use Rattle.sim_base.specs.declared.trace.Entry.TheVariants.{Plain, Read, Write}
use Rattle.sim_base.proofs.Grows.{sender_credit}
use Rattle.sim_base.proofs.Spans.{step_of_channel-next}
use Rattle.sim_base.proofs.Lists.{count-cons}
use Rattle.laws.specs.Commands.{history_of}
use Rattle.laws.specs.Credits.{requests_sent_count, credits_back, CreditsComeBackOnce}
use Rattle.laws.proofs.Counting.{bit_le, count-append, count-none, count-weaker, count-weaker_each, count-fewer, count-flat_map-none, count-flat_map-bound, test_in, count-filter_map}
use Rattle.laws.proofs.Legal.{chosen, history_of-more, count-history_of}
use Rattle.laws.proofs.Receivers.{receiver_request, receiver_credit, place_in}
use Rattle.laws.proofs.Sent.{OnlyFrom, count-messages, messages-none, sends-channel, issues-each, commands-each}
use Rattle.laws.proofs.Spent.{count-inbox, inbox-more, spent, sent_now, requests_sent_count-more}
use Rattle.laws.proofs.Traced.{requests_to, Queued, ServesQueued, chosen-serves}

-- a request of this access of this core
abbrev pub is_of : ℕ → Access → Request → Bool
is_of core access r = eqb r.core core && is_access access r.access

requests-more : (q : Request → Bool) (s : Config) (traces : List (List Entry)) (n k : ℕ)
    → count_by q (requests_to s traces (suc n) k)
    ≡ count_by q (requests_to s traces n k) + count_by (λ m. is_to s (Channel k) m && test_in q (request_in m.payload)) (sends s traces (run s traces n) (next_step s traces (run s traces n)))
requests-more q s traces n k =
    count-filter_map q (λ (m : Message). request_in m.payload) (inbox s traces (run s traces (suc n)) (Channel k))
    ∙ inbox-more (λ (m : Message). test_in q (request_in m.payload)) s traces n (Channel k)
    ∙ ap (λ i. i + count_by (λ m. is_to s (Channel k) m && test_in q (request_in m.payload)) (sends s traces (run s traces n) (next_step s traces (run s traces n))))
    (sym (count-filter_map q (λ (m : Message). request_in m.payload) (inbox s traces (run s traces n) (Channel k))))

-- a message to this channel with a request of this kind and core
abbrev brings : Config → ℕ → ℕ → Access → Message → Bool
brings s core k access m = is_to s (Channel k) m && test_in (is_of core access) (request_in m.payload)

-- what a core sends brings a request of another to no channel
other-brings : (s : Config) (core k : ℕ) (access : Access) (c cycle entry : ℕ) (e : Entry) → (c ≡ core → ⊥) → IfSome (request_of s c cycle entry e) (λ (m : Message). brings s core k access m ≡ false)
unfolding request
other-brings s core k access c cycle entry Plain ne = tt
other-brings s core k access c cycle entry (Read address) ne = and_right (is_to s (Channel k) (request s c cycle entry to.Read address)) _ (and_left (eqb c core) _ (ne_eqb c core ne))
other-brings s core k access c cycle entry (Write address) ne = and_right (is_to s (Channel k) (request s c cycle entry to.Write address)) _ (and_left (eqb c core) _ (ne_eqb c core ne))

request-goes : (s : Config) (k c cycle entry : ℕ) (access : Access) (address : ℕ) → is_to s (Channel k) (request s c cycle entry access address) ≡ true → eqb (place_of s address).channel k ≡ true
unfolding request
request-goes s k c cycle entry access address h =
    ap (λ u. is_unit u (Channel k)) (sym (receiver_request s c (place_of s address).channel (place_in s address))) ∙ h

-- and one of its own to the channel of its place
own-brings : (s : Config) (core k : ℕ) (access : Access) (cycle entry : ℕ) (e : Entry)
    → IfSome (request_of s core cycle entry e) (λ (m : Message). brings s core k access m ≡ true → is_request_for k access m.payload ≡ true)
unfolding request
own-brings s core k access cycle entry Plain = tt
own-brings s core k access cycle entry (Read address) = λ h.
    let both = and_parts (is_to s (Channel k) (request s core cycle entry to.Read address)) (eqb core core && is_access access to.Read) h in
    and_from (eqb (place_of s address).channel k) (is_access access to.Read) (request-goes s k core cycle entry to.Read address both.0) (and_parts (eqb core core) (is_access access to.Read) both.1).1
own-brings s core k access cycle entry (Write address) = λ h.
    let both = and_parts (is_to s (Channel k) (request s core cycle entry to.Write address)) (eqb core core && is_access access to.Write) h in
    and_from (eqb (place_of s address).channel k) (is_access access to.Write) (request-goes s k core cycle entry to.Write address both.0) (and_parts (eqb core core) (is_access access to.Write) both.1).1

new-requests : (s : Config) (traces : List (List Entry)) (n core k : ℕ) (access : Access)
    → count_by (brings s core k access) (sends s traces (run s traces n) (next_step s traces (run s traces n))) ≤ sent_now s traces n core k access
unfolding sends sent_now channel_sends reply credit
new-requests s traces n core k access =
    let history = run s traces n in
    let machine_step = next_step s traces history in
    let p = brings s core k access in
    let f = core_sends s traces history machine_step in
    let g = channel_sends s history machine_step in
    let b = count_by (λ (m : Message). is_request_for k access m.payload) (f core) in
    let a : count_by p (flat_map f (below s.cores) ++ flat_map g (below s.channels)) ≡ count_by p (flat_map f (below s.cores)) + count_by p (flat_map g (below s.channels)) = count-append p (flat_map f (below s.cores)) _ in
    let z : count_by p (flat_map g (below s.channels)) ≡ 0 =
    count-flat_map-none p g s.channels
    (λ i l. count-none p (g i) (commands-each (λ (m : Message). p m ≡ false) s i (length history)
    (λ source. and_right (is_to s (Channel k) (reply s i (length history) source)) false refl)
    (λ w source. and_right (is_to s (Channel k) (credit s i (length history) w source)) false refl) (step_of_channel i machine_step))) in
    let d : count_by p (flat_map f (below s.cores)) ≤ b =
    count-flat_map-bound p f s.cores core b
    (λ i l ne. count-none p (f i) (issues-each (λ (m : Message). p m ≡ false) s traces history i l (λ j e x y v. other-brings s core k access i (length history) _ e ne)))
    (λ l. count-weaker_each p (λ (m : Message). is_request_for k access m.payload) (f core)
    (issues-each (λ (m : Message). p m ≡ true → is_request_for k access m.payload ≡ true) s traces history core l (λ j e x y v. own-brings s core k access (length history) _ e))) in
    omega arith

-- a command is a column command for such a request
abbrev serves_for : ℕ → Access → Command → Bool
serves_for core access (Rd bank row column source) = eqb source.core core && is_access access to.Read
serves_for core access (Wr bank row column source) = eqb source.core core && is_access access to.Write
serves_for core access (Act bank row source) = false
serves_for core access (Pre bank source) = false
serves_for core access (Prea rank) = false
serves_for core access (Ref rank) = false

-- how many such commands a channel issued
pub served : Config → List (List Entry) → ℕ → ℕ → ℕ → Access → ℕ
served s traces n core k access = count_by (λ i. serves_for core access i.command) (history_of s traces n k)

-- how many requests of a core and kind were sent to a channel and are not served
unfoldable pub unserved : Config → List (List Entry) → ℕ → ℕ → ℕ → Access → ℕ
unserved s traces n core k access = count_by (λ r. is_of core access r && not (is_served (history_of s traces n k) r)) (requests_to s traces n k)

served-more : (s : Config) (traces : List (List Entry)) (n core k : ℕ) (access : Access) → k < s.channels
    → served s traces (suc n) core k access ≡ served s traces n core k access + cond (test_in (serves_for core access) (chosen s traces n k)) 1 0
unfolding served
served-more s traces n core k access l = count-history_of (serves_for core access) s traces n k l

-- what was served stays so
served-kept : (s : Config) (traces : List (List Entry)) (n k : ℕ) (r : Request) → k < s.channels → is_served (history_of s traces n k) r ≡ true → is_served (history_of s traces (suc n) k) r ≡ true
unfolding is_served
served-kept s traces n k r l h =
    let p = λ (i : IssuedCommand). serves r i.command in
    ap (list_any p) (history_of-more s traces n k l) ∙ list_any-append p (history_of s traces n k) _ ∙ or_left (list_any p (history_of s traces n k)) _ h

-- a request whose column command is issued is served
served-now : (s : Config) (traces : List (List Entry)) (n k : ℕ) (r : Request) (command : Command) → k < s.channels → chosen s traces n k ≡ Some command → serves r command ≡ true
    → is_served (history_of s traces (suc n) k) r ≡ true
unfolding is_served
served-now s traces n k r command l e h =
    let p = λ (i : IssuedCommand). serves r i.command in
    ap (list_any p) (history_of-more s traces n k l) ∙ list_any-append p (history_of s traces n k) _
    ∙ or_right (list_any p (history_of s traces n k)) _ (ap (λ o. list_any p (cons_option (issued_at k n o) [])) e ∙ or_left (serves r command) false h)

-- the request that a command serves
abbrev Served : Config → List (List Entry) → ℕ → ℕ → ℕ → Access → Type 0
Served s traces n core k access =
    (r : Request) × Queued s traces n k r × (is_of core access r ≡ true) × (is_served (history_of s traces (suc n) k) r ≡ true)

is_source-of : (r : Request) (source : Source) → source ≡ source_of r → is_source r source ≡ true
is_source-of r source e =
    and_from (eqb r.core source.core) (eqb r.entry source.entry)
    (eq-eqb r.core source.core (sym (ap (λ (x : Source). x.core) e))) (eq-eqb r.entry source.entry (sym (ap (λ (x : Source). x.entry) e)))

is_of-source : (core : ℕ) (access : Access) (r : Request) (source : Source) → source ≡ source_of r → eqb source.core core ≡ true → is_access access r.access ≡ true → is_of core access r ≡ true
is_of-source core access r source e h k = and_from (eqb r.core core) (is_access access r.access) (ap (λ (x : Source). eqb x.core core) (sym e) ∙ h) k

command-served : (s : Config) (traces : List (List Entry)) (n core k : ℕ) (access : Access) → k < s.channels → (o : Option Command) → chosen s traces n k ≡ o
    → IfSome o (ServesQueued s traces n k) → test_in (serves_for core access) o ≡ true → Served s traces n core k access
command-served s traces n core k access l None e q h = absurd (false≢true h)
command-served s traces n core k access l (Some (Rd bank row column source)) e q h =
    let both = and_parts (eqb source.core core) (is_access access to.Read) h in
    (q.0, q.1, is_of-source core access q.0 source q.3 both.0 (ap (is_access access) q.2 ∙ both.1), served-now s traces n k q.0 _ l e (is_source-of q.0 source q.3))
command-served s traces n core k access l (Some (Wr bank row column source)) e q h =
    let both = and_parts (eqb source.core core) (is_access access to.Write) h in
    (q.0, q.1, is_of-source core access q.0 source q.3 both.0 (ap (is_access access) q.2 ∙ both.1), served-now s traces n k q.0 _ l e (is_source-of q.0 source q.3))
command-served s traces n core k access l (Some (Act bank row source)) e q h = absurd (false≢true h)
command-served s traces n core k access l (Some (Pre bank source)) e q h = absurd (false≢true h)
command-served s traces n core k access l (Some (Prea rank)) e q h = absurd (false≢true h)
command-served s traces n core k access l (Some (Ref rank)) e q h = absurd (false≢true h)

-- of this kind, and not served by the end of the first n cycles
abbrev is_left : Config → List (List Entry) → ℕ → ℕ → ℕ → Access → Request → Bool
is_left s traces n core k access r = is_of core access r && not (is_served (history_of s traces n k) r)

left-before : (s : Config) (traces : List (List Entry)) (n core k : ℕ) (access : Access) (r : Request) → k < s.channels
    → is_left s traces (suc n) core k access r ≡ true → is_left s traces n core k access r ≡ true
left-before s traces n core k access r l h =
    let both = and_parts (is_of core access r) (not (is_served (history_of s traces (suc n) k) r)) h in
    and_from (is_of core access r) (not (is_served (history_of s traces n k) r)) both.0
    (not_from_false _ (false_from_ne_true _ (λ e. both_ways _ (not-true _ both.1) (served-kept s traces n k r l e))))

-- a command for one of them leaves one less
left-fewer : (s : Config) (traces : List (List Entry)) (n core k : ℕ) (access : Access) → k < s.channels
    → count_by (is_left s traces (suc n) core k access) (requests_to s traces n k) + cond (test_in (serves_for core access) (chosen s traces n k)) 1 0
    ≤ count_by (is_left s traces n core k access) (requests_to s traces n k)
left-fewer s traces n core k access l = go (test_in (serves_for core access) (chosen s traces n k)) refl
  where
    served_one : Served s traces n core k access → count_by (is_left s traces (suc n) core k access) (requests_to s traces n k) + 1 ≤ count_by (is_left s traces n core k access) (requests_to s traces n k)
    served_one (r, q, is, now) =
        count-fewer (is_left s traces (suc n) core k access) (is_left s traces n core k access) (λ x h. left-before s traces n core k access x l h) (requests_to s traces n k)
        r q.among.0 q.among.1 q.among.2
        (and_from (is_of core access r) (not (is_served (history_of s traces n k) r)) is (not_from_false _ q.unserved))
        (and_right (is_of core access r) (not (is_served (history_of s traces (suc n) k) r)) (not_from_true _ now))

    go : (b : Bool) → test_in (serves_for core access) (chosen s traces n k) ≡ b
        → count_by (is_left s traces (suc n) core k access) (requests_to s traces n k) + cond b 1 0 ≤ count_by (is_left s traces n core k access) (requests_to s traces n k)
    go true e = served_one (command-served s traces n core k access l (chosen s traces n k) refl (chosen-serves s traces n k) e)
    go false e =
        let a = count-weaker (is_left s traces (suc n) core k access) (is_left s traces n core k access) (λ x h. left-before s traces n core k access x l h) (requests_to s traces n k) in
        omega arith

unserved-more : (s : Config) (traces : List (List Entry)) (n core k : ℕ) (access : Access) → k < s.channels
    → unserved s traces (suc n) core k access + cond (test_in (serves_for core access) (chosen s traces n k)) 1 0
    ≤ unserved s traces n core k access + sent_now s traces n core k access
unfolding unserved
unserved-more s traces n core k access l =
    let q = is_left s traces (suc n) core k access in
    let new = sends s traces (run s traces n) (next_step s traces (run s traces n)) in
    let a = requests-more q s traces n k in
    let b = left-fewer s traces n core k access l in
    let c : count_by (λ m. is_to s (Channel k) m && test_in q (request_in m.payload)) new ≤ count_by (brings s core k access) new =
    count-weaker (λ m. is_to s (Channel k) m && test_in q (request_in m.payload)) (brings s core k access) (λ m h. narrower m (request_in m.payload) h) new in
    let d = new-requests s traces n core k access in
    omega arith
  where
    narrower : (m : Message) (o : Option Request) → (is_to s (Channel k) m && test_in (is_left s traces (suc n) core k access) o) ≡ true → (is_to s (Channel k) m && test_in (is_of core access) o) ≡ true
    narrower m None h = h
    narrower m (Some r) h =
        let both = and_parts (is_to s (Channel k) m) _ h in
        and_from (is_to s (Channel k) m) (is_of core access r) both.0 (and_parts (is_of core access r) _ both.1).0

inbox-none : (p : Message → Bool) (s : Config) (traces : List (List Entry)) (unit : MachineUnit) → count_by p (inbox s traces (run s traces 0) unit) ≡ 0
unfolding run
inbox-none p s traces unit = count-inbox p s traces [] unit ∙ ap (count_by (λ m. is_to s unit m && p m)) (messages-none s traces)

unserved-none : (s : Config) (traces : List (List Entry)) (core k : ℕ) (access : Access) → unserved s traces 0 core k access ≡ 0
unfolding unserved
unserved-none s traces core k access =
    count-filter_map (is_left s traces 0 core k access) (λ (m : Message). request_in m.payload) (inbox s traces (run s traces 0) (Channel k))
    ∙ inbox-none (λ (m : Message). test_in (is_left s traces 0 core k access) (request_in m.payload)) s traces (Channel k)

served-none : (s : Config) (traces : List (List Entry)) (core k : ℕ) (access : Access) → served s traces 0 core k access ≡ 0
unfolding served run steps_of_channel issued_commands
served-none s traces core k access = refl

-- what was sent is served, or not yet
pub conserved : (s : Config) (traces : List (List Entry)) (core k : ℕ) (access : Access) → k < s.channels → (n : ℕ)
    → unserved s traces n core k access + served s traces n core k access ≤ requests_sent_count s traces n core k access
conserved s traces core k access l zero = let a = unserved-none s traces core k access in let b = served-none s traces core k access in omega arith
conserved s traces core k access l (suc n) =
    let a = unserved-more s traces n core k access l in
    let b = served-more s traces n core k access l in
    let c = requests_sent_count-more s traces n core k access in
    let d : unserved s traces n core k access + served s traces n core k access ≤ requests_sent_count s traces n core k access = conserved s traces core k access l n in
    omega arith

-- a credit of this kind for this core, from this channel
abbrev is_credit_from : Config → ℕ → ℕ → Access → Message → Bool
is_credit_from s core k access m = eqb m.link (credit_link s core k) && is_credit access m.payload

credit-only : (s : Config) (core k : ℕ) (access : Access) → k < s.channels → OnlyFrom s (Channel k) (is_credit_from s core k access)
credit-only s core k access l m h = ap (sender s) (eqb-true _ _ (and_parts (eqb m.link (credit_link s core k)) (is_credit access m.payload) h).0) ∙ sender_credit s core k l

-- one link leads to one core
credit-core : (s : Config) (core other k : ℕ) → k < s.channels → eqb (credit_link s other k) (credit_link s core k) ≡ true → eqb other core ≡ true
credit-core s core other k l h =
    let e : Core other ≡ Core core = sym (receiver_credit s other k l) ∙ ap (receiver s) (eqb-true _ _ h) ∙ receiver_credit s core k l in
    let f : other ≡ core = cc in
    eq-eqb other core f

credit-served : (s : Config) (core k cycle : ℕ) (access other : Access) (source : Source) → k < s.channels → is_credit_from s core k access (credit s k cycle other source) ≡ true
    → (eqb source.core core ≡ true) × (is_access access other ≡ true)
unfolding credit
credit-served s core k cycle access other source l h =
    let both = and_parts (eqb (credit_link s source.core k) (credit_link s core k)) (is_access access other) h in
    (credit-core s core source.core k l both.0, both.1)

no_credit : (s : Config) (core k cycle : ℕ) (access : Access) (source : Source) → is_credit_from s core k access (reply s k cycle source) ≡ false
unfolding reply
no_credit s core k cycle access source = and_right (eqb (reply_link s source.core k) (credit_link s core k)) false refl

read-credits : (s : Config) (core k cycle : ℕ) (access : Access) (source : Source) → k < s.channels
    → count_by (is_credit_from s core k access) (reply s k cycle source ∷ credit s k cycle to.Read source ∷ []) ≤ cond (eqb source.core core && is_access access to.Read) 1 0
read-credits s core k cycle access source l =
    let p = is_credit_from s core k access in
    let a : count_by p (reply s k cycle source ∷ credit s k cycle to.Read source ∷ []) ≡ 0 + (cond (p (credit s k cycle to.Read source)) 1 0 + 0) =
    count-cons p (reply s k cycle source) (credit s k cycle to.Read source ∷ [])
    ∙ ap₂ (λ b n. cond b 1 0 + n) (no_credit s core k cycle access source) (count-cons p (credit s k cycle to.Read source) []) in
    let b = bit_le (p (credit s k cycle to.Read source)) (eqb source.core core && is_access access to.Read)
    (λ h. let both = credit-served s core k cycle access to.Read source l h in and_from (eqb source.core core) (is_access access to.Read) both.0 both.1) in
    omega arith

write-credits : (s : Config) (core k cycle : ℕ) (access : Access) (source : Source) → k < s.channels
    → count_by (is_credit_from s core k access) (credit s k cycle to.Write source ∷ []) ≤ cond (eqb source.core core && is_access access to.Write) 1 0
write-credits s core k cycle access source l =
    let p = is_credit_from s core k access in
    let a : count_by p (credit s k cycle to.Write source ∷ []) ≡ cond (p (credit s k cycle to.Write source)) 1 0 + 0 = count-cons p (credit s k cycle to.Write source) [] in
    let b = bit_le (p (credit s k cycle to.Write source)) (eqb source.core core && is_access access to.Write)
    (λ h. let both = credit-served s core k cycle access to.Write source l h in and_from (eqb source.core core) (is_access access to.Write) both.0 both.1) in
    omega arith

command-credits : (s : Config) (core k cycle : ℕ) (access : Access) → k < s.channels → (o : Option Command)
    → count_by (is_credit_from s core k access) (messages_at s k cycle o) ≤ cond (test_in (serves_for core access) o) 1 0
unfolding messages_of
command-credits s core k cycle access l None = omega arith
command-credits s core k cycle access l (Some (Rd bank row column source)) = read-credits s core k cycle access source l
command-credits s core k cycle access l (Some (Wr bank row column source)) = write-credits s core k cycle access source l
command-credits s core k cycle access l (Some (Act bank row source)) = omega arith
command-credits s core k cycle access l (Some (Pre bank source)) = omega arith
command-credits s core k cycle access l (Some (Prea rank)) = omega arith
command-credits s core k cycle access l (Some (Ref rank)) = omega arith

-- each credit that was sent is for a request that was served
pub credits-served : (s : Config) (traces : List (List Entry)) (core k : ℕ) (access : Access) → k < s.channels → (n : ℕ)
    → count_by (is_credit_from s core k access) (messages s traces (run s traces n)) ≤ served s traces n core k access
unfolding run channel_sends
credits-served s traces core k access l zero =
    let e = ap (count_by (is_credit_from s core k access)) (messages-none s traces) in
    omega arith
credits-served s traces core k access l (suc n) =
    let p = is_credit_from s core k access in
    let history = run s traces n in
    let machine_step = next_step s traces history in
    let a = count-messages p s traces history machine_step in
    let b = sends-channel s traces history machine_step p k l (credit-only s core k access l) in
    let c : count_by p (channel_sends s history machine_step k) ≤ cond (test_in (serves_for core access) (chosen s traces n k)) 1 0 =
    subst (λ o. count_by p (messages_at s k (length history) o) ≤ cond (test_in (serves_for core access) (chosen s traces n k)) 1 0) (sym (step_of_channel-next s traces history k l))
    (command-credits s core k (length history) access l (chosen s traces n k)) in
    let d = served-more s traces n core k access l in
    let rest : count_by p (messages s traces history) ≤ served s traces n core k access = credits-served s traces core k access l n in
    omega arith

-- what came back was sent
back-served : (s : Config) (traces : List (List Entry)) (n core k : ℕ) (access : Access) → k < s.channels → credits_back s traces n core k access ≤ served s traces n core k access
back-served s traces n core k access l =
    let p = is_credit_on (credit_link s core k) access n in
    let ms = messages s traces (run s traces n) in
    let a = count-inbox p s traces (run s traces n) (Core core) in
    let b : count_by (λ m. is_to s (Core core) m && p m) ms ≤ count_by (is_credit_from s core k access) ms =
    count-weaker (λ m. is_to s (Core core) m && p m) (is_credit_from s core k access)
    (λ m h. (and_parts (is_credit_from s core k access m) _ (and_parts (is_to s (Core core) m) (p m) h).1).0) ms in
    let c = credits-served s traces core k access l n in
    omega arith

pub credits_come_back_once : (s : Config) (traces : List (List Entry)) (n : ℕ) → CreditsComeBackOnce s traces n
credits_come_back_once s traces n core k access c l =
    let a = back-served s traces n core k access l in
    let b = conserved s traces core k access l n in
    omega arith

-- no more of them wait than there are credits
pub unserved-bound : (s : Config) (traces : List (List Entry)) (n core k : ℕ) (access : Access) → core < s.cores → k < s.channels → unserved s traces n core k access ≤ credit_cap s access
unserved-bound s traces n core k access c l =
    let a = back-served s traces n core k access l in
    let b = conserved s traces core k access l n in
    let d = spent s traces core k access c n in
    omega arith
