-- The rows of a core with a reply are the replies that came to it.
use Rattle.std.proofs.Common.{◌≡◌, ℕ, zero, suc, ◌+◌, ◌-◌, ◌<◌, ◌≤◌, Bool, true, false, ◌&&◌, cond, eqb, ltb, List, [], ◌∷◌, ◌++◌, length, get_or, Option, Some, None, refl, sym, ap, ap₂, ◌∙◌, zero-add, add-zero, arith}
use Rattle.std.specs.Prelude.{sum_by, filter, filter_map, flat_map, is_some}
use Rattle.std.specs.Option.{IfSome}
use Rattle.std.specs.List.{AllByRecursion as Each, cons_option, range_with_len}
use Rattle.std.proofs.lemmas.Bool.{cond-true, cond-false, cond_both, eqb-true}
use Rattle.std.proofs.lemmas.List.Sums.{sum_by-cons, sum_by-append, length-filter}
use Rattle.sim_base.specs.declared.message.Access.{Access}
use Rattle.sim_base.specs.declared.config.Config.{Config}
use Rattle.sim_base.specs.Counts.{issue_cycle, replied_entry, is_reply, is_reply_before, replies, wait_of, read_latency}
use Rattle.sim_base.specs.History.{below, steps_of_core, issued_at, commands, request, request_of, reply, credit, messages_of, messages_at, messages, is_unit, is_to, is_before, by_age, inbox}
use Rattle.sim_base.specs.Sends.{core_sends, channel_sends, sends}
use Rattle.sim_base.specs.Machine.{next_command, next_step, run}
use Rattle.sim_base.specs.MachineStep.{MachineStep, step_of_channel}
use Rattle.sim_base.specs.declared.command.Command.{Command}
use Rattle.sim_base.specs.declared.command.Command.TheVariants.{Act, Rd, Wr, Pre, Prea, Ref}
use Rattle.sim_base.specs.declared.command.IssuedCommand.{IssuedCommand}
use Rattle.sim_base.specs.declared.command.Source.{Source}
use Rattle.sim_base.specs.declared.history.CoreStep.{CoreStep}
use Rattle.sim_base.specs.declared.message.Message.{Message}
use Rattle.sim_base.specs.declared.message.Unit.TheVariants.{Core}
use Rattle.sim_base.specs.declared.trace.Entry.{Entry}
use Rattle.sim_base.specs.declared.trace.Entry.TheVariants.{Plain, Read, Write}
use Rattle.sim_base.proofs.Arrived.{put, puts, by_age-puts}
use Rattle.sim_base.proofs.Each.{Each-flat_map_below}
use Rattle.sim_base.proofs.Grows.{messages-grow}
use Rattle.sim_base.proofs.Ordered.{Each-weaker}
use Rattle.sim_base.specs.declared.message.Access.TheVariants as access
use Rattle.std.proofs.lemmas.List.FromFn.{length-map-range_with_len}
use Rattle.statistics.proofs.Replies.{length-steps_of_core}
use Rattle.statistics.specs.Cores.{core_stats}
use Rattle.statistics.specs.Runs.{stats_of_core}
use Rattle.laws.proofs.Receivers.{receiver_reply, Each-filter_passes}
use Rattle.laws.proofs.Sent.{messages-none, issues-each}
use Rattle.laws.proofs.Tabled.{rows_from, commands-more}
use Rattle.request_table.specs.Requests.{if_within, reply_cycle, request_by, requests_of, cycles_from, reply_latency}
use Rattle.request_table.specs.declared.times.RequestTimes.{RequestTimes}
use Rattle.laws.specs.Totals.{rows_of_core, CoreAddsUp}

-- what is added for a message, or for a row, by when its reply comes and the entry that it answers
abbrev Weight : Type 0
Weight = ℕ → ℕ → ℕ

abbrev weight_at : Weight → ℕ → Option ℕ → ℕ
weight_at w cycle (Some entry) = w cycle entry
weight_at w cycle None = 0

abbrev of_message : Weight → Message → ℕ
of_message w m = weight_at w m.arrival (replied_entry m.payload)

-- of the messages to a core that are replies and arrive before a cycle
abbrev in_time : Config → ℕ → ℕ → Weight → Message → ℕ
in_time s core until w m = cond (is_to s (Core core) m) (cond (is_reply_before until m) (of_message w m) 0) 0

abbrev replied_weight : Weight → ℕ → Option ℕ → ℕ
replied_weight w entry (Some cycle) = w cycle entry
replied_weight w entry None = 0

-- of the rows of a core
abbrev of_row : ℕ → Weight → RequestTimes → ℕ
of_row core w row = cond (eqb row.core core) (replied_weight w row.entry row.replied) 0

abbrev of_request : ℕ → Weight → Option RequestTimes → ℕ
of_request core w (Some row) = of_row core w row
of_request core w None = 0

-- sums over what passes a test, over what is made of some, and in another order
sum-filter : {X : Type 0} (f : X → ℕ) (p : X → Bool) (xs : List X) → sum_by f (filter p xs) ≡ sum_by (λ x. cond (p x) (f x) 0) xs
sum-filter f p [] = refl
sum-filter f p (x ∷ xs) = by (p x) refl (sum-filter f p xs)
  where
    by : (b : Bool) → p x ≡ b → sum_by f (filter p xs) ≡ sum_by (λ y. cond (p y) (f y) 0) xs → sum_by f (filter p (x ∷ xs)) ≡ sum_by (λ y. cond (p y) (f y) 0) (x ∷ xs)
    by true e h = ap (sum_by f) (cond-true _ _ _ e) ∙ sum_by-cons f x (filter p xs) ∙ ap₂ (λ a b. a + b) (sym (cond-true _ _ _ e)) h ∙ sym (sum_by-cons (λ y. cond (p y) (f y) 0) x xs)
    by false e h =
        ap (sum_by f) (cond-false _ _ _ e) ∙ h ∙ sym (zero-add _) ∙ ap (λ a. a + sum_by (λ y. cond (p y) (f y) 0) xs) (sym (cond-false _ _ _ e)) ∙ sym (sum_by-cons (λ y. cond (p y) (f y) 0) x xs)

sum-put : (f : Message → ℕ) (m : Message) (ns : List Message) → sum_by f (put m ns) ≡ f m + sum_by f ns
sum-put f m [] = sum_by-cons f m []
sum-put f m (n ∷ ns) =
    cond_both (is_before m n) (m ∷ n ∷ ns) (n ∷ put m ns) (λ x. sum_by f x ≡ f m + sum_by f (n ∷ ns))
    (λ e. sum_by-cons f m (n ∷ ns))
    (λ e.
    let rest : sum_by f (put m ns) ≡ f m + sum_by f ns = sum-put f m ns in
    let a : sum_by f (n ∷ put m ns) ≡ f n + sum_by f (put m ns) = sum_by-cons f n (put m ns) in
    let b : sum_by f (n ∷ ns) ≡ f n + sum_by f ns = sum_by-cons f n ns in
    omega (arith, rest, a, b))

sum-puts : (f : Message → ℕ) (acc ms : List Message) → sum_by f (puts acc ms) ≡ sum_by f acc + sum_by f ms
sum-puts f acc [] = sym (add-zero (sum_by f acc))
sum-puts f acc (m ∷ ms) =
    let rest : sum_by f (puts (put m acc) ms) ≡ sum_by f (put m acc) + sum_by f ms = sum-puts f (put m acc) ms in
    let a : sum_by f (put m acc) ≡ f m + sum_by f acc = sum-put f m acc in
    let b : sum_by f (m ∷ ms) ≡ f m + sum_by f ms = sum_by-cons f m ms in
    omega (arith, rest, a, b)

sum-by_age : (f : Message → ℕ) (ms : List Message) → sum_by f (by_age ms) ≡ sum_by f ms
sum-by_age f ms = ap (sum_by f) (by_age-puts ms) ∙ sum-puts f [] ms ∙ zero-add (sum_by f ms)

sum-messages : (f : Message → ℕ) (s : Config) (traces : List (List Entry)) (history : List MachineStep) (machine_step : MachineStep)
    → sum_by f (messages s traces (history ++ machine_step ∷ [])) ≡ sum_by f (messages s traces history) + sum_by f (sends s traces history machine_step)
sum-messages f s traces history machine_step =
    let then = messages s traces (history ++ machine_step ∷ []) in
    let now = messages s traces history in
    let new = sends s traces history machine_step in
    let a : sum_by f (puts [] then) ≡ 0 + sum_by f then = sum-puts f [] then in
    let b : sum_by f (puts (puts [] now) new) ≡ sum_by f (puts [] now) + sum_by f new = sum-puts f (puts [] now) new in
    let c : sum_by f (puts [] now) ≡ 0 + sum_by f now = sum-puts f [] now in
    let d : sum_by f (puts [] then) ≡ sum_by f (puts (puts [] now) new) = ap (sum_by f) (messages-grow s traces history machine_step) in
    omega (arith, a, b, c, d)

sum-none : {X : Type 0} (f : X → ℕ) (xs : List X) → Each (λ x. f x ≡ 0) xs → sum_by f xs ≡ 0
sum-none f [] h = refl
sum-none f (x ∷ xs) h = sum_by-cons f x xs ∙ ap₂ (λ a b. a + b) h.0 (sum-none f xs h.1)

-- a read's reply weighs what its row does
not-sent : (s : Config) (core until : ℕ) (w : Weight) (m : Message) → is_reply m ≡ false → in_time s core until w m ≡ 0
not-sent s core until w m h = by (is_to s (Core core) m) (is_reply_before until m) (ap (λ b. b && ltb m.arrival until) h)
  where
    by : (a b : Bool) → b ≡ false → cond a (cond b (of_message w m) 0) 0 ≡ 0
    by true b e = cond-false _ _ _ e
    by false b e = refl

reply-weighs : (s : Config) (core until : ℕ) (w : Weight) (channel cycle : ℕ) (source : Source) → channel < s.channels
    → in_time s core until w (reply s channel cycle source) ≡ cond (eqb source.core core) (replied_weight w source.entry (if_within until (reply_cycle s source.core channel cycle))) 0
unfolding reply
reply-weighs s core until w channel cycle source l =
    let to : is_to s (Core core) (reply s channel cycle source) ≡ eqb source.core core = ap (λ u. is_unit u (Core core)) (receiver_reply s source.core channel l) in
    ap₂ (λ a b. cond a b 0) to (by (ltb (reply_cycle s source.core channel cycle) until))
  where
    by : (b : Bool) → cond b (w (reply_cycle s source.core channel cycle) source.entry) 0 ≡ replied_weight w source.entry (cond b (Some (reply_cycle s source.core channel cycle)) None)
    by true = refl
    by false = refl

credit-weighs : (s : Config) (core until : ℕ) (w : Weight) (channel cycle : ℕ) (access : Access) (source : Source) → in_time s core until w (credit s channel cycle access source) ≡ 0
unfolding credit
credit-weighs s core until w channel cycle access source = not-sent s core until w (credit s channel cycle access source) refl

command-weighs : (s : Config) (history : List MachineStep) (core : ℕ) (w : Weight) (channel cycle : ℕ) (i : IssuedCommand) (command : Command) → channel < s.channels → i.channel ≡ channel → i.cycle ≡ cycle
    → sum_by (in_time s core (length history) w) (messages_of s channel cycle command) ≡ of_request core w (request_by s history i command)
unfolding messages_of
command-weighs s history core w channel cycle i (Rd bank row column source) l same then =
    let g = in_time s core (length history) w in
    let none : g (credit s channel cycle access.Read source) ≡ 0 = credit-weighs s core (length history) w channel cycle access.Read source in
    sum_by-cons g (reply s channel cycle source) (credit s channel cycle access.Read source ∷ [])
    ∙ ap₂ (λ a b. a + b) (reply-weighs s core (length history) w channel cycle source l) (sum_by-cons g (credit s channel cycle access.Read source) [] ∙ ap (λ a. a + 0) none)
    ∙ add-zero _
    ∙ ap₂ (λ k t. cond (eqb source.core core) (replied_weight w source.entry (if_within (length history) (reply_cycle s source.core k t))) 0) (sym same) (sym then)
command-weighs s history core w channel cycle i (Wr bank row column source) l same then =
    let g = in_time s core (length history) w in
    sum_by-cons g (credit s channel cycle access.Write source) [] ∙ ap (λ a. a + 0) (credit-weighs s core (length history) w channel cycle access.Write source) ∙ sym (by (eqb source.core core))
  where
    by : (b : Bool) → ◌≡◌ {A = ℕ} (cond {A = ℕ} b 0 0) 0
    by true = refl
    by false = refl
command-weighs s history core w channel cycle i (Act bank row source) l same then = refl
command-weighs s history core w channel cycle i (Pre bank source) l same then = refl
command-weighs s history core w channel cycle i (Prea rank) l same then = refl
command-weighs s history core w channel cycle i (Ref rank) l same then = refl

-- what a command weighs in the whole run
abbrev of_command : Config → List MachineStep → ℕ → Weight → IssuedCommand → ℕ
of_command s all core w i = of_request core w (request_by s all i i.command)

-- what the channels send in a cycle
channels-weigh : (s : Config) (all : List MachineStep) (core : ℕ) (w : Weight) (cycle : ℕ) (o : ℕ → Option Command) (os : List (Option Command)) (k : ℕ)
    → ((j : ℕ) → j < length os → o (k + j) ≡ get_or os j None) → k + length os ≤ s.channels
    → sum_by (in_time s core (length all) w) (flat_map (λ channel. messages_at s channel cycle (o channel)) (range_with_len k (length os))) ≡ sum_by (of_command s all core w) (rows_from cycle k os)
unfolding rows_from
channels-weigh s all core w cycle o [] k h l = refl
channels-weigh s all core w cycle o (x ∷ os) k h l =
    let g = in_time s core (length all) w in
    let here : o k ≡ x = ap o (sym (add-zero k)) ∙ h 0 (omega arith) in
    let rest = channels-weigh s all core w cycle o os (k + 1) (λ j m. ap o (next j) ∙ h (suc j) (omega (arith, m))) (omega (arith, l)) in
    sum_by-append g (messages_at s k cycle (o k)) (flat_map (λ channel. messages_at s channel cycle (o channel)) (range_with_len (k + 1) (length os)))
    ∙ ap₂ (λ a b. a + b) (ap (λ y. sum_by g (messages_at s k cycle y)) here) rest
    ∙ by x
  where
    next : (j : ℕ) → k + 1 + j ≡ k + suc j
    next j = omega arith

    by : (y : Option Command) → sum_by (in_time s core (length all) w) (messages_at s k cycle y) + sum_by (of_command s all core w) (rows_from cycle (k + 1) os)
        ≡ sum_by (of_command s all core w) (cons_option (issued_at k cycle y) (rows_from cycle (k + 1) os))
    by None = zero-add _
    by (Some c) =
        let i : IssuedCommand = record { cycle = cycle; channel = k; command = c } in
        ap (λ a. a + sum_by (of_command s all core w) (rows_from cycle (k + 1) os)) (command-weighs s all core w k cycle i c (omega (arith, l)) refl refl)
        ∙ sym (sum_by-cons (of_command s all core w) i (rows_from cycle (k + 1) os))

-- what the cores send weighs nothing
request-weighs : (s : Config) (core until : ℕ) (w : Weight) (c cycle entry : ℕ) (e : Entry) → IfSome (request_of s c cycle entry e) (λ m. in_time s core until w m ≡ 0)
unfolding request
request-weighs s core until w c cycle entry Plain = tt
request-weighs s core until w c cycle entry (Read address) = not-sent s core until w (request s c cycle entry access.Read address) refl
request-weighs s core until w c cycle entry (Write address) = not-sent s core until w (request s c cycle entry access.Write address) refl

cores-weigh : (s : Config) (traces : List (List Entry)) (history : List MachineStep) (core until : ℕ) (w : Weight)
    → sum_by (in_time s core until w) (flat_map (core_sends s traces history (next_step s traces history)) (below s.cores)) ≡ 0
cores-weigh s traces history core until w =
    sum-none (in_time s core until w) _
    (Each-flat_map_below (λ m. in_time s core until w m ≡ 0) (core_sends s traces history (next_step s traces history)) s.cores
    (λ c l. issues-each (λ m. in_time s core until w m ≡ 0) s traces history c l (λ j e b f g. request-weighs s core until w c (length history) (_) e)))

-- all messages of the first cycles weigh what their commands do
all-weigh : (s : Config) (traces : List (List Entry)) (all : List MachineStep) (core : ℕ) (w : Weight) (n : ℕ)
    → sum_by (in_time s core (length all) w) (messages s traces (run s traces n)) ≡ sum_by (of_command s all core w) (commands (run s traces n))
unfolding run sends commands next_step channel_sends
all-weigh s traces all core w zero = ap (sum_by (in_time s core (length all) w)) (messages-none s traces)
all-weigh s traces all core w (suc n) =
    let g = in_time s core (length all) w in
    let history = run s traces n in
    let machine_step = next_step s traces history in
    let os = machine_step.commands in
    let wide : length os ≡ s.channels = length-map-range_with_len (next_command s traces history) 0 s.channels in
    let from_cores = flat_map (core_sends s traces history machine_step) (below s.cores) in
    let from_channels = flat_map (channel_sends s history machine_step) (below s.channels) in
    let sent : sum_by g from_channels ≡ sum_by (of_command s all core w) (rows_from (length history) 0 os) =
    ap (λ k. sum_by g (flat_map (channel_sends s history machine_step) (below k))) (sym wide)
    ∙ channels-weigh s all core w (length history) (λ k. step_of_channel k machine_step) os 0 (λ j l. ap (λ k. get_or os k None) (zero-add j)) (omega (arith, wide)) in
    sum-messages g s traces history machine_step
    ∙ ap₂ (λ a b. a + b) (all-weigh s traces all core w n)
    (sum_by-append g from_cores from_channels ∙ ap (λ a. a + sum_by g from_channels) (cores-weigh s traces history core (length all) w) ∙ zero-add _ ∙ sent)
    ∙ sym (ap (sum_by (of_command s all core w)) (commands-more history machine_step) ∙ sum_by-append (of_command s all core w) (commands history) (rows_from (length history) 0 os))

-- the commands weigh what the rows do
rows-weigh : (s : Config) (all : List MachineStep) (core : ℕ) (w : Weight) (xs : List IssuedCommand)
    → sum_by (of_command s all core w) xs ≡ sum_by (of_row core w) (filter_map (λ i. request_by s all i i.command) xs)
rows-weigh s all core w [] = refl
rows-weigh s all core w (x ∷ xs) =
    let rest = filter_map (λ i. request_by s all i i.command) xs in
    sum_by-cons (of_command s all core w) x xs ∙ ap (λ b. of_command s all core w x + b) (rows-weigh s all core w xs) ∙ by (request_by s all x x.command) rest
  where
    by : (o : Option RequestTimes) (rest : List RequestTimes) → of_request core w o + sum_by (of_row core w) rest ≡ sum_by (of_row core w) (cons_option o rest)
    by None rest = zero-add _
    by (Some row) rest = sym (sum_by-cons (of_row core w) row rest)

-- the replies of a core weigh what its rows do
replies-weigh : (s : Config) (traces : List (List Entry)) (n core : ℕ) (w : Weight)
    → sum_by (of_message w) (replies (steps_of_core core (run s traces n)) (inbox s traces (run s traces n) (Core core)))
    ≡ sum_by (λ (row : RequestTimes). replied_weight w row.entry row.replied) (rows_of_core s (run s traces n) core)
unfolding replies inbox requests_of steps_of_core
replies-weigh s traces n core w =
    let all = run s traces n in
    let steps = steps_of_core core all in
    let sent = filter (is_to s (Core core)) (messages s traces all) in
    let timed = λ (m : Message). cond (is_reply_before (length steps) m) (of_message w m) 0 in
    let long : length steps ≡ length all = length-steps_of_core core all in
    sum-filter (of_message w) (is_reply_before (length steps)) (by_age sent)
    ∙ sum-by_age timed sent
    ∙ sum-filter timed (is_to s (Core core)) (messages s traces all)
    ∙ ap (λ k. sum_by (in_time s core k w) (messages s traces all)) long
    ∙ all-weigh s traces all core w n
    ∙ rows-weigh s all core w (commands all)
    ∙ sym (sum-filter (λ (row : RequestTimes). replied_weight w row.entry row.replied) (λ (row : RequestTimes). eqb row.core core) (requests_of s all))

-- sums of the same numbers
sum-same : {X : Type 0} (f g : X → ℕ) (xs : List X) → Each (λ x. f x ≡ g x) xs → sum_by f xs ≡ sum_by g xs
sum-same f g [] h = refl
sum-same f g (x ∷ xs) h = sum_by-cons f x xs ∙ ap₂ (λ a b. a + b) h.0 (sum-same f g xs h.1) ∙ sym (sum_by-cons g x xs)

each-same : {X : Type 0} (f g : X → ℕ) → ((x : X) → f x ≡ g x) → (xs : List X) → Each (λ x. f x ≡ g x) xs
each-same f g h [] = tt
each-same f g h (x ∷ xs) = (h x, each-same f g h xs)

-- each reply weighs 1
abbrev one : Weight
one cycle entry = 1

one-each : (arrival : ℕ) (o : Option ℕ) (b : Bool) → cond (is_some o && b) (weight_at one arrival o) 0 ≡ cond (is_some o && b) 1 0
one-each arrival None b = refl
one-each arrival (Some entry) true = refl
one-each arrival (Some entry) false = refl

replies-counted : (until : ℕ) (xs : List Message) → sum_by (of_message one) (filter (is_reply_before until) xs) ≡ length (filter (is_reply_before until) xs)
replies-counted until xs =
    sum-filter (of_message one) (is_reply_before until) xs
    ∙ sum-same (λ (m : Message). cond (is_reply_before until m) (of_message one m) 0) (λ (m : Message). cond (is_reply_before until m) 1 0) xs
    (each-same _ _ (λ m. one-each m.arrival (replied_entry m.payload) (ltb m.arrival until)) xs)
    ∙ sym (length-filter (is_reply_before until) xs)

one-row : (entry : ℕ) (o : Option ℕ) → replied_weight one entry o ≡ cond (is_some o) 1 0
one-row entry None = refl
one-row entry (Some cycle) = refl

-- or as long as its entry waited
abbrev waited : List CoreStep → Weight
waited steps cycle entry = cycle - issue_cycle steps entry

waited-message : (steps : List CoreStep) (arrival : ℕ) (o : Option ℕ) → weight_at (waited steps) arrival o ≡ wait_of steps arrival o
waited-message steps arrival None = refl
waited-message steps arrival (Some entry) = refl

waited-row : (steps : List CoreStep) (entry issued : ℕ) (o : Option ℕ) → issued ≡ issue_cycle steps entry → replied_weight (waited steps) entry o ≡ cycles_from issued o
waited-row steps entry issued None e = refl
waited-row steps entry issued (Some cycle) e = ap (λ n. cycle - n) (sym e)

-- a row says when its entry was issued
abbrev SaysIssue : List MachineStep → RequestTimes → Type 0
SaysIssue history row = row.issued ≡ issue_cycle (steps_of_core row.core history) row.entry

by-says : (s : Config) (history : List MachineStep) (i : IssuedCommand) (command : Command) → IfSome (request_by s history i command) (SaysIssue history)
by-says s history i (Rd bank row column source) = refl
by-says s history i (Wr bank row column source) = refl
by-says s history i (Act bank row source) = tt
by-says s history i (Pre bank source) = tt
by-says s history i (Prea rank) = tt
by-says s history i (Ref rank) = tt

rows-say : (s : Config) (history : List MachineStep) (xs : List IssuedCommand) → Each (SaysIssue history) (filter_map (λ i. request_by s history i i.command) xs)
rows-say s history [] = tt
rows-say s history (x ∷ xs) = by (request_by s history x x.command) (by-says s history x x.command) (rows-say s history xs)
  where
    by : (o : Option RequestTimes) → IfSome o (SaysIssue history) → Each (SaysIssue history) (filter_map (λ i. request_by s history i i.command) xs)
        → Each (SaysIssue history) (cons_option o (filter_map (λ i. request_by s history i i.command) xs))
    by None h k = k
    by (Some row) h k = (h, k)

core-rows-say : (s : Config) (history : List MachineStep) (core : ℕ) → Each (λ (row : RequestTimes). (eqb row.core core ≡ true) × SaysIssue history row) (rows_of_core s history core)
unfolding requests_of
core-rows-say s history core = Each-filter_passes (SaysIssue history) (λ (row : RequestTimes). eqb row.core core) (requests_of s history) (rows-say s history (commands history))

pub core_adds_up : (s : Config) (traces : List (List Entry)) (n core : ℕ) → CoreAddsUp s traces n core
unfolding stats_of_core core_stats replies read_latency
core_adds_up s traces n core =
    let all = run s traces n in
    let steps = steps_of_core core all in
    let mail = inbox s traces all (Core core) in
    let rows = rows_of_core s all core in
    record {
      replies =
          sym (sum-same (λ (row : RequestTimes). replied_weight one row.entry row.replied) (λ (row : RequestTimes). cond (is_some row.replied) 1 0) rows (each-same _ _ (λ row. one-row row.entry row.replied) rows))
          ∙ sym (replies-weigh s traces n core one)
          ∙ replies-counted (length steps) mail;
      read_latency =
          sym (sum-same (λ (row : RequestTimes). replied_weight (waited steps) row.entry row.replied) reply_latency rows
          (Each-weaker _ (λ (row : RequestTimes). replied_weight (waited steps) row.entry row.replied ≡ reply_latency row)
          (λ row h. waited-row steps row.entry row.issued row.replied (h.1 ∙ ap (λ c. issue_cycle (steps_of_core c all) row.entry) (eqb-true row.core core h.0))) rows (core-rows-say s all core)))
          ∙ sym (replies-weigh s traces n core (waited steps))
          ∙ sum-same (of_message (waited steps)) (λ (m : Message). wait_of steps m.arrival (replied_entry m.payload)) (filter (is_reply_before (length steps)) mail)
          (each-same _ _ (λ m. waited-message steps m.arrival (replied_entry m.payload)) (filter (is_reply_before (length steps)) mail));
    }
