-- What the machine keeps, one cycle more.
use Rattle.std.proofs.Common.{◌≡◌, ℕ, zero, suc, ◌+◌, ◌<◌, Bool, true, false, cond, ltb, eqb, ◌&&◌, ◌||◌, List, [], ◌∷◌, ◌++◌, length, map, Option, Some, None, refl, sym, ap, ap₂, subst, ◌∙◌, add-one, add-zero, zero-add, append_assoc, arith}
use Rattle.std.specs.Prelude.{filter, filter_map, flat_map, fold, not, count_by}
use Rattle.std.specs.Option.{option_to_list}
use Rattle.std.specs.List.{list_all, list_any, enumerate_from, cons_option, range_with_len}
use Rattle.std.proofs.Math.Seq.{take-length}
use Rattle.std.proofs.lemmas.Bool.{cond_both}
use Rattle.std.proofs.lemmas.Bool.Decides.{nat_tests}
use Rattle.std.proofs.lemmas.List.{map-append, append-nil}
use Rattle.std.proofs.lemmas.List.Folds.{list_any-append}
use Rattle.std.proofs.lemmas.List.Concat.{flat_map-append}
use Rattle.std.proofs.Math.Bool.{or-false, and-true, and-false}
use Rattle.sim_base.specs.declared.config.Config.{Config}
use Rattle.sim_base.specs.MachineStep.{MachineStep, step_of_core, step_of_channel}
use Rattle.sim_base.specs.History.{below, steps_of_core, steps_of_channel, issued_at, issued_commands, commands_in, commands, core_messages, messages, messages_of_core, is_to, is_before, by_age, insert_by_age, inbox}
use Rattle.sim_base.specs.Sends.{core_sends, sends}
use Rattle.sim_base.specs.Access.{is_access}
use Rattle.sim_base.specs.Scheduling.{request_in, serves, is_served, is_queued, queued_requests, queue_in, writes_in, drains_with, drains_before, drains, candidates, lowest_due, choice_between, choice}
use Rattle.sim_base.specs.Machine.{next_core_step, next_command, next_step, run, is_delivered}
use Rattle.sim_base.specs.Counts.{is_in_flight, in_flight}
use Rattle.sim_base.specs.declared.command.Command.{Command}
use Rattle.sim_base.specs.declared.command.IssuedCommand.{IssuedCommand}
use Rattle.sim_base.specs.declared.history.CoreStep.{CoreStep}
use Rattle.sim_base.specs.declared.message.Access.TheVariants as access
use Rattle.sim_base.specs.declared.message.Message.{Message}
use Rattle.sim_base.specs.declared.message.Request.{Request}
use Rattle.sim_base.specs.declared.message.Unit.{Unit as MachineUnit}
use Rattle.sim_base.specs.declared.message.Unit.TheVariants.{Core, Channel}
use Rattle.sim_base.specs.declared.trace.Entry.{Entry}
use Rattle.one_clock.specs.Pasts.{no_core_past, no_channel_past}
use Rattle.one_clock.specs.Steps.{core_step_of}
use Rattle.sim_base.proofs.Arrived.{put, puts, by_age-puts, fold-puts}
use Rattle.sim_base.proofs.Ordered.{filter-puts, filter-by_age}
use Rattle.sim_base.proofs.Grows.{core-grows, inbox-grows, by_age-filter-grows, has_channels}
use Rattle.sim_base.proofs.Same.{drains-same}
use Rattle.sim_base.proofs.Spans.{length_run, inbox-sorted, step_of_core-next, step_of_channel-next, inbox-run, inbox-stamped}
use Rattle.sim_base.proofs.Lists.{enumerate-append, filter-both, not-or, cons_option-none}
use Rattle.plain_steps.specs.declared.scheduling.ChannelStep.{ChannelStep}
use Rattle.one_clock.proofs.Units.{filter_map_below_more}
use Rattle.plain_steps.specs.Plain.{CoreView, core_view, ChannelView, channel_view, channel_step_of, queue_of, is_request_left, is_left, is_passed_over, is_left_by, is_late}
use Rattle.laws.proofs.Sent.{messages-none}
use Rattle.statistics.proofs.ChannelCounts.{issued_commands-push, drains_before-push}
use Rattle.statistics.proofs.Replies.{length-steps_of_channel, length-steps_of_core, steps_of_core-push}
use Rattle.statistics.proofs.RunSteps.{travels}

pub commands-push : (history : List MachineStep) (row : MachineStep) → commands (history ++ row ∷ []) ≡ commands history ++ commands_in (length history) row
unfolding commands
commands-push history row =
    let f = λ (e : ℕ × MachineStep). commands_in e.0 e.1 in
    ap (flat_map f) (enumerate-append 0 history (row ∷ []))
    ∙ flat_map-append f (enumerate_from 0 history) (enumerate_from (0 + length history) (row ∷ []))
    ∙ ap (λ l. flat_map f (enumerate_from 0 history) ++ l) (append-nil (commands_in (0 + length history) row) ∙ ap (λ n. commands_in n row) (zero-add (length history)))

-- requests that are left

served-push : (h : List IssuedCommand) (i : IssuedCommand) (r : Request) → is_served (h ++ i ∷ []) r ≡ (is_served h r || serves r i.command)
unfolding is_served
served-push h i r =
    let p = λ (i : IssuedCommand). serves r i.command in
    list_any-append p h (i ∷ []) ∙ ap (λ b. list_any p h || b) (or-false (serves r i.command))

request_left-push : (h : List IssuedCommand) (k n : ℕ) (c : Command) (o : Option Request)
    → is_request_left (h ++ (record { cycle = n; channel = k; command = c }) ∷ []) o ≡ (is_request_left h o && is_passed_over (Some c) o)
request_left-push h k n c None = refl
request_left-push h k n c (Some r) = ap not (served-push h (record { cycle = n; channel = k; command = c }) r) ∙ not-or (is_served h r) (serves r c)

left-push : (h : List IssuedCommand) (k n : ℕ) (o : Option Command) (m : Message)
    → is_left (h ++ option_to_list (issued_at k n o)) m ≡ (is_left h m && is_left_by o m)
left-push h k n None m = ap (λ x. is_left x m) (append-nil h) ∙ sym (and-true (is_left h m))
left-push h k n (Some c) m = request_left-push h k n c (request_in m.payload)

pub left_after : (h : List IssuedCommand) (k n : ℕ) (o : Option Command) (mail : List Message)
    → filter (is_left (h ++ option_to_list (issued_at k n o))) mail ≡ filter (is_left_by o) (filter (is_left h) mail)
left_after h k n o mail = filter-both (is_left_by o) (is_left h) (is_left (h ++ option_to_list (issued_at k n o))) (left-push h k n o) mail

one_waiting : (h : List IssuedCommand) (until : ℕ) (rs ts : List Request) → filter (is_queued h until) rs ≡ filter (λ r. ltb r.arrival until) ts → (o : Option Request)
    → filter (is_queued h until) (cons_option o rs) ≡ filter (λ r. ltb r.arrival until) (cond (is_request_left h o) (cons_option o ts) ts)
one_waiting h until rs ts e None = e
one_waiting h until rs ts e (Some r) =
    let late = λ (r : Request). ltb r.arrival until in
    let a = late r in
    cond_both (not (is_served h r)) (r ∷ ts) ts (λ y. cond (a && not (is_served h r)) (r ∷ filter (is_queued h until) rs) (filter (is_queued h until) rs) ≡ filter late y)
    (λ f. ap (λ b. cond (a && b) (r ∷ filter (is_queued h until) rs) (filter (is_queued h until) rs)) f
    ∙ ap (λ b. cond b (r ∷ filter (is_queued h until) rs) (filter (is_queued h until) rs)) (and-true a)
    ∙ ap (λ l. cond a (r ∷ l) l) e)
    (λ f. ap (λ b. cond (a && b) (r ∷ filter (is_queued h until) rs) (filter (is_queued h until) rs)) f
    ∙ ap (λ b. cond b (r ∷ filter (is_queued h until) rs) (filter (is_queued h until) rs)) (and-false a)
    ∙ e)

requests-cond : (b : Bool) (m : Message) (ms : List Message)
    → filter_map (λ m. request_in m.payload) (cond b (m ∷ ms) ms) ≡ cond b (cons_option (request_in m.payload) (filter_map (λ m. request_in m.payload) ms)) (filter_map (λ m. request_in m.payload) ms)
requests-cond true m ms = refl
requests-cond false m ms = refl

queued_requests-left : (h : List IssuedCommand) (until : ℕ) (mail : List Message)
    → filter (is_queued h until) (filter_map (λ m. request_in m.payload) mail) ≡ filter (λ r. ltb r.arrival until) (filter_map (λ m. request_in m.payload) (filter (is_left h) mail))
queued_requests-left h until [] = refl
queued_requests-left h until (m ∷ ms) =
    one_waiting h until (filter_map (λ m. request_in m.payload) ms) (filter_map (λ m. request_in m.payload) (filter (is_left h) ms)) (queued_requests-left h until ms) (request_in m.payload)
    ∙ ap (filter (λ r. ltb r.arrival until)) (sym (requests-cond (is_left h m) m (filter (is_left h) ms)))

pub waiting_is : (h : List IssuedCommand) (mail : List Message) (until : ℕ) → queued_requests h mail until ≡ queue_of (filter (is_left h) mail) until
unfolding queued_requests queue_of
waiting_is h mail until = queued_requests-left h until mail

-- the queue of the next cycle
pub queue_is : (k : ℕ) (past_steps : List (Option Command)) (mail : List Message) → queue_in k past_steps mail (length past_steps) ≡ queue_of (filter (is_left (issued_commands k past_steps)) mail) (length past_steps + 1)
unfolding queue_in
queue_is k past_steps mail = ap (λ x. queued_requests (issued_commands k x) mail (length past_steps + 1)) (take-length past_steps) ∙ waiting_is (issued_commands k past_steps) mail (length past_steps + 1)

drains_next : (s : Config) (k : ℕ) (past_steps : List (Option Command)) (mail : List Message)
    → drains s k past_steps mail (length past_steps) ≡ drains_with s (drains_before s k past_steps mail (length past_steps)) (count_by (λ r. is_access access.Write r.access) (queue_of (filter (is_left (issued_commands k past_steps)) mail) (length past_steps + 1)))
unfolding drains_before writes_in
drains_next s k past_steps mail =
    ap (λ n. drains_before s k past_steps mail n) (add-one (length past_steps))
    ∙ ap (λ q. drains_with s (drains_before s k past_steps mail (length past_steps)) (count_by (λ r. is_access access.Write r.access) q)) (queue_is k past_steps mail)

choice_next : (s : Config) (k : ℕ) (past_steps : List (Option Command)) (mail : List Message)
    → choice s k past_steps mail
    ≡ choice_between s (issued_commands k past_steps) (length past_steps)
    (candidates s (drains s k past_steps mail (length past_steps)) (queue_of (filter (is_left (issued_commands k past_steps)) mail) (length past_steps + 1)))
    (lowest_due s (issued_commands k past_steps) (length past_steps))
unfolding choice
choice_next s k past_steps mail =
    ap (λ q. choice_between s (issued_commands k past_steps) (length past_steps) (candidates s (drains s k past_steps mail (length past_steps)) q) (lowest_due s (issued_commands k past_steps) (length past_steps))) (queue_is k past_steps mail)

-- what a channel does next follows from what is kept of it
pub step_draining : (s : Config) (traces : List (List Entry)) (history : List MachineStep) (k : ℕ)
    → (channel_step_of s traces history k).draining
    ≡ drains_with s (channel_view s traces history k).draining (count_by (λ r. is_access access.Write r.access) (queue_of (channel_view s traces history k).pending (length history + 1)))
step_draining s traces history k =
    let past_steps = steps_of_channel k history in
    let mail = inbox s traces history (Channel k) in
    subst (λ n. drains s k past_steps mail n ≡ drains_with s (drains_before s k past_steps mail n) (count_by (λ r. is_access access.Write r.access) (queue_of (filter (is_left (issued_commands k past_steps)) mail) (n + 1))))
    (length-steps_of_channel k history) (drains_next s k past_steps mail)

pub step_command : (s : Config) (traces : List (List Entry)) (history : List MachineStep) (k : ℕ)
    → (channel_step_of s traces history k).command
    ≡ choice_between s (channel_view s traces history k).commands (length history)
    (candidates s (channel_step_of s traces history k).draining (queue_of (channel_view s traces history k).pending (length history + 1)))
    (lowest_due s (channel_view s traces history k).commands (length history))
unfolding next_command
step_command s traces history k =
    let past_steps = steps_of_channel k history in
    let mail = inbox s traces history (Channel k) in
    subst (λ n. choice s k past_steps mail
    ≡ choice_between s (issued_commands k past_steps) n (candidates s (drains s k past_steps mail n) (queue_of (filter (is_left (issued_commands k past_steps)) mail) (n + 1))) (lowest_due s (issued_commands k past_steps) n))
    (length-steps_of_channel k history) (choice_next s k past_steps mail)

steps_of_channel-next : (s : Config) (traces : List (List Entry)) (n k : ℕ) → k < s.channels
    → steps_of_channel k (run s traces (n + 1)) ≡ steps_of_channel k (run s traces n) ++ next_command s traces (run s traces n) k ∷ []
unfolding run steps_of_channel next_command
steps_of_channel-next s traces n k l =
    let history = run s traces n in
    ap (λ i. map (step_of_channel k) (run s traces i)) (add-one n)
    ∙ map-append (step_of_channel k) history (next_step s traces history ∷ [])
    ∙ ap (λ o. map (step_of_channel k) history ++ o ∷ []) (step_of_channel-next s traces history k l)

run_next : (s : Config) (traces : List (List Entry)) (n : ℕ) → run s traces (n + 1) ≡ run s traces n ++ next_step s traces (run s traces n) ∷ []
unfolding run
run_next s traces n = ap (λ i. run s traces i) (add-one n)

draining_next : (s : Config) (traces : List (List Entry)) (n k : ℕ) → k < s.channels
    → drains_before s k (steps_of_channel k (run s traces (n + 1))) (inbox s traces (run s traces (n + 1)) (Channel k)) (n + 1)
    ≡ drains s k (steps_of_channel k (run s traces n)) (inbox s traces (run s traces n) (Channel k)) n
draining_next s traces n k l =
    let past_steps = steps_of_channel k (run s traces n) in
    let e : length past_steps ≡ n = length-steps_of_channel k (run s traces n) ∙ length_run s traces n in
    let now = inbox s traces (run s traces n) (Channel k) in
    let then = inbox s traces (run s traces (n + 1)) (Channel k) in
    ap (λ x. drains_before s k x then (n + 1)) (steps_of_channel-next s traces n k l)
    ∙ drains_before-push s k past_steps (next_command s traces (run s traces n) k) then (n + 1) (omega arith)
    ∙ drains-same s k past_steps then now (n + 1)
    (record {
      one = inbox-stamped s traces (run s traces (n + 1)) (Channel k);
      other = inbox-stamped s traces (run s traces n) (Channel k);
      same = λ u h. inbox-run s traces n 1 (Channel k) u (has_channels s) (travels s) h 1;
    })

view_same : (a b : ChannelView) → a.commands ≡ b.commands → a.pending ≡ b.pending → a.draining ≡ b.draining → a ≡ b
view_same a b e f g =
    let view : List IssuedCommand → List Message → Bool → ChannelView = λ x y z. record { commands = x; pending = y; draining = z } in
    ap (λ x. view x a.pending a.draining) e ∙ ap (λ y. view b.commands y a.draining) f ∙ ap (λ z. view b.commands b.pending z) g

core_view_same : (a b : CoreView) → a.past_steps ≡ b.past_steps → a.sent ≡ b.sent → a.inbox ≡ b.inbox → a ≡ b
core_view_same a b e f g =
    let view : List CoreStep → List Message → List Message → CoreView = λ x y z. record { past_steps = x; sent = y; inbox = z } in
    ap (λ x. view x a.sent a.inbox) e ∙ ap (λ y. view b.past_steps y a.inbox) f ∙ ap (λ z. view b.past_steps b.sent z) g

pub core_step_is : (s : Config) (traces : List (List Entry)) (history : List MachineStep) (c : ℕ) → c < s.cores → step_of_core c (next_step s traces history) ≡ next_core_step s traces history c
unfolding next_core_step
core_step_is s traces history c l = step_of_core-next s traces history c l

pub channel_step_is : (s : Config) (traces : List (List Entry)) (history : List MachineStep) (k : ℕ) → k < s.channels → step_of_channel k (next_step s traces history) ≡ (channel_step_of s traces history k).command
unfolding next_command
channel_step_is s traces history k l = step_of_channel-next s traces history k l

pub length_steps : (s : Config) (traces : List (List Entry)) (n c : ℕ) (view : CoreView) → view ≡ core_view s traces (run s traces n) c → length view.past_steps ≡ n
length_steps s traces n c view e = ap (λ v. length v.past_steps) e ∙ length-steps_of_core c (run s traces n) ∙ length_run s traces n

-- the channel's part of the run, one cycle more
pub channel_view_next : (s : Config) (traces : List (List Entry)) (n k : ℕ) → k < s.channels
    → channel_view s traces (run s traces (n + 1)) k
    ≡ (let view = channel_view s traces (run s traces n) k in
    let step = channel_step_of s traces (run s traces n) k in
    let issued = view.commands ++ option_to_list (issued_at k n step.command) in
    record {
      commands = issued;
      pending = fold insert_by_age (filter (is_left_by step.command) view.pending) (filter (is_left issued) (filter (is_to s (Channel k)) (sends s traces (run s traces n) (next_step s traces (run s traces n)))));
      draining = step.draining;
    })
channel_view_next s traces n k l =
    let history = run s traces n in
    let past_steps = steps_of_channel k history in
    let o = next_command s traces history k in
    let mail = inbox s traces history (Channel k) in
    let fresh = filter (is_to s (Channel k)) (sends s traces history (next_step s traces history)) in
    let e : length past_steps ≡ n = length-steps_of_channel k history ∙ length_run s traces n in
    let h = issued_commands k past_steps in
    let issued = h ++ option_to_list (issued_at k n o) in
    let commands_are : issued_commands k (steps_of_channel k (run s traces (n + 1))) ≡ issued =
    ap (issued_commands k) (steps_of_channel-next s traces n k l) ∙ issued_commands-push k past_steps o ∙ ap (λ l. h ++ l) (cons_option-none (issued_at k (length past_steps) o)) ∙ ap (λ i. h ++ option_to_list (issued_at k i o)) e in
    let mail_is : inbox s traces (run s traces (n + 1)) (Channel k) ≡ fold insert_by_age mail fresh =
    ap (λ x. inbox s traces x (Channel k)) (run_next s traces n) ∙ inbox-grows s traces history (next_step s traces history) (Channel k) in
    let pending_is : filter (is_left (issued_commands k (steps_of_channel k (run s traces (n + 1))))) (inbox s traces (run s traces (n + 1)) (Channel k))
    ≡ fold insert_by_age (filter (is_left_by o) (filter (is_left h) mail)) (filter (is_left issued) fresh) =
    ap₂ (λ a b. filter (is_left a) b) commands_are (mail_is ∙ fold-puts mail fresh)
    ∙ filter-puts (is_left issued) mail fresh (inbox-sorted s traces history (Channel k))
    ∙ ap (λ x. puts x (filter (is_left issued) fresh)) (left_after h k n o mail)
    ∙ sym (fold-puts _ (filter (is_left issued) fresh)) in
    let f : length (run s traces (n + 1)) ≡ n + 1 = length_run s traces (n + 1) in
    let g : length history ≡ n = length_run s traces n in
    view_same _ _ commands_are pending_is
    (ap (λ i. drains_before s k (steps_of_channel k (run s traces (n + 1))) (inbox s traces (run s traces (n + 1)) (Channel k)) i) f
    ∙ draining_next s traces n k l
    ∙ ap (λ i. drains s k past_steps mail i) (sym g))

-- the core's part of the run, one cycle more
pub core_view_next : (s : Config) (traces : List (List Entry)) (n c : ℕ) → c < s.cores
    → core_view s traces (run s traces (n + 1)) c
    ≡ (let view = core_view s traces (run s traces n) c in
    let row = next_core_step s traces (run s traces n) c in
    record {
      past_steps = view.past_steps ++ row ∷ [];
      sent = view.sent ++ core_sends s traces (run s traces n) (next_step s traces (run s traces n)) c;
      inbox = fold insert_by_age view.inbox (filter (is_to s (Core c)) (sends s traces (run s traces n) (next_step s traces (run s traces n))));
    })
core_view_next s traces n c l =
    let history = run s traces n in
    let row = next_step s traces history in
    core_view_same _ _
    (ap (steps_of_core c) (run_next s traces n) ∙ steps_of_core-push c history row ∙ ap (λ r. steps_of_core c history ++ r ∷ []) (core_step_is s traces history c l))
    (ap (λ x. messages_of_core s traces x c) (run_next s traces n) ∙ core-grows s traces history row c)
    (ap (λ x. inbox s traces x (Core c)) (run_next s traces n) ∙ inbox-grows s traces history row (Core c))

late_twice : (now : ℕ) (m : Message) → is_late (now + 1) m ≡ (is_late now m && is_late (now + 1) m)
late_twice now m = grind (arith, nat_tests)

-- the messages in flight, one cycle more
pub flight_next : (s : Config) (traces : List (List Entry)) (n : ℕ)
    → in_flight s traces (run s traces (n + 1))
    ≡ fold insert_by_age (filter (is_late (n + 1)) (in_flight s traces (run s traces n))) (filter (is_late (n + 1)) (sends s traces (run s traces n) (next_step s traces (run s traces n))))
unfolding in_flight
flight_next s traces n =
    let history = run s traces n in
    let row = next_step s traces history in
    let fresh = filter (is_late (n + 1)) (sends s traces history row) in
    ap (λ i. by_age (filter (is_late i) (messages s traces (run s traces (n + 1))))) (length_run s traces (n + 1))
    ∙ ap (λ x. by_age (filter (is_late (n + 1)) (messages s traces x))) (run_next s traces n)
    ∙ by_age-filter-grows s traces history row (is_late (n + 1))
    ∙ ap (λ x. fold insert_by_age (by_age x) fresh)
    (filter-both (is_late (n + 1)) (is_late n) (is_late (n + 1)) (late_twice n) (messages s traces history))
    ∙ ap (λ x. fold insert_by_age x fresh)
    (sym (filter-by_age (is_late (n + 1)) (filter (is_late n) (messages s traces history)))
    ∙ ap (λ i. filter (is_late (n + 1)) (by_age (filter (is_late i) (messages s traces history)))) (sym (length_run s traces n)))

step_same : (a b : ChannelStep) → a.command ≡ b.command → a.draining ≡ b.draining → a ≡ b
step_same a b e f =
    let make : Option Command → Bool → ChannelStep = λ x y. record { command = x; draining = y } in
    ap (λ x. make x a.draining) e ∙ ap (λ y. make b.command y) f

-- what a channel does next is known by its two parts
pub step_is : (s : Config) (traces : List (List Entry)) (n k : ℕ) (view : ChannelView) (step : ChannelStep)
    → view ≡ channel_view s traces (run s traces n) k
    → step.draining ≡ drains_with s view.draining (count_by (λ r. is_access access.Write r.access) (queue_of view.pending (n + 1)))
    → step.command ≡ choice_between s view.commands n (candidates s step.draining (queue_of view.pending (n + 1))) (lowest_due s view.commands n)
    → step ≡ channel_step_of s traces (run s traces n) k
step_is s traces n k view step e f g =
    let history = run s traces n in
    let kept = channel_view s traces history k in
    let d : step.draining ≡ (channel_step_of s traces history k).draining =
    f
    ∙ ap (λ (v : ChannelView). drains_with s v.draining (count_by (λ r. is_access access.Write r.access) (queue_of v.pending (n + 1)))) e
    ∙ ap (λ i. drains_with s kept.draining (count_by (λ r. is_access access.Write r.access) (queue_of kept.pending (i + 1)))) (sym (length_run s traces n))
    ∙ sym (step_draining s traces history k) in
    step_same step (channel_step_of s traces history k)
    (g
    ∙ ap (λ (v : ChannelView). choice_between s v.commands n (candidates s step.draining (queue_of v.pending (n + 1))) (lowest_due s v.commands n)) e
    ∙ ap (λ b. choice_between s kept.commands n (candidates s b (queue_of kept.pending (n + 1))) (lowest_due s kept.commands n)) d
    ∙ ap (λ i. choice_between s kept.commands i (candidates s (channel_step_of s traces history k).draining (queue_of kept.pending (i + 1))) (lowest_due s kept.commands i)) (sym (length_run s traces n))
    ∙ sym (step_command s traces history k))
    d

-- the commands of the first channels in a cycle
abbrev pub issued_below : Config → List (List Entry) → ℕ → ℕ → List IssuedCommand
issued_below s traces n k = filter_map (λ i. issued_at i n (channel_step_of s traces (run s traces n) i).command) (below k)

pub issued_more : (s : Config) (traces : List (List Entry)) (n k : ℕ)
    → commands (run s traces n) ++ issued_below s traces n (k + 1)
    ≡ (commands (run s traces n) ++ issued_below s traces n k) ++ option_to_list (issued_at k n (channel_step_of s traces (run s traces n) k).command)
issued_more s traces n k =
    ap (λ l. commands (run s traces n) ++ l) (filter_map_below_more (λ i. issued_at i n (channel_step_of s traces (run s traces n) i).command) k)
    ∙ sym (append_assoc (commands (run s traces n)) _ _)

numbered : {X Y : Type 0} (f : ℕ → X → Option Y) (g : ℕ → X) (a m : ℕ)
    → filter_map (λ (e : ℕ × X). f e.0 e.1) (enumerate_from a (map g (range_with_len a m))) ≡ filter_map (λ i. f i (g i)) (range_with_len a m)
numbered f g a zero = refl
numbered f g a (suc m) = ap (λ l. cons_option (f a (g a)) l) (numbered f g (a + 1) m)

pub issued_all : (s : Config) (traces : List (List Entry)) (n : ℕ)
    → commands (run s traces n) ++ issued_below s traces n s.channels ≡ commands (run s traces (n + 1))
unfolding next_step
issued_all s traces n =
    let history = run s traces n in
    ap (λ l. commands history ++ l) (sym (numbered (λ i o. issued_at i n o) (next_command s traces history) 0 s.channels))
    ∙ ap (λ i. commands history ++ filter_map (λ (e : ℕ × Option Command). issued_at e.0 i e.1) (enumerate_from 0 (map (next_command s traces history) (below s.channels)))) (sym (length_run s traces n))
    ∙ sym (commands-push history (next_step s traces history))
    ∙ ap commands (sym (run_next s traces n))

-- before the first cycle nothing is kept

no_core_messages : (s : Config) (traces : List (List Entry)) (c : ℕ) → messages_of_core s traces [] c ≡ []
unfolding messages_of_core steps_of_core core_messages
no_core_messages s traces c = refl

pub no_mail : (s : Config) (traces : List (List Entry)) (unit : MachineUnit) → inbox s traces [] unit ≡ []
unfolding inbox by_age
no_mail s traces unit = ap (λ ms. by_age (filter (is_to s unit) ms)) (messages-none s traces)

pub run_none : (s : Config) (traces : List (List Entry)) → run s traces 0 ≡ []
unfolding run
run_none s traces = refl

pub core_view_none : (s : Config) (traces : List (List Entry)) (n c : ℕ) → n ≡ 0 → no_core_past ≡ core_view s traces (run s traces n) c
unfolding steps_of_core
core_view_none s traces n c e =
    sym (ap (λ i. core_view s traces (run s traces i) c) e
    ∙ ap (λ h. core_view s traces h c) (run_none s traces)
    ∙ core_view_same (core_view s traces [] c) no_core_past refl (no_core_messages s traces c) (no_mail s traces (Core c)))

pub channel_view_none : (s : Config) (traces : List (List Entry)) (n k : ℕ) → n ≡ 0 → no_channel_past ≡ channel_view s traces (run s traces n) k
unfolding steps_of_channel issued_commands drains_before
channel_view_none s traces n k e =
    sym (ap (λ i. channel_view s traces (run s traces i) k) e
    ∙ ap (λ h. channel_view s traces h k) (run_none s traces)
    ∙ view_same (channel_view s traces [] k) no_channel_past refl (ap (filter (is_left [])) (no_mail s traces (Channel k))) refl)

pub commands_none : (s : Config) (traces : List (List Entry)) (n : ℕ) → n ≡ 0 → commands (run s traces n) ≡ []
unfolding commands
commands_none s traces n e = ap (λ i. commands (run s traces i)) e ∙ ap commands (run_none s traces)

pub flight_none : (s : Config) (traces : List (List Entry)) (n : ℕ) → n ≡ 0 → in_flight s traces (run s traces n) ≡ []
unfolding in_flight by_age
flight_none s traces n e =
    ap (λ i. in_flight s traces (run s traces i)) e
    ∙ ap (in_flight s traces) (run_none s traces)
    ∙ ap (λ ms. by_age (filter (is_in_flight []) ms)) (messages-none s traces)

-- nothing is in flight exactly where each message has arrived

length-put : (m : Message) (ns : List Message) → length (put m ns) ≡ suc (length ns)
length-put m [] = refl
length-put m (n ∷ ns) = cond_both (is_before m n) _ _ (λ x. length x ≡ suc (length (n ∷ ns))) (λ e. refl) (λ e. ap suc (length-put m ns))

length-puts : (acc ms : List Message) → length (puts acc ms) ≡ length acc + length ms
length-puts acc [] = sym (add-zero (length acc))
length-puts acc (m ∷ ms) =
    let e : length (puts acc (m ∷ ms)) ≡ length (put m acc) + length ms = length-puts (put m acc) ms in
    let f : length (put m acc) ≡ suc (length acc) = length-put m acc in
    omega arith

length-by_age : (ms : List Message) → length (by_age ms) ≡ length ms
length-by_age ms = ap length (by_age-puts ms) ∙ length-puts [] ms ∙ zero-add (length ms)

none-late : (p : Message → Bool) (ms : List Message) → list_all p ms ≡ eqb (length (filter (λ m. not (p m)) ms)) 0
none-late p [] = refl
none-late p (m ∷ ms) =
    cond_both (not (p m)) (m ∷ filter (λ m. not (p m)) ms) (filter (λ m. not (p m)) ms) (λ x. (p m && list_all p ms) ≡ eqb (length x) 0)
    (λ e. ap (λ b. b && list_all p ms) (not_true (p m) e) ∙ sym (suc_not_zero (length (filter (λ m. not (p m)) ms))))
    (λ e. ap (λ b. b && list_all p ms) (not_false (p m) e) ∙ none-late p ms)
  where
    not_true : (b : Bool) → not b ≡ true → b ≡ false
    not_true true e = sym e
    not_true false e = refl

    not_false : (b : Bool) → not b ≡ false → b ≡ true
    not_false true e = refl
    not_false false e = sym e

    suc_not_zero : (n : ℕ) → eqb (suc n) 0 ≡ false
    suc_not_zero n = grind (arith, nat_tests)

pub delivered_is : (s : Config) (traces : List (List Entry)) (history : List MachineStep) → is_delivered s traces history ≡ eqb (length (in_flight s traces history)) 0
unfolding is_delivered in_flight
delivered_is s traces history =
    none-late (λ m. ltb m.arrival (length history)) (messages s traces history)
    ∙ ap (λ n. eqb n 0) (sym (length-by_age (filter (is_in_flight history) (messages s traces history))))

-- what a core does, without why it stops
pub step_alone : (s : Config) (traces : List (List Entry)) (n core : ℕ) → (core_step_of s traces (run s traces n) core).0 ≡ next_core_step s traces (run s traces n) core
unfolding core_step_of next_core_step
step_alone s traces n core = refl
