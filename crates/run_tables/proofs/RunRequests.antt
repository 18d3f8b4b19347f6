-- The requests of a run are in their ranges and in order.
use Rattle.std.proofs.Common.{◌≡◌, ◌+◌, ◌*◌, ◌<◌, ◌≤◌, ◌^◌, ◌&&◌, ◌==◌, ◌∙◌, ℕ, zero, suc, true, IsTrue, nat_lt, ltb, List, [], ◌∷◌, ◌++◌, length, get_or, take, All, Option, Some, None, refl, sym, ap, subst, arith, add-zero, inl, inr}
use Rattle.std.specs.Prelude.{filter_map}
use Rattle.std.specs.Option.{IfSome}
use Rattle.std.specs.List.{AllByRecursion as Each, AllPairs, cons_option}
use Rattle.std.proofs.lemmas.Bool.{cases_Bool, cond_both, and_parts, eqb-true, ltb-true}
use Rattle.std.proofs.lemmas.List.Elements.{All-contains, All-from_recursion, recursion_from_All}
use Rattle.std.proofs.lemmas.List.Kept.{AllPairs-cons}
use Rattle.sim_base.specs.declared.config.Config.{Config}
use Rattle.sim_base.specs.Counts.{source_in}
use Rattle.sim_base.specs.MachineStep.{MachineStep}
use Rattle.sim_base.specs.History.{commands, inbox, issued_commands, stands_before}
use Rattle.sim_base.specs.Machine.{next_step, run}
use Rattle.sim_base.specs.Scheduling.{request_in, source_of, is_queued, queue_in, queued_requests}
use Rattle.sim_base.specs.declared.command.Command.{Command}
use Rattle.sim_base.specs.declared.command.Command.TheVariants.{Act, Rd, Wr, Pre, Prea, Ref}
use Rattle.sim_base.specs.declared.command.IssuedCommand.{IssuedCommand}
use Rattle.sim_base.specs.declared.command.Source.{Source}
use Rattle.sim_base.specs.declared.message.Message.{Message}
use Rattle.sim_base.specs.declared.message.Request.{Request}
use Rattle.sim_base.specs.declared.message.Unit.TheVariants.{Channel}
use Rattle.sim_base.specs.declared.trace.Entry.{Entry}
use Rattle.sim_base.proofs.Each.{Each-append, Each-filter_map}
use Rattle.sim_base.proofs.Ordered.{Each-weaker}
use Rattle.sim_base.proofs.Spans.{length_run}
use Rattle.laws.specs.Commands.{channel_steps_of}
use Rattle.laws.proofs.Legal.{channel_steps_of-at}
use Rattle.laws.proofs.Named.{commands_name_the_queue}
use Rattle.laws.proofs.Receivers.{Each-filter_passes}
use Rattle.laws.proofs.Tabled.{rows_from, commands-more, tables_are_ordered, AreChosen, next-chosen}
use Rattle.request_table.specs.Requests.{arrival_of, reply_cycle, replied_in, request_for, request_by, requests_of}
use Rattle.sim_base.specs.declared.message.Access.{Access}
use Rattle.sim_base.specs.declared.message.Access.TheVariants.{Read, Write}
use Rattle.laws.proofs.Dated.{requests_arrive_as_issued}
use Rattle.run_tables.specs.TableLaws.Written.{SourceIsOf, CommandIsOf, RowIsOf}
use Rattle.run_tables.proofs.TableLaws.InRange.{commands_are_in_range}
use Rattle.run_tables.specs.Requests.{IsReplyTo, RequestFits, turn, IsInOrder}
use Rattle.std.proofs.lemmas.Option.{IfSome_then}

-- ---- each row of the table of commands is what its channel does in its cycle

record IsDone (s : Config) (traces : List (List Entry)) (n : ℕ) (i : IssuedCommand) : Type 0 where
  channel : i.channel < s.channels
  cycle : i.cycle < n
  command : get_or (channel_steps_of s traces n i.channel) i.cycle None ≡ Some i.command

rows-done : (s : Config) (traces : List (List Entry)) (n cycle : ℕ) → cycle < n → (i : ℕ) (os : List (Option Command)) → AreChosen s traces cycle i os → Each (IsDone s traces n) (rows_from cycle i os)
unfolding rows_from
rows-done s traces n cycle h i [] at = tt
rows-done s traces n cycle h i (None ∷ os) at = rows-done s traces n cycle h (i + 1) os (λ j k l e. at (suc j) k (omega arith) (omega arith))
rows-done s traces n cycle h i (Some c ∷ os) at =
    let here = at 0 i (omega arith) (add-zero i) in (
      record { channel = here.0; cycle = h; command = channel_steps_of-at s traces i here.0 n cycle h ∙ sym here.1 },
      rows-done s traces n cycle h (i + 1) os (λ j k l e. at (suc j) k (omega arith) (omega arith)),
    )

commands-done : (s : Config) (traces : List (List Entry)) (n m : ℕ) → m ≤ n → Each (IsDone s traces n) (commands (run s traces m))
unfolding run commands
commands-done s traces n zero h = tt
commands-done s traces n (suc m) h =
    let history = run s traces m in
    let machine_step = next_step s traces history in
    subst (Each (IsDone s traces n)) (sym (commands-more history machine_step ∙ ap (λ i. commands history ++ rows_from i 0 machine_step.commands) (length_run s traces m)))
    (Each-append (IsDone s traces n) (commands history) (rows_from m 0 machine_step.commands) (commands-done s traces n m (omega arith))
    (rows-done s traces n m (omega arith) 0 machine_step.commands (next-chosen s traces m)))

-- ---- a request is served when it has arrived

queue-arrived : (s : Config) (traces : List (List Entry)) (n k cycle : ℕ) → k < s.channels
    → Each (λ r. arrival_of s (run s traces n) k (source_of r) ≤ cycle) (queue_in k (channel_steps_of s traces n k) (inbox s traces (run s traces n) (Channel k)) cycle)
unfolding queue_in queued_requests
queue-arrived s traces n k cycle l =
    let history = run s traces n in
    let P = λ (r : Request). r.arrival ≡ arrival_of s history k (source_of r) in
    let done = issued_commands k (take cycle (channel_steps_of s traces n k)) in
    let mail = inbox s traces history (Channel k) in
    Each-weaker _ (λ r. arrival_of s history k (source_of r) ≤ cycle)
    (λ r h.
    let soon : r.arrival < cycle + 1 = ltb-true _ _ ((and_parts (ltb r.arrival (cycle + 1)) _ h.0).0) in
    let same : r.arrival ≡ arrival_of s history k (source_of r) = h.1 in
    omega (arith, soon, same))
    _ (Each-filter_passes P (is_queued done (cycle + 1)) _
    (Each-filter_map P (λ m. request_in m.payload) mail
    (recursion_from_All (λ (m : Message). IfSome (request_in m.payload) P) mail (requests_arrive_as_issued s traces n k l))))

-- the entry in whose name a command is issued has its request there by then
abbrev HasArrived : Config → List MachineStep → IssuedCommand → Command → Type 0
HasArrived s history i command = IfSome (source_in command) (λ source. arrival_of s history i.channel source ≤ i.cycle)

command-arrived : (s : Config) (traces : List (List Entry)) (n : ℕ) (i : IssuedCommand) → IsDone s traces n i → HasArrived s (run s traces n) i i.command
command-arrived s traces n i h =
    let history = run s traces n in
    let queue = queue_in i.channel (channel_steps_of s traces n i.channel) (inbox s traces history (Channel i.channel)) i.cycle in
    let there = λ (r : Request). arrival_of s history i.channel (source_of r) ≤ i.cycle in
    let all : All there queue = All-from_recursion there queue (queue-arrived s traces n i.channel i.cycle h.channel) in
    IfSome_then (source_in i.command) (commands_name_the_queue s traces n i.channel i.cycle i.command h.channel h.cycle h.command)
    (λ source named. subst (λ x. arrival_of s history i.channel x ≤ i.cycle) (sym named.2) (All-contains there queue named.0 all named.1))

-- ---- each request is in its ranges

reply-fits : (s : Config) (cycles core channel served : ℕ) → cycles ≤ 2 ^ 62 → (access : Access) → IsReplyTo access served (replied_in s cycles access core channel served)
reply-fits s cycles core channel served few Write = tt
reply-fits s cycles core channel served few Read =
    let replied = reply_cycle s core channel served in
    cond_both (ltb replied cycles) (Some replied) None (IsReplyTo Read served)
    (λ e. let within = ltb-true replied cycles e in (omega arith, omega (arith, within, few)))
    (λ e. tt)

served-fits : (s : Config) (history : List MachineStep) (access : Access) (i : IssuedCommand) (source : Source) → length history ≤ 2 ^ 62 → i.cycle < 2 ^ 62 → i.channel < s.channels
    → SourceIsOf s source → arrival_of s history i.channel source ≤ i.cycle → RequestFits (request_for s history access i source)
served-fits s history access i source few soon inside of arrived =
    let cores = s.machine_in_range.cores_in.1 in
    let channels = s.machine_in_range.channels_in.0.1 in
    let core = of.core in
    record {
      core_in_range = omega (arith, core, cores);
      entry_in_range = of.entry;
      channel_in_range = omega (arith, inside, channels);
      served_in_range = soon;
      issued_first = omega arith;
      arrived_before = arrived;
      reply = reply-fits s (length history) source.core i.channel i.cycle few access;
    }

by-fits : (s : Config) (history : List MachineStep) (i : IssuedCommand) (command : Command) → length history ≤ 2 ^ 62 → i.cycle < 2 ^ 62 → i.channel < s.channels
    → CommandIsOf s command → HasArrived s history i command → IfSome (request_by s history i command) RequestFits
by-fits s history i (Rd bank row column source) few soon inside of arrived = served-fits s history Read i source few soon inside of.3 arrived
by-fits s history i (Wr bank row column source) few soon inside of arrived = served-fits s history Write i source few soon inside of.3 arrived
by-fits s history i (Act bank row source) few soon inside of arrived = tt
by-fits s history i (Pre bank source) few soon inside of arrived = tt
by-fits s history i (Prea rank) few soon inside of arrived = tt
by-fits s history i (Ref rank) few soon inside of arrived = tt

pub requests-fit : (s : Config) (traces : List (List Entry)) (n : ℕ) → n ≤ 2 ^ 62 → All (λ (t : List Entry). length t ≤ 2 ^ 62) traces → All RequestFits (requests_of s (run s traces n))
unfolding requests_of
requests-fit s traces n few short =
    let history = run s traces n in
    let rows = commands history in
    let long = length_run s traces n in
    let in_range : All (RowIsOf s) rows = commands_are_in_range s traces n few short in
    let done : All (IsDone s traces n) rows = All-from_recursion (IsDone s traces n) rows (commands-done s traces n n (omega arith)) in
    All-from_recursion RequestFits (requests_of s history)
    (Each-filter_map RequestFits (λ i. request_by s history i i.command) rows
    (recursion_from_All (λ (i : IssuedCommand). IfSome (request_by s history i i.command) RequestFits) rows
    (λ k d l.
    let i = get_or rows k d in
    let row : RowIsOf s i = in_range k d l in
    by-fits s history i i.command (omega (arith, long, few)) row.cycle row.channel row.command (command-arrived s traces n i (done k d l)))))

-- ---- and they are in the order of their commands

-- where a command stands among the others
abbrev place : IssuedCommand → ℕ
place i = 16 * i.cycle + i.channel

by-turn : (s : Config) (history : List MachineStep) (i : IssuedCommand) (command : Command) → IfSome (request_by s history i command) (λ row. turn row ≡ place i)
by-turn s history i (Rd bank row column source) = refl
by-turn s history i (Wr bank row column source) = refl
by-turn s history i (Act bank row source) = tt
by-turn s history i (Pre bank source) = tt
by-turn s history i (Prea rank) = tt
by-turn s history i (Ref rank) = tt

place-before : (s : Config) (a b : IssuedCommand) → a.channel < s.channels → IsTrue (stands_before a b) → place a < place b
place-before s a b inside h =
    let channels = s.machine_in_range.channels_in.0.1 in
    elim (cases_Bool (nat_lt a.cycle b.cycle)) [
      | inl less ↦ let l = ltb-true a.cycle b.cycle less in omega (arith, inside, channels)
      | inr more ↦
          let both : ((a.cycle == b.cycle) && nat_lt a.channel b.channel) ≡ true = rw more at h in
          let parts = and_parts (a.cycle == b.cycle) _ both in
          let same = eqb-true a.cycle b.cycle parts.0 in
          let lower = ltb-true a.channel b.channel parts.1 in
          omega (arith, same, lower)
    ]

-- what is made of some elements of a list stands in their order
made-ascend : {X Y : Type 0} (f : X → Option Y) (p : X → ℕ) (q : Y → ℕ) → ((x : X) → IfSome (f x) (λ y. q y ≡ p x)) → (xs : List X) → AllPairs (λ a b. p a < p b) xs → AllPairs (λ a b. q a < q b) (filter_map f xs)
made-ascend f p q e [] h = λ i j d a b. absurd (omega arith)
made-ascend {Y = Y} f p q e (x ∷ xs) h = first (f x) (e x) (made-ascend f p q e xs (λ i j d a b. h (suc i) (suc j) d (omega arith) (omega arith)))
  where
    first : (o : Option Y) → IfSome o (λ y. q y ≡ p x) → AllPairs (λ a b. q a < q b) (filter_map f xs) → AllPairs (λ a b. q a < q b) (cons_option o (filter_map f xs))
    first None g rest = rest
    first (Some y) g rest =
        AllPairs-cons (λ a b. q a < q b) y (filter_map f xs)
        (All-from_recursion (λ z. q y < q z) (filter_map f xs)
        (Each-filter_map (λ z. q y < q z) f xs
        (recursion_from_All (λ z. IfSome (f z) (λ w. q y < q w)) xs
        (λ k d l.
        let later : p x < p (get_or xs k d) = h 0 (suc k) d (omega arith) (omega arith) in
        IfSome_then (f (get_or xs k d)) (e (get_or xs k d)) (λ w same. omega (arith, g, same, later))))))
        rest

pub requests-ordered : (s : Config) (traces : List (List Entry)) (n : ℕ) → IsInOrder (requests_of s (run s traces n))
unfolding requests_of
requests-ordered s traces n =
    let history = run s traces n in
    let rows = commands history in
    let done : All (IsDone s traces n) rows = All-from_recursion (IsDone s traces n) rows (commands-done s traces n n (omega arith)) in
    made-ascend (λ i. request_by s history i i.command) place turn (λ i. by-turn s history i i.command) rows
    (λ i j d a b.
    let first : IsDone s traces n (get_or rows i d) = done i d (omega arith) in
    place-before s (get_or rows i d) (get_or rows j d) first.channel (tables_are_ordered s traces n i j d a b))
