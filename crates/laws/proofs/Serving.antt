-- What channels keep of a request tells when it was where, and stands by cycle.
use Rattle.std.proofs.Common.{◌≡◌, ℕ, suc, ◌+◌, ◌-◌, ◌<◌, Bool, List, [], ◌∷◌, ◌++◌, length, map, Option, Some, None, refl, sym, ap, ap₂, subst, ◌∙◌, arith}
use Rattle.std.specs.Prelude.{filter_map, flat_map, option_map}
use Rattle.std.specs.Option.{IfSome}
use Rattle.std.specs.List.{AllByRecursion as Each, cons_option, enumerate_from}
use Rattle.std.proofs.lemmas.List.Elements.{filter_map-append}
use Rattle.sim_base.specs.declared.message.Access.{Access}
use Rattle.sim_base.specs.declared.message.Access.TheVariants as access
use Rattle.sim_base.specs.declared.config.Config.{Config}
use Rattle.sim_base.specs.Config.{request_link, latency}
use Rattle.sim_base.specs.Counts.{is_hit, issue_cycle}
use Rattle.sim_base.specs.MachineStep.{MachineStep}
use Rattle.sim_base.specs.History.{steps_of_core, steps_of_channel, issued_at, issued_commands, commands_in, commands}
use Rattle.sim_base.specs.declared.command.Command.{Command}
use Rattle.sim_base.specs.declared.command.Command.TheVariants.{Act, Rd, Wr, Pre, Prea, Ref}
use Rattle.sim_base.specs.declared.command.IssuedCommand.{IssuedCommand}
use Rattle.sim_base.specs.declared.command.Source.{Source}
use Rattle.sim_base.proofs.Each.{Each-cons_option}
use Rattle.request_table.specs.Served.{served_of, served_by, served_in, served_requests}
use Rattle.request_table.specs.declared.served_requests.ServedRequest.{ServedRequest}
use Rattle.request_table.specs.Requests.{arrival_of, replied_in, request_for, request_by, requests_of}
use Rattle.request_table.specs.Tables.{AreServedBetween, times_of}
use Rattle.request_table.specs.declared.times.RequestTimes.{RequestTimes}
use Rattle.request_table.proofs.Cutting.{served-earlier}
use Rattle.laws.specs.Timed.{served_in_run, AreTimed}

-- a request was issued as long before it came to its channel as it travelled
as_served : (s : Config) (history : List MachineStep) (access : Access) (i : IssuedCommand) (source : Source) → request_for s history access i source
    ≡ times_of s (length history) (served_of (arrival_of s history i.channel) (is_hit (issued_commands i.channel (steps_of_channel i.channel history)) i.command) i.channel i.cycle access source)
as_served s history access i source =
    let issued = issue_cycle (steps_of_core source.core history) source.entry in
    let travels = latency s (request_link s source.core i.channel) in
    let back : issued ≡ issued + travels - travels = omega arith in
    ap {B = RequestTimes} (λ n. record {
      core = source.core;
      entry = source.entry;
      access = access;
      channel = i.channel;
      issued = n;
      arrived = issued + travels;
      served = i.cycle;
      replied = replied_in s (length history) access source.core i.channel i.cycle;
      hit = is_hit (issued_commands i.channel (steps_of_channel i.channel history)) i.command;
    }) back

by_served : (s : Config) (history : List MachineStep) (i : IssuedCommand) (command : Command) → request_by s history i command
    ≡ option_map (times_of s (length history)) (served_by (arrival_of s history i.channel) (is_hit (issued_commands i.channel (steps_of_channel i.channel history)) i.command) i.channel i.cycle command)
by_served s history i (Rd bank row column source) = ap Some (as_served s history access.Read i source)
by_served s history i (Wr bank row column source) = ap Some (as_served s history access.Write i source)
by_served s history i (Act bank row source) = refl
by_served s history i (Pre bank source) = refl
by_served s history i (Prea rank) = refl
by_served s history i (Ref rank) = refl

cons-mapped : {Y Z : Type 0} (g : Y → Z) (o : Option Y) (ys : List Y) → cons_option (option_map g o) (map g ys) ≡ map g (cons_option o ys)
cons-mapped g None ys = refl
cons-mapped g (Some y) ys = refl

filter_map-mapped : {X Y Z : Type 0} (f : X → Option Y) (g : Y → Z) (h : X → Option Z) → ((x : X) → h x ≡ option_map g (f x)) → (xs : List X) → filter_map h xs ≡ map g (filter_map f xs)
filter_map-mapped f g h e [] = refl
filter_map-mapped f g h e (x ∷ xs) = ap₂ (λ o ys. cons_option o ys) (e x) (filter_map-mapped f g h e xs) ∙ cons-mapped g (f x) (filter_map f xs)

pub are_timed : (s : Config) (history : List MachineStep) → AreTimed s history
unfolding requests_of
are_timed s history =
    filter_map-mapped (served_in_run s history) (times_of s (length history)) (λ i. request_by s history i i.command) (λ i. by_served s history i i.command) (commands history)

-- a request is served in the cycle of its command
abbrev pub KeepsCycles : (IssuedCommand → Option ServedRequest) → Type 0
KeepsCycles f = (i : IssuedCommand) → IfSome (f i) (λ r. r.served ≡ i.cycle)

pub served-then : (arrivals : Source → ℕ) (hit : Bool) (channel cycle : ℕ) (command : Command) → IfSome (served_by arrivals hit channel cycle command) (λ r. r.served ≡ cycle)
served-then arrivals hit channel cycle (Rd bank row column source) = refl
served-then arrivals hit channel cycle (Wr bank row column source) = refl
served-then arrivals hit channel cycle (Act bank row source) = tt
served-then arrivals hit channel cycle (Pre bank source) = tt
served-then arrivals hit channel cycle (Prea rank) = tt
served-then arrivals hit channel cycle (Ref rank) = tt

pub run-keeps : (s : Config) (history : List MachineStep) → KeepsCycles (served_in_run s history)
run-keeps s history i = served-then _ _ i.channel i.cycle i.command

-- of the commands of one cycle
in_cycle : (f : IssuedCommand → Option ServedRequest) → KeepsCycles f → (cycle k : ℕ) (os : List (Option Command))
    → Each (λ r. r.served ≡ cycle) (filter_map f (filter_map (λ (e : ℕ × Option Command). issued_at e.0 cycle e.1) (enumerate_from k os)))
in_cycle f h cycle k [] = tt
in_cycle f h cycle k (None ∷ os) = in_cycle f h cycle (k + 1) os
in_cycle f h cycle k (Some c ∷ os) =
    Each-cons_option (λ r. r.served ≡ cycle) (f (record { cycle = cycle; channel = k; command = c })) _ (h (record { cycle = cycle; channel = k; command = c })) (in_cycle f h cycle (k + 1) os)

then-later : (cycle until : ℕ) (xs ys : List ServedRequest) → Each (λ r. r.served ≡ cycle) xs → cycle < until → AreServedBetween (cycle + 1) until ys → AreServedBetween cycle until (xs ++ ys)
then-later cycle until [] ys h l k = served-earlier (cycle + 1) cycle until (omega arith) ys k
then-later cycle until (x ∷ xs) ys h l k =
    (omega (arith, h.0), omega (arith, h.0, l), subst (λ n. AreServedBetween n until (xs ++ ys)) (sym h.0) (then-later cycle until xs ys h.1 l k))

served-from : (f : IssuedCommand → Option ServedRequest) → KeepsCycles f → (cycle : ℕ) (history : List MachineStep)
    → AreServedBetween cycle (cycle + length history) (filter_map f (flat_map (λ (e : ℕ × MachineStep). commands_in e.0 e.1) (enumerate_from cycle history)))
served-from f h cycle [] = tt
served-from f h cycle (machine_step ∷ history) =
    let rest = flat_map (λ (e : ℕ × MachineStep). commands_in e.0 e.1) (enumerate_from (cycle + 1) history) in
    let until : cycle + 1 + length history ≡ cycle + suc (length history) = omega arith in
    subst (AreServedBetween cycle (cycle + suc (length history))) (sym (filter_map-append f (commands_in cycle machine_step) rest))
    (then-later cycle (cycle + suc (length history)) (filter_map f (commands_in cycle machine_step)) (filter_map f rest) (in_cycle f h cycle 0 machine_step.commands) (omega arith)
    (subst (λ n. AreServedBetween (cycle + 1) n (filter_map f rest)) until (served-from f h (cycle + 1) history)))

-- the requests that a run served stand by cycle
pub are_by_cycle : (s : Config) (history : List MachineStep) → AreServedBetween 0 (length history) (filter_map (served_in_run s history) (commands history))
unfolding commands
are_by_cycle s history =
    let all : 0 + length history ≡ length history = omega arith in
    subst (λ n. AreServedBetween 0 n (filter_map (served_in_run s history) (commands history))) all (served-from (served_in_run s history) (run-keeps s history) 0 history)

cons-served : (cycle until : ℕ) (o : Option ServedRequest) (ys : List ServedRequest) → IfSome o (λ r. r.served ≡ cycle) → cycle < until → AreServedBetween (cycle + 1) until ys → AreServedBetween cycle until (cons_option o ys)
cons-served cycle until None ys h l k = served-earlier (cycle + 1) cycle until (omega arith) ys k
cons-served cycle until (Some r) ys h l k = then-later cycle until (r ∷ []) ys (h, tt) l k

-- what the commands of a channel serve, from a cycle on
abbrev after : (IssuedCommand → Option ServedRequest) → ℕ → ℕ → List (Option Command) → List ServedRequest
after f channel cycle steps = filter_map f (filter_map (λ (e : ℕ × Option Command). issued_at channel e.0 e.1) (enumerate_from cycle steps))

channel-from : (f : IssuedCommand → Option ServedRequest) → KeepsCycles f → (channel cycle : ℕ) (steps : List (Option Command)) → AreServedBetween cycle (cycle + length steps) (after f channel cycle steps)
channel-from f h channel cycle [] = tt
channel-from f h channel cycle (None ∷ steps) =
    let until : cycle + 1 + length steps ≡ cycle + suc (length steps) = omega arith in
    let rest = after f channel (cycle + 1) steps in
    served-earlier (cycle + 1) cycle (cycle + suc (length steps)) (omega arith) rest (subst (λ n. AreServedBetween (cycle + 1) n rest) until (channel-from f h channel (cycle + 1) steps))
channel-from f h channel cycle (Some c ∷ steps) =
    let until : cycle + 1 + length steps ≡ cycle + suc (length steps) = omega arith in
    let rest = after f channel (cycle + 1) steps in
    let i : IssuedCommand = record { cycle = cycle; channel = channel; command = c } in
    cons-served cycle (cycle + suc (length steps)) (f i) rest (h i) (omega arith) (subst (λ n. AreServedBetween (cycle + 1) n rest) until (channel-from f h channel (cycle + 1) steps))

-- so do those that a channel served
pub channel_by_cycle : (arrivals : Source → ℕ) (channel : ℕ) (steps : List (Option Command)) → AreServedBetween 0 (length steps) (served_requests arrivals (issued_commands channel steps))
unfolding served_requests issued_commands
channel_by_cycle arrivals channel steps =
    let all : 0 + length steps ≡ length steps = omega arith in
    subst (λ n. AreServedBetween 0 n (served_requests arrivals (issued_commands channel steps))) all
    (channel-from (served_in arrivals (issued_commands channel steps)) (λ i. served-then arrivals _ i.channel i.cycle i.command) channel 0 steps)
