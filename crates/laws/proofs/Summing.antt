-- The rows of a channel are the requests that it served.
use Rattle.std.proofs.Common.{◌≡◌, ℕ, ◌+◌, ◌<◌, Bool, true, false, cond, eqb, List, [], ◌∷◌, map, Option, Some, None, refl, sym, ap, ap₂, ◌∙◌}
use Rattle.std.specs.Prelude.{count_by, filter, filter_map}
use Rattle.std.specs.Option.{IfSome}
use Rattle.std.specs.List.{cons_option, enumerate_from}
use Rattle.std.proofs.lemmas.Bool.{cond-true, cond-false}
use Rattle.sim_base.specs.declared.message.Access.TheVariants as access
use Rattle.sim_base.specs.Access.{is_access}
use Rattle.sim_base.specs.declared.config.Config.{Config}
use Rattle.sim_base.specs.History.{issued_at, issued_commands, commands, commands_on}
use Rattle.sim_base.specs.Machine.{run}
use Rattle.sim_base.specs.declared.command.Command.{Command}
use Rattle.sim_base.specs.declared.command.Command.TheVariants.{Act, Rd, Wr, Pre, Prea, Ref}
use Rattle.sim_base.specs.declared.command.IssuedCommand.{IssuedCommand}
use Rattle.sim_base.specs.declared.command.Source.{Source}
use Rattle.sim_base.specs.declared.trace.Entry.{Entry}
use Rattle.sim_base.proofs.Spans.{length_run}
use Rattle.sim_base.proofs.Lists.{count-cons}
use Rattle.statistics.specs.Channels.{channel_stats}
use Rattle.statistics.specs.Runs.{stats_of_channel}
use Rattle.laws.specs.Commands.{history_of, channel_steps_of}
use Rattle.laws.proofs.Tabled.{commands_on-commands}
use Rattle.request_table.specs.Served.{served_by, served_in, served_requests}
use Rattle.request_table.specs.declared.served_requests.ServedRequest.{ServedRequest}
use Rattle.request_table.specs.Requests.{arrival_of}
use Rattle.request_table.specs.Tables.{times_of}
use Rattle.request_table.specs.declared.times.RequestTimes.{RequestTimes}
use Rattle.laws.specs.Timed.{served_in_run}
use Rattle.laws.specs.Totals.{rows_of_channel, ChannelAddsUp}
use Rattle.laws.proofs.Adding.{are_counted}
use Rattle.laws.proofs.Serving.{are_timed}

-- commands of one channel
pub of-channel : (g : ℕ → IssuedCommand → Option ServedRequest) (channel cycle : ℕ) (steps : List (Option Command))
    → filter_map (λ i. g i.channel i) (filter_map (λ (e : ℕ × Option Command). issued_at channel e.0 e.1) (enumerate_from cycle steps))
    ≡ filter_map (g channel) (filter_map (λ (e : ℕ × Option Command). issued_at channel e.0 e.1) (enumerate_from cycle steps))
of-channel g channel cycle [] = refl
of-channel g channel cycle (None ∷ steps) = of-channel g channel (cycle + 1) steps
of-channel g channel cycle (Some c ∷ steps) = ap (cons_option (g channel (record { cycle = cycle; channel = channel; command = c }))) (of-channel g channel (cycle + 1) steps)

-- what a channel serves
pub own-serving : (s : Config) (traces : List (List Entry)) (now channel : ℕ) → filter_map (served_in_run s (run s traces now)) (history_of s traces now channel)
    ≡ served_requests (arrival_of s (run s traces now) channel) (history_of s traces now channel)
unfolding served_requests issued_commands
own-serving s traces now channel =
    let history = run s traces now in
    of-channel (λ k i. served_in (arrival_of s history k) (history_of s traces now k) i) channel 0 (channel_steps_of s traces now channel)

-- a request is served by the channel of its command
on-channel : (arrivals : Source → ℕ) (hit : Bool) (channel cycle : ℕ) (command : Command) → IfSome (served_by arrivals hit channel cycle command) (λ r. r.channel ≡ channel)
on-channel arrivals hit channel cycle (Rd bank row column source) = refl
on-channel arrivals hit channel cycle (Wr bank row column source) = refl
on-channel arrivals hit channel cycle (Act bank row source) = tt
on-channel arrivals hit channel cycle (Pre bank source) = tt
on-channel arrivals hit channel cycle (Prea rank) = tt
on-channel arrivals hit channel cycle (Ref rank) = tt

kept-cons : (k : ℕ) (o : Option ServedRequest) (ys : List ServedRequest) (b : Bool) (channel : ℕ) → IfSome o (λ r. r.channel ≡ channel) → eqb channel k ≡ b
    → filter (λ (r : ServedRequest). eqb r.channel k) (cons_option o ys) ≡ cond b (cons_option o (filter (λ (r : ServedRequest). eqb r.channel k) ys)) (filter (λ (r : ServedRequest). eqb r.channel k) ys)
kept-cons k None ys true channel h e = refl
kept-cons k None ys false channel h e = refl
kept-cons k (Some r) ys true channel h e = cond-true _ _ _ (ap (λ n. eqb n k) h ∙ e)
kept-cons k (Some r) ys false channel h e = cond-false _ _ _ (ap (λ n. eqb n k) h ∙ e)

served-on : (f : IssuedCommand → Option ServedRequest) → ((i : IssuedCommand) → IfSome (f i) (λ r. r.channel ≡ i.channel)) → (k : ℕ) (xs : List IssuedCommand)
    → filter (λ (r : ServedRequest). eqb r.channel k) (filter_map f xs) ≡ filter_map f (commands_on k xs)
served-on f h k [] = refl
served-on f h k (x ∷ xs) = by (eqb x.channel k) refl (served-on f h k xs)
  where
    by : (b : Bool) → eqb x.channel k ≡ b → filter (λ (r : ServedRequest). eqb r.channel k) (filter_map f xs) ≡ filter_map f (commands_on k xs)
        → filter (λ (r : ServedRequest). eqb r.channel k) (filter_map f (x ∷ xs)) ≡ filter_map f (commands_on k (x ∷ xs))
    by true e g = kept-cons k (f x) (filter_map f xs) true x.channel (h x) e ∙ ap (cons_option (f x)) g ∙ ap (filter_map f) (sym (cond-true _ _ _ e))
    by false e g = kept-cons k (f x) (filter_map f xs) false x.channel (h x) e ∙ g ∙ ap (filter_map f) (sym (cond-false _ _ _ e))

-- times keep whose a request is
filter-times : (s : Config) (n k : ℕ) (ys : List ServedRequest) → filter (λ (r : RequestTimes). eqb r.channel k) (map (times_of s n) ys) ≡ map (times_of s n) (filter (λ (r : ServedRequest). eqb r.channel k) ys)
filter-times s n k [] = refl
filter-times s n k (y ∷ ys) = by (eqb y.channel k) (filter-times s n k ys)
  where
    by : (b : Bool) → filter (λ (r : RequestTimes). eqb r.channel k) (map (times_of s n) ys) ≡ map (times_of s n) (filter (λ (r : ServedRequest). eqb r.channel k) ys)
        → cond b (times_of s n y ∷ filter (λ (r : RequestTimes). eqb r.channel k) (map (times_of s n) ys)) (filter (λ (r : RequestTimes). eqb r.channel k) (map (times_of s n) ys))
        ≡ map (times_of s n) (cond b (y ∷ filter (λ (r : ServedRequest). eqb r.channel k) ys) (filter (λ (r : ServedRequest). eqb r.channel k) ys))
    by true h = ap (λ z. times_of s n y ∷ z) h
    by false h = h

-- the rows of a channel are what it served
pub rows-served : (s : Config) (traces : List (List Entry)) (now channel : ℕ) → channel < s.channels → rows_of_channel s (run s traces now) channel
    ≡ map (times_of s now) (served_requests (arrival_of s (run s traces now) channel) (history_of s traces now channel))
rows-served s traces now channel l =
    let history = run s traces now in
    let f = served_in_run s history in
    let C = commands history in
    ap (filter (λ (r : RequestTimes). eqb r.channel channel)) (are_timed s history ∙ ap (λ n. map (times_of s n) (filter_map f C)) (length_run s traces now))
    ∙ filter-times s now channel (filter_map f C)
    ∙ ap (map (times_of s now))
    (served-on f (λ i. on-channel _ _ i.channel i.cycle i.command) channel C
    ∙ ap (filter_map f) (commands_on-commands s traces channel l now)
    ∙ own-serving s traces now channel)

count-mapped : {X Y : Type 0} (g : X → Y) (p : Y → Bool) (q : X → Bool) → ((x : X) → p (g x) ≡ q x) → (xs : List X) → count_by p (map g xs) ≡ count_by q xs
count-mapped g p q h [] = refl
count-mapped g p q h (x ∷ xs) = count-cons p (g x) (map g xs) ∙ ap₂ (λ b n. cond b 1 0 + n) (h x) (count-mapped g p q h xs) ∙ sym (count-cons q x xs)

pub channel_adds_up : (s : Config) (traces : List (List Entry)) (n channel : ℕ) → channel < s.channels → ChannelAddsUp s traces n channel
unfolding stats_of_channel channel_stats
channel_adds_up s traces n channel l =
    let rows = rows-served s traces n channel l in
    let served = served_requests (arrival_of s (run s traces n) channel) (history_of s traces n channel) in
    let counted = are_counted (arrival_of s (run s traces n) channel) (history_of s traces n channel) in
    record {
      reads = ap (count_by (λ (r : RequestTimes). is_access access.Read r.access)) rows
          ∙ count-mapped (times_of s n) (λ (r : RequestTimes). is_access access.Read r.access) (λ (r : ServedRequest). is_access access.Read r.access) (λ r. refl) served ∙ counted.reads;
      writes = ap (count_by (λ (r : RequestTimes). is_access access.Write r.access)) rows
          ∙ count-mapped (times_of s n) (λ (r : RequestTimes). is_access access.Write r.access) (λ (r : ServedRequest). is_access access.Write r.access) (λ r. refl) served ∙ counted.writes;
      hits = ap (count_by (λ (r : RequestTimes). r.hit)) rows ∙ count-mapped (times_of s n) (λ (r : RequestTimes). r.hit) (λ (r : ServedRequest). r.hit) (λ r. refl) served ∙ counted.hits;
    }
