-- The counts of a channel: what one cycle more adds to each, that only the messages that arrived by then change them, and
-- that each fits the bits of its number.
use Rattle.std.proofs.Common.{◌≡◌, ℕ, zero, suc, ◌+◌, ◌≤◌, Bool, true, false, cond, eqb, ltb, ◌||◌, List, [], ◌∷◌, ◌++◌, length, map, Option, Some, None, refl, sym, ap, ap₂, ◌∙◌, add-zero, zero-add, arith, ◌*◌, ◌^◌, ◌<◌}
use Rattle.std.specs.Prelude.{count_by, sum, fold, max, filter_map, not, is_some}
use Rattle.std.specs.List.{AllByRecursion as Each, cons_option, enumerate_from, list_any}
use Rattle.std.proofs.lemmas.Bool.{or_parts, cond_both}
use Rattle.std.proofs.lemmas.Bool.Decides.{nat_tests}
use Rattle.std.proofs.lemmas.List.{append-nil, length-map}
use Rattle.std.proofs.lemmas.List.Elements.{filter_map-append}
use Rattle.std.proofs.lemmas.List.Folds.{list_any-append}
use Rattle.std.proofs.lemmas.List.Sums.{sum_by-cons, sum_by_push, fold_push, count_by-le-length}
use Rattle.std.proofs.Math.Bool.{or-false}
use Rattle.sim_base.proofs.Each.{Each-all, Each-append}
use Rattle.sim_base.specs.declared.config.Config.{Config}
use Rattle.sim_base.specs.Counts.{is_act_for, is_hit_of, is_hit, hits, issued_of_kind, queue_length, queue_lengths, queued, queued_max, idle, has_refresh_due, refreshing, draining, one_if}
use Rattle.sim_base.specs.History.{below, issued_at, issued_commands, issued_now}
use Rattle.sim_base.specs.Rules.{is_kind, kind_of}
use Rattle.sim_base.specs.Scheduling.{queued_requests, queue_in, writes_in, drains_with, drains_before, drains, lowest_due, is_entry, is_column_command_of}
use Rattle.sim_base.specs.declared.command.Kind.{Kind}
use Rattle.sim_base.specs.declared.command.Command.{Command}
use Rattle.sim_base.specs.declared.command.Command.TheVariants.{Act, Rd, Wr, Pre, Prea, Ref}
use Rattle.sim_base.specs.declared.command.IssuedCommand.{IssuedCommand}
use Rattle.sim_base.specs.declared.command.Source.{Source}
use Rattle.sim_base.specs.declared.message.Message.{Message}
use Rattle.sim_base.specs.declared.place.BankId.{BankId}
use Rattle.sim_base.specs.Access.{is_access}
use Rattle.sim_base.proofs.Added.{length-push_suc}
use Rattle.statistics.specs.Counts.{sum_of_counts}
use Rattle.statistics.specs.Channels.{draining_of, channel_stats, issues, issues_hit, channel_cycle_with, channel_cycle, channel_joined, is_late_act, ChannelFits, channel_none, channel_counters, channel_numbers, channel_of}
use Rattle.statistics.proofs.Lists.{take-push, map_below_more, map_below_same, count_below_more, count_below_same, sum_push}
use Rattle.sim_base.proofs.Arrived.{NotBefore, NotBefore-weaker}
use Rattle.sim_base.proofs.Same.{Stamped, AgreeUpTo, sooner, queue-same, drains-same}
use Rattle.sim_base.proofs.Kept.{arrived-added}
use Rattle.std.specs.Option.{IfSome}
use Rattle.std.proofs.lemmas.List.FromFn.{length-range_with_len, length-enumerate_from}
use Rattle.std.proofs.lemmas.Nat.{mul-le}
use Rattle.sim_base.specs.declared.command.Kind.TheVariants as kind
use Rattle.sim_base.specs.declared.message.Access.TheVariants as access
use Rattle.statistics.specs.Counters.{AreNumbersOf}
use Rattle.statistics.specs.declared.channels.ChannelStats.{ChannelStats}
use Rattle.statistics.proofs.NumbersOf.{numbers-are}

enumerate_from-push : {X : Type 0} (n : ℕ) (xs : List X) (x : X) → enumerate_from n (xs ++ x ∷ []) ≡ enumerate_from n xs ++ (n + length xs, x) ∷ []
enumerate_from-push n [] x = ap (λ k. (k, x) ∷ []) (sym (add-zero n))
enumerate_from-push n (y ∷ ys) x =
    let e : n + 1 + length ys ≡ n + suc (length ys) = omega arith in
    ap (λ l. (n, y) ∷ l) (enumerate_from-push (n + 1) ys x ∙ ap (λ k. enumerate_from (n + 1) ys ++ (k, x) ∷ []) e)

pub issued_commands-push : (channel : ℕ) (steps : List (Option Command)) (o : Option Command)
    → issued_commands channel (steps ++ o ∷ []) ≡ issued_commands channel steps ++ issued_now channel (length steps) o
unfolding issued_commands
issued_commands-push channel steps o =
    let at = λ (e : ℕ × Option Command). issued_at channel e.0 e.1 in
    ap (filter_map at) (enumerate_from-push 0 steps o)
    ∙ filter_map-append at (enumerate_from 0 steps) ((0 + length steps, o) ∷ [])
    ∙ ap (λ n. filter_map at (enumerate_from 0 steps) ++ issued_now channel n o) (zero-add (length steps))

pub issued_of_kind-push : (kind : Kind) (channel : ℕ) (steps : List (Option Command)) (o : Option Command)
    → issued_of_kind kind (issued_commands channel (steps ++ o ∷ [])) ≡ issued_of_kind kind (issued_commands channel steps) + one_if (issues kind o)
unfolding issued_of_kind
issued_of_kind-push kind channel steps o =
    let p = λ (i : IssuedCommand). is_kind (kind_of i.command) kind in
    ap (count_by p) (issued_commands-push channel steps o) ∙ by o
  where
    by : (o : Option Command) → count_by (λ (i : IssuedCommand). is_kind (kind_of i.command) kind) (issued_commands channel steps ++ issued_now channel (length steps) o)
        ≡ count_by (λ (i : IssuedCommand). is_kind (kind_of i.command) kind) (issued_commands channel steps) + one_if (issues kind o)
    by None = ap (count_by (λ (i : IssuedCommand). is_kind (kind_of i.command) kind)) (append-nil (issued_commands channel steps)) ∙ sym (add-zero _)
    by (Some command) = sum_by_push (λ (i : IssuedCommand). one_if (is_kind (kind_of i.command) kind)) (issued_commands channel steps) _

pub queue_in-push : (channel : ℕ) (steps : List (Option Command)) (o : Option Command) (inbox : List Message) (cycle : ℕ) → cycle ≤ length steps
    → queue_in channel (steps ++ o ∷ []) inbox cycle ≡ queue_in channel steps inbox cycle
unfolding queue_in
queue_in-push channel steps o inbox cycle l = ap (λ x. queued_requests (issued_commands channel x) inbox (cycle + 1)) (take-push steps o cycle l)

queue_length-push : (channel : ℕ) (steps : List (Option Command)) (o : Option Command) (inbox : List Message) (cycle : ℕ) → cycle ≤ length steps
    → queue_length channel (steps ++ o ∷ []) inbox cycle ≡ queue_length channel steps inbox cycle
unfolding queue_length
queue_length-push channel steps o inbox cycle l = ap length (queue_in-push channel steps o inbox cycle l)

pub queue_lengths-push : (channel : ℕ) (steps : List (Option Command)) (o : Option Command) (inbox : List Message)
    → queue_lengths channel (steps ++ o ∷ []) inbox ≡ queue_lengths channel steps inbox ++ queue_length channel steps inbox (length steps) ∷ []
unfolding queue_lengths
queue_lengths-push channel steps o inbox =
    let after = queue_length channel (steps ++ o ∷ []) inbox in
    ap (λ n. map after (below n)) (length-push_suc steps o)
    ∙ map_below_more after (length steps)
    ∙ ap₂ (λ xs x. xs ++ x ∷ [])
    (map_below_same after (queue_length channel steps inbox) (length steps) (λ k l. queue_length-push channel steps o inbox k (omega arith)))
    (queue_length-push channel steps o inbox (length steps) (omega arith))

pub queued-push : (channel : ℕ) (steps : List (Option Command)) (o : Option Command) (inbox : List Message)
    → queued channel (steps ++ o ∷ []) inbox ≡ queued channel steps inbox + queue_length channel steps inbox (length steps)
unfolding queued
queued-push channel steps o inbox = ap sum (queue_lengths-push channel steps o inbox) ∙ sum_push (queue_lengths channel steps inbox) _

pub queued_max-push : (channel : ℕ) (steps : List (Option Command)) (o : Option Command) (inbox : List Message)
    → queued_max channel (steps ++ o ∷ []) inbox ≡ max (queued_max channel steps inbox) (queue_length channel steps inbox (length steps))
unfolding queued_max
queued_max-push channel steps o inbox = ap (fold max 0) (queue_lengths-push channel steps o inbox) ∙ fold_push max 0 (queue_lengths channel steps inbox) _

pub idle-push : (channel : ℕ) (steps : List (Option Command)) (o : Option Command) (inbox : List Message)
    → idle channel (steps ++ o ∷ []) inbox ≡ idle channel steps inbox + one_if (eqb (queue_length channel steps inbox (length steps)) 0)
unfolding idle
idle-push channel steps o inbox =
    ap (count_by (λ n. eqb n 0)) (queue_lengths-push channel steps o inbox) ∙ sum_by_push (λ n. one_if (eqb n 0)) (queue_lengths channel steps inbox) _

has_refresh_due-push : (s : Config) (channel : ℕ) (steps : List (Option Command)) (o : Option Command) (cycle : ℕ) → cycle ≤ length steps
    → has_refresh_due s channel (steps ++ o ∷ []) cycle ≡ has_refresh_due s channel steps cycle
unfolding has_refresh_due
has_refresh_due-push s channel steps o cycle l = ap (λ x. is_some (lowest_due s (issued_commands channel x) cycle)) (take-push steps o cycle l)

pub refreshing-push : (s : Config) (channel : ℕ) (steps : List (Option Command)) (o : Option Command)
    → refreshing s channel (steps ++ o ∷ []) ≡ refreshing s channel steps + one_if (has_refresh_due s channel steps (length steps))
unfolding refreshing
refreshing-push s channel steps o =
    let after = has_refresh_due s channel (steps ++ o ∷ []) in
    ap (λ n. count_by after (below n)) (length-push_suc steps o)
    ∙ count_below_more after (length steps)
    ∙ ap₂ (λ a b. a + one_if b)
    (count_below_same after (has_refresh_due s channel steps) (length steps) (λ k l. has_refresh_due-push s channel steps o k (omega arith)))
    (has_refresh_due-push s channel steps o (length steps) (omega arith))

pub drains_before-push : (s : Config) (channel : ℕ) (steps : List (Option Command)) (o : Option Command) (inbox : List Message) (n : ℕ) → n ≤ suc (length steps)
    → drains_before s channel (steps ++ o ∷ []) inbox n ≡ drains_before s channel steps inbox n
unfolding drains_before writes_in
drains_before-push s channel steps o inbox zero l = refl
drains_before-push s channel steps o inbox (suc n) l =
    ap₂ (λ d q. drains_with s d (count_by (λ r. is_access access.Write r.access) q))
    (drains_before-push s channel steps o inbox n (omega arith))
    (queue_in-push channel steps o inbox n (omega arith))

pub draining-push : (s : Config) (channel : ℕ) (steps : List (Option Command)) (o : Option Command) (inbox : List Message)
    → draining s channel (steps ++ o ∷ []) inbox ≡ draining s channel steps inbox + one_if (drains s channel steps inbox (length steps))
unfolding draining
draining-push s channel steps o inbox =
    let after = drains s channel (steps ++ o ∷ []) inbox in
    ap (λ n. count_by after (below n)) (length-push_suc steps o)
    ∙ count_below_more after (length steps)
    ∙ ap₂ (λ a b. a + one_if b)
    (count_below_same after (drains s channel steps inbox) (length steps) (λ k l. drains_before-push s channel steps o inbox (k + 1) (omega arith)))
    (drains_before-push s channel steps o inbox (length steps + 1) (omega arith))

-- a command is an ACT for the entry of another, a column command
abbrev pub opens_for : Command → Command → Bool
opens_for command (Rd bank row column source) = is_act_for source command
opens_for command (Wr bank row column source) = is_act_for source command
opens_for command (Act bank row source) = false
opens_for command (Pre bank source) = false
opens_for command (Prea rank) = false
opens_for command (Ref rank) = false

pub no_act_added : (history : List IssuedCommand) (i : IssuedCommand) (source : Source) → is_act_for source i.command ≡ false
    → is_hit_of (history ++ i ∷ []) (Some source) ≡ is_hit_of history (Some source)
no_act_added history i source e =
    let p = λ (j : IssuedCommand). is_act_for source j.command in
    ap not (list_any-append p history (i ∷ []) ∙ ap (λ b. list_any p history || (b || false)) e ∙ or-false (list_any p history))

-- one command more leaves a hit a hit, if it is no ACT for its entry
pub is_hit-push : (history : List IssuedCommand) (i : IssuedCommand) (command : Command) → opens_for i.command command ≡ false → is_hit (history ++ i ∷ []) command ≡ is_hit history command
is_hit-push history i (Rd bank row column source) e = no_act_added history i source e
is_hit-push history i (Wr bank row column source) e = no_act_added history i source e
is_hit-push history i (Act bank row source) e = refl
is_hit-push history i (Pre bank source) e = refl
is_hit-push history i (Prea rank) e = refl
is_hit-push history i (Ref rank) e = refl

pub opens_for-itself : (command : Command) → opens_for command command ≡ false
opens_for-itself (Rd bank row column source) = refl
opens_for-itself (Wr bank row column source) = refl
opens_for-itself (Act bank row source) = refl
opens_for-itself (Pre bank source) = refl
opens_for-itself (Prea rank) = refl
opens_for-itself (Ref rank) = refl

pub opens_none : (command : Command) → ((source : Source) → is_act_for source command ≡ false) → (other : Command) → opens_for command other ≡ false
opens_none command h (Rd bank row column source) = h source
opens_none command h (Wr bank row column source) = h source
opens_none command h (Act bank row source) = refl
opens_none command h (Pre bank source) = refl
opens_none command h (Prea rank) = refl
opens_none command h (Ref rank) = refl

pub entries_swap : (a b : Source) → is_entry a b ≡ false → is_entry b a ≡ false
entries_swap a b h = grind (arith, nat_tests)

pub opens_for-act : (bank : BankId) (row : ℕ) (source : Source) (other : Command) → is_column_command_of source other ≡ false → opens_for (Act bank row source) other ≡ false
opens_for-act bank row source (Rd b r c x) h = entries_swap source x h
opens_for-act bank row source (Wr b r c x) h = entries_swap source x h
opens_for-act bank row source (Act b r x) h = refl
opens_for-act bank row source (Pre b x) h = refl
opens_for-act bank row source (Prea rank) h = refl
opens_for-act bank row source (Ref rank) h = refl

pub acts_for_none : (bank : BankId) (row : ℕ) (source : Source) (history : List IssuedCommand) → list_any (λ i. is_column_command_of source i.command) history ≡ false
    → Each (λ (i : IssuedCommand). opens_for (Act bank row source) i.command ≡ false) history
acts_for_none bank row source [] h = tt
acts_for_none bank row source (i ∷ history) h =
    let parts = or_parts (is_column_command_of source i.command) (list_any (λ i. is_column_command_of source i.command) history) h in
    (opens_for-act bank row source i.command parts.0, acts_for_none bank row source history parts.1)

pub not_late : (history : List IssuedCommand) (command : Command) → is_late_act history (Some command) ≡ false
    → Each (λ (i : IssuedCommand). opens_for command i.command ≡ false) history
not_late history (Act bank row source) h = acts_for_none bank row source history h
not_late history (Rd bank row column source) h = Each-all _ (λ i. opens_none (Rd bank row column source) (λ x. refl) i.command) history
not_late history (Wr bank row column source) h = Each-all _ (λ i. opens_none (Wr bank row column source) (λ x. refl) i.command) history
not_late history (Pre bank source) h = Each-all _ (λ i. opens_none (Pre bank source) (λ x. refl) i.command) history
not_late history (Prea rank) h = Each-all _ (λ i. opens_none (Prea rank) (λ x. refl) i.command) history
not_late history (Ref rank) h = Each-all _ (λ i. opens_none (Ref rank) (λ x. refl) i.command) history

hits_among : (history : List IssuedCommand) (i : IssuedCommand) (some : List IssuedCommand) → Each (λ (j : IssuedCommand). opens_for i.command j.command ≡ false) some
    → count_by (λ j. is_hit (history ++ i ∷ []) j.command) some ≡ count_by (λ j. is_hit history j.command) some
hits_among history i [] h = refl
hits_among history i (j ∷ some) h =
    sum_by-cons (λ x. one_if (is_hit (history ++ i ∷ []) x.command)) j some
    ∙ ap₂ (λ b n. one_if b + n) (is_hit-push history i j.command h.0) (hits_among history i some h.1)
    ∙ sym (sum_by-cons (λ x. one_if (is_hit history x.command)) j some)

-- one command more, which is no ACT for an entry that was served
pub hits-one_more : (history : List IssuedCommand) (i : IssuedCommand) → is_late_act history (Some i.command) ≡ false
    → hits (history ++ i ∷ []) ≡ hits history + one_if (is_hit history i.command)
unfolding hits
hits-one_more history i h =
    sum_by_push (λ j. one_if (is_hit (history ++ i ∷ []) j.command)) history i
    ∙ ap₂ (λ n b. n + one_if b) (hits_among history i history (not_late history i.command h)) (is_hit-push history i i.command (opens_for-itself i.command))

pub hits-push : (channel : ℕ) (steps : List (Option Command)) (o : Option Command) → is_late_act (issued_commands channel steps) o ≡ false
    → hits (issued_commands channel (steps ++ o ∷ [])) ≡ hits (issued_commands channel steps) + one_if (issues_hit (issued_commands channel steps) o)
hits-push channel steps o h = ap hits (issued_commands-push channel steps o) ∙ by o h
  where
    by : (o : Option Command) → is_late_act (issued_commands channel steps) o ≡ false
        → hits (issued_commands channel steps ++ issued_now channel (length steps) o) ≡ hits (issued_commands channel steps) + one_if (issues_hit (issued_commands channel steps) o)
    by None k = ap hits (append-nil (issued_commands channel steps)) ∙ sym (add-zero _)
    by (Some command) k = hits-one_more (issued_commands channel steps) (record { cycle = length steps; channel = channel; command = command }) k

draining_of-sum : (s : Config) (a b : ℕ) → draining_of s (a + b) ≡ sum_of_counts (draining_of s a) (draining_of s b)
draining_of-sum s a b = by (ltb 0 s.write_high)
  where
    by : (t : Bool) → cond t (Some (a + b)) None ≡ sum_of_counts (cond t (Some a) None) (cond t (Some b) None)
    by true = refl
    by false = refl

-- the statistics with one cycle more are joined with those of the cycle
pub channel_stats-push : (s : Config) (channel : ℕ) (steps : List (Option Command)) (o : Option Command) (inbox : List Message)
    → is_late_act (issued_commands channel steps) o ≡ false
    → channel_stats s channel (steps ++ o ∷ []) inbox ≡ channel_joined (channel_stats s channel steps inbox) (channel_cycle s channel steps inbox o)
unfolding channel_stats channel_cycle channel_cycle_with
channel_stats-push s channel steps o inbox h =
    let e0 = issued_of_kind-push kind.Act channel steps o in
    let e1 = issued_of_kind-push kind.Rd channel steps o in
    let e2 = issued_of_kind-push kind.Wr channel steps o in
    let e3 = issued_of_kind-push kind.Pre channel steps o in
    let e4 = issued_of_kind-push kind.Prea channel steps o in
    let e5 = issued_of_kind-push kind.Ref channel steps o in
    let e6 = hits-push channel steps o h in
    let e7 = queued-push channel steps o inbox in
    let e8 = queued_max-push channel steps o inbox in
    let e9 = idle-push channel steps o inbox in
    let e10 = refreshing-push s channel steps o in
    let e11 = ap (draining_of s) (draining-push s channel steps o inbox) ∙ draining_of-sum s _ _ in
    cc

queue_length-same : (channel : ℕ) (steps : List (Option Command)) (a b : List Message) (cycle : ℕ) → AgreeUpTo (cycle + 1) a b
    → queue_length channel steps a cycle ≡ queue_length channel steps b cycle
unfolding queue_length
queue_length-same channel steps a b cycle h = ap length (queue-same channel steps a b cycle h)

pub queue_lengths-same : (channel : ℕ) (steps : List (Option Command)) (a b : List Message) → AgreeUpTo (length steps) a b
    → queue_lengths channel steps a ≡ queue_lengths channel steps b
unfolding queue_lengths
queue_lengths-same channel steps a b h =
    map_below_same (queue_length channel steps a) (queue_length channel steps b) (length steps) (λ k l. queue_length-same channel steps a b k (sooner (omega arith) h))

pub draining-same : (s : Config) (channel : ℕ) (steps : List (Option Command)) (a b : List Message) → AgreeUpTo (length steps) a b
    → draining s channel steps a ≡ draining s channel steps b
unfolding draining
draining-same s channel steps a b h =
    count_below_same (drains s channel steps a) (drains s channel steps b) (length steps) (λ k l. drains-same s channel steps a b (k + 1) (sooner (omega arith) h))

pub channel_stats-same : (s : Config) (channel : ℕ) (steps : List (Option Command)) (a b : List Message) → AgreeUpTo (length steps) a b
    → channel_stats s channel steps a ≡ channel_stats s channel steps b
unfolding channel_stats queued queued_max idle
channel_stats-same s channel steps a b h =
    let e = queue_lengths-same channel steps a b h in
    let f = draining-same s channel steps a b h in
    cc

-- messages that arrive later
pub AgreeUpTo-later : (until : ℕ) (mail later : List Message) → Each Stamped mail → Each Stamped later → NotBefore until later → AgreeUpTo until (mail ++ later) mail
AgreeUpTo-later until mail later h k l =
    record {
      one = Each-append Stamped mail later h k;
      other = h;
      same = λ u b. arrived-added u mail later (NotBefore-weaker u until b later l);
    }

pub channel_stats-later : (s : Config) (channel : ℕ) (steps : List (Option Command)) (mail later : List Message) → Each Stamped mail → Each Stamped later
    → NotBefore (length steps) later → channel_stats s channel steps (mail ++ later) ≡ channel_stats s channel steps mail
channel_stats-later s channel steps mail later h k l = channel_stats-same s channel steps (mail ++ later) mail (AgreeUpTo-later (length steps) mail later h k l)

length-filter_map-le : {X Y : Type 0} (f : X → Option Y) (xs : List X) → length (filter_map f xs) ≤ length xs
length-filter_map-le f [] = omega arith
length-filter_map-le {X} {Y} f (x ∷ xs) = by (f x) (length-filter_map-le f xs)
  where
    by : (o : Option Y) → length (filter_map f xs) ≤ length xs → length (cons_option o (filter_map f xs)) ≤ suc (length xs)
    by None h = omega arith
    by (Some y) h = omega arith

pub length-issued_commands-le : (channel : ℕ) (steps : List (Option Command)) → length (issued_commands channel steps) ≤ length steps
unfolding issued_commands
length-issued_commands-le channel steps =
    omega (arith, length-filter_map-le (λ (e : ℕ × Option Command). issued_at channel e.0 e.1) (enumerate_from 0 steps), length-enumerate_from 0 steps)

pub issued_of_kind-le : (kind : Kind) (history : List IssuedCommand) → issued_of_kind kind history ≤ length history
unfolding issued_of_kind
issued_of_kind-le kind history = count_by-le-length (λ (i : IssuedCommand). is_kind (kind_of i.command) kind) history

pub hits-le : (history : List IssuedCommand) → hits history ≤ length history
unfolding hits
hits-le history = count_by-le-length (λ (i : IssuedCommand). is_hit history i.command) history

pub fold-max-le : (m : ℕ) (xs : List ℕ) → m ≤ fold max m xs
fold-max-le m [] = omega arith
fold-max-le m (x ∷ xs) = omega (arith, fold-max-le (max m x) xs)

sum-le : (m most : ℕ) (xs : List ℕ) → fold max m xs ≤ most → sum xs ≤ length xs * most
sum-le m most [] h = omega arith
sum-le m most (x ∷ xs) h =
    let rest : sum xs ≤ length xs * most = sum-le (max m x) most xs h in
    let one : suc (length xs) * most ≡ length xs * most + most = grind arith in
    omega (arith, sum_by-cons (λ n. n) x xs, fold-max-le (max m x) xs)

length-queue_lengths : (channel : ℕ) (steps : List (Option Command)) (inbox : List Message) → length (queue_lengths channel steps inbox) ≡ length steps
unfolding queue_lengths
length-queue_lengths channel steps inbox = omega (arith, length-map (below (length steps)) (queue_length channel steps inbox), length-range_with_len 0 (length steps))

pub queued-le : (channel : ℕ) (steps : List (Option Command)) (inbox : List Message) → queued channel steps inbox ≤ length steps * queued_max channel steps inbox
unfolding queued queued_max
queued-le channel steps inbox =
    let lengths = queue_lengths channel steps inbox in
    let h : sum lengths ≤ length lengths * fold max 0 lengths = sum-le 0 (fold max 0 lengths) lengths (omega arith) in
    rw (← length-queue_lengths channel steps inbox) h

count-below-le : (p : ℕ → Bool) (n : ℕ) → count_by p (below n) ≤ n
count-below-le p n = omega (arith, count_by-le-length p (below n), length-range_with_len 0 n)

pub idle-le : (channel : ℕ) (steps : List (Option Command)) (inbox : List Message) → idle channel steps inbox ≤ length steps
unfolding idle
idle-le channel steps inbox = omega (arith, count_by-le-length (λ n. eqb n 0) (queue_lengths channel steps inbox), length-queue_lengths channel steps inbox)

pub refreshing-le : (s : Config) (channel : ℕ) (steps : List (Option Command)) → refreshing s channel steps ≤ length steps
unfolding refreshing
refreshing-le s channel steps = count-below-le (has_refresh_due s channel steps) (length steps)

pub draining-le : (s : Config) (channel : ℕ) (steps : List (Option Command)) (inbox : List Message) → draining s channel steps inbox ≤ length steps
unfolding draining
draining-le s channel steps inbox = count-below-le (drains s channel steps inbox) (length steps)

draining_of-fits : (s : Config) (n : ℕ) → n < 2 ^ 64 → IfSome (draining_of s n) (λ count. count < 2 ^ 64)
draining_of-fits s n h = cond_both (ltb 0 s.write_high) (Some n) None (λ o. IfSome o (λ count. count < 2 ^ 64)) (λ e. h) (λ e. tt)

-- the counts of a run fit, since a cycle and the greatest length of the queue do
pub channel_stats-fit : (s : Config) (channel : ℕ) (steps : List (Option Command)) (inbox : List Message) → length steps ≤ 2 ^ 62
    → queued_max channel steps inbox < 2 ^ 64 → ChannelFits (channel_stats s channel steps inbox)
unfolding channel_stats
channel_stats-fit s channel steps inbox cycles longest =
    let history = issued_commands channel steps in
    let few : length history ≤ length steps = length-issued_commands-le channel steps in
    let most : length steps * queued_max channel steps inbox ≤ 2 ^ 62 * 2 ^ 64 = mul-le _ _ (2 ^ 62) (2 ^ 64) cycles (omega arith) in
    record {
      act = omega (arith, issued_of_kind-le kind.Act history);
      rd = omega (arith, issued_of_kind-le kind.Rd history);
      wr = omega (arith, issued_of_kind-le kind.Wr history);
      pre = omega (arith, issued_of_kind-le kind.Pre history);
      prea = omega (arith, issued_of_kind-le kind.Prea history);
      refs = omega (arith, issued_of_kind-le kind.Ref history);
      hits = omega (arith, hits-le history);
      queued = omega (arith, queued-le channel steps inbox);
      queued_max = longest;
      idle = omega (arith, idle-le channel steps inbox);
      refreshing = omega (arith, refreshing-le s channel steps);
      draining = draining_of-fits s (draining s channel steps inbox) (omega (arith, draining-le s channel steps inbox));
    }

-- NUMBERS

-- numbers of a channel's counters are those of the statistics that have them
pub channel_numbers-of : (numbers : List (Option ℕ)) (drained : Option ℕ) → AreNumbersOf channel_counters numbers → channel_numbers (channel_of numbers drained) ≡ numbers
channel_numbers-of numbers drained h = numbers-are channel_counters numbers h

-- counts that fit are numbers of the counters
pub channel_numbers-fit : (stats : ChannelStats) → ChannelFits stats → AreNumbersOf channel_counters (channel_numbers stats)
channel_numbers-fit stats h =
    (h.act, (h.rd, (h.wr, (h.pre, (h.prea, (h.refs, (h.hits, (h.queued, (h.queued_max, (h.idle, (h.refreshing, tt)))))))))))

pub channel_fits : (stats : ChannelStats) → AreNumbersOf channel_counters (channel_numbers stats) → IfSome stats.draining (λ count. count < 2 ^ 64) → ChannelFits stats
channel_fits stats h draining =
    record {
      act = h.0;
      rd = h.1.0;
      wr = h.1.1.0;
      pre = h.1.1.1.0;
      prea = h.1.1.1.1.0;
      refs = h.1.1.1.1.1.0;
      hits = h.1.1.1.1.1.1.0;
      queued = h.1.1.1.1.1.1.1.0;
      queued_max = h.1.1.1.1.1.1.1.1.0;
      idle = h.1.1.1.1.1.1.1.1.1.0;
      refreshing = h.1.1.1.1.1.1.1.1.1.1.0;
      draining = draining;
    }

-- those of no cycle fit
pub channel_none-fits : ChannelFits channel_none
channel_none-fits = record { act = omega arith; rd = omega arith; wr = omega arith; pre = omega arith; prea = omega arith; refs = omega arith; hits = omega arith; queued = omega arith; queued_max = omega arith; idle = omega arith; refreshing = omega arith; draining = tt }

-- before the first cycle nothing is counted
pub channel_stats-none : (s : Config) (channel : ℕ) (inbox : List Message) → channel_stats s channel [] inbox ≡ record channel_none { draining = draining_of s 0 }
unfolding channel_stats issued_commands issued_of_kind hits queue_lengths queued queued_max idle refreshing draining
channel_stats-none s channel inbox = refl
