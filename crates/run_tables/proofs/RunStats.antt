-- The statistics of a run are in their ranges.
use Rattle.std.proofs.Common.{◌≡◌, ◌+◌, ◌*◌, ◌<◌, ◌≤◌, ◌^◌, ◌==◌, ◌∙◌, eqb, ℕ, Bool, true, false, cond, max, List, [], ◌∷◌, length, map, fold, All, Option, None, IfSome, refl, sym, subst, arith, inl, inr}
use Rattle.std.specs.Prelude.{count_by, filter}
use Rattle.std.specs.List.{AllByRecursion as Each, IsDistinct, filter_map, cons_option}
use Rattle.std.proofs.lemmas.Bool.{cases_Bool, cond_both, eqb-false}
use Rattle.std.proofs.lemmas.List.Elements.{All-from_recursion, recursion_from_All}
use Rattle.std.proofs.lemmas.Nat.{mul-le}
use Rattle.std.proofs.lemmas.List.FromFn.{length-map-range_with_len}
use Rattle.sim_base.specs.Counts.{finish, retire_cycle, queue_length, queue_lengths, queued_max, is_reply_before, replied_entry, replies}
use Rattle.sim_base.specs.History.{below, trace_of, inbox, steps_of_core, issued_before}
use Rattle.sim_base.specs.Machine.{run}
use Rattle.sim_base.specs.Windows.{is_reply_to}
use Rattle.sim_base.specs.declared.config.Config.{Config}
use Rattle.sim_base.specs.declared.history.CoreStep.{CoreStep}
use Rattle.sim_base.specs.declared.message.Payload.{Payload}
use Rattle.sim_base.specs.declared.message.Payload.TheVariants as payload
use Rattle.sim_base.specs.declared.message.Message.{Message}
use Rattle.sim_base.specs.declared.message.Unit.TheVariants.{Core, Channel}
use Rattle.sim_base.specs.declared.trace.Entry.{Entry}
use Rattle.sim_base.proofs.Each.{IfSome-find}
use Rattle.sim_base.proofs.Spans.{length_run}
use Rattle.sim_base.proofs.Lists.{count-cons}
use Rattle.laws.proofs.Answered.{reads_are_answered_once}
use Rattle.laws.proofs.Bounded.{queues_are_bounded}
use Rattle.laws.proofs.Legal.{length-channel_steps_of}
use Rattle.laws.specs.Commands.{channel_steps_of}
use Rattle.statistics.specs.Channels.{ChannelFits}
use Rattle.statistics.specs.Cores.{core_stats}
use Rattle.statistics.specs.Runs.{stats_of, stats_of_core, stats_of_channel}
use Rattle.statistics.proofs.ChannelCounts.{channel_stats-fit}
use Rattle.statistics.proofs.CoreCounts.{core_stats-fit}
use Rattle.statistics.proofs.KeepsToTrace.{KeepsToTrace-run}
use Rattle.statistics.proofs.Replies.{RepliesFollowReads-run, length-steps_of_core}
use Rattle.statistics.proofs.ReplyBounds.{answered_entries, replies-le-issued}
use Rattle.run_tables.proofs.TableLaws.InRange.{range-below, trace-short}
use Rattle.run_tables.proofs.TableLaws.Lawful.{mapped-each, greatest-within}
use Rattle.run_tables.specs.Stats.{CoreInRange, StatsFit}

-- THE REPLIES TO A CORE

eqb-self : (n : ℕ) → eqb n n ≡ true
eqb-self n = elim (cases_Bool (eqb n n)) [ inl holds ↦ holds | inr fails ↦ absurd (eqb-false n n fails refl) ]

absent-one : (entry : ℕ) (l : Payload) (kept : List ℕ) → is_reply_to entry l ≡ false → Each (λ other. eqb entry other ≡ false) kept → Each (λ other. eqb entry other ≡ false) (cons_option (replied_entry l) kept)
absent-one entry (payload.Reply other) kept h k = (h, k)
absent-one entry (payload.Request r) kept h k = k
absent-one entry (payload.Credit w e) kept h k = k

counted-none : (b : Bool) (n : ℕ) → cond b 1 0 + n ≡ 0 → b ≡ false
counted-none true n h = absurd (omega (arith, h))
counted-none false n h = refl

none-more : (b : Bool) (n : ℕ) → cond b 1 0 + n ≡ 0 → n ≡ 0
none-more true n h = absurd (omega (arith, h))
none-more false n h = omega (arith, h)

few-more : (b : Bool) (n : ℕ) → cond b 1 0 + n ≤ 1 → n ≤ 1
few-more true n h = omega (arith, h)
few-more false n h = omega (arith, h)

counted-once : (b : Bool) (n : ℕ) → b ≡ true → cond b 1 0 + n ≤ 1 → n ≡ 0
counted-once true n e h = omega (arith, h)
counted-once false n e h = cc e

-- no reply to this entry is among them
entry-absent : (entry cycle : ℕ) (ms : List Message) → count_by (λ (m : Message). is_reply_to entry m.payload) ms ≡ 0
    → Each (λ other. eqb entry other ≡ false) (filter_map (λ (m : Message). replied_entry m.payload) (filter (is_reply_before cycle) ms))
entry-absent entry cycle [] none = tt
entry-absent entry cycle (m ∷ ms) none =
    let kept = filter (is_reply_before cycle) ms in
    let more = count_by (λ (y : Message). is_reply_to entry y.payload) ms in
    let parts = sym (count-cons (λ (y : Message). is_reply_to entry y.payload) m ms) ∙ none in
    let rest = entry-absent entry cycle ms (none-more (is_reply_to entry m.payload) more parts) in
    cond_both (is_reply_before cycle m) (m ∷ kept) kept (λ (x : List Message). Each (λ other. eqb entry other ≡ false) (filter_map (λ (y : Message). replied_entry y.payload) x))
    (λ e. absent-one entry m.payload (filter_map (λ (y : Message). replied_entry y.payload) kept) (counted-none (is_reply_to entry m.payload) more parts) rest)
    (λ e. rest)

distinct-one : (l : Payload) (kept : List ℕ) → ((entry : ℕ) → is_reply_to entry l ≡ true → Each (λ other. eqb entry other ≡ false) kept) → IsDistinct eqb kept → IsDistinct eqb (cons_option (replied_entry l) kept)
unfolding IsDistinct
distinct-one (payload.Reply entry) kept h k = (h entry (eqb-self entry), k)
distinct-one (payload.Request r) kept h k = k
distinct-one (payload.Credit w e) kept h k = k

-- an entry is replied to once at most
once-distinct : (cycle : ℕ) (ms : List Message) → ((entry : ℕ) → count_by (λ (m : Message). is_reply_to entry m.payload) ms ≤ 1)
    → IsDistinct eqb (filter_map (λ (m : Message). replied_entry m.payload) (filter (is_reply_before cycle) ms))
unfolding IsDistinct
once-distinct cycle [] once = tt
once-distinct cycle (m ∷ ms) once =
    let kept = filter (is_reply_before cycle) ms in
    let more = λ (entry : ℕ). count_by (λ (y : Message). is_reply_to entry y.payload) ms in
    let parts = λ (entry : ℕ). subst (λ (k : ℕ). k ≤ 1) (count-cons (λ (y : Message). is_reply_to entry y.payload) m ms) (once entry) in
    let rest = once-distinct cycle ms (λ entry. few-more (is_reply_to entry m.payload) (more entry) (parts entry)) in
    cond_both (is_reply_before cycle m) (m ∷ kept) kept (λ (x : List Message). IsDistinct eqb (filter_map (λ (y : Message). replied_entry y.payload) x))
    (λ e. distinct-one m.payload (filter_map (λ (y : Message). replied_entry y.payload) kept)
    (λ entry is. entry-absent entry cycle ms (counted-once (is_reply_to entry m.payload) (more entry) is (parts entry))) rest)
    (λ e. rest)

few-replies : (s : Config) (traces : List (List Entry)) (n core : ℕ) → core < s.cores
    → length (replies (steps_of_core core (run s traces n)) (inbox s traces (run s traces n) (Core core))) ≤ issued_before (steps_of_core core (run s traces n))
unfolding answered_entries replies
few-replies s traces n core l =
    let steps = steps_of_core core (run s traces n) in
    let mail = inbox s traces (run s traces n) (Core core) in
    replies-le-issued steps mail (RepliesFollowReads-run s traces n core) (once-distinct (length steps) mail (λ entry. reads_are_answered_once s traces n core entry l))

-- EACH UNIT

finish-range : (trace : List Entry) (steps : List CoreStep) → length steps ≤ 2 ^ 62 → IfSome (finish trace steps) (λ cycle. cycle < 2 ^ 64)
unfolding finish retire_cycle
finish-range trace steps few =
    cond_both (length trace == 0) None _ (λ (o : Option ℕ). IfSome o (λ cycle. cycle < 2 ^ 64)) (λ e. tt)
    (λ e. IfSome-find (λ cycle. cycle < 2 ^ 64) _ (below (length steps)) (range-below (2 ^ 64) 0 (length steps) (omega (arith, few))))

core-range : (s : Config) (traces : List (List Entry)) (n core : ℕ) → n ≤ 2 ^ 62 → Each (λ (t : List Entry). length t ≤ 2 ^ 62) traces → core < s.cores → CoreInRange (stats_of_core s traces (run s traces n) core)
unfolding stats_of_core core_stats
core-range s traces n core few short l =
    let steps = steps_of_core core (run s traces n) in
    let mail = inbox s traces (run s traces n) (Core core) in
    let trace = trace_of traces core in
    let long = length-steps_of_core core (run s traces n) ∙ length_run s traces n in
    let keeps = KeepsToTrace-run s traces core l n in
    let issued = keeps.issued in
    let retired = keeps.retired in
    let entries = trace-short traces core short in
    let replied = few-replies s traces n core l in
    record {
      counts = core_stats-fit s core trace steps mail (omega (arith, long, few)) (omega (arith, issued, entries)) (omega (arith, issued, retired, entries)) (omega (arith, replied, issued, entries));
      finish = finish-range trace steps (omega (arith, long, few));
    }

channel-range : (s : Config) (traces : List (List Entry)) (n channel : ℕ) → n ≤ 2 ^ 62 → channel < s.channels → ChannelFits (stats_of_channel s traces (run s traces n) channel)
unfolding stats_of_channel queued_max queue_lengths queue_length
channel-range s traces n channel few l =
    let steps = channel_steps_of s traces n channel in
    let mail = inbox s traces (run s traces n) (Channel channel) in
    let most = s.cores * (s.read_credits + s.write_credits) in
    let long = length-channel_steps_of s traces n channel in
    let cores : s.cores ≤ 256 = s.machine_in_range.cores_in.1 in
    let reads : s.read_credits ≤ 64 = s.core_in_range.read_credits_in.1 in
    let writes : s.write_credits ≤ 64 = s.core_in_range.write_credits_in.1 in
    let small : most ≤ 256 * 128 = mul-le s.cores (s.read_credits + s.write_credits) 256 128 cores (omega (arith, reads, writes)) in
    let queue : fold max 0 (map (queue_length channel steps mail) (below (length steps))) ≤ most =
    greatest-within 0 most (map (queue_length channel steps mail) (below (length steps))) (omega arith)
    (mapped-each (λ x. x ≤ most) (queue_length channel steps mail) 0 (length steps) (λ cycle b. queues_are_bounded s traces n channel cycle l (omega (arith, long, b)))) in
    channel_stats-fit s channel steps mail (omega (arith, long, few)) (omega (arith, queue, small))

-- ALL OF THEM

pub run-fits : (s : Config) (traces : List (List Entry)) (n : ℕ) → n ≤ 2 ^ 62 → All (λ (t : List Entry). length t ≤ 2 ^ 62) traces → StatsFit (stats_of s traces (run s traces n))
unfolding stats_of
run-fits s traces n few short =
    let history = run s traces n in
    let lists = recursion_from_All (λ (t : List Entry). length t ≤ 2 ^ 62) traces short in
    let long = length_run s traces n in
    let one_core : 1 ≤ s.cores = s.machine_in_range.cores_in.0 in
    let one_channel : 1 ≤ s.channels = s.machine_in_range.channels_in.0.0 in
    let core_count = length-map-range_with_len (stats_of_core s traces history) 0 s.cores in
    let channel_count = length-map-range_with_len (stats_of_channel s traces history) 0 s.channels in
    record {
      cycles = omega (arith, long, few);
      cores = All-from_recursion CoreInRange (map (stats_of_core s traces history) (below s.cores))
          (mapped-each CoreInRange (stats_of_core s traces history) 0 s.cores (λ core l. core-range s traces n core few lists (omega (arith, l))));
      channels = All-from_recursion ChannelFits (map (stats_of_channel s traces history) (below s.channels))
          (mapped-each ChannelFits (stats_of_channel s traces history) 0 s.channels (λ channel l. channel-range s traces n channel few (omega (arith, l))));
      some_core = omega (arith, core_count, one_core);
      some_channel = omega (arith, channel_count, one_channel);
    }
