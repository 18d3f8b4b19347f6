-- The commands of a run, cycle by cycle.
use Rattle.std.proofs.Common.{◌≡◌, ℕ, zero, suc, ◌+◌, ◌<◌, ◌≤◌, Bool, cond, List, [], ◌∷◌, ◌++◌, length, get_or, take, Option, Some, None, sym, ap, subst, ◌∙◌, ◌⊎◌, inl, inr, arith, add-zero}
use Rattle.std.specs.Prelude.{count_by, filter_map}
use Rattle.std.specs.Option.{IfSome}
use Rattle.std.specs.List.{AllByRecursion as Each, AllPairs, enumerate_from, cons_option}
use Rattle.std.proofs.Math.ListN.{get_or-append}
use Rattle.std.proofs.Math.Seq.{get_or-append_seam, take-append_seam}
use Rattle.std.proofs.lemmas.Bool.{cases_lt}
use Rattle.std.proofs.lemmas.List.{map-append, append-nil, length-map, length_push, length-take-le, take-append-le, take_all, get_or-take, get_or_push}
use Rattle.std.proofs.lemmas.List.Elements.{All-from_recursion}
use Rattle.sim_base.specs.declared.config.Config.{Config}
use Rattle.sim_base.specs.MachineStep.{step_of_channel}
use Rattle.sim_base.specs.History.{steps_of_channel, issued_at, issued_commands, inbox}
use Rattle.sim_base.specs.Scheduling.{choice}
use Rattle.sim_base.specs.Machine.{run, next_step}
use Rattle.sim_base.specs.declared.command.Command.{Command}
use Rattle.sim_base.specs.declared.command.IssuedCommand.{IssuedCommand}
use Rattle.sim_base.specs.declared.message.Unit.TheVariants.{Channel}
use Rattle.sim_base.specs.declared.trace.Entry.{Entry}
use Rattle.std.proofs.lemmas.List.Kept.{AllPairs-cons}
use Rattle.sim_base.proofs.Ordered.{Each-weaker}
use Rattle.sim_base.proofs.Spans.{length_run, step_of_channel-next}
use Rattle.laws.specs.Commands.{channel_steps_of, history_of, CommandsAreLegal, IsLegalHistory, HistoriesAreLegal, CyclesAscend}
use Rattle.sim_base.proofs.Each.{Each-append}
use Rattle.sim_base.proofs.Lists.{count-push}
use Rattle.statistics.proofs.ChannelCounts.{issued_commands-push}
use Rattle.laws.proofs.Counting.{test_in}
use Rattle.laws.proofs.Chosen.{IsLegalNow, choice-legal}

-- what a channel chooses in the cycle after the first n of a run
abbrev pub chosen : Config → List (List Entry) → ℕ → ℕ → Option Command
chosen s traces n channel = choice s channel (channel_steps_of s traces n channel) (inbox s traces (run s traces n) (Channel channel))

pub channel_steps_of-more : (s : Config) (traces : List (List Entry)) (n k : ℕ) → k < s.channels
    → channel_steps_of s traces (suc n) k ≡ channel_steps_of s traces n k ++ chosen s traces n k ∷ []
unfolding run steps_of_channel
channel_steps_of-more s traces n k l =
    let history = run s traces n in
    map-append (step_of_channel k) history (next_step s traces history ∷ [])
    ∙ ap (λ o. steps_of_channel k history ++ o ∷ []) (step_of_channel-next s traces history k l)

pub length-channel_steps_of : (s : Config) (traces : List (List Entry)) (n k : ℕ) → length (channel_steps_of s traces n k) ≡ n
unfolding steps_of_channel
length-channel_steps_of s traces n k = length-map (run s traces n) (step_of_channel k) ∙ length_run s traces n

-- P holds of each element and those before it
abbrev pub EachAfter : {X : Type 0} → (List X → X → Type 0) → List X → Type 0
EachAfter {X} P xs = (t : ℕ) (d : X) → t < length xs → P (take t xs) (get_or xs t d)

pub EachAfter-push : {X : Type 0} (P : List X → X → Type 0) (xs : List X) (x : X) → EachAfter P xs → P xs x → EachAfter P (xs ++ x ∷ [])
EachAfter-push {X} P xs x h k t d l = go (cases_lt t (length xs))
  where
    go : (t < length xs) ⊎ (length xs ≤ t) → P (take t (xs ++ x ∷ [])) (get_or (xs ++ x ∷ []) t d)
    go (inl b) = subst (λ ys. P ys (get_or (xs ++ x ∷ []) t d)) (sym (take-append-le t xs (x ∷ []) (omega arith)))
        (subst (P (take t xs)) (sym (get_or-append xs (x ∷ []) d t b)) (h t d b))
    go (inr b) =
        let e : t ≡ length xs = omega (arith, length_push xs x) in
        subst (λ i. P (take i (xs ++ x ∷ [])) (get_or (xs ++ x ∷ []) i d)) (sym e)
        (subst (λ ys. P ys (get_or (xs ++ x ∷ []) (length xs) d)) (sym (take-append_seam xs (x ∷ [])))
        (subst (P xs) (sym (get_or-append_seam xs x [] d)) k))

-- what holds of each choice holds in each cycle of a run
pub at_each_cycle : (P : List (Option Command) → Option Command → Type 0) (s : Config) (traces : List (List Entry)) (k : ℕ) → k < s.channels
    → ((n : ℕ) → P (channel_steps_of s traces n k) (chosen s traces n k)) → (n : ℕ) → EachAfter P (channel_steps_of s traces n k)
unfolding run steps_of_channel
at_each_cycle P s traces k l h zero = λ t d b. absurd (omega arith)
at_each_cycle P s traces k l h (suc n) =
    subst (EachAfter P) (sym (channel_steps_of-more s traces n k l))
    (EachAfter-push P (channel_steps_of s traces n k) (chosen s traces n k) (at_each_cycle P s traces k l h n) (h n))

-- a command is legal over what was done before it
unfoldable pub IsLegalStep : Config → ℕ → List (Option Command) → Option Command → Type 0
IsLegalStep s k steps o = IfSome o (IsLegalNow s (issued_commands k steps) (length steps))

pub legal_step : (s : Config) (traces : List (List Entry)) (k : ℕ) (n : ℕ) → IsLegalStep s k (channel_steps_of s traces n k) (chosen s traces n k)
unfolding IsLegalStep
legal_step s traces k n = choice-legal s k (channel_steps_of s traces n k) (inbox s traces (run s traces n) (Channel k))

pub commands_are_legal : (s : Config) (traces : List (List Entry)) (n : ℕ) → CommandsAreLegal s traces n
unfolding IsLegalStep
commands_are_legal s traces n k t command l b e =
    let steps = channel_steps_of s traces n k in
    let long : length steps ≡ n = length-channel_steps_of s traces n k in
    let h : IsLegalStep s k (take t steps) (get_or steps t None) = at_each_cycle (IsLegalStep s k) s traces k l (legal_step s traces k) n t None (omega arith) in
    subst (λ x. IsLegalNow s (issued_commands k (take t steps)) x command) (length-take-le t steps (omega arith))
    (subst (λ o. IfSome o (IsLegalNow s (issued_commands k (take t steps)) (length (take t steps)))) e h)

-- a command is legal over those before it
abbrev IsLegalAfter : Config → List IssuedCommand → IssuedCommand → Type 0
IsLegalAfter s before i = IsLegalNow s before i.cycle i.command

issued-legal : (s : Config) (k : ℕ) (steps : List (Option Command)) (o : Option Command) → IsLegalHistory s (issued_commands k steps) → IsLegalStep s k steps o
    → IsLegalHistory s (issued_commands k steps ++ cons_option (issued_at k (length steps) o) [])
unfolding IsLegalStep
issued-legal s k steps None h e = subst (IsLegalHistory s) (sym (append-nil (issued_commands k steps))) h
issued-legal s k steps (Some command) h e = EachAfter-push (IsLegalAfter s) (issued_commands k steps) _ h e

history-legal : (s : Config) (traces : List (List Entry)) (k : ℕ) → k < s.channels → (n : ℕ) → IsLegalHistory s (history_of s traces n k)
unfolding run steps_of_channel issued_commands
history-legal s traces k l zero = λ i d h. absurd (omega arith)
history-legal s traces k l (suc n) =
    let steps = channel_steps_of s traces n k in
    subst (IsLegalHistory s) (sym (ap (issued_commands k) (channel_steps_of-more s traces n k l) ∙ issued_commands-push k steps (chosen s traces n k)))
    (issued-legal s k steps (chosen s traces n k) (history-legal s traces k l n) (legal_step s traces k n))

pub histories_are_legal : (s : Config) (traces : List (List Entry)) (n : ℕ) → HistoriesAreLegal s traces n
histories_are_legal s traces n k l = history-legal s traces k l n

-- commands from a cycle on
issued-from : (k i : ℕ) (steps : List (Option Command)) → Each (λ (x : IssuedCommand). i ≤ x.cycle) (filter_map (λ e. issued_at k e.0 e.1) (enumerate_from i steps))
issued-from k i [] = tt
issued-from k i (None ∷ steps) = Each-weaker _ (λ (x : IssuedCommand). i ≤ x.cycle) (λ x h. omega arith) _ (issued-from k (i + 1) steps)
issued-from k i (Some c ∷ steps) = (omega arith, Each-weaker _ (λ (x : IssuedCommand). i ≤ x.cycle) (λ x h. omega arith) _ (issued-from k (i + 1) steps))

issued-ascend : (k i : ℕ) (steps : List (Option Command)) → AllPairs (λ a b. a.cycle < b.cycle) (filter_map (λ e. issued_at k e.0 e.1) (enumerate_from i steps))
issued-ascend k i [] = λ a b d l m. absurd (omega arith)
issued-ascend k i (None ∷ steps) = issued-ascend k (i + 1) steps
issued-ascend k i (Some c ∷ steps) =
    let rest = filter_map (λ (e : ℕ × Option Command). issued_at k e.0 e.1) (enumerate_from (i + 1) steps) in
    AllPairs-cons (λ (a b : IssuedCommand). a.cycle < b.cycle) _ rest
    (All-from_recursion (λ (b : IssuedCommand). i < b.cycle) rest (Each-weaker _ (λ (b : IssuedCommand). i < b.cycle) (λ x h. omega arith) rest (issued-from k (i + 1) steps)))
    (issued-ascend k (i + 1) steps)

pub cycles_ascend : (s : Config) (traces : List (List Entry)) (n : ℕ) → CyclesAscend s traces n
unfolding issued_commands
cycles_ascend s traces n k = issued-ascend k 0 (channel_steps_of s traces n k)

-- the first cycles of a run
pub take-channel_steps_of : (s : Config) (traces : List (List Entry)) (k : ℕ) → k < s.channels → (n t : ℕ) → t ≤ n → take t (channel_steps_of s traces n k) ≡ channel_steps_of s traces t k
take-channel_steps_of s traces k l zero t h =
    let e : t ≡ 0 = omega arith in
    take_all t (channel_steps_of s traces 0 k) (let m = length-channel_steps_of s traces 0 k in omega arith) ∙ ap (λ i. channel_steps_of s traces i k) (sym e)
take-channel_steps_of s traces k l (suc n) t h = go (cases_lt n t) (take-channel_steps_of s traces k l n t)
  where
    go : (n < t) ⊎ (t ≤ n) → (t ≤ n → take t (channel_steps_of s traces n k) ≡ channel_steps_of s traces t k) → take t (channel_steps_of s traces (suc n) k) ≡ channel_steps_of s traces t k
    go (inl b) rest =
        let e : t ≡ suc n = omega arith in
        take_all t (channel_steps_of s traces (suc n) k) (let m = length-channel_steps_of s traces (suc n) k in omega arith) ∙ ap (λ i. channel_steps_of s traces i k) (sym e)
    go (inr b) rest =
        ap (take t) (channel_steps_of-more s traces n k l)
        ∙ take-append-le t (channel_steps_of s traces n k) (chosen s traces n k ∷ []) (let m = length-channel_steps_of s traces n k in omega arith)
        ∙ rest b

-- what a channel does in a cycle is what it chooses then
pub channel_steps_of-at : (s : Config) (traces : List (List Entry)) (k : ℕ) → k < s.channels → (n t : ℕ) → t < n → get_or (channel_steps_of s traces n k) t None ≡ chosen s traces t k
channel_steps_of-at s traces k l n t h =
    let steps = channel_steps_of s traces t k in
    let long : length steps ≡ t = length-channel_steps_of s traces t k in
    sym (get_or-take (suc t) (channel_steps_of s traces n k) t None (omega arith))
    ∙ ap (λ x. get_or x t None) (take-channel_steps_of s traces k l n (suc t) (omega arith) ∙ channel_steps_of-more s traces t k l)
    ∙ get_or_push steps (chosen s traces t k) None t long

-- the history of a channel with one cycle more
pub history_of-more : (s : Config) (traces : List (List Entry)) (n k : ℕ) → k < s.channels
    → history_of s traces (suc n) k ≡ history_of s traces n k ++ cons_option (issued_at k n (chosen s traces n k)) []
history_of-more s traces n k l =
    ap (issued_commands k) (channel_steps_of-more s traces n k l) ∙ issued_commands-push k (channel_steps_of s traces n k) (chosen s traces n k)
    ∙ ap (λ i. history_of s traces n k ++ cons_option (issued_at k i (chosen s traces n k)) []) (length-channel_steps_of s traces n k)

count-push_option : (p : Command → Bool) (k cycle : ℕ) (history : List IssuedCommand) (o : Option Command)
    → count_by (λ (i : IssuedCommand). p i.command) (history ++ cons_option (issued_at k cycle o) []) ≡ count_by (λ (i : IssuedCommand). p i.command) history + cond (test_in p o) 1 0
count-push_option p k cycle history None = ap (count_by (λ (i : IssuedCommand). p i.command)) (append-nil history) ∙ sym (add-zero _)
count-push_option p k cycle history (Some command) = count-push (λ (i : IssuedCommand). p i.command) history _

-- and its commands that pass a test
pub count-history_of : (p : Command → Bool) (s : Config) (traces : List (List Entry)) (n k : ℕ) → k < s.channels
    → count_by (λ (i : IssuedCommand). p i.command) (history_of s traces (suc n) k) ≡ count_by (λ (i : IssuedCommand). p i.command) (history_of s traces n k) + cond (test_in p (chosen s traces n k)) 1 0
count-history_of p s traces n k l =
    ap (count_by (λ (i : IssuedCommand). p i.command)) (history_of-more s traces n k l) ∙ count-push_option p k n (history_of s traces n k) (chosen s traces n k)

-- what holds of each command of a history holds with one cycle more
pub Each-history_of : (P : IssuedCommand → Type 0) (s : Config) (traces : List (List Entry)) (n k : ℕ) → k < s.channels → Each P (history_of s traces n k)
    → IfSome (chosen s traces n k) (λ command. P (record { cycle = n; channel = k; command = command })) → Each P (history_of s traces (suc n) k)
Each-history_of P s traces n k l h g =
    subst (Each P) (sym (history_of-more s traces n k l)) (Each-append P (history_of s traces n k) _ h (one (chosen s traces n k) g))
  where
    one : (o : Option Command) → IfSome o (λ command. P (record { cycle = n; channel = k; command = command })) → Each P (cons_option (issued_at k n o) [])
    one None i = tt
    one (Some command) i = (i, tt)
