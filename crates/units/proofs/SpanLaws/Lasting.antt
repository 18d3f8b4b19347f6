-- How long a run surely lasts: a core retires no more than its width in a cycle, and a message is in flight up to its
-- arrival.
use Rattle.std.proofs.Common.{◌≡◌, ℕ, zero, suc, ◌+◌, ◌-◌, ◌*◌, ◌<◌, ◌≤◌, Bool, true, false, cond, ◌&&◌, ◌||◌, List, [], ◌∷◌, ap, subst, ◌∙◌, add-zero, add-suc, arith}
use Rattle.std.specs.Prelude.{count_by}
use Rattle.std.specs.List.{list_any}
use Rattle.std.proofs.lemmas.Bool.{and_parts, and_from, le-leb, leb-true, false_from_ne_true}
use Rattle.std.proofs.lemmas.List.Folds.{list_any-from_Any}
use Rattle.sim_base.specs.declared.config.Config.{Config}
use Rattle.sim_base.specs.Counts.{in_flight}
use Rattle.sim_base.specs.History.{trace_of, retired_before, messages, inbox}
use Rattle.sim_base.specs.Machine.{run, next_step, is_over}
use Rattle.sim_base.specs.Sends.{sends}
use Rattle.sim_base.specs.Windows.{step}
use Rattle.sim_base.specs.declared.message.Message.{Message}
use Rattle.sim_base.specs.declared.message.Unit.TheVariants.{Core}
use Rattle.sim_base.specs.declared.trace.Entry.{Entry}
use Rattle.sim_base.proofs.Lists.{count-cons}
use Rattle.statistics.proofs.CoreCounts.{retired_before-push}
use Rattle.statistics.proofs.RunSteps.{steps_of_core-next}
use Rattle.laws.proofs.Counting.{count-filter, count-weaker}
use Rattle.laws.proofs.Sent.{count-by_age, count-messages}
use Rattle.units.specs.SpanLaws.Cores.{core_steps_of}
use Rattle.units.specs.SpanLaws.Ends.{RetiresByWidth, FlightStays, LastsForTrace, LastsForFlight}
use Rattle.units.proofs.SpanLaws.Flights.{not_before, in_flight-late}
use Rattle.units.proofs.SpanLaws.Over.{over-is_seen}
use Rattle.statistics.proofs.KeepsToTrace.{retires-le}

-- in one cycle
retired-next : (s : Config) (traces : List (List Entry)) (n core : ℕ) → core < s.cores
    → retired_before (core_steps_of s traces (suc n) core) ≤ retired_before (core_steps_of s traces n core) + s.width
unfolding step
retired-next s traces n core l =
    let steps = core_steps_of s traces n core in
    let mail = inbox s traces (run s traces n) (Core core) in
    let row = (step s core (trace_of traces core) steps mail).0 in
    let e : retired_before (core_steps_of s traces (suc n) core) ≡ retired_before steps + row.retired =
    ap retired_before (steps_of_core-next s traces n core l) ∙ retired_before-push steps row in
    let few : row.retired ≤ s.width = omega (arith, retires-le s (trace_of traces core) steps mail) in
    omega arith

-- in some cycles
retired-later : (s : Config) (traces : List (List Entry)) (from core : ℕ) → core < s.cores → (n : ℕ)
    → retired_before (core_steps_of s traces (from + n) core) ≤ retired_before (core_steps_of s traces from core) + s.width * n
retired-later s traces from core l zero =
    let e : retired_before (core_steps_of s traces (from + 0) core) ≡ retired_before (core_steps_of s traces from core) = ap (λ i. retired_before (core_steps_of s traces i core)) (add-zero from) in
    omega arith
retired-later s traces from core l (suc n) =
    let e : retired_before (core_steps_of s traces (from + suc n) core) ≡ retired_before (core_steps_of s traces (suc (from + n)) core) =
    ap (λ i. retired_before (core_steps_of s traces i core)) (add-suc from n) in
    let most : s.width * suc n ≡ s.width * n + s.width = grind arith in
    let before = retired-later s traces from core l n in
    let then = retired-next s traces (from + n) core l in
    omega (arith, e, most, before, then)

pub retires-by_width : (s : Config) (traces : List (List Entry)) (from until : ℕ) → RetiresByWidth s traces from until
retires-by_width s traces from until core l k =
    let e : from + (until - from) ≡ until = omega arith in
    subst (λ i. retired_before (core_steps_of s traces i core) ≤ retired_before (core_steps_of s traces from core) + s.width * (until - from)) e
    (retired-later s traces from core l (until - from))

-- what is sent stays sent
count-later : (p : Message → Bool) (s : Config) (traces : List (List Entry)) (from n : ℕ) → count_by p (messages s traces (run s traces from)) ≤ count_by p (messages s traces (run s traces (from + n)))
unfolding run
count-later p s traces from zero =
    let e : count_by p (messages s traces (run s traces (from + 0))) ≡ count_by p (messages s traces (run s traces from)) = ap (λ i. count_by p (messages s traces (run s traces i))) (add-zero from) in
    omega arith
count-later p s traces from (suc n) =
    let history = run s traces (from + n) in
    let e : count_by p (messages s traces (run s traces (from + suc n))) ≡ count_by p (messages s traces (run s traces (suc (from + n)))) =
    ap (λ i. count_by p (messages s traces (run s traces i))) (add-suc from n) in
    let more : count_by p (messages s traces (run s traces (suc (from + n)))) ≡ count_by p (messages s traces history) + count_by p (sends s traces history (next_step s traces history)) =
    count-messages p s traces history (next_step s traces history) in
    let before = count-later p s traces from n in
    omega (arith, e, more, before)

-- what arrives in a cycle or later is in flight there just if it was sent
count-late : (p : Message → Bool) (s : Config) (traces : List (List Entry)) (now : ℕ) → ((m : Message) → p m ≡ true → now ≤ m.arrival)
    → count_by p (in_flight s traces (run s traces now)) ≡ count_by p (messages s traces (run s traces now))
count-late p s traces now late =
    let sent = messages s traces (run s traces now) in
    let q = not_before now in
    let a : count_by p (in_flight s traces (run s traces now)) ≡ count_by (λ m. q m && p m) sent =
    ap (count_by p) (in_flight-late s traces now) ∙ count-by_age p _ ∙ count-filter q p sent in
    let b = count-weaker (λ m. q m && p m) p (λ m h. (and_parts (q m) (p m) h).1) sent in
    let c = count-weaker p (λ m. q m && p m) (λ m h. and_from (q m) (p m) (le-leb now m.arrival (late m h)) h) sent in
    omega (arith, a, b, c)

pub flight-stays : (s : Config) (traces : List (List Entry)) (from until : ℕ) → FlightStays s traces from until
flight-stays s traces from until p l late =
    let e : from + (until - from) ≡ until = omega arith in
    let more = subst (λ i. count_by p (messages s traces (run s traces from)) ≤ count_by p (messages s traces (run s traces i))) e (count-later p s traces from (until - from)) in
    let before = count-late p s traces from (λ m h. let k = late m h in omega arith) in
    let then = count-late p s traces until late in
    omega (arith, more, before, then)

pub lasts-for_trace : (s : Config) (traces : List (List Entry)) (from until : ℕ) → LastsForTrace s traces from until
lasts-for_trace s traces from until core l k short =
    false_from_ne_true (is_over s traces (run s traces until))
    (λ over.
    let few = retires-by_width s traces from until core l k in
    let all = ((over-is_seen s traces until).0 over).0 core l in
    absurd (omega (arith, few, all, short)))

any-counted : {X : Type 0} (p : X → Bool) (xs : List X) → list_any p xs ≡ true → 0 < count_by p xs
any-counted p [] h = cc
any-counted p (x ∷ xs) h = go (p x) (count-cons p x xs) h (any-counted p xs)
  where
    go : (b : Bool) → count_by p (x ∷ xs) ≡ cond b 1 0 + count_by p xs → (b || list_any p xs) ≡ true → (list_any p xs ≡ true → 0 < count_by p xs) → 0 < count_by p (x ∷ xs)
    go true e k rest = omega arith
    go false e k rest = let more = rest k in omega arith

pub lasts-for_flight : (s : Config) (traces : List (List Entry)) (from until : ℕ) → LastsForFlight s traces from until
lasts-for_flight s traces from until l some =
    let p = not_before until in
    let there : 0 < count_by p (in_flight s traces (run s traces from)) =
    any-counted p _ (list_any-from_Any p (in_flight s traces (run s traces from)) (some.0, some.1, some.2, some.3, le-leb until _ some.4)) in
    let stays = flight-stays s traces from until p l (λ m h. leb-true until m.arrival h) in
    false_from_ne_true (is_over s traces (run s traces until))
    (λ over.
    let none = ap (count_by p) ((over-is_seen s traces until).0 over).1 in
    absurd (omega (arith, there, stays, none)))
