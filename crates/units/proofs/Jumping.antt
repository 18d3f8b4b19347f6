-- A machine goes on to a cycle that is not past any of its wake words: no unit is touched, and the links stay as they
-- are.
use Rattle.std.proofs.Common.{◌≡◌, ℕ, zero, suc, ◌+◌, ◌-◌, ◌<◌, ◌≤◌, List, [], ◌∷◌, ◌++◌, length, replicate, get_or, ◌⊎◌, inl, inr, refl, sym, ap, subst, ◌∙◌, add-zero, append-nil, arith}
use Rattle.std.specs.Prelude.{filter, fold, All}
use Rattle.std.proofs.lemmas.Bool.{cases_lt}
use Rattle.std.proofs.lemmas.List.{length-replicate, get_or-replicate, get_or_append_left, get_or_default}
use Rattle.std.proofs.lemmas.Option.{slice_get-get_or}
use Rattle.std.proofs.Math.Seq.{get_or-append_seam}
use Rattle.sim_base.specs.History.{by_age, insert_by_age, is_to, messages}
use Rattle.sim_base.specs.declared.message.Unit.{Unit as MachineUnit}
use Rattle.units.proofs.SpanLaws.Arrivals.{mail-sent}
use Rattle.units.specs.SpanLaws.Mail.{arriving}
use Rattle.sim_base.specs.Locality.{TravelsFor}
use Rattle.sim_base.specs.declared.message.Message.{Message}
use Rattle.sim_base.proofs.Below.{flat_map_below_same}
use Rattle.sim_base.proofs.Added.{length-push_suc}
use Rattle.statistics.proofs.RunSteps.{travels}
use Rattle.laws.proofs.Sent.{flat_map-none}
use Rattle.links.specs.InFlight.{InFlight, is_due}
use Rattle.units.specs.Flight.{fresh, left, among, sent_by}
use Rattle.units.specs.Parts.{IsPart, IsSim}
use Rattle.links.specs.Buffers.{later_of}
use Rattle.units.specs.declared.part.UnitState.{UnitState}
use Rattle.units.specs.Units.{unit_at, unit_count}
use Rattle.units.proofs.Due.{left-all, left-none, left-more, exists-at}
use Rattle.units.proofs.Joining.{all-sent, fresh-is, join-flight}
use Rattle.units.specs.Wakes.{AreBetweenPhases, IsStill, sent_in, HasGoneOn, AreTimedUnits, UnitWithWord, Waits, unit_with_word, unit_with_word_at, WaitAll}
use Rattle.units.specs.declared.timed_unit.TimedUnit.{TimedUnit}
use Rattle.units.proofs.Sharing.{among-all}
use Rattle.units.specs.declared.machine.Machine.{Machine}
use Rattle.units.specs.Runs.{run_of, flight_at, sent_at}
use Rattle.units.proofs.Waiting.{awake-waits, due-flight, known-phase, none-taken, untouched, untouched-none}
use Rattle.sim_base.proofs.Lists.{some-of}

-- in no cycles nothing is sent
fresh-none : (machine : Machine) (now place : ℕ) → fresh machine now now place ≡ []
fresh-none machine now place = fresh-is machine now now place [] (sym (append-nil (sent_at machine now (unit_at machine.config place))))

pub sent_by-none : (machine : Machine) (now first count : ℕ) → sent_by machine now now first count ≡ []
sent_by-none machine now first count = flat_map-none (λ i. fresh machine now now (first + i)) count (λ i l. fresh-none machine now (first + i))

pub sent_in-none : (machine : Machine) (now : ℕ) → sent_in machine now now ≡ []
sent_in-none machine now = flat_map-none (fresh machine now now) (unit_count machine.config) (λ i l. fresh-none machine now i)

-- A unit waits, and may be left alone up to a cycle.
pub record RestsTo (machine : Machine) (now until : ℕ) (u : MachineUnit) : Type 0 where
  pub unit_with_word : UnitWithWord
  pub wakes : until ≤ unit_with_word.wake
  pub waits : Waits machine u now now unit_with_word

-- all units of a machine wait, and may be left alone up to a cycle
abbrev pub AllRest : Machine → ℕ → ℕ → Type 0
AllRest machine now until = (place : ℕ) → place < unit_count machine.config → RestsTo machine now until (unit_at machine.config place)

-- where nothing is sent, all messages are those that were there before
still-messages : (machine : Machine) (now then : ℕ) → IsStill machine now then → messages machine.config machine.traces.items (run_of machine then) ≡ messages machine.config machine.traces.items (run_of machine now)
still-messages machine now then h =
    sym (all-sent machine.config machine.traces.items then)
    ∙ flat_map_below_same (λ i. sent_at machine then (unit_at machine.config i)) (λ i. sent_at machine now (unit_at machine.config i)) (unit_count machine.config) h.sent
    ∙ all-sent machine.config machine.traces.items now

-- a unit that waits waits on, up to its word, where nothing is sent
pub still-waits : (machine : Machine) (u : MachineUnit) (now then : ℕ) (unit_with_word : UnitWithWord) → Waits machine u now now unit_with_word → IsStill machine now then → now ≤ then → then ≤ unit_with_word.wake
    → Waits machine u then then unit_with_word
still-waits machine u now then unit_with_word h still l w =
    record {
      behind = omega (arith, h.behind, l);
      ahead = w;
      stands = h.stands;
      may = record {
        silent = h.may.silent;
        none = mail-sent machine.config machine.traces.items unit_with_word.at unit_with_word.wake u then
            ∙ ap (λ ms. by_age (arriving unit_with_word.at unit_with_word.wake (filter (is_to machine.config u) ms))) (still-messages machine now then still)
            ∙ sym (mail-sent machine.config machine.traces.items unit_with_word.at unit_with_word.wake u now)
            ∙ h.may.none;
      };
    }

-- a phase in which no unit is woken
sleep-span : (machine : Machine) (now then until : ℕ) → AllRest machine now until → now ≤ then → then ≤ until → TravelsFor machine.config (then - now) → IsStill machine now then
sleep-span machine now then until h l m t =
    record { sent = λ k less. (has_run k less).sent ∙ append-nil (sent_at machine now (unit_at machine.config k)); flight = same }
  where
    flying : List Message
    flying = flight_at machine now

    has_run : (k : ℕ) (less : k < unit_count machine.config) → HasGoneOn machine (unit_at machine.config k) now now then (h k less).unit_with_word []
    has_run k less = untouched machine (unit_at machine.config k) now now then (h k less).unit_with_word (exists-at machine.config k less) l (known-phase machine now then (unit_at machine.config k) l t) (omega (arith, m, (h k less).wakes)) (h k less).waits

    sends-none : (k : ℕ) → k < unit_count machine.config → fresh machine now then k ≡ []
    sends-none k less = fresh-is machine now then k [] (has_run k less).sent

    none-comes : (k : ℕ) → k < unit_count machine.config → filter (is_due machine.config.channels (unit_at machine.config k) now then) flying ≡ []
    none-comes k less = due-flight machine.config machine.traces.items now now then (unit_at machine.config k) (omega arith) ∙ untouched-none machine (unit_at machine.config k) now now then (h k less).unit_with_word (omega (arith, m, (h k less).wakes)) (h k less).waits

    none-left : (k : ℕ) → k ≤ unit_count machine.config → left machine.config now then k flying ≡ flying
    none-left zero less = left-none machine.config now then flying
    none-left (suc k) less =
        sym (left-more machine.config now then k flying)
        ∙ ap (filter _) (none-left k (omega (arith, less)))
        ∙ none-taken (is_due machine.config.channels (unit_at machine.config k) now then) flying (none-comes k (omega (arith, less)))

    same : flight_at machine then ≡ flying
    same =
        sym (join-flight machine now then l t)
        ∙ ap (fold insert_by_age (later_of then flying)) (flat_map-none (fresh machine now then) (unit_count machine.config) sends-none)
        ∙ sym (left-all machine.config machine.traces.items now then)
        ∙ none-left (unit_count machine.config) (omega arith)

-- any number of cycles, one after the other, in which no unit is woken
sleep-cycles : (machine : Machine) (now until : ℕ) → AllRest machine now until → (n : ℕ) → now + n ≤ until → IsStill machine now (now + n)
sleep-cycles machine now until h zero m = subst (IsStill machine now) (sym (add-zero now)) (record { sent = λ k less. refl; flight = refl })
sleep-cycles machine now until h (suc n) m =
    let before = sleep-cycles machine now until h n (omega (arith, m)) in
    let one : (now + suc n) - (now + n) ≡ 1 = omega arith in
    let rest : AllRest machine (now + n) until = λ k less.
    let r = h k less in
    record { unit_with_word = r.unit_with_word; wakes = r.wakes; waits = still-waits machine (unit_at machine.config k) now (now + n) r.unit_with_word r.waits before (omega arith) (omega (arith, m, r.wakes)) } in
    let then = sleep-span machine (now + n) (now + suc n) until rest (omega arith) m (subst (TravelsFor machine.config) (sym one) (travels machine.config)) in
    record { sent = λ k less. then.sent k less ∙ before.sent k less; flight = then.flight ∙ before.flight }

pub sleep-on : (machine : Machine) (now then : ℕ) → AllRest machine now then → now ≤ then → IsStill machine now then
sleep-on machine now then h l =
    let e : now + (then - now) ≡ then = omega (arith, l) in
    subst (IsStill machine now) e (sleep-cycles machine now then h (then - now) (omega (arith, l)))

-- where the units at some places wait at a cycle, that cycle is not past any word
pub waiting-words : (machine : Machine) (first here there : ℕ) (units : List TimedUnit) (words : List ℕ) → length words ≡ length units → WaitAll machine first here there units words
    → All (λ w. here ≤ w) words
waiting-words machine first here there units words count wait k d less =
    let i : k < length units = omega (arith, less, count) in
    let e : get_or words k 0 ≡ get_or words k d = get_or_default words k 0 d less in
    subst (λ w. here ≤ w) e (wait k (some-of units (omega (arith, i))) i).ahead

-- the cycle where units stand is not past any word
pub between_phases-until : (machine : Machine) (first now : ℕ) (units : List TimedUnit) (words : List ℕ) (links : InFlight) → AreBetweenPhases machine first now units words links → All (λ w. now ≤ w) words
between_phases-until machine first now units words links h = waiting-words machine first now now units words h.words_count h.wait

none-first_of : (k : ℕ) → 0 + k ≡ k
none-first_of k = omega arith

-- all units stand where the machine does, and are asked in the next phase
pub awake-sim : (machine : Machine) (now phase : ℕ) (parts : List UnitState) (links : InFlight) (units : List TimedUnit) (words : List ℕ) → IsSim machine now phase parts links
    → AreTimedUnits now parts units → words ≡ replicate (length parts) now → AreBetweenPhases machine 0 now units words links
awake-sim machine now phase parts links units words h e f =
    record {
      early = h.early;
      within = omega (arith, e.count, h.count);
      words_count = ap length f ∙ length-replicate (length parts) now ∙ sym e.count;
      wait = λ k d l.
          let less : k < length parts = omega (arith, l, e.count) in
          let p = some-part parts (omega (arith, less)) in
          let word : get_or words k 0 ≡ now = ap (λ z. get_or z k 0) f ∙ get_or-replicate (length parts) k now 0 less in
          let stands = subst (IsPart machine (unit_at machine.config k) now) (sym (e.parts_are k d p less)) (h.stand k (get_or parts k p) (slice_get-get_or parts k p less)) in
          subst (λ i. Waits machine (unit_at machine.config i) now now (unit_with_word_at units words k d)) (sym (none-first_of k))
          (awake-waits machine (unit_at machine.config k) now (unit_with_word (get_or units k d) (get_or words k 0)) stands (e.stand k d less) word);
      flight = h.flight
          ∙ ap {B = InFlight} (λ z. record { channels = machine.config.channels; messages = z }) (sym (among-all machine.config machine.traces.items now))
          ∙ ap {B = InFlight} (λ n. record { channels = machine.config.channels; messages = among machine.config 0 n (flight_at machine now) }) (sym (none-first_of (length units) ∙ e.count ∙ h.count));
    }
  where
    some-part : (xs : List UnitState) → 0 < length xs → UnitState
    some-part [] l = absurd (omega (arith, l))
    some-part (x ∷ xs) l = x

-- one unit more that stands at a cycle
pub units-push : (now : ℕ) (parts : List UnitState) (units : List TimedUnit) (p : UnitState) (unit : TimedUnit) → AreTimedUnits now parts units → unit.part ≡ p → unit.at ≡ now → AreTimedUnits now (parts ++ p ∷ []) (units ++ unit ∷ [])
units-push now parts units p unit h e f = record {
  count = length-push_suc units unit ∙ ap suc h.count ∙ sym (length-push_suc parts p);
  parts_are = λ k d g l. part-at k d g (omega (arith, l, length-push_suc parts p)) (cases_lt k (length parts));
  stand = λ k d l. at k d (omega (arith, l, length-push_suc parts p)) (cases_lt k (length parts));
}
  where
    part-at : (k : ℕ) (d : TimedUnit) (g : UnitState) → k < suc (length parts) → (k < length parts) ⊎ (length parts ≤ k) → (get_or (units ++ unit ∷ []) k d).part ≡ get_or (parts ++ p ∷ []) k g
    part-at k d g l (inl m) =
        ap (λ (x : TimedUnit). x.part) (get_or_append_left units (unit ∷ []) d k (omega (arith, m, h.count))) ∙ h.parts_are k d g m ∙ sym (get_or_append_left parts (p ∷ []) g k m)
    part-at k d g l (inr m) =
        let last : k ≡ length parts = omega (arith, l, m) in
        ap (λ n. (get_or (units ++ unit ∷ []) n d).part) (last ∙ sym h.count) ∙ ap (λ (x : TimedUnit). x.part) (get_or-append_seam units unit [] d) ∙ e
        ∙ sym (ap (λ n. get_or (parts ++ p ∷ []) n g) last ∙ get_or-append_seam parts p [] g)

    at : (k : ℕ) (d : TimedUnit) → k < suc (length parts) → (k < length parts) ⊎ (length parts ≤ k) → (get_or (units ++ unit ∷ []) k d).at ≡ now
    at k d l (inl m) = ap (λ (x : TimedUnit). x.at) (get_or_append_left units (unit ∷ []) d k (omega (arith, m, h.count))) ∙ h.stand k d m
    at k d l (inr m) =
        let last : k ≡ length parts = omega (arith, l, m) in
        ap (λ n. (get_or (units ++ unit ∷ []) n d).at) (last ∙ sym h.count) ∙ ap (λ (x : TimedUnit). x.at) (get_or-append_seam units unit [] d) ∙ f

pub units-none : (now : ℕ) (units : List TimedUnit) → units ≡ [] → AreTimedUnits now [] units
units-none now units e = record { count = ap length e; parts_are = λ k d g l. absurd (omega (arith, l)); stand = λ k d l. absurd (omega (arith, l)) }
