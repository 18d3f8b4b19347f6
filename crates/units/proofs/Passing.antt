-- Units that are taken over a span, one after the other: some are woken, and those between them are passed over.
use Rattle.std.proofs.Common.{refl, ◌≡◌, ◌≢◌, ℕ, zero, suc, ◌+◌, ◌-◌, ◌<◌, ◌≤◌, List, [], ◌++◌, length, get_or, set, ◌⊎◌, inl, inr, sym, ap, ap₂, subst, ◌∙◌, append-nil, length-set, get_or-set_other, add-zero, add-one, arith}
use Rattle.std.proofs.lemmas.Bool.{cases_lt}
use Rattle.std.proofs.lemmas.Grind.{get_or-set_at}
use Rattle.sim_base.specs.declared.message.Message.{Message}
use Rattle.sim_base.proofs.Below.{flat_map_below_more}
use Rattle.links.specs.InFlight.{InFlight}
use Rattle.units.specs.SpanLaws.Units.{Exists}
use Rattle.units.specs.Flight.{fresh, sent_by}
use Rattle.units.specs.Units.{unit_at, unit_count}
use Rattle.units.specs.Wakes.{AddsWhatItSent, HoldInboxes, HasGoneOn, WaitAll, Waits, links_after, unit_with_word, unit_with_word_at}
use Rattle.units.specs.declared.timed_unit.TimedUnit.{TimedUnit}
use Rattle.units.proofs.Due.{exists-at}
use Rattle.units.proofs.Going.{after-none, left-alone}
use Rattle.units.proofs.Joining.{fresh-is}
use Rattle.units.specs.declared.machine.Machine.{Machine}
use Rattle.units.proofs.Waiting.{untouched}
use Rattle.sim_base.proofs.Lists.{some-of}

-- Of `count` units at places from `first` on, those before `place` have gone over the span, and the others wait; what
-- the first sent stands in the list, and what was due at them is out of the links.
pub record AreTaken (machine : Machine) (first count here there until : ℕ) (units : List TimedUnit) (words : List ℕ) (sent : List Message) (old links : InFlight) (place : ℕ) : Type 0 where
  pub exist : first + count ≤ unit_count machine.config
  pub units_count : length units ≡ count
  pub words_count : length words ≡ count
  pub within : place ≤ count
  pub has_run : (k : ℕ) (d : TimedUnit) → k < place → Waits machine (unit_at machine.config (first + k)) until there (unit_with_word_at units words k d)
  pub wait : (k : ℕ) (d : TimedUnit) → place ≤ k → k < length units → Waits machine (unit_at machine.config (first + k)) here there (unit_with_word_at units words k d)
  pub sent_so_far : sent ≡ sent_by machine here until first place
  pub links_so_far : links ≡ links_after machine.config here until first place old

sent-more : (machine : Machine) (here until first place : ℕ) → sent_by machine here until first (suc place) ≡ sent_by machine here until first place ++ fresh machine here until (first + place)
sent-more machine here until first place = flat_map_below_more (λ i. fresh machine here until (first + i)) place

-- at the beginning none is taken
pub taken-none : (machine : Machine) (first here there until : ℕ) (units : List TimedUnit) (words : List ℕ) (sent : List Message) (links : InFlight)
    → first + length units ≤ unit_count machine.config → length words ≡ length units → WaitAll machine first here there units words → sent ≡ []
    → AreTaken machine first (length units) here there until units words sent links links 0
taken-none machine first here there until units words sent links within count h none =
    record {
      exist = within;
      units_count = refl;
      words_count = count;
      within = omega arith;
      has_run = λ k d l. absurd (omega (arith, l));
      wait = λ k d l m. h k d m;
      sent_so_far = none;
      links_so_far = after-none machine.config here until first links;
    }

-- a unit that is passed over has gone over the span too, untouched: its word is not before the end
passed-one : (machine : Machine) (first count here there until : ℕ) (units : List TimedUnit) (words : List ℕ) (sent : List Message) (old links : InFlight) (place : ℕ) → here ≤ until
    → HoldInboxes machine first count here there until old → place < count → until ≤ get_or words place 0
    → AreTaken machine first count here there until units words sent old links place → AreTaken machine first count here there until units words sent old links (suc place)
passed-one machine first count here there until units words sent old links place l holds_inbox inside w h =
    record {
      exist = h.exist;
      units_count = h.units_count;
      words_count = h.words_count;
      within = omega (arith, inside);
      has_run = λ k d m. goes k d (omega (arith, m)) (cases_lt k place);
      wait = λ k d m less. h.wait k d (omega (arith, m)) less;
      sent_so_far = h.sent_so_far
          ∙ sym (append-nil (sent_by machine here until first place))
          ∙ ap (λ z. sent_by machine here until first place ++ z) (sym (fresh-is machine here until (first + place) [] (on some).sent))
          ∙ sym (sent-more machine here until first place);
      links_so_far = h.links_so_far ∙ left-alone machine first here there until place old (unit_with_word_at units words place some) l (holds_inbox place inside) w (h.wait place some (omega arith) there_is);
    }
  where
    there_is : place < length units
    there_is = omega (arith, inside, h.units_count)

    exists : Exists machine.config (unit_at machine.config (first + place))
    exists = exists-at machine.config (first + place) (omega (arith, inside, h.exist))

    some : TimedUnit
    some = some-of units (omega (arith, there_is))

    on : (d : TimedUnit) → HasGoneOn machine (unit_at machine.config (first + place)) here there until (unit_with_word_at units words place d) []
    on d = untouched machine (unit_at machine.config (first + place)) here there until (unit_with_word_at units words place d) exists l (holds_inbox place inside).known w (h.wait place d (omega arith) there_is)

    goes : (k : ℕ) (d : TimedUnit) → k ≤ place → (k < place) ⊎ (place ≤ k) → Waits machine (unit_at machine.config (first + k)) until there (unit_with_word_at units words k d)
    goes k d m (inl e) = h.has_run k d e
    goes k d m (inr e) =
        let same : place ≡ k = omega (arith, m, e) in
        subst (λ i. Waits machine (unit_at machine.config (first + i)) until there (unit_with_word_at units words i d)) same (on d).waits

passed-some : (machine : Machine) (first count here there until : ℕ) (units : List TimedUnit) (words : List ℕ) (sent : List Message) (old links : InFlight) (from : ℕ) → here ≤ until
    → HoldInboxes machine first count here there until old → AreTaken machine first count here there until units words sent old links from → (n : ℕ) → from + n ≤ count
    → ((k : ℕ) → from ≤ k → k < from + n → until ≤ get_or words k 0) → AreTaken machine first count here there until units words sent old links (from + n)
passed-some machine first count here there until units words sent old links from l holds_inbox h zero within sleep =
    subst (AreTaken machine first count here there until units words sent old links) (sym (add-zero from)) h
passed-some machine first count here there until units words sent old links from l holds_inbox h (suc n) within sleep =
    let e : suc (from + n) ≡ from + suc n = omega arith in
    let before = passed-some machine first count here there until units words sent old links from l holds_inbox h n (omega (arith, within)) (λ k m less. sleep k m (omega (arith, less))) in
    subst (AreTaken machine first count here there until units words sent old links) e
    (passed-one machine first count here there until units words sent old links (from + n) l holds_inbox (omega (arith, within)) (sleep (from + n) (omega arith) (omega arith)) before)

-- all units between two places that are passed over have gone over the span too
pub passed-over : (machine : Machine) (first count here there until : ℕ) (units : List TimedUnit) (words : List ℕ) (sent : List Message) (old links : InFlight) (from to : ℕ) → here ≤ until
    → HoldInboxes machine first count here there until old → AreTaken machine first count here there until units words sent old links from → from ≤ to → to ≤ length words
    → ((k : ℕ) → from ≤ k → k < to → until ≤ get_or words k 0) → AreTaken machine first count here there until units words sent old links to
passed-over machine first count here there until units words sent old links from to l holds_inbox h m within sleep =
    let e : from + (to - from) ≡ to = omega (arith, m) in
    subst (AreTaken machine first count here there until units words sent old links) e
    (passed-some machine first count here there until units words sent old links from l holds_inbox h (to - from) (omega (arith, e, within, h.words_count)) (λ k o less. sleep k o (omega (arith, less, e))))

-- a unit that is woken
pub taken-one : (machine : Machine) (first count here there until : ℕ) (units : List TimedUnit) (words : List ℕ) (sent holds : List Message) (old links after : InFlight) (place : ℕ) (unit : TimedUnit) (wake : ℕ)
    → place < length units → AddsWhatItSent machine (unit_at machine.config (first + place)) here there until (unit_with_word unit wake) sent holds → after ≡ links_after machine.config here until first (suc place) old
    → AreTaken machine first count here there until units words sent old links place
    → AreTaken machine first count here there until (set units place unit) (set words place wake) holds old after (place + 1)
taken-one machine first count here there until units words sent holds old links after place unit wake inside adds out h =
    record {
      exist = h.exist;
      units_count = length-set units place unit ∙ h.units_count;
      words_count = length-set words place wake ∙ h.words_count;
      within = omega (arith, inside, h.units_count);
      has_run = λ k d m. goes k d (omega (arith, m)) (cases_lt k place);
      wait = λ k d m less.
          let other : k ≢ place = omega (arith, m) in
          subst (Waits machine (unit_at machine.config (first + k)) here there) (sym (ap₂ unit_with_word (get_or-set_other units place k unit d other) (get_or-set_other words place k wake 0 other)))
          (h.wait k d (omega (arith, m)) (omega (arith, less, length-set units place unit)));
      sent_so_far = adds.added
          ∙ ap (λ z. z ++ adds.messages) h.sent_so_far
          ∙ ap (λ z. sent_by machine here until first place ++ z) (sym (fresh-is machine here until (first + place) adds.messages adds.has_run.sent))
          ∙ sym (sent-more machine here until first place)
          ∙ ap (sent_by machine here until first) (sym (add-one place));
      links_so_far = out ∙ ap {B = InFlight} (λ k. links_after machine.config here until first k old) (sym (add-one place));
    }
  where
    goes : (k : ℕ) (d : TimedUnit) → k ≤ place → (k < place) ⊎ (place ≤ k) → Waits machine (unit_at machine.config (first + k)) until there (unit_with_word_at (set units place unit) (set words place wake) k d)
    goes k d m (inl e) =
        let other : k ≢ place = omega (arith, e) in
        subst (Waits machine (unit_at machine.config (first + k)) until there)
        (sym (ap₂ unit_with_word (get_or-set_other units place k unit d other) (get_or-set_other words place k wake 0 other)))
        (h.has_run k d e)
    goes k d m (inr e) =
        let same : k ≡ place = omega (arith, m, e) in
        let within : place < length words = omega (arith, inside, h.units_count, h.words_count) in
        subst (λ j. Waits machine (unit_at machine.config (first + j)) until there (unit_with_word_at (set units place unit) (set words place wake) k d)) (sym same)
        (subst (Waits machine (unit_at machine.config (first + place)) until there)
        (sym (ap₂ unit_with_word (get_or-set_at units place k unit d same inside) (get_or-set_at words place k wake 0 same within)))
        adds.has_run.waits)

-- when all are taken
pub taken-all : (machine : Machine) (first count here there until : ℕ) (units : List TimedUnit) (words : List ℕ) (sent : List Message) (old links : InFlight) (place : ℕ)
    → AreTaken machine first count here there until units words sent old links place → length units ≤ place
    → WaitAll machine first until there units words × (links ≡ links_after machine.config here until first count old) × (sent ≡ sent_by machine here until first count)
taken-all machine first count here there until units words sent old links place h l = (
  λ k d less. h.has_run k d (omega (arith, less, l)),
  h.links_so_far ∙ ap {B = InFlight} (λ n. links_after machine.config here until first n old) end,
  h.sent_so_far ∙ ap (sent_by machine here until first) end,
)
  where
    end : place ≡ count
    end = omega (arith, h.within, l, h.units_count)
