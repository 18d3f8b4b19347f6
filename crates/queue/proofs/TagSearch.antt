-- What a search for tags has met.
use Rattle.std.proofs.Common.{◌≡◌, ℕ, ◌+◌, ◌-◌, ◌<◌, Bool, true, false, cond, eqb, Option, Some, None, ◌||◌, ◌&&◌, List, length, get_or, drop, sym, ap, ◌∙◌, inl, inr, arith}
use Rattle.std.proofs.lemmas.Bool.{cases_Bool, cases_lt, and_parts, and_from, eqb-true, eq-eqb, false≢true, false_from_ne_true}
use Rattle.std.proofs.lemmas.List.{get_or-drop}
use Rattle.memchr.specs.Find.{is_byte2, Nowhere, Passes}
use Rattle.sim_base.specs.declared.message.Access.{Access}
use Rattle.sim_base.specs.declared.message.Access.TheVariants as access
use Rattle.sim_base.specs.declared.place.Place.{Place}
use Rattle.std.specs.Prelude.{is_some}
use Rattle.std.proofs.Math.Bool.{or-true}
use Rattle.sim_base.specs.Places.{is_line}
use Rattle.sim_base.specs.Scheduling.{asks_for_line}
use Rattle.queue.specs.Marks.{is_marked}
use Rattle.queue.specs.declared.request_log.Arrived.{Arrived}
use Rattle.queue.specs.Log.{absent, is_for, waiting_requests, eligible_column}
use Rattle.queue.specs.Columns.{bank_number, tag_word, served_tag, tag_of, tag_column}
use Rattle.queue.specs.Lines.{is_tagged_as, NoneTaggedAs, IsFirstTagged}
use Rattle.queue.proofs.SameLine.{line_same}
use Rattle.queue.proofs.Served.{none_asked}
use Rattle.queue.proofs.Tags.{tag_there}
use Rattle.queue.proofs.Waiting.{asks_some}

passes : (eligible : Bool) (w : Access) (bank read write tag : ℕ) → read ≡ tag_word eligible access.Read bank → write ≡ tag_word eligible access.Write bank → tag ≡ tag_word eligible w bank → is_byte2 read write tag ≡ true
passes eligible access.Write bank read write tag read_is write_is tag_is = ap (λ b. eqb tag read || b) (eq-eqb tag write (tag_is ∙ sym write_is)) ∙ or-true (eqb tag read)
passes eligible access.Read bank read write tag read_is write_is tag_is = ap (λ b. b || eqb tag write) (eq-eqb tag read (tag_is ∙ sym read_is))

-- the requests whose tags are passed over are not tagged so
pub none_tagged : (eligible : Bool) (place : Place) (log : List Arrived) (tags hay : List ℕ) (from at n read write : ℕ) → hay ≡ drop at tags → read ≡ tag_word eligible access.Read (bank_number place)
    → write ≡ tag_word eligible access.Write (bank_number place) → NoneTaggedAs eligible place log tags from at → Nowhere (Passes (is_byte2 read write) hay) 0 n → NoneTaggedAs eligible place log tags from (at + n)
none_tagged eligible place log tags hay from at n read write hay_is read_is write_is none others k low high = elim (cases_lt k at) [
  | inl sooner ↦ none k low sooner
  | inr late ↦
      let a = get_or log k absent in
      let tag = get_or tags k 0 in
      let place_is : at + (k - at) ≡ k = omega (arith, late) in
      let there : get_or hay (k - at) 0 ≡ tag = ap (λ xs. get_or xs (k - at) 0) hay_is ∙ get_or-drop at tags (k - at) 0 ∙ ap (λ j. get_or tags j 0) place_is in
      elim (cases_Bool (is_tagged_as eligible place a tag)) [
        | inl tagged ↦
            let parts = and_parts (is_for place a) (eqb tag (tag_word eligible a.request.access (bank_number place))) tagged in
            let same = passes eligible a.request.access (bank_number place) read write (get_or hay (k - at) 0) read_is write_is (there ∙ eqb-true tag _ parts.1) in
            absurd (others (k - at) (omega arith) (omega (arith, high, late)) same)
        | inr other ↦ other
      ]
]

-- no request up to a place is tagged so, with one place more
pub none_further : (eligible : Bool) (place : Place) (log : List Arrived) (tags : List ℕ) (from at : ℕ) → NoneTaggedAs eligible place log tags from at → is_for place (get_or log at absent) ≡ false
    → NoneTaggedAs eligible place log tags from (at + 1)
none_further eligible place log tags from at none here k low high = elim (cases_lt k at) [
  | inl sooner ↦ none k low sooner
  | inr late ↦
      let same : k ≡ at = omega (arith, high, late) in
      ap (λ j. is_tagged_as eligible place (get_or log j absent) (get_or tags j 0)) same
      ∙ ap (λ b. b && eqb (get_or tags at 0) (tag_word eligible (get_or log at absent).request.access (bank_number place))) here
]

-- a request that waits for the line has the tag that tells so
own_tag : (eligible : Bool) (place : Place) (a : Arrived) → is_for place a ≡ true → is_tagged_as eligible place a (tag_of eligible a) ≡ true
own_tag eligible place a here =
    let parts = and_parts a.waits (is_line a.request.place place) here in
    let there = line_same a.request.place place parts.1 in
    let word = tag_word eligible a.request.access (bank_number place) in
    let tag : tag_of eligible a ≡ word =
    (λ i. cond (parts.0 i) (tag_word eligible a.request.access (bank_number (there i))) served_tag) in
    and_from (is_for place a) (eqb (tag_of eligible a) word) here (eq-eqb (tag_of eligible a) word tag)

pub tagged_there : (eligible : Bool) (place : Place) (log : List Arrived) (k : ℕ) → k < length log → is_for place (get_or log k absent) ≡ true → is_marked (get_or (eligible_column log) k 0) ≡ eligible
    → is_tagged_as eligible place (get_or log k absent) (get_or (tag_column log) k 0) ≡ true
tagged_there eligible place log k within here marked =
    let a = get_or log k absent in
    ap (is_tagged_as eligible place a) (tag_there log k absent within ∙ ap (λ m. tag_of m a) marked) ∙ own_tag eligible place a here

-- whether one is found that may be served tells whether the line is asked for
pub found_asked : (place : Place) (log : List Arrived) (tags : List ℕ) (found : Option ℕ) → tags ≡ tag_column log → IsFirstTagged true place log tags 0 found
    → is_some found ≡ asks_for_line place (waiting_requests log)
found_asked place log tags None is none =
    sym
    (none_asked place log
    (λ k within here.
    false_from_ne_true (is_marked (get_or (eligible_column log) k 0))
    (λ marked.
    false≢true
    (sym (none k (omega arith) within) ∙ ap (λ xs. is_tagged_as true place (get_or log k absent) (get_or xs k 0)) is ∙ tagged_there true place log k within here marked))))
found_asked place log tags (Some k) is found = sym (asks_some place log k found.within found.waits)
