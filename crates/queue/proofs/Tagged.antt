-- A search by the tags of requests.
use Rattle.std.proofs.Common.{◌≡◌, ℕ, ◌+◌, ◌-◌, ◌*◌, ◌%◌, ◌<◌, ◌≤◌, Bool, true, false, cond, ◌&&◌, eqb, eq-eqb, List, length, get_or, drop, Option, Some, None, refl, sym, ap, ◌∙◌, inl, inr, arith}
use Rattle.std.proofs.lemmas.Bool.{cases_Bool, cases_lt, and_parts, eqb-true, false_from_ne_true}
use Rattle.std.proofs.lemmas.List.{get_or-drop}
use Rattle.sim_base.specs.Access.{is_access}
use Rattle.sim_base.specs.declared.message.Access.{Access}
use Rattle.sim_base.specs.declared.message.Access.TheVariants as access
use Rattle.queue.specs.declared.request_log.Arrived.{Arrived}
use Rattle.queue.specs.Marks.{write_bit, is_marked}
use Rattle.queue.specs.Log.{absent, eligible_column}
use Rattle.queue.specs.Columns.{bank_number, tag_word, served_tag, tag_of, tag_column}
use Rattle.queue.proofs.Eligible.{marked_waits}
use Rattle.queue.proofs.Tags.{length-tags, tag_there}
use Rattle.queue.specs.Candidates.{asks, wants}
use Rattle.queue.specs.Moves.{NonePassesBefore}
use Rattle.queue.proofs.OneBank.{same_access}
use Rattle.queue.proofs.Searches.{here_is, and_weaker}

pub same_length : (tags : List ℕ) (log : List Arrived) → tags ≡ tag_column log → length tags ≡ length log
same_length tags log is = ap length is ∙ length-tags log

wants_asks : (bank : ℕ) (access : Access) (row : Option ℕ) (a : Arrived) → asks bank access a.request ≡ false → wants bank access row a.request ≡ false
wants_asks bank access None a none = none
wants_asks bank access (Some row) a none = ap (λ b. b && eqb a.request.place.row row) none

-- a request that may be served has the tag of its bank and access
asked_tag : (bank : ℕ) (access : Access) (log : List Arrived) (k : ℕ) → k < length log → is_marked (get_or (eligible_column log) k 0) ≡ true
    → asks bank access (get_or log k absent).request ≡ true → get_or (tag_column log) k 0 ≡ tag_word true access bank
asked_tag bank access log k exists marked asked =
    let a = get_or log k absent in
    let parts = and_parts (eqb (bank_number a.request.place) bank) (is_access access a.request.access) asked in
    let bank_is : bank_number a.request.place ≡ bank = eqb-true (bank_number a.request.place) bank parts.0 in
    let access_is : a.request.access ≡ access = same_access access a.request.access parts.1 in
    let waits : a.waits ≡ true = marked_waits log k absent exists marked in
    tag_there log k absent exists ∙ (λ i. cond (waits i) (tag_word (marked i) (access_is i) (bank_is i)) served_tag)

-- where the tag is another one, none stands that may be served and asks for the bank
untagged : (bank : ℕ) (access : Access) (log : List Arrived) (k : ℕ) → k < length log → (eqb (get_or (tag_column log) k 0) (tag_word true access bank) ≡ true → ⊥)
    → (is_marked (get_or (eligible_column log) k 0) && asks bank access (get_or log k absent).request) ≡ false
untagged bank access log k exists apart =
    let m = is_marked (get_or (eligible_column log) k 0) in
    let asked = asks bank access (get_or log k absent).request in
    false_from_ne_true (m && asked) (λ is.
    let parts = and_parts m asked is in
    apart (eq-eqb (get_or (tag_column log) k 0) (tag_word true access bank) (asked_tag bank access log k exists parts.0 parts.1)))

-- the requests whose tags are passed over are not wanted
pub none_tagged : (bank : ℕ) (access : Access) (row : Option ℕ) (log : List Arrived) (tags left : List ℕ) (tag at end : ℕ) → tags ≡ tag_column log → left ≡ drop at tags
    → tag ≡ tag_word true access bank → NonePassesBefore (wants bank access row) log at → ((k : ℕ) → 0 ≤ k → k < end → eqb (get_or left k 0) tag ≡ true → ⊥)
    → NonePassesBefore (wants bank access row) log (at + end)
none_tagged bank access row log tags left tag at end is left_is tag_is none others k d below exists = elim (cases_lt k at) [
  | inl sooner ↦ none k d sooner exists
  | inr late ↦
      let a = get_or log k absent in
      let m = is_marked (get_or (eligible_column log) k 0) in
      let place_is : at + (k - at) ≡ k = omega arith in
      let read : get_or left (k - at) 0 ≡ get_or (tag_column log) k 0 =
      ap (λ xs. get_or xs (k - at) 0) left_is ∙ get_or-drop at tags (k - at) 0 ∙ ap (λ j. get_or tags j 0) place_is ∙ ap (λ xs. get_or xs k 0) is in
      here_is (wants bank access row) log k absent d exists
      ∙ and_weaker m (wants bank access row a.request) (asks bank access a.request) (wants_asks bank access row a)
      (untagged bank access log k exists (λ same. others (k - at) (omega arith) (omega arith) ((λ i. eqb (read i) (tag_is i)) ∙ same)))
]

small : (w : Access) → write_bit w < 2
small access.Read = omega arith
small access.Write = omega arith

-- only a request that may be served has a tag that tells so
same_word_eligible : (e : Bool) (w v : Access) (a b : ℕ) → tag_word e w a ≡ tag_word true v b → e ≡ true
same_word_eligible true w v a b same = refl
same_word_eligible false w v a b same = absurd (apart (write_bit w) (write_bit v) (small w) same)
  where
    apart : (m n : ℕ) → m < 2 → (0 * 2 + m) * 64 + a % 64 ≡ (1 * 2 + n) * 64 + b % 64 → ⊥
    apart m n few same = omega arith

same_tag_eligible : (e : Bool) (a : Arrived) (v : Access) (b : ℕ) → tag_of e a ≡ tag_word true v b → e ≡ true
same_tag_eligible e a v b same = elim (cases_Bool a.waits) [
  | inl waits ↦
      same_word_eligible e a.request.access v (bank_number a.request.place) b
      (sym (ap (λ w. cond w (tag_word e a.request.access (bank_number a.request.place)) served_tag) waits) ∙ same)
  | inr served ↦
      absurd (apart (write_bit v) (sym (ap (λ w. cond w (tag_word e a.request.access (bank_number a.request.place)) served_tag) served) ∙ same))
]
  where
    apart : (n : ℕ) → 127 ≡ (1 * 2 + n) * 64 + b % 64 → ⊥
    apart n same = omega arith

pub marked_tag : (bank : ℕ) (access : Access) (log : List Arrived) (tags left : List ℕ) (tag at next : ℕ) → tags ≡ tag_column log → left ≡ drop at tags
    → tag ≡ tag_word true access bank → at + next < length log → eqb (get_or left next 0) tag ≡ true → is_marked (get_or (eligible_column log) (at + next) 0) ≡ true
marked_tag bank access log tags left tag at next is left_is tag_is exists same =
    let place = at + next in
    let a = get_or log place absent in
    let read : get_or left next 0 ≡ tag_of (is_marked (get_or (eligible_column log) place 0)) a =
    ap (λ xs. get_or xs next 0) left_is ∙ get_or-drop at tags next 0 ∙ ap (λ xs. get_or xs place 0) is ∙ tag_there log place absent exists in
    same_tag_eligible (is_marked (get_or (eligible_column log) place 0)) a access bank (sym read ∙ eqb-true (get_or left next 0) tag same ∙ tag_is)
