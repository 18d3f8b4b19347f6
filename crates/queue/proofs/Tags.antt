-- What a tag tells of its request.
use Rattle.std.proofs.Common.{◌≡◌, ℕ, zero, suc, ◌%◌, ◌<◌, Bool, true, false, cond, leb, List, [], ◌∷◌, length, get_or, refl, sym, ap, ◌∙◌, inl, inr, arith}
use Rattle.std.proofs.lemmas.Bool.{cases_Bool, le-leb, lt-leb}
use Rattle.std.proofs.Math.Nat.{mod-lt}
use Rattle.std.proofs.lemmas.Simd.{get_or-zip2, length-zip2}
use Rattle.sim_base.specs.declared.message.Access.TheVariants as access
use Rattle.sim_base.specs.declared.message.Access.{Access}
use Rattle.queue.specs.declared.request_log.Arrived.{Arrived}
use Rattle.queue.specs.Marks.{is_marked}
use Rattle.queue.specs.Log.{absent, eligible_column}
use Rattle.queue.specs.Columns.{bank_number, tag_word, served_tag, tag_of, tag_column}
use Rattle.queue.proofs.Eligible.{length-eligible, marked_waits}

pub length-tags : (log : List Arrived) → length (tag_column log) ≡ length log
unfolding tag_column
length-tags log = length-zip2 (λ a m. tag_of (is_marked m) a) log (eligible_column log) (sym (length-eligible log))

-- the tag at a place is that of the request there
pub tag_there : (log : List Arrived) (k : ℕ) (d : Arrived) → k < length log
    → get_or (tag_column log) k 0 ≡ tag_of (is_marked (get_or (eligible_column log) k 0)) (get_or log k d)
unfolding tag_column
tag_there log k d within = get_or-zip2 (λ a m. tag_of (is_marked m) a) log (eligible_column log) k d 0 0 within (omega (arith, length-eligible log))

eligible_word : (access : Access) (bank : ℕ) → leb 128 (tag_word true access bank) ≡ true
eligible_word access.Write bank = le-leb 128 (tag_word true access.Write bank) (omega arith)
eligible_word access.Read bank = le-leb 128 (tag_word true access.Read bank) (omega arith)

ineligible_word : (access : Access) (bank : ℕ) → leb 128 (tag_word false access bank) ≡ false
ineligible_word access.Write bank = let small : bank % 64 < 64 = mod-lt bank (omega arith) in lt-leb 128 (tag_word false access.Write bank) (omega (arith, small))
ineligible_word access.Read bank = let small : bank % 64 < 64 = mod-lt bank (omega arith) in lt-leb 128 (tag_word false access.Read bank) (omega (arith, small))

is_eligible_tag : (a : Arrived) (eligible : Bool) → (eligible ≡ true → a.waits ≡ true) → leb 128 (tag_of eligible a) ≡ eligible
is_eligible_tag a true waits = ap (λ b. leb 128 (cond b (tag_word true a.request.access (bank_number a.request.place)) served_tag)) (waits refl) ∙ eligible_word a.request.access (bank_number a.request.place)
is_eligible_tag a false waits = elim (cases_Bool a.waits) [
  | inl does ↦ ap (λ b. leb 128 (cond b (tag_word false a.request.access (bank_number a.request.place)) served_tag)) does ∙ ineligible_word a.request.access (bank_number a.request.place)
  | inr not ↦ ap (λ b. leb 128 (cond b (tag_word false a.request.access (bank_number a.request.place)) served_tag)) not
]

any-default : (xs : List ℕ) (k d e : ℕ) → k < length xs → get_or xs k d ≡ get_or xs k e
any-default [] k d e within = absurd (omega (arith, within))
any-default (x ∷ xs) zero d e within = refl
any-default (x ∷ xs) (suc k) d e within = any-default xs k d e (omega (arith, within))

-- bit 7 of a tag tells whether the request may be served
pub is_eligible_in : (log : List Arrived) (k d : ℕ) → k < length log → leb 128 (get_or (tag_column log) k d) ≡ is_marked (get_or (eligible_column log) k 0)
is_eligible_in log k d within =
    ap (leb 128) (any-default (tag_column log) k d 0 (omega (arith, within, length-tags log)) ∙ tag_there log k absent within)
    ∙ is_eligible_tag (get_or log k absent) (is_marked (get_or (eligible_column log) k 0)) (marked_waits log k absent within)
