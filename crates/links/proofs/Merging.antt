-- Two lists by age, merged.
use Rattle.std.proofs.Common.{ℕ, zero, suc, ◌+◌, ◌<◌, ◌≤◌, ◌≡◌, true, false, ◌&&◌, ltb, length, get_or, take, drop, List, [], ◌∷◌, ◌++◌, append-nil, append_assoc, refl, sym, ap, ap₂, ◌∙◌, subst, inl, inr, ◌⊎◌, arith}
use Rattle.std.specs.Prelude.{fold}
use Rattle.std.specs.List.{AllByRecursion as Each}
use Rattle.std.proofs.lemmas.Bool.{cond-true, cond-false, cases_lt, lt-ltb, true≢false}
use Rattle.std.proofs.lemmas.Bool.Decides.{nat_tests}
use Rattle.std.proofs.lemmas.List.{map-append, drop_more, drop_all, take-append-drop}
use Rattle.sim_base.specs.History.{is_before, insert_by_age, by_age}
use Rattle.sim_base.specs.declared.message.Message.{Message}
use Rattle.sim_base.proofs.Arrived.{put, puts, by_age-puts, fold-puts}
use Rattle.sim_base.proofs.Ordered.{Each-weaker, Sorted, puts-append, Sorted-put}
use Rattle.links.specs.Buffers.{Buffered, contents, joined}
use Rattle.links.proofs.Ages.{in_order-Sorted, by_age-nil, by_age-same, puts-put_first}

puts-head : (x : Message) (acc ys : List Message) → Each (λ (y : Message). is_before y x ≡ false) ys → puts (x ∷ acc) ys ≡ x ∷ puts acc ys
puts-head x acc [] h = refl
puts-head x acc (y ∷ ys) h = ap (λ z. puts z ys) (cond-false _ _ _ h.0) ∙ puts-head x (put y acc) ys h.1

pub after_both : (a b y : Message) → is_before b a ≡ false → is_before y b ≡ false → is_before y a ≡ false
after_both a b y h k = grind (arith, nat_tests)

-- the first message of the second list goes first, where it is older
pub merge_second : (a b : Message) (xs ys : List Message) → by_age (b ∷ ys) ≡ b ∷ ys → is_before b a ≡ true
    → fold insert_by_age (a ∷ xs) (b ∷ ys) ≡ b ∷ fold insert_by_age (a ∷ xs) ys
merge_second a b xs ys s h =
    fold-puts (a ∷ xs) (b ∷ ys)
    ∙ ap (λ z. puts z ys) (cond-true _ _ _ h)
    ∙ puts-head b (a ∷ xs) ys (in_order-Sorted (b ∷ ys) s).0
    ∙ ap (λ z. b ∷ z) (sym (fold-puts (a ∷ xs) ys))

-- otherwise that of the first list does
pub merge_first : (a b : Message) (xs ys : List Message) → by_age (b ∷ ys) ≡ b ∷ ys → is_before b a ≡ false
    → fold insert_by_age (a ∷ xs) (b ∷ ys) ≡ a ∷ fold insert_by_age xs (b ∷ ys)
merge_first a b xs ys s h =
    fold-puts (a ∷ xs) (b ∷ ys)
    ∙ puts-head a xs (b ∷ ys) (h, Each-weaker _ (λ (y : Message). is_before y a ≡ false) (λ y k. after_both a b y h k) ys (in_order-Sorted (b ∷ ys) s).0)
    ∙ ap (λ z. a ∷ z) (sym (fold-puts xs (b ∷ ys)))

pub in_order-tail : (b : Message) (ys : List Message) → by_age (b ∷ ys) ≡ b ∷ ys → by_age ys ≡ ys
in_order-tail b ys s = by_age-same ys (in_order-Sorted (b ∷ ys) s).1

-- what is put in by age can be put in in any number of steps
puts-puts : (acc xs ys : List Message) → Sorted xs → puts acc (puts xs ys) ≡ puts (puts acc xs) ys
puts-puts acc xs [] s = refl
puts-puts acc xs (y ∷ ys) s =
    puts-puts acc (put y xs) ys (Sorted-put y xs s)
    ∙ ap (λ z. puts z ys) (ap (puts acc) (sym (append-nil (put y xs))) ∙ puts-put_first y acc xs [] s tt ∙ ap (λ z. put y (puts acc z)) (append-nil xs))

-- two lists by age, merged, are both of them by age
pub by_age-merge : (xs ys : List Message) → fold insert_by_age (by_age xs) (by_age ys) ≡ by_age (xs ++ ys)
by_age-merge xs ys =
    fold-puts (by_age xs) (by_age ys)
    ∙ ap₂ puts (by_age-puts xs) (by_age-puts ys)
    ∙ puts-puts (puts [] xs) [] ys tt
    ∙ sym (by_age-puts (xs ++ ys) ∙ puts-append [] xs ys)

-- what is merged so far, and what is left of both lists
pub record Merges (i j : ℕ) (xs ys done : List Message) : Type 0 where
  pub first_within : i ≤ length xs
  pub second_within : j ≤ length ys
  pub merged : done ++ fold insert_by_age (drop i xs) (drop j ys) ≡ fold insert_by_age xs ys
  pub in_order : by_age (drop j ys) ≡ drop j ys

pub Merges-start : (xs ys : List Message) → by_age ys ≡ ys → Merges 0 0 xs ys []
Merges-start xs ys h = record { first_within = omega arith; second_within = omega arith; merged = refl; in_order = h }

pub append_one : (x : Message) (done rest all : List Message) → done ++ (x ∷ rest) ≡ all → (done ++ x ∷ []) ++ rest ≡ all
append_one x done rest all h = append_assoc done (x ∷ []) rest ∙ h

pub Merges-second : (i j : ℕ) (d e : Message) (xs ys done : List Message) → i < length xs → j < length ys → Merges i j xs ys done → is_before (get_or ys j e) (get_or xs i d) ≡ true
    → Merges i (j + 1) xs ys (done ++ get_or ys j e ∷ [])
Merges-second i j d e xs ys done l k h b =
    let a = get_or xs i d in
    let c = get_or ys j e in
    let left : drop i xs ≡ a ∷ drop (i + 1) xs = drop_more xs i d l in
    let right : drop j ys ≡ c ∷ drop (j + 1) ys = drop_more ys j e k in
    let order : by_age (c ∷ drop (j + 1) ys) ≡ c ∷ drop (j + 1) ys = subst (λ z. by_age z ≡ z) right h.in_order in
    record {
      first_within = h.first_within;
      second_within = omega arith;
      merged = append_one c done (fold insert_by_age (drop i xs) (drop (j + 1) ys)) _
          (ap (λ z. done ++ z) (ap (λ z. c ∷ fold insert_by_age z (drop (j + 1) ys)) left
          ∙ sym (ap₂ (λ x y. fold insert_by_age x y) left right ∙ merge_second a c (drop (i + 1) xs) (drop (j + 1) ys) order b))
          ∙ h.merged);
      in_order = in_order-tail c (drop (j + 1) ys) order;
    }

pub Merges-first : (i j : ℕ) (d e : Message) (xs ys done : List Message) → i < length xs → j < length ys → Merges i j xs ys done → is_before (get_or ys j e) (get_or xs i d) ≡ false
    → Merges (i + 1) j xs ys (done ++ get_or xs i d ∷ [])
Merges-first i j d e xs ys done l k h b =
    let a = get_or xs i d in
    let c = get_or ys j e in
    let left : drop i xs ≡ a ∷ drop (i + 1) xs = drop_more xs i d l in
    let right : drop j ys ≡ c ∷ drop (j + 1) ys = drop_more ys j e k in
    let order : by_age (c ∷ drop (j + 1) ys) ≡ c ∷ drop (j + 1) ys = subst (λ z. by_age z ≡ z) right h.in_order in
    record {
      first_within = omega arith;
      second_within = h.second_within;
      merged = append_one a done (fold insert_by_age (drop (i + 1) xs) (drop j ys)) _
          (ap (λ z. done ++ z) (ap (λ z. a ∷ fold insert_by_age (drop (i + 1) xs) z) right
          ∙ sym (ap₂ (λ x y. fold insert_by_age x y) left right ∙ merge_first a c (drop (i + 1) xs) (drop (j + 1) ys) order b))
          ∙ h.merged);
      in_order = h.in_order;
    }

-- where nothing is left of one list, the rest is what is left of the other
pub Merges-end : (i j : ℕ) (xs ys done : List Message) → Merges i j xs ys done → (ltb i (length xs) && ltb j (length ys)) ≡ false
    → (done ++ drop i xs) ++ drop j ys ≡ fold insert_by_age xs ys
Merges-end i j xs ys done h b = by (cases_lt i (length xs)) (cases_lt j (length ys))
  where
    by : (i < length xs) ⊎ (length xs ≤ i) → (j < length ys) ⊎ (length ys ≤ j) → (done ++ drop i xs) ++ drop j ys ≡ fold insert_by_age xs ys
    by (inl l) (inl k) = absurd (true≢false (sym (ap₂ (λ x y. x && y) (lt-ltb i (length xs) l) (lt-ltb j (length ys) k)) ∙ b))
    by (inr l) k =
        let none = drop_all i xs l in
        ap (λ z. (done ++ z) ++ drop j ys) none
        ∙ ap (λ z. z ++ drop j ys) (append-nil done)
        ∙ ap (λ z. done ++ z) (sym (fold-puts [] (drop j ys) ∙ sym (by_age-puts (drop j ys)) ∙ h.in_order))
        ∙ ap (λ z. done ++ fold insert_by_age z (drop j ys)) (sym none)
        ∙ h.merged
    by (inl l) (inr k) =
        let none = drop_all j ys k in
        ap (λ z. (done ++ drop i xs) ++ z) none
        ∙ append-nil (done ++ drop i xs)
        ∙ ap (λ z. done ++ fold insert_by_age (drop i xs) z) (sym none)
        ∙ h.merged

-- ---- the buffers
pub joined-append : (xs ys : List (List Message)) → joined (xs ++ ys) ≡ joined xs ++ joined ys
joined-append [] ys = refl
joined-append (x ∷ xs) ys = ap (λ z. x ++ z) (joined-append xs ys) ∙ sym (append_assoc x (joined xs) (joined ys))

-- the messages of two lots of buffers
pub messages_of_both : (xs ys : List Buffered) → fold insert_by_age (by_age (joined (contents xs))) (by_age (joined (contents ys))) ≡ by_age (joined (contents (xs ++ ys)))
messages_of_both xs ys =
    by_age-merge (joined (contents xs)) (joined (contents ys))
    ∙ ap by_age (sym (joined-append (contents xs) (contents ys)) ∙ ap joined (sym (map-append (λ (buffer : Buffered). buffer.items) xs ys)))

pub in_order-take : (i : ℕ) (buffers : List Buffered) → Each (λ ms. by_age ms ≡ ms) (contents buffers) → Each (λ ms. by_age ms ≡ ms) (contents (take i buffers))
in_order-take zero [] h = tt
in_order-take (suc i) [] h = tt
in_order-take zero (r ∷ buffers) h = tt
in_order-take (suc i) (r ∷ buffers) h = (h.0, in_order-take i buffers h.1)

pub in_order-drop : (i : ℕ) (buffers : List Buffered) → Each (λ ms. by_age ms ≡ ms) (contents buffers) → Each (λ ms. by_age ms ≡ ms) (contents (drop i buffers))
in_order-drop zero [] h = tt
in_order-drop (suc i) [] h = tt
in_order-drop zero (r ∷ buffers) h = h
in_order-drop (suc i) (r ∷ buffers) h = in_order-drop i buffers h.1

-- the messages of both halves of the buffers
pub messages_of_halves : (i : ℕ) (xs ys : List Message) (a b buffers : List Buffered) → a ≡ take i buffers → b ≡ drop i buffers → xs ≡ by_age (joined (contents a)) → ys ≡ by_age (joined (contents b))
    → fold insert_by_age xs ys ≡ by_age (joined (contents buffers))
messages_of_halves i xs ys a b buffers e f h k =
    ap₂ (λ x y. fold insert_by_age x y) h k
    ∙ messages_of_both a b
    ∙ ap (λ z. by_age (joined (contents z))) (ap₂ (λ x y. x ++ y) e f ∙ take-append-drop i buffers)

pub messages_of_none : (buffers : List Buffered) → length buffers < 1 → [] ≡ by_age (joined (contents buffers))
messages_of_none [] l = sym by_age-nil
messages_of_none (r ∷ buffers) l = absurd (omega arith)
