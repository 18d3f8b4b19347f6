-- Buffers with room for those of some messages that go to them.
use Rattle.std.proofs.Common.{ℕ, zero, suc, ◌+◌, ◌<◌, ◌≤◌, ◌≡◌, Bool, true, false, cond, eqb, List, [], ◌∷◌, length, get_or, set, take, drop, add-zero, refl, sym, ap, ◌∙◌, subst, inl, inr, ◌⊎◌, arith}
use Rattle.std.proofs.lemmas.Bool.{cases_lt, eqb-true, eq-eqb, false≢true}
use Rattle.std.proofs.lemmas.List.{drop_more}
use Rattle.std.proofs.lemmas.List.Sums.{sum_by-cons, count_by-le-length, count_by_more_yes, count_by_more_no}
use Rattle.sim_base.specs.declared.message.Message.{Message}
use Rattle.links.specs.Buffers.{Buffered, empty_buffer, buffer_to, goes_to, count_to, HasRoom, HaveRoom, CanTakeUp, Grows}
use Rattle.links.proofs.Room.{TakesUp, HasRoom-set, HasRoom-less, any_default}

count_to-cons : (ch n : ℕ) (m : Message) (ms : List Message) → count_to ch n (m ∷ ms) ≡ cond (eqb (buffer_to ch m) n) 1 0 + count_to ch n ms
count_to-cons ch n m ms = sum_by-cons (λ y. cond (goes_to ch n y) 1 0) m ms

counted : (ch n : ℕ) (m : Message) (ms : List Message) → eqb (buffer_to ch m) n ≡ true → count_to ch n (m ∷ ms) ≡ count_to ch n ms + 1
counted ch n m ms e = count_to-cons ch n m ms ∙ ap (λ b. cond b 1 0 + count_to ch n ms) e ∙ omega arith

passed : (ch n : ℕ) (m : Message) (ms : List Message) → eqb (buffer_to ch m) n ≡ false → count_to ch n (m ∷ ms) ≡ count_to ch n ms
passed ch n m ms e = count_to-cons ch n m ms ∙ ap (λ b. cond b 1 0 + count_to ch n ms) e ∙ omega arith

-- a buffer that one of the messages goes to has the room that each of their buffers has
room_of_one : (ch more n : ℕ) (buffers : List Buffered) (ms : List Message) → HaveRoom ch buffers more ms → 0 < count_to ch n ms → HasRoom buffers n more
room_of_one ch more n buffers [] h l = absurd (omega arith)
room_of_one ch more n buffers (m ∷ ms) h l = by (eqb (buffer_to ch m) n) refl (λ e. room_of_one ch more n buffers ms h.1 (subst (λ k. 0 < k) (passed ch n m ms e) l))
  where
    by : (t : Bool) → eqb (buffer_to ch m) n ≡ t → (eqb (buffer_to ch m) n ≡ false → HasRoom buffers n more) → HasRoom buffers n more
    by true e rest = subst (λ k. HasRoom buffers k more) (eqb-true _ _ e) h.0
    by false e rest = rest e

-- where the buffer of each message has room for all of them
pub can_take_up : (ch : ℕ) (buffers : List Buffered) (ms : List Message) → HaveRoom ch buffers (length ms) ms → CanTakeUp ch buffers ms
can_take_up ch buffers ms h n l =
    let room = room_of_one ch (length ms) n buffers ms h l in
    record { exists = room.exists; room = omega (arith, room.room, count_by-le-length (goes_to ch n) ms) }

get_or_past : (n : ℕ) (counts : List ℕ) → length counts ≤ n → get_or counts n 0 ≡ 0
get_or_past n [] l = refl
get_or_past zero (c ∷ counts) l = absurd (omega arith)
get_or_past (suc n) (c ∷ counts) l = get_or_past n counts (omega arith)

-- where each buffer has room for as many as are counted for it
pub counted_room : (ch : ℕ) (buffers : List Buffered) (ms : List Message) (counts : List ℕ) → ((n : ℕ) → get_or counts n 0 ≡ count_to ch n ms)
    → ((n : ℕ) → n < length counts → HasRoom buffers n (get_or counts n 0)) → CanTakeUp ch buffers ms
counted_room ch buffers ms counts at room n l = subst (HasRoom buffers n) (at n) (room n (by (cases_lt n (length counts))))
  where
    by : (n < length counts) ⊎ (length counts ≤ n) → n < length counts
    by (inl k) = k
    by (inr k) = absurd (omega (arith, l, at n, get_or_past n counts k))

-- a buffer takes the first of the messages up
room_after : (ch i : ℕ) (m : Message) (d b : Buffered) (buffers : List Buffered) (ms : List Message) → i < length buffers → d ≡ get_or buffers i d → TakesUp m d b
    → i ≡ buffer_to ch m → CanTakeUp ch buffers (m ∷ ms) → CanTakeUp ch (set buffers i b) ms
room_after ch i m d b buffers ms l at up e h n k = by (eqb (buffer_to ch m) n) refl
  where
    by : (t : Bool) → eqb (buffer_to ch m) n ≡ t → HasRoom (set buffers i b) n (count_to ch n ms)
    by true f =
        HasRoom-less i n (count_to ch n (m ∷ ms)) (count_to ch n ms) m d b buffers l at up (counted ch n m ms f) (h n (omega (arith, counted ch n m ms f)))
    by false f =
        HasRoom-set i n (count_to ch n ms) b buffers (λ g. absurd (false≢true (sym f ∙ eq-eqb _ _ (sym e ∙ g))))
        (subst (HasRoom buffers n) (passed ch n m ms f) (h n (omega (arith, passed ch n m ms f, k))))

pub room_left : (ch i j : ℕ) (x : Message) (d b : Buffered) (buffers : List Buffered) (ms : List Message) → j < length ms → i < length buffers → d ≡ get_or buffers i d
    → TakesUp (get_or ms j x) d b → i ≡ buffer_to ch (get_or ms j x) → CanTakeUp ch buffers (drop j ms) → CanTakeUp ch (set buffers i b) (drop (j + 1) ms)
room_left ch i j x d b buffers ms lower l at up e h =
    room_after ch i (get_or ms j x) d b buffers (drop (j + 1) ms) l at up e (subst (CanTakeUp ch buffers) (drop_more ms j x lower) h)

-- the buffer of a message for which there is room
pub buffer_there : (ch j i : ℕ) (x : Message) (buffers : List Buffered) (ms : List Message) → CanTakeUp ch buffers (drop j ms) → j < length ms → i ≡ buffer_to ch (get_or ms j x)
    → i < length buffers
buffer_there ch j i x buffers ms h l e =
    let m = get_or ms j x in
    let k = subst (CanTakeUp ch buffers) (drop_more ms j x l) h in
    let one = counted ch (buffer_to ch m) m (drop (j + 1) ms) (eq-eqb _ _ refl) in
    subst (λ n. n < length buffers) (sym e) (k (buffer_to ch m) (omega (arith, one))).exists

-- there is room in it for one more
pub room_there : (ch j i : ℕ) (x : Message) (d : Buffered) (buffers : List Buffered) (ms : List Message) → CanTakeUp ch buffers (drop j ms) → j < length ms
    → i ≡ buffer_to ch (get_or ms j x) → d ≡ get_or buffers i d → length d.items < d.capacity
room_there ch j i x d buffers ms h l e at =
    let m = get_or ms j x in
    let k = subst (CanTakeUp ch buffers) (drop_more ms j x l) h in
    let one = counted ch (buffer_to ch m) m (drop (j + 1) ms) (eq-eqb _ _ refl) in
    let has = k (buffer_to ch m) (omega (arith, one)) in
    let here : get_or buffers (buffer_to ch m) empty_buffer ≡ d =
    ap (λ n. get_or buffers n empty_buffer) (sym e) ∙ any_default i d buffers (subst (λ n. n < length buffers) (sym e) has.exists) ∙ sym at in
    let room = subst (λ buffer. length buffer.items + count_to ch (buffer_to ch m) (m ∷ drop (j + 1) ms) ≤ buffer.capacity) here has.room in
    omega (arith, one, room)

-- one message more is counted, at the buffer that it goes to
pub counts_more : (ch number i : ℕ) (d : Message) (old new : List ℕ) (ms : List Message) → i < length ms → number ≡ buffer_to ch (get_or ms i d)
    → ((n : ℕ) → get_or new n 0 ≡ get_or old n 0 + cond (eqb number n) 1 0) → ((n : ℕ) → get_or old n 0 ≡ count_to ch n (take i ms))
    → (n : ℕ) → get_or new n 0 ≡ count_to ch n (take (i + 1) ms)
counts_more ch number i d old new ms l is more before n = more n ∙ by (eqb number n) refl
  where
    by : (t : Bool) → eqb number n ≡ t → get_or old n 0 + cond (eqb number n) 1 0 ≡ count_to ch n (take (i + 1) ms)
    by true e =
        ap (λ b. get_or old n 0 + cond b 1 0) e
        ∙ ap (λ k. k + 1) (before n)
        ∙ sym (count_by_more_yes (goes_to ch n) ms i d l (ap (λ k. eqb k n) (sym is) ∙ e))
    by false e =
        ap (λ b. get_or old n 0 + cond b 1 0) e
        ∙ add-zero (get_or old n 0)
        ∙ before n
        ∙ sym (count_by_more_no (goes_to ch n) ms i d l (ap (λ k. eqb k n) (sym is) ∙ e))

-- one buffer more has the room that is counted for it
pub rooms_more : (number : ℕ) (counts : List ℕ) (a b : List Buffered) → Grows a b → ((n : ℕ) → n < number → HasRoom a n (get_or counts n 0)) → HasRoom b number (get_or counts number 0)
    → (n : ℕ) → n < number + 1 → HasRoom b n (get_or counts n 0)
rooms_more number counts a b g h k n l = by (cases_lt n number)
  where
    by : (n < number) ⊎ (number ≤ n) → HasRoom b n (get_or counts n 0)
    by (inl m) = g.room n (get_or counts n 0) (h n m)
    by (inr m) = let e : number ≡ n = omega arith in subst (λ j. HasRoom b j (get_or counts j 0)) e k
