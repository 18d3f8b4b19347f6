-- Buffers that grow keep what stands in them, and a buffer with room takes a message up.
use Rattle.std.proofs.Common.{ℕ, suc, zero, ◌+◌, ◌<◌, ◌≤◌, ◌≡◌, List, [], ◌∷◌, ◌++◌, length, get_or, set, take, refl, sym, ap, ◌∙◌, subst, inl, inr, ◌⊎◌, arith}
use Rattle.std.specs.Prelude.{fold}
use Rattle.std.proofs.Math.ListN.{get_or-map}
use Rattle.std.proofs.Math.Seq.{map-set_same}
use Rattle.std.proofs.lemmas.Bool.{cases_lt, cond_both}
use Rattle.std.proofs.lemmas.List.{take_more, map-set, length-map, get_or-set_same, get_or-set_other, length-set, length_push}
use Rattle.std.proofs.lemmas.List.Sums.{fold_more}
use Rattle.sim_base.specs.History.{is_before, insert_by_age, by_age}
use Rattle.sim_base.specs.declared.message.Message.{Message}
use Rattle.sim_base.proofs.Arrived.{put, fold-puts}
use Rattle.sim_base.proofs.Each.{Each-append}
use Rattle.sim_base.proofs.Ordered.{Each-weaker}
use Rattle.links.specs.Buffers.{Buffered, empty_buffer, buffer_to, contents, joined, AreBuffers, HasRoom, HaveRoom, Grows}
use Rattle.links.proofs.Held.{by_age-joined, AreBuffers-put, buffer_is, IsBuffer-nil}

abbrev no_buffer : Buffered
no_buffer = empty_buffer

pub Grows-trans : (a b c : List Buffered) → Grows a b → Grows b c → Grows a c
Grows-trans a b c h k = record {
  messages = k.messages ∙ h.messages;
  buffers = λ ch first r. k.buffers ch first (h.buffers ch first r);
  room = λ n more r. k.room n more (h.room n more r);
}

joined-push : (buffers : List Buffered) → joined (contents (buffers ++ empty_buffer ∷ [])) ≡ joined (contents buffers)
joined-push [] = refl
joined-push (r ∷ buffers) = ap (λ x. r.items ++ x) (joined-push buffers)

AreBuffers-push : (ch first : ℕ) (buffers : List Buffered) → AreBuffers ch first (contents buffers) → AreBuffers ch first (contents (buffers ++ empty_buffer ∷ []))
AreBuffers-push ch first [] h = (IsBuffer-nil ch first, tt)
AreBuffers-push ch first (r ∷ buffers) h = (h.0, AreBuffers-push ch (first + 1) buffers h.1)

get_or-push : (i : ℕ) (b d : Buffered) (buffers : List Buffered) → i < length buffers → get_or (buffers ++ b ∷ []) i d ≡ get_or buffers i d
get_or-push i b d [] l = absurd (omega arith)
get_or-push zero b d (r ∷ buffers) l = refl
get_or-push (suc i) b d (r ∷ buffers) l = get_or-push i b d buffers (omega arith)

HasRoom-push : (i more : ℕ) (buffers : List Buffered) → HasRoom buffers i more → HasRoom (buffers ++ empty_buffer ∷ []) i more
HasRoom-push i more buffers h = record {
  exists = omega (arith, h.exists, length_push buffers empty_buffer);
  room = rw (get_or-push i empty_buffer no_buffer buffers h.exists) h.room;
}

-- an empty buffer more
pub Grows-push : (buffers : List Buffered) → Grows buffers (buffers ++ empty_buffer ∷ [])
Grows-push buffers = record {
  messages = joined-push buffers;
  buffers = λ ch first h. AreBuffers-push ch first buffers h;
  room = λ i more h. HasRoom-push i more buffers h;
}

pub HasRoom-set : (i j more : ℕ) (b : Buffered) (buffers : List Buffered) → (i ≡ j → length b.items + more ≤ b.capacity) → HasRoom buffers j more → HasRoom (set buffers i b) j more
HasRoom-set i j more b buffers here h = record { exists = omega (arith, length-set buffers i b, h.exists); room = by (cases_lt i j) (cases_lt j i) }
  where
    apart : (j ≡ i → ⊥) → length (get_or (set buffers i b) j no_buffer).items + more ≤ (get_or (set buffers i b) j no_buffer).capacity
    apart ne = rw (get_or-set_other buffers i j b no_buffer ne) h.room

    by : (i < j) ⊎ (j ≤ i) → (j < i) ⊎ (i ≤ j) → length (get_or (set buffers i b) j no_buffer).items + more ≤ (get_or (set buffers i b) j no_buffer).capacity
    by (inl l) k = apart (λ e. absurd (omega arith))
    by (inr l) (inl k) = apart (λ e. absurd (omega arith))
    by (inr l) (inr k) =
        let e : i ≡ j = omega arith in
        let lower : i < length buffers = omega (arith, h.exists) in
        let same : get_or (set buffers i b) j no_buffer ≡ b = ap (λ k. get_or (set buffers i b) k no_buffer) (sym e) ∙ get_or-set_same buffers i b no_buffer lower in
        rw same (here e)

-- a buffer with more room
pub Grows-set : (i : ℕ) (b d : Buffered) (buffers : List Buffered) → i < length buffers → b.items ≡ (get_or buffers i d).items → (get_or buffers i d).capacity ≤ b.capacity
    → Grows buffers (set buffers i b)
Grows-set i b d buffers l e k = record {
  messages = ap joined same;
  buffers = λ ch first h. subst (AreBuffers ch first) (sym same) h;
  room = λ j more h. HasRoom-set i j more b buffers (λ f.
      let at : get_or buffers j no_buffer ≡ get_or buffers i d = ap (λ n. get_or buffers n no_buffer) (sym f) ∙ any_default i buffers l in
      let room : length (get_or buffers i d).items + more ≤ (get_or buffers i d).capacity = subst (λ x. length x.items + more ≤ x.capacity) at h.room in
      omega (arith, ap length e, k, room)) h;
}
  where
    same : contents (set buffers i b) ≡ contents buffers
    same = map-set_same (λ buffer. buffer.items) buffers i b d e

    any_default : (i : ℕ) (buffers : List Buffered) → i < length buffers → get_or buffers i no_buffer ≡ get_or buffers i d
    any_default i [] l = absurd (omega arith)
    any_default zero (r ∷ buffers) l = refl
    any_default (suc i) (r ∷ buffers) l = any_default i buffers (omega arith)

pub HaveRoom-grows : (ch more : ℕ) (ms : List Message) (a b : List Buffered) → Grows a b → HaveRoom ch a more ms → HaveRoom ch b more ms
HaveRoom-grows ch more ms a b h k = Each-weaker _ (λ (m : Message). HasRoom b (buffer_to ch m) more) (λ m r. h.room (buffer_to ch m) more r) ms k

pub room_more : (ch n i : ℕ) (d : Message) (b : List Buffered) (ms : List Message) → i < length ms → HaveRoom ch b n (take i ms) → HasRoom b (buffer_to ch (get_or ms i d)) n → HaveRoom ch b n (take (i + 1) ms)
room_more ch n i d b ms l h k = rw (take_more ms i d l) (Each-append (λ (m : Message). HasRoom b (buffer_to ch m) n) (take i ms) (get_or ms i d ∷ []) h (k, tt))

pub any_default : (i : ℕ) (d : Buffered) (buffers : List Buffered) → i < length buffers → get_or buffers i no_buffer ≡ get_or buffers i d
any_default i d [] l = absurd (omega arith)
any_default zero d (r ∷ buffers) l = refl
any_default (suc i) d (r ∷ buffers) l = any_default i d buffers (omega arith)

-- what stands in a buffer
pub items_at : (i : ℕ) (d : Buffered) (buffers : List Buffered) → i < length buffers → d ≡ get_or buffers i d → get_or (contents buffers) i [] ≡ d.items
items_at i d buffers l e = get_or-map (λ buffer. buffer.items) buffers i no_buffer ∙ ap (λ buffer. buffer.items) (any_default i d buffers l ∙ sym e)

pub in_order_at : (ch i : ℕ) (d : Buffered) (buffers : List Buffered) → AreBuffers ch 0 (contents buffers) → i < length buffers → d ≡ get_or buffers i d → by_age d.items ≡ d.items
in_order_at ch i d buffers h l e = subst (λ ms. by_age ms ≡ ms) (items_at i d buffers l e) (buffer_is ch i 0 (contents buffers) h).in_order

length-put : (m : Message) (ms : List Message) → length (put m ms) ≡ length ms + 1
length-put m [] = refl
length-put m (n ∷ ns) = cond_both (is_before m n) (m ∷ n ∷ ns) (n ∷ put m ns) (λ x. length x ≡ length (n ∷ ns) + 1) (λ e. omega arith) (λ e. omega (arith, length-put m ns))

-- a buffer takes a message up
pub record TakesUp (m : Message) (old new : Buffered) : Type 0 where
  pub items : new.items ≡ insert_by_age old.items m
  pub capacity : new.capacity ≡ old.capacity

taken_up : (ch i : ℕ) (m : Message) (d b : Buffered) (buffers : List Buffered) → i < length buffers → d ≡ get_or buffers i d → TakesUp m d b
    → contents (set buffers i b) ≡ set (contents buffers) i (put m (get_or (contents buffers) i []))
taken_up ch i m d b buffers l e h =
    map-set (λ buffer. buffer.items) buffers i b
    ∙ ap (set (contents buffers) i) (h.items ∙ fold-puts d.items (m ∷ []) ∙ ap (put m) (sym (items_at i d buffers l e)))

pub buffers_more : (ch i : ℕ) (m : Message) (d b : Buffered) (buffers : List Buffered) → i < length buffers → d ≡ get_or buffers i d → TakesUp m d b → i ≡ buffer_to ch m
    → AreBuffers ch 0 (contents buffers) → AreBuffers ch 0 (contents (set buffers i b))
buffers_more ch i m d b buffers l e h n k = subst (AreBuffers ch 0) (sym (taken_up ch i m d b buffers l e h)) (AreBuffers-put ch i m (contents buffers) k n)

pub messages_more : (ch i j : ℕ) (x : Message) (ms start : List Message) (d b : Buffered) (buffers : List Buffered) → i < length buffers → d ≡ get_or buffers i d → TakesUp (get_or ms j x) d b
    → i ≡ buffer_to ch (get_or ms j x) → AreBuffers ch 0 (contents buffers) → j < length ms → by_age (joined (contents buffers)) ≡ fold insert_by_age start (take j ms)
    → by_age (joined (contents (set buffers i b))) ≡ fold insert_by_age start (take (j + 1) ms)
messages_more ch i j x ms start d b buffers l e h n k lower aged =
    ap (λ z. by_age (joined z)) (taken_up ch i (get_or ms j x) d b buffers l e h)
    ∙ by_age-joined ch i (get_or ms j x) (contents buffers) k n (omega (arith, length-map buffers (λ (buffer : Buffered). buffer.items)))
    ∙ sym (fold-puts (by_age (joined (contents buffers))) (get_or ms j x ∷ []))
    ∙ ap (λ z. insert_by_age z (get_or ms j x)) aged
    ∙ sym (fold_more insert_by_age start ms j x lower)

-- the buffers with one message more hold, by age, what they held and that message
pub message_more : (ch i : ℕ) (m : Message) (d b : Buffered) (buffers : List Buffered) → i < length buffers → d ≡ get_or buffers i d → TakesUp m d b → i ≡ buffer_to ch m
    → AreBuffers ch 0 (contents buffers) → by_age (joined (contents (set buffers i b))) ≡ insert_by_age (by_age (joined (contents buffers))) m
message_more ch i m d b buffers l e h n k =
    ap (λ z. by_age (joined z)) (taken_up ch i m d b buffers l e h)
    ∙ by_age-joined ch i m (contents buffers) k n (omega (arith, length-map buffers (λ (buffer : Buffered). buffer.items)))
    ∙ sym (fold-puts (by_age (joined (contents buffers))) (m ∷ []))

pub HasRoom-less : (i j more less : ℕ) (m : Message) (d b : Buffered) (buffers : List Buffered) → i < length buffers → d ≡ get_or buffers i d → TakesUp m d b → more ≡ less + 1
    → HasRoom buffers j more → HasRoom (set buffers i b) j less
HasRoom-less i j more less m d b buffers l e h n k =
    HasRoom-set i j less b buffers
    (λ f. let at : get_or buffers j no_buffer ≡ d = ap (λ x. get_or buffers x no_buffer) (sym f) ∙ any_default i d buffers l ∙ sym e in
    let room : length d.items + more ≤ d.capacity = subst (λ x. length x.items + more ≤ x.capacity) at k.room in
    let longer : length b.items ≡ length d.items + 1 = ap length (h.items ∙ fold-puts d.items (m ∷ [])) ∙ length-put m d.items in
    omega (arith, longer, h.capacity, room))
    (record { exists = k.exists; room = omega (arith, k.room) })

-- what is taken out of a buffer
pub taken_out : (i : ℕ) (ms : List Message) (b : Buffered) (buffers : List Buffered) → b.items ≡ ms → contents (set buffers i b) ≡ set (contents buffers) i ms
taken_out i ms b buffers e = map-set (λ buffer. buffer.items) buffers i b ∙ ap (set (contents buffers) i) e

pub grown : (i : ℕ) (a b : List Buffered) (d e : Buffered) → Grows a b → i + 1 ≤ length b → d ≡ get_or b i d → e.items ≡ d.items → d.capacity ≤ e.capacity → Grows a (set b i e)
grown i a b d e h l at items capacity =
    Grows-trans a b (set b i e) h
    (Grows-set i e d b (omega arith) (items ∙ ap (λ (buffer : Buffered). buffer.items) at) (omega (arith, ap (λ (buffer : Buffered). buffer.capacity) at, capacity)))

-- a buffer in which the same messages stand
pub kept_at : (i : ℕ) (d b : Buffered) (buffers : List Buffered) → d ≡ get_or buffers i d → b.items ≡ d.items → contents (set buffers i b) ≡ contents buffers
kept_at i d b buffers e h = map-set_same (λ buffer. buffer.items) buffers i b d (h ∙ ap (λ (buffer : Buffered). buffer.items) e)
