-- One place more in a move to the front.
use Rattle.std.proofs.Common.{◌≡◌, ℕ, ◌+◌, ◌<◌, ◌≤◌, Bool, true, false, cond, List, [], ◌∷◌, ◌++◌, length, map, filter, take, drop, get_or, set, refl, sym, ap, ◌∙◌, arith}
use Rattle.std.proofs.lemmas.List.{append_assoc, drop_more, drop-set-lt, take_more_set}
use Rattle.std.specs.List.{zip}
use Rattle.queue.specs.declared.request_log.Arrived.{Arrived}
use Rattle.queue.specs.Log.{absent}
use Rattle.queue.specs.Columns.{waiting_items}

items_cond : (b : Bool) (a : Arrived) (item : ℕ) (rest : List (Arrived × ℕ)) → map (λ e. e.1) (cond b ((a, item) ∷ rest) rest) ≡ cond b (item ∷ map (λ e. e.1) rest) (map (λ e. e.1) rest)
items_cond true a item rest = refl
items_cond false a item rest = refl

items_from : (log : List Arrived) (items : List ℕ) (i : ℕ) → i < length log → length items ≡ length log
    → waiting_items (drop i log) (drop i items)
    ≡ cond (get_or log i absent).waits (get_or items i 0 ∷ waiting_items (drop (i + 1) log) (drop (i + 1) items)) (waiting_items (drop (i + 1) log) (drop (i + 1) items))
items_from log items i within long =
    (λ k. waiting_items (drop_more log i absent within k) (drop_more items i 0 (omega (arith, within, long)) k))
    ∙ items_cond (get_or log i absent).waits (get_or log i absent) (get_or items i 0) (filter (λ e. e.0.waits) (zip (drop (i + 1) log) (drop (i + 1) items)))

-- an item of one that waits goes behind those in front
pub kept_more : (log : List Arrived) (items : List ℕ) (i to : ℕ) (whole : List ℕ) → i < length log → length items ≡ length log → to ≤ i → (get_or log i absent).waits ≡ true
    → take to items ++ waiting_items (drop i log) (drop i items) ≡ whole
    → take (to + 1) (set items to (get_or items i 0)) ++ waiting_items (drop (i + 1) log) (drop (i + 1) (set items to (get_or items i 0))) ≡ whole
kept_more log items i to whole within long behind waits is =
    let item = get_or items i 0 in
    let rest = waiting_items (drop (i + 1) log) (drop (i + 1) items) in
    (λ k. take_more_set items to item (omega (arith, within, long, behind)) k ++ waiting_items (drop (i + 1) log) (drop-set-lt (i + 1) items to item (omega (arith, behind)) k))
    ∙ append_assoc (take to items) (item ∷ []) rest
    ∙ ap (λ b. take to items ++ cond b (item ∷ rest) rest) (sym waits)
    ∙ ap (λ xs. take to items ++ xs) (sym (items_from log items i within long))
    ∙ is

-- an item of one that was served goes
pub left_out : (log : List Arrived) (items : List ℕ) (i to : ℕ) (whole : List ℕ) → i < length log → length items ≡ length log → (get_or log i absent).waits ≡ false
    → take to items ++ waiting_items (drop i log) (drop i items) ≡ whole → take to items ++ waiting_items (drop (i + 1) log) (drop (i + 1) items) ≡ whole
left_out log items i to whole within long left is =
    let rest = waiting_items (drop (i + 1) log) (drop (i + 1) items) in
    ap (λ b. take to items ++ cond b (get_or items i 0 ∷ rest) rest) (sym left)
    ∙ ap (λ xs. take to items ++ xs) (sym (items_from log items i within long))
    ∙ is
