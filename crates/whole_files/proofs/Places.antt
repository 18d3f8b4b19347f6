-- Paths in a folder, and what several steps change.
use Rattle.std.proofs.Common.{◌≡◌, ◌≢◌, ℕ, zero, suc, ◌+◌, ◌<◌, ◌≤◌, Bool, true, false, List, [], ◌∷◌, ◌++◌, length, map, take, drop, get_or, codes, Option, Some, None, refl, sym, ap, subst, ◌∙◌, inl, inr, add-one, arith}
use Rattle.std.specs.Prelude.{is_some}
use Rattle.std.specs.List.{AllByRecursion as Each, flat_map}
use Rattle.std.specs.Str.{bytes_eq}
use Rattle.std.proofs.lemmas.List.{append_cancel_left, append_assoc, append-nil, take_more, map-append, length-map}
use Rattle.std.proofs.lemmas.Slice.Eq.{bytes_eq-Decides}
use Rattle.std.proofs.lemmas.Bool.{false≢true}
use Rattle.sim_base.proofs.Each.{Each-append, Each-map, Each-first, Each-last, Each-drop}
use Rattle.sim_base.proofs.Ordered.{Each-weaker}
use Rattle.statistics.specs.Values.{RunOutcome}
use Rattle.whole_files.specs.Files.{Held, SameFiles, SameBut, IsRenamed}
use Rattle.whole_files.specs.Tables.{path_in, commands_name, stats_name, final_name, requests_name, NamedText, table_named, commands_of, stats_of, final_of, requests_of, tables_in, names_unless, others_in, PlannedText, planned_in, plan_in, from_paths, paths_of, SameOutside, IsApartFrom, AreApart, AreStaged, AreGone, AreRemoved, IsMoved, IsWaiting, ArePlaced, ArePartlyPlaced, IsIn, IsBeside, ArePut, AreTorn, AreKeptBack, IsLeftUnplaced, other_paths, IsWritten, IsLeftBy}
use Rattle.whole_files.specs.WholeFile.{part_of}
use Rattle.whole_files.specs.Planned.{planned_of}
use Rattle.whole_files.specs.declared.tables.PlannedTable.{PlannedTable}
use Rattle.refusal.specs.declared.refusal.Refusal.{Refusal}
use Rattle.refusal.specs.declared.refusal.Refusal.TheVariants.{Kept, Torn}

-- different names have different paths
same_name : (folder a b : List ℕ) → path_in folder a ≡ path_in folder b → a ≡ b
same_name folder a b e = let tails : codes "/" ++ a ≡ codes "/" ++ b = append_cancel_left folder _ _ e in cc

pub apart : (folder a b : List ℕ) → bytes_eq a b ≡ false → path_in folder a ≢ path_in folder b
apart folder a b differ e = false≢true (sym differ ∙ (bytes_eq-Decides a b).1 (same_name folder a b e))

-- ---- parts of lists

Each-take : {X : Type 0} (P : X → Type 0) (xs : List X) (k : ℕ) → Each P xs → Each P (take k xs)
Each-take P [] zero h = tt
Each-take P [] (suc k) h = tt
Each-take P (x ∷ xs) zero h = tt
Each-take P (x ∷ xs) (suc k) h = (h.0, Each-take P xs k h.1)

Each-two : {X : Type 0} (P Q R : X → Type 0) → ((x : X) → P x → Q x → R x) → (xs : List X) → Each P xs → Each Q xs → Each R xs
Each-two P Q R f [] h k = tt
Each-two P Q R f (x ∷ xs) h k = (f x h.0 k.0, Each-two P Q R f xs h.1 k.1)

-- what holds of each holds of the one at a place
Each-here : {X Y : Type 0} (P : Y → Type 0) (f : X → Y) (xs : List X) (i : ℕ) (x : X) → i < length xs → x ≡ get_or xs i x → Each P (map f xs) → P (f x)
Each-here P f [] i x l e h = absurd (omega (arith, l))
Each-here P f (y ∷ xs) zero x l e h = subst (λ z. P (f z)) (sym e) h.0
Each-here P f (y ∷ xs) (suc i) x l e h = Each-here P f xs i x (omega (arith, l)) e h.1

pub take_map : {X Y : Type 0} (f : X → Y) (xs : List X) (k : ℕ) → take k (map f xs) ≡ map f (take k xs)
take_map f [] zero = refl
take_map f [] (suc k) = refl
take_map f (x ∷ xs) zero = refl
take_map f (x ∷ xs) (suc k) = ap (λ ys. f x ∷ ys) (take_map f xs k)

pub drop_map : {X Y : Type 0} (f : X → Y) (xs : List X) (k : ℕ) → drop k (map f xs) ≡ map f (drop k xs)
drop_map f [] zero = refl
drop_map f [] (suc k) = refl
drop_map f (x ∷ xs) zero = refl
drop_map f (x ∷ xs) (suc k) = drop_map f xs k

-- the elements from a place on are the one there and those behind it
drop_here : {X : Type 0} (xs : List X) (i : ℕ) (x : X) → i < length xs → x ≡ get_or xs i x → drop i xs ≡ x ∷ drop (suc i) xs
drop_here [] i x l e = absurd (omega (arith, l))
drop_here (y ∷ xs) zero x l e = ap (λ z. z ∷ xs) (sym e)
drop_here (y ∷ xs) (suc i) x l e = drop_here xs i x (omega (arith, l)) e

-- those before the next place are those before it and the one there
pub mapped_more : {X Y : Type 0} (f : X → Y) (xs : List X) (i : ℕ) (x : X) → i < length xs → x ≡ get_or xs i x → map f (take (i + 1) xs) ≡ map f (take i xs) ++ f x ∷ []
mapped_more f xs i x l e = ap (map f) (take_more xs i x l) ∙ map-append f (take i xs) (get_or xs i x ∷ []) ∙ ap (λ z. map f (take i xs) ++ f z ∷ []) (sym e)

pub mapped_left : {X Y : Type 0} (f : X → Y) (xs : List X) (i : ℕ) (x : X) → i < length xs → x ≡ get_or xs i x → map f (drop i xs) ≡ f x ∷ map f (drop (i + 1) xs)
mapped_left f xs i x l e = ap (map f) (drop_here xs i x l e) ∙ ap (λ n. f x ∷ map f (drop n xs)) (sym (add-one i))

-- ---- paths that differ

-- the table at a place has no path in common with those before it
before-apart : (planned : List PlannedTable) (i : ℕ) (p : PlannedTable) → i < length planned → p ≡ get_or planned i p → AreApart (map planned_of planned)
    → Each (λ q. IsApartFrom q (planned_of p)) (map planned_of (take i planned))
before-apart [] i p l e a = absurd (omega (arith, l))
before-apart (x ∷ xs) zero p l e a = tt
before-apart (x ∷ xs) (suc i) p l e a = (Each-here (IsApartFrom (planned_of x)) planned_of xs i p (omega (arith, l)) e a.1, before-apart xs i p (omega (arith, l)) e a.2)

-- nor with those behind it
behind-apart : (planned : List PlannedTable) (i : ℕ) (p : PlannedTable) → i < length planned → p ≡ get_or planned i p → AreApart (map planned_of planned)
    → Each (IsApartFrom (planned_of p)) (map planned_of (drop (suc i) planned))
behind-apart [] i p l e a = absurd (omega (arith, l))
behind-apart (x ∷ xs) zero p l e a = subst (λ z. Each (IsApartFrom (planned_of z)) (map planned_of xs)) (sym e) a.1
behind-apart (x ∷ xs) (suc i) p l e a = behind-apart xs i p (omega (arith, l)) e a.2

own-apart : (planned : List PlannedTable) (i : ℕ) (p : PlannedTable) → i < length planned → p ≡ get_or planned i p → AreApart (map planned_of planned) → (planned_of p).from ≢ (planned_of p).to
own-apart [] i p l e a = absurd (omega (arith, l))
own-apart (x ∷ xs) zero p l e a = subst (λ z. (planned_of z).from ≢ (planned_of z).to) (sym e) a.0
own-apart (x ∷ xs) (suc i) p l e a = own-apart xs i p (omega (arith, l)) e a.2

-- a path that is none of those of all tables is none of the one at a place
outside-from : (path : List ℕ) (planned : List PlannedTable) (i : ℕ) (p : PlannedTable) → i < length planned → p ≡ get_or planned i p → Each (λ q. path ≢ q) (from_paths (map planned_of planned)) → path ≢ (planned_of p).from
outside-from path [] i p l e w = absurd (omega (arith, l))
outside-from path (x ∷ xs) zero p l e w = subst (λ z. path ≢ (planned_of z).from) (sym e) w.0
outside-from path (x ∷ xs) (suc i) p l e w = outside-from path xs i p (omega (arith, l)) e w.1

outside-to : (path : List ℕ) (planned : List PlannedTable) (i : ℕ) (p : PlannedTable) → i < length planned → p ≡ get_or planned i p → Each (λ q. path ≢ q) (map (λ (q : PlannedText). q.to) (map planned_of planned)) → path ≢ (planned_of p).to
outside-to path [] i p l e w = absurd (omega (arith, l))
outside-to path (x ∷ xs) zero p l e w = subst (λ z. path ≢ (planned_of z).to) (sym e) w.0
outside-to path (x ∷ xs) (suc i) p l e w = outside-to path xs i p (omega (arith, l)) e w.1

-- ---- tables that are written

pub staged-more : (planned : List PlannedTable) (i : ℕ) (p : PlannedTable) (a b : Held) → i < length planned → p ≡ get_or planned i p → AreApart (map planned_of planned)
    → SameBut (planned_of p).from a b → b (planned_of p).from ≡ Some (planned_of p).text → AreStaged (map planned_of (take i planned)) a → AreStaged (map planned_of (take (i + 1) planned)) b
staged-more planned i p a b l e apart same whole h =
    subst (λ ps. AreStaged ps b) (sym (mapped_more planned_of planned i p l e))
    (Each-append (λ (q : PlannedText). b q.from ≡ Some q.text) (map planned_of (take i planned)) (planned_of p ∷ [])
    (Each-two (λ q. IsApartFrom q (planned_of p)) (λ (q : PlannedText). a q.from ≡ Some q.text) (λ (q : PlannedText). b q.from ≡ Some q.text) (λ q far is. same q.from far.froms ∙ is)
    (map planned_of (take i planned)) (before-apart planned i p l e apart) h)
    (whole, tt))

pub froms-more : (planned : List PlannedTable) (i : ℕ) (p : PlannedTable) → i < length planned → p ≡ get_or planned i p
    → from_paths (map planned_of (take (i + 1) planned)) ≡ from_paths (map planned_of (take i planned)) ++ (planned_of p).from ∷ []
froms-more planned i p l e = ap from_paths (mapped_more planned_of planned i p l e) ∙ map-append (λ (q : PlannedText). q.from) (map planned_of (take i planned)) (planned_of p ∷ [])

-- nothing else changes
pub outside-staged : (planned : List PlannedTable) (i : ℕ) (p : PlannedTable) (z a b : Held) → i < length planned → p ≡ get_or planned i p → SameBut (planned_of p).from a b
    → SameOutside (from_paths (map planned_of planned)) z a → SameOutside (from_paths (map planned_of planned)) z b
outside-staged planned i p z a b l e same h = λ path w. same path (outside-from path planned i p l e w) ∙ h path w

-- no table is written yet
pub none-staged : (planned : List PlannedTable) (held : Held) → AreStaged (map planned_of (take 0 planned)) held
none-staged [] held = tt
none-staged (p ∷ planned) held = tt

pub none-opened : (planned : List PlannedTable) (opened : List (List ℕ)) → opened ≡ opened ++ from_paths (map planned_of (take 0 planned))
none-opened [] opened = sym (append-nil opened)
none-opened (p ∷ planned) opened = sym (append-nil opened)

pub all_taken : {X : Type 0} (xs : List X) (i : ℕ) → length xs ≤ i → take i xs ≡ xs
all_taken [] zero l = refl
all_taken [] (suc i) l = refl
all_taken (x ∷ xs) zero l = absurd (omega (arith, l))
all_taken (x ∷ xs) (suc i) l = ap (λ ys. x ∷ ys) (all_taken xs i (omega (arith, l)))

pub all_dropped : {X : Type 0} (xs : List X) (i : ℕ) → length xs ≤ i → drop i xs ≡ []
all_dropped [] zero l = refl
all_dropped [] (suc i) l = refl
all_dropped (x ∷ xs) zero l = absurd (omega (arith, l))
all_dropped (x ∷ xs) (suc i) l = all_dropped xs i (omega (arith, l))

pub drop_zero : {X : Type 0} (xs : List X) → drop 0 xs ≡ xs
drop_zero [] = refl
drop_zero (x ∷ xs) = refl

pub opened-more : (planned : List PlannedTable) (i : ℕ) (p : PlannedTable) (first before after : List (List ℕ)) → i < length planned → p ≡ get_or planned i p → after ≡ before ++ (planned_of p).from ∷ []
    → before ≡ first ++ from_paths (map planned_of (take i planned)) → after ≡ first ++ from_paths (map planned_of (take (i + 1) planned))
opened-more planned i p first before after l e more h =
    more ∙ ap (λ x. x ++ (planned_of p).from ∷ []) h ∙ append_assoc first (from_paths (map planned_of (take i planned))) ((planned_of p).from ∷ [])
    ∙ ap (λ x. first ++ x) (sym (froms-more planned i p l e))

-- ---- tables that get their places

flip : {X : Type 0} {x y : X} → x ≢ y → y ≢ x
flip n e = n (sym e)

pub moved-more : (planned : List PlannedTable) (i : ℕ) (p : PlannedTable) (z a b : Held) → i < length planned → p ≡ get_or planned i p → AreApart (map planned_of planned)
    → IsRenamed (planned_of p).from (planned_of p).to a b → Each (IsWaiting z a) (map planned_of (drop i planned)) → Each (IsMoved z a) (map planned_of (take i planned))
    → Each (IsMoved z b) (map planned_of (take (i + 1) planned))
moved-more planned i p z a b l e apart r waits h =
    let here = subst (Each (IsWaiting z a)) (mapped_left planned_of planned i p l e) waits in
    subst (Each (IsMoved z b)) (sym (mapped_more planned_of planned i p l e))
    (Each-append (IsMoved z b) (map planned_of (take i planned)) (planned_of p ∷ [])
    (Each-two (λ q. IsApartFrom q (planned_of p)) (IsMoved z a) (IsMoved z b)
    (λ q far is. (r.others q.to far.to_from far.tos ∙ is.0, r.others q.from far.froms far.from_to ∙ is.1))
    (map planned_of (take i planned)) (before-apart planned i p l e apart) h)
    ((r.moved ∙ here.0.1, r.gone (own-apart planned i p l e apart)), tt))

pub waits-less : (planned : List PlannedTable) (i : ℕ) (p : PlannedTable) (z a b : Held) → i < length planned → p ≡ get_or planned i p → AreApart (map planned_of planned)
    → IsRenamed (planned_of p).from (planned_of p).to a b → Each (IsWaiting z a) (map planned_of (drop i planned)) → Each (IsWaiting z b) (map planned_of (drop (i + 1) planned))
waits-less planned i p z a b l e apart r waits =
    let rest = (subst (Each (IsWaiting z a)) (mapped_left planned_of planned i p l e) waits).1 in
    Each-two (IsApartFrom (planned_of p)) (IsWaiting z a) (IsWaiting z b)
    (λ q far is. (r.others q.to (flip far.from_to) (flip far.tos) ∙ is.0, r.others q.from (flip far.froms) (flip far.to_from) ∙ is.1))
    (map planned_of (drop (i + 1) planned))
    (subst (λ n. Each (IsApartFrom (planned_of p)) (map planned_of (drop n planned))) (sym (add-one i)) (behind-apart planned i p l e apart)) rest

pub outside-placed : (planned : List PlannedTable) (i : ℕ) (p : PlannedTable) (z a b : Held) → i < length planned → p ≡ get_or planned i p → IsRenamed (planned_of p).from (planned_of p).to a b
    → SameOutside (paths_of (map planned_of planned)) z a → SameOutside (paths_of (map planned_of planned)) z b
outside-placed planned i p z a b l e r h = λ path w.
    let froms = from_paths (map planned_of planned) in
    let tos = map (λ (q : PlannedText). q.to) (map planned_of planned) in
    r.others path (outside-from path planned i p l e (Each-first (λ q. path ≢ q) froms tos w)) (outside-to path planned i p l e (Each-last (λ q. path ≢ q) froms tos w)) ∙ h path w

-- none has its place yet
waits-all : (planned : List PlannedTable) (a : Held) → Each (IsWaiting a a) (map planned_of planned)
waits-all [] a = tt
waits-all (p ∷ planned) a = ((refl, refl), waits-all planned a)

pub waits-first : (planned : List PlannedTable) (a : Held) → Each (IsWaiting a a) (map planned_of (drop 0 planned))
waits-first planned a = subst (λ ps. Each (IsWaiting a a) (map planned_of ps)) (sym (drop_zero planned)) (waits-all planned a)

pub none-moved : (planned : List PlannedTable) (a : Held) → Each (IsMoved a a) (map planned_of (take 0 planned))
none-moved [] a = tt
none-moved (p ∷ planned) a = tt

-- some have, and the next one did not get its place
pub partly : (planned : List PlannedTable) (i : ℕ) (z a b : Held) → 0 < i → i < length planned → SameFiles a b → Each (IsMoved z a) (map planned_of (take i planned))
    → Each (IsWaiting z a) (map planned_of (drop i planned)) → SameOutside (paths_of (map planned_of planned)) z a → ArePartlyPlaced (map planned_of planned) z b
partly planned i z a b some l same moved waits others =
    record {
      count = i;
      some = some;
      fewer = omega (arith, l, length-map planned planned_of);
      moved = subst (Each (IsMoved z b)) (sym (take_map planned_of planned i))
          (Each-weaker (IsMoved z a) (IsMoved z b) (λ q is. (same q.to ∙ is.0, same q.from ∙ is.1)) (map planned_of (take i planned)) moved);
      left = subst (Each (IsWaiting z b)) (sym (drop_map planned_of planned i))
          (Each-weaker (IsWaiting z a) (IsWaiting z b) (λ q is. (same q.to ∙ is.0, same q.from ∙ is.1)) (map planned_of (drop i planned)) waits);
      others = λ path w. same path ∙ others path w;
    }

-- ---- files that are removed

-- what is gone stays so, also where the same path is removed again
gone-still : (path p : List ℕ) (a b : Held) → SameBut p a b → b p ≡ None → a path ≡ None → b path ≡ None
gone-still path p a b same gone h = by (bytes_eq path p) refl
  where
    by : (t : Bool) → bytes_eq path p ≡ t → b path ≡ None
    by true e = ap b ((bytes_eq-Decides path p).0 e) ∙ gone
    by false e = same path (λ f. false≢true (sym e ∙ (bytes_eq-Decides path p).1 f)) ∙ h

pub none-gone : (planned : List PlannedTable) (i : ℕ) (a : Held) → length planned ≤ i → AreGone (map planned_of (drop i planned)) a
none-gone planned i a l = subst (λ ps. AreGone (map planned_of ps) a) (sym (all_dropped planned i l)) tt

pub none-removed : {X : Type 0} (name : X → List ℕ) (paths : List X) (a : Held) → AreRemoved (map name (take 0 paths)) a
none-removed name [] a = tt
none-removed name (x ∷ paths) a = tt

pub gone-more : (planned : List PlannedTable) (i : ℕ) (p : PlannedTable) (a b : Held) → i < length planned → p ≡ get_or planned i p → SameBut (planned_of p).from a b → b (planned_of p).from ≡ None
    → AreGone (map planned_of (drop (i + 1) planned)) a → AreGone (map planned_of (drop i planned)) b
gone-more planned i p a b l e same gone h =
    subst (λ ps. AreGone ps b) (sym (mapped_left planned_of planned i p l e))
    (gone, Each-weaker (λ (q : PlannedText). a q.from ≡ None) (λ (q : PlannedText). b q.from ≡ None) (λ q is. gone-still q.from (planned_of p).from a b same gone is) (map planned_of (drop (i + 1) planned)) h)

pub removed-more : {X : Type 0} (name : X → List ℕ) (paths : List X) (i : ℕ) (x : X) (a b : Held) → i < length paths → x ≡ get_or paths i x → SameBut (name x) a b → b (name x) ≡ None
    → AreRemoved (map name (take i paths)) a → AreRemoved (map name (take (i + 1) paths)) b
removed-more name paths i x a b l e same gone h =
    subst (λ ps. AreRemoved ps b) (sym (mapped_more name paths i x l e))
    (Each-append (λ p. b p ≡ None) (map name (take i paths)) (name x ∷ [])
    (Each-weaker (λ p. a p ≡ None) (λ p. b p ≡ None) (λ p is. gone-still p (name x) a b same gone is) (map name (take i paths)) h) (gone, tt))

pub outside-removed : {X : Type 0} (name : X → List ℕ) (paths : List X) (i : ℕ) (x : X) (z a b : Held) → i < length paths → x ≡ get_or paths i x → SameBut (name x) a b
    → SameOutside (map name paths) z a → SameOutside (map name paths) z b
outside-removed name paths i x z a b l e same h = λ path w. same path (Each-here (λ q. path ≢ q) name paths i x l e w) ∙ h path w

-- ---- all steps

-- tables that are whole and get their places
pub put : (ps : List PlannedText) (z a b c : Held) → SameOutside (from_paths ps) z a → AreStaged ps a → SameFiles a b → ArePlaced ps b c → ArePut ps z c
put ps z a b c before whole same placed =
    record {
      in_place = Each-two (IsMoved b c) (λ (p : PlannedText). a p.from ≡ Some p.text) (IsIn c) (λ p is text. (is.0 ∙ same p.from ∙ text, is.1)) ps placed.moved whole;
      others = λ path w. placed.others path w ∙ same path ∙ before path (Each-first (λ q. path ≢ q) (from_paths ps) (map (λ (p : PlannedText). p.to) ps) w);
    }

-- the place of a table is no path under which one is written
places-apart : (ps : List PlannedText) → AreApart ps → Each (λ (p : PlannedText). Each (λ q. p.to ≢ q) (from_paths ps)) ps
places-apart [] a = tt
places-apart (p ∷ ps) a = (
  (flip a.0, Each-map (λ q. p.to ≢ q) (λ (q : PlannedText). q.from) ps (Each-weaker (IsApartFrom p) (λ (q : PlannedText). p.to ≢ q.from) (λ q far. far.to_from) ps a.1)),
  Each-two (IsApartFrom p) (λ (q : PlannedText). Each (λ f. q.to ≢ f) (from_paths ps)) (λ (q : PlannedText). Each (λ f. q.to ≢ f) (from_paths (p ∷ ps))) (λ q far rest. (flip far.from_to, rest)) ps a.1 (places-apart ps a.2),
)

-- tables that are whole, of which only the first get their places
pub torn : (ps : List PlannedText) (z a b c : Held) → AreApart ps → SameOutside (from_paths ps) z a → AreStaged ps a → SameFiles a b → ArePartlyPlaced ps b c → AreTorn ps z c
torn ps z a b c apart before whole same partly =
    let places : Each (λ (p : PlannedText). a p.to ≡ z p.to) ps =
    Each-weaker (λ (p : PlannedText). Each (λ q. p.to ≢ q) (from_paths ps)) (λ (p : PlannedText). a p.to ≡ z p.to) (λ p far. before p.to far) ps (places-apart ps apart) in
    let both : Each (λ (p : PlannedText). (a p.to ≡ z p.to) × (a p.from ≡ Some p.text)) ps =
    Each-two (λ (p : PlannedText). a p.to ≡ z p.to) (λ (p : PlannedText). a p.from ≡ Some p.text) (λ (p : PlannedText). (a p.to ≡ z p.to) × (a p.from ≡ Some p.text)) (λ p x y. (x, y)) ps places whole in
    record {
      count = partly.count;
      some = partly.some;
      fewer = partly.fewer;
      in_place = Each-two (IsMoved b c) (λ (p : PlannedText). a p.from ≡ Some p.text) (IsIn c) (λ p is text. (is.0 ∙ same p.from ∙ text, is.1)) (take partly.count ps) partly.moved
          (Each-take (λ (p : PlannedText). a p.from ≡ Some p.text) ps partly.count whole);
      beside = Each-two (IsWaiting b c) (λ (p : PlannedText). (a p.to ≡ z p.to) × (a p.from ≡ Some p.text)) (IsBeside z c) (λ p is was. (is.0 ∙ same p.to ∙ was.0, is.1 ∙ same p.from ∙ was.1)) (drop partly.count ps) partly.left
          (Each-drop (λ (p : PlannedText). (a p.to ≡ z p.to) × (a p.from ≡ Some p.text)) ps partly.count both);
      others = λ path w. partly.others path w ∙ same path ∙ before path (Each-first (λ q. path ≢ q) (from_paths ps) (map (λ (p : PlannedText). p.to) ps) w);
    }

-- tables that were written, and removed
pub kept_back : (ps : List PlannedText) (z a b c : Held) → SameOutside (from_paths ps) z a → SameFiles a b → AreGone ps c → SameOutside (from_paths ps) b c → AreKeptBack ps z c
kept_back ps z a b c before same gone after = record { gone = gone; others = λ path w. after path w ∙ same path ∙ before path w }

-- nothing has changed before
left-unplaced-from : (refusal : Refusal) (ps : List PlannedText) (a b c : Held) → SameFiles a b → IsLeftUnplaced refusal ps b c → IsLeftUnplaced refusal ps a c
left-unplaced-from (Kept fault) ps a b c same h = record { gone = h.gone; others = λ path w. h.others path w ∙ same path }
left-unplaced-from (Torn fault) ps a b c same h =
    record {
      count = h.count;
      some = h.some;
      fewer = h.fewer;
      in_place = h.in_place;
      beside = Each-weaker (IsBeside b c) (IsBeside a c) (λ p is. (is.0 ∙ same p.to, is.1)) (drop h.count ps) h.beside;
      others = λ path w. h.others path w ∙ same path;
    }

pub written_from : (folder : List ℕ) (run : RunOutcome) (a b c : Held) → SameFiles a b → IsWritten folder run b c → IsWritten folder run a c
written_from folder run a b c same h = record { in_place = h.in_place; none_else = h.none_else; others = λ path w. h.others path w ∙ same path }

pub left_from : (refusal : Refusal) (folder : List ℕ) (run : RunOutcome) (a b c : Held) (before mid after : List (List ℕ)) → SameFiles a b → mid ≡ before → IsLeftBy refusal folder run b c mid after
    → IsLeftBy refusal folder run a c before after
left_from refusal folder run a b c before mid after same unopened (inl all) =
    inl (record { kept = all.kept; untouched = record { same = λ path. all.untouched.same path ∙ same path; unopened = all.untouched.unopened ∙ unopened } })
left_from refusal folder run a b c before mid after same unopened (inr unplaced) = inr (left-unplaced-from refusal (plan_in folder run) a b c same unplaced)

-- ---- the tables of a run

-- a name that a table may have, and its text where it is asked for
abbrev Slot : Type 0
Slot = List ℕ × Option (List ℕ)

abbrev named : List Slot → List NamedText
named slots = flat_map (λ slot. table_named slot.0 slot.1) slots

abbrev unnamed : List Slot → List (List ℕ)
unnamed slots = flat_map (λ slot. names_unless (is_some slot.1) slot.0) slots

-- two tables of these names have no path in common
abbrev AreFar : List ℕ → List ℕ → Type 0
AreFar a b =
    (bytes_eq (part_of a) (part_of b) ≡ false) × (bytes_eq (part_of a) b ≡ false) × (bytes_eq a (part_of b) ≡ false) × (bytes_eq a b ≡ false)

abbrev IsFarFromSlots : List ℕ → List Slot → Type 0
IsFarFromSlots name slots = Each (λ (slot : Slot). AreFar name slot.0) slots

abbrev AllAreFar : List Slot → Type 0
AllAreFar [] = Unit {0}
AllAreFar (slot ∷ slots) = (bytes_eq (part_of slot.0) slot.0 ≡ false) × IsFarFromSlots slot.0 slots × AllAreFar slots

abbrev table_of : List ℕ → List ℕ → List ℕ → PlannedText
table_of folder name text = planned_in folder (record { name = name; text = text })

far_from_named : (folder name text : List ℕ) (slots : List Slot) → IsFarFromSlots name slots → Each (IsApartFrom (table_of folder name text)) (map (planned_in folder) (named slots))
far_from_named folder name text [] far = tt
far_from_named folder name text ((other, None) ∷ slots) far = far_from_named folder name text slots far.1
far_from_named folder name text ((other, Some its) ∷ slots) far = (
  record {
    froms = apart folder (part_of name) (part_of other) far.0.0;
    from_to = apart folder (part_of name) other far.0.1;
    to_from = apart folder name (part_of other) far.0.2;
    tos = apart folder name other far.0.3;
  },
  far_from_named folder name text slots far.1,
)

slots_apart : (folder : List ℕ) (slots : List Slot) → AllAreFar slots → AreApart (map (planned_in folder) (named slots))
slots_apart folder [] far = tt
slots_apart folder ((name, None) ∷ slots) far = slots_apart folder slots far.2
slots_apart folder ((name, Some text) ∷ slots) far = (apart folder (part_of name) name far.0, far_from_named folder name text slots far.1, slots_apart folder slots far.2)

-- neither path of a table is one of these
abbrev IsFarFrom : List (List ℕ) → PlannedText → Type 0
IsFarFrom paths p = Each (λ q. p.to ≢ q) paths × Each (λ q. p.from ≢ q) paths

far_from_unnamed : (folder name text : List ℕ) (slots : List Slot) → IsFarFromSlots name slots → IsFarFrom (map (path_in folder) (unnamed slots)) (table_of folder name text)
far_from_unnamed folder name text [] far = (tt, tt)
far_from_unnamed folder name text ((other, None) ∷ slots) far =
    let rest = far_from_unnamed folder name text slots far.1 in (
      (apart folder name other far.0.3, (apart folder name (part_of other) far.0.2, rest.0)),
      (apart folder (part_of name) other far.0.1, (apart folder (part_of name) (part_of other) far.0.0, rest.1)),
    )
far_from_unnamed folder name text ((other, Some its) ∷ slots) far = far_from_unnamed folder name text slots far.1

-- neither path of a table is this one
abbrev IsFarFromPath : List ℕ → PlannedText → Type 0
IsFarFromPath path p = (p.to ≢ path) × (p.from ≢ path)

named_far_from : (folder name : List ℕ) (slots : List Slot) → IsFarFromSlots name slots → Each (IsFarFromPath (path_in folder name)) (map (planned_in folder) (named slots))
named_far_from folder name [] far = tt
named_far_from folder name ((other, None) ∷ slots) far = named_far_from folder name slots far.1
named_far_from folder name ((other, Some its) ∷ slots) far = ((flip (apart folder name other far.0.3), flip (apart folder name (part_of other) far.0.2)), named_far_from folder name slots far.1)

named_far_from_part : (folder name : List ℕ) (slots : List Slot) → IsFarFromSlots name slots → Each (IsFarFromPath (path_in folder (part_of name))) (map (planned_in folder) (named slots))
named_far_from_part folder name [] far = tt
named_far_from_part folder name ((other, None) ∷ slots) far = named_far_from_part folder name slots far.1
named_far_from_part folder name ((other, Some its) ∷ slots) far =
    ((flip (apart folder (part_of name) other far.0.1), flip (apart folder (part_of name) (part_of other) far.0.0)), named_far_from_part folder name slots far.1)

-- one path more
far_from_more : (path : List ℕ) (paths : List (List ℕ)) (ps : List PlannedText) → Each (IsFarFrom paths) ps → Each (IsFarFromPath path) ps → Each (IsFarFrom (path ∷ paths)) ps
far_from_more path paths ps rest first = Each-two (IsFarFrom paths) (IsFarFromPath path) (IsFarFrom (path ∷ paths)) (λ p far one. ((one.0, far.0), (one.1, far.1))) ps rest first

slots_far : (folder : List ℕ) (slots : List Slot) → AllAreFar slots → Each (IsFarFrom (map (path_in folder) (unnamed slots))) (map (planned_in folder) (named slots))
slots_far folder [] far = tt
slots_far folder ((name, None) ∷ slots) far =
    let others = map (path_in folder) (unnamed slots) in
    let ps = map (planned_in folder) (named slots) in
    far_from_more (path_in folder name) (path_in folder (part_of name) ∷ others) ps
    (far_from_more (path_in folder (part_of name)) others ps (slots_far folder slots far.2) (named_far_from_part folder name slots far.1))
    (named_far_from folder name slots far.1)
slots_far folder ((name, Some text) ∷ slots) far = (far_from_unnamed folder name text slots far.1, slots_far folder slots far.2)

-- the tables of an outcome
abbrev slots_of : RunOutcome → List Slot
slots_of run = (commands_name, commands_of run) ∷ (stats_name, stats_of run) ∷ (final_name, final_of run) ∷ (requests_name, requests_of run) ∷ []

slots_are_far : (run : RunOutcome) → AllAreFar (slots_of run)
slots_are_far run = (
  refl,
  ((refl, refl, refl, refl), ((refl, refl, refl, refl), ((refl, refl, refl, refl), tt))),
  (refl, ((refl, refl, refl, refl), ((refl, refl, refl, refl), tt)), (refl, ((refl, refl, refl, refl), tt), (refl, tt, tt))),
)

named_of : (run : RunOutcome) → named (slots_of run) ≡ tables_in run
named_of run = ap (λ ts. table_named commands_name (commands_of run) ++ (table_named stats_name (stats_of run) ++ (table_named final_name (final_of run) ++ ts))) (append-nil (table_named requests_name (requests_of run)))

unnamed_of : (run : RunOutcome) → unnamed (slots_of run) ≡ others_in run
unnamed_of run =
    ap (λ ns. names_unless (is_some (commands_of run)) commands_name ++ (names_unless (is_some (stats_of run)) stats_name ++ (names_unless (is_some (final_of run)) final_name ++ ns)))
    (append-nil (names_unless (is_some (requests_of run)) requests_name))

pub plan-apart : (folder : List ℕ) (run : RunOutcome) → AreApart (plan_in folder run)
plan-apart folder run = subst (λ ts. AreApart (map (planned_in folder) ts)) (named_of run) (slots_apart folder (slots_of run) (slots_are_far run))

plan-far : (folder : List ℕ) (run : RunOutcome) → Each (IsFarFrom (other_paths folder run)) (plan_in folder run)
plan-far folder run =
    subst (λ ts. Each (IsFarFrom (other_paths folder run)) (map (planned_in folder) ts)) (named_of run)
    (subst (λ ns. Each (IsFarFrom (map (path_in folder) ns)) (map (planned_in folder) (named (slots_of run)))) (unnamed_of run) (slots_far folder (slots_of run) (slots_are_far run)))

-- tables that got their places, and others that were removed
pub written : (folder : List ℕ) (run : RunOutcome) (z a b : Held) → ArePut (plan_in folder run) z a → AreRemoved (other_paths folder run) b → SameOutside (other_paths folder run) a b → IsWritten folder run z b
written folder run z a b put removed after =
    record {
      in_place = Each-two (IsFarFrom (other_paths folder run)) (IsIn a) (IsIn b) (λ p far is. (after p.to far.0 ∙ is.0, after p.from far.1 ∙ is.1)) (plan_in folder run)
          (plan-far folder run) put.in_place;
      none_else = removed;
      others = λ path w.
          let planned = paths_of (plan_in folder run) in
          after path (Each-last (λ q. path ≢ q) planned (other_paths folder run) w) ∙ put.others path (Each-first (λ q. path ≢ q) planned (other_paths folder run) w);
    }
