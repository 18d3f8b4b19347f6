-- Chains of the requests of a log, with one more.
use Rattle.std.proofs.Common.{◌≡◌, ℕ, zero, suc, ◌+◌, ◌<◌, ◌≤◌, true, eqb, ◌&&◌, List, [], ◌∷◌, ◌++◌, length, get_or, set, take, replicate, Option, Some, None, refl, sym, ap, subst, ◌∙◌, inl, inr, arith}
use Rattle.std.proofs.Math.Bool.{and-false}
use Rattle.std.proofs.lemmas.Bool.{cases_lt, and_parts, eqb-true, false_from_ne_true}
use Rattle.std.proofs.lemmas.List.{get_or_append_left, get_or_push, get_or-set_same, get_or-set_other, get_or-map, get_or-replicate, length-map, length-replicate, length-set, length-take, length_push, map-append, take_more}
use Rattle.queue.specs.Words.{candidate_of}
use Rattle.queue.specs.declared.request_log.chains.Chains.{Chains}
use Rattle.sim_base.specs.Access.{is_access}
use Rattle.sim_base.specs.declared.message.Access.{Access}
use Rattle.sim_base.specs.declared.message.Request.{Request}
use Rattle.queue.specs.Marks.{is_marked}
use Rattle.queue.specs.Log.{absent, eligible_column}
use Rattle.queue.specs.Columns.{bank_number}
use Rattle.queue.specs.Candidates.{asks, wants}
use Rattle.queue.specs.Moves.{NonePassesBefore}
use Rattle.queue.proofs.OneBank.{same_access}
use Rattle.queue.proofs.Searches.{here_is}
use Rattle.queue.specs.declared.request_log.Arrived.{Arrived}
use Rattle.queue.specs.Chains.{class_of, class_of_all, classes_of, NoneOf, IsNextOf, IsLastAt, IsLastOf, AreChained}

-- one more than a place is the word of the place
pub word_tells : (k : ℕ) → candidate_of (k + 1) ≡ Some k
word_tells k = let e : k + 1 ≡ suc k = omega arith in ap candidate_of e

-- the class of each request, with one more behind them
here : (classes : List ℕ) (c k : ℕ) → k < length classes → get_or (classes ++ c ∷ []) k 0 ≡ get_or classes k 0
here classes c k l = get_or_append_left classes (c ∷ []) 0 k l

there : (classes : List ℕ) (c : ℕ) → get_or (classes ++ c ∷ []) (length classes) 0 ≡ c
there classes c = get_or_push classes c 0 (length classes) refl

-- none is of a class up to a place, with one more behind all
none-here : (classes : List ℕ) (c d from until : ℕ) → until ≤ length classes → NoneOf classes d from until → NoneOf (classes ++ c ∷ []) d from until
none-here classes c d from until l none k a b is = none k a b (sym (here classes c k (omega (arith, b, l))) ∙ is)

none-more : (classes : List ℕ) (c d from : ℕ) → NoneOf classes d from (length classes) → (d ≡ c → ⊥) → NoneOf (classes ++ c ∷ []) d from (length (classes ++ c ∷ []))
none-more classes c d from none other k a b is = elim (cases_lt k (length classes)) [
  | inl l ↦ none k a l (sym (here classes c k l) ∙ is)
  | inr l ↦
      let e : k ≡ length classes = omega (arith, l, b, length_push classes c) in
      other (sym is ∙ ap (λ n. get_or (classes ++ c ∷ []) n 0) e ∙ there classes c)
]

-- the next one of a class is the same, unless there was none and the new one is of it
pub next-more : (classes : List ℕ) (c d from : ℕ) (next : Option ℕ) → IsNextOf classes d from next → (next ≡ None → d ≡ c → ⊥) → IsNextOf (classes ++ c ∷ []) d from next
next-more classes c d from None is other = none-more classes c d from is (other refl)
next-more classes c d from (Some next) is other =
    record {
      since = is.since;
      within = omega (arith, is.within, length_push classes c);
      same = here classes c next is.within ∙ is.same;
      none = none-here classes c d from next (omega (arith, is.within)) is.none;
    }

-- the new one is the next of its class behind the last one of it before
new-next : (classes : List ℕ) (c last : ℕ) → IsLastAt classes c last → IsNextOf (classes ++ c ∷ []) c (last + 1) (Some (length classes))
new-next classes c last is =
    record {
      since = omega (arith, is.within);
      within = omega (arith, length_push classes c);
      same = there classes c;
      none = none-here classes c c (last + 1) (length classes) (omega arith) is.none;
    }

-- none stands behind the new one
new-last : (classes : List ℕ) (c d : ℕ) → IsNextOf (classes ++ c ∷ []) d (length classes + 1) None
new-last classes c d k a b is = omega (arith, a, b, length_push classes c)

-- the nexts of all requests, where the new one is the first of its class
abbrev pub Nexts : List ℕ → List ℕ → Type 0
Nexts classes behind = (place : ℕ) → place < length classes → IsNextOf classes (get_or classes place 0) (place + 1) (candidate_of (get_or behind place 0))

abbrev pub Lasts : List ℕ → List ℕ → Type 0
Lasts classes last = (class : ℕ) → class < 128 → IsLastOf classes class (candidate_of (get_or last class 0))

-- the next of a request that stood before, where its word is the same
old-next : (classes behind : List ℕ) (c place word : ℕ) → length behind ≡ length classes → Nexts classes behind → place < length classes → word ≡ get_or behind place 0
    → (candidate_of word ≡ None → get_or classes place 0 ≡ c → ⊥) → IsNextOf (classes ++ c ∷ []) (get_or (classes ++ c ∷ []) place 0) (place + 1) (candidate_of word)
old-next classes behind c place word count nexts l is other =
    subst (λ d. IsNextOf (classes ++ c ∷ []) d (place + 1) (candidate_of word)) (sym (here classes c place l))
    (next-more classes c (get_or classes place 0) (place + 1) (candidate_of word) (subst (λ w. IsNextOf classes (get_or classes place 0) (place + 1) (candidate_of w)) (sym is) (nexts place l)) other)

-- the new one has no next
last-next : (classes : List ℕ) (c place word : ℕ) → place ≡ length classes → word ≡ 0 → IsNextOf (classes ++ c ∷ []) (get_or (classes ++ c ∷ []) place 0) (place + 1) (candidate_of word)
last-next classes c place word e z =
    subst (λ n. IsNextOf (classes ++ c ∷ []) (get_or (classes ++ c ∷ []) place 0) (n + 1) (candidate_of word)) (sym e)
    (subst (λ w. IsNextOf (classes ++ c ∷ []) (get_or (classes ++ c ∷ []) place 0) (length classes + 1) (candidate_of w)) (sym z) (new-last classes c (get_or (classes ++ c ∷ []) place 0)))

pub nexts-first : (classes behind : List ℕ) (c : ℕ) → length behind ≡ length classes → Nexts classes behind → IsLastOf classes c None → Nexts (classes ++ c ∷ []) (behind ++ 0 ∷ [])
nexts-first classes behind c count nexts none place l = elim (cases_lt place (length classes)) [
  | inl m ↦
      old-next classes behind c place (get_or (behind ++ 0 ∷ []) place 0) count nexts m (get_or_append_left behind (0 ∷ []) 0 place (omega (arith, m, count)))
      (λ e is. none place (omega arith) m is)
  | inr m ↦
      let e : place ≡ length classes = omega (arith, l, m, length_push classes c) in
      last-next classes c place (get_or (behind ++ 0 ∷ []) place 0) e (get_or_push behind 0 0 place (omega (arith, e, count)))
]

pub nexts-after : (classes behind : List ℕ) (c last : ℕ) → length behind ≡ length classes → Nexts classes behind → IsLastAt classes c last
    → Nexts (classes ++ c ∷ []) (set (behind ++ 0 ∷ []) last (length classes + 1))
nexts-after classes behind c last count nexts is place l = elim (cases_lt place (length classes)) [
  | inl m ↦ old place m
  | inr m ↦
      let e : place ≡ length classes = omega (arith, l, m, length_push classes c) in
      last-next classes c place (get_or words place 0) e
      (get_or-set_other (behind ++ 0 ∷ []) last place (length classes + 1) 0 (λ f. omega (arith, f, e, is.within)) ∙ get_or_push behind 0 0 place (omega (arith, e, count)))
]
  where
    words : List ℕ
    words = set (behind ++ 0 ∷ []) last (length classes + 1)

    behind-them : (place : ℕ) → place < length classes → (place ≡ last → ⊥) → candidate_of (get_or words place 0) ≡ None → get_or classes place 0 ≡ c → ⊥
    behind-them place m other none same = elim (cases_lt place last) [
      | inl sooner ↦
          let word : get_or words place 0 ≡ get_or behind place 0 =
          get_or-set_other (behind ++ 0 ∷ []) last place (length classes + 1) 0 (λ f. omega (arith, f, sooner)) ∙ get_or_append_left behind (0 ∷ []) 0 place (omega (arith, m, count)) in
          let last-is : NoneOf classes (get_or classes place 0) (place + 1) (length classes) = subst (IsNextOf classes (get_or classes place 0) (place + 1)) (ap candidate_of (sym word) ∙ none) (nexts place m) in
          last-is last (omega (arith, sooner)) is.within (is.same ∙ sym same)
      | inr late ↦ is.none place (omega (arith, late, different place last other late)) m same
    ]
      where
        different : (place last : ℕ) → (place ≡ last → ⊥) → last ≤ place → last < place
        different place last other late = elim (cases_lt last place) [
          | inl l ↦ l
          | inr m ↦ absurd (other (omega (arith, late, m)))
        ]

    old : (place : ℕ) → place < length classes → IsNextOf (classes ++ c ∷ []) (get_or (classes ++ c ∷ []) place 0) (place + 1) (candidate_of (get_or words place 0))
    old place m = elim (cases_lt place last) [
      | inl sooner ↦ kept (λ f. omega (arith, f, sooner))
      | inr late ↦ elim (cases_lt last place) [
        | inl later ↦ kept (λ f. omega (arith, f, later))
        | inr same ↦ own (omega (arith, late, same))
      ]
    ]
      where
        kept : (place ≡ last → ⊥) → IsNextOf (classes ++ c ∷ []) (get_or (classes ++ c ∷ []) place 0) (place + 1) (candidate_of (get_or words place 0))
        kept other =
            old-next classes behind c place (get_or words place 0) count nexts m
            (get_or-set_other (behind ++ 0 ∷ []) last place (length classes + 1) 0 other ∙ get_or_append_left behind (0 ∷ []) 0 place (omega (arith, m, count)))
            (behind-them place m other)

        own : place ≡ last → IsNextOf (classes ++ c ∷ []) (get_or (classes ++ c ∷ []) place 0) (place + 1) (candidate_of (get_or words place 0))
        own e =
            let long : last < length (behind ++ 0 ∷ []) = omega (arith, is.within, count, length_push behind 0) in
            let word : get_or words place 0 ≡ length classes + 1 = ap (λ n. get_or words n 0) e ∙ get_or-set_same (behind ++ 0 ∷ []) last (length classes + 1) 0 long in
            let class : get_or (classes ++ c ∷ []) place 0 ≡ c = ap (λ n. get_or (classes ++ c ∷ []) n 0) e ∙ here classes c last is.within ∙ is.same in
            subst (λ d. IsNextOf (classes ++ c ∷ []) d (place + 1) (candidate_of (get_or words place 0))) (sym class)
            (subst (λ n. IsNextOf (classes ++ c ∷ []) c (n + 1) (candidate_of (get_or words place 0))) (sym e)
            (subst (IsNextOf (classes ++ c ∷ []) c (last + 1)) (sym (ap candidate_of word ∙ word_tells (length classes))) (new-next classes c last is)))

-- the last one of a class, where the new one is of another
last-more : (classes : List ℕ) (c d : ℕ) (last : Option ℕ) → (d ≡ c → ⊥) → IsLastOf classes d last → IsLastOf (classes ++ c ∷ []) d last
last-more classes c d None other is = none-more classes c d 0 is other
last-more classes c d (Some last) other is =
    record {
      within = omega (arith, is.within, length_push classes c);
      same = here classes c last is.within ∙ is.same;
      none = none-more classes c d (last + 1) is.none other;
    }

pub lasts-more : (classes last : List ℕ) (c : ℕ) → length last ≡ 128 → c < 128 → Lasts classes last → Lasts (classes ++ c ∷ []) (set last c (length classes + 1))
lasts-more classes last c count few lasts class l = elim (cases_lt class c) [
  | inl less ↦ kept (λ e. omega (arith, e, less))
  | inr most ↦ elim (cases_lt c class) [
    | inl more ↦ kept (λ e. omega (arith, e, more))
    | inr same ↦ own (omega (arith, most, same))
  ]
]
  where
    words : List ℕ
    words = set last c (length classes + 1)

    kept : (class ≡ c → ⊥) → IsLastOf (classes ++ c ∷ []) class (candidate_of (get_or words class 0))
    kept other =
        subst (λ w. IsLastOf (classes ++ c ∷ []) class (candidate_of w)) (sym (get_or-set_other last c class (length classes + 1) 0 other))
        (last-more classes c class (candidate_of (get_or last class 0)) other (lasts class l))

    own : class ≡ c → IsLastOf (classes ++ c ∷ []) class (candidate_of (get_or words class 0))
    own e =
        let word : get_or words class 0 ≡ length classes + 1 = ap (λ n. get_or words n 0) e ∙ get_or-set_same last c (length classes + 1) 0 (omega (arith, few, count)) in
        let at : IsLastAt (classes ++ c ∷ []) c (length classes) =
        record { within = omega (arith, length_push classes c); same = there classes c; none = new-last classes c c } in
        subst (λ d. IsLastOf (classes ++ c ∷ []) d (candidate_of (get_or words class 0))) (sym e)
        (subst (IsLastOf (classes ++ c ∷ []) c) (sym (ap candidate_of word ∙ word_tells (length classes))) at)

-- the chains with the words that they have then
pub chained-more : (classes words : List ℕ) (c : ℕ) (old new : Chains) → AreChained classes old → c < 128 → new.behind.items ≡ words → length words ≡ length classes + 1 → Nexts (classes ++ c ∷ []) words
    → new.last.items ≡ set old.last.items c (length classes + 1) → AreChained (classes ++ c ∷ []) new
chained-more classes words c old new h few words_are long nexts lasts_are =
    record {
      count = ap length words_are ∙ long ∙ sym (length_push classes c);
      lasts_count = ap length lasts_are ∙ length-set old.last.items c (length classes + 1) ∙ h.lasts_count;
      nexts = subst (Nexts (classes ++ c ∷ [])) (sym words_are) nexts;
      lasts = subst (Lasts (classes ++ c ∷ [])) (sym lasts_are) (lasts-more classes old.last.items c h.lasts_count few h.lasts);
    }

-- the word of a class with a request, and of one with none
pub last-there : (classes : List ℕ) (c last word : ℕ) (chains : Chains) → AreChained classes chains → c < 128 → word ≡ get_or chains.last.items c 0 → word ≡ last + 1 → IsLastAt classes c last
last-there classes c last word chains h few is tells = subst (IsLastOf classes c) (ap candidate_of (sym is ∙ tells) ∙ word_tells last) (h.lasts c few)

pub last-none : (classes : List ℕ) (c word : ℕ) (chains : Chains) → AreChained classes chains → c < 128 → word ≡ get_or chains.last.items c 0 → (1 ≤ word → ⊥) → IsLastOf classes c None
last-none classes c word chains h few is none = subst (IsLastOf classes c) (ap candidate_of (sym is ∙ zero_from word none)) (h.lasts c few)
  where
    zero_from : (n : ℕ) → (1 ≤ n → ⊥) → n ≡ 0
    zero_from zero h = refl
    zero_from (suc n) h = absurd (h (omega arith))

-- the chains of no requests
pub chained-none : (chains : Chains) (n : ℕ) → chains.behind.items ≡ [] → chains.last.items ≡ replicate n 0 → n ≡ 128 → AreChained [] chains
chained-none chains n none zeros many =
    record {
      count = ap length none;
      lasts_count = ap length zeros ∙ length-replicate n 0 ∙ many;
      nexts = λ place l. absurd (omega (arith, l));
      lasts = λ class l.
          let word : get_or chains.last.items class 0 ≡ 0 = ap (λ ws. get_or ws class 0) zeros ∙ get_or-replicate n class 0 0 (omega (arith, l, many)) in
          subst (λ w. IsLastOf [] class (candidate_of w)) (sym word) (λ k a b is. omega (arith, b));
    }

-- the classes of the requests before a place, and of one more
pub classes-more : (log : List Arrived) (i class : ℕ) (d : Arrived) → class ≡ class_of (get_or log i d).request → i < length log → classes_of (take (i + 1) log) ≡ classes_of (take i log) ++ class ∷ []
classes-more log i class d is l =
    ap classes_of (take_more log i d l) ∙ map-append (λ (a : Arrived). class_of a.request) (take i log) (get_or log i d ∷ [])
    ∙ ap (λ n. classes_of (take i log) ++ n ∷ []) (sym is)

pub classes-taken : (log : List Arrived) (i : ℕ) → length (classes_of (take i log)) ≤ i
classes-taken log i = omega (arith, length-map (take i log) (λ (a : Arrived). class_of a.request), length-take i log)

-- the class of each request of a log, with one more, and where one request is changed but for its class
pub classes-push : (log : List Arrived) (a : Arrived) → classes_of (log ++ a ∷ []) ≡ classes_of log ++ class_of a.request ∷ []
classes-push log a = map-append (λ (b : Arrived). class_of b.request) log (a ∷ [])

pub classes-set : (log : List Arrived) (place : ℕ) (a d : Arrived) → a.request ≡ (get_or log place d).request → classes_of (set log place a) ≡ classes_of log
classes-set [] place a d is = refl
classes-set (x ∷ log) zero a d is = ap (λ (r : Request). class_of r ∷ classes_of log) is
classes-set (x ∷ log) (suc place) a d is = ap (λ l. class_of x.request ∷ l) (classes-set log place a d is)

-- the class of the request at a place
pub class-at : (log : List Arrived) (k : ℕ) (d : Arrived) → k < length log → get_or (classes_of log) k 0 ≡ class_of (get_or log k d).request
class-at log k d l = get_or-map (λ (a : Arrived). class_of a.request) log k d 0 l

-- requests of a bank and an access are of one class
pub asks-class : (bank : ℕ) (access : Access) (r : Request) → asks bank access r ≡ true → class_of r ≡ class_of_all bank access
asks-class bank access r is =
    let parts = and_parts (eqb (bank_number r.place) bank) (is_access access r.access) is in
    (λ i. class_of_all (eqb-true (bank_number r.place) bank parts.0 i) (same_access access r.access parts.1 i))

-- a request that is wanted is of the bank and the access
wants-asks : (bank : ℕ) (access : Access) (row : Option ℕ) (r : Request) → wants bank access row r ≡ true → asks bank access r ≡ true
wants-asks bank access None r is = is
wants-asks bank access (Some row) r is = (and_parts (asks bank access r) (eqb r.place.row row) is).0

-- none is wanted up to a place, where none up to another is, and none between is of the class
pub none-wanted : (log : List Arrived) (bank : ℕ) (access : Access) (row : Option ℕ) (from until : ℕ) → NonePassesBefore (wants bank access row) log from
    → NoneOf (classes_of log) (class_of_all bank access) from until → NonePassesBefore (wants bank access row) log until
none-wanted log bank access row from until fails none k d below exists = elim (cases_lt k from) [
  | inl sooner ↦ fails k d sooner exists
  | inr late ↦
      let test = wants bank access row in
      let r = (get_or log k absent).request in
      let mark = is_marked (get_or (eligible_column log) k 0) in
      here_is test log k absent d exists
      ∙ ap (λ b. mark && b) (false_from_ne_true (test r) (λ is. none k late below (class-at log k absent exists ∙ asks-class bank access r (wants-asks bank access row r is))))
      ∙ and-false mark
]
