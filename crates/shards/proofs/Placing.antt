-- Results in the places of their shards.
use Rattle.std.proofs.Common.{◌≡◌, ℕ, zero, suc, ◌+◌, ◌<◌, Bool, true, false, cond, eqb, ltb, not, ◌&&◌, ◌||◌, List, [], ◌∷◌, ◌++◌, length, map, get_or, Option, Some, None, refl, sym, ap, ap₂, subst, ◌∙◌, add-zero, zero-add, arith}
use Rattle.std.specs.Prelude.{find, option_map, is_some}
use Rattle.std.specs.List.{list_any, range_with_len}
use Rattle.std.proofs.Math.ListN.{set}
use Rattle.std.proofs.lemmas.Bool.{cond-true, cond-false, and_parts, lt-ltb}
use Rattle.std.proofs.lemmas.Bool.Decides.{nat_tests}
use Rattle.std.proofs.lemmas.List.Folds.{list_any-append}
use Rattle.std.proofs.lemmas.List.FromFn.{get_or-map-range_with_len}
use Rattle.std.proofs.lemmas.Simd.{map-map}
use Rattle.std.proofs.Math.Bool.{or-false, or-true}
use Rattle.sim_base.specs.History.{below}
use Rattle.sim_base.specs.declared.fault.MergeFault.{MergeFault}
use Rattle.sim_base.specs.declared.fault.MergeFault.TheVariants.{Missing, Double, Stranger}
use Rattle.sim_base.proofs.Lists.{length-map_below}
use Rattle.units.proofs.Lasting.{same-answer}
use Rattle.shards.specs.Jobs.{JobView}
use Rattle.shards.specs.Merging.{same_name, is_among, names_of, fault_at, first_fault, missing, result_at, results_at}
use Rattle.sim_base.specs.Scheduling.{or_else}
use Rattle.shards.specs.Phases.{PhaseView, shard_count, name_of, job_of, jobs_of}
use Rattle.shards.specs.declared.job.JobName.{JobName}

map-range_same : {X : Type 0} (f g : ℕ → X) (a n : ℕ) → ((i : ℕ) → i < n → f (a + i) ≡ g (a + i)) → map f (range_with_len a n) ≡ map g (range_with_len a n)
map-range_same f g a zero h = refl
map-range_same f g a (suc n) h =
    ap₂ (λ x y. x ∷ y) (subst (λ j. f j ≡ g j) (add-zero a) (h zero (omega arith)))
    (map-range_same f g (a + 1) n (λ i k. let e : a + suc i ≡ a + 1 + i = omega arith in subst (λ j. f j ≡ g j) e (h (suc i) (omega arith))))

set-range : {X : Type 0} (f g : ℕ → X) (a n k : ℕ) → k < n → ((i : ℕ) → i < n → (i ≡ k → ⊥) → f (a + i) ≡ g (a + i))
    → set (map f (range_with_len a n)) k (g (a + k)) ≡ map g (range_with_len a n)
set-range f g a zero k l h = absurd (omega arith)
set-range f g a (suc n) zero l h =
    ap₂ (λ x y. x ∷ y) (ap g (add-zero a)) (map-range_same f g (a + 1) n (λ i k. let e : a + suc i ≡ a + 1 + i = omega arith in subst (λ j. f j ≡ g j) e (h (suc i) (omega arith) (λ z. omega arith))))
set-range f g a (suc n) (suc k) l h =
    let e : a + 1 + k ≡ a + suc k = omega arith in
    ap₂ (λ x y. x ∷ y) (subst (λ j. f j ≡ g j) (add-zero a) (h zero (omega arith) (λ z. omega arith)))
    (ap (λ j. set (map f (range_with_len (a + 1) n)) k (g j)) (sym e)
    ∙ set-range f g (a + 1) n k (omega arith) (λ i m d. let t : a + suc i ≡ a + 1 + i = omega arith in subst (λ j. f j ≡ g j) t (h (suc i) (omega arith) (λ z. d (omega arith)))))

any-range : {X : Type 0} (q : X → Bool) (f : ℕ → X) (a n : ℕ) → list_any q (map f (range_with_len a n)) ≡ true → (i : ℕ) × (i < a + n) × (q (f i) ≡ true)
any-range q f a zero e = absurd (differ e)
  where
    differ : false ≡ true → ⊥
    differ e = cc
any-range q f a (suc n) e = by (q (f a)) refl (any-range q f (a + 1) n)
  where
    further : (i : ℕ) × (i < a + 1 + n) × (q (f i) ≡ true) → (i : ℕ) × (i < a + suc n) × (q (f i) ≡ true)
    further r = (r.0, omega (arith, r.1), r.2)

    by : (b : Bool) → q (f a) ≡ b → (list_any q (map f (range_with_len (a + 1) n)) ≡ true → (i : ℕ) × (i < a + 1 + n) × (q (f i) ≡ true)) → (i : ℕ) × (i < a + suc n) × (q (f i) ≡ true)
    by true g h = (a, omega arith, g)
    by false g h = further (h (sym (ap (λ b. b || list_any q (map f (range_with_len (a + 1) n))) g) ∙ e))

any-here : {X : Type 0} (q : X → Bool) (f : ℕ → X) (a n i : ℕ) → i < n → q (f (a + i)) ≡ true → list_any q (map f (range_with_len a n)) ≡ true
any-here q f a zero i l e = absurd (omega arith)
any-here q f a (suc n) zero l e = ap (λ b. b || list_any q (map f (range_with_len (a + 1) n))) (subst (λ j. q (f j) ≡ true) (add-zero a) e)
any-here q f a (suc n) (suc i) l e =
    let t : a + suc i ≡ a + 1 + i = omega arith in
    ap (λ b. q (f a) || b) (any-here q f (a + 1) n i (omega arith) (subst (λ j. q (f j) ≡ true) t e)) ∙ either (q (f a))
  where
    either : (b : Bool) → (b || true) ≡ true
    either true = refl
    either false = refl

pub same_name-self : (n : JobName) → same_name n n ≡ true
same_name-self n =
    let e : eqb n.phase n.phase ≡ true = grind (arith, nat_tests) in
    let s : eqb n.shard n.shard ≡ true = grind (arith, nat_tests) in
    let f : eqb n.from n.from ≡ true = grind (arith, nat_tests) in
    let g : eqb n.until n.until ≡ true = grind (arith, nat_tests) in
    ap₂ (λ a b. (a && b) && (eqb n.from n.from && eqb n.until n.until)) e s
    ∙ ap₂ (λ a b. a && b) f g

pub same_name-is : (a b : JobName) → same_name a b ≡ true → a ≡ b
same_name-is a b e =
    let h = and_parts ((eqb a.phase b.phase) && (eqb a.shard b.shard)) ((eqb a.from b.from) && (eqb a.until b.until)) e in
    let k = and_parts (eqb a.phase b.phase) (eqb a.shard b.shard) h.0 in
    let l = and_parts (eqb a.from b.from) (eqb a.until b.until) h.1 in
    let phase : a.phase ≡ b.phase = grind (arith, nat_tests) in
    let shard : a.shard ≡ b.shard = grind (arith, nat_tests) in
    let from : a.from ≡ b.from = grind (arith, nat_tests) in
    let until : a.until ≡ b.until = grind (arith, nat_tests) in
    ap₂ {C = JobName} (λ p u. record { phase = p; shard = u; from = a.from; until = a.until }) phase shard
    ∙ ap₂ {C = JobName} (λ f u. record { phase = b.phase; shard = b.shard; from = f; until = u }) from until

-- a name of a job of a phase has a place
pub among-place : (p : PhaseView) (name : JobName) → is_among (names_of p) name ≡ true → (place : ℕ) × (place < shard_count p) × (name_of p place ≡ name)
among-place p name e =
    let r = any-range (λ n. same_name n name) (name_of p) 0 (shard_count p) e in
    (r.0, omega (arith, r.1), same_name-is _ _ r.2)

pub place-among : (p : PhaseView) (place : ℕ) → place < shard_count p → is_among (names_of p) (name_of p place) ≡ true
place-among p place l =
    let z : 0 + place ≡ place = omega arith in
    any-here (λ n. same_name n (name_of p place)) (name_of p) 0 (shard_count p) place l
    (subst (λ j. same_name (name_of p j) (name_of p place) ≡ true) (sym z) (same_name-self (name_of p place)))

pub name-place : (p : PhaseView) (i j : ℕ) → name_of p i ≡ name_of p j → i ≡ j
name-place p i j e = ap (λ (n : JobName). n.shard) e

among-more : (names : List JobName) (name other : JobName) → is_among (names ++ name ∷ []) other ≡ (is_among names other || same_name name other)
among-more names name other =
    list_any-append (λ n. same_name n other) names (name ∷ []) ∙ ap (λ b. is_among names other || b) (or-false (same_name name other))

-- one result more takes its place, and leaves the others
pub results-put : (p : PhaseView) (names : List JobName) (place : ℕ) → place < shard_count p
    → set (results_at p names) place (Some (job_of p place)) ≡ results_at p (names ++ name_of p place ∷ [])
unfolding results_at
results-put p names place l =
    let more = names ++ name_of p place ∷ [] in
    let here : result_at p more place ≡ Some (job_of p place) =
    cond-true _ _ _ (among-more names (name_of p place) (name_of p place) ∙ ap (λ b. is_among names (name_of p place) || b) (same_name-self (name_of p place)) ∙ or-true _) in
    ap (λ x. set (map (result_at p names) (below (shard_count p))) place x) (sym here)
    ∙ ap (λ j. set (map (result_at p names) (below (shard_count p))) place (result_at p more j)) z
    ∙ set-range (result_at p names) (result_at p more) 0 (shard_count p) place l (λ i k d. other (0 + i) (λ e. d (omega arith)))
  where
    z : place ≡ 0 + place
    z = omega arith

    other : (i : ℕ) → (i ≡ place → ⊥) → result_at p names i ≡ result_at p (names ++ name_of p place ∷ []) i
    other i d = by (same_name (name_of p place) (name_of p i)) refl
      where
        by : (b : Bool) → same_name (name_of p place) (name_of p i) ≡ b → result_at p names i ≡ result_at p (names ++ name_of p place ∷ []) i
        by true e = absurd (d (name-place p i place (sym (same_name-is _ _ e))))
        by false e = ap (λ b. cond b (Some (job_of p i)) None) (sym (among-more names (name_of p place) (name_of p i) ∙ ap (λ b. is_among names (name_of p i) || b) e ∙ or-false _))

result-some : (b : Bool) (x : JobView) → is_some (cond b (Some x) None) ≡ b
result-some true x = refl
result-some false x = refl

-- a place is taken where the name of its job is among those that came
pub result-taken : (p : PhaseView) (names : List JobName) (place : ℕ) → is_some (result_at p names place) ≡ is_among names (name_of p place)
result-taken p names place = result-some (is_among names (name_of p place)) (job_of p place)

pub fault-stranger : (p : PhaseView) (names : List JobName) (name : JobName) → is_among (names_of p) name ≡ false → fault_at p names name ≡ Some (Stranger (length names))
unfolding fault_at
fault-stranger p names name e = cond-true _ _ _ (ap not e)

pub fault-double : (p : PhaseView) (names : List JobName) (name : JobName) → is_among (names_of p) name ≡ true → is_among names name ≡ true
    → fault_at p names name ≡ Some (Double (length names))
unfolding fault_at
fault-double p names name e f = cond-false _ _ _ (ap not e) ∙ cond-true _ _ _ f

pub fault-none : (p : PhaseView) (names : List JobName) (name : JobName) → is_among (names_of p) name ≡ true → is_among names name ≡ false → fault_at p names name ≡ None
unfolding fault_at
fault-none p names name e f = cond-false _ _ _ (ap not e) ∙ cond-false _ _ _ f

first-false : (b : ℕ → Bool) (a n k : ℕ) → k < n → ((i : ℕ) → i < k → b (a + i) ≡ true) → b (a + k) ≡ false → find (λ i. not (b i)) (range_with_len a n) ≡ Some (a + k)
first-false b a zero k l h e = absurd (omega arith)
first-false b a (suc n) zero l h e = cond-true _ _ _ (ap not (subst (λ j. b j ≡ false) (add-zero a) e)) ∙ ap Some (sym (add-zero a))
first-false b a (suc n) (suc k) l h e =
    let t : a + suc k ≡ a + 1 + k = omega arith in
    cond-false _ _ _ (ap not (subst (λ j. b j ≡ true) (add-zero a) (h 0 (omega arith))))
    ∙ first-false b (a + 1) n k (omega arith) (λ i m. let u : a + suc i ≡ a + 1 + i = omega arith in subst (λ j. b j ≡ true) u (h (suc i) (omega arith))) (subst (λ j. b j ≡ false) t e)
    ∙ ap Some (sym t)

none-false : (b : ℕ → Bool) (a n : ℕ) → ((i : ℕ) → i < n → b (a + i) ≡ true) → find (λ i. not (b i)) (range_with_len a n) ≡ None
none-false b a zero h = refl
none-false b a (suc n) h =
    cond-false _ _ _ (ap not (subst (λ j. b j ≡ true) (add-zero a) (h 0 (omega arith))))
    ∙ none-false b (a + 1) n (λ i m. let u : a + suc i ≡ a + 1 + i = omega arith in subst (λ j. b j ≡ true) u (h (suc i) (omega arith)))

-- a name is one of a phase where it has its number and cycles, and one of its shards
abbrev is_of : PhaseView → JobName → Bool
is_of p n = (eqb n.phase p.number && (eqb n.from p.from && eqb n.until p.until)) && ltb n.shard (shard_count p)

is_of-own : (p : PhaseView) (place : ℕ) → place < shard_count p → is_of p (name_of p place) ≡ true
is_of-own p place l =
    let f : eqb p.number p.number ≡ true = grind (arith, nat_tests) in
    let g : eqb p.from p.from ≡ true = grind (arith, nat_tests) in
    let k : eqb p.until p.until ≡ true = grind (arith, nat_tests) in
    ap₂ (λ a b. (a && (b && eqb p.until p.until)) && ltb place (shard_count p)) f g ∙ ap₂ (λ a b. a && b) k (lt-ltb place (shard_count p) l)

is_of-name : (p : PhaseView) (n : JobName) → is_of p n ≡ true → (n.shard < shard_count p) × (name_of p n.shard ≡ n)
is_of-name p n e =
    let h = and_parts (eqb n.phase p.number && (eqb n.from p.from && eqb n.until p.until)) (ltb n.shard (shard_count p)) e in
    let k = and_parts (eqb n.phase p.number) (eqb n.from p.from && eqb n.until p.until) h.0 in
    let l = and_parts (eqb n.from p.from) (eqb n.until p.until) k.1 in
    let phase : p.number ≡ n.phase = grind (arith, nat_tests) in
    let from : p.from ≡ n.from = grind (arith, nat_tests) in
    let until : p.until ≡ n.until = grind (arith, nat_tests) in
    let less : n.shard < shard_count p = grind (arith, nat_tests) in (
      less,
      ap {B = JobName} (λ a. record { phase = a; shard = n.shard; from = p.from; until = p.until }) phase
          ∙ ap₂ {C = JobName} (λ a b. record { phase = n.phase; shard = n.shard; from = a; until = b }) from until,
    )

-- which is to be one of its names
pub among-is : (p : PhaseView) (n : JobName) → is_among (names_of p) n ≡ ((eqb n.phase p.number && (eqb n.from p.from && eqb n.until p.until)) && ltb n.shard (shard_count p))
among-is p n =
    same-answer (is_among (names_of p) n) (is_of p n)
    (λ e. let r = among-place p n e in subst (λ (m : JobName). is_of p m ≡ true) r.2 (is_of-own p r.0 r.1))
    (λ e. let r = is_of-name p n e in subst (λ (m : JobName). is_among (names_of p) m ≡ true) r.1 (place-among p n.shard r.0))

-- a name that is among those of a phase has a place in it
pub among-own : (p : PhaseView) (n : JobName) → is_among (names_of p) n ≡ true → (n.shard < shard_count p) × (name_of p n.shard ≡ n)
among-own p n e = is_of-name p n (sym (among-is p n) ∙ e)

pub results-none : (p : PhaseView) → map (result_at p []) (below (shard_count p)) ≡ results_at p []
unfolding results_at
results-none p = refl

-- what stands in a place
pub result-is : (p : PhaseView) (names : List JobName) (by_shard : List (Option JobView)) (place : ℕ) (d : Option JobView) → by_shard ≡ results_at p names → place < shard_count p
    → get_or by_shard place d ≡ result_at p names place
unfolding results_at
result-is p names by_shard place d e l =
    ap (λ z. get_or z place d) e ∙ get_or-map-range_with_len (result_at p names) 0 (shard_count p) place place d l (zero-add place)

pub results-count : (p : PhaseView) (names : List JobName) → length (results_at p names) ≡ shard_count p
unfolding results_at
results-count p names = length-map_below (result_at p names) (shard_count p)

pub first-none_yet : (p : PhaseView) (earlier names : List JobName) (name : JobName) → fault_at p earlier name ≡ None
    → first_fault p earlier (name ∷ names) ≡ first_fault p (earlier ++ name ∷ []) names
unfolding first_fault
first-none_yet p earlier names name e = ap (λ f. or_else f (first_fault p (earlier ++ name ∷ []) names)) e

pub first-found : (p : PhaseView) (earlier names : List JobName) (name : JobName) (fault : MergeFault) → fault_at p earlier name ≡ Some fault
    → first_fault p earlier (name ∷ names) ≡ Some fault
unfolding first_fault
first-found p earlier names name fault e = ap (λ f. or_else f (first_fault p (earlier ++ name ∷ []) names)) e

pub first-end : (p : PhaseView) (earlier : List JobName) → first_fault p earlier [] ≡ None
unfolding first_fault
first-end p earlier = refl

-- a result of the phase's machine is that of the job whose name it has
pub job-is : (p : PhaseView) (place : ℕ) (d : JobView) → d.machine ≡ p.machine → d.bounds ≡ p.bounds → name_of p place ≡ d.name → d ≡ job_of p place
job-is p place d h b l =
    ap {B = JobView} (λ m. record { machine = m; bounds = d.bounds; name = d.name }) h
    ∙ ap₂ {C = JobView} (λ bs n. record { machine = p.machine; bounds = bs; name = n }) b (sym l)

-- whether a place has a result is whether its name is among those that came
taken-is : (p : PhaseView) (names : List JobName) (places : List (Option JobView)) (i : ℕ) (t : Bool) → places ≡ results_at p names → i < shard_count p
    → is_some (get_or places i None) ≡ t → is_among names (name_of p (0 + i)) ≡ t
taken-is p names places i t e l h = ap (λ j. is_among names (name_of p j)) (zero-add i) ∙ sym (result-taken p names i) ∙ sym (ap is_some (result-is p names places i None e l)) ∙ h

-- whether the place of a job's name has a result is whether the name is among those that came
pub taken-name : (p : PhaseView) (names : List JobName) (name : JobName) (places : List (Option JobView)) → places ≡ results_at p names → is_among (names_of p) name ≡ true
    → is_among names name ≡ is_some (get_or places name.shard None)
taken-name p names name places e known =
    let own = among-own p name known in
    sym (ap (is_among names) own.1) ∙ sym (result-taken p names name.shard) ∙ sym (ap is_some (result-is p names places name.shard None e own.0))

-- the first place without a result is that of the shard that is missing
pub missing-at : (p : PhaseView) (names : List JobName) (places : List (Option JobView)) (k : ℕ) → places ≡ results_at p names → k < shard_count p
    → ((i : ℕ) → i < k → is_some (get_or places i None) ≡ true) → is_some (get_or places k None) ≡ false → missing p names ≡ Some (Missing k)
unfolding missing
missing-at p names places k e l h f =
    ap (option_map Missing)
    (first-false (λ i. is_among names (name_of p i)) 0 (shard_count p) k l (λ i m. taken-is p names places i true e (omega (arith, l, m)) (h i m)) (taken-is p names places k false e l f)
    ∙ ap Some (zero-add k))

-- no shard is missing where all places have results
pub missing-none : (p : PhaseView) (names : List JobName) (places : List (Option JobView)) → places ≡ results_at p names
    → ((i : ℕ) → i < shard_count p → is_some (get_or places i None) ≡ true) → missing p names ≡ None
unfolding missing
missing-none p names places e h =
    ap (option_map Missing) (none-false (λ i. is_among names (name_of p i)) 0 (shard_count p) (λ i m. taken-is p names places i true e m (h i m)))

-- where no shard is missing, all places have the results of the phase
pub all-placed : (p : PhaseView) (names : List JobName) (places : List (Option JobView)) → places ≡ results_at p names
    → ((i : ℕ) → i < shard_count p → is_some (get_or places i None) ≡ true) → places ≡ map Some (jobs_of p)
unfolding results_at
all-placed p names places e h =
    e
    ∙ map-range_same (result_at p names) (λ i. Some (job_of p i)) 0 (shard_count p) (λ i l. cond-true _ _ _ (taken-is p names places i true e l (h i l)))
    ∙ sym (map-map Some (job_of p) (below (shard_count p)))

-- the results that stand in places
pub there : List (Option JobView) → List JobView
there [] = []
there (None ∷ xs) = there xs
there (Some x ∷ xs) = x ∷ there xs

pub there-nothing : there [] ≡ []
unfolding there
there-nothing = refl

pub there-some : (xs : List (Option JobView)) (x : JobView) → there (xs ++ Some x ∷ []) ≡ there xs ++ x ∷ []
unfolding there
there-some [] x = refl
there-some (None ∷ xs) x = there-some xs x
there-some (Some y ∷ xs) x = ap (λ z. y ∷ z) (there-some xs x)

pub there-none : (xs : List (Option JobView)) → there (xs ++ None ∷ []) ≡ there xs
unfolding there
there-none [] = refl
there-none (None ∷ xs) = there-none xs
there-none (Some y ∷ xs) = ap (λ z. y ∷ z) (there-none xs)

pub there-all : (xs : List JobView) → there (map Some xs) ≡ xs
unfolding there
there-all [] = refl
there-all (x ∷ xs) = ap (λ z. x ∷ z) (there-all xs)
