-- Results of a phase of which there is one of each job: nothing is wrong with them.
use Rattle.std.proofs.Common.{◌≡◌, ℕ, zero, suc, ◌+◌, ◌<◌, ◌≤◌, Bool, true, false, cond, not, ◌||◌, List, [], ◌∷◌, ◌++◌, get_or, map, None, IsPermutation, refl, sym, ap, ap₂, subst, ◌∙◌, append_assoc, zero-add, arith}
use Rattle.std.specs.Prelude.{option_map, sum_by, All}
use Rattle.std.specs.List.{range_with_len}
use Rattle.std.proofs.lemmas.List.Sorted.{All-permutation, IsPermutation-map, list_any-IsPermutation, sum_by-IsPermutation}
use Rattle.std.proofs.lemmas.List.FromFn.{get_or-map-range_with_len}
use Rattle.std.proofs.lemmas.List.Sums.{sum_by-cons, sum_by-append}
use Rattle.std.proofs.lemmas.Simd.{map-map}
use Rattle.std.proofs.Math.Bool.{or-true}
use Rattle.sim_base.specs.History.{below}
use Rattle.shards.specs.Merging.{same_name, is_among, names_of, first_fault, missing, merge_fault, IsOf}
use Rattle.sim_base.specs.Scheduling.{or_else}
use Rattle.shards.specs.Jobs.{JobView}
use Rattle.shards.specs.Phases.{PhaseView, shard_count, name_of, job_of, jobs_of}
use Rattle.shards.specs.declared.job.JobName.{JobName}
use Rattle.sim_base.specs.declared.fault.MergeFault.TheVariants.{Missing}
use Rattle.sim_base.proofs.Lists.{find-none, length-map_below}
use Rattle.std.proofs.lemmas.Bool.{false≢true}
use Rattle.shards.proofs.Placing.{same_name-self, same_name-is, name-place, place-among, fault-none, first-none_yet, first-end}

-- 1 for a name that is this one
abbrev one : JobName → JobName → ℕ
one name n = cond (same_name n name) 1 0

-- how often a name stands in a list
abbrev times : JobName → List JobName → ℕ
times name names = sum_by (one name) names

nowhere : (name : JobName) (f : ℕ → JobName) (a n : ℕ) → ((i : ℕ) → a ≤ i → same_name (f i) name ≡ false) → times name (map f (range_with_len a n)) ≡ 0
nowhere name f a zero h = refl
nowhere name f a (suc n) h =
    let here : one name (f a) ≡ 0 = ap (λ b. cond b 1 0) (h a (omega arith)) in
    let rest = nowhere name f (a + 1) n (λ i l. h i (omega arith)) in
    let both = sum_by-cons (one name) (f a) (map f (range_with_len (a + 1) n)) in
    omega arith

-- of names that differ each stands once
once : (name : JobName) (f : ℕ → JobName) → ((i j : ℕ) → f i ≡ f j → i ≡ j) → (a n : ℕ) → times name (map f (range_with_len a n)) ≤ 1
once name f apart a zero = omega arith
once name f apart a (suc n) = by (same_name (f a) name) refl (once name f apart (a + 1) n)
  where
    by : (b : Bool) → same_name (f a) name ≡ b → times name (map f (range_with_len (a + 1) n)) ≤ 1 → times name (f a ∷ map f (range_with_len (a + 1) n)) ≤ 1
    by false e h =
        let here : one name (f a) ≡ 0 = ap (λ b. cond b 1 0) e in
        let both = sum_by-cons (one name) (f a) (map f (range_with_len (a + 1) n)) in
        omega arith
    by true e h =
        let here : one name (f a) ≡ 1 = ap (λ b. cond b 1 0) e in
        let rest = nowhere name f (a + 1) n (λ i l. other i l (same_name (f i) name) refl) in
        let both = sum_by-cons (one name) (f a) (map f (range_with_len (a + 1) n)) in
        omega arith
      where
        other : (i : ℕ) → a + 1 ≤ i → (b : Bool) → same_name (f i) name ≡ b → same_name (f i) name ≡ false
        other i l false g = g
        other i l true g =
            let same = apart i a (same_name-is _ _ g ∙ sym (same_name-is _ _ e)) in
            absurd (omega arith)

-- a name that is among others stands there
stands : (name : JobName) (names : List JobName) → is_among names name ≡ true → 1 ≤ times name names
stands name [] e = absurd (false≢true e)
stands name (n ∷ names) e = by (same_name n name) refl (stands name names)
  where
    by : (b : Bool) → same_name n name ≡ b → (is_among names name ≡ true → 1 ≤ times name names) → 1 ≤ times name (n ∷ names)
    by true g h =
        let here : one name n ≡ 1 = ap (λ b. cond b 1 0) g in
        let both = sum_by-cons (one name) n names in
        omega arith
    by false g h =
        let rest = h (sym (ap (λ b. b || is_among names name) g) ∙ e) in
        let both = sum_by-cons (one name) n names in
        omega arith

-- names of jobs of a phase, none of them twice, are neither strangers nor doubles
no-first_fault : (p : PhaseView) (earlier names : List JobName) → ((name : JobName) → times name (earlier ++ names) ≤ 1)
    → ((name : JobName) → is_among names name ≡ true → is_among (names_of p) name ≡ true) → first_fault p earlier names ≡ None
no-first_fault p earlier [] single known = first-end p earlier
no-first_fault p earlier (name ∷ names) single known =
    first-none_yet p earlier names name (fault-none p earlier name (known name here) (new (is_among earlier name) refl))
    ∙ no-first_fault p (earlier ++ name ∷ []) names (λ n. subst (λ l. times n l ≤ 1) (sym (append_assoc earlier (name ∷ []) names)) (single n))
    (λ n e. known n (ap (λ b. same_name name n || b) e ∙ or-true (same_name name n)))
  where
    here : is_among (name ∷ names) name ≡ true
    here = ap (λ b. b || is_among names name) (same_name-self name)

    new : (b : Bool) → is_among earlier name ≡ b → is_among earlier name ≡ false
    new false e = e
    new true e =
        let before = stands name earlier e in
        let again = stands name (name ∷ names) here in
        let both = sum_by-append (one name) earlier (name ∷ names) in
        let most = single name in
        absurd (omega arith)

no-missing : (p : PhaseView) (names : List JobName) → ((place : ℕ) → place < shard_count p → is_among names (name_of p place) ≡ true) → missing p names ≡ None
unfolding missing
no-missing p names h =
    ap (option_map Missing)
    (find-none (λ place. not (is_among names (name_of p place))) 0 (shard_count p) (λ i from l. ap not (h i (omega arith))))

-- the names of results of which there is one of each job are those of the jobs, in some order
moved : (p : PhaseView) (results : List JobView) → IsPermutation (jobs_of p) results → IsPermutation (names_of p) (map (λ (d : JobView). d.name) results)
moved p results same =
    subst (λ l. IsPermutation l (map (λ (d : JobView). d.name) results)) (map-map (λ (d : JobView). d.name) (job_of p) (below (shard_count p)))
    (IsPermutation-map (λ (d : JobView). d.name) (jobs_of p) results same)

alike : (p : PhaseView) (results : List JobView) → IsPermutation (jobs_of p) results → (n : JobName) → is_among (names_of p) n ≡ is_among (map (λ (d : JobView). d.name) results) n
alike p results same n = list_any-IsPermutation (λ m. same_name m n) (names_of p) (map (λ (d : JobView). d.name) results) (moved p results same)

-- among results of which there is one of each job there is no stranger and no double
pub whole-first : (p : PhaseView) (results : List JobView) → IsPermutation (jobs_of p) results → first_fault p [] (map (λ (d : JobView). d.name) results) ≡ None
whole-first p results same =
    let names = map (λ (d : JobView). d.name) results in
    no-first_fault p [] names
    (λ n. subst (λ k. k ≤ 1) (sym (sum_by-IsPermutation (one n) (names_of p) names (moved p results same))) (once n (name_of p) (name-place p) 0 (shard_count p)))
    (λ n e. alike p results same n ∙ e)

-- none is missing
pub whole-missing : (p : PhaseView) (results : List JobView) → IsPermutation (jobs_of p) results → missing p (map (λ (d : JobView). d.name) results) ≡ None
whole-missing p results same =
    no-missing p (map (λ (d : JobView). d.name) results) (λ place l. sym (alike p results same (name_of p place)) ∙ place-among p place l)

-- results of which there is one of each job can be put together
pub whole-fits : (p : PhaseView) (results : List JobView) → IsPermutation (jobs_of p) results → merge_fault p (map (λ (d : JobView). d.name) results) ≡ None
whole-fits p results same = ap₂ or_else (whole-first p results same) (whole-missing p results same)

-- a job of a phase is of its machine
all-own : (p : PhaseView) → All (IsOf p) (jobs_of p)
all-own p i d l among =
    let m : i < shard_count p = subst (λ n. i < n) (length-map_below (job_of p) (shard_count p)) l in
    let is : get_or (jobs_of p) i d ≡ job_of p i = get_or-map-range_with_len (job_of p) 0 (shard_count p) i i d m (zero-add i) in
    (ap (λ (j : JobView). j.machine) is, ap (λ (j : JobView). j.bounds) is)

-- results of which there is one of each job are of the phase's machine
pub permuted_of : (p : PhaseView) (results : List JobView) → IsPermutation (jobs_of p) results → All (IsOf p) results
permuted_of p results same = All-permutation (IsOf p) (jobs_of p) results same (all-own p)
