-- Results of a phase that are arranged: those that have the names of its jobs are of its machine.
use Rattle.std.proofs.Common.{◌≡◌, ◌<◌, true, List, length, get_or, refl, sym, ap, subst, ◌∙◌, zero-add}
use Rattle.std.specs.Prelude.{All, Any, IsPermutation}
use Rattle.std.proofs.lemmas.List.FromFn.{get_or-map-range_with_len}
use Rattle.std.proofs.lemmas.List.Sorted.{All-permutation}
use Rattle.std.proofs.lemmas.List.{get_or_default}
use Rattle.shards.specs.Jobs.{JobView}
use Rattle.shards.specs.Merging.{IsOf, is_among, names_of}
use Rattle.shards.specs.Phases.{PhaseView, shard_count, job_of, jobs_of}
use Rattle.shards.proofs.Placing.{among-place}
use Rattle.sim_base.proofs.Lists.{length-map_below}
use Rattle.reference.specs.Orders.{IsGiven}

-- what is among the jobs of a phase is of its machine
own : (p : PhaseView) (d : JobView) → Any (λ r. r ≡ d) (jobs_of p) → (d.machine ≡ p.machine) × (d.bounds ≡ p.bounds)
own p d h =
    let l : h.0 < shard_count p = subst (λ n. h.0 < n) (length-map_below (job_of p) (shard_count p)) h.2 in
    let is : h.1 ≡ job_of p h.0 = sym h.3 ∙ get_or-map-range_with_len (job_of p) 0 (shard_count p) h.0 h.0 h.1 l (zero-add h.0) in
    let e = sym h.4 ∙ is in
    (ap (λ (x : JobView). x.machine) e, ap (λ (x : JobView). x.bounds) e)

-- a name of a job of a phase is that of one of its jobs
named : (p : PhaseView) (d : JobView) → is_among (names_of p) d.name ≡ true → Any (λ r. r.name ≡ d.name) (jobs_of p)
named p d among =
    let at = among-place p d.name among in
    let l : at.0 < length (jobs_of p) = subst (λ n. at.0 < n) (sym (length-map_below (job_of p) (shard_count p))) at.1 in
    (at.0, job_of p at.0, l, get_or-map-range_with_len (job_of p) 0 (shard_count p) at.0 at.0 (job_of p at.0) at.1 (zero-add at.0), at.2)

-- so is what has such a name, where what has the name of one of the results is one of them
pub of_phase : (p : PhaseView) (results arranged : List JobView) → results ≡ jobs_of p → All (IsGiven results) arranged
    → All (IsOf p) arranged
of_phase p results arranged e given k d l among =
    let x = get_or arranged k d in
    own p x (subst (λ (z : List JobView). Any (λ r. r ≡ x) z) e (given k d l (subst (λ (z : List JobView). Any (λ r. r.name ≡ x.name) z) (sym e) (named p x among))))

-- Each of some results is one of them, and so it is in another order.
each-is_one : (results : List JobView) → All (λ d. Any (λ r. r ≡ d) results) results
each-is_one results k d l = (k, get_or results k d, l, get_or_default results k (get_or results k d) d l, refl)

pub each-given : (results : List JobView) → All (IsGiven results) results
each-given results k d l named = each-is_one results k d l

pub permuted-given : (results arranged : List JobView) → IsPermutation results arranged → All (IsGiven results) arranged
permuted-given results arranged same k d l named = All-permutation (λ d. Any (λ r. r ≡ d) results) results arranged same (each-is_one results) k d l
