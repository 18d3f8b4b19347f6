-- Which requests go first.
use Rattle.std.proofs.Common.{◌≡◌, ℕ, suc, ◌<◌, ◌≤◌, Bool, true, false, not, cond, ◌&&◌, ltb, List, [], ◌∷◌, length, Option, Some, None, refl, sym, ap, subst, ◌∙◌, inl, inr, arith}
use Rattle.std.proofs.lemmas.Bool.{cases_lt, cond-true, cond-false, and_from, and_left, and_right, lt-ltb, le-ltb}
use Rattle.std.specs.List.{filter, list_any, position, position_or_len}
use Rattle.std.specs.Option.{is_some, IfSome}
use Rattle.sim_base.specs.declared.config.Config.{Config}
use Rattle.sim_base.specs.declared.message.Access.{Access}
use Rattle.sim_base.specs.declared.message.Access.TheVariants as access
use Rattle.sim_base.specs.declared.message.Request.{Request}
use Rattle.sim_base.specs.Access.{is_access}
use Rattle.sim_base.specs.Scheduling.{candidates, favour, is_favoured, first_of_lines}
use Rattle.sim_base.proofs.Each.{Each-all}
use Rattle.sim_base.proofs.Lists.{filter-agree, filter-each}
use Rattle.queue.specs.declared.request_log.Arrived.{Arrived}
use Rattle.queue.specs.Log.{waiting_requests}
use Rattle.queue.specs.View.{QueueView, is_draining}
use Rattle.queue.specs.Candidates.{passes, marked_requests, first_place}
use Rattle.queue.proofs.MarkedRequests.{length-marked_requests}
use Rattle.channel_step.specs.FrFcfs.Requests.{candidates_of}
use Rattle.channel_step.specs.FrFcfs.Offers.{includes, is_of, going, only, favoured_access, other_access, all_accesses}
use Rattle.channel_step.proofs.FrFcfs.Firsts.{some_filtered}

-- Where the channel ever drains and some request is favoured, the favoured ones go first.
pub favour_some : (s : Config) (queue : QueueView) (requests : List Request) → 0 < s.write_high → requests ≡ filter (is_favoured (is_draining queue)) (first_of_lines (waiting_requests queue.log))
    → 0 < length requests → requests ≡ candidates_of s queue
unfolding candidates favour
favour_some s queue requests ever is some =
    let eligible = first_of_lines (waiting_requests queue.log) in
    let favoured = filter (is_favoured (is_draining queue)) eligible in
    let long : 0 < length favoured = subst (λ xs. 0 < length xs) is some in
    is ∙ sym (cond-true (ltb 0 s.write_high && ltb 0 (length favoured)) favoured eligible
    (and_from (ltb 0 s.write_high) (ltb 0 (length favoured)) (lt-ltb 0 s.write_high ever) (lt-ltb 0 (length favoured) long)))

-- Where none is favoured, all that are eligible go.
pub favour_none : (s : Config) (queue : QueueView) (requests : List Request) → requests ≡ filter (is_favoured (is_draining queue)) (first_of_lines (waiting_requests queue.log))
    → length requests ≡ 0 → first_of_lines (waiting_requests queue.log) ≡ candidates_of s queue
unfolding candidates favour
favour_none s queue requests is none =
    let eligible = first_of_lines (waiting_requests queue.log) in
    let favoured = filter (is_favoured (is_draining queue)) eligible in
    let long : length favoured ≤ 0 = subst (λ xs. length xs ≤ 0) is (omega arith) in
    sym (cond-false (ltb 0 s.write_high && ltb 0 (length favoured)) favoured eligible (and_right (ltb 0 s.write_high) (ltb 0 (length favoured)) (le-ltb 0 (length favoured) long)))

-- All that are eligible go where the channel never drains.
pub favour_never : (s : Config) (queue : QueueView) → s.write_high ≡ 0 → first_of_lines (waiting_requests queue.log) ≡ candidates_of s queue
unfolding candidates favour
favour_never s queue never =
    let eligible = first_of_lines (waiting_requests queue.log) in
    let favoured = filter (is_favoured (is_draining queue)) eligible in
    sym (cond-false (ltb 0 s.write_high && ltb 0 (length favoured)) favoured eligible (and_left (ltb 0 s.write_high) (ltb 0 (length favoured)) (le-ltb 0 s.write_high (omega arith))))

any_item : {X : Type 0} (xs : List X) → list_any (λ x. true) xs ≡ ltb 0 (length xs)
any_item [] = refl
any_item (x ∷ xs) = sym (lt-ltb 0 (suc (length xs)) (omega arith))

-- a request is of this access
abbrev pub has : Access → Request → Bool
has access r = is_access access r.access

-- some request of an access may be served
pub some_of_access : (access : Access) (log : List Arrived) → is_some (first_place (has access) log) ≡ ltb 0 (length (filter (has access) (first_of_lines (waiting_requests log))))
some_of_access access log = some_filtered (has access) log ∙ any_item (filter (has access) (first_of_lines (waiting_requests log)))

-- the favoured requests are those of the favoured access
pub favoured_are : (draining : Bool) (requests : List Request) → filter (has (favoured_access draining)) requests ≡ filter (is_favoured draining) requests
favoured_are true requests = refl
favoured_are false requests = refl

one_access : (access other : Access) → is_access access other ≡ includes (only access) other
one_access access.Read access.Read = refl
one_access access.Read access.Write = refl
one_access access.Write access.Read = refl
one_access access.Write access.Write = refl

pub of_one_access : (access : Access) (requests : List Request) → filter (has access) requests ≡ filter (is_of (only access)) requests
of_one_access access requests = filter-agree (has access) (is_of (only access)) requests (Each-all _ (λ (r : Request). one_access access r.access) requests)

-- where a test keeps nothing, its opposite keeps all
kept_next : {X : Type 0} (keep other : Bool) (x : X) (kept rest xs : List X) → other ≡ not keep → length (cond keep (x ∷ kept) kept) ≡ 0 → (length kept ≡ 0 → rest ≡ xs)
    → cond other (x ∷ rest) rest ≡ x ∷ xs
kept_next true other x kept rest xs is none all = absurd (omega arith)
kept_next false other x kept rest xs is none all = cond-true other (x ∷ rest) rest is ∙ ap (λ ys. x ∷ ys) (all none)

filter_others : {X : Type 0} (p q : X → Bool) (xs : List X) → ((x : X) → q x ≡ not (p x)) → length (filter p xs) ≡ 0 → filter q xs ≡ xs
filter_others p q [] opposite none = refl
filter_others p q (x ∷ xs) opposite none = kept_next (p x) (q x) x (filter p xs) (filter q xs) xs (opposite x) none (filter_others p q xs opposite)

not_of_one : (access other : Access) → includes (only (other_access access)) other ≡ not (is_access access other)
not_of_one access.Read access.Read = refl
not_of_one access.Read access.Write = refl
not_of_one access.Write access.Read = refl
not_of_one access.Write access.Write = refl

-- where no request is of an access, all are of the other
pub of_other_access : (access : Access) (requests : List Request) → length (filter (has access) requests) ≡ 0 → requests ≡ filter (is_of (only (other_access access))) requests
of_other_access access requests none = sym (filter_others (has access) (is_of (only (other_access access))) requests (λ r. not_of_one access r.access) none)

pub of_all_accesses : (requests : List Request) → requests ≡ filter (is_of all_accesses) requests
of_all_accesses requests = sym (filter-each (is_of all_accesses) requests (Each-all _ (λ (r : Request). any_access r.access) requests))
  where
    any_access : (access : Access) → includes all_accesses access ≡ true
    any_access access.Read = refl
    any_access access.Write = refl

-- where a channel never drains, the requests that may be served next are those of all accesses
pub all-go : (s : Config) (queue : QueueView) → s.write_high ≡ 0 → candidates_of s queue ≡ going all_accesses queue.log
all-go s queue never = sym (favour_never s queue never) ∙ of_all_accesses (first_of_lines (waiting_requests queue.log))

bound : {X : Type 0} (p : X → Bool) (xs : List X) (k : ℕ) → position p xs ≡ Some k → k < length xs
bound p xs k is =
    let place = position_or_len p xs in
    elim (cases_lt place (length xs)) [
      | inl within ↦
          let found : Some place ≡ Some k = sym (cond-true (ltb place (length xs)) (Some place) None (lt-ltb place (length xs) within)) ∙ is in
          let same : place ≡ k = cc in omega arith
      | inr over ↦ let none : None ≡ Some k = sym (cond-false (ltb place (length xs)) (Some place) None (le-ltb place (length xs) over)) ∙ is in cc
    ]

-- the candidate of a bank stands within the log
pub within : (test : Request → Bool) (log : List Arrived) (o : Option ℕ) → o ≡ first_place test log → IfSome o (λ k. k < length log)
within test log None is = tt
within test log (Some k) is = let inside = bound (passes test) (marked_requests log) k (sym is) in omega (arith, length-marked_requests log)
