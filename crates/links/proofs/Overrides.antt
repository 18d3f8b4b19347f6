-- The overrides of links: where a kind has fewer than links, some link of it has its usual latency; and the least
-- latency of some of them.
use Rattle.std.proofs.Common.{ℕ, zero, suc, ◌+◌, ◌*◌, ◌/◌, ◌%◌, ◌<◌, ◌≤◌, ◌≡◌, Bool, true, false, ◌&&◌, ◌||◌, cond, eqb, min, List, [], ◌∷◌, length, map, Option, Some, None, refl, sym, ap, ap₂, ◌∙◌, subst, inl, inr, ◌⊎◌, arith}
use Rattle.std.specs.Prelude.{fold, filter, count_by, find, unwrap_or}
use Rattle.std.specs.Option.{IfSome, option_map}
use Rattle.std.specs.List.{AllByRecursion as Each, list_any, IsDistinct}
use Rattle.std.proofs.lemmas.Bool.{cond_both, cond-true, cond-false, eqb-true, eq-eqb, lt-ltb, ltb-true, cases_lt, cases_Bool, or_parts}
use Rattle.std.proofs.lemmas.Bool.Decides.{nat_tests}
use Rattle.std.proofs.lemmas.List.Elements.{recursion_from_All}
use Rattle.std.proofs.lemmas.List.Sums.{length-filter}
use Rattle.std.proofs.lemmas.List.{length-map}
use Rattle.std.proofs.lemmas.Map.Steps.{length-le_from_distinct_below, le-length_from_below}
use Rattle.std.proofs.Math.Nat.{mul_assoc}
use Rattle.sim_base.specs.declared.config.Config.{Config}
use Rattle.sim_base.specs.declared.overrides.Override.{Override}
use Rattle.sim_base.specs.Config.{usual_latency, latency}
use Rattle.sim_base.specs.Keys.{LatencyInRange}
use Rattle.sim_base.proofs.Each.{IfSome-find}
use Rattle.sim_base.proofs.LinkNumbers.{override_in_range}
use Rattle.links.specs.Latencies.{has_usual}

-- whether an override is of a link
abbrev pub is_of : ℕ → Override → Bool
is_of link o = eqb o.link link

-- whether an override is of a link of some kind
abbrev pub is_kind : ℕ → Override → Bool
is_kind kind o = eqb (o.link % 3) kind

-- the pairs of units between which the links of a kind with an override run
abbrev pairs : ℕ → List Override → List ℕ
pairs kind os = map (λ (o : Override). o.link / 3) (filter (is_kind kind) os)

-- an override of the link between a pair, of a kind
of_pair : (kind q link : ℕ) → kind < 3 → (eqb (link % 3) kind && eqb q (link / 3)) ≡ eqb link (3 * q + kind)
of_pair kind q link h = grind (arith, nat_tests)

pairs-any : (kind q : ℕ) → kind < 3 → (os : List Override) → list_any (eqb q) (pairs kind os) ≡ list_any (is_of (3 * q + kind)) os
pairs-any kind q k [] = refl
pairs-any kind q k (o ∷ os) =
    cond_both (is_kind kind o) (o ∷ filter (is_kind kind) os) (filter (is_kind kind) os)
    (λ x. list_any (eqb q) (map (λ (p : Override). p.link / 3) x) ≡ (eqb o.link (3 * q + kind) || list_any (is_of (3 * q + kind)) os))
    (λ b. ap₂ (λ x y. x || y) (ap (λ t. t && eqb q (o.link / 3)) (sym b) ∙ of_pair kind q o.link k) (pairs-any kind q k os))
    (λ b. ap₂ (λ x y. x || y) (ap (λ t. t && eqb q (o.link / 3)) (sym b) ∙ of_pair kind q o.link k) (pairs-any kind q k os))

-- links of one kind that differ are of pairs that differ
pairs_differ : (kind l m : ℕ) → eqb (l % 3) kind ≡ true → eqb (m % 3) kind ≡ true → eqb l m ≡ false → eqb (l / 3) (m / 3) ≡ false
pairs_differ kind l m h k e = grind (arith, nat_tests)

pairs_apart : (kind l : ℕ) → eqb (l % 3) kind ≡ true → (os : List Override) → Each (λ (y : ℕ). eqb l y ≡ false) (map (λ (o : Override). o.link) os)
    → Each (λ (y : ℕ). eqb (l / 3) y ≡ false) (pairs kind os)
pairs_apart kind l k [] h = tt
pairs_apart kind l k (o ∷ os) h =
    cond_both (is_kind kind o) (o ∷ filter (is_kind kind) os) (filter (is_kind kind) os)
    (λ x. Each (λ (y : ℕ). eqb (l / 3) y ≡ false) (map (λ (p : Override). p.link / 3) x))
    (λ b. (pairs_differ kind l o.link k b h.0, pairs_apart kind l k os h.1))
    (λ b. pairs_apart kind l k os h.1)

pairs_distinct : (kind : ℕ) (os : List Override) → IsDistinct eqb (map (λ (o : Override). o.link) os) → IsDistinct eqb (pairs kind os)
unfolding IsDistinct
pairs_distinct kind [] h = tt
pairs_distinct kind (o ∷ os) h =
    cond_both (is_kind kind o) (o ∷ filter (is_kind kind) os) (filter (is_kind kind) os)
    (λ x. IsDistinct eqb (map (λ (p : Override). p.link / 3) x))
    (λ b. (pairs_apart kind o.link b os h.0, pairs_distinct kind os h.1))
    (λ b. pairs_distinct kind os h.1)

any_below : (link n : ℕ) (os : List Override) → Each (λ (o : Override). o.link < n) os → list_any (is_of link) os ≡ true → link < n
any_below link n [] h k = cc
any_below link n (o ∷ os) h k = by (cases_Bool (eqb o.link link)) (any_below link n os h.1)
  where
    by : (eqb o.link link ≡ true) ⊎ (eqb o.link link ≡ false) → (list_any (is_of link) os ≡ true → link < n) → link < n
    by (inl e) rest = let same : o.link ≡ link = eqb-true o.link link e in let below : o.link < n = h.0 in omega arith
    by (inr e) rest = rest (ap (λ t. t || list_any (is_of link) os) (sym e) ∙ k)

-- a test fails somewhere below n, or nowhere
search_below : (p : ℕ → Bool) (n : ℕ) → ((q : ℕ) × (q < n) × (p q ≡ false)) ⊎ ((q : ℕ) → q < n → p q ≡ true)
search_below p zero = inr (λ q h. absurd (omega arith))
search_below p (suc n) = by (search_below p n) (cases_Bool (p n))
  where
    by : ((q : ℕ) × (q < n) × (p q ≡ false)) ⊎ ((q : ℕ) → q < n → p q ≡ true) → (p n ≡ true) ⊎ (p n ≡ false)
        → ((q : ℕ) × (q < suc n) × (p q ≡ false)) ⊎ ((q : ℕ) → q < suc n → p q ≡ true)
    by (inl w) b = inl (w.0, omega (arith, w.1), w.2)
    by (inr h) (inr b) = inl (n, omega arith, b)
    by (inr h) (inl b) = inr (λ q l. at_last q l (cases_lt q n))
      where
        at_last : (q : ℕ) → q < suc n → (q < n) ⊎ (n ≤ q) → p q ≡ true
        at_last q l (inl k) = h q k
        at_last q l (inr k) = let same : n ≡ q = omega arith in subst (λ x. p x ≡ true) same b

-- the links of a machine, as pairs of units with a kind
links_count : (s : Config) → 3 * s.cores * s.channels ≡ 3 * (s.cores * s.channels)
links_count s = mul_assoc 3 s.cores s.channels

length-pairs : (kind : ℕ) (os : List Override) → length (pairs kind os) ≡ count_by (is_kind kind) os
length-pairs kind os = length-map (filter (is_kind kind) os) (λ (o : Override). o.link / 3) ∙ length-filter (is_kind kind) os

-- where there are fewer overrides of a kind than links, one of them has none
pub usual_link : (s : Config) (kind : ℕ) → kind < 3 → has_usual s kind ≡ true
    → (link : ℕ) × (link < 3 * s.cores * s.channels) × (link % 3 ≡ kind) × (list_any (is_of link) s.overrides ≡ false)
usual_link s kind k h = by (search_below (λ q. list_any (eqb q) (pairs kind s.overrides)) (s.cores * s.channels))
  where
    few : length (pairs kind s.overrides) < s.cores * s.channels
    few = omega (arith, length-pairs kind s.overrides, ltb-true (count_by (is_kind kind) s.overrides) (s.cores * s.channels) h)

    by : ((q : ℕ) × (q < s.cores * s.channels) × (list_any (eqb q) (pairs kind s.overrides) ≡ false)) ⊎ ((q : ℕ) → q < s.cores * s.channels → list_any (eqb q) (pairs kind s.overrides) ≡ true)
        → (link : ℕ) × (link < 3 * s.cores * s.channels) × (link % 3 ≡ kind) × (list_any (is_of link) s.overrides ≡ false)
    by (inl (q, l, e)) = (3 * q + kind, omega (arith, links_count s), omega arith, sym (pairs-any kind q k s.overrides) ∙ e)
    by (inr all) = absurd (omega (arith, few, le-length_from_below (pairs kind s.overrides) (s.cores * s.channels) all))

none_same : (q : ℕ) (xs : List ℕ) → list_any (eqb q) xs ≡ false → Each (λ (y : ℕ). eqb q y ≡ false) xs
none_same q [] h = tt
none_same q (x ∷ xs) h = ((or_parts (eqb q x) (list_any (eqb q) xs) h).0, none_same q xs (or_parts (eqb q x) (list_any (eqb q) xs) h).1)

-- where a link has no override, there are fewer of its kind than links
pub usual_counts : (s : Config) (link : ℕ) → link < 3 * s.cores * s.channels → list_any (is_of link) s.overrides ≡ false → has_usual s (link % 3) ≡ true
unfolding IsDistinct
usual_counts s link l free =
    let kind = link % 3 in
    let q = link / 3 in
    let k : kind < 3 = omega arith in
    let here : 3 * q + kind ≡ link = omega arith in
    let open_pair : list_any (eqb q) (pairs kind s.overrides) ≡ false =
    pairs-any kind q k s.overrides ∙ ap (λ x. list_any (is_of x) s.overrides) here ∙ free in
    let in_range : q < s.cores * s.channels = omega (arith, links_count s) in
    let differ : IsDistinct eqb (q ∷ pairs kind s.overrides) = (none_same q (pairs kind s.overrides) open_pair, pairs_distinct kind s.overrides s.links_differ) in
    let exist : Each (λ (o : Override). o.link < 3 * s.cores * s.channels) s.overrides = recursion_from_All (λ (o : Override). o.link < 3 * s.cores * s.channels) s.overrides s.links_exist in
    let all : length (q ∷ pairs kind s.overrides) ≤ s.cores * s.channels =
    length-le_from_distinct_below (q ∷ pairs kind s.overrides) (s.cores * s.channels) differ (λ p h. below p h exist in_range k) in
    lt-ltb (count_by (is_kind kind) s.overrides) (s.cores * s.channels) (omega (arith, length-pairs kind s.overrides))
  where
    below : (p : ℕ) → list_any (eqb p) (link / 3 ∷ pairs (link % 3) s.overrides) ≡ true → Each (λ (o : Override). o.link < 3 * s.cores * s.channels) s.overrides
        → link / 3 < s.cores * s.channels → link % 3 < 3 → p < s.cores * s.channels
    below p h exist in_range k = by (cases_Bool (eqb p (link / 3)))
      where
        by : (eqb p (link / 3) ≡ true) ⊎ (eqb p (link / 3) ≡ false) → p < s.cores * s.channels
        by (inl e) = let same : p ≡ link / 3 = eqb-true p (link / 3) e in omega arith
        by (inr e) =
            let found : list_any (eqb p) (pairs (link % 3) s.overrides) ≡ true = ap (λ t. t || list_any (eqb p) (pairs (link % 3) s.overrides)) (sym e) ∙ h in
            let low : 3 * p + link % 3 < 3 * s.cores * s.channels =
            any_below (3 * p + link % 3) (3 * s.cores * s.channels) s.overrides exist (sym (pairs-any (link % 3) p k s.overrides) ∙ found) in
            omega (arith, links_count s)

abbrev least_from : ℕ → List Override → ℕ
least_from a os = fold (λ least o. min least o.latency) a os

least_from-start : (a : ℕ) (os : List Override) → least_from a os ≤ a
least_from-start a [] = omega arith
least_from-start a (o ∷ os) = omega (arith, least_from-start (min a o.latency) os)

pub least_from-each : (a : ℕ) (os : List Override) → Each (λ (o : Override). least_from a os ≤ o.latency) os
least_from-each a [] = tt
least_from-each a (o ∷ os) = (omega (arith, least_from-start (min a o.latency) os), least_from-each (min a o.latency) os)

pub find_none : (p : Override → Bool) (os : List Override) → find p os ≡ None → list_any p os ≡ false
find_none p [] h = refl
find_none p (o ∷ os) h = by (cases_Bool (p o)) (find_none p os)
  where
    by : (p o ≡ true) ⊎ (p o ≡ false) → (find p os ≡ None → list_any p os ≡ false) → (p o || list_any p os) ≡ false
    by (inl e) rest = let found : find p (o ∷ os) ≡ Some o = cond-true (p o) (Some o) (find p os) e in cc
    by (inr e) rest = ap (λ t. t || list_any p os) e ∙ rest (sym (cond-false (p o) (Some o) (find p os) e) ∙ h)

none_found : (p : Override → Bool) (os : List Override) → list_any p os ≡ false → find p os ≡ None
none_found p [] h = refl
none_found p (o ∷ os) h = cond-false _ _ _ (or_parts (p o) (list_any p os) h).0 ∙ none_found p os (or_parts (p o) (list_any p os) h).1

pub latency_free : (s : Config) (link : ℕ) → list_any (is_of link) s.overrides ≡ false → latency s link ≡ usual_latency s link
unfolding latency
latency_free s link h = ap (λ o. unwrap_or (option_map (λ (o : Override). o.latency) o) (usual_latency s link)) (none_found (is_of link) s.overrides h)

pub latency_own : (s : Config) (link : ℕ) (o : Override) → find (is_of link) s.overrides ≡ Some o → latency s link ≡ o.latency
unfolding latency
latency_own s link o h = ap (λ x. unwrap_or (option_map (λ (o : Override). o.latency) x) (usual_latency s link)) h

-- the latency of a kind
abbrev pub kind_latency : Config → ℕ → ℕ
kind_latency s kind = cond (eqb kind 0) s.request_latency (cond (eqb kind 1) s.reply_latency s.credit_latency)

pub latency_in_range : (s : Config) (link : ℕ) → LatencyInRange (latency s link)
latency_in_range s link = by (find (is_of link) s.overrides) refl
  where
    usual_in_range : LatencyInRange (usual_latency s link)
    usual_in_range =
        cond_both (eqb (link % 3) 0) _ _ LatencyInRange (λ e. s.latencies_in_range.request_in)
        (λ e. cond_both (eqb (link % 3) 1) _ _ LatencyInRange (λ f. s.latencies_in_range.reply_in) (λ f. s.latencies_in_range.credit_in))

    by : (r : Option Override) → find (is_of link) s.overrides ≡ r → LatencyInRange (latency s link)
    by None e = subst LatencyInRange (sym (latency_free s link (find_none (is_of link) s.overrides e))) usual_in_range
    by (Some o) e = subst LatencyInRange (sym (latency_own s link o e)) (override_in_range s.overrides link o s.overrides_in_range e)

links_apart : (link : ℕ) (os : List Override) → Each (λ (y : ℕ). eqb link y ≡ false) (map (λ (o : Override). o.link) os) → Each (λ (o : Override). eqb link o.link ≡ false) os
links_apart link [] h = tt
links_apart link (o ∷ os) h = (h.0, links_apart link os h.1)

-- the least latency of an override is that of the one which is found for its link
pub found_least : (a : ℕ) (os : List Override) → IsDistinct eqb (map (λ (o : Override). o.link) os)
    → (least_from a os ≡ a) ⊎ ((o : Override) × (find (is_of o.link) os ≡ Some o) × (o.latency ≡ least_from a os))
unfolding IsDistinct
found_least a [] d = inl refl
found_least a (o ∷ os) d = by (found_least (min a o.latency) os d.1) (cases_lt o.latency a)
  where
    by : (least_from (min a o.latency) os ≡ min a o.latency) ⊎ ((p : Override) × (find (is_of p.link) os ≡ Some p) × (p.latency ≡ least_from (min a o.latency) os)) → (o.latency < a) ⊎ (a ≤ o.latency)
        → (least_from a (o ∷ os) ≡ a) ⊎ ((p : Override) × (find (is_of p.link) (o ∷ os) ≡ Some p) × (p.latency ≡ least_from a (o ∷ os)))
    by (inl e) (inl l) = inr (o, cond-true _ _ _ (eq-eqb o.link o.link refl), omega arith)
    by (inl e) (inr l) = inl (omega arith)
    by (inr (p, f, g)) b =
        let other : eqb o.link p.link ≡ false =
        subst (λ r. IfSome r (λ (q : Override). eqb o.link q.link ≡ false)) f (IfSome-find (λ (q : Override). eqb o.link q.link ≡ false) (is_of p.link) os (links_apart o.link os d.0)) in
        inr (p, cond-false _ _ _ other ∙ f, g)
