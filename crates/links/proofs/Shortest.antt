-- The least latency of the links of a kind, from the overrides of that kind and its usual latency.
use Rattle.std.proofs.Common.{ℕ, zero, suc, ◌*◌, ◌%◌, ◌<◌, ◌≤◌, ◌≡◌, Bool, true, false, cond, eqb, min, List, [], ◌∷◌, map, Option, Some, None, refl, sym, ap, ◌∙◌, subst, inl, inr, ◌⊎◌, arith}
use Rattle.std.specs.Prelude.{filter, find}
use Rattle.std.specs.Option.{IfSome}
use Rattle.std.specs.List.{AllByRecursion as Each, list_any, IsDistinct}
use Rattle.std.proofs.lemmas.Bool.{cond_both, cond-true, cond-false, eqb-true, eq-eqb, cases_lt, cases_Bool, true≢false}
use Rattle.std.proofs.lemmas.List.Elements.{recursion_from_All}
use Rattle.sim_base.specs.declared.config.Config.{Config}
use Rattle.sim_base.specs.declared.overrides.Override.{Override}
use Rattle.sim_base.specs.Config.{latency}
use Rattle.sim_base.proofs.LinkNumbers.{link_below}
use Rattle.sim_base.proofs.Each.{IfSome-find}
use Rattle.links.specs.Latencies.{has_usual, least_own_of, least_of_kind, SomeLinkTakes}
use Rattle.links.proofs.Overrides.{is_of, is_kind, kind_latency, least_from-each, find_none, latency_free, latency_own, latency_in_range, found_least, usual_link, usual_counts}

-- an override of a link is looked for among those of the link's kind
find-kind : (link kind : ℕ) → eqb (link % 3) kind ≡ true → (os : List Override) → find (is_of link) (filter (is_kind kind) os) ≡ find (is_of link) os
find-kind link kind k [] = refl
find-kind link kind k (o ∷ os) =
    cond_both (is_kind kind o) (o ∷ filter (is_kind kind) os) (filter (is_kind kind) os) (λ x. find (is_of link) x ≡ cond (is_of link o) (Some o) (find (is_of link) os))
    (λ e. ap (cond (is_of link o) (Some o)) (find-kind link kind k os))
    (λ e. find-kind link kind k os ∙ sym (cond-false (is_of link o) (Some o) (find (is_of link) os) (other (is_of link o) refl e)))
  where
    other : (b : Bool) → is_of link o ≡ b → is_kind kind o ≡ false → b ≡ false
    other false e f = refl
    other true e f = absurd (true≢false (sym k ∙ ap (λ x. eqb (x % 3) kind) (sym (eqb-true o.link link e)) ∙ f))

links-differ : (l : ℕ) (p : Override → Bool) (os : List Override) → Each (λ (y : ℕ). eqb l y ≡ false) (map (λ (o : Override). o.link) os) → Each (λ (y : ℕ). eqb l y ≡ false) (map (λ (o : Override). o.link) (filter p os))
links-differ l p [] h = tt
links-differ l p (o ∷ os) h =
    cond_both (p o) (o ∷ filter p os) (filter p os) (λ x. Each (λ (y : ℕ). eqb l y ≡ false) (map (λ (q : Override). q.link) x)) (λ e. (h.0, links-differ l p os h.1)) (λ e. links-differ l p os h.1)

distinct-filter : (p : Override → Bool) (os : List Override) → IsDistinct eqb (map (λ (o : Override). o.link) os) → IsDistinct eqb (map (λ (o : Override). o.link) (filter p os))
unfolding IsDistinct
distinct-filter p [] h = tt
distinct-filter p (o ∷ os) h =
    cond_both (p o) (o ∷ filter p os) (filter p os) (λ x. IsDistinct eqb (map (λ (q : Override). q.link) x)) (λ e. (links-differ o.link p os h.0, distinct-filter p os h.1)) (λ e. distinct-filter p os h.1)

all-of_kind : (kind : ℕ) (os : List Override) → Each (λ (p : Override). is_kind kind p ≡ true) (filter (is_kind kind) os)
all-of_kind kind [] = tt
all-of_kind kind (o ∷ os) =
    cond_both (is_kind kind o) (o ∷ filter (is_kind kind) os) (filter (is_kind kind) os) (Each (λ (p : Override). is_kind kind p ≡ true)) (λ e. (e, all-of_kind kind os)) (λ e. all-of_kind kind os)

-- the links of a kind, as numbers
abbrev IsOfKind : Config → ℕ → ℕ → Type 0
IsOfKind s kind link = (link < 3 * s.cores * s.channels) × (link % 3 ≡ kind)

-- some link of a kind has this latency
abbrev pub Attained : Config → ℕ → ℕ → Type 0
Attained s kind n = (link : ℕ) × IsOfKind s kind link × (latency s link ≡ n)

abbrev own_of : Config → ℕ → List Override
own_of s kind = filter (is_kind kind) s.overrides

own-attained : (s : Config) (kind : ℕ) → Attained s kind (least_own_of s kind) ⊎ (least_own_of s kind ≡ 1000000)
own-attained s kind = by (found_least 1000000 (own_of s kind) (distinct-filter (is_kind kind) s.overrides s.links_differ))
  where
    by : (least_own_of s kind ≡ 1000000) ⊎ ((o : Override) × (find (is_of o.link) (own_of s kind) ≡ Some o) × (o.latency ≡ least_own_of s kind)) → Attained s kind (least_own_of s kind) ⊎ (least_own_of s kind ≡ 1000000)
    by (inl e) = inr e
    by (inr (o, f, g)) =
        let has = λ (p : Override). is_kind kind p ≡ true in
        let exist : Each (λ (p : Override). p.link < 3 * s.cores * s.channels) s.overrides = recursion_from_All (λ (p : Override). p.link < 3 * s.cores * s.channels) s.overrides s.links_exist in
        let own : is_kind kind o ≡ true = subst (λ r. IfSome r has) f (IfSome-find has (is_of o.link) (own_of s kind) (all-of_kind kind s.overrides)) in
        let found : find (is_of o.link) s.overrides ≡ Some o = sym (find-kind o.link kind own s.overrides) ∙ f in
        let low : o.link < 3 * s.cores * s.channels =
        subst (λ r. IfSome r (λ (p : Override). p.link < 3 * s.cores * s.channels)) found (IfSome-find (λ (p : Override). p.link < 3 * s.cores * s.channels) (is_of o.link) s.overrides exist) in
        inl (o.link, (low, eqb-true (o.link % 3) kind own), latency_own s o.link o found ∙ g)

own-meets : (s : Config) (link : ℕ) (o : Override) → find (is_of link) s.overrides ≡ Some o → least_own_of s (link % 3) ≤ o.latency
own-meets s link o f =
    let own = own_of s (link % 3) in
    let found : find (is_of link) own ≡ Some o = find-kind link (link % 3) (eq-eqb (link % 3) (link % 3) refl) s.overrides ∙ f in
    subst (λ r. IfSome r (λ (p : Override). least_own_of s (link % 3) ≤ p.latency)) found
    (IfSome-find (λ (p : Override). least_own_of s (link % 3) ≤ p.latency) (is_of link) own (least_from-each 1000000 own))

least-own : (s : Config) (kind : ℕ) → least_of_kind s kind (kind_latency s kind) ≤ least_own_of s kind
least-own s kind =
    cond_both (has_usual s kind) (min (least_own_of s kind) (kind_latency s kind)) (least_own_of s kind) (λ x. x ≤ least_own_of s kind) (λ e. omega arith) (λ e. omega arith)

least-usual : (s : Config) (kind : ℕ) → has_usual s kind ≡ true → least_of_kind s kind (kind_latency s kind) ≤ kind_latency s kind
least-usual s kind h =
    let e : least_of_kind s kind (kind_latency s kind) ≡ min (least_own_of s kind) (kind_latency s kind) = cond-true _ _ _ h in
    omega arith

-- no link of the kind has a lower latency
meets-at : (s : Config) (link : ℕ) → link < 3 * s.cores * s.channels → least_of_kind s (link % 3) (kind_latency s (link % 3)) ≤ latency s link
meets-at s link l = by (find (is_of link) s.overrides) refl
  where
    by : (r : Option Override) → find (is_of link) s.overrides ≡ r → least_of_kind s (link % 3) (kind_latency s (link % 3)) ≤ latency s link
    by None e =
        let free : list_any (is_of link) s.overrides ≡ false = find_none (is_of link) s.overrides e in
        subst (λ x. least_of_kind s (link % 3) (kind_latency s (link % 3)) ≤ x) (sym (latency_free s link free)) (least-usual s (link % 3) (usual_counts s link l free))
    by (Some o) e =
        let a : least_of_kind s (link % 3) (kind_latency s (link % 3)) ≤ least_own_of s (link % 3) = least-own s (link % 3) in
        let b : least_own_of s (link % 3) ≤ o.latency = own-meets s link o e in
        let c : latency s link ≡ o.latency = latency_own s link o e in
        omega arith

pub least-meets : (s : Config) (kind link : ℕ) → IsOfKind s kind link → least_of_kind s kind (kind_latency s kind) ≤ latency s link
least-meets s kind link h = subst (λ k. least_of_kind s k (kind_latency s k) ≤ latency s link) h.1 (meets-at s link h.0)

either-attained : (s : Config) (kind a b : ℕ) → Attained s kind a ⊎ (a ≡ 1000000) → Attained s kind b → Attained s kind (min a b) ⊎ (min a b ≡ 1000000)
either-attained s kind a b h k = by (cases_lt a b)
  where
    by : (a < b) ⊎ (b ≤ a) → Attained s kind (min a b) ⊎ (min a b ≡ 1000000)
    by (inl l) = let e : a ≡ min a b = omega arith in subst (λ x. Attained s kind x ⊎ (x ≡ 1000000)) e h
    by (inr l) = let e : b ≡ min a b = omega arith in inl (subst (Attained s kind) e k)

-- some link of the kind has it
pub least-attained : (s : Config) (kind : ℕ) → kind < 3 → Attained s kind (least_of_kind s kind (kind_latency s kind))
least-attained s kind k = decide (by (cases_Bool (has_usual s kind)))
  where
    least : ℕ
    least = least_of_kind s kind (kind_latency s kind)

    by : (has_usual s kind ≡ true) ⊎ (has_usual s kind ≡ false) → Attained s kind (least_of_kind s kind (kind_latency s kind)) ⊎ (least_of_kind s kind (kind_latency s kind) ≡ 1000000)
    by (inl e) =
        let w = usual_link s kind k e in
        let usual : Attained s kind (kind_latency s kind) = (w.0, (w.1, w.2), latency_free s w.0 w.3 ∙ ap (kind_latency s) w.2) in
        let same : min (least_own_of s kind) (kind_latency s kind) ≡ least_of_kind s kind (kind_latency s kind) = sym (cond-true _ _ _ e) in
        subst (λ x. Attained s kind x ⊎ (x ≡ 1000000)) same (either-attained s kind (least_own_of s kind) (kind_latency s kind) (own-attained s kind) usual)
    by (inr e) =
        let same : least_own_of s kind ≡ least_of_kind s kind (kind_latency s kind) = sym (cond-false _ _ _ e) in
        subst (λ x. Attained s kind x ⊎ (x ≡ 1000000)) same (own-attained s kind)

    decide : Attained s kind (least_of_kind s kind (kind_latency s kind)) ⊎ (least_of_kind s kind (kind_latency s kind) ≡ 1000000) → Attained s kind (least_of_kind s kind (kind_latency s kind))
    decide (inl w) = w
    decide (inr e) =
        let some_link : 2 < 3 * s.cores * s.channels = omega (arith, link_below s.cores s.channels 0 0 2 s.machine_in_range.cores_in.0 s.machine_in_range.channels_in.0.0 (omega arith)) in
        let high : latency s kind ≤ 1000000 = (latency_in_range s kind).1 in
        let low : least_of_kind s kind (kind_latency s kind) ≤ latency s kind = least-meets s kind kind (omega arith, omega arith) in
        (kind, (omega arith, omega arith), omega arith)

pub positive-at : (s : Config) (kind : ℕ) → kind < 3 → 1 ≤ least_of_kind s kind (kind_latency s kind)
positive-at s kind k = let w = least-attained s kind k in subst (λ x. 1 ≤ x) w.2 (latency_in_range s w.0).0

-- the least of the latencies of the kinds
abbrev pub least_of : Config → ℕ
least_of s = min (min (least_of_kind s 0 s.request_latency) (least_of_kind s 1 s.reply_latency)) (least_of_kind s 2 s.credit_latency)

least_of-kind : (s : Config) (kind : ℕ) → kind < 3 → least_of s ≤ least_of_kind s kind (kind_latency s kind)
least_of-kind s zero h = omega arith
least_of-kind s (suc zero) h = omega arith
least_of-kind s (suc (suc zero)) h = omega arith
least_of-kind s (suc (suc (suc n))) h = absurd (omega arith)

-- no link has a lower latency
pub least_of-meets : (s : Config) (link : ℕ) → link < 3 * s.cores * s.channels → least_of s ≤ latency s link
least_of-meets s link l =
    let a : least_of s ≤ least_of_kind s (link % 3) (kind_latency s (link % 3)) = least_of-kind s (link % 3) (omega arith) in
    let b : least_of_kind s (link % 3) (kind_latency s (link % 3)) ≤ latency s link = meets-at s link l in
    omega arith

min-taken : (s : Config) (a b : ℕ) → SomeLinkTakes s a → SomeLinkTakes s b → SomeLinkTakes s (min a b)
min-taken s a b h k = by (cases_lt a b)
  where
    by : (a < b) ⊎ (b ≤ a) → SomeLinkTakes s (min a b)
    by (inl l) = let e : a ≡ min a b = omega arith in subst (SomeLinkTakes s) e h
    by (inr l) = let e : b ≡ min a b = omega arith in subst (SomeLinkTakes s) e k

kind-taken : (s : Config) (kind : ℕ) → kind < 3 → SomeLinkTakes s (least_of_kind s kind (kind_latency s kind))
kind-taken s kind k = let w = least-attained s kind k in (w.0, w.1.0, w.2)

-- some link has the least latency
pub least_of-attained : (s : Config) → SomeLinkTakes s (least_of s)
least_of-attained s = min-taken s _ _ (min-taken s _ _ (kind-taken s 0 (omega arith)) (kind-taken s 1 (omega arith))) (kind-taken s 2 (omega arith))

pub least_of-positive : (s : Config) → 1 ≤ least_of s
least_of-positive s =
    let w = least_of-attained s in
    subst (λ x. 1 ≤ x) w.2 (latency_in_range s w.0).0
