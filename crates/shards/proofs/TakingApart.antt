-- What came of the jobs of a phase: shards and lists as they are taken out of results; and lists with nothing in them.
use Rattle.std.proofs.Common.{◌≡◌, ℕ, suc, ◌-◌, ◌^◌, ◌<◌, ◌≤◌, ◌⊎◌, inl, inr, List, [], ◌∷◌, ◌++◌, length, get_or, min, refl, sym, ap, ap₂, subst, ◌∙◌, zero-add, arith}
use Rattle.std.specs.Prelude.{All}
use Rattle.std.proofs.lemmas.Bool.{cases_lt}
use Rattle.std.proofs.lemmas.List.{get_or_append_left, get_or_push}
use Rattle.std.proofs.lemmas.List.Concat.{flat_map-append}
use Rattle.std.proofs.lemmas.List.Elements.{All-weaker}
use Rattle.std.proofs.lemmas.List.FromFn.{get_or-map-range_with_len, length-map-range_with_len}
use Rattle.std.specs.declared.vec.Vec.{Vec}
use Rattle.std.specs.declared.alloc.Global.{Global}
use Rattle.std.specs.declared.boxed.Box.{Box}
use Rattle.sim_base.specs.declared.message.Message.{Message}
use Rattle.sim_base.proofs.Added.{length-push_suc}
use Rattle.units.specs.declared.machine.Machine.{Machine}
use Rattle.shards.specs.Lists.{lists_of}
use Rattle.shards.specs.Shards.{IsAtRest, sent_of_shard}
use Rattle.shards.specs.Jobs.{JobView, IsDone}
use Rattle.shards.specs.Phases.{PhaseView, AreTakenApart, job_of, jobs_of}
use Rattle.shards.specs.declared.shard.Shard.{Shard}

-- what a result holds that was taken apart, and a cycle that is no later than its own
pub record IsTaken (first : ℕ) (view : JobView) (shard : Shard) (outbound : List (Vec Message Global)) : Type 0 where
  pub wake : ℕ
  pub done : IsDone view.machine view.bounds view.name wake shard outbound
  pub least : first ≤ wake

-- the shards and the lists of results, and a cycle that is no later than that of any
pub record AreTaken (first : ℕ) (views : List JobView) (shards : List (Box Shard Global)) (outbound : List (Vec (Vec Message Global) Global)) : Type 0 where
  pub shard_count : length shards ≡ length views
  pub outbound_count : length outbound ≡ length views
  pub since : (until : ℕ) → until ≤ 10 ^ 12 → All (λ (v : JobView). until ≤ v.name.until) views → until ≤ first
  pub each : (index : ℕ) (v : JobView) (d : Box Shard Global) (e : Vec (Vec Message Global) Global) → index < length views
      → IsTaken first (get_or views index v) (get_or shards index d).value (get_or outbound index e).items

pub taken-none : (first : ℕ) (shards : List (Box Shard Global)) (outbound : List (Vec (Vec Message Global) Global)) → 10 ^ 12 ≤ first → shards ≡ [] → outbound ≡ []
    → AreTaken first [] shards outbound
taken-none first shards outbound h e f = record {
  shard_count = ap length e;
  outbound_count = ap length f;
  since = λ until l all. omega arith;
  each = λ index v d e l. absurd (omega arith);
}

taken-same : (first : ℕ) (v w : JobView) (d x : Box Shard Global) (e y : Vec (Vec Message Global) Global) → v ≡ w → d ≡ x → e ≡ y → IsTaken first w x.value y.items
    → IsTaken first v d.value e.items
taken-same first v w d x e y f g h t =
    subst (λ (z : JobView). IsTaken first z d.value e.items) (sym f)
    (subst (λ (z : Box Shard Global). IsTaken first w z.value e.items) (sym g) (subst (λ (z : Vec (Vec Message Global) Global). IsTaken first w x.value z.items) (sym h) t))

-- one more result of a phase is taken apart
pub taken-push : (first wake least : ℕ) (views : List JobView) (shards : List (Box Shard Global)) (outbound : List (Vec (Vec Message Global) Global))
    (view : JobView) (shard : Box Shard Global) (lists : Vec (Vec Message Global) Global) → least ≡ min first wake
    → AreTaken first views shards outbound → IsDone view.machine view.bounds view.name wake shard.value lists.items
    → AreTaken least (views ++ view ∷ []) (shards ++ shard ∷ []) (outbound ++ lists ∷ [])
taken-push first wake least views shards outbound view shard lists is h done = record {
  shard_count = length-push_suc shards shard ∙ ap suc h.shard_count ∙ sym (length-push_suc views view);
  outbound_count = length-push_suc outbound lists ∙ ap suc h.outbound_count ∙ sym (length-push_suc views view);
  since = λ until l all.
      (let grown = length-push_suc views view in
      let before = h.since until l (λ i d m. subst (λ (v : JobView). until ≤ v.name.until) (get_or_append_left views (view ∷ []) d i m) (all i d (omega arith))) in
      let last = subst (λ (v : JobView). until ≤ v.name.until) (get_or_push views view view (length views) refl) (all (length views) view (omega arith)) in
      let rests = done.rests.since in
      omega arith);
  each = λ index v d e l. by_case index v d e (cases_lt index (length views)) (omega (arith, length-push_suc views view));
}
  where
    by_case : (index : ℕ) (v : JobView) (d : Box Shard Global) (e : Vec (Vec Message Global) Global) → (index < length views) ⊎ (length views ≤ index) → index ≤ length views
        → IsTaken least (get_or (views ++ view ∷ []) index v) (get_or (shards ++ shard ∷ []) index d).value (get_or (outbound ++ lists ∷ []) index e).items
    by_case index v d e (inl k) l =
        let t = h.each index v d e k in
        taken-same least _ (get_or views index v) _ (get_or shards index d) _ (get_or outbound index e) (get_or_append_left views (view ∷ []) v index k)
        (get_or_append_left shards (shard ∷ []) d index (omega (arith, h.shard_count)))
        (get_or_append_left outbound (lists ∷ []) e index (omega (arith, h.outbound_count)))
        (record { wake = t.wake; done = t.done; least = omega (arith, t.least) })
    by_case index v d e (inr k) l =
        taken-same least _ view _ shard _ lists (get_or_push views view v index (omega arith)) (get_or_push shards shard d index (omega (arith, h.shard_count)))
        (get_or_push outbound lists e index (omega (arith, h.outbound_count)))
        (record { wake = wake; done = done; least = omega arith })

-- a shard at rest up to a cycle is so up to an earlier one
rest-lower : (machine : Machine) (bounds : List ℕ) (index from until wake least : ℕ) (shard : Shard) → until ≤ least → least ≤ wake
    → IsAtRest machine bounds index from until wake shard → IsAtRest machine bounds index from until least shard
rest-lower machine bounds index from until wake least shard since h r = record {
  is = r.is;
  has_run = r.has_run;
  since = since;
  sleep = All-weaker (λ word. wake ≤ word) (λ word. least ≤ word) (λ word k. omega arith) shard.range.words.items r.sleep;
  arrivals = All-weaker (λ (m : Message). wake ≤ m.arrival) (λ (m : Message). least ≤ m.arrival) (λ m k. omega arith) (sent_of_shard machine from until shard) r.arrivals;
}

-- an element of a list that has one
some-element : {X : Type 0} (xs : List X) (i : ℕ) → i < length xs → X
some-element [] i l = absurd (omega arith)
some-element (x ∷ xs) i l = x

-- results of the jobs of a phase, in their order, are taken apart
pub taken-all : (p : PhaseView) (first : ℕ) (views : List JobView) (shards : List (Box Shard Global)) (outbound : List (Vec (Vec Message Global) Global)) → AreTaken first views shards outbound
    → p.until ≤ 10 ^ 12 → views ≡ jobs_of p → AreTakenApart p first shards outbound
taken-all p first views shards outbound h early are = record {
  since = since;
  count = h.shard_count ∙ ap length are;
  outbound_count = h.outbound_count ∙ sym h.shard_count;
  rest = λ index d l.
      (let t = taken index d (some-element outbound index (omega (arith, h.shard_count, h.outbound_count))) (omega (arith, h.shard_count)) in
      rest-lower p.machine p.bounds index p.from p.until t.wake first (get_or shards index d).value since t.least t.done.rests);
  outbound_are = λ index d e l. (taken index d e (omega (arith, h.shard_count))).done.outbound_are;
}
  where
    is-at : (index : ℕ) (v : JobView) → index < length views → get_or views index v ≡ job_of p index
    is-at index v l =
        let m : index < length p.bounds - 1 = omega (arith, ap length are, length-map-range_with_len (job_of p) 0 (length p.bounds - 1)) in
        ap (λ z. get_or z index v) are
        ∙ get_or-map-range_with_len (job_of p) 0 (length p.bounds - 1) index index v m (zero-add index)

    since : p.until ≤ first
    since = h.since p.until early (λ i d l. let e = ap (λ (v : JobView). v.name.until) (is-at i d l) in omega (arith, e))

    taken : (index : ℕ) (d : Box Shard Global) (e : Vec (Vec Message Global) Global) → index < length views
        → IsTaken first (job_of p index) (get_or shards index d).value (get_or outbound index e).items
    taken index d e l =
        let v = job_of p index in
        subst (λ (z : JobView). IsTaken first z (get_or shards index d).value (get_or outbound index e).items) (is-at index v l) (h.each index v d e l)

-- a list with nothing in it adds nothing to what stands in lists
pub lists-push : (lists : List (Vec Message Global)) (list : Vec Message Global) → lists_of lists ≡ [] → list.items ≡ [] → lists_of (lists ++ list ∷ []) ≡ []
lists-push lists list h e =
    flat_map-append (λ (l : Vec Message Global). l.items) lists (list ∷ []) ∙ ap₂ (λ xs ys. xs ++ (ys ++ [])) h e
