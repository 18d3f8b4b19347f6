-- Messages that are sorted by shard, and taken up list by list.
use Rattle.std.proofs.Common.{◌≡◌, ◌≢◌, ℕ, zero, suc, ◌+◌, ◌-◌, ◌<◌, ◌≤◌, Bool, true, false, cond, eqb, List, [], ◌∷◌, ◌++◌, ◌⊎◌, inl, inr, length, get_or, set, take, refl, sym, ap, subst, ◌∙◌, append-nil, get_or-set_other, get_or-set_same, length-append, arith}
use Rattle.std.specs.Prelude.{All, fold}
use Rattle.std.specs.declared.vec.Vec.{Vec}
use Rattle.std.specs.declared.alloc.Global.{Global}
use Rattle.std.proofs.lemmas.Bool.{cases_lt}
use Rattle.std.proofs.lemmas.Bool.Decides.{nat_tests}
use Rattle.std.proofs.Math.ListN.{get_or-append}
use Rattle.std.proofs.lemmas.List.{take_more, get_or-append-add, get_or_default}
use Rattle.std.proofs.lemmas.List.Concat.{flat_map-append}
use Rattle.std.proofs.lemmas.List.Sums.{fold-append}
use Rattle.sim_base.specs.declared.config.Config.{Config}
use Rattle.sim_base.specs.declared.message.Message.{Message}
use Rattle.sim_base.specs.declared.message.Unit.{Unit as MachineUnit}
use Rattle.sim_base.specs.declared.message.Unit.TheVariants.{Core, Channel}
use Rattle.sim_base.specs.History.{is_unit, insert_by_age, receiver_of}
use Rattle.sim_base.proofs.Grows.{is_unit-own}
use Rattle.units.specs.Flight.{is_at_places, goes_among}
use Rattle.shards.specs.Lists.{bound, lists_of}
use Rattle.shards.specs.Shards.{IsSplit}
use Rattle.units.specs.Units.{unit_at, unit_count}
use Rattle.units.specs.Wakes.{AreLowered}
use Rattle.units.proofs.Sharing.{at-places, there, not_there}
use Rattle.units.proofs.Standing.{core-at_place, channel-at_place}

-- a later shard begins no sooner
pub bounds-rise : (s : Config) (bounds : List ℕ) → IsSplit s bounds → (i n : ℕ) → i + n < length bounds → bound bounds i ≤ bound bounds (i + n)
bounds-rise s bounds split i zero l = let e : i + 0 ≡ i = omega arith in rw e (omega arith)
bounds-rise s bounds split i (suc n) l =
    let e : i + suc n ≡ suc (i + n) = omega arith in
    let before = bounds-rise s bounds split i n (omega arith) in
    let step = split.rises (i + n) (omega arith) in
    rw e (omega (arith, before, step))

-- no shard goes past the last unit
pub bounds-within : (s : Config) (bounds : List ℕ) → IsSplit s bounds → (i : ℕ) → i < length bounds → bound bounds i ≤ unit_count s
bounds-within s bounds split i l =
    let n = length bounds - suc i in
    let e : suc (i + n) ≡ length bounds = omega (arith, l) in
    let rise = bounds-rise s bounds split i n (omega (arith, e)) in
    let last = split.ends (i + n) e in
    omega (arith, rise, last)

-- a message goes to the shard that has the place of its receiver
pub goes-here : (s : Config) (bounds : List ℕ) (i place : ℕ) (m : Message) → unit_at s place ≡ receiver_of s.channels m.link
    → bound bounds i ≤ place → place < bound bounds (suc i) → goes_among s (bound bounds i) (bound bounds (suc i)) m ≡ true
goes-here s bounds i place m is since before =
    ap (is_at_places s (bound bounds i) (bound bounds (suc i))) (sym is)
    ∙ at-places s (bound bounds i) (bound bounds (suc i)) place
    ∙ there (bound bounds i) (bound bounds (suc i)) place since before

-- a message goes to no shard but the one that has the place of its receiver
pub goes-elsewhere : (s : Config) (bounds : List ℕ) → IsSplit s bounds → (i k place : ℕ) (m : Message) → unit_at s place ≡ receiver_of s.channels m.link
    → suc i < length bounds → suc k < length bounds → bound bounds i ≤ place → place < bound bounds (suc i) → k ≢ i
    → goes_among s (bound bounds k) (bound bounds (suc k)) m ≡ false
goes-elsewhere s bounds split i k place m is l j since before other =
    ap (is_at_places s (bound bounds k) (bound bounds (suc k))) (sym is)
    ∙ at-places s (bound bounds k) (bound bounds (suc k)) place
    ∙ not_there (bound bounds k) (bound bounds (suc k)) place (by (cases_lt k i))
  where
    by : (k < i) ⊎ (i ≤ k) → (place < bound bounds k) ⊎ (bound bounds (suc k) ≤ place)
    by (inl a) =
        let n = i - suc k in
        let e : suc k + n ≡ i = omega (arith, a) in
        let rise = bounds-rise s bounds split (suc k) n (omega (arith, e, l)) in
        let rises : bound bounds (suc k) ≤ bound bounds i = subst (λ x. bound bounds (suc k) ≤ bound bounds x) e rise in
        inr (omega (arith, rises, since))
    by (inr a) =
        let n = k - suc i in
        let e : suc i + n ≡ k = omega (arith, a, other) in
        let rise = bounds-rise s bounds split (suc i) n (omega (arith, e, j)) in
        let rises : bound bounds (suc i) ≤ bound bounds k = subst (λ x. bound bounds (suc i) ≤ bound bounds x) e rise in
        inl (omega (arith, rises, before))

no-unit : (s : Config) (first past : ℕ) (u : MachineUnit) → ((place : ℕ) → place < unit_count s → is_unit u (unit_at s place) ≡ false) → past ≤ unit_count s
    → (b : Bool) → is_at_places s first past u ≡ b → is_at_places s first past u ≡ false
no-unit s first past u none within false e = e
no-unit s first past (Core core) none within true e =
    let l : core < s.cores = grind (arith, nat_tests) in
    let same = core-at_place s core l in
    let bad : true ≡ false = sym (is_unit-own (Core core)) ∙ ap (is_unit (Core core)) (sym same) ∙ none core (omega arith) in
    cc
no-unit s first past (Channel channel) none within true e =
    let m : s.cores + channel < past = grind (arith, nat_tests) in
    let l : channel < s.channels = omega (arith, m, within) in
    let same = channel-at_place s (s.cores + channel) channel refl in
    let bad : true ≡ false = sym (is_unit-own (Channel channel)) ∙ ap (is_unit (Channel channel)) (sym same) ∙ none (s.cores + channel) (omega arith) in
    cc

-- a message to no unit goes to no shard
pub goes-nowhere : (s : Config) (bounds : List ℕ) → IsSplit s bounds → (k : ℕ) (m : Message)
    → ((place : ℕ) → place < unit_count s → is_unit (receiver_of s.channels m.link) (unit_at s place) ≡ false) → suc k < length bounds
    → goes_among s (bound bounds k) (bound bounds (suc k)) m ≡ false
goes-nowhere s bounds split k m none l =
    no-unit s (bound bounds k) (bound bounds (suc k)) (receiver_of s.channels m.link) none (bounds-within s bounds split (suc k) l) _ refl

-- a list with one message more, and the others as they were
pub sorted_by_shard : (lists : List (Vec Message Global)) (i index : ℕ) (list e d : Vec Message Global) (m : Message) (b : Bool) → i < length lists → index < length lists
    → list.items ≡ (get_or lists i e).items ++ m ∷ [] → (index ≡ i → b ≡ true) → (index ≢ i → b ≡ false)
    → (get_or (set lists i list) index d).items ≡ (get_or lists index d).items ++ cond b (m ∷ []) []
sorted_by_shard lists i index list e d m b l k items here others = by (eqb index i) refl
  where
    by : (c : Bool) → eqb index i ≡ c → (get_or (set lists i list) index d).items ≡ (get_or lists index d).items ++ cond b (m ∷ []) []
    by true t =
        let same : index ≡ i = grind (arith, nat_tests) in
        ap (λ n. (get_or (set lists i list) n d).items) same
        ∙ ap (λ (v : Vec Message Global). v.items) (get_or-set_same lists i list d l)
        ∙ items
        ∙ ap (λ (v : Vec Message Global). v.items ++ m ∷ []) (get_or_default lists i e d l)
        ∙ ap (λ n. (get_or lists n d).items ++ m ∷ []) (sym same)
        ∙ ap (λ c. (get_or lists index d).items ++ cond c (m ∷ []) []) (sym (here same))
    by false f =
        let other : index ≢ i = grind (arith, nat_tests) in
        ap (λ (v : Vec Message Global). v.items) (get_or-set_other lists i index list d other)
        ∙ sym (append-nil (get_or lists index d).items)
        ∙ ap (λ c. (get_or lists index d).items ++ cond c (m ∷ []) []) (sym (others other))

all-front : (P : Message → Type 0) (a b : List Message) → All P (a ++ b) → All P a
all-front P a b h k d l = let i : k < length (a ++ b) = omega (arith, length-append a b, l) in subst P (get_or-append a b d k l) (h k d i)

all-behind : (P : Message → Type 0) (a b : List Message) → All P (a ++ b) → All P b
all-behind P a b h k d l = let i : length a + k < length (a ++ b) = omega (arith, length-append a b, l) in subst P (get_or-append-add a b k d) (h (length a + k) d i)

-- words that are lowered to messages and then to others are lowered to both
pub lowered-more : (s : Config) (first : ℕ) (a b : List Message) (old mid new : List ℕ) → AreLowered s first a old mid → AreLowered s first b mid new → AreLowered s first (a ++ b) old new
lowered-more s first a b old mid new p q = record {
  count = q.count ∙ p.count;
  less = λ k l.
      let x = p.less k l in
      let y = q.less k (within k l) in
      omega (arith, x, y);
  arrivals = λ k j d l m to. arrives k j d l m to (cases_lt j (length a));
  since = λ cycle all k l h. q.since cycle (all-behind (λ m. cycle ≤ m.arrival) a b all) k (within k l) (p.since cycle (all-front (λ m. cycle ≤ m.arrival) a b all) k l h);
}
  where
    within : (k : ℕ) → k < length old → k < length mid
    within k l = omega (arith, l, p.count)

    arrives : (k j : ℕ) (d : Message) → k < length old → j < length (a ++ b) → is_unit (receiver_of s.channels (get_or (a ++ b) j d).link) (unit_at s (first + k)) ≡ true
        → (j < length a) ⊎ (length a ≤ j) → get_or new k 0 ≤ (get_or (a ++ b) j d).arrival
    arrives k j d l m to (inl e) =
        let same = get_or-append a b d j e in
        let x = p.arrivals k j d l e (subst (λ (x : Message). is_unit (receiver_of s.channels x.link) (unit_at s (first + k)) ≡ true) same to) in
        let y = q.less k (within k l) in
        let z : get_or new k 0 ≤ (get_or a j d).arrival = omega (arith, x, y) in
        subst (λ (x : Message). get_or new k 0 ≤ x.arrival) (sym same) z
    arrives k j d l m to (inr e) =
        let i = j - length a in
        let f : length a + i ≡ j = omega (arith, e) in
        let same : get_or (a ++ b) j d ≡ get_or b i d = ap (λ n. get_or (a ++ b) n d) (sym f) ∙ get_or-append-add a b i d in
        let less : i < length b = omega (arith, length-append a b, m, f) in
        let x = q.arrivals k i d (within k l) less (subst (λ (x : Message). is_unit (receiver_of s.channels x.link) (unit_at s (first + k)) ≡ true) same to) in
        subst (λ (x : Message). get_or new k 0 ≤ x.arrival) (sym same) x

-- what stands in one list more
pub lists-more : (lists : List (Vec Message Global)) (i : ℕ) (d : Vec Message Global) → i < length lists → lists_of (take (i + 1) lists) ≡ lists_of (take i lists) ++ (get_or lists i d).items
lists-more lists i d l =
    ap lists_of (take_more lists i d l)
    ∙ flat_map-append (λ (list : Vec Message Global). list.items) (take i lists) (get_or lists i d ∷ [])
    ∙ ap (λ z. lists_of (take i lists) ++ z) (append-nil (get_or lists i d).items)

-- the messages in flight, with one list more
pub taken-more : (old : List Message) (lists : List (Vec Message Global)) (i : ℕ) (d : Vec Message Global) → i < length lists
    → fold insert_by_age (fold insert_by_age old (lists_of (take i lists))) (get_or lists i d).items ≡ fold insert_by_age old (lists_of (take (i + 1) lists))
taken-more old lists i d l =
    sym (fold-append insert_by_age old (lists_of (take i lists)) (get_or lists i d).items)
    ∙ ap (fold insert_by_age old) (sym (lists-more lists i d l))
