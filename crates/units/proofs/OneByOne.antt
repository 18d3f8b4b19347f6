-- Messages that are taken up one after the other, in any order, and words that are lowered to them.
use Rattle.std.proofs.Common.{◌≡◌, ℕ, ◌+◌, ◌<◌, ◌≤◌, true, List, [], ◌∷◌, length, get_or, take, ◌⊎◌, inl, inr, sym, ap, subst, ◌∙◌, arith}
use Rattle.std.specs.Prelude.{Some, None, Option, All, IfSome, IfNone}
use Rattle.std.proofs.lemmas.Bool.{cases_lt}
use Rattle.std.proofs.lemmas.List.Sums.{fold_more}
use Rattle.std.proofs.lemmas.List.{get_or-take, get_or_default, length-take-le}
use Rattle.std.proofs.lemmas.List.Sorted.{All-permutation, IsPermutation-sym}
use Rattle.std.specs.List.Sorted.{IsPermutation}
use Rattle.sim_base.specs.declared.config.Config.{Config}
use Rattle.sim_base.specs.declared.message.Message.{Message}
use Rattle.sim_base.specs.History.{insert_by_age}
use Rattle.links.specs.InFlight.{InFlight, with_sent}
use Rattle.links.specs.Buffers.{buffer_of}
use Rattle.units.specs.Units.{unit_at, unit_count}
use Rattle.units.proofs.Due.{same_unit, place_of_unit, place-at}
use Rattle.units.specs.GoingOn.{IsReceiver, HasNoReceiver}
use Rattle.units.specs.Wakes.{AreLowered, NoneIsLater, IsNoLaterAt, IsNoneSooner, goes_to_place}

-- The words after one of them is lowered to a message, at the place that it goes to.
pub record IsLowered (s : Config) (first : ℕ) (m : Message) (place : Option ℕ) (old new : List ℕ) : Type 0 where
  pub some : IfSome place (IsReceiver s m.link)
  pub none : IfNone place (HasNoReceiver s m.link)
  pub count : length new ≡ length old
  pub less : NoneIsLater old new
  pub arrival : IfSome place (IsNoLaterAt first m.arrival new)
  pub since : IsNoneSooner old new m.arrival

-- The words after one message more: none is later than it was, and none to whose unit the message goes is later than it.
pub record Reaches (s : Config) (first : ℕ) (m : Message) (old new : List ℕ) : Type 0 where
  pub count : length new ≡ length old
  pub less : NoneIsLater old new
  pub arrival : (k : ℕ) → k < length old → goes_to_place s m (first + k) ≡ true → get_or new k 0 ≤ m.arrival
  pub since : IsNoneSooner old new m.arrival

-- the word of the unit that the message goes to is no later than its arrival
pub reaches : (s : Config) (first : ℕ) (m : Message) (place : Option ℕ) (old new : List ℕ) → first + length old ≤ unit_count s → IsLowered s first m place old new → Reaches s first m old new
reaches s first m place old new within h = record { count = h.count; less = h.less; arrival = λ k l to. by place h.some h.none h.arrival k l to; since = h.since }
  where
    by : (place : Option ℕ) → IfSome place (IsReceiver s m.link) → IfNone place (HasNoReceiver s m.link) → IfSome place (IsNoLaterAt first m.arrival new) → (k : ℕ) → k < length old
        → goes_to_place s m (first + k) ≡ true → get_or new k 0 ≤ m.arrival
    by None some none arrival k l to = let no = none (first + k) (omega (arith, within, l)) in cc
    by (Some place) some none arrival k l to =
        let same : unit_at s place ≡ unit_at s (first + k) = some.1 ∙ same_unit _ _ to in
        arrival k (omega (arith, l, h.count)) (sym (place-at s (first + k)) ∙ ap (place_of_unit s) (sym same) ∙ place-at s place)

-- words that are lowered to some messages, and then to the next, are lowered to one more
pub lowered-next : (s : Config) (first n : ℕ) (d : Message) (sent : List Message) (old mid new : List ℕ) → n < length sent → AreLowered s first (take n sent) old mid
    → Reaches s first (get_or sent n d) mid new → AreLowered s first (take (n + 1) sent) old new
lowered-next s first n d sent old mid new less p q = record {
  count = q.count ∙ p.count;
  less = λ k l.
      let a = p.less k l in
      let b = q.less k (still k l) in
      omega (arith, a, b);
  arrivals = λ k j e l m to.
      let i : j < n + 1 = omega (arith, m, many) in
      let at = get_or-take (n + 1) sent j e i in
      subst (λ (x : Message). get_or new k 0 ≤ x.arrival) (sym at)
      (arrives k j e l i (subst (λ (x : Message). goes_to_place s x (first + k) ≡ true) at to) (cases_lt j n));
  since = λ cycle all k l h.
      q.since cycle k (still k l)
      (p.since cycle (λ j e m. front cycle all j e (omega (arith, m, length-take-le n sent (omega (arith, less))))) k l h)
      (last cycle all);
}
  where
    still : (k : ℕ) → k < length old → k < length mid
    still k l = omega (arith, l, p.count)

    many : length (take (n + 1) sent) ≡ n + 1
    many = length-take-le (n + 1) sent (omega (arith, less))

    front : (cycle : ℕ) → All (λ (m : Message). cycle ≤ m.arrival) (take (n + 1) sent) → (j : ℕ) (e : Message) → j < n → cycle ≤ (get_or (take n sent) j e).arrival
    front cycle all j e m =
        subst (λ (x : Message). cycle ≤ x.arrival) (get_or-take (n + 1) sent j e (omega (arith, m)) ∙ sym (get_or-take n sent j e m))
        (all j e (omega (arith, m, many)))

    last : (cycle : ℕ) → All (λ (m : Message). cycle ≤ m.arrival) (take (n + 1) sent) → cycle ≤ (get_or sent n d).arrival
    last cycle all = subst (λ (x : Message). cycle ≤ x.arrival) (get_or-take (n + 1) sent n d (omega arith)) (all n d (omega (arith, many)))

    arrives : (k j : ℕ) (e : Message) → k < length old → j < n + 1 → goes_to_place s (get_or sent j e) (first + k) ≡ true → (j < n) ⊎ (n ≤ j) → get_or new k 0 ≤ (get_or sent j e).arrival
    arrives k j e l m to (inl before) =
        let at = get_or-take n sent j e before in
        let i : j < length (take n sent) = omega (arith, before, length-take-le n sent (omega (arith, less))) in
        let a = p.arrivals k j e l i (subst (λ (x : Message). goes_to_place s x (first + k) ≡ true) (sym at) to) in
        let b = q.less k (still k l) in
        let c : get_or new k 0 ≤ (get_or (take n sent) j e).arrival = omega (arith, a, b) in
        subst (λ (x : Message). get_or new k 0 ≤ x.arrival) at c
    arrives k j e l m to (inr behind) =
        let is : j ≡ n = omega (arith, m, behind) in
        let at : get_or sent j e ≡ get_or sent n d = ap (λ i. get_or sent i e) is ∙ get_or_default sent n e d less in
        subst (λ (x : Message). get_or new k 0 ≤ x.arrival) (sym at)
        (q.arrival k (still k l) (subst (λ (x : Message). goes_to_place s x (first + k) ≡ true) at to))

-- words that are lowered to some messages are lowered to them in any order
pub lowered-permuted : (s : Config) (first : ℕ) (sent other : List Message) (old new : List ℕ) → IsPermutation sent other → AreLowered s first sent old new → AreLowered s first other old new
lowered-permuted s first sent other old new same h = record {
  count = h.count;
  less = h.less;
  arrivals = λ k j d less at to.
      All-permutation (λ (m : Message). goes_to_place s m (first + k) ≡ true → get_or new k 0 ≤ m.arrival) sent other same (λ i e l. h.arrivals k i e less l) j d at to;
  since = λ cycle all. h.since cycle (All-permutation (λ (m : Message). cycle ≤ m.arrival) other sent (IsPermutation-sym sent other same) all);
}

-- what is in flight when some messages are sent, and then the next, is what is when one more is
pub sent-next : (links now new : InFlight) (n : ℕ) (d : Message) (sent : List Message) → n < length sent → now ≡ with_sent links (take n sent) → new ≡ with_sent now (get_or sent n d ∷ [])
    → new ≡ with_sent links (take (n + 1) sent)
sent-next links now new n d sent less p q =
    q
    ∙ ap (λ (x : InFlight). with_sent x (get_or sent n d ∷ [])) p
    ∙ ap (λ ms. record links { messages = ms }) (sym (fold_more insert_by_age links.messages sent n d less))

-- a buffer has the same number where there are as many channels
pub buffer-same : (links other : InFlight) (channels buffer link : ℕ) → links.channels ≡ channels → other.channels ≡ links.channels → buffer ≡ buffer_of other.channels link → buffer ≡ buffer_of channels link
buffer-same links other channels buffer link p q e = e ∙ ap (λ n. buffer_of n link) (q ∙ p)
