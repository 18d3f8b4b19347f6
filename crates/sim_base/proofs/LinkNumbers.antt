-- The numbers of links, and the latencies of their overrides.
use Rattle.std.proofs.Common.{ℕ, ◌+◌, ◌*◌, ◌<◌, ◌≤◌, ◌≡◌, Some, Bool, eqb, List, [], ◌∷◌, subst, arith}
use Rattle.std.specs.Prelude.{find}
use Rattle.std.specs.Option.{IfSome}
use Rattle.std.proofs.lemmas.Bool.{cond_both}
use Rattle.std.proofs.lemmas.List.Elements.{All-head, All-tail}
use Rattle.std.proofs.Math.Nat.{mul_assoc, mul_comm, mul-le-mul_left}
use Rattle.std.proofs.lemmas.Nat.{mul-add-lt}
use Rattle.sim_base.specs.Keys.{OverridesInRange, LatencyInRange}
use Rattle.sim_base.specs.declared.overrides.Override.{Override}

-- the links of a core and a channel are among those of the machine
pub link_below : (cores channels c k d : ℕ) → c < cores → k < channels → d < 3 → 3 * (c * channels + k) + d < 3 * cores * channels
link_below cores channels c k d h l m =
    let e : 3 * cores * channels ≡ 3 * (cores * channels) = mul_assoc 3 cores channels in
    let f : c * channels + k < channels * cores = mul-add-lt c channels k cores h l in
    omega (arith, mul_comm cores channels)

-- the number of a link fits 64 bits
pub link_fits : (core channels : ℕ) → core < 65536 → channels < 65536 → core * channels ≤ 4294967296
link_fits core channels h k =
    let small : channels ≤ 65536 = omega arith in
    omega (arith, mul-le-mul_left core small)

pub found_in_range : (p : Override → Bool) (os : List Override) → OverridesInRange os → IfSome (find p os) (λ o. LatencyInRange o.latency)
found_in_range p [] h = tt
found_in_range p (o ∷ os) h =
    cond_both (p o) (Some o) (find p os) (λ r. IfSome r (λ o. LatencyInRange o.latency))
    (λ e. All-head (λ (o : Override). LatencyInRange o.latency) o os h)
    (λ e. found_in_range p os (All-tail (λ (o : Override). LatencyInRange o.latency) o os h))

-- the override that is found is in range
pub override_in_range : (os : List Override) (link : ℕ) (o : Override) → OverridesInRange os → find (λ o. eqb o.link link) os ≡ Some o → LatencyInRange o.latency
override_in_range os link o h e = subst (λ r. IfSome r (λ (o : Override). LatencyInRange o.latency)) e (found_in_range (λ o. eqb o.link link) os h)
