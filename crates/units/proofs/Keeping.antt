-- What the channels among the units so far kept, with one unit more.
use Rattle.std.proofs.Common.{◌≡◌, ℕ, suc, ◌+◌, ◌-◌, ◌<◌, ◌≤◌, List, [], ◌∷◌, ◌++◌, map, Option, sym, ap, subst, ◌∙◌, ◌⊎◌, inl, inr, arith}
use Rattle.std.specs.Prelude.{Vec}
use Rattle.std.specs.declared.alloc.Global.{Global}
use Rattle.std.proofs.lemmas.Bool.{cases_lt}
use Rattle.sim_base.specs.declared.message.Unit.TheVariants as unit
use Rattle.sim_base.specs.History.{below}
use Rattle.statistics.proofs.Lists.{map_below_more}
use Rattle.units.specs.Kept.{AreHeld}
use Rattle.units.specs.Parts.{IsPart}
use Rattle.units.specs.Units.{unit_at, unit_count}
use Rattle.units.specs.declared.part.UnitState.{UnitState}
use Rattle.units.specs.declared.machine.Machine.{Machine}
use Rattle.units.proofs.Standing.{core-at_place, channel-at_place}

pub held-more : {A : Type 0} (machine : Machine) (now place : ℕ) (p : UnitState) (list : ℕ → A) (old new : Option (Vec A Global)) → IsPart machine (unit_at machine.config place) now p → place < unit_count machine.config
    → ((core : ℕ) → IsPart machine (unit.Core core) now p → new ≡ old)
    → ((channel : ℕ) (rows : List A) → channel < machine.config.channels → IsPart machine (unit.Channel channel) now p → AreHeld old rows → AreHeld new (rows ++ list channel ∷ []))
    → AreHeld old (map list (below (place - machine.config.cores))) → AreHeld new (map list (below (suc place - machine.config.cores)))
held-more {A} machine now place p list old new stands within core channel was = go (cases_lt place machine.config.cores)
  where
    go : (place < machine.config.cores) ⊎ (machine.config.cores ≤ place) → AreHeld new (map list (below (suc place - machine.config.cores)))
    go (inl l) =
        let none : place - machine.config.cores ≡ suc place - machine.config.cores = omega arith in
        subst (λ (lists : Option (Vec A Global)). AreHeld lists (map list (below (suc place - machine.config.cores)))) (sym (core place (subst (λ u. IsPart machine u now p) (core-at_place machine.config place l) stands)))
        (subst (λ n. AreHeld old (map list (below n))) none was)
    go (inr l) =
        let k = place - machine.config.cores in
        let at : place ≡ machine.config.cores + k = omega arith in
        let next : suc k ≡ suc place - machine.config.cores = omega arith in
        let inside : k < machine.config.channels = omega (arith, l, within) in
        let more : map list (below k) ++ list k ∷ [] ≡ map list (below (suc place - machine.config.cores)) = sym (map_below_more list k) ∙ ap (λ n. map list (below n)) next in
        subst (AreHeld new) more (channel k (map list (below k)) inside (subst (λ u. IsPart machine u now p) (channel-at_place machine.config place k at) stands) was)
