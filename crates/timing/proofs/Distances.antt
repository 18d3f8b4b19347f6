-- How large a distance may be, and that two commands which no rule binds have none.
use Rattle.std.proofs.Common.{ℕ, ◌≤◌, Bool, max, List, [], ◌∷◌, map, arith}
use Rattle.std.specs.Prelude.{filter, fold}
use Rattle.std.specs.List.{AllByRecursion as Each}
use Rattle.std.proofs.lemmas.Bool.{cond_both}
use Rattle.sim_base.specs.declared.command.Kind.{Kind}
use Rattle.sim_base.specs.declared.command.Relation.{Relation}
use Rattle.sim_base.specs.declared.rule.Rule.{Rule}
use Rattle.sim_base.specs.declared.timing.Timing.{Timing}
use Rattle.sim_base.specs.Keys.{TimingInRange}
use Rattle.sim_base.specs.Rules.{rules, binds, gap}

-- the greatest of some numbers of a list is no more than each of the list may be
greatest-le : {X : Type 0} (f : X → ℕ) (p : X → Bool) (m a : ℕ) (xs : List X) → a ≤ m → Each (λ x. f x ≤ m) xs → fold max a (map f (filter p xs)) ≤ m
greatest-le f p m a [] h k = h
greatest-le f p m a (x ∷ xs) h k =
    cond_both (p x) (x ∷ filter p xs) (filter p xs) (λ ys. fold max a (map f ys) ≤ m)
    (λ e. greatest-le f p m (max a (f x)) xs (omega (arith, k.0)) k.1)
    (λ e. greatest-le f p m a xs h k.1)

-- each rule's distance, where the distances of the timing are in range
rules-le : (t : Timing) → TimingInRange t → Each (λ (r : Rule). r.cycles ≤ 200004) (rules t)
rules-le t h = (
  omega arith,
  (
    omega arith,
    (
      omega arith,
      (
        omega arith,
        (
          omega arith,
          (
            omega arith,
            (
              omega arith,
              (
                omega arith,
                (
                  omega arith,
                  (
                    omega arith,
                    (
                      omega arith,
                      (
                        omega arith,
                        (
                          omega arith,
                          (
                            omega arith,
                            (
                              omega arith,
                              (
                                omega arith,
                                (
                                  omega arith,
                                  (
                                    omega arith,
                                    (
                                      omega arith,
                                      (
                                        omega arith,
                                        (
                                          omega arith,
                                          (
                                            omega arith,
                                            (
                                              omega arith,
                                              (
                                                omega arith,
                                                (
                                                  omega arith,
                                                  (
                                                    omega arith,
                                                    (
                                                      omega arith,
                                                      (
                                                        omega arith,
                                                        (
                                                          omega arith,
                                                          (
                                                            omega arith,
                                                            tt,
                                                          ),
                                                        ),
                                                      ),
                                                    ),
                                                  ),
                                                ),
                                              ),
                                            ),
                                          ),
                                        ),
                                      ),
                                    ),
                                  ),
                                ),
                              ),
                            ),
                          ),
                        ),
                      ),
                    ),
                  ),
                ),
              ),
            ),
          ),
        ),
      ),
    ),
  ),
)

pub gap-le : (t : Timing) (earlier later : Kind) (relation : Relation) → TimingInRange t → gap t earlier later relation ≤ 200004
unfolding gap
gap-le t earlier later relation h = greatest-le (λ (r : Rule). r.cycles) (λ r. binds r earlier later relation) 200004 0 (rules t) (omega arith) (rules-le t h)
