-- Each move keeps the rule of the board.
use Rattle.std.proofs.Common.{◌≡◌, ◌≢◌, ℕ, zero, suc, ◌+◌, ◌≤◌, List, [], ◌∷◌, ◌++◌, length, set, sym, refl, ap, subst, ⊎_elim, arith}
use mathlib.Core.Option.{some, some-injective, some-ne-none}
use lib.ListN.{get_elem?}
use Rattle.crossbeam_queue.specs.Fifo.{Pushes, Pops, Forks, Merges, Learns}
use Rattle.crossbeam_queue.proofs.Lists.{at_set, at_snoc, set_again}
use Rattle.crew.specs.declared.rule.PassView.{PassView}
use Rattle.crew.specs.Rule.{weigh, view_of, spent, Kept, IsSettled, WasInFront}

module _ {X : Type 0} (f : X → ℕ) where
  pub weigh_snoc : (xs : List X) (x : X) → weigh f (xs ++ x ∷ []) ≡ weigh f xs + f x
  weigh_snoc [] x = omega arith
  weigh_snoc (y ∷ ys) x = let r = weigh_snoc ys x in omega arith

  pub weigh_append : (xs ys : List X) → weigh f (xs ++ ys) ≡ weigh f xs + weigh f ys
  weigh_append [] ys = omega arith
  weigh_append (x ∷ xs) ys = let r = weigh_append xs ys in omega arith

  weigh_set : (xs : List X) (i : ℕ) (v w : X) → get_elem? xs i ≡ some v → weigh f (set xs i w) + f v ≡ weigh f xs + f w
  weigh_set [] i v w e = absurd (some-ne-none v (sym e))
  weigh_set (x ∷ xs) zero v w e = let s = ap f (some-injective x v e) in omega arith
  weigh_set (x ∷ xs) (suc i) v w e = let r = weigh_set xs i v w e in omega arith

  one_of : (xs : List X) (i : ℕ) (v : X) → get_elem? xs i ≡ some v → f v ≤ weigh f xs
  one_of [] i v e = absurd (some-ne-none v (sym e))
  one_of (x ∷ xs) zero v e = let s = ap f (some-injective x v e) in omega arith
  one_of (x ∷ xs) (suc i) v e = let r = one_of xs i v e in omega arith

  two_of : (xs : List X) (i j : ℕ) (v w : X) → j ≢ i → get_elem? xs i ≡ some v → get_elem? xs j ≡ some w → f v + f w ≤ weigh f xs
  two_of [] i j v w n e e' = absurd (some-ne-none v (sym e))
  two_of (x ∷ xs) zero zero v w n e e' = absurd (n refl)
  two_of (x ∷ xs) zero (suc j) v w n e e' = let s = ap f (some-injective x v e) in let r = one_of xs j w e' in omega arith
  two_of (x ∷ xs) (suc i) zero v w n e e' = let s = ap f (some-injective x w e') in let r = one_of xs i v e in omega arith
  two_of (x ∷ xs) (suc i) (suc j) v w n e e' = let r = two_of xs i j v w (λ s. n (ap suc s)) e e' in omega arith

  none_of : (xs : List X) → ((j : ℕ) (u : X) → get_elem? xs j ≡ some u → f u ≡ 0) → weigh f xs ≡ 0
  none_of [] z = refl
  none_of (x ∷ xs) z = let a = z 0 x refl in let r = none_of xs (λ j u e. z (suc j) u e) in omega arith

  only_of : (xs : List X) (i : ℕ) (v : X) → get_elem? xs i ≡ some v → ((j : ℕ) (u : X) → j ≢ i → get_elem? xs j ≡ some u → f u ≡ 0) → weigh f xs ≡ f v
  only_of [] i v e z = absurd (some-ne-none v (sym e))
  only_of (x ∷ xs) zero v e z = let s = ap f (some-injective x v e) in let r = none_of xs (λ j u e'. z (suc j) u (λ h. omega arith) e') in omega arith
  only_of (x ∷ xs) (suc i) v e z = let a = z 0 x (λ h. omega arith) refl in let r = only_of xs i v e (λ j u n e'. z (suc j) u (λ h. n (omega arith)) e') in omega arith

pub weigh_ones : {X : Type 0} (xs : List X) → weigh (λ _. 1) xs ≡ length xs
weigh_ones [] = refl
weigh_ones (x ∷ xs) = let r = weigh_ones xs in omega arith

module _ {X : Type 0} where
  weigh_none : (h : X → ℕ) (xs : List X) → length xs ≡ 0 → weigh h xs ≡ 0
  weigh_none h [] e = refl
  weigh_none h (x ∷ xs) e = absurd (omega arith)

  -- one without the part has put nothing
  abbrev pub Quiet : PassView X → Type 0
  Quiet v = v.may_put ≡ 0 → v.put ≡ []

  abbrev Each : (PassView X → Type 0) → List (PassView X) → Type 0
  Each F views = (i : ℕ) (v : PassView X) → get_elem? views i ≡ some v → F v

  each_set : (F : PassView X → Type 0) (views : List (PassView X)) (i : ℕ) (w : PassView X) → F w → Each F views → Each F (set views i w)
  each_set F views i w mine all j u e = ⊎_elim (λ (x : (j ≡ i) × (w ≡ u)). subst F x.1 mine) (λ (x : (j ≢ i) × (get_elem? views j ≡ some u)). all j u x.1) (at_set views i j w u e)

  each_snoc : (F : PassView X → Type 0) (views : List (PassView X)) (w : PassView X) → F w → Each F views → Each F (views ++ w ∷ [])
  each_snoc F views w mine all j u e = ⊎_elim (λ (x : get_elem? views j ≡ some u). all j u x) (λ (is : w ≡ u). subst F is mine) (at_snoc views w u j e)

  pub begins : Kept {X = X} [] (view_of 1 [] [] ∷ [])
  begins = (refl, (λ h. refl), λ i v e. each_snoc Quiet [] (view_of 1 [] []) (λ none. refl) (λ j u e'. absurd (some-ne-none u (sym e'))) i v e)

  pub puts : (n pass : ℕ) (v : PassView X) (x : X) → v.may_put ≡ 1 → Pushes Kept n pass v x (λ w. w ≡ view_of v.may_put (v.put ++ x ∷ []) v.taken)
  puts n pass v x mine items views room k at =
      let w : PassView X = view_of v.may_put (v.put ++ x ∷ []) v.taken in (
        w,
        (
          (let s = weigh_set (λ (u : PassView X). u.may_put) views pass v w at in let p = k.0 in omega arith),
          (λ h.
              let s = weigh_set (λ (u : PassView X). weigh h u.put) views pass v w at in
              let t = weigh_set (λ (u : PassView X). weigh h u.taken) views pass v w at in
              let p = k.1 h in
              omega (arith, weigh_snoc h v.put x, weigh_snoc h items x)),
          each_set Quiet views pass w (λ none. absurd (omega arith)) k.2,
        ),
        refl,
      )

  pub takes : (pass : ℕ) (v : PassView X) → Pops Kept pass v (λ x w. (w ≡ view_of v.may_put v.put (v.taken ++ x ∷ [])) × WasInFront x v)
  takes pass v x items views k at =
      let w : PassView X = view_of v.may_put v.put (v.taken ++ x ∷ []) in (
        w,
        (
          (let s = weigh_set (λ (u : PassView X). u.may_put) views pass v w at in let p = k.0 in omega arith),
          (λ h.
              let s = weigh_set (λ (u : PassView X). weigh h u.put) views pass v w at in
              let t = weigh_set (λ (u : PassView X). weigh h u.taken) views pass v w at in
              let p = k.1 h in
              omega (arith, weigh_snoc h v.taken x)),
          each_set Quiet views pass w (k.2 pass v at) k.2,
        ),
        (refl, (items, (views, pass, at, k))),
      )

  pub adds_empty : (pass : ℕ) (v : PassView X) → Forks Kept pass v v spent
  adds_empty pass v items views k at =
      let same : set views pass v ≡ views = set_again views pass v at in
      subst (λ (l : List (PassView X)). Kept items (l ++ spent ∷ [])) (sym same) (
        (let p = k.0 in omega (arith, weigh_snoc (λ (u : PassView X). u.may_put) views spent)),
        (λ h. let p = k.1 h in omega (arith, weigh_snoc (λ (u : PassView X). weigh h u.put) views spent, weigh_snoc (λ (u : PassView X). weigh h u.taken) views spent)),
        each_snoc Quiet views spent (λ none. refl) k.2,
      )

  pub splits_taken : (pass : ℕ) (v : PassView X) → Forks Kept pass v (view_of v.may_put v.put []) (view_of 0 [] v.taken)
  splits_taken pass v items views k at =
      let w : PassView X = view_of v.may_put v.put [] in
      let r : PassView X = view_of 0 [] v.taken in (
        (let s = weigh_set (λ (u : PassView X). u.may_put) views pass v w at in let p = k.0 in omega (arith, weigh_snoc (λ (u : PassView X). u.may_put) (set views pass w) r)),
        (λ h.
            let s = weigh_set (λ (u : PassView X). weigh h u.put) views pass v w at in
            let t = weigh_set (λ (u : PassView X). weigh h u.taken) views pass v w at in
            let p = k.1 h in
            omega (arith, weigh_snoc (λ (u : PassView X). weigh h u.put) (set views pass w) r, weigh_snoc (λ (u : PassView X). weigh h u.taken) (set views pass w) r)),
        each_snoc Quiet (set views pass w) r (λ none. refl) (each_set Quiet views pass w (k.2 pass v at) k.2),
      )

  pub absorbs : (pass : ℕ) (v : PassView X) (other : ℕ) (u : PassView X) → u.may_put ≡ 0 → u.put ≡ [] → Merges Kept pass v other u (view_of v.may_put v.put (v.taken ++ u.taken)) spent
  absorbs pass v other u none idle items views k at apart at' =
      let both : PassView X = view_of v.may_put v.put (v.taken ++ u.taken) in
      let vs : List (PassView X) = set views pass both in (
        (let s = weigh_set (λ (y : PassView X). y.may_put) views pass v both at in let t = weigh_set (λ (y : PassView X). y.may_put) vs other u spent at' in let p = k.0 in omega arith),
        (λ h.
            let s = weigh_set (λ (y : PassView X). weigh h y.put) views pass v both at in
            let s' = weigh_set (λ (y : PassView X). weigh h y.put) vs other u spent at' in
            let t = weigh_set (λ (y : PassView X). weigh h y.taken) views pass v both at in
            let t' = weigh_set (λ (y : PassView X). weigh h y.taken) vs other u spent at' in
            let a : weigh h u.put ≡ 0 = ap (weigh h) idle in
            let p = k.1 h in
            omega (arith, weigh_append h v.taken u.taken)),
        each_set Quiet vs other spent (λ z. refl) (each_set Quiet views pass both (k.2 pass v at) k.2),
      )

  -- the others have put nothing
  idle_others : (items : List X) (views : List (PassView X)) (pass : ℕ) (v : PassView X) → v.may_put ≡ 1 → Kept items views → get_elem? views pass ≡ some v
      → (j : ℕ) (u : PassView X) → j ≢ pass → get_elem? views j ≡ some u → u.put ≡ []
  idle_others items views pass v mine k at j u other e = k.2 j u e (let t = two_of (λ (y : PassView X). y.may_put) views pass j v u other at e in let q = k.0 in omega arith)

  -- all that was put, this one did
  mine_all : (items : List X) (views : List (PassView X)) (pass : ℕ) (v : PassView X) → v.may_put ≡ 1 → Kept items views → get_elem? views pass ≡ some v
      → (h : X → ℕ) → weigh (λ (u : PassView X). weigh h u.put) views ≡ weigh h v.put
  mine_all items views pass v mine k at h = only_of (λ (u : PassView X). weigh h u.put) views pass v at (λ j u other e. ap (weigh h) (idle_others items views pass v mine k at j u other e))

  -- the one that puts knows that the queue holds no more than it put
  pub bounds : (pass : ℕ) (v : PassView X) → v.may_put ≡ 1 → Learns Kept pass v (λ items. length items ≤ length v.put)
  bounds pass v mine items views k at =
      let one : X → ℕ = λ _. 1 in
      let p = k.1 one in
      let all = mine_all items views pass v mine k at one in
      omega (arith, weigh_ones v.put, weigh_ones items)

  -- no more was returned than was put
  returned_below : (pass : ℕ) (v : PassView X) → v.may_put ≡ 1 → Learns Kept pass v (λ items. length v.taken ≤ length v.put)
  returned_below pass v mine items views k at =
      let one : X → ℕ = λ _. 1 in
      let p = k.1 one in
      let all = mine_all items views pass v mine k at one in
      let some_taken = one_of (λ (u : PassView X). weigh one u.taken) views pass v at in
      omega (arith, weigh_ones v.put, weigh_ones v.taken)

  -- where as many were returned as were put, these are what was put
  all_returned : (pass : ℕ) (v : PassView X) → v.may_put ≡ 1 → Learns Kept pass v (λ items. length v.put ≤ length v.taken → (h : X → ℕ) → weigh h v.taken ≡ weigh h v.put)
  all_returned pass v mine items views k at many h =
      let one : X → ℕ = λ _. 1 in
      let p = k.1 one in
      let all = mine_all items views pass v mine k at one in
      let some_taken = one_of (λ (u : PassView X). weigh one u.taken) views pass v at in
      let no_items : length items ≡ 0 = omega (arith, weigh_ones v.put, weigh_ones v.taken, weigh_ones items) in
      let none : (j : ℕ) (u : PassView X) → j ≢ pass → get_elem? views j ≡ some u → weigh h u.taken ≡ 0 =
      λ j u other e. weigh_none h u.taken (let t = two_of (λ (y : PassView X). weigh one y.taken) views pass j v u other at e in omega (arith, weigh_ones v.put, weigh_ones v.taken, weigh_ones u.taken)) in
      let a = mine_all items views pass v mine k at h in
      let b = only_of (λ (u : PassView X). weigh h u.taken) views pass v at none in
      let c = weigh_none h items no_items in
      let q = k.1 h in
      omega arith

  pub settles : (pass : ℕ) (v : PassView X) → v.may_put ≡ 1 → Learns Kept pass v (λ items. IsSettled v)
  settles pass v mine items views k at = (returned_below pass v mine items views k at, all_returned pass v mine items views k at)

  pub clears : (pass : ℕ) (v : PassView X) → v.may_put ≡ 1 → ((h : X → ℕ) → weigh h v.taken ≡ weigh h v.put) → Forks Kept pass v (view_of v.may_put [] []) spent
  clears pass v mine same items views k at =
      let w : PassView X = view_of v.may_put [] [] in (
        (let s = weigh_set (λ (u : PassView X). u.may_put) views pass v w at in let p = k.0 in omega (arith, weigh_snoc (λ (u : PassView X). u.may_put) (set views pass w) spent)),
        (λ h.
            let s = weigh_set (λ (u : PassView X). weigh h u.put) views pass v w at in
            let t = weigh_set (λ (u : PassView X). weigh h u.taken) views pass v w at in
            let p = k.1 h in
            let q = same h in
            omega (arith, weigh_snoc (λ (u : PassView X). weigh h u.put) (set views pass w) spent, weigh_snoc (λ (u : PassView X). weigh h u.taken) (set views pass w) spent)),
        each_snoc Quiet (set views pass w) spent (λ none. refl) (each_set Quiet views pass w (λ none. refl) k.2),
      )
