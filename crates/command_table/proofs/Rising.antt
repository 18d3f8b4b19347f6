-- Tables by cycle: those that have the same rows in each cycle are the same.
use Rattle.std.proofs.Common.{◌≡◌, ℕ, suc, ◌<◌, ◌≤◌, Bool, true, false, cond, ltb, eqb, List, [], ◌∷◌, refl, sym, ap, ap₂, subst, ◌∙◌, arith}
use Rattle.std.specs.List.{AllByRecursion as Each}
use Rattle.std.proofs.lemmas.Bool.{cond-true, cond-false, eqb-true, eqb-false, eq-eqb, ne_eqb, ltb-true, ltb-false}
use Rattle.std.proofs.lemmas.List.Elements.{All-from_get_or, recursion_from_All}
use Rattle.sim_base.specs.declared.command.IssuedCommand.{IssuedCommand}
use Rattle.sim_base.proofs.Each.{Each-filter}
use Rattle.sim_base.proofs.Lists.{nonempty, heads, tails}
use Rattle.command_table.specs.Tables.{IsRising, rows_in, HaveSameCycles, put, by_cycle}

-- no row is of an earlier cycle than one before it
abbrev pub Rising : List IssuedCommand → Type 0
Rising [] = Unit {0}
Rising (x ∷ xs) = Each (λ (y : IssuedCommand). x.cycle ≤ y.cycle) xs × Rising xs

pub rising-pairs : (xs : List IssuedCommand) → IsRising xs → Rising xs
rising-pairs [] h = tt
rising-pairs (x ∷ xs) h = (
  recursion_from_All (λ (y : IssuedCommand). x.cycle ≤ y.cycle) xs (All-from_get_or (λ (y : IssuedCommand). x.cycle ≤ y.cycle) xs x (λ i l. h 0 (suc i) x (omega arith) (omega arith))),
  rising-pairs xs (λ i j d a b. h (suc i) (suc j) d (omega arith) (omega arith)),
)

pub own-cycle : (x : IssuedCommand) (xs : List IssuedCommand) (k : ℕ) → x.cycle ≡ k → rows_in k (x ∷ xs) ≡ x ∷ rows_in k xs
own-cycle x xs k e = cond-true _ _ _ (eq-eqb x.cycle k e)

pub other-cycle : (x : IssuedCommand) (xs : List IssuedCommand) (k : ℕ) → (x.cycle ≡ k → ⊥) → rows_in k (x ∷ xs) ≡ rows_in k xs
other-cycle x xs k e = cond-false _ _ _ (ne_eqb x.cycle k e)

-- a row that is among those of one cycle of others is no earlier than what none of these is earlier than
among : (x y : IssuedCommand) (ys rest : List IssuedCommand) (k : ℕ) → Each (λ (z : IssuedCommand). y.cycle ≤ z.cycle) ys → x ∷ rest ≡ rows_in k ys → y.cycle ≤ x.cycle
among x y ys rest k h e =
    (subst (Each (λ (z : IssuedCommand). y.cycle ≤ z.cycle)) (sym e) (Each-filter (λ (z : IssuedCommand). y.cycle ≤ z.cycle) (λ (row : IssuedCommand). eqb row.cycle k) ys h)).0

-- without their first rows, which are the same
same-tails : (x y : IssuedCommand) (xs ys : List IssuedCommand) → x ≡ y → HaveSameCycles (x ∷ xs) (y ∷ ys) → HaveSameCycles xs ys
same-tails x y xs ys e h k = go (eqb x.cycle k) refl
  where
    other : y.cycle ≡ x.cycle
    other = ap (λ (z : IssuedCommand). z.cycle) (sym e)

    go : (b : Bool) → eqb x.cycle k ≡ b → rows_in k xs ≡ rows_in k ys
    go true f =
        let a : x.cycle ≡ k = eqb-true _ _ f in
        tails x y (rows_in k xs) (rows_in k ys) (sym (own-cycle x xs k a) ∙ h k ∙ own-cycle y ys k (other ∙ a))
    go false f =
        let a : x.cycle ≡ k → ⊥ = eqb-false _ _ f in
        sym (other-cycle x xs k a) ∙ h k ∙ other-cycle y ys k (λ g. a (sym other ∙ g))

same-heads : (x y : IssuedCommand) (xs ys : List IssuedCommand) → Rising (x ∷ xs) → Rising (y ∷ ys) → HaveSameCycles (x ∷ xs) (y ∷ ys) → x ≡ y
same-heads x y xs ys o p h = go (eqb x.cycle y.cycle) refl
  where
    go : (t : Bool) → eqb x.cycle y.cycle ≡ t → x ≡ y
    go true f =
        let e : x.cycle ≡ y.cycle = eqb-true _ _ f in
        heads x y (rows_in y.cycle xs) (rows_in y.cycle ys) (sym (own-cycle x xs y.cycle e) ∙ h y.cycle ∙ own-cycle y ys y.cycle refl)
    go false f =
        let e : x.cycle ≡ y.cycle → ⊥ = eqb-false _ _ f in
        let after : y.cycle ≤ x.cycle =
        among x y ys (rows_in x.cycle xs) x.cycle p.0 (sym (own-cycle x xs x.cycle refl) ∙ h x.cycle ∙ other-cycle y ys x.cycle (λ g. e (sym g))) in
        let before : x.cycle ≤ y.cycle =
        among y x xs (rows_in y.cycle ys) y.cycle o.0 (sym (own-cycle y ys y.cycle refl) ∙ sym (h y.cycle) ∙ other-cycle x xs y.cycle e) in
        absurd (e (omega (arith, before, after)))

-- tables by cycle that have the same rows in each are the same
pub same-table : (xs ys : List IssuedCommand) → Rising xs → Rising ys → HaveSameCycles xs ys → xs ≡ ys
same-table [] [] o p h = refl
same-table [] (y ∷ ys) o p h = absurd (nonempty y (rows_in y.cycle ys) (h y.cycle ∙ own-cycle y ys y.cycle refl))
same-table (x ∷ xs) [] o p h = absurd (nonempty x (rows_in x.cycle xs) (sym (h x.cycle) ∙ own-cycle x xs x.cycle refl))
same-table (x ∷ xs) (y ∷ ys) o p h =
    let e : x ≡ y = same-heads x y xs ys o p h in
    ap₂ (λ z zs. z ∷ zs) e (same-table xs ys o.1 p.1 (same-tails x y xs ys e h))

-- what holds of a row and of others holds of all where the row is put among them
each-put : (P : IssuedCommand → Type 0) (r : IssuedCommand) (xs : List IssuedCommand) → P r → Each P xs → Each P (put r xs)
unfolding put
each-put P r [] h hs = (h, tt)
each-put P r (x ∷ xs) h hs = by (ltb x.cycle r.cycle) (each-put P r xs h hs.1)
  where
    by : (b : Bool) → Each P (put r xs) → Each P (cond b (x ∷ put r xs) (r ∷ x ∷ xs))
    by true rest = (hs.0, rest)
    by false rest = (h, hs)

-- what holds of all rows holds of them by cycle
pub each-by_cycle : (P : IssuedCommand → Type 0) (xs : List IssuedCommand) → Each P xs → Each P (by_cycle xs)
unfolding by_cycle
each-by_cycle P [] h = tt
each-by_cycle P (x ∷ xs) h = each-put P x (by_cycle xs) h.0 (each-by_cycle P xs h.1)

pub weaker : (a b : ℕ) → a ≤ b → (xs : List IssuedCommand) → Each (λ (y : IssuedCommand). b ≤ y.cycle) xs → Each (λ (y : IssuedCommand). a ≤ y.cycle) xs
weaker a b l [] h = tt
weaker a b l (x ∷ xs) h = (omega (arith, l, h.0), weaker a b l xs h.1)

put-rising : (r : IssuedCommand) (xs : List IssuedCommand) → Rising xs → Rising (put r xs)
unfolding put
put-rising r [] h = (tt, tt)
put-rising r (x ∷ xs) h = by (ltb x.cycle r.cycle) refl (put-rising r xs h.1)
  where
    by : (b : Bool) → ltb x.cycle r.cycle ≡ b → Rising (put r xs) → Rising (cond b (x ∷ put r xs) (r ∷ x ∷ xs))
    by true e rest = (each-put (λ (y : IssuedCommand). x.cycle ≤ y.cycle) r xs (let l : x.cycle < r.cycle = ltb-true _ _ e in omega (arith, l)) h.0, rest)
    by false e rest = let l : r.cycle ≤ x.cycle = ltb-false _ _ e in ((l, weaker r.cycle x.cycle l xs h.0), h)

-- rows by cycle rise
pub by_cycle-rising : (xs : List IssuedCommand) → Rising (by_cycle xs)
unfolding by_cycle
by_cycle-rising [] = tt
by_cycle-rising (x ∷ xs) = put-rising x (by_cycle xs) (by_cycle-rising xs)

put-same : (r : IssuedCommand) (xs : List IssuedCommand) → HaveSameCycles (put r xs) (r ∷ xs)
unfolding put
put-same r [] k = refl
put-same r (x ∷ xs) k = by (ltb x.cycle r.cycle) refl (put-same r xs k)
  where
    by : (b : Bool) → ltb x.cycle r.cycle ≡ b → rows_in k (put r xs) ≡ rows_in k (r ∷ xs) → rows_in k (cond b (x ∷ put r xs) (r ∷ x ∷ xs)) ≡ rows_in k (r ∷ x ∷ xs)
    by false e same = refl
    by true e same = go (eqb x.cycle k) refl (eqb r.cycle k) refl
      where
        earlier : x.cycle < r.cycle
        earlier = ltb-true _ _ e

        go : (a : Bool) → eqb x.cycle k ≡ a → (b : Bool) → eqb r.cycle k ≡ b → rows_in k (x ∷ put r xs) ≡ rows_in k (r ∷ x ∷ xs)
        go true f true g = let p : x.cycle ≡ k = eqb-true _ _ f in let q : r.cycle ≡ k = eqb-true _ _ g in absurd (omega (arith, earlier, p, q))
        go true f false g =
            let p : x.cycle ≡ k = eqb-true _ _ f in
            let q : r.cycle ≡ k → ⊥ = eqb-false _ _ g in
            own-cycle x (put r xs) k p ∙ ap (λ z. x ∷ z) (same ∙ other-cycle r xs k q) ∙ sym (other-cycle r (x ∷ xs) k q ∙ own-cycle x xs k p)
        go false f true g =
            let p : x.cycle ≡ k → ⊥ = eqb-false _ _ f in
            let q : r.cycle ≡ k = eqb-true _ _ g in
            other-cycle x (put r xs) k p ∙ same ∙ own-cycle r xs k q ∙ sym (own-cycle r (x ∷ xs) k q ∙ ap (λ z. r ∷ z) (other-cycle x xs k p))
        go false f false g =
            let p : x.cycle ≡ k → ⊥ = eqb-false _ _ f in
            let q : r.cycle ≡ k → ⊥ = eqb-false _ _ g in
            other-cycle x (put r xs) k p ∙ same ∙ other-cycle r xs k q ∙ sym (other-cycle r (x ∷ xs) k q ∙ other-cycle x xs k p)

pub cons-same : (x : IssuedCommand) (xs ys : List IssuedCommand) → HaveSameCycles xs ys → HaveSameCycles (x ∷ xs) (x ∷ ys)
cons-same x xs ys h k = by (eqb x.cycle k)
  where
    by : (b : Bool) → cond b (x ∷ rows_in k xs) (rows_in k xs) ≡ cond b (x ∷ rows_in k ys) (rows_in k ys)
    by true = ap (λ z. x ∷ z) (h k)
    by false = h k

-- rows by cycle are the same in each cycle
pub by_cycle-same : (xs : List IssuedCommand) → HaveSameCycles (by_cycle xs) xs
unfolding by_cycle
by_cycle-same [] k = refl
by_cycle-same (x ∷ xs) k = put-same x (by_cycle xs) k ∙ cons-same x (by_cycle xs) xs (by_cycle-same xs) k

-- A table by cycle that has the same rows in each cycle as others is these by cycle.
pub by_cycle-is : (table rows : List IssuedCommand) → Rising table → HaveSameCycles table rows → by_cycle rows ≡ table
by_cycle-is table rows r h = same-table (by_cycle rows) table (by_cycle-rising rows) r (λ k. by_cycle-same rows k ∙ sym (h k))
