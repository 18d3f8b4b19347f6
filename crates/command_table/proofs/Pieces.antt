-- A table is that of the rows up to a cycle, and behind it that of the rows after it.
use Rattle.std.proofs.Common.{◌≡◌, ℕ, zero, suc, ◌+◌, ◌<◌, ◌≤◌, min, Bool, true, false, leb, ltb, eqb, List, [], ◌∷◌, ◌++◌, length, get_or, take, Option, Some, None, slice_get, IfSome, MatchOption, refl, sym, ap, ap₂, subst, ◌∙◌, length-append, arith}
use Rattle.std.specs.Prelude.{filter, flat_map}
use Rattle.std.specs.List.{AllByRecursion as Each}
use Rattle.std.proofs.lemmas.Bool.{cond-true, cond-false, cond_both, eqb-true, eqb-false, ltb-true, ltb-false, leb-true, le-leb, lt-leb}
use Rattle.std.proofs.lemmas.Bool.Decides.{nat_tests}
use Rattle.std.proofs.lemmas.List.{append-nil, append_assoc, take_more}
use Rattle.std.proofs.lemmas.List.Concat.{flat_map-append}
use Rattle.std.proofs.lemmas.List.Elements.{filter-append}
use Rattle.std.proofs.lemmas.List.Filters.{length-filter_both}
use Rattle.sim_base.specs.declared.command.IssuedCommand.{IssuedCommand}
use Rattle.sim_base.proofs.Each.{Each-append}
use Rattle.command_table.specs.Tables.{rows_in, all_rows as all, rows_up_to, rows_after, HaveSameCycles, by_cycle, table_of}
use Rattle.command_table.specs.Lefts.{AllUpTo, AllAfter}
use Rattle.command_table.proofs.Rising.{Rising, own-cycle, other-cycle, cons-same, by_cycle-is, by_cycle-rising, by_cycle-same, each-by_cycle}

each-up-to : (cycle : ℕ) (rows : List IssuedCommand) → AllUpTo cycle (rows_up_to cycle rows)
each-up-to cycle [] = tt
each-up-to cycle (row ∷ rows) = cond_both (leb row.cycle cycle) _ _ (AllUpTo cycle) (λ e. (leb-true _ _ e, each-up-to cycle rows)) (λ e. each-up-to cycle rows)

each-after : (cycle : ℕ) (rows : List IssuedCommand) → AllAfter cycle (rows_after cycle rows)
each-after cycle [] = tt
each-after cycle (row ∷ rows) = cond_both (ltb cycle row.cycle) _ _ (AllAfter cycle) (λ e. (ltb-true _ _ e, each-after cycle rows)) (λ e. each-after cycle rows)

-- rows up to a cycle, and behind them rows after it, rise as each of the two does
rising-append : (cycle : ℕ) (xs ys : List IssuedCommand) → Rising xs → Rising ys → AllUpTo cycle xs → AllAfter cycle ys → Rising (xs ++ ys)
rising-append cycle [] ys r s up after = s
rising-append cycle (x ∷ xs) ys r s up after =
    (Each-append (λ (y : IssuedCommand). x.cycle ≤ y.cycle) xs ys r.0 (later ys after), rising-append cycle xs ys r.1 s up.1 after)
  where
    later : (ys : List IssuedCommand) → AllAfter cycle ys → Each (λ (y : IssuedCommand). x.cycle ≤ y.cycle) ys
    later [] h = tt
    later (y ∷ ys) h = (omega (arith, h.0, up.0), later ys h.1)

-- among rows up to a cycle none is in a later one
none-later : (cycle k : ℕ) → cycle < k → (rows : List IssuedCommand) → AllUpTo cycle rows → rows_in k rows ≡ []
none-later cycle k l [] h = refl
none-later cycle k l (row ∷ rows) h = other-cycle row rows k (λ e. omega (arith, l, h.0, e)) ∙ none-later cycle k l rows h.1

-- one row more that is after the cycle
one-after : (cycle k : ℕ) (x : IssuedCommand) (up after xs : List IssuedCommand) → cycle < x.cycle → AllUpTo cycle up → rows_in k (up ++ after) ≡ rows_in k xs → rows_in k (up ++ x ∷ after) ≡ rows_in k (x ∷ xs)
one-after cycle k x up after xs l before same = filter-append in_cycle up (x ∷ after) ∙ by (eqb x.cycle k) refl
  where
    in_cycle : IssuedCommand → Bool
    in_cycle = λ row. eqb row.cycle k

    so-far : rows_in k up ++ rows_in k after ≡ rows_in k xs
    so-far = sym (filter-append in_cycle up after) ∙ same

    by : (t : Bool) → eqb x.cycle k ≡ t → rows_in k up ++ rows_in k (x ∷ after) ≡ rows_in k (x ∷ xs)
    by true e =
        let own : x.cycle ≡ k = eqb-true _ _ e in
        let none : rows_in k up ≡ [] = none-later cycle k (omega (arith, l, own)) up before in
        ap₂ (λ ys zs. ys ++ zs) none (own-cycle x after k own) ∙ ap (λ ys. x ∷ ys) (ap (λ ys. ys ++ rows_in k after) (sym none) ∙ so-far) ∙ sym (own-cycle x xs k own)
    by false e =
        let other : x.cycle ≡ k → ⊥ = eqb-false _ _ e in
        ap (λ ys. rows_in k up ++ ys) (other-cycle x after k other) ∙ so-far ∙ sym (other-cycle x xs k other)

-- the two parts have the same rows in each cycle
parts-same : (cycle : ℕ) (rows : List IssuedCommand) → HaveSameCycles (rows_up_to cycle rows ++ rows_after cycle rows) rows
parts-same cycle [] k = refl
parts-same cycle (x ∷ xs) k = by (ltb cycle x.cycle) refl (parts-same cycle xs)
  where
    by : (t : Bool) → ltb cycle x.cycle ≡ t → HaveSameCycles (rows_up_to cycle xs ++ rows_after cycle xs) xs → rows_in k (rows_up_to cycle (x ∷ xs) ++ rows_after cycle (x ∷ xs)) ≡ rows_in k (x ∷ xs)
    by true e same =
        let l : cycle < x.cycle = ltb-true _ _ e in
        ap₂ (λ ys zs. rows_in k (ys ++ zs)) (cond-false _ _ _ (lt-leb x.cycle cycle l)) (cond-true _ _ _ e) ∙ one-after cycle k x (rows_up_to cycle xs) (rows_after cycle xs) xs l (each-up-to cycle xs) (same k)
    by false e same =
        ap₂ (λ ys zs. rows_in k (ys ++ zs)) (cond-true _ _ _ (le-leb x.cycle cycle (ltb-false _ _ e))) (cond-false _ _ _ e) ∙ cons-same x (rows_up_to cycle xs ++ rows_after cycle xs) xs same k

-- rows by cycle are those up to a cycle, and behind them those after it
by_cycle-parts : (cycle : ℕ) (rows : List IssuedCommand) → by_cycle rows ≡ by_cycle (rows_up_to cycle rows) ++ by_cycle (rows_after cycle rows)
by_cycle-parts cycle rows = by_cycle-is (by_cycle up ++ by_cycle after) rows rising same
  where
    up : List IssuedCommand
    up = rows_up_to cycle rows

    after : List IssuedCommand
    after = rows_after cycle rows

    rising : Rising (by_cycle up ++ by_cycle after)
    rising =
        rising-append cycle (by_cycle up) (by_cycle after) (by_cycle-rising up) (by_cycle-rising after)
        (each-by_cycle (λ (row : IssuedCommand). row.cycle ≤ cycle) up (each-up-to cycle rows))
        (each-by_cycle (λ (row : IssuedCommand). cycle < row.cycle) after (each-after cycle rows))

    same : HaveSameCycles (by_cycle up ++ by_cycle after) rows
    same k =
        filter-append (λ (row : IssuedCommand). eqb row.cycle k) (by_cycle up) (by_cycle after)
        ∙ ap₂ (λ xs ys. xs ++ ys) (by_cycle-same up k) (by_cycle-same after k)
        ∙ sym (filter-append (λ (row : IssuedCommand). eqb row.cycle k) up after)
        ∙ parts-same cycle rows k

-- a table is that of its lists up to a cycle, and behind it that of its lists after it
pub table-parts : (cycle : ℕ) (lists before behind : List (List IssuedCommand)) → all before ≡ rows_up_to cycle (all lists) → all behind ≡ rows_after cycle (all lists) → table_of lists ≡ table_of before ++ table_of behind
table-parts cycle lists before behind b a = by_cycle-parts cycle (all lists) ∙ ap₂ (λ xs ys. by_cycle xs ++ by_cycle ys) (sym b) (sym a)

-- where some rows are up to the cycle, fewer are left
pub fewer-left : (cycle : ℕ) (lists behind : List (List IssuedCommand)) → 0 < length (rows_up_to cycle (all lists)) → all behind ≡ rows_after cycle (all lists) → length (all behind) < length (all lists)
fewer-left cycle lists behind l a =
    let both : length (rows_up_to cycle (all lists)) + length (rows_after cycle (all lists)) ≡ length (all lists) =
    length-filter_both (λ (row : IssuedCommand). leb row.cycle cycle) (λ (row : IssuedCommand). ltb cycle row.cycle) (λ row. grind (arith, nat_tests)) (all lists) in
    omega (arith, both, ap length a, l)

-- one list more
filter-one-more : (p : IssuedCommand → Bool) (lists : List (List IssuedCommand)) (i : ℕ) (list : List IssuedCommand) → i < length lists → list ≡ get_or lists i list
    → filter p (all (take (i + 1) lists)) ≡ filter p (all (take i lists)) ++ filter p list
filter-one-more p lists i list l is =
    ap (λ ls. filter p (all ls)) (take_more lists i list l)
    ∙ ap (filter p) (flat_map-append (λ rows. rows) (take i lists) (get_or lists i list ∷ []))
    ∙ filter-append p (all (take i lists)) (get_or lists i list ++ [])
    ∙ ap (λ rows. filter p (all (take i lists)) ++ filter p rows) (append-nil (get_or lists i list) ∙ sym is)

pub up-to-more : (cycle : ℕ) (lists lefts new : List (List IssuedCommand)) (i : ℕ) (list part : List IssuedCommand) → i < length lists → list ≡ get_or lists i list → part ≡ rows_up_to cycle list
    → all lefts ≡ rows_up_to cycle (all (take i lists)) → all new ≡ all lefts ++ part → all new ≡ rows_up_to cycle (all (take (i + 1) lists))
up-to-more cycle lists lefts new i list part l is same h added = added ∙ ap₂ (λ xs ys. xs ++ ys) h same ∙ sym (filter-one-more (λ (row : IssuedCommand). leb row.cycle cycle) lists i list l is)

pub after-more : (cycle : ℕ) (lists lefts new : List (List IssuedCommand)) (i : ℕ) (list part : List IssuedCommand) → i < length lists → list ≡ get_or lists i list → part ≡ rows_after cycle list
    → all lefts ≡ rows_after cycle (all (take i lists)) → all new ≡ all lefts ++ part → all new ≡ rows_after cycle (all (take (i + 1) lists))
after-more cycle lists lefts new i list part l is same h added = added ∙ ap₂ (λ xs ys. xs ++ ys) h same ∙ sym (filter-one-more (λ (row : IssuedCommand). ltb cycle row.cycle) lists i list l is)

-- Some row of the lists is up to a cycle.
abbrev pub HaveUpTo : List (List IssuedCommand) → ℕ → Type 0
HaveUpTo lists cycle = 0 < length (rows_up_to cycle (flat_map (λ rows. rows) lists))

-- a row is up to its own cycle
own-up-to : (rows : List IssuedCommand) (count : ℕ) (row : IssuedCommand) → slice_get rows count ≡ Some row → 0 < length (rows_up_to row.cycle rows)
own-up-to [] count row e = absurd (cc)
own-up-to (first ∷ rows) zero row e =
    let same : row ≡ first = cc in
    let own : rows_up_to first.cycle (first ∷ rows) ≡ first ∷ rows_up_to first.cycle rows = cond-true _ _ _ (le-leb first.cycle first.cycle (omega arith)) in
    subst (λ (z : IssuedCommand). 0 < length (rows_up_to z.cycle (first ∷ rows))) (sym same) (omega (arith, ap length own))
own-up-to (first ∷ rows) (suc count) row e =
    let more : 0 < length (rows_up_to row.cycle rows) = own-up-to rows count row e in
    cond_both (leb first.cycle row.cycle) (first ∷ rows_up_to row.cycle rows) (rows_up_to row.cycle rows) (λ rows. 0 < length rows) (λ f. omega arith) (λ f. more)

length-one-more : (cycle : ℕ) (lists : List (List IssuedCommand)) (i : ℕ) (list : List IssuedCommand) → i < length lists → list ≡ get_or lists i list
    → length (rows_up_to cycle (all (take (i + 1) lists))) ≡ length (rows_up_to cycle (all (take i lists))) + length (rows_up_to cycle list)
length-one-more cycle lists i list l is =
    ap length (filter-one-more (λ (row : IssuedCommand). leb row.cycle cycle) lists i list l is) ∙ length-append (rows_up_to cycle (all (take i lists))) (rows_up_to cycle list)

pub have-kept : (lists : List (List IssuedCommand)) (i : ℕ) (list : List IssuedCommand) (least : Option ℕ) → i < length lists → list ≡ get_or lists i list
    → IfSome least (HaveUpTo (take i lists)) → IfSome least (HaveUpTo (take (i + 1) lists))
have-kept lists i list None l is h = tt
have-kept lists i list (Some cycle) l is h = omega (arith, h, length-one-more cycle lists i list l is)

pub have-earlier : (lists : List (List IssuedCommand)) (i : ℕ) (list : List IssuedCommand) (count : ℕ) (row : IssuedCommand) (least : Option ℕ) (new : ℕ) → i < length lists → list ≡ get_or lists i list
    → slice_get list count ≡ Some row → MatchOption least (new ≡ row.cycle) (λ other. new ≡ min row.cycle other) → IfSome least (HaveUpTo (take i lists)) → HaveUpTo (take (i + 1) lists) new
have-earlier lists i list count row least new l is e m h = by least m h
  where
    own : new ≡ row.cycle → HaveUpTo (take (i + 1) lists) new
    own same = subst (HaveUpTo (take (i + 1) lists)) (sym same) (omega (arith, own-up-to list count row e, length-one-more row.cycle lists i list l is))

    by : (least : Option ℕ) → MatchOption least (new ≡ row.cycle) (λ other. new ≡ min row.cycle other) → IfSome least (HaveUpTo (take i lists)) → HaveUpTo (take (i + 1) lists) new
    by None m h = own m
    by (Some other) m h = go (leb row.cycle other) refl
      where
        go : (t : Bool) → leb row.cycle other ≡ t → HaveUpTo (take (i + 1) lists) new
        go true f = own (let before : row.cycle ≤ other = leb-true _ _ f in omega (arith, before, m))
        go false f =
            let same : new ≡ other = grind (arith, nat_tests) in
            subst (HaveUpTo (take (i + 1) lists)) (sym same) (omega (arith, h, length-one-more other lists i list l is))

-- one piece more, and what is left behind it
pub piece-more : (cycle : ℕ) (table : List IssuedCommand) (pieces new lists before behind : List (List IssuedCommand)) → new ≡ pieces ++ table_of before ∷ [] → all before ≡ rows_up_to cycle (all lists) → all behind ≡ rows_after cycle (all lists)
    → all pieces ++ table_of lists ≡ table → all new ++ table_of behind ≡ table
piece-more cycle table pieces new lists before behind pushed b a h =
    ap (λ ls. all ls ++ table_of behind) pushed
    ∙ ap (λ rows. rows ++ table_of behind) (flat_map-append (λ rows. rows) pieces (table_of before ∷ []) ∙ ap (λ rows. all pieces ++ rows) (append-nil (table_of before)))
    ∙ append_assoc (all pieces) (table_of before) (table_of behind)
    ∙ ap (λ rows. all pieces ++ rows) (sym (table-parts cycle lists before behind b a))
    ∙ h
