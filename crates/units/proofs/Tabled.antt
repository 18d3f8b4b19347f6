-- The table of all commands: the lists of the channels, read by cycle.
use Rattle.std.proofs.Common.{◌≡◌, ℕ, zero, suc, ◌+◌, ◌<◌, ◌≤◌, Bool, true, false, ◌&&◌, ltb, eqb, List, [], ◌∷◌, ◌++◌, map, get_or, refl, sym, ap, ap₂, ◌∙◌, add-one, arith}
use Rattle.std.specs.Prelude.{All, filter, flat_map}
use Rattle.std.specs.List.{AllByRecursion as Each}
use Rattle.std.proofs.lemmas.Bool.{cond-true, cond-false, lt-ltb}
use Rattle.std.proofs.lemmas.Bool.Decides.{nat_tests}
use Rattle.std.proofs.lemmas.List.{append-nil}
use Rattle.std.proofs.lemmas.List.Concat.{flat_map-append}
use Rattle.std.proofs.lemmas.List.Elements.{All-from_recursion, filter-append}
use Rattle.sim_base.specs.declared.config.Config.{Config}
use Rattle.sim_base.specs.declared.command.IssuedCommand.{IssuedCommand}
use Rattle.sim_base.specs.declared.trace.Entry.{Entry}
use Rattle.sim_base.specs.History.{below, commands, commands_on, stands_before}
use Rattle.sim_base.specs.Machine.{run}
use Rattle.sim_base.proofs.Ordered.{Each-weaker}
use Rattle.sim_base.proofs.Lists.{filter-both, filter-each, filter-none}
use Rattle.statistics.proofs.Lists.{map_below_more}
use Rattle.command_table.specs.Tables.{IsRising, rows_in, HaveSameCycles, table_of}
use Rattle.command_table.proofs.Rising.{rising-pairs, by_cycle-is}
use Rattle.laws.specs.Commands.{history_of}
use Rattle.laws.proofs.Legal.{cycles_ascend}
use Rattle.laws.proofs.Tabled.{commands_on-commands, tables_are_ordered}
use Rattle.units.proofs.SpanLaws.Merged.{commands-within, Ordered, ordered-pairs}

-- no row of the table of a run is of an earlier cycle than one before it
table-rises : (s : Config) (traces : List (List Entry)) (now : ℕ) → IsRising (commands (run s traces now))
table-rises s traces now i j d a b = not-earlier (get_or (commands (run s traces now)) i d) (get_or (commands (run s traces now)) j d) (tables_are_ordered s traces now i j d a b)
  where
    not-earlier : (x y : IssuedCommand) → stands_before x y ≡ true → x.cycle ≤ y.cycle
    not-earlier x y h = grind (arith, nat_tests)

-- no command in the list of a channel is of an earlier cycle than one before it
list-rises : (s : Config) (traces : List (List Entry)) (now channel : ℕ) → IsRising (history_of s traces now channel)
list-rises s traces now channel i j d a b = let h = cycles_ascend s traces now channel i j d a b in omega (arith, h)

pub lists-rise : (s : Config) (traces : List (List Entry)) (now : ℕ) (channels : List ℕ) → All IsRising (map (history_of s traces now) channels)
lists-rise s traces now channels = All-from_recursion IsRising _ (each channels)
  where
    each : (channels : List ℕ) → Each IsRising (map (history_of s traces now) channels)
    each [] = tt
    each (channel ∷ channels) = (list-rises s traces now channel, each channels)

-- Rows of two kinds, where none of the first comes after one of the second.
record Falls (p q r : IssuedCommand → Bool) : Type 0 where
  first : (x : IssuedCommand) → p x ≡ true → (q x ≡ false) × (r x ≡ true)
  second : (x : IssuedCommand) → p x ≡ false → q x ≡ r x
  apart : (x y : IssuedCommand) → q x ≡ true → stands_before x y ≡ true → p y ≡ false

-- where no row of the first kind comes after one of the second, the rows of the first and then those of the second are
-- those of either
both-kinds : (p q r : IssuedCommand → Bool) → Falls p q r → (xs : List IssuedCommand) → Ordered xs → filter p xs ++ filter q xs ≡ filter r xs
both-kinds p q r f [] o = refl
both-kinds p q r f (x ∷ xs) o = by (p x) refl (q x) refl (both-kinds p q r f xs o.1)
  where
    by : (a : Bool) → p x ≡ a → (b : Bool) → q x ≡ b → filter p xs ++ filter q xs ≡ filter r xs → filter p (x ∷ xs) ++ filter q (x ∷ xs) ≡ filter r (x ∷ xs)
    by true d b e h =
        let g = f.first x d in
        ap₂ (λ u v. u ++ v) (cond-true _ _ _ d) (cond-false _ _ _ g.0) ∙ ap (λ z. x ∷ z) h ∙ sym (cond-true _ _ _ g.1)
    by false d true e h =
        let none = filter-none p xs (Each-weaker (λ y. stands_before x y ≡ true) (λ y. p y ≡ false) (λ y k. f.apart x y e k) xs o.0) in
        ap₂ (λ u v. u ++ v) (cond-false _ _ _ d ∙ none) (cond-true _ _ _ e)
        ∙ ap (λ z. x ∷ z) (ap (λ u. u ++ filter q xs) (sym none) ∙ h)
        ∙ sym (cond-true _ _ _ (sym (f.second x d) ∙ e))
    by false d false e h =
        ap₂ (λ u v. u ++ v) (cond-false _ _ _ d) (cond-false _ _ _ e) ∙ h ∙ sym (cond-false _ _ _ (sym (f.second x d) ∙ e))

-- the rows of the channels below a number
abbrev lower : ℕ → List IssuedCommand → List IssuedCommand
lower n xs = filter (λ (x : IssuedCommand). ltb x.channel n) xs

falls : (k n : ℕ) → Falls (λ (x : IssuedCommand). ltb x.channel n && eqb x.cycle k) (λ (x : IssuedCommand). eqb x.channel n && eqb x.cycle k) (λ (x : IssuedCommand). ltb x.channel (n + 1) && eqb x.cycle k)
falls k n =
    record {
      first = λ x h. (apart x.channel x.cycle h, wider x.channel x.cycle h);
      second = λ x h. other x.channel x.cycle h;
      apart = λ x y h g. later x y h g;
    }
  where
    apart : (c t : ℕ) → (ltb c n && eqb t k) ≡ true → (eqb c n && eqb t k) ≡ false
    apart c t h = grind (arith, nat_tests)

    wider : (c t : ℕ) → (ltb c n && eqb t k) ≡ true → (ltb c (n + 1) && eqb t k) ≡ true
    wider c t h = grind (arith, nat_tests)

    other : (c t : ℕ) → (ltb c n && eqb t k) ≡ false → (eqb c n && eqb t k) ≡ (ltb c (n + 1) && eqb t k)
    other c t h = grind (arith, nat_tests)

    later : (x y : IssuedCommand) → (eqb x.channel n && eqb x.cycle k) ≡ true → stands_before x y ≡ true → (ltb y.channel n && eqb y.cycle k) ≡ false
    later x y h g = grind (arith, nat_tests)

-- the rows of the channels below a number, with one channel more
more-channels : (k n : ℕ) (xs : List IssuedCommand) → Ordered xs → rows_in k (lower n xs) ++ rows_in k (commands_on n xs) ≡ rows_in k (lower (n + 1) xs)
more-channels k n xs o =
    let in_cycle = λ (x : IssuedCommand). eqb x.cycle k in
    ap₂ (λ u v. u ++ v) (sym (filter-both in_cycle (λ (x : IssuedCommand). ltb x.channel n) _ (λ x. refl) xs)) (sym (filter-both in_cycle (λ (x : IssuedCommand). eqb x.channel n) _ (λ x. refl) xs))
    ∙ both-kinds _ _ _ (falls k n) xs o
    ∙ filter-both in_cycle (λ (x : IssuedCommand). ltb x.channel (n + 1)) _ (λ x. refl) xs

-- the lists of the channels below a number
abbrev pub lists_below : Config → List (List Entry) → ℕ → ℕ → List (List IssuedCommand)
lists_below s traces now n = map (history_of s traces now) (below n)

-- the lists of the channels below a number, one behind the other, hold the rows of each cycle in their order
lower-rows : (s : Config) (traces : List (List Entry)) (now n : ℕ) → n ≤ s.channels → HaveSameCycles (flat_map (λ rows. rows) (lists_below s traces now n)) (lower n (commands (run s traces now)))
lower-rows s traces now zero l k = ap (rows_in k) (sym (none (commands (run s traces now))))
  where
    no_channel : (c : ℕ) → ltb c 0 ≡ false
    no_channel c = grind (arith, nat_tests)

    none : (xs : List IssuedCommand) → lower 0 xs ≡ []
    none [] = refl
    none (x ∷ xs) = cond-false _ _ _ (no_channel x.channel) ∙ none xs
lower-rows s traces now (suc n) l k =
    let all = commands (run s traces now) in
    let own = history_of s traces now n in
    let lists = lists_below s traces now n in
    let more : flat_map (λ rows. rows) (lists_below s traces now (suc n)) ≡ flat_map (λ rows. rows) lists ++ own =
    ap (flat_map (λ rows. rows)) (map_below_more (history_of s traces now) n) ∙ flat_map-append (λ rows. rows) lists (own ∷ []) ∙ ap (λ z. flat_map (λ rows. rows) lists ++ z) (append-nil own) in
    ap (rows_in k) more
    ∙ filter-append (λ (x : IssuedCommand). eqb x.cycle k) (flat_map (λ rows. rows) lists) own
    ∙ ap₂ (λ u v. u ++ v) (lower-rows s traces now n (omega arith) k) (ap (rows_in k) (sym (commands_on-commands s traces n (omega arith) now)))
    ∙ more-channels k n all (ordered-pairs all (tables_are_ordered s traces now))
    ∙ ap (λ m. rows_in k (lower m all)) (add-one n)

-- read by cycle they are the table of the run
pub table-is : (s : Config) (traces : List (List Entry)) (now : ℕ) → table_of (lists_below s traces now s.channels) ≡ commands (run s traces now)
table-is s traces now =
    by_cycle-is all (flat_map (λ rows. rows) (lists_below s traces now s.channels)) (rising-pairs all (table-rises s traces now)) (λ k. sym (lower-rows s traces now s.channels (omega arith) k ∙ ap (rows_in k) whole))
  where
    all : List IssuedCommand
    all = commands (run s traces now)

    whole : lower s.channels all ≡ all
    whole =
        filter-each (λ (x : IssuedCommand). ltb x.channel s.channels) all
        (Each-weaker (λ (x : IssuedCommand). (x.cycle < now) × (x.channel < s.channels)) (λ (x : IssuedCommand). ltb x.channel s.channels ≡ true) (λ x h. lt-ltb x.channel s.channels h.1) all (commands-within s traces now))
