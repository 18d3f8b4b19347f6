-- What a record writes under limits it writes under wider ones.
use Rattle.std.proofs.Common.{◌≡◌, ℕ, ◌≤◌, ◌&&◌, ◌==◌, Bool, true, false, IsTrue, if◌then◌else◌, nat_lt, List, [], ◌∷◌, length, map, codes, Option, Some, None, refl, sym, arith, inl, inr}
use Rattle.std.specs.Str.{bytes_eq}
use Rattle.std.proofs.lemmas.Bool.{cases_Bool, eqb-true, lt-ltb, ltb-true, ltb-false, ne_eqb}
use Rattle.sim_base.specs.declared.config.Config.{Config}
use Rattle.sim_base.specs.declared.command.IssuedCommand.{IssuedCommand}
use Rattle.rule_check.specs.Numbers.{is_number, value_of, number_below, number_limit}
use Rattle.rule_check.specs.Fields.{◌>>=◌, limits_of, names_ranks, is_header, text_at, operand, column_count, has_no_operands, rank_in, bank_in, source_in, act_in, rd_in, wr_in, pre_in, prea_in, ref_in, command_in, row_from, row_in}
use Rattle.rule_check.specs.declared.limits.Limits.{Limits}
use Rattle.run_tables.specs.Commands.{with_rank, without_rank, limits_told}

-- what the first has, the second has too
abbrev Wider : {A : Type 0} → Option A → Option A → Type 0
Wider {A} o p = (x : A) → o ≡ Some x → p ≡ Some x

bind : {A B : Type 0} (o p : Option A) (f g : A → Option B) → Wider o p → ((a : A) → Wider (f a) (g a)) → Wider (o >>= f) (p >>= g)
bind None p f g h k x e = cc e
bind (Some a) p f g h k x e = rw (h a refl) (k a x e)

number-cases : (digits : Bool) (value a b : ℕ) → a ≤ b → Wider (if digits && nat_lt value a then Some value else None) (if digits && nat_lt value b then Some value else None)
number-cases false value a b h x e = cc e
number-cases true value a b h x e =
    elim (cases_Bool (nat_lt value a)) [
      | inl less ↦
          let below = ltb-true value a less in
          rw (lt-ltb value b (omega (arith, below, h))) (rw less at e)
      | inr more ↦ let none : None ≡ Some x = rw more at e in cc none
    ]

-- a number below a limit is one below a greater limit
number : (a b : ℕ) (text : List ℕ) → a ≤ b → Wider (number_below a text) (number_below b text)
unfolding number_below
number a b text h = number-cases (is_number text) (value_of text) a b h

-- the second limits are wider, and have a column for the rank where the first have one
pub record IsWithin (a b : Limits) : Type 0 where
  columns_alike : names_ranks b.ranks ≡ names_ranks a.ranks
  channels_within : a.channels ≤ b.channels
  ranks_within : a.ranks ≤ b.ranks
  groups_within : a.groups ≤ b.groups
  rows_within : a.rows ≤ b.rows
  columns_within : a.columns ≤ b.columns
  cores_within : a.cores ≤ b.cores

operand-same : (a b : Limits) (fields : List (List ℕ)) (k : ℕ) → IsWithin a b → operand b.ranks fields k ≡ operand a.ranks fields k
unfolding operand
operand-same a b fields k w = rw w.columns_alike refl

operand-number : (a b : Limits) (fields : List (List ℕ)) (k less more : ℕ) → IsWithin a b → less ≤ more → Wider (number_below less (operand a.ranks fields k)) (number_below more (operand b.ranks fields k))
operand-number a b fields k less more w h = rw (operand-same a b fields k w) (number less more (operand a.ranks fields k) h)

rank-by : (several : Bool) (text : List ℕ) (a b : ℕ) → a ≤ b → Wider (if several then number_below a text else Some 0) (if several then number_below b text else Some 0)
rank-by true text a b h x e = number a b text h x e
rank-by false text a b h x e = e

rank : (a b : Limits) (fields : List (List ℕ)) → IsWithin a b → Wider (rank_in a fields) (rank_in b fields)
unfolding rank_in
rank a b fields w = rw w.columns_alike (rank-by (names_ranks a.ranks) (text_at fields 3) a.ranks b.ranks w.ranks_within)

bank : (a b : Limits) (fields : List (List ℕ)) → IsWithin a b → Wider (bank_in a fields) (bank_in b fields)
unfolding bank_in
bank a b fields w =
    bind _ _ _ _ (rank a b fields w)
    (λ r. bind _ _ _ _ (operand-number a b fields 0 a.groups b.groups w w.groups_within)
    (λ g. bind _ _ _ _ (operand-number a b fields 1 4 4 w (omega arith))
    (λ p x e. e)))

source : (a b : Limits) (fields : List (List ℕ)) → IsWithin a b → Wider (source_in a fields) (source_in b fields)
unfolding source_in
source a b fields w =
    bind _ _ _ _ (operand-number a b fields 4 a.cores b.cores w w.cores_within)
    (λ c. bind _ _ _ _ (operand-number a b fields 5 number_limit number_limit w (omega arith))
    (λ n x e. e))

row-number : (a b : Limits) (fields : List (List ℕ)) → IsWithin a b → Wider (number_below a.rows (operand a.ranks fields 2)) (number_below b.rows (operand b.ranks fields 2))
row-number a b fields w = operand-number a b fields 2 a.rows b.rows w w.rows_within

column-number : (a b : Limits) (fields : List (List ℕ)) → IsWithin a b → Wider (number_below a.columns (operand a.ranks fields 3)) (number_below b.columns (operand b.ranks fields 3))
column-number a b fields w = operand-number a b fields 3 a.columns b.columns w w.columns_within

act : (a b : Limits) (fields : List (List ℕ)) → IsWithin a b → Wider (act_in a fields) (act_in b fields)
unfolding act_in
act a b fields w =
    bind _ _ _ _ (bank a b fields w)
    (λ p. bind _ _ _ _ (row-number a b fields w)
    (λ r. bind _ _ _ _ (source a b fields w)
    (λ c x e. rw (operand-same a b fields 3 w) e)))

rd : (a b : Limits) (fields : List (List ℕ)) → IsWithin a b → Wider (rd_in a fields) (rd_in b fields)
unfolding rd_in
rd a b fields w =
    bind _ _ _ _ (bank a b fields w)
    (λ p. bind _ _ _ _ (row-number a b fields w)
    (λ r. bind _ _ _ _ (column-number a b fields w)
    (λ k. bind _ _ _ _ (source a b fields w)
    (λ c x e. e))))

wr : (a b : Limits) (fields : List (List ℕ)) → IsWithin a b → Wider (wr_in a fields) (wr_in b fields)
unfolding wr_in
wr a b fields w =
    bind _ _ _ _ (bank a b fields w)
    (λ p. bind _ _ _ _ (row-number a b fields w)
    (λ r. bind _ _ _ _ (column-number a b fields w)
    (λ k. bind _ _ _ _ (source a b fields w)
    (λ c x e. e))))

pre : (a b : Limits) (fields : List (List ℕ)) → IsWithin a b → Wider (pre_in a fields) (pre_in b fields)
unfolding pre_in
pre a b fields w =
    bind _ _ _ _ (bank a b fields w)
    (λ p. bind _ _ _ _ (source a b fields w)
    (λ c x e. rw (operand-same a b fields 2 w, operand-same a b fields 3 w) e))

no-operands : (a b : Limits) (fields : List (List ℕ)) → IsWithin a b → has_no_operands b.ranks fields ≡ has_no_operands a.ranks fields
unfolding has_no_operands
no-operands a b fields w =
    rw (operand-same a b fields 0 w, operand-same a b fields 1 w, operand-same a b fields 2 w, operand-same a b fields 3 w, operand-same a b fields 4 w, operand-same a b fields 5 w) refl

prea : (a b : Limits) (fields : List (List ℕ)) → IsWithin a b → Wider (prea_in a fields) (prea_in b fields)
unfolding prea_in
prea a b fields w = bind _ _ _ _ (rank a b fields w) (λ r x e. rw (no-operands a b fields w) e)

ref : (a b : Limits) (fields : List (List ℕ)) → IsWithin a b → Wider (ref_in a fields) (ref_in b fields)
unfolding ref_in
ref a b fields w = bind _ _ _ _ (rank a b fields w) (λ r x e. rw (no-operands a b fields w) e)

either : {A : Type 0} (test : Bool) (o p q r : Option A) → Wider o q → Wider p r → Wider (if test then o else p) (if test then q else r)
either true o p q r h k = h
either false o p q r h k = k

command : (a b : Limits) (fields : List (List ℕ)) → IsWithin a b → Wider (command_in a fields) (command_in b fields)
unfolding command_in
command a b fields w =
    either (bytes_eq (text_at fields 2) (codes "ACT")) _ _ _ _ (act a b fields w)
    (either (bytes_eq (text_at fields 2) (codes "RD")) _ _ _ _ (rd a b fields w)
    (either (bytes_eq (text_at fields 2) (codes "WR")) _ _ _ _ (wr a b fields w)
    (either (bytes_eq (text_at fields 2) (codes "PRE")) _ _ _ _ (pre a b fields w)
    (either (bytes_eq (text_at fields 2) (codes "PREA")) _ _ _ _ (prea a b fields w)
    (either (bytes_eq (text_at fields 2) (codes "REF")) _ None _ None (ref a b fields w) (λ x e. e))))))

from : (a b : Limits) (fields : List (List ℕ)) → IsWithin a b → Wider (row_from a fields) (row_from b fields)
unfolding row_from
from a b fields w =
    bind _ _ _ _ (λ x e. e)
    (λ n. bind _ _ _ _ (number a.channels b.channels (text_at fields 1) w.channels_within)
    (λ k. bind _ _ _ _ (command a b fields w)
    (λ c x e. e)))

-- so does a whole record
row-wider : (a b : Limits) (fields : List (List ℕ)) → IsWithin a b → Wider (row_in a fields) (row_in b fields)
unfolding row_in
row-wider a b fields w = rw w.columns_alike (either (length fields == column_count a.ranks) (row_from a fields) None (row_from b fields) None (from a b fields w) (λ x e. e))

-- and several
pub rows-wider : (a b : Limits) (records : List (List (List ℕ))) (rows : List IssuedCommand) → IsWithin a b → map (row_in a) records ≡ map Some rows → map (row_in b) records ≡ map Some rows
rows-wider a b [] [] w e = refl
rows-wider a b [] (row ∷ rows) w e = cc e
rows-wider a b (fields ∷ records) [] w e = cc e
rows-wider a b (fields ∷ records) (row ∷ rows) w e = rw (row-wider a b fields w row (cc e), rows-wider a b records rows w (cc e)) refl

-- a header that has no column for the rank is none that has it
one-column-less : (header : List (List ℕ)) → is_header 1 header ≡ true → is_header 4 header ≡ false
unfolding is_header
one-column-less header h =
    elim (cases_Bool (length header == 9)) [
      | inl nine ↦
          let count = eqb-true (length header) 9 nine in
          let less : (length header == 10) ≡ false = ne_eqb (length header) 10 (λ e. omega (arith, e, count)) in
          rw less refl
      | inr other ↦ let none : false ≡ true = rw other at h in cc none
    ]

-- what is told by a header under a configuration
pub record Named (s : Config) (header : List (List ℕ)) : Type 0 where
  pub limits : Limits
  pub within : IsWithin (limits_of s) limits
  pub told : limits_told header ≡ Some limits

-- limits that are wide enough for the ranks of a configuration are so for its other numbers
is-within : (s : Config) (b : Limits) → names_ranks b.ranks ≡ names_ranks s.ranks → s.ranks ≤ b.ranks → b.channels ≡ 16 → b.groups ≡ 4 → b.rows ≡ 262144 → b.columns ≡ 1024 → b.cores ≡ 256
    → IsWithin (limits_of s) b
is-within s b alike ranks channels groups rows columns cores =
    let most_channels = s.machine_in_range.channels_in.0.1 in
    let most_groups = s.memory_in_range.groups_in.0.1 in
    let most_rows = s.memory_in_range.rows_in.0.1 in
    let most_columns = s.memory_in_range.columns_in.0.1 in
    let most_cores = s.machine_in_range.cores_in.1 in
    record {
      columns_alike = alike;
      channels_within = omega (arith, channels, most_channels);
      ranks_within = ranks;
      groups_within = omega (arith, groups, most_groups);
      rows_within = omega (arith, rows, most_rows);
      columns_within = omega (arith, columns, most_columns);
      cores_within = omega (arith, cores, most_cores);
    }

named-by : (s : Config) (header : List (List ℕ)) (several : Bool) → names_ranks s.ranks ≡ several → is_header s.ranks header ≡ true → Named s header
unfolding limits_told is_header operand
named-by s header true e h =
    let four : is_header 4 header ≡ true = rw e at h in
    record { limits = with_rank; within = is-within s with_rank (sym e) s.memory_in_range.ranks_in.0.1 refl refl refl refl refl; told = rw four refl }
named-by s header false e h =
    let one : is_header 1 header ≡ true = rw e at h in
    record { limits = without_rank; within = is-within s without_rank (sym e) (ltb-false 1 s.ranks e) refl refl refl refl refl; told = rw (one-column-less header one, one) refl }

-- a header under a configuration is one of a table under none
pub header-wider : (s : Config) (header : List (List ℕ)) → IsTrue (is_header s.ranks header) → Named s header
header-wider s header h = named-by s header (names_ranks s.ranks) refl h
