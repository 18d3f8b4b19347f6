-- What is read of the rows of a table, one after the other: it depends on these rows alone, and a fault is of the first
-- that is wrong.
use Rattle.std.proofs.Common.{◌≡◌, ◌+◌, ◌<◌, ◌≤◌, ◌∙◌, ◌⊎◌, ℕ, zero, suc, List, [], ◌∷◌, ◌++◌, length, take, Option, Some, None, Result, Ok, Err, refl, sym, ap, subst, arith, inl, inr, length-append}
use Rattle.std.proofs.lemmas.List.{take-take, take_at, length-take-le}
use Rattle.std.proofs.lemmas.Option.{slice_get_within}
use Rattle.std.specs.List.{slice_get}
use Rattle.sim_base.specs.declared.fault.Fault.{Fault}
use Rattle.sim_base.specs.declared.fault.Fault.TheVariants.{CheckRow}
use Rattle.sim_base.proofs.Lists.{get-take}
use Rattle.sim_base.specs.TraceText.{◌>>=◌}

-- TWO TABLES WITH THE SAME FIRST ROWS

pub agree_less : (m n : ℕ) (a b : List (List (List ℕ))) → m ≤ n → take n a ≡ take n b → take m a ≡ take m b
agree_less m n a b few same = sym (take-take m n a few) ∙ ap (take m) same ∙ take-take m n b few

pub agree_at : (n k : ℕ) (a b : List (List (List ℕ))) → k < n → take n a ≡ take n b → slice_get a k ≡ slice_get b k
agree_at n k a b l same = sym (get-take a n k l) ∙ ap (λ (t : List (List (List ℕ))). slice_get t k) same ∙ get-take b n k l

-- a record after others
pub get_after : (p : List (List (List ℕ))) (x : List (List ℕ)) (rest : List (List (List ℕ))) (k : ℕ) → length p ≡ k → slice_get (p ++ x ∷ rest) k ≡ Some x
get_after [] x rest zero n = refl
get_after [] x rest (suc k) n = absurd (omega (arith, n))
get_after (y ∷ p) x rest zero n = absurd (omega (arith, n))
get_after (y ∷ p) x rest (suc k) n = get_after p x rest k (omega (arith, n))

-- WHAT IS READ ONE AFTER THE OTHER

pub bind_ok : {A B : Type 0} (o : Result A Fault) (k : A → Result B Fault) (y : B) → (o >>= k) ≡ Ok y → (x : A) × (o ≡ Ok x) × (k x ≡ Ok y)
bind_ok (Ok x) k y h = (x, refl, h)
bind_ok (Err e) k y h = cc h

pub bind_err : {A B : Type 0} (o : Result A Fault) (k : A → Result B Fault) (e : Fault) → (o >>= k) ≡ Err e → (o ≡ Err e) ⊎ ((x : A) × (o ≡ Ok x) × (k x ≡ Err e))
bind_err (Ok x) k e h = inr (x, refl, h)
bind_err (Err f) k e h = let same : f ≡ e = cc h in inl (ap Err same)

pub bind_of : {A B : Type 0} (o : Result A Fault) (k : A → Result B Fault) (x : A) → o ≡ Ok x → (o >>= k) ≡ k x
bind_of o k x h = ap (λ (r : Result _ Fault). r >>= k) h

pub bind_fails : {A B : Type 0} (o : Result A Fault) (k : A → Result B Fault) (e : Fault) → o ≡ Err e → (o >>= k) ≡ Err e
bind_fails o k e h = ap (λ (r : Result _ Fault). r >>= k) h

-- a table with the same rows before these, in which they are read
pub record Filled {A : Type 0} (from to : ℕ) (f : List (List (List ℕ)) → Result A Fault) (r : List (List (List ℕ))) : Type 0 where
  pub table : List (List (List ℕ))
  pub agrees : take from table ≡ take from r
  pub size : to ≤ length table
  pub item : A
  pub reads : f table ≡ Ok item

-- the first row that is wrong: a table with the same rows before it is read, and none that has this one too
pub record Wrong {A : Type 0} (from to : ℕ) (f : List (List (List ℕ)) → Result A Fault) (r : List (List (List ℕ))) (e : Fault) : Type 0 where
  pub place : ℕ
  pub after : from ≤ place
  pub before : place < to
  pub fault : e ≡ CheckRow place
  pub table : List (List (List ℕ))
  pub agrees : take place table ≡ take place r
  pub size : to ≤ length table
  pub item : A
  pub reads : f table ≡ Ok item
  pub differs : (other : List (List (List ℕ))) (x : A) → f other ≡ Ok x → take (place + 1) other ≡ take (place + 1) r → ⊥

-- what is read of the rows from one up to another
pub record Read {A : Type 0} (from to : ℕ) (f : List (List (List ℕ)) → Result A Fault) : Type 0 where
  pub same : (r other : List (List (List ℕ))) (x : A) → f r ≡ Ok x → take to other ≡ take to r → f other ≡ Ok x
  pub fill : (r : List (List (List ℕ))) → from ≤ length r → Filled from to f r
  pub wrong : (r : List (List (List ℕ))) (e : Fault) → from ≤ length r → f r ≡ Err e → Wrong from to f r e

-- of one row
pub row_read : {A : Type 0} (from to : ℕ) → to ≡ from + 1 → (f : Option (List (List ℕ)) → Result A Fault) (line : List (List ℕ)) (item : A) → f (Some line) ≡ Ok item
    → ((o : Option (List (List ℕ))) (e : Fault) → f o ≡ Err e → e ≡ CheckRow from) → Read from to (λ r. f (slice_get r from))
row_read {A} from to next f line item good bad =
    let same : (r other : List (List (List ℕ))) (x : A) → f (slice_get r from) ≡ Ok x → take to other ≡ take to r → f (slice_get other from) ≡ Ok x =
    λ r other x reads agrees. ap f (agree_at to from other r (omega (arith, next)) agrees) ∙ reads in
    let fill : (r : List (List (List ℕ))) → from ≤ length r → Filled from to (λ t. f (slice_get t from)) r =
    λ r within.
    let size = length-take-le from r within in
    let long = length-append (take from r) (line ∷ []) in
    record {
      table = take from r ++ line ∷ [];
      agrees = take_at (take from r) (line ∷ []) from size;
      size = omega (arith, next, long, size);
      item = item;
      reads = ap f (get_after (take from r) line [] from size) ∙ good;
    } in
    record {
      same = same;
      fill = fill;
      wrong = λ r e within no.
          let filled = fill r within in
          record {
            place = from;
            after = omega arith;
            before = omega (arith, next);
            fault = bad (slice_get r from) e no;
            table = filled.table;
            agrees = filled.agrees;
            size = filled.size;
            item = filled.item;
            reads = filled.reads;
            differs = λ other x reads agrees.
                let back = same other r x reads (ap (λ k. take k r) next ∙ sym agrees ∙ ap (λ k. take k other) (sym next)) in
                let both : Ok x ≡ Err e = sym back ∙ no in
                cc both;
          };
    }

-- of a row that is there
pub record Row {A : Type 0} (from to : ℕ) (f : List (List (List ℕ)) → Result A Fault) : Type 0 where
  pub read : Read from to f
  pub long : (r : List (List (List ℕ))) (x : A) → f r ≡ Ok x → to ≤ length r

long-by : {A : Type 0} (from : ℕ) (f : Option (List (List ℕ)) → Result A Fault) (o : Option (List (List ℕ))) (x : A) → f None ≡ Err (CheckRow from) → f o ≡ Ok x → (line : List (List ℕ)) × (o ≡ Some line)
long-by from f None x none reads = let both : Err (CheckRow from) ≡ Ok x = sym none ∙ reads in cc both
long-by from f (Some line) x none reads = (line, refl)

pub row_there : {A : Type 0} (from to : ℕ) → to ≡ from + 1 → (f : Option (List (List ℕ)) → Result A Fault) (line : List (List ℕ)) (item : A) → f (Some line) ≡ Ok item
    → ((o : Option (List (List ℕ))) (e : Fault) → f o ≡ Err e → e ≡ CheckRow from) → f None ≡ Err (CheckRow from) → Row from to (λ r. f (slice_get r from))
row_there from to next f line item good bad none =
    record {
      read = row_read from to next f line item good bad;
      long = λ r x reads. let there = long-by from f (slice_get r from) x none reads in let within = slice_get_within r from there.0 there.1 in omega (arith, next, within);
    }

-- of a row, and then of others
pub then_read : {A B : Type 0} (from middle to : ℕ) (f : List (List (List ℕ)) → Result A Fault) (g : A → List (List (List ℕ)) → Result B Fault) → from ≤ middle → middle ≤ to
    → Row from middle f → ((x : A) → Read middle to (g x)) → Read from to (λ r. f r >>= (λ x. g x r))
then_read {A} {B} from middle to f g start end row next =
    let first = row.read in
    let both : (t : List (List (List ℕ))) (x : A) (y : B) → f t ≡ Ok x → g x t ≡ Ok y → (f t >>= (λ z. g z t)) ≡ Ok y =
    λ t x y one two. bind_of (f t) (λ z. g z t) x one ∙ two in
    record {
      same = λ r other y reads agrees.
          let parts = bind_ok (f r) (λ z. g z r) y reads in
          both other parts.0 y (first.same r other parts.0 parts.1 (agree_less middle to other r end agrees)) ((next parts.0).same r other y parts.2 agrees);
      fill = λ r within.
          let a = first.fill r within in
          let b = (next a.item).fill a.table a.size in
          record {
            table = b.table;
            agrees = agree_less from middle b.table a.table start b.agrees ∙ a.agrees;
            size = b.size;
            item = b.item;
            reads = both b.table a.item b.item (first.same a.table b.table a.item a.reads b.agrees) b.reads;
          };
      wrong = λ r e within no.
          elim (bind_err (f r) (λ z. g z r) e no) [
            | inl fails ↦
                let w = first.wrong r e within fails in
                let before = w.before in
                let b = (next w.item).fill w.table w.size in
                record {
                  place = w.place;
                  after = w.after;
                  before = omega (arith, before, end);
                  fault = w.fault;
                  table = b.table;
                  agrees = agree_less w.place middle b.table w.table (omega (arith, before)) b.agrees ∙ w.agrees;
                  size = b.size;
                  item = b.item;
                  reads = both b.table w.item b.item (first.same w.table b.table w.item w.reads b.agrees) b.reads;
                  differs = λ other y reads agrees. let parts = bind_ok (f other) (λ z. g z other) y reads in w.differs other parts.0 parts.1 agrees;
                }
            | inr goes ↦
                let x = goes.0 in
                let w = (next x).wrong r e (row.long r x goes.1) goes.2 in
                let after = w.after in
                record {
                  place = w.place;
                  after = omega (arith, after, start);
                  before = w.before;
                  fault = w.fault;
                  table = w.table;
                  agrees = w.agrees;
                  size = w.size;
                  item = w.item;
                  reads = both w.table x w.item (first.same r w.table x goes.1 (agree_less middle w.place w.table r after w.agrees)) w.reads;
                  differs = λ other y reads agrees.
                      let parts = bind_ok (f other) (λ z. g z other) y reads in
                      let back = first.same r other x goes.1 (agree_less middle (w.place + 1) other r (omega (arith, after)) agrees) in
                      let item : Ok parts.0 ≡ Ok x = sym parts.1 ∙ back in
                      let item_same : parts.0 ≡ x = cc item in
                      w.differs other y (subst (λ z. g z other ≡ Ok y) item_same parts.2) agrees;
                }
          ];
    }

-- what is made of what was read
pub map_read : {A B : Type 0} (from to : ℕ) (f : List (List (List ℕ)) → Result A Fault) (h : A → B) → Read from to f → Read from to (λ r. f r >>= (λ x. Ok (h x)))
map_read {A} {B} from to f h read =
    let made : (t : List (List (List ℕ))) (x : A) → f t ≡ Ok x → (f t >>= (λ z. Ok (h z))) ≡ Ok (h x) = λ t x reads. bind_of (f t) (λ z. Ok (h z)) x reads in
    record {
      same = λ r other y reads agrees.
          let parts = bind_ok (f r) (λ z. Ok (h z)) y reads in
          made other parts.0 (read.same r other parts.0 parts.1 agrees) ∙ parts.2;
      fill = λ r within.
          let a = read.fill r within in
          record { table = a.table; agrees = a.agrees; size = a.size; item = h a.item; reads = made a.table a.item a.reads };
      wrong = λ r e within no.
          elim (bind_err (f r) (λ z. Ok (h z)) e no) [
            | inl fails ↦
                let w = read.wrong r e within fails in
                record {
                  place = w.place;
                  after = w.after;
                  before = w.before;
                  fault = w.fault;
                  table = w.table;
                  agrees = w.agrees;
                  size = w.size;
                  item = h w.item;
                  reads = made w.table w.item w.reads;
                  differs = λ other y reads agrees. let parts = bind_ok (f other) (λ z. Ok (h z)) y reads in w.differs other parts.0 parts.1 agrees;
                }
            | inr goes ↦ let both = goes.2 in cc both
          ];
    }
