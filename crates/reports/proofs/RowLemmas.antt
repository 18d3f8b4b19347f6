-- What `csv` makes of a line, and what a writer and the rows that wait for it hold then.
use Rattle.std.proofs.Common.{◌≡◌, ℕ, ◌<◌, List, [], ◌∷◌, ◌++◌, length, codes, Option, None, Some, Result, Ok, Err, OnOk, refl, sym, ap, subst, ◌∙◌, arith, append_assoc}
use Rattle.std.proofs.KnownBytes.{Appends-kept, Appends-nil, Appends-trans, append_known-grown}
use Rattle.std.proofs.lemmas.Bool.{ne_eqb}
use Rattle.std.proofs.lemmas.List.{append-nil}
use Rattle.std.specs.Io.KnownBytes.{Appends, Keeps, append_known}
use Rattle.std.specs.List.{join_with_byte}
use Rattle.csv.specs.Writing.{fields_text, is_blank}
use Rattle.csv.specs.Writing as csv
use Rattle.reports.specs.Rows.{comma, plain_writer, row_text}

-- a record of one field that is not empty
pub row_text-plain : (text : List ℕ) → 0 < length text → csv.row_text plain_writer (text ∷ []) ≡ text ++ codes "\n"
unfolding fields_text is_blank
row_text-plain [] some = absurd (omega arith)
row_text-plain (byte ∷ rest) some = rw (ne_eqb (length (byte ∷ rest)) 0 (λ none. omega arith)) (ap (λ t. t ++ 10 ∷ []) (append-nil (byte ∷ rest)))

-- a row waits behind a block of others, where what waited may have moved before
pub row-added : {Before Whole : Type 0} (known new : Option (List ℕ)) (front block row : List ℕ)
    → (Whole → Before × Keeps known (append_known new (front ++ block))) → Whole → Before × Appends known (append_known new (front ++ (block ++ row))) row
row-added known new front block row kept whole =
    let before = kept whole in
    (before.0, append_known-grown known new (front ++ block) (front ++ (block ++ row)) row before.1 (sym (append_assoc front block row)))

-- what waits before a block of no row
pub emptied : (front block waits : List ℕ) → block ≡ [] → front ++ block ≡ waits → front ≡ waits
emptied front block waits none is = sym (append-nil front) ∙ ap (λ t. front ++ t) (sym none) ∙ is

-- all that waited is written, and goes out with it
pub held-out : {T E : Type 0} (r : Result T E) (old new : Option (List ℕ)) (front waits : List ℕ) → front ≡ waits → OnOk r (Appends old new front) → OnOk r (Keeps (append_known old waits) new)
held-out (Ok x) None new front waits is more = tt
held-out (Ok x) (Some known) None front waits is more = absurd more
held-out (Ok x) (Some known) (Some all) front waits is more = more ∙ ap (λ t. known ++ t) is
held-out (Err e) old new front waits is more = tt

-- and nothing waits then
pub held-none : {T E : Type 0} (r : Result T E) (old new : Option (List ℕ)) (rest : List ℕ) → rest ≡ [] → OnOk r (Keeps old new) → OnOk r (Keeps old (append_known new rest))
held-none (Ok x) None new rest none kept = tt
held-none (Ok x) (Some known) None rest none kept = absurd kept
held-none (Ok x) (Some known) (Some all) rest none kept = ap (λ t. all ++ t) none ∙ append-nil all ∙ kept
held-none (Err e) old new rest none kept = tt

-- a line that has all fields of a row, and its end
pub line-row : (fields : List (List ℕ)) → join_with_byte comma fields ++ codes "\n" ≡ row_text fields
unfolding row_text
line-row fields = refl

-- no row waits when a table begins
held-first : (known new : Option (List ℕ)) (waits text : List ℕ) → waits ≡ [] → Appends (append_known known waits) new text → Appends known new text
held-first None new waits text none more = tt
held-first (Some x) None waits text none more = absurd more
held-first (Some x) (Some y) waits text none more = more ∙ ap (λ t. t ++ text) (ap (λ t. x ++ t) none ∙ append-nil x)

-- what is added to a table that begins, and sent, is written
pub held-sent : {T E Before Whole : Type 0} (r : Result T E) (known mid new : Option (List ℕ)) (waits text : List ℕ) → waits ≡ []
    → (Whole → Before × Appends (append_known known waits) mid text) → OnOk r (Whole × Keeps mid new) → OnOk r (Appends known new text)
held-sent (Ok x) known mid new waits text none more sent = Appends-kept known mid new text (held-first known mid waits text none ((more sent.0).1)) sent.1
held-sent (Err e) known mid new waits text none more sent = tt

-- what is added after other rows
pub added-more : {A B C : Type 0} (old mid new : Option (List ℕ)) (first more : List ℕ)
    → (B → A × Appends old mid first) → (C → B × Appends mid new more) → C → A × Appends old new (first ++ more)
added-more old mid new first more before after whole =
    let last = after whole in
    let was = before last.0 in (was.0, Appends-trans old mid new first more was.1 last.1)

-- nothing is added
pub nothing_added : {A : Type 0} (old : Option (List ℕ)) (text : List ℕ) → text ≡ [] → A → A × Appends old old text
nothing_added old text none whole = (whole, subst (Appends old old) (sym none) (Appends-nil old))

-- on Ok, no row was lost, and what waited goes out
pub whole-sent : {T E Whole : Type 0} (r : Result T E) (old new : Option (List ℕ)) → Whole → OnOk r (Keeps old new) → OnOk r (Whole × Keeps old new)
whole-sent (Ok x) old new whole kept = (whole, kept)
whole-sent (Err e) old new whole kept = tt
