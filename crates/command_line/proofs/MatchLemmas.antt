-- What the matches of a parse give.
use Rattle.std.proofs.Common.{◌≡◌, ℕ, Option, Some, None, Ok, refl}
use Rattle.std.specs.Str.Parse.{ParsesUnsigned, ExplainsUnsignedError, HasUnsignedDigitsIfOk}
use Rattle.std.specs.declared.num.ParseIntError.{ParseIntError}
use Rattle.std.proofs.lemmas.Result.{OkIff-at_ok}
use Rattle.std.specs.Prelude.{IfSome, List, slice_get, find, option_and_then}
use Rattle.std.specs.Str.{bytes_eq}
use Rattle.clap.specs.Walk.{row_text}
use Rattle.clap.specs.Words.{ReadsOne, Row, Text, first_of, one_of}
use Rattle.command_line.specs.Ask.{IsCount, IsCountText, IsCountOr, IsNoneOrCount}

-- a text as `u64` reads it
abbrev pub Reads : Text → Option ℕ → Type 0
Reads t r = ReadsOne {T = ℕ} {E = ParseIntError} (λ bs x. ParsesUnsigned 64 10 bs x × ExplainsUnsignedError 10 bs x × HasUnsignedDigitsIfOk bs x) t r

-- a number that was read is that of its text
pub count_read : (o : Option Text) (r : Option ℕ) → (o ≡ None → r ≡ None) → ((t : Text) → o ≡ Some t → Reads t r) → IfSome r (IsCount o)
count_read o None none value = tt
count_read None (Some n) none value = let e = none refl in cc
count_read (Some t) (Some n) none value = OkIff-at_ok {T = ℕ} {E = ParseIntError} (Ok n) _ _ n (value t refl).0 refl

-- where none was read, there is no text, or it is no number
pub count_missing : (o : Option Text) (r : Option ℕ) → ((t : Text) → o ≡ Some t → Reads t r) → r ≡ None → IsCountText o → ⊥
count_missing None r value is h = h
count_missing (Some t) r value is h = let read = rw is at (value t refl) in read.1.0 h

row_without : (o : Option Row) → option_and_then (λ (r : Row). slice_get r.values 0) o ≡ None → option_and_then row_text o ≡ None
row_without None none = refl
row_without (Some r) none = rw none refl

row_with : (o : Option Row) (t : Text) → option_and_then (λ (r : Row). slice_get r.values 0) o ≡ Some t → (IsCountText (option_and_then row_text o) → ⊥) → IsNoneOrCount (option_and_then row_text o) → ⊥
row_with None t some bad h = cc
row_with (Some r) t some bad h = let not_count = rw some at bad in not_count (rw some at h)

-- where there is no text, the number is the one that stands for it
pub count_absent : (id : Text) (rows : List Row) (absent : ℕ) → first_of id rows ≡ None → IsCountOr absent (one_of id rows) absent
count_absent id rows absent none = rw (row_without (find (λ r. bytes_eq r.id id) rows) none) refl

-- where there is one, it must be a number
pub count_wanted : (id : Text) (rows : List Row) (t : Text) → first_of id rows ≡ Some t → (IsCountText (one_of id rows) → ⊥) → IsNoneOrCount (one_of id rows) → ⊥
count_wanted id rows t some bad h = row_with (find (λ r. bytes_eq r.id id) rows) t some bad h

-- a number that is there is that of its text
pub count_there : (o : Option Text) (absent : ℕ) (r : Option ℕ) → IfSome r (IsCount o) → IfSome r (IsCountOr absent o)
count_there o absent None h = tt
count_there None absent (Some n) h = absurd h
count_there (Some t) absent (Some n) h = h
