-- Texts that begin with a line of the usual form.
use Rattle.std.proofs.Common.{Option, Bor, ◌≡◌, ℕ, ◌+◌, ◌*◌, ◌^◌, ◌<◌, ◌≤◌, List, [], ◌∷◌, ◌++◌, length, length-append, get_or, take, Some, None, refl, sym, ap, ◌∙◌, arith, append_assoc, inl, inr, codes}
use Rattle.std.proofs.lemmas.List.{append-nil, length-take-le}
use Rattle.std.proofs.lemmas.List.Splits.{slice_split_at}
use Rattle.std.proofs.lemmas.Int.Digits.{digits_more, digits_value_more, digits_value-lt}
use Rattle.std.proofs.Math.Nat.{pow-le-pow_right}
use Rattle.std.specs.Char.{digit_value}
use Rattle.std.specs.Option.{IfSome}
use Rattle.std.specs.Str.Parse.{AllDigits, digits_value}
use Rattle.sim_base.specs.TraceGrammar.{WritesNumber, JoinsNumbers}
use Rattle.sim_base.specs.TraceText.{is_line_feed, lines_of}
use Rattle.cpu_trace.specs.Usual.{BeginsWithDigits, BeginsWithToken, BeginsWithLine}
use Rattle.cpu_trace.proofs.GrammarLemmas.{line_entries-meant}
use Rattle.cpu_trace.proofs.Meaning.{no_line_feed, joined-of_line}

-- A digit more: what it is added to has room for it, and the digits stay digits.
pub record IsOneMore (radix most : ℕ) (text : List ℕ) (len number digit : ℕ) : Type 0 where
  pub room : number * radix + digit < 2 ^ 64
  pub all_digits : AllDigits radix (take (len + 1) text)
  pub value : number * radix + digit ≡ digits_value radix (take (len + 1) text)

pub one_more : (radix most : ℕ) (text : List ℕ) (len number byte digit : ℕ) → 2 ≤ radix → radix ^ most ≤ 2 ^ 64 → len < most → len < length text → AllDigits radix (take len text) → number ≡ digits_value radix (take len text) → byte ≡ get_or text len 0 → (digit_value byte < radix) × (digit ≡ digit_value byte) → IsOneMore radix most text len number digit
one_more radix most text len number byte digit low room below inside all is at h =
    let here : digit_value (get_or text len 0) < radix = rw (← at) h.0 in
    let digits = digits_more radix text len inside all here in
    let value : number * radix + digit ≡ digits_value radix (take (len + 1) text) = rw (digits_value_more radix text len inside, ← at, ← is, h.1) refl in
    let small = digits_value-lt radix (take (len + 1) text) digits in
    let long : length (take (len + 1) text) ≡ len + 1 = length-take-le (len + 1) text (omega (arith, inside)) in
    let power : radix ^ length (take (len + 1) text) ≤ radix ^ most = rw long (pow-le-pow_right {n = radix} (omega (arith, low)) (omega (arith, below))) in
    record { room = omega (arith, value, small, power, room); all_digits = digits; value = value }

-- a mark and the digits behind it are a token
marked-token : (text digits rest : List ℕ) (number : ℕ) → text ≡ 48 ∷ 120 ∷ digits → BeginsWithDigits 16 digits number rest → BeginsWithToken text number rest
marked-token text digits rest number e h =
    record {
      token = 48 ∷ 120 ∷ h.digits;
      is_number = inr (record { mark = codes "0x"; digits = h.digits; is_mark = inl refl; parts = refl; are_digits = h.are_digits });
      parts = e ∙ ap (λ xs. 48 ∷ 120 ∷ xs) h.parts;
    }

pub marked-split : (text digits : List ℕ) (split : Option (ℕ × Bor (List ℕ))) → text ≡ 48 ∷ 120 ∷ digits → IfSome split (λ parts. BeginsWithDigits 16 digits parts.0 parts.1.now) → IfSome split (λ parts. BeginsWithToken text parts.0 parts.1.now)
marked-split text digits None e h = tt
marked-split text digits (Some parts) e h = marked-token text digits parts.1.now parts.0 e h

-- a token behind a space at the end of a line, and one that has more behind it
last-joined : (token : List ℕ) (number : ℕ) → WritesNumber token number → JoinsNumbers (32 ∷ token) (number ∷ [])
last-joined token number h =
    ([], record { gap = 32 ∷ []; token = token; is_gap = refl; is_number = h; is_apart = λ some. absurd (omega (arith, some)); parts = ap (λ xs. 32 ∷ xs) (sym (append-nil token)) }, refl)

inner-joined : (token rest : List ℕ) (number : ℕ) (numbers : List ℕ) → WritesNumber token number → JoinsNumbers (32 ∷ rest) numbers → JoinsNumbers (32 ∷ token ++ 32 ∷ rest) (number ∷ numbers)
inner-joined token rest number numbers h k =
    (32 ∷ rest, record { gap = 32 ∷ []; token = token; is_gap = refl; is_number = h; is_apart = λ some. refl; parts = refl }, k)

first-joined : (token rest : List ℕ) (number : ℕ) (numbers : List ℕ) → WritesNumber token number → JoinsNumbers (32 ∷ rest) numbers → JoinsNumbers (token ++ 32 ∷ rest) (number ∷ numbers)
first-joined token rest number numbers h k =
    (32 ∷ rest, record { gap = []; token = token; is_gap = refl; is_number = h; is_apart = λ some. refl; parts = refl }, k)

-- a line that joins numbers, and then a line feed
lines-joined : (line rest : List ℕ) (numbers : List ℕ) → JoinsNumbers line numbers → lines_of (line ++ 10 ∷ rest) ≡ line ∷ lines_of rest
unfolding lines_of
lines-joined line rest numbers h = slice_split_at is_line_feed line 10 rest (no_line_feed line (joined-of_line line numbers h)) refl

-- two tokens with a space between them and a line feed behind them
pub two-usual : (text r s u v : List ℕ) (plain read : ℕ) → BeginsWithToken text plain r → r ≡ 32 ∷ s → BeginsWithToken s read u → u ≡ 10 ∷ v → BeginsWithLine text (record { plain = plain; read = read; write = None }) v
two-usual text r s u v plain read a e b f =
    let line = a.token ++ 32 ∷ b.token in
    let joined = first-joined a.token b.token plain (read ∷ []) a.is_number (last-joined b.token read b.is_number) in
    let tail : s ≡ b.token ++ 10 ∷ v = b.parts ∙ ap (λ xs. b.token ++ xs) f in
    let whole : text ≡ line ++ 10 ∷ v = a.parts ∙ ap (λ xs. a.token ++ xs) (e ∙ ap (λ xs. 32 ∷ xs) tail) ∙ sym (append_assoc a.token (32 ∷ b.token) (10 ∷ v)) in
    record {
      line = line;
      has_numbers = line_entries-meant line _ (record { numbers = plain ∷ read ∷ []; joined = joined; are_entries = refl });
      parts = ap lines_of whole ∙ lines-joined line v (plain ∷ read ∷ []) joined;
    }

-- three tokens
pub three-usual : (text r s u v w x : List ℕ) (plain read write : ℕ) → BeginsWithToken text plain r → r ≡ 32 ∷ s → BeginsWithToken s read u → u ≡ 32 ∷ v → BeginsWithToken v write w → w ≡ 10 ∷ x → BeginsWithLine text (record { plain = plain; read = read; write = Some write }) x
three-usual text r s u v w x plain read write a e b f d g =
    let back = b.token ++ 32 ∷ d.token in
    let line = a.token ++ 32 ∷ back in
    let joined = first-joined a.token back plain (read ∷ write ∷ []) a.is_number (inner-joined b.token d.token read (write ∷ []) b.is_number (last-joined d.token write d.is_number)) in
    let third : v ≡ d.token ++ 10 ∷ x = d.parts ∙ ap (λ xs. d.token ++ xs) g in
    let second : s ≡ back ++ 10 ∷ x = b.parts ∙ ap (λ xs. b.token ++ xs) (f ∙ ap (λ xs. 32 ∷ xs) third) ∙ sym (append_assoc b.token (32 ∷ d.token) (10 ∷ x)) in
    let whole : text ≡ line ++ 10 ∷ x = a.parts ∙ ap (λ xs. a.token ++ xs) (e ∙ ap (λ xs. 32 ∷ xs) second) ∙ sym (append_assoc a.token (32 ∷ back) (10 ∷ x)) in
    record {
      line = line;
      has_numbers = line_entries-meant line _ (record { numbers = plain ∷ read ∷ write ∷ []; joined = joined; are_entries = refl });
      parts = ap lines_of whole ∙ lines-joined line x (plain ∷ read ∷ write ∷ []) joined;
    }

-- what follows a token is no longer than the text
token-no_longer : (text : List ℕ) (number : ℕ) (rest : List ℕ) → BeginsWithToken text number rest → length rest ≤ length text
token-no_longer text number rest h = omega (arith, ap length h.parts, length-append h.token rest)

-- what follows two tokens, or three, and a line feed is shorter
pub two-shorter : (text r s u v : List ℕ) (plain read : ℕ) → BeginsWithToken text plain r → r ≡ 32 ∷ s → BeginsWithToken s read u → u ≡ 10 ∷ v → length v < length text
two-shorter text r s u v plain read a e b f =
    let first = token-no_longer text plain r a in
    let second = token-no_longer s read u b in
    omega (arith, first, second, ap length e, ap length f)

pub three-shorter : (text r s u v w x : List ℕ) (plain read write : ℕ) → BeginsWithToken text plain r → r ≡ 32 ∷ s → BeginsWithToken s read u → u ≡ 32 ∷ v → BeginsWithToken v write w → w ≡ 10 ∷ x → length x < length text
three-shorter text r s u v w x plain read write a e b f d g =
    let first = token-no_longer text plain r a in
    let second = two-shorter s u v w x read write b f d g in
    omega (arith, first, second, ap length e)
