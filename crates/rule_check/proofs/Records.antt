-- A record is read from what is left of a text, and no record is begun after it.
use Rattle.std.proofs.Common.{◌≡◌, ℕ, ◌<◌, ◌≤◌, ◌∙◌, ◌==◌, Bool, true, false, cond, List, [], ◌∷◌, ◌++◌, length, Option, Some, None, refl, sym, subst, arith}
use Rattle.csv.specs.Machine.{Read, next_record, step, in_field, start_field, start_record, is_end, ends_at_end, ends_with, after_end, fields_after, field_after}
use Rattle.csv.specs.Reading.{default_config}
use Rattle.csv.specs.declared.parser.State.{State}
use Rattle.csv.specs.declared.parser.State.TheVariants as st
use Rattle.csv.specs.declared.parser.Action.{Action}
use Rattle.csv.specs.declared.parser.Action.TheVariants as act
use Rattle.csv.specs.declared.parser.Terminator.TheVariants as term

-- in this state no record is begun
abbrev pub IsBetween : State → Type 0
IsBetween s = ends_at_end s ≡ false

-- a step that ends a record leaves none begun
record Fine (x : State × Action) : Type 0 where
  holds : is_end x.1 ≡ true → IsBetween x.0

goes_on : (s : State) (a : Action) → is_end a ≡ false → Fine (s, a)
goes_on s a h = record { holds = λ e. cc (sym h ∙ e) }

either : (b : Bool) (x y : State × Action) → Fine x → Fine y → Fine (cond b x y)
either true x y f g = f
either false x y f g = g

after-between : (b : Bool) → IsBetween (cond b st.AfterCr st.StartRecord)
after-between true = refl
after-between false = refl

in_field-fine : (c : ℕ) → Fine (in_field default_config c)
in_field-fine c =
    either (c == 44) (st.StartField, act.EndField) (cond (ends_with term.CRLF c) (after_end term.CRLF c, act.EndRecord) (st.InField, act.Copy)) (goes_on st.StartField act.EndField refl)
    (either (ends_with term.CRLF c) (after_end term.CRLF c, act.EndRecord) (st.InField, act.Copy) (record { holds = λ e. after-between (c == 13) }) (goes_on st.InField act.Copy refl))

start_field-fine : (c : ℕ) → Fine (start_field default_config c)
start_field-fine c = either (c == 34) (st.InQuoted, act.Skip) (in_field default_config c) (goes_on st.InQuoted act.Skip refl) (in_field-fine c)

start_record-fine : (c : ℕ) → Fine (start_record default_config c)
start_record-fine c = either (ends_with term.CRLF c) (st.StartRecord, act.Skip) (start_field default_config c) (goes_on st.StartRecord act.Skip refl) (start_field-fine c)

step-fine : (s : State) (c : ℕ) → Fine (step default_config s c)
step-fine st.StartRecord c = start_record-fine c
step-fine st.StartField c = start_field-fine c
step-fine st.InField c = in_field-fine c
step-fine st.InQuoted c = either (c == 34) (st.AfterQuote, act.Skip) (st.InQuoted, act.Copy) (goes_on st.AfterQuote act.Skip refl) (goes_on st.InQuoted act.Copy refl)
step-fine st.InEscape c = goes_on st.InQuoted act.Copy refl
step-fine st.AfterQuote c = either (c == 34) (st.InQuoted, act.Copy) (in_field default_config c) (goes_on st.InQuoted act.Copy refl) (in_field-fine c)
step-fine st.InComment c = either (c == 10) (st.StartRecord, act.Skip) (st.InComment, act.Skip) (goes_on st.StartRecord act.Skip refl) (goes_on st.InComment act.Skip refl)
step-fine st.AfterCr c = either (c == 10) (st.StartRecord, act.Skip) (start_record default_config c) (goes_on st.StartRecord act.Skip refl) (start_record-fine c)

-- a record leaves at most so much of the text, and none is begun after it
record Leaves (size : ℕ) (p : Read) : Type 0 where
  less : length p.2 ≤ size
  between : IsBetween p.1

one_step : (b : Bool) (q : Read) (o : Option Read) (p : Read) (n : ℕ) → (b ≡ true → Leaves n q) → (o ≡ Some p → Leaves n p) → cond b (Some q) o ≡ Some p → Leaves n p
one_step true q o p n f g e = let same : q ≡ p = cc e in subst (Leaves n) same (f refl)
one_step false q o p n f g e = g e

next-leaves : (s : State) (fields : List (List ℕ)) (field xs : List ℕ) (p : Read) → next_record default_config s fields field xs ≡ Some p → Leaves (length xs) p
unfolding next_record
next-leaves s fields field [] p h =
    one_step (ends_at_end s) (fields ++ (field ∷ []), st.StartRecord, []) None p 0 (λ e. record { less = omega arith; between = refl }) (λ e. cc e) h
next-leaves s fields field (c ∷ rest) p h =
    let a = (step default_config s c).1 in
    let s2 = (step default_config s c).0 in
    one_step (is_end a) (fields_after a fields field, s2, rest) (next_record default_config s2 (fields_after a fields field) (field_after a c field) rest) p (length (c ∷ rest))
    (λ e. record { less = omega arith; between = (step-fine s c).holds e })
    (λ e. let l = next-leaves s2 (fields_after a fields field) (field_after a c field) rest p e in record { less = omega (arith, l.less); between = l.between })
    h

pub next-less : (s : State) (xs : List ℕ) (p : Read) → IsBetween s → next_record default_config s [] [] xs ≡ Some p → (length p.2 < length xs) × IsBetween p.1
unfolding next_record
next-less s [] p b h = cc (rw b at h)
next-less s (c ∷ rest) p b h =
    let a = (step default_config s c).1 in
    let s2 = (step default_config s c).0 in
    let l = one_step (is_end a) (fields_after a [] [], s2, rest) (next_record default_config s2 (fields_after a [] []) (field_after a c []) rest) p (length rest)
    (λ e. record { less = omega arith; between = (step-fine s c).holds e })
    (next-leaves s2 (fields_after a [] []) (field_after a c []) rest p) h in
    (omega (arith, l.less), l.between)
