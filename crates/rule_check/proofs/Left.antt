-- One record after the other is taken from what a reader has left.
use Rattle.std.proofs.Common.{Bor, inl, ◌≡◌, ℕ, zero, suc, ◌+◌, ◌<◌, ◌≤◌, ◌∙◌, Bool, true, false, cond, List, [], ◌∷◌, length, Option, Some, None, refl, sym, ap, subst, arith}
use Rattle.csv.specs.Machine.{Read, next_record}
use Rattle.csv.specs.Reading.{Reached, ReadRecord, default_config, is_bom, records_from, records_next, strip_bom, took_first}
use Rattle.csv.specs.declared.parser.State.{State}
use Rattle.csv.specs.declared.parser.State.TheVariants as st
use Rattle.csv.specs.declared.reader.Reader.{Reader}
use Rattle.csv.proofs.ReadFacts.{rows-end, rows-more}
use Rattle.rule_check.specs.Left.{IsReading, Takes, bytes_left, left_of, records_after, records_of_left}
use Rattle.rule_check.specs.Verdict.{records_of}
use Rattle.rule_check.proofs.Records.{IsBetween, next-less}

-- what is read after the next record, by two readings that agree on it
same_next : (f g : State → List ℕ → List (List (List ℕ))) (s : State) (xs : List ℕ)
    → ((p : Read) → next_record default_config s [] [] xs ≡ Some p → f p.1 p.2 ≡ g p.1 p.2)
    → (o : Option Read) → next_record default_config s [] [] xs ≡ o → records_next f o ≡ records_next g o
same_next f g s xs h None e = refl
same_next f g s xs h (Some p) e = ap (λ (rs : List (List (List ℕ))). p.0 ∷ rs) (h p e)

-- more reads than bytes read no more records
fuel : (n m : ℕ) (s : State) (xs : List ℕ) → IsBetween s → length xs < n → length xs < m → records_from default_config n s xs ≡ records_from default_config m s xs
unfolding records_from
fuel zero m s xs b l k = absurd (omega arith)
fuel (suc n) zero s xs b l k = absurd (omega arith)
fuel (suc n) (suc m) s xs b l k =
    same_next (records_from default_config n) (records_from default_config m) s xs
    (λ p e. let less = next-less s xs p b e in fuel n m p.1 p.2 less.1 (omega (arith, less.0)) (omega (arith, less.0)))
    (next_record default_config s [] [] xs) refl

step_from : (n : ℕ) (s : State) (xs : List ℕ) (p : Read) → IsBetween s → length xs < n → next_record default_config s [] [] xs ≡ Some p
    → records_from default_config n s xs ≡ p.0 ∷ records_after p.1 p.2
unfolding records_from records_after
step_from zero s xs p b l e = absurd (omega arith)
step_from (suc n) s xs p b l e =
    let less = next-less s xs p b e in
    ap (records_next (records_from default_config n)) e
    ∙ ap (λ (rs : List (List (List ℕ))). p.0 ∷ rs) (fuel n (length p.2 + 1) p.1 p.2 less.1 (omega (arith, less.0)) (omega arith))

pub after_step : (s : State) (xs : List ℕ) (p : Read) → IsBetween s → next_record default_config s [] [] xs ≡ Some p → records_after s xs ≡ p.0 ∷ records_after p.1 p.2
unfolding records_after
after_step s xs p b e = step_from (length xs + 1) s xs p b (omega arith) e

none_from : (n : ℕ) (s : State) (xs : List ℕ) → next_record default_config s [] [] xs ≡ None → records_from default_config n s xs ≡ []
unfolding records_from
none_from zero s xs e = refl
none_from (suc n) s xs e = ap (records_next (records_from default_config n)) e

pub after_none : (s : State) (xs : List ℕ) → next_record default_config s [] [] xs ≡ None → records_after s xs ≡ []
unfolding records_after
after_none s xs e = none_from (length xs + 1) s xs e

few_next : (f : State → List ℕ → List (List (List ℕ))) (s : State) (xs : List ℕ) (size : ℕ)
    → ((p : Read) → next_record default_config s [] [] xs ≡ Some p → length (f p.1 p.2) + 1 ≤ size)
    → (o : Option Read) → next_record default_config s [] [] xs ≡ o → length (records_next f o) ≤ size
few_next f s xs size h None e = omega arith
few_next f s xs size h (Some p) e =
    let few = h p e in
    omega (arith, few)

length_from : (n : ℕ) (s : State) (xs : List ℕ) → IsBetween s → length xs < n → length (records_from default_config n s xs) ≤ length xs
unfolding records_from
length_from zero s xs b l = absurd (omega arith)
length_from (suc n) s xs b l =
    few_next (records_from default_config n) s xs (length xs)
    (λ p e.
    let less = next-less s xs p b e in
    let rest = length_from n p.1 p.2 less.1 (omega (arith, less.0)) in
    omega (arith, less.0, rest))
    (next_record default_config s [] [] xs) refl

-- each record takes a byte and more
pub length_after : (s : State) (xs : List ℕ) → IsBetween s → length (records_after s xs) ≤ length xs
unfolding records_after
length_after s xs b = length_from (length xs + 1) s xs b (omega arith)

without : (b : Bool) (xs ys : List ℕ) (n : ℕ) → length xs ≤ n → length ys ≤ n → length (cond b xs ys) ≤ n
without true xs ys n h k = h
without false xs ys n h k = k

pub length_strip : (xs : List ℕ) → length (strip_bom xs) ≤ length xs
unfolding strip_bom
length_strip [] = omega arith
length_strip (a ∷ []) = omega arith
length_strip (a ∷ b ∷ []) = omega arith
length_strip (a ∷ b ∷ c ∷ rest) = without (is_bom a b c) rest (a ∷ b ∷ c ∷ rest) (length (a ∷ b ∷ c ∷ rest)) (omega arith) (omega arith)

-- what is left of a reader, where its bytes are known
pub left_is : (reader : Reader (Bor (List ℕ))) (text : List ℕ) → bytes_left reader ≡ Some text → left_of reader ≡ records_after reader.state text
unfolding left_of
left_is reader text e = ap (records_of_left reader.state) e

-- a record is taken
pub taken : (a b : Reader (Bor (List ℕ))) (fields : List (List ℕ)) → IsReading a → took_first b ≡ true → ReadRecord (λ (s : Bor (List ℕ)). Some s.now) a b true fields
    → IsReading b × (left_of a ≡ fields ∷ left_of b)
unfolding Reached
taken a b fields reading first read =
    let m = rows-more (λ (s : Bor (List ℕ)). Some s.now) a b fields default_config a.state reading.text reading.text [] reading.config reading.source (refl, refl) read in
    let p = m.2.0 in
    let less = next-less a.state reading.text p reading.between m.2.1 in
    let state : p.1 ≡ b.state = m.2.3.0 in
    let text : p.2 ≡ m.0 = m.2.3.1 in
    let between : IsBetween b.state = subst IsBetween state less.1 in (
      record {
        trim = read.3 ∙ reading.trim;
        ready = inl first;
        config = read.2 ∙ reading.config;
        text = m.0;
        source = m.1;
        between = between;
      },
      left_is a reading.text reading.source
          ∙ after_step a.state reading.text p reading.between m.2.1
          ∙ ap (λ (f : List (List ℕ)). f ∷ records_after p.1 p.2) (sym m.2.2)
          ∙ ap (λ (s : State). fields ∷ records_after s p.2) state
          ∙ ap (λ (xs : List ℕ). fields ∷ records_after b.state xs) text
          ∙ ap (λ (rs : List (List (List ℕ))). fields ∷ rs) (sym (left_is b m.0 m.1)),
    )

-- no record is left
pub none_left : (a b : Reader (Bor (List ℕ))) (fields : List (List ℕ)) → IsReading a → ReadRecord (λ (s : Bor (List ℕ)). Some s.now) a b false fields → left_of a ≡ []
none_left a b fields reading read =
    left_is a reading.text reading.source
    ∙ after_none a.state reading.text (rows-end (λ (s : Bor (List ℕ)). Some s.now) a b fields default_config reading.text reading.config reading.source read)

-- the next record is taken, or there is none
pub takes_next : (a b : Reader (Bor (List ℕ))) (found : Bool) (fields : List (List ℕ)) → IsReading a → took_first b ≡ true
    → ReadRecord (λ (s : Bor (List ℕ)). Some s.now) a b found fields → Takes a found fields b
takes_next a b true fields reading first read = taken a b fields reading first read
takes_next a b false fields reading first read = none_left a b fields reading read

-- at first all records of a table are left
pub all_left : (reader : Reader (Bor (List ℕ))) (table : List ℕ) → bytes_left reader ≡ Some (strip_bom table) → reader.state ≡ st.StartRecord → left_of reader ≡ records_of table
unfolding records_after
all_left reader table e state = left_is reader (strip_bom table) e ∙ ap (λ (s : State). records_after s (strip_bom table)) state

-- there are no more of them than bytes
pub few_records : (table : List ℕ) → length (records_of table) ≤ length table
unfolding records_after
few_records table =
    let some = length_after st.StartRecord (strip_bom table) refl in
    let short = length_strip table in
    omega (arith, some, short)
