-- Texts that grow.
use Rattle.std.specs.Prelude.{Result, Ok, Err, IfOk, false, String, string_bytes, codes}
use Rattle.std.specs.List.{repeat}
use Rattle.std.specs.Result.{OkIff}
use Rattle.std.proofs.Common.{◌≡◌, ℕ, zero, suc, ◌+◌, ◌∷◌, ◌-◌, List, [], ◌++◌, length, refl, sym, ap, ap₂, subst, ◌∙◌, arith, append_assoc, append-nil, length-append}
use Rattle.std.specs.declared.alloc.Global.{Global}
use Rattle.std.specs.declared.alloc.AllocError.{AllocError}
use Rattle.measures.specs.Texts.{IsPut, Puts, PutsWords, GoesOnWithRoom, flush_right}
use Rattle.measures.specs.declared.text_builder.TextBuilder.{TextBuilder}

-- what was put may be said in other words
pub puts_as : {A B : List ℕ → Type 0} {a b : TextBuilder} → ((x : List ℕ) → A x → B x) → Puts A a b → Puts B a b
puts_as {A} {B} {a} {b} weaker put = record {
  put = λ going.
      let is : IsPut A a b = put.put going in
      record { before = is.before; more = is.more; is = weaker is.more is.is; text_is = is.text_is };
}

pub words_as : {old-words words : List ℕ} {a b : TextBuilder} → old-words ≡ words → PutsWords old-words a b → PutsWords words a b
words_as same put = puts_as (λ x is. is ∙ same) put

-- two texts were put, one behind the other
pub puts_both : {A B C : List ℕ → Type 0} {a b c : TextBuilder} → ((x y : List ℕ) → A x → B y → C (x ++ y)) → Puts A a b → Puts B b c → Puts C a c
puts_both {A} {B} {C} {a} {b} {c} join first second = record {
  put = λ going.
      let later : IsPut B b c = second.put going in
      let sooner : IsPut A a b = first.put later.before in
      record {
        before = sooner.before;
        more = sooner.more ++ later.more;
        is = join sooner.more later.more sooner.is later.is;
        text_is = later.text_is ∙ ap (λ t. t ++ later.more) sooner.text_is ∙ append_assoc (string_bytes a.text) sooner.more later.more;
      };
}

pub words_both : {first second : List ℕ} {a b c : TextBuilder} → PutsWords first a b → PutsWords second b c → PutsWords (first ++ second) a c
words_both sooner later = puts_both (λ x y h k. ap₂ (λ s t. s ++ t) h k) sooner later

-- there is room for one text and then for another
pub room_both : (first second : ℕ) (a b c : TextBuilder) → GoesOnWithRoom first a b → GoesOnWithRoom second b c → GoesOnWithRoom (first + second) a c
room_both first second a b c sooner later =
    (λ before room. later.0 (sooner.0 before (omega (arith, room))) (sooner.1 second room), λ more room. later.1 more (sooner.1 (second + more) (omega (arith, room))))

pub room_as : (a b : TextBuilder) (old-count count : ℕ) → old-count ≡ count → GoesOnWithRoom old-count a b → GoesOnWithRoom count a b
room_as a b old-count count same goes = subst (λ n. GoesOnWithRoom n a b) same goes

-- ---- blanks

abbrev pub blanks : ℕ → List ℕ
blanks n = repeat n (codes " ")

blanks-next : (n : ℕ) → blanks n ++ codes " " ≡ blanks (suc n)
blanks-next zero = refl
blanks-next (suc n) = ap (λ t. 32 ∷ t) (blanks-next n)

length-blanks : (n : ℕ) → length (blanks n) ≡ n
length-blanks zero = refl
length-blanks (suc n) = ap suc (length-blanks n)

-- so many blanks were put, for which there is room
abbrev pub PutsBlanks : ℕ → TextBuilder → TextBuilder → Type 0
PutsBlanks n old new = PutsWords (blanks n) old new × GoesOnWithRoom n old new

pub no_blanks : (n : ℕ) (a : TextBuilder) → n ≡ 0 → PutsBlanks n a a
no_blanks n a none = (
  record { put = λ going. record { before = going; more = []; is = ap blanks (sym none); text_is = sym (append-nil (string_bytes a.text)) } },
  (λ going room. going, λ more room. omega (arith, room)),
)

-- one blank more
pub blank_more : (n m : ℕ) (a b c : TextBuilder) → suc n ≡ m → PutsBlanks n a b → PutsWords (codes " ") b c × GoesOnWithRoom 1 b c → PutsBlanks m a c
blank_more n m a b c next so_far one = (
  words_as (blanks-next n ∙ ap blanks next) (words_both so_far.0 one.0),
  room_as a c (n + 1) m (omega (arith, next)) (room_both n 1 a b c so_far.1 one.1),
)

-- words behind all blanks
pub flushed : (n width : ℕ) (words : List ℕ) (a b c : TextBuilder) → n ≡ width - length words → PutsBlanks n a b → PutsWords words b c × GoesOnWithRoom (length words) b c
    → PutsWords (flush_right width words) a c × GoesOnWithRoom (length (flush_right width words)) a c
flushed n width words a b c all before last =
    let same : blanks n ++ words ≡ flush_right width words = ap (λ k. blanks k ++ words) all in
    let long : n + length words ≡ length (flush_right width words) =
    sym (length-append (blanks (width - length words)) words ∙ ap (λ k. k + length words) (length-blanks (width - length words) ∙ sym all)) in
    (words_as same (words_both before.0 last.0), room_as a c (n + length words) _ long (room_both n (length words) a b c before.1 last.1))

-- the whole text, in the end
pub finished : {A : List ℕ → Type 0} (a b : TextBuilder) (result : Result (String Global) AllocError) → string_bytes a.text ≡ [] → Puts A a b → OkIff result (b.was_refused ≡ false) b.text
    → IfOk result (λ text. A (string_bytes text))
finished {A} a b (Ok text) empty put whole =
    let is : IsPut A a b = put.put whole.0 in
    subst A (sym (ap string_bytes whole.1 ∙ is.text_is ∙ ap (λ t. t ++ is.more) empty)) is.is
finished a b (Err fault) empty put whole = tt
