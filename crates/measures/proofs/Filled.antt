-- Forms that are filled in piece by piece.
use Rattle.std.specs.Prelude.{Option, Some, None, codes, MatchOption, string_bytes}
use Rattle.std.proofs.Common.{◌≡◌, ℕ, ◌+◌, ◌<◌, ◌≤◌, Bor, List, [], ◌∷◌, ◌++◌, length, get_or, take, drop, refl, sym, ap, subst, ◌∙◌, inl, inr, append_assoc, arith}
use Rattle.std.specs.Str.Pattern.{FindsText}
use Rattle.std.proofs.lemmas.List.{append-nil, drop_all, drop_at, drop_more}
use Rattle.std.proofs.lemmas.Str.Pattern.{split_text_parts}
use Rattle.measures.specs.Filled.{IsCut, FillsNext, IsFilled}
use Rattle.measures.specs.Texts.{Puts, PutsWords}
use Rattle.measures.specs.declared.text_builder.TextBuilder.{TextBuilder}
use Rattle.measures.proofs.Texts.{puts_both}

-- a text, with any behind it that the rest of a form makes with the pieces that are left, is of the form
abbrev pub Leads : {P : Type 0} → (P → List ℕ → Type 0) → List ℕ → List P → List ℕ → List P → List ℕ → Type 0
Leads appends form pieces rest left text = (later : List ℕ) → IsFilled appends rest left later → IsFilled appends form pieces (text ++ later)

-- nothing was put yet
pub leads_from : {P : Type 0} (appends : P → List ℕ → Type 0) (form : List ℕ) (pieces : List P) (a : TextBuilder) → Puts (Leads appends form pieces form (drop 0 pieces)) a a
leads_from appends form pieces a = record {
  put = λ going. record { before = going; more = []; is = λ later filled. filled; text_is = sym (append-nil (string_bytes a.text)) };
}

-- one piece more
pub leads_on : {P : Type 0} (appends : P → List ℕ → Type 0) (form : List ℕ) (pieces : List P) (rest after : List ℕ) (place : ℕ) (piece : P) {a b c : TextBuilder}
    → place < length pieces → piece ≡ get_or pieces place piece
    → Puts (Leads appends form pieces rest (drop place pieces)) a b → Puts (FillsNext (appends piece) rest after) b c
    → Puts (Leads appends form pieces after (drop (place + 1) pieces)) a c
unfolding IsFilled
leads_on appends form pieces rest after place piece within is sooner next =
    let left_is : drop place pieces ≡ piece ∷ drop (place + 1) pieces = drop_more pieces place piece within ∙ ap (λ p. p ∷ drop (place + 1) pieces) (sym is) in
    puts_both (λ put first leads fills later filled.
    subst (λ text. IsFilled appends form pieces text) (sym (append_assoc put first later))
    (leads (first ++ later) (subst (λ left. IsFilled appends rest left (first ++ later)) (sym left_is) (after, first, later, fills, filled, refl))))
    sooner next

-- all pieces, and the rest of the form
pub leads_to : {P : Type 0} (appends : P → List ℕ → Type 0) (form : List ℕ) (pieces : List P) (rest : List ℕ) (place : ℕ) {a b c : TextBuilder}
    → length pieces ≤ place → Puts (Leads appends form pieces rest (drop place pieces)) a b → PutsWords rest b c → Puts (IsFilled appends form pieces) a c
unfolding IsFilled
leads_to appends form pieces rest place all sooner last =
    puts_both (λ put words leads is. leads words (subst (λ left. IsFilled appends rest left words) (sym (drop_all place pieces all)) is)) sooner last

-- the clause of `split_once` at a placeholder
abbrev IsSplit : List ℕ → Option (Bor (List ℕ) × Bor (List ℕ)) → Type 0
IsSplit form r = MatchOption r (FindsText (codes "{}") form None)
    (λ x. (i : ℕ) × (j : ℕ) × FindsText (codes "{}") form (Some (i, j)) × (x.0.now ≡ take i form) × (x.1.now ≡ drop j form) × (i ≤ j) × (length x.0.now ≡ i) × (length x.1.now + j ≡ length form))

pub is_cut : (form : List ℕ) (x : Bor (List ℕ) × Bor (List ℕ)) → IsSplit form (Some x) → IsCut form x.0.now x.1.now
is_cut form x split = record {
  form_is = split_text_parts (codes "{}") form (Some x) split;
  first = λ sooner behind less same.
      let before : length sooner < split.0 = omega (arith, split.6) in
      split.2.0 (length sooner) before behind (ap (drop (length sooner)) same ∙ drop_at sooner (codes "{}" ++ behind) (length sooner) refl);
}

-- a piece in place of the first placeholder
pub fills_one : {kind : List ℕ → Type 0} (form words rest : List ℕ) {a b c : TextBuilder} → IsCut form words rest → PutsWords words a b → Puts kind b c
    → Puts (FillsNext kind form rest) a c
fills_one form words rest cut sooner later =
    puts_both (λ put more same is. inl (record { words = words; put = more; cut = cut; is = is; text_is = ap (λ w. w ++ more) same })) sooner later

-- a form without one
pub fills_none : {kind : List ℕ → Type 0} (form rest : List ℕ) (a : TextBuilder) → IsSplit form None → rest ≡ form → Puts (FillsNext kind form rest) a a
fills_none form rest a split same = record {
  put = λ going. record {
    before = going;
    more = [];
    is = inr (record { none = split_text_parts (codes "{}") form None split; rest_is = same; text_is = refl });
    text_is = sym (append-nil (string_bytes a.text));
  };
}
