-- Texts with one part more.
use Rattle.std.proofs.Common.{◌≡◌, ℕ, ◌+◌, ◌<◌, ◌≤◌, List, [], ◌∷◌, ◌++◌, length, take, get_or, sym, ap, ◌∙◌}
use Rattle.std.specs.List.{flat_map}
use Rattle.std.proofs.lemmas.Grind.{flat_map-append}
use Rattle.std.proofs.lemmas.List.{append_assoc, append-nil, take_all, take_more}
use Rattle.sim_base.specs.History.{below}
use Rattle.sim_base.proofs.Lists.{flat_map_below-more}
use Rattle.measures.specs.Texts.{PutsWords}
use Rattle.measures.specs.declared.text_builder.TextBuilder.{TextBuilder}
use Rattle.measures.proofs.Texts.{words_as, words_both}

-- the part of one more item, behind a head
pub part_more : {A : Type 0} (part : A → List ℕ) (items : List A) (place : ℕ) (item : A) (head : List ℕ) {a b c : TextBuilder} → place < length items
    → PutsWords (head ++ flat_map part (take place items)) a b → PutsWords (part (get_or items place item)) b c → PutsWords (head ++ flat_map part (take (place + 1) items)) a c
part_more part items place item head within sooner later =
    let next = get_or items place item in
    let parts : flat_map part (take (place + 1) items) ≡ flat_map part (take place items) ++ part next =
    ap (flat_map part) (take_more items place item within) ∙ flat_map-append part (take place items) (next ∷ []) ∙ ap (λ text. flat_map part (take place items) ++ text) (append-nil (part next)) in
    words_as (append_assoc head (flat_map part (take place items)) (part next) ∙ ap (λ text. head ++ text) (sym parts)) (words_both sooner later)

-- all parts, and what closes them
pub parts_closed : {A : Type 0} (part : A → List ℕ) (items : List A) (place : ℕ) (head close : List ℕ) {a b c : TextBuilder} → length items ≤ place
    → PutsWords (head ++ flat_map part (take place items)) a b → PutsWords close b c → PutsWords ((head ++ flat_map part items) ++ close) a c
parts_closed part items place head close all sooner later =
    words_as (ap (λ taken. (head ++ flat_map part taken) ++ close) (take_all place items all)) (words_both sooner later)

-- all parts, behind a head
pub parts_all : {A : Type 0} (part : A → List ℕ) (items : List A) (place : ℕ) (head : List ℕ) {a b : TextBuilder} → length items ≤ place
    → PutsWords (head ++ flat_map part (take place items)) a b → PutsWords (head ++ flat_map part items) a b
parts_all part items place head all sooner = words_as (ap (λ taken. head ++ flat_map part taken) (take_all place items all)) sooner

-- one numbered part more, behind a head
pub part_below_more : (part : ℕ → List ℕ) (n : ℕ) (head : List ℕ) {a b c : TextBuilder} → PutsWords (head ++ flat_map part (below n)) a b → PutsWords (part n) b c
    → PutsWords (head ++ flat_map part (below (n + 1))) a c
part_below_more part n head sooner later =
    words_as (append_assoc head (flat_map part (below n)) (part n) ∙ ap (λ text. head ++ text) (sym (flat_map_below-more part n))) (words_both sooner later)
