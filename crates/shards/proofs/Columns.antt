-- Lists of which one item is changed, or that have one item more; and messages sorted one by one.
use Rattle.std.proofs.Common.{◌≡◌, ◌≢◌, ℕ, ◌+◌, ◌<◌, List, [], ◌∷◌, ◌++◌, ◌⊎◌, inl, inr, length, get_or, set, take, sym, ap, subst, ◌∙◌, get_or-set_other, get_or-set_same, below_more, arith}
use Rattle.std.proofs.lemmas.Bool.{cases_eq}
use Rattle.std.specs.declared.vec.Vec.{Vec}
use Rattle.std.specs.declared.alloc.Global.{Global}
use Rattle.std.proofs.lemmas.List.{get_or_default, get_or_push, take_more}
use Rattle.std.proofs.lemmas.List.Elements.{filter-append}
use Rattle.std.proofs.Math.ListN.{get_or-append}
use Rattle.sim_base.specs.declared.config.Config.{Config}
use Rattle.sim_base.specs.declared.message.Message.{Message}
use Rattle.units.specs.Flight.{among, goes_among}
use Rattle.shards.specs.Lists.{SameOtherLists, SameWidths}

module _ {X : Type 0} where
  -- what holds of the item that is changed, and of the others
  pub at_set : (P : X → Type 0) (xs : List X) (n i : ℕ) (x d : X) → n < length xs → (i ≡ n → P x) → (i ≢ n → P (get_or xs i d)) → P (get_or (set xs n x) i d)
  at_set P xs n i x d l here other = by (cases_eq i n)
    where
      by : (i ≡ n) ⊎ (i ≢ n) → P (get_or (set xs n x) i d)
      by (inl e) = subst P (sym (ap (λ k. get_or (set xs n x) k d) e ∙ get_or-set_same xs n x d l)) (here e)
      by (inr e) = subst P (sym (get_or-set_other xs n i x d e)) (other e)

  -- what holds of the items before the last, and of the last
  pub at_push : (P : ℕ → X → Type 0) (xs : List X) (n : ℕ) (x d : X) → length xs ≡ n → ((k : ℕ) → k < n → P k (get_or xs k d)) → P n x
      → (i : ℕ) → i < n + 1 → P i (get_or (xs ++ x ∷ []) i d)
  at_push P xs n x d e before last =
      below_more (λ k. P k (get_or (xs ++ x ∷ []) k d)) n
      (λ k l. subst (P k) (sym (get_or-append xs (x ∷ []) d k (omega (arith, e, l)))) (before k l))
      (subst (P n) (sym (get_or_push xs x d n e)) last)

-- rows of which one is changed have the widths that it keeps
pub widths-set : (first rows : List (Vec (Vec Message Global) Global)) (n : ℕ) (row new : Vec (Vec Message Global) Global) → n < length rows
    → length new.items ≡ length (get_or rows n row).items → SameWidths first rows → SameWidths first (set rows n new)
widths-set first rows n row new l width same i d =
    at_set (λ v. length v.items ≡ length (get_or first i d).items) rows n i new d l
    (λ e. width
    ∙ ap (λ (v : Vec (Vec Message Global) Global). length v.items) (get_or_default rows n row d l ∙ ap (λ k. get_or rows k d) (sym e))
    ∙ same i d)
    (λ e. same i d)

-- rows of which one is changed keep the lists at other indices
pub others-set : (index : ℕ) (first rows : List (Vec (Vec Message Global) Global)) (n : ℕ) (row new : Vec (Vec Message Global) Global) → n < length rows
    → ((j : ℕ) (f : Vec Message Global) → j ≢ index → get_or new.items j f ≡ get_or (get_or rows n row).items j f)
    → SameOtherLists index first rows → SameOtherLists index first (set rows n new)
others-set index first rows n row new l kept same i j d f other =
    at_set (λ v. get_or v.items j f ≡ get_or (get_or first i d).items j f) rows n i new d l
    (λ e. kept j f other
    ∙ ap (λ (v : Vec (Vec Message Global) Global). get_or v.items j f) (get_or_default rows n row d l ∙ ap (λ k. get_or rows k d) (sym e))
    ∙ same i j d f other)
    (λ e. same i j d f other)

-- a list that has gained the next message, if that goes there, has gained what goes there of one message more
pub sorted-more : (s : Config) (first past : ℕ) (sent : List Message) (n : ℕ) (d : Message) (old new : List Message) → n < length sent
    → new ≡ old ++ among s first past (get_or sent n d ∷ []) → old ≡ among s first past (take n sent) → new ≡ among s first past (take (n + 1) sent)
sorted-more s first past sent n d old new l gained before =
    gained
    ∙ ap (λ ms. ms ++ among s first past (get_or sent n d ∷ [])) before
    ∙ sym (filter-append (goes_among s first past) (take n sent) (get_or sent n d ∷ []))
    ∙ ap (among s first past) (sym (take_more sent n d l))
