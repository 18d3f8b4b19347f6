-- Rows whose values pass, and a use of an argument that keeps them so.
use Rattle.std.proofs.Common.{◌≡◌, ◌&&◌, ◌||◌, ◌<◌, ◌≤◌, ℕ, Bool, true, false, List, [], ◌∷◌, ◌++◌, length, length-append, Some, nat_le, refl, ap, ◌∙◌, arith}
use Rattle.std.proofs.lemmas.Bool.{leb-true}
use Rattle.std.proofs.lemmas.List.Folds.{list_all-append}
use Rattle.std.proofs.lemmas.Slice.Eq.{bytes_eq-Decides}
use Rattle.std.specs.List.{find, list_all, list_any}
use Rattle.std.specs.Str.{bytes_eq}
use Rattle.std.proofs.Math.Bool.{or-true}
use Rattle.clap.proofs.WalkLemmas.{both}
use Rattle.clap.specs.Facts.{unwrap_or_range}
use Rattle.clap.specs.Walk.{Row, Rule, Text, action_of, at_row, more_values, reading_by, used, used_as, values_or_missing, with_values, without}
use Rattle.clap.specs.Takes.{action_passes, use_passes, value_passes, values_pass}
use Rattle.clap.specs.declared.builder.action.ArgAction.{ArgAction}
use Rattle.clap.specs.declared.builder.action.ArgAction.TheVariants.{Set, Append, SetTrue, SetFalse, Count, Help, HelpShort, HelpLong, Version}
use Rattle.clap.specs.declared.builder.value_parser.Reading.{Reading}
use Rattle.clap.specs.declared.builder.value_parser.Reading.TheVariants.{AsWritten}
use Rattle.clap.specs.declared.parser.matches.ValueSource.{ValueSource}

-- ---- rows that fit

-- a value passes an argument with this id
abbrev pub passes_for : List Rule → Text → Text → Bool
passes_for rules id v = list_any (λ a. bytes_eq a.id id && value_passes a v) rules

-- the row has values, each passes an argument of its id, and they are read as they are written
abbrev pub FitsRow : List Rule → Row → Type 0
FitsRow rules r = (0 < length r.values) × (list_all (passes_for rules r.id) r.values ≡ true) × (r.reading ≡ AsWritten)

abbrev pub FitRows : List Rule → List Row → Type 0
FitRows rules [] = Unit {0}
FitRows rules (r ∷ rs) = FitsRow rules r × FitRows rules rs

FitRows-append : (rules : List Rule) (rs more : List Row) → FitRows rules rs → FitRows rules more → FitRows rules (rs ++ more)
FitRows-append rules [] more fit fits = fits
FitRows-append rules (r ∷ rs) more fit fits = (fit.0, FitRows-append rules rs more fit.1 fits)

at_row-fits : (rules : List Rule) (id : Text) (change : Row → List Row) (missing rs : List Row) → FitRows rules rs
    → ((r : Row) → bytes_eq r.id id ≡ true → FitsRow rules r → FitRows rules (change r)) → FitRows rules missing
    → FitRows rules (at_row id change missing rs)
at_row-fits rules id change missing [] fit changed fits = fits
at_row-fits rules id change missing (r ∷ rs) fit changed fits =
    go (bytes_eq r.id id) refl (at_row-fits rules id change missing rs fit.1 changed fits)
  where
    go : (b : Bool) → bytes_eq r.id id ≡ b → FitRows rules (at_row id change missing rs) → FitRows rules (at_row id change missing (r ∷ rs))
    go true e rest = rw e (FitRows-append rules (change r) rs (changed r e fit.0) fit.1)
    go false e rest = rw e (fit.0, rest)

without-fits : (rules : List Rule) (id : Text) (rs : List Row) → FitRows rules rs → FitRows rules (without id rs)
without-fits rules id rs fit = at_row-fits rules id (λ _. []) [] rs fit (λ r e h. tt) tt

pub with_values-fits : (rules : List Rule) (id : Text) (how : Reading) (source : ValueSource) (values : List Text) (rs : List Row)
    → 0 < length values → list_all (passes_for rules id) values ≡ true → how ≡ AsWritten → FitRows rules rs
    → FitRows rules (with_values id how source values rs)
with_values-fits rules id how source values rs some pass written fit =
    at_row-fits rules id (more_values source values) _ rs fit added ((some, pass, written), tt)
  where
    added : (r : Row) → bytes_eq r.id id ≡ true → FitsRow rules r → FitRows rules (more_values source values r)
    added r e h =
        let same : r.id ≡ id = (bytes_eq-Decides r.id id).0 e in
        let more : list_all (passes_for rules r.id) values ≡ true = rw same pass in (
          (
            simp length-append (omega (arith, some)),
            list_all-append (passes_for rules r.id) r.values values ∙ rw (h.1, more) refl,
            h.2,
          ),
          tt,
        )

-- ---- arguments

-- there is a text
abbrev pub has_text : List Text → Bool
has_text [] = false
has_text (v ∷ vs) = true

-- the argument takes a value at each use, or has one for a use without any, or it calls for help
abbrev pub takes_a_value : ArgAction → ℕ → List Text → Bool
takes_a_value Set least missing = nat_le 1 least
takes_a_value Append least missing = nat_le 1 least
takes_a_value SetTrue least missing = has_text missing
takes_a_value SetFalse least missing = false
takes_a_value Count least missing = false
takes_a_value Help least missing = true
takes_a_value HelpShort least missing = true
takes_a_value HelpLong least missing = true
takes_a_value Version least missing = true

abbrev pub IsFit : Rule → Type 0
IsFit a = (takes_a_value (action_of a) (unwrap_or_range a.range).start_inclusive a.missing ≡ true) × (reading_by a ≡ AsWritten)

abbrev pub AreFit : List Rule → Type 0
AreFit [] = Unit {0}
AreFit (a ∷ rules) = IsFit a × AreFit rules

-- an argument of the command
pub record IsRuleOf (rules : List Rule) (a : Rule) : Type 0 where
  pub fit : IsFit a
  pub passes : (v : Text) → value_passes a v ≡ true → passes_for rules a.id v ≡ true

pub found-IsRuleOf : (p : Rule → Bool) (rules : List Rule) (a : Rule) → AreFit rules → find p rules ≡ Some a → IsRuleOf rules a
found-IsRuleOf p [] a fit found = cc
found-IsRuleOf p (x ∷ rules) a fit found = go (p x) refl (λ later. found-IsRuleOf p rules a fit.1 later)
  where
    go : (b : Bool) → p x ≡ b → (find p rules ≡ Some a → IsRuleOf rules a) → IsRuleOf (x ∷ rules) a
    go true e later =
        let is_first : Some x ≡ Some a = rw e at found in
        let same : a ≡ x = cc is_first in
        record {
          fit = rw same fit.0;
          passes = λ v pass.
              let own : bytes_eq x.id a.id ≡ true = rw same ((bytes_eq-Decides x.id x.id).1 refl) in
              let here : value_passes x v ≡ true = rw same at pass in
              rw (own, here) refl;
        }
    go false e later =
        let rest = later (rw e at found) in
        record {
          fit = rest.fit;
          passes = λ v pass. ap (λ b. (bytes_eq x.id a.id && value_passes x v) || b) (rest.passes v pass) ∙ or-true _;
        }

-- an argument of a command is one of the command with an argument more
known-later : (x : Rule) (rules : List Rule) (a : Rule) → IsRuleOf rules a → IsRuleOf (x ∷ rules) a
known-later x rules a known = record {
  fit = known.fit;
  passes = λ v pass. ap (λ b. (bytes_eq x.id a.id && value_passes x v) || b) (known.passes v pass) ∙ or-true _;
}

known-first : (x : Rule) (rules : List Rule) → IsFit x → IsRuleOf (x ∷ rules) x
known-first x rules fit = record {
  fit = fit;
  passes = λ v pass.
      let own : bytes_eq x.id x.id ≡ true = (bytes_eq-Decides x.id x.id).1 refl in
      rw (own, pass) refl;
}

-- all of these are arguments of the command
abbrev pub AreKnown : List Rule → List Rule → Type 0
AreKnown rules [] = Unit {0}
AreKnown rules (a ∷ some) = IsRuleOf rules a × AreKnown rules some

AreKnown-later : (x : Rule) (rules some : List Rule) → AreKnown rules some → AreKnown (x ∷ rules) some
AreKnown-later x rules [] known = tt
AreKnown-later x rules (a ∷ some) known = (known-later x rules a known.0, AreKnown-later x rules some known.1)

pub all-known : (rules : List Rule) → AreFit rules → AreKnown rules rules
all-known [] fit = tt
all-known (x ∷ rules) fit = (known-first x rules fit.0, AreKnown-later x rules rules (all-known rules fit.1))

-- ---- one use of an argument

pub each_passes : (rules : List Rule) (a : Rule) (values : List Text) → IsRuleOf rules a → values_pass a values ≡ true → list_all (passes_for rules a.id) values ≡ true
each_passes rules a [] known pass = refl
each_passes rules a (v ∷ values) known pass =
    let parts = both _ _ pass in
    rw (known.passes v parts.0) (each_passes rules a values known parts.1)

some_values : (a : Rule) (values : List Text) (least : ℕ) → nat_le 1 least ≡ true → nat_le least (length values) ≡ true → 0 < length (values_or_missing a values)
some_values a [] least one enough = let low : 1 ≤ least = leb-true _ _ one in let high : least ≤ 0 = leb-true _ _ enough in absurd (omega (arith, low, high))
some_values a (v ∷ values) least one enough = omega arith

some_texts : (vs : List Text) → has_text vs ≡ true → 0 < length vs
some_texts [] has = cc
some_texts (v ∷ vs) has = omega arith

some_or_missing : (a : Rule) (values : List Text) → has_text a.missing ≡ true → 0 < length (values_or_missing a values)
some_or_missing a [] has = some_texts a.missing has
some_or_missing a (v ∷ values) has = omega arith

used_as-fits : (x : ArgAction) (again : Bool) (rules : List Rule) (a : Rule) (values : List Text) (rs : List Row) → IsRuleOf rules a
    → takes_a_value x (unwrap_or_range a.range).start_inclusive a.missing ≡ true
    → nat_le (unwrap_or_range a.range).start_inclusive (length values) ≡ true
    → action_passes x again a (values_or_missing a values) rs ≡ true → FitRows rules rs
    → FitRows rules (used_as x a.id (reading_by a) (values_or_missing a values) rs)
used_as-fits Set again rules a values rs known one enough pass fit =
    with_values-fits rules a.id (reading_by a) _ (values_or_missing a values) (without a.id rs) (some_values a values _ one enough) (each_passes rules a _ known (both _ _ pass).1) known.fit.1 (without-fits rules a.id rs fit)
used_as-fits Append again rules a values rs known one enough pass fit =
    with_values-fits rules a.id (reading_by a) _ (values_or_missing a values) rs (some_values a values _ one enough) (each_passes rules a _ known pass) known.fit.1 fit
used_as-fits SetTrue again rules a values rs known one enough pass fit =
    with_values-fits rules a.id (reading_by a) _ (values_or_missing a values) (without a.id rs) (some_or_missing a values one) (each_passes rules a _ known (both _ _ pass).1) known.fit.1 (without-fits rules a.id rs fit)
used_as-fits SetFalse again rules a values rs known one enough pass fit = cc
used_as-fits Count again rules a values rs known one enough pass fit = cc
used_as-fits Help again rules a values rs known one enough pass fit = cc
used_as-fits HelpShort again rules a values rs known one enough pass fit = cc
used_as-fits HelpLong again rules a values rs known one enough pass fit = cc
used_as-fits Version again rules a values rs known one enough pass fit = cc

pub used-fits : (again : Bool) (rules : List Rule) (a : Rule) (values : List Text) (rs : List Row) → IsRuleOf rules a
    → use_passes again a values rs ≡ true → FitRows rules rs → FitRows rules (used a values rs)
used-fits again rules a values rs known pass fit =
    let enough = both _ _ pass in
    used_as-fits (action_of a) again rules a values rs known known.fit.0 enough.0 (both _ _ enough.1).1 fit
