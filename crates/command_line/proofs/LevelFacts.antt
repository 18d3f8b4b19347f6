-- One level of a command line that passes: the values that it gives, and the subcommand that it meets.
use Rattle.std.proofs.Common.{◌≡◌, ◌⊎◌, inl, inr, ◌&&◌, ◌||◌, ◌<◌, ℕ, Bool, true, false, not, List, [], ◌∷◌, codes, Option, Some, None, refl, subst, arith}
use Rattle.std.specs.List.{find, fold, list_all}
use Rattle.std.specs.Option.{option_map_or}
use Rattle.std.specs.Str.{bytes_eq}
use Rattle.std.proofs.lemmas.Slice.Eq.{bytes_eq-Decides}
use Rattle.clap.proofs.WalkLemmas.{both}
use Rattle.clap.specs.Facts.{explicit_source}
use Rattle.clap.specs.Lexer.{long_of, short_of}
use Rattle.clap.specs.Simple.{Shape}
use Rattle.clap.specs.Walk.{Held, Names, Outcome, Row, Rule, Step, Text, Waiting, Walk, after_flag, after_step, all_of, arg_by_index, arg_by_long, bundle, default_rows, done, first_of, has_row, idle, long_met, long_or_other, next, nothing_held, one_of, option, plain, plain_word, positional, reading_by, refused, rows_after, settled, short_or_plain, subcommand, subcommand_met, subcommand_or_other, to_positional, trailing, value, waits, walk, walk_from, walked, walked_from, with_default, word_met}
use Rattle.clap.specs.Takes.{is_given, is_valid, level_passes, other_passes, settle_passes, turn_passes, values_pass, walk_passes, word_passes}
use Rattle.command_line.proofs.RowFacts.{AreFit, AreKnown, FitRows, FitsRow, IsRuleOf, all-known, each_passes, passes_for, with_values-fits}
use Rattle.command_line.proofs.WalkFacts.{settled-fits, walk-fits}

-- ---- a subcommand that is met is not `help`

abbrev IsNotHelp : Text → Type 0
IsNotHelp name = bytes_eq name (codes "help") ≡ false

abbrev StepsOn : Step → Type 0
StepsOn (subcommand name) = IsNotHelp name
StepsOn _ = Unit {0}

abbrev pub StopsOn : Option (Text × List Text) → Type 0
StopsOn None = Unit {0}
StopsOn (Some p) = IsNotHelp p.0

plain_word-step : (rules : List Rule) (waiting : Waiting) (word : Text) (h : Held) → StepsOn (plain_word rules waiting word h).1
plain_word-step rules idle word h = tt
plain_word-step rules (option id) word h = tt
plain_word-step rules positional word h = tt

after_flag-step : (rules : List Rule) (waiting : Waiting) (word : Text) (h : Held) (outcome : Outcome) → StepsOn (after_flag rules waiting word h outcome).1
after_flag-step rules waiting word h done = tt
after_flag-step rules waiting word h (waits id) = tt
after_flag-step rules waiting word h plain = plain_word-step rules waiting word h
after_flag-step rules waiting word h refused = plain_word-step rules waiting word h

short_or_plain-step : (rules : List Rule) (waiting : Waiting) (word : Text) (flags : Option Text) (h : Held) → StepsOn (short_or_plain rules waiting word flags h).1
short_or_plain-step rules waiting word None h = plain_word-step rules waiting word h
short_or_plain-step rules waiting word (Some flags) h = after_flag-step rules waiting word (bundle rules flags h).0 (bundle rules flags h).1

long_or_other-step : (rules : List Rule) (waiting : Waiting) (word : Text) (long : Option (Text × Option Text)) (h : Held) → StepsOn (long_or_other rules waiting word long h).1
long_or_other-step rules waiting word None h = short_or_plain-step rules waiting word (short_of word) h
long_or_other-step rules waiting word (Some p) h =
    let met = long_met rules (arg_by_long rules p.0) p.1 h in
    after_flag-step rules waiting word met.0 met.1

not_or_false : (b c : Bool) → c ≡ false → (not b || c) ≡ true → b ≡ false
not_or_false false c e pass = refl
not_or_false true true e pass = cc
not_or_false true false e pass = cc

module _ (s : Shape) (names : Names) (has_help : s.disable_help_subcommand ≡ false) where
  other-step : (met : Option Text) (waiting : Waiting) (position : ℕ) (word : Text) (h : Held) → other_passes s met word h ≡ true
      → StepsOn (subcommand_or_other s.rules met waiting position word h).1
  other-step (Some name) waiting position word h pass = not_or_false _ s.disable_help_subcommand has_help pass
  other-step None waiting position word h pass = go (bytes_eq word (45 ∷ 45 ∷ [])) refl
    where
      go : (b : Bool) → bytes_eq word (45 ∷ 45 ∷ []) ≡ b → StepsOn (subcommand_or_other s.rules None waiting position word h).1
      go true e = rw e tt
      go false e = rw e (long_or_other-step s.rules waiting word (long_of word) h)

  word_met-step : (is_trailing : Bool) (waiting : Waiting) (position : ℕ) (word : Text) (h : Held) → word_passes s names is_trailing waiting word h ≡ true
      → StepsOn (word_met s.rules names is_trailing waiting position word h).1
  word_met-step true waiting position word h pass = tt
  word_met-step false waiting position word h pass = other-step (subcommand_met names waiting word) waiting position word h pass

  to_positional-stop : (found : Option Rule) (word : Text) (w : Walk) (h : Held) → StopsOn w.stopped → StopsOn (to_positional s.rules found word w h).stopped
  to_positional-stop None word w h on = on
  to_positional-stop (Some a) word w h on = tt

  after_step-stop : (word : Text) (w : Walk) (h : Held) (step : Step) → StepsOn step → StopsOn w.stopped → StopsOn (after_step s.rules word w h step).stopped
  after_step-stop word w h (next waiting) steps on = on
  after_step-stop word w h (trailing position) steps on = on
  after_step-stop word w h (subcommand name) steps on = steps
  after_step-stop word w h value steps on = to_positional-stop (arg_by_index s.rules w.position) word w h on

  walked_from-stop : (stopped : Option (Text × List Text)) (w : Walk) (word : Text) → turn_passes s names (record w { stopped = stopped }) word ≡ true
      → StopsOn stopped → StopsOn w.stopped → StopsOn (walked_from s.rules names stopped w word).stopped
  walked_from-stop (Some p) w word pass here on = here
  walked_from-stop None w word pass here on =
      let met = word_met s.rules names w.is_trailing w.waiting w.position word w.held in
      let parts = both (word_passes s names w.is_trailing w.waiting word w.held) _ pass in
      after_step-stop word w met.0 met.1 (word_met-step w.is_trailing w.waiting w.position word w.held parts.0) on

  walked-stop : (w : Walk) (word : Text) → turn_passes s names w word ≡ true → StopsOn w.stopped → StopsOn (walked s.rules names w word).stopped
  unfolding walked
  walked-stop w word pass on = walked_from-stop w.stopped w word pass on on

  pub walk-stop : (w : Walk) (words : List Text) → walk_passes s names w words ≡ true → StopsOn w.stopped → StopsOn (fold (walked s.rules names) w words).stopped
  unfolding walk_passes
  walk-stop w [] pass on = on
  walk-stop w (word ∷ words) pass on =
      let parts = both _ _ pass in
      walk-stop (walked s.rules names w word) words parts.1 (walked-stop w word parts.0 on)

-- ---- the end of a level

-- the default values of each argument pass
abbrev pub DefaultsPass : List Rule → Type 0
DefaultsPass [] = Unit {0}
DefaultsPass (a ∷ rules) = (values_pass a a.defaults ≡ true) × DefaultsPass rules

default_rows-fits : (rules : List Rule) (a : Rule) (defaults : List Text) (rs : List Row) → IsRuleOf rules a → values_pass a defaults ≡ true → FitRows rules rs
    → FitRows rules (default_rows a.id (reading_by a) defaults rs)
default_rows-fits rules a [] rs known pass fits = fits
default_rows-fits rules a (v ∷ vs) rs known pass fits = with_values-fits rules a.id (reading_by a) _ (v ∷ vs) rs (omega arith) (each_passes rules a (v ∷ vs) known pass) known.fit.1 fits

with_default-fits : (rules : List Rule) (a : Rule) (rs : List Row) → IsRuleOf rules a → values_pass a a.defaults ≡ true → FitRows rules rs → FitRows rules (with_default rs a)
with_default-fits rules a rs known pass fits = go (has_row a.id rs) refl
  where
    go : (b : Bool) → has_row a.id rs ≡ b → FitRows rules (with_default rs a)
    go true e = rw e fits
    go false e = rw e (default_rows-fits rules a a.defaults rs known pass fits)

defaults-fits : (rules some : List Rule) (rs : List Row) → AreKnown rules some → DefaultsPass some → FitRows rules rs → FitRows rules (fold with_default rs some)
defaults-fits rules [] rs known pass fits = fits
defaults-fits rules (a ∷ some) rs known pass fits = defaults-fits rules some (with_default rs a) known.1 pass.1 (with_default-fits rules a rs known.0 pass.0 fits)

-- the values that a level gives pass, and those that it needs are there
pub level-gives : (s : Shape) (words : List Text) → AreFit s.rules → DefaultsPass s.rules → level_passes s [] nothing_held words false ≡ true
    → FitRows s.rules (rows_after s.rules [] words) × (is_valid s (rows_after s.rules [] words) false ≡ true)
level-gives s words fit defaults pass =
    let end = (walk s.rules [] nothing_held words).held in
    let walked = both (walk_passes s [] (walk_from nothing_held) words) _ pass in
    let settles = both (settle_passes s.rules s.args_override_self end) _ walked.1 in
    let rows = settled-fits s.rules s.args_override_self fit end settles.0 (walk-fits s [] fit (walk_from nothing_held) words walked.0 tt) in (
      defaults-fits s.rules s.rules (settled s.rules end).rows (all-known s.rules fit) defaults rows,
      (both _ _ settles.1).1,
    )

-- ---- a value that is there

pub record IsGiven (rules : List Rule) (id : Text) (rs : List Row) : Type 0 where
  pub text : Text
  pub first : first_of id rs ≡ Some text
  pub one : one_of id rs ≡ Some text
  pub all : (texts : List Text) × (all_of id rs ≡ Some texts)
  pub passes : passes_for rules id text ≡ true

in_row : (rules : List Rule) (id : Text) (r : Row) (rs : List Row) (values : List Text) → r.values ≡ values → FitsRow rules r → find (λ r. bytes_eq r.id id) rs ≡ Some r
    → r.id ≡ id → IsGiven rules id rs
in_row rules id r rs [] is fits found same = let some : 0 < 0 = rw is at fits.0 in absurd (omega (arith, some))
in_row rules id r rs (v ∷ values) is fits found same =
    let pass : passes_for rules r.id v && list_all (passes_for rules r.id) values ≡ true = rw is at fits.1 in
    record {
      text = v;
      first = rw (found, is) refl;
      one = rw (found, is, fits.2) refl;
      all = (v ∷ values, rw (found, is) refl);
      passes = rw (← same) (both _ _ pass).0;
    }

found_row : (rules : List Rule) (id : Text) (rs all : List Row) → FitRows rules rs → ((r : Row) → find (λ r. bytes_eq r.id id) rs ≡ Some r → find (λ r. bytes_eq r.id id) all ≡ Some r)
    → option_map_or (λ r. explicit_source r.source) (find (λ r. bytes_eq r.id id) rs) false ≡ true → IsGiven rules id all
found_row rules id [] all fit lifts given = cc
found_row rules id (r ∷ rs) all fit lifts given = go (bytes_eq r.id id) refl (λ lifts given. found_row rules id rs all fit.1 lifts given)
  where
    go : (b : Bool) → bytes_eq r.id id ≡ b
        → (((x : Row) → find (λ r. bytes_eq r.id id) rs ≡ Some x → find (λ r. bytes_eq r.id id) all ≡ Some x)
        → option_map_or (λ r. explicit_source r.source) (find (λ r. bytes_eq r.id id) rs) false ≡ true → IsGiven rules id all)
        → IsGiven rules id all
    go true e later = in_row rules id r all r.values refl fit.0 (lifts r (rw e refl)) ((bytes_eq-Decides r.id id).0 e)
    go false e later = later (λ x found. lifts x (rw e found)) (rw e at given)

find-fits : (rules : List Rule) (id : Text) (rs : List Row) (r : Row) → FitRows rules rs → find (λ r. bytes_eq r.id id) rs ≡ Some r → FitsRow rules r × (r.id ≡ id)
find-fits rules id [] r fit found = cc
find-fits rules id (x ∷ rs) r fit found = go (bytes_eq x.id id) refl (λ later. find-fits rules id rs r fit.1 later)
  where
    go : (b : Bool) → bytes_eq x.id id ≡ b → (find (λ r. bytes_eq r.id id) rs ≡ Some r → FitsRow rules r × (r.id ≡ id)) → FitsRow rules r × (r.id ≡ id)
    go true e later =
        let is : Some x ≡ Some r = rw e at found in
        let same : x ≡ r = cc is in
        subst (λ (r : Row). FitsRow rules r × (r.id ≡ id)) same (fit.0, (bytes_eq-Decides x.id id).0 e)
    go false e later = later (rw e at found)

-- what may be left out is not there, or has a value that passes
pub optional : (rules : List Rule) (id : Text) (rs : List Row) → FitRows rules rs → (find (λ r. bytes_eq r.id id) rs ≡ None) ⊎ IsGiven rules id rs
optional rules id rs fit = go (find (λ r. bytes_eq r.id id) rs) refl
  where
    go : (o : Option Row) → find (λ r. bytes_eq r.id id) rs ≡ o → (find (λ r. bytes_eq r.id id) rs ≡ None) ⊎ IsGiven rules id rs
    go None e = inl e
    go (Some r) e = let fits = find-fits rules id rs r fit e in inr (in_row rules id r rs r.values refl fits.0 e fits.1)

-- what is given has a value that passes
pub given : (rules : List Rule) (id : Text) (rs : List Row) → FitRows rules rs → is_given id rs ≡ true → IsGiven rules id rs
given rules id rs fit there = found_row rules id rs rs fit (λ r e. e) there
