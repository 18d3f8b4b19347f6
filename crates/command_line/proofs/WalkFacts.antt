-- The rows of a walk over words that pass are rows whose values pass, and the subcommand that it meets is not `help`.
use Rattle.std.proofs.Common.{◌≡◌, ◌&&◌, ℕ, Bool, true, false, zero, suc, not, List, [], ◌∷◌, length, drop, encode_utf8, slice_get, Option, Some, None, is_some, refl, sym, subst}
use Rattle.std.specs.List.{find, fold}
use Rattle.std.specs.Option.{option_map_or}
use Rattle.std.specs.Str.{bytes_eq, chars}
use Rattle.clap.proofs.WalkLemmas.{both}
use Rattle.clap.specs.Lexer.{long_of, short_of}
use Rattle.clap.specs.Simple.{Shape}
use Rattle.clap.specs.Walk.{Held, Names, Outcome, Row, Rule, Step, Text, Waiting, Walk, after_flag, after_step, arg_by_id, arg_by_index, arg_by_long, arg_by_short, attached_value, bundle, bundle_met, bundle_step, done, flag_met, is_pending, long_met, long_or_other, next, idle, option, option_met, option_word, plain, plain_word, positional, positional_held, reacted, refused, settled, settled_rows, short_met, short_or_plain, subcommand, subcommand_met, subcommand_or_other, takes_several, takes_values, to_positional, trailing, used_by_id, value, waits, walked, walked_from, word_met}
use Rattle.clap.specs.Takes.{bundle_step_passes, flag_word_passes, bundle_passes, flags_pass, long_passes, option_passes, other_passes, positional_passes, react_passes, settle_passes, short_passes, step_passes, turn_passes, use_passes, walk_passes, word_passes}
use Rattle.command_line.proofs.RowFacts.{AreFit, FitRows, IsRuleOf, found-IsRuleOf, used-fits}

module _ (rules : List Rule) (again : Bool) (fit : AreFit rules) where
  known_by : (p : Rule → Bool) (a : Rule) → find p rules ≡ Some a → IsRuleOf rules a
  known_by p a found = found-IsRuleOf p rules a fit found

  -- ---- what is pending is used

  used_by_id-fits : (found : Option Rule) (values : List Text) (rs : List Row) → ((a : Rule) → found ≡ Some a → IsRuleOf rules a)
      → option_map_or (λ a. use_passes again a values rs) found true ≡ true → FitRows rules rs → FitRows rules (used_by_id found values rs)
  used_by_id-fits None values rs known pass fits = fits
  used_by_id-fits (Some a) values rs known pass fits = used-fits again rules a values rs (known a refl) pass fits

  pending-fits : (pending : Option (Text × List Text)) (rs : List Row)
      → option_map_or (λ p. option_map_or (λ a. use_passes again a p.1 rs) (arg_by_id rules p.0) true) pending true ≡ true
      → FitRows rules rs → FitRows rules (settled_rows rules pending rs)
  pending-fits None rs pass fits = fits
  pending-fits (Some p) rs pass fits = used_by_id-fits (arg_by_id rules p.0) p.1 rs (known_by _) pass fits

  pub settled-fits : (h : Held) → settle_passes rules again h ≡ true → FitRows rules h.rows → FitRows rules (settled rules h).rows
  settled-fits h pass fits = pending-fits h.pending h.rows pass fits

  reacted-fits : (a : Rule) (values : List Text) (h : Held) → IsRuleOf rules a → react_passes rules again a values h ≡ true → FitRows rules h.rows
      → FitRows rules (reacted rules a values h).rows
  reacted-fits a values h known pass fits =
      let parts = both _ _ pass in
      used-fits again rules a values (settled rules h).rows known parts.1 (settled-fits h parts.0 fits)

  -- ---- a flag or an option

  option_met-fits : (a : Rule) (v : Option Text) (h : Held) → IsRuleOf rules a → option_passes rules again a v h ≡ true → FitRows rules h.rows
      → FitRows rules (option_met rules a v h).0.rows
  option_met-fits a (Some v) h known pass fits = reacted-fits a (v ∷ []) h known pass fits
  option_met-fits a None h known pass fits = settled-fits h pass fits

  flag_met-fits : (a : Rule) (v : Option Text) (h : Held) → IsRuleOf rules a → (not (is_some v) && react_passes rules again a [] h) ≡ true
      → FitRows rules h.rows → FitRows rules (flag_met rules a v h).0.rows
  flag_met-fits a (Some v) h known pass fits = fits
  flag_met-fits a None h known pass fits = reacted-fits a [] h known pass fits

  long_met-fits : (found : Option Rule) (v : Option Text) (h : Held) → ((a : Rule) → found ≡ Some a → IsRuleOf rules a)
      → long_passes rules again found v h ≡ true → FitRows rules h.rows → FitRows rules (long_met rules found v h).0.rows
  long_met-fits None v h known pass fits = fits
  long_met-fits (Some a) v h known pass fits = go (takes_values a) refl
    where
      go : (b : Bool) → takes_values a ≡ b → FitRows rules (long_met rules (Some a) v h).0.rows
      go true e = rw e (option_met-fits a v h (known a refl) (rw e at pass) fits)
      go false e = rw e (flag_met-fits a v h (known a refl) (rw e at pass) fits)

  short_met-fits : (found : Option Rule) (rest : Text) (h : Held) (passes : Held → Bool) (met : Held → Held × Outcome)
      → ((a : Rule) → found ≡ Some a → IsRuleOf rules a)
      → ((h : Held) → passes h ≡ true → FitRows rules h.rows → FitRows rules (met h).0.rows)
      → short_passes rules again found rest h passes ≡ true → FitRows rules h.rows → FitRows rules (short_met rules found rest h met).0.rows
  short_met-fits None rest h passes met known later pass fits = fits
  short_met-fits (Some a) rest h passes met known later pass fits = go (takes_values a) refl
    where
      go : (b : Bool) → takes_values a ≡ b → FitRows rules (short_met rules (Some a) rest h met).0.rows
      go true e = rw e (option_met-fits a (attached_value rest) h (known a refl) (rw e at pass) fits)
      go false e =
          let parts = both _ _ (rw e at pass) in
          rw e (later (reacted rules a [] h) parts.1 (reacted-fits a [] h (known a refl) parts.0 fits))

  bundle_step-fits : (first : Option ℕ) (flags : Text) (skip : ℕ) (so_far : Outcome) (h : Held) (passes : Text → ℕ → Held → Bool)
      (met : Text → ℕ → Outcome → Held → Held × Outcome)
      → ((flags : Text) (skip : ℕ) (so_far : Outcome) (h : Held) → passes flags skip h ≡ true → FitRows rules h.rows → FitRows rules (met flags skip so_far h).0.rows)
      → bundle_step_passes rules again first flags skip h passes ≡ true → FitRows rules h.rows
      → FitRows rules (bundle_step rules first flags skip so_far h met).0.rows
  bundle_step-fits None flags skip so_far h passes met later pass fits = fits
  bundle_step-fits (Some x) flags zero so_far h passes met later pass fits =
      let rest = drop (length (encode_utf8 x)) flags in
      short_met-fits (arg_by_short rules x) rest h (passes rest 0) (met rest 0 done) (known_by _) (later rest 0 done) pass fits
  bundle_step-fits (Some x) flags (suc skip) so_far h passes met later pass fits = later (drop (length (encode_utf8 x)) flags) skip so_far h pass fits

  bundle_met-fits : (k : ℕ) (flags : Text) (skip : ℕ) (so_far : Outcome) (h : Held) → flags_pass rules again k flags skip h ≡ true → FitRows rules h.rows
      → FitRows rules (bundle_met rules k flags skip so_far h).0.rows
  unfolding flags_pass bundle_met
  bundle_met-fits zero flags skip so_far h pass fits = fits
  bundle_met-fits (suc k) flags skip so_far h pass fits =
      bundle_step-fits (slice_get (chars flags) 0) flags skip so_far h (flags_pass rules again k) (bundle_met rules k) (bundle_met-fits k) pass fits

  -- ---- a word

  option_word-rows : (found : Option Rule) (id word : Text) (h : Held) → (option_word found id word h).0.rows ≡ h.rows
  option_word-rows None id word h = refl
  option_word-rows (Some a) id word h = refl

  plain_word-rows : (waiting : Waiting) (word : Text) (h : Held) → (plain_word rules waiting word h).0.rows ≡ h.rows
  plain_word-rows idle word h = refl
  plain_word-rows (option id) word h = option_word-rows (arg_by_id rules id) id word h
  plain_word-rows positional word h = refl

  after_flag-rows : (waiting : Waiting) (word : Text) (h : Held) (outcome : Outcome) → (after_flag rules waiting word h outcome).0.rows ≡ h.rows
  after_flag-rows waiting word h done = refl
  after_flag-rows waiting word h (waits id) = refl
  after_flag-rows waiting word h plain = plain_word-rows waiting word h
  after_flag-rows waiting word h refused = plain_word-rows waiting word h

  after_flag-fits : (waiting : Waiting) (word : Text) (h : Held) (outcome : Outcome) → FitRows rules h.rows → FitRows rules (after_flag rules waiting word h outcome).0.rows
  after_flag-fits waiting word h outcome fits = subst (FitRows rules) (sym (after_flag-rows waiting word h outcome)) fits

  short_or_plain-fits : (waiting : Waiting) (word : Text) (flags : Option Text) (h : Held)
      → option_map_or (λ flags. bundle_passes rules again flags h) flags true ≡ true → FitRows rules h.rows
      → FitRows rules (short_or_plain rules waiting word flags h).0.rows
  short_or_plain-fits waiting word None h pass fits = subst (FitRows rules) (sym (plain_word-rows waiting word h)) fits
  short_or_plain-fits waiting word (Some flags) h pass fits =
      after_flag-fits waiting word (bundle rules flags h).0 (bundle rules flags h).1
      (bundle_met-fits (length flags) flags h.skip plain (record h { skip = 0 }) pass fits)

  long_or_other-fits : (waiting : Waiting) (word : Text) (long : Option (Text × Option Text)) (h : Held)
      → flag_word_passes rules again long word h ≡ true → FitRows rules h.rows → FitRows rules (long_or_other rules waiting word long h).0.rows
  long_or_other-fits waiting word None h pass fits = short_or_plain-fits waiting word (short_of word) h pass fits
  long_or_other-fits waiting word (Some p) h pass fits =
      let met = long_met rules (arg_by_long rules p.0) p.1 h in
      after_flag-fits waiting word met.0 met.1 (long_met-fits (arg_by_long rules p.0) p.1 h (known_by _) pass fits)

  -- ---- a value of a positional

  pub to_positional-fits : (found : Option Rule) (word : Text) (w : Walk) (h : Held)
      → option_map_or (λ a. positional_passes rules again a h) found false ≡ true → FitRows rules h.rows
      → FitRows rules (to_positional rules found word w h).held.rows
  to_positional-fits None word w h pass fits = fits
  to_positional-fits (Some a) word w h pass fits = go (is_pending a h.pending && takes_several a) refl
    where
      go : (b : Bool) → (is_pending a h.pending && takes_several a) ≡ b → FitRows rules (positional_held rules a word h).rows
      go true e = rw e fits
      go false e = rw e (settled-fits h (rw e at pass) fits)

module _ (s : Shape) (names : Names) (fit : AreFit s.rules) where
  other-fits : (met : Option Text) (waiting : Waiting) (position : ℕ) (word : Text) (h : Held) → other_passes s met word h ≡ true → FitRows s.rules h.rows
      → FitRows s.rules (subcommand_or_other s.rules met waiting position word h).0.rows
  other-fits (Some name) waiting position word h pass fits = fits
  other-fits None waiting position word h pass fits = go (bytes_eq word (45 ∷ 45 ∷ [])) refl
    where
      go : (b : Bool) → bytes_eq word (45 ∷ 45 ∷ []) ≡ b → FitRows s.rules (subcommand_or_other s.rules None waiting position word h).0.rows
      go true e = rw e fits
      go false e = rw e (long_or_other-fits s.rules s.args_override_self fit waiting word (long_of word) h (rw e at pass) fits)

  word_met-fits : (is_trailing : Bool) (waiting : Waiting) (position : ℕ) (word : Text) (h : Held) → word_passes s names is_trailing waiting word h ≡ true
      → FitRows s.rules h.rows → FitRows s.rules (word_met s.rules names is_trailing waiting position word h).0.rows
  word_met-fits true waiting position word h pass fits = fits
  word_met-fits false waiting position word h pass fits = other-fits (subcommand_met names waiting word) waiting position word h pass fits

  after_step-fits : (word : Text) (w : Walk) (h : Held) (step : Step) → step_passes s w.position h step ≡ true → FitRows s.rules h.rows
      → FitRows s.rules (after_step s.rules word w h step).held.rows
  after_step-fits word w h (next waiting) pass fits = fits
  after_step-fits word w h (trailing position) pass fits = fits
  after_step-fits word w h (subcommand name) pass fits = fits
  after_step-fits word w h value pass fits = to_positional-fits s.rules s.args_override_self fit (arg_by_index s.rules w.position) word w h pass fits

  walked_from-fits : (stopped : Option (Text × List Text)) (w : Walk) (word : Text) → turn_passes s names (record w { stopped = stopped }) word ≡ true
      → FitRows s.rules w.held.rows → FitRows s.rules (walked_from s.rules names stopped w word).held.rows
  walked_from-fits (Some p) w word pass fits = fits
  walked_from-fits None w word pass fits =
      let met = word_met s.rules names w.is_trailing w.waiting w.position word w.held in
      let parts = both (word_passes s names w.is_trailing w.waiting word w.held) _ pass in
      after_step-fits word w met.0 met.1 parts.1 (word_met-fits w.is_trailing w.waiting w.position word w.held parts.0 fits)

  walked-fits : (w : Walk) (word : Text) → turn_passes s names w word ≡ true → FitRows s.rules w.held.rows → FitRows s.rules (walked s.rules names w word).held.rows
  unfolding walked
  walked-fits w word pass fits = walked_from-fits w.stopped w word pass fits

  pub walk-fits : (w : Walk) (words : List Text) → walk_passes s names w words ≡ true → FitRows s.rules w.held.rows
      → FitRows s.rules (fold (walked s.rules names) w words).held.rows
  unfolding walk_passes
  walk-fits w [] pass fits = fits
  walk-fits w (word ∷ words) pass fits =
      let parts = both _ _ pass in
      walk-fits (walked s.rules names w word) words parts.1 (walked-fits w word parts.0 fits)
