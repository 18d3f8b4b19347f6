-- What the command line takes gives each argument that its command needs.
use Rattle.std.proofs.Common.{◌≡◌, ◌⊎◌, inl, inr, Bool, true, false, not, ◌&&◌, ◌||◌, List, [], ◌∷◌, codes, Option, Some, None, is_some, refl, sym, subst}
use Rattle.std.specs.Prelude.{IsSome}
use Rattle.std.specs.List.{find}
use Rattle.std.specs.Option.{option_map_or}
use Rattle.std.specs.Str.{bytes_eq}
use Rattle.std.proofs.lemmas.Slice.Eq.{bytes_eq-Decides}
use Rattle.clap.proofs.OnLiterals.{clap_on_literals}
use Rattle.clap.proofs.ValueTestLemmas.{accepts-Accepts}
use Rattle.clap.proofs.WalkLemmas.{both}
use Rattle.clap.specs.Simple.{App, Shape, argument_words, built, built_leaf, entered, help_shape, inherited, is_simple, label_of, marked_built, names_of, with_leaf_noted}
use Rattle.clap.specs.Walk.{Row, Rule, Text, answers_to, nothing_held, one_of, rows_after, walk, walk_from}
use Rattle.clap.specs.ValueTests.{accepts}
use Rattle.clap.specs.Takes.{built_takes, entered_passes, is_given, level_passes, settle_passes, walk_passes}
use Rattle.clap.specs.declared.builder.value_parser.ValueParser.TheVariants.{Unsigned}
use Rattle.command_line.specs.CommandLine.{program_app, run_app, check_app, map_app, show_app, page_app, compare_app}
use Rattle.command_line.specs.Ask.{is_taken, command_of, GivesAll, GivesRun, GivesCheck, GivesMap, GivesShow, GivesPage, GivesCompare, IsCountText, IsNoneOrCount}
use Rattle.command_line.proofs.RowFacts.{AreFit, FitRows, passes_for}
use Rattle.command_line.proofs.LevelFacts.{StopsOn, given, level-gives, optional, walk-stop}

-- ---- the subcommand that is entered

-- the subcommand at which a walk stopped is one of the command's, it passes, and it is not `help`
record Enters (app : App) (stop : Option (Text × List Text)) : Type 0 where
  pub name : Text
  pub words : List Text
  pub shape : Shape
  pub found : find (λ s. answers_to name (label_of s)) app.subs ≡ Some shape
  pub passes : level_passes shape [] nothing_held words false ≡ true
  pub named : bytes_eq name (codes "help") ≡ false
  pub is : entered app stop ≡ Some (shape.name, rows_after shape.rules [] words)

enters_found : (app : App) (p : Text × List Text) (found : Option Shape) → find (λ s. answers_to p.0 (label_of s)) app.subs ≡ found → StopsOn (Some p)
    → option_map_or (λ s. level_passes s [] nothing_held p.1 false) found true ≡ true → is_some found ≡ true → Enters app (Some p)
enters_found app p None e on pass has = cc
enters_found app p (Some s) e on pass has = record { name = p.0; words = p.1; shape = s; found = e; passes = pass; named = on; is = rw e refl }

is_some_mapped : {A B : Type 0} (f : A → B) (o : Option A) → is_some (elim o as (λ _. Option B) [ None ↦ None | Some x ↦ Some (f x) ]) ≡ true → is_some o ≡ true
is_some_mapped f None has = has
is_some_mapped f (Some x) has = refl

enters_at : (app : App) (stop : Option (Text × List Text)) → StopsOn stop → entered_passes app stop ≡ true → is_some (entered app stop) ≡ true → Enters app stop
enters_at app None on pass has = cc
enters_at app (Some p) on pass has = enters_found app p _ refl on pass (is_some_mapped _ _ has)

wanted : (a b : Bool) → a ≡ true → (not a || b) ≡ true → b ≡ true
wanted true b e h = h
wanted false b e h = cc

-- words that pass enter a subcommand, where one is required
enters : (app : App) (words : List Text) → app.top.subcommand_required ≡ true → app.top.disable_help_subcommand ≡ false
    → built_takes app nothing_held words ≡ true → Enters app (walk app.top.rules (names_of app) nothing_held words).stopped
enters app words required has_help pass =
    let stop = (walk app.top.rules (names_of app) nothing_held words).stopped in
    let end = (walk app.top.rules (names_of app) nothing_held words).held in
    let parts = both (entered_passes app stop) _ pass in
    let walked = both (walk_passes app.top (names_of app) (walk_from nothing_held) words) _ parts.1 in
    let settles = both (settle_passes app.top.rules app.top.args_override_self end) _ walked.1 in
    let valid = both _ _ (both _ _ settles.1).1 in
    enters_at app stop (walk-stop app.top (names_of app) has_help (walk_from nothing_held) words walked.0 tt) parts.0 (wanted _ _ required (both _ _ valid.1).0)

-- ---- the commands

or_false : (b : Bool) → (b || false) ≡ true → b ≡ true
or_false true h = h
or_false false h = h

is_count : (text : Text) (o : Option Text) → o ≡ Some text → (accepts false (Unsigned 0 18446744073709551615) text || false) ≡ true → IsCountText o
is_count text o is pass =
    let number = accepts-Accepts false (Unsigned 0 18446744073709551615) text (or_false _ pass) in
    rw is (number.0, number.1)

is_there : {A : Type 0} (o : Option A) (x : A) → o ≡ Some x → IsSome o
is_there o x is = rw is refl

-- the program, when its subcommands are built
abbrev above : Shape
above = with_leaf_noted (marked_built program_app.top)

abbrev run_leaf : Shape
run_leaf = built_leaf (inherited above run_app.top)

abbrev check_leaf : Shape
check_leaf = built_leaf (inherited above check_app.top)

abbrev map_leaf : Shape
map_leaf = built_leaf (inherited above map_app.top)

abbrev show_leaf : Shape
show_leaf = built_leaf (inherited above show_app.top)

abbrev page_leaf : Shape
page_leaf = built_leaf (inherited above page_app.top)

abbrev compare_leaf : Shape
compare_leaf = built_leaf (inherited above compare_app.top)

abbrev help_leaf : Shape
help_leaf = built_leaf help_shape

run_gives : (words : List Text) → level_passes run_leaf [] nothing_held words false ≡ true → GivesRun (rows_after run_leaf.rules [] words)
run_gives words pass =
    let rules = run_leaf.rules in
    let rows = rows_after rules [] words in
    let fit : AreFit rules = ((refl, refl), ((refl, refl), ((refl, refl), ((refl, refl), ((refl, refl), ((refl, refl), ((refl, refl), ((refl, refl), tt)))))))) in
    let level = level-gives run_leaf words fit (refl, (refl, (refl, (refl, (refl, (refl, (refl, (refl, tt)))))))) pass in
    let needs : (is_given (codes "config") rows && (is_given (codes "cycles") rows && (is_given (codes "workers") rows
    && (is_given (codes "out") rows && (is_given (codes "trace") rows && true))))) ≡ true = level.1 in
    let from_cycles = both _ _ (both _ _ needs).1 in
    let from_workers = both _ _ from_cycles.1 in
    let from_out = both _ _ from_workers.1 in
    let config = given rules (codes "config") rows level.0 (both _ _ needs).0 in
    let cycles = given rules (codes "cycles") rows level.0 from_cycles.0 in
    let workers = given rules (codes "workers") rows level.0 from_workers.0 in
    let out = given rules (codes "out") rows level.0 from_out.0 in
    let trace = given rules (codes "trace") rows level.0 (both _ _ from_out.1).0 in
    record {
      config = is_there _ _ config.first;
      cycles = is_count cycles.text _ cycles.one cycles.passes;
      workers = is_count workers.text _ workers.one workers.passes;
      out = is_there _ _ out.first;
      traces = is_there _ _ trace.all.1;
    }

check_gives : (words : List Text) → level_passes check_leaf [] nothing_held words false ≡ true → GivesCheck (rows_after check_leaf.rules [] words)
check_gives words pass =
    let rules = check_leaf.rules in
    let rows = rows_after rules [] words in
    let level = level-gives check_leaf words ((refl, refl), ((refl, refl), ((refl, refl), tt))) (refl, (refl, (refl, tt))) pass in
    let needs : (is_given (codes "config") rows && (is_given (codes "commands") rows && true)) ≡ true = level.1 in
    let config = given rules (codes "config") rows level.0 (both _ _ needs).0 in
    let commands = given rules (codes "commands") rows level.0 (both _ _ (both _ _ needs).1).0 in
    record { config = is_there _ _ config.first; commands = is_there _ _ commands.first }

map_gives : (words : List Text) → level_passes map_leaf [] nothing_held words false ≡ true → GivesMap (rows_after map_leaf.rules [] words)
map_gives words pass =
    let rules = map_leaf.rules in
    let rows = rows_after rules [] words in
    let level = level-gives map_leaf words ((refl, refl), ((refl, refl), ((refl, refl), tt))) (refl, (refl, (refl, tt))) pass in
    let needs : (is_given (codes "config") rows && (is_given (codes "address") rows && true)) ≡ true = level.1 in
    let config = given rules (codes "config") rows level.0 (both _ _ needs).0 in
    let address = given rules (codes "address") rows level.0 (both _ _ (both _ _ needs).1).0 in
    record { config = is_there _ _ config.first; address = is_there _ _ address.first }

show_gives : (words : List Text) → level_passes show_leaf [] nothing_held words false ≡ true → GivesShow (rows_after show_leaf.rules [] words)
unfolding clap_on_literals
show_gives words pass =
    let rules = show_leaf.rules in
    let rows = rows_after rules [] words in
    let fit : AreFit rules = ((refl, refl), ((refl, refl), ((refl, refl), ((refl, refl), ((refl, refl), ((refl, refl), tt)))))) in
    let level = level-gives show_leaf words fit (refl, (refl, (refl, (refl, (refl, (refl, tt)))))) pass in
    let needs : (is_given (codes "dir") rows && true) ≡ true = level.1 in
    let dir = given rules (codes "dir") rows level.0 (both _ _ needs).0 in
    record { dir = is_there _ _ dir.first }

-- a number that may be left out
none_or_count : (rules : List Rule) (id : Text) (rows : List Row) → FitRows rules rows → ((text : Text) → passes_for rules id text ≡ true → IsCountText (Some text)) → IsNoneOrCount (one_of id rows)
none_or_count rules id rows fit counts = elim (optional rules id rows fit) [
  | inl none ↦ rw none tt
  | inr there ↦ rw there.one (counts there.text there.passes)
]

page_gives : (words : List Text) → level_passes page_leaf [] nothing_held words false ≡ true → GivesPage (rows_after page_leaf.rules [] words)
page_gives words pass =
    let rules = page_leaf.rules in
    let rows = rows_after rules [] words in
    let fit : AreFit rules = ((refl, refl), ((refl, refl), ((refl, refl), ((refl, refl), ((refl, refl), ((refl, refl), ((refl, refl), tt))))))) in
    let level = level-gives page_leaf words fit (refl, (refl, (refl, (refl, (refl, (refl, (refl, tt))))))) pass in
    let needs : (is_given (codes "dir") rows && (is_given (codes "file") rows && true)) ≡ true = level.1 in
    let dir = given rules (codes "dir") rows level.0 (both _ _ needs).0 in
    let file = given rules (codes "file") rows level.0 (both _ _ (both _ _ needs).1).0 in
    record {
      dir = is_there _ _ dir.first;
      file = is_there _ _ file.first;
      from = none_or_count rules (codes "from") rows level.0 (λ text pass. is_count text (Some text) refl pass);
      cycles = none_or_count rules (codes "cycles") rows level.0 (λ text pass. is_count text (Some text) refl pass);
    }

compare_gives : (words : List Text) → level_passes compare_leaf [] nothing_held words false ≡ true → GivesCompare (rows_after compare_leaf.rules [] words)
unfolding clap_on_literals
compare_gives words pass =
    let rules = compare_leaf.rules in
    let rows = rows_after rules [] words in
    let level = level-gives compare_leaf words ((refl, refl), ((refl, refl), ((refl, refl), tt))) (refl, (refl, (refl, tt))) pass in
    let needs : (is_given (codes "dir") rows && true) ≡ true = level.1 in
    let dirs = given rules (codes "dir") rows level.0 (both _ _ needs).0 in
    record { dirs = is_there _ _ dirs.all.1 }

-- ---- which of them the words name

abbrev IsAmongSix : Shape → Shape → Shape → Shape → Shape → Shape → Shape → Type 0
IsAmongSix x y z w v u s = (s ≡ x) ⊎ ((s ≡ y) ⊎ ((s ≡ z) ⊎ ((s ≡ w) ⊎ ((s ≡ v) ⊎ (s ≡ u)))))

among_six : (p : Shape → Bool) (x y z w v u last s : Shape) → p last ≡ false → find p (x ∷ y ∷ z ∷ w ∷ v ∷ u ∷ last ∷ []) ≡ Some s → IsAmongSix x y z w v u s
among_six p x y z w v u last s not_last found = go (p x) (p y) (p z) (p w) (p v) (p u) refl refl refl refl refl refl
  where
    go : (a b c d f g : Bool) → p x ≡ a → p y ≡ b → p z ≡ c → p w ≡ d → p v ≡ f → p u ≡ g → IsAmongSix x y z w v u s
    go true b c d f g is_x is_y is_z is_w is_v is_u = let e : Some x ≡ Some s = rw is_x at found in inl (cc e)
    go false true c d f g is_x is_y is_z is_w is_v is_u = let e : Some y ≡ Some s = rw (is_x, is_y) at found in inr (inl (cc e))
    go false false true d f g is_x is_y is_z is_w is_v is_u = let e : Some z ≡ Some s = rw (is_x, is_y, is_z) at found in inr (inr (inl (cc e)))
    go false false false true f g is_x is_y is_z is_w is_v is_u = let e : Some w ≡ Some s = rw (is_x, is_y, is_z, is_w) at found in inr (inr (inr (inl (cc e))))
    go false false false false true g is_x is_y is_z is_w is_v is_u = let e : Some v ≡ Some s = rw (is_x, is_y, is_z, is_w, is_v) at found in inr (inr (inr (inr (inl (cc e)))))
    go false false false false false true is_x is_y is_z is_w is_v is_u =
        let e : Some u ≡ Some s = rw (is_x, is_y, is_z, is_w, is_v, is_u) at found in inr (inr (inr (inr (inr (cc e)))))
    go false false false false false false is_x is_y is_z is_w is_v is_u =
        let e : None ≡ Some s = rw (is_x, is_y, is_z, is_w, is_v, is_u, not_last) at found in cc

not_help : (name : Text) → bytes_eq name (codes "help") ≡ false → answers_to name (label_of help_leaf) ≡ false
not_help name named = go (bytes_eq (codes "help") name) refl
  where
    go : (b : Bool) → bytes_eq (codes "help") name ≡ b → answers_to name (label_of help_leaf) ≡ false
    go false e = rw e refl
    go true e =
        let same : name ≡ codes "help" = sym ((bytes_eq-Decides (codes "help") name).0 e) in
        let is_help : bytes_eq name (codes "help") ≡ true = (bytes_eq-Decides name (codes "help")).1 same in
        cc

shape_gives : (s : Shape) (words : List Text) → IsAmongSix run_leaf check_leaf map_leaf show_leaf page_leaf compare_leaf s → level_passes s [] nothing_held words false ≡ true
    → GivesAll (Some (s.name, rows_after s.rules [] words))
shape_gives s words which pass =
    let P : Shape → Type 0 = λ s. level_passes s [] nothing_held words false ≡ true → GivesAll (Some (s.name, rows_after s.rules [] words)) in
    elim which [
      | inl is_run ↦ subst P (sym is_run) (λ pass. inl (refl, run_gives words pass)) pass
      | inr others ↦ elim others [
        | inl is_check ↦ subst P (sym is_check) (λ pass. inr (inl (refl, check_gives words pass))) pass
        | inr later ↦ elim later [
          | inl is_map ↦ subst P (sym is_map) (λ pass. inr (inr (inl (refl, map_gives words pass)))) pass
          | inr last ↦ elim last [
            | inl is_show ↦ subst P (sym is_show) (λ pass. inr (inr (inr (inl (refl, show_gives words pass))))) pass
            | inr end ↦ elim end [
              | inl is_page ↦ subst P (sym is_page) (λ pass. inr (inr (inr (inr (inl (refl, page_gives words pass)))))) pass
              | inr is_compare ↦ subst P (sym is_compare) (λ pass. inr (inr (inr (inr (inr (refl, compare_gives words pass)))))) pass
            ]
          ]
        ]
      ]
    ]

pub taken_gives_all : (words : List Text) → is_taken words ≡ true → GivesAll (command_of words)
unfolding is_taken command_of
taken_gives_all words taken =
    let pass = (both (is_simple program_app) _ taken).1 in
    let sub = enters (built program_app) (argument_words program_app words) refl refl pass in
    let which = among_six (λ s. answers_to sub.name (label_of s)) run_leaf check_leaf map_leaf show_leaf page_leaf compare_leaf help_leaf sub.shape (not_help sub.name sub.named) sub.found in
    subst GivesAll (sym sub.is) (shape_gives sub.shape sub.words which sub.passes)
