-- Files of any number, from those that were read one after the other.
use Rattle.std.proofs.Common.{◌≡◌, inl, inr, ℕ, zero, suc, ◌<◌, ◌≤◌, List, [], ◌∷◌, ◌++◌, ◌+◌, length, map, take, get_or, Some, None, refl, sym, ap, ap₂, subst, ◌∙◌, arith}
use Rattle.std.proofs.lemmas.List.{length-map, map-append, map_more, take_all, take-map}
use Rattle.sim_base.specs.declared.fault.Fault.{Fault}
use Rattle.rule_check.specs.Verdict.{records_of}
use Rattle.statistics.specs.Values.{RunStats}
use Rattle.whole_files.specs.Files.{Held, SameFiles, IsReadFault}
use Rattle.answers.specs.Answers.{stats_path, stats_table, AreStatsOf}
use Rattle.answers.specs.Refused.{LacksOne, AreTexts, IsFilesFault, IsStatsRefusal, IsCompareFault, HoldRuns}
use Rattle.answers.proofs.RequestFacts.{there}

map_same : {A B : Type 0} (f h : A → B) → ((x : A) → f x ≡ h x) → (xs : List A) → map f xs ≡ map h xs
map_same f h same [] = refl
map_same f h same (x ∷ xs) = ap₂ (λ y ys. y ∷ ys) (same x) (map_same f h same xs)

pub map_twice : {A B C : Type 0} (f : B → C) (h : A → B) (xs : List A) → map f (map h xs) ≡ map (λ x. f (h x)) xs
map_twice f h [] = refl
map_twice f h (x ∷ xs) = ap (λ ys. f (h x) ∷ ys) (map_twice f h xs)

-- one more item of each of two lists of which the same is made
pub map_pushed : {A B C : Type 0} (f : A → C) (h : B → C) (xs : List A) (ys more : List B) (k : ℕ) (d : A) (y : B) → k < length xs → map f (take k xs) ≡ map h ys → f (get_or xs k d) ≡ h y
    → more ≡ ys ++ y ∷ [] → map f (take (k + 1) xs) ≡ map h more
map_pushed f h xs ys more k d y below so_far one pushed =
    map_more f xs k d below ∙ ap₂ (λ zs z. zs ++ z ∷ []) so_far one ∙ sym (map-append h ys (y ∷ [])) ∙ ap (map h) (sym pushed)

-- the last of them
pub map_all : {A C : Type 0} (f : A → C) (xs : List A) (k : ℕ) → length xs ≤ k → map f xs ≡ map f (take k xs)
map_all f xs k past = ap (map f) (sym (take_all k xs past))

-- ---- files that are not read

lacks_at : {A : Type 0} (tells : Type 0) (held : Held) (name : A → List ℕ) (xs : List A) (k : ℕ) (d : A) → k < length xs → (tells → held (name (get_or xs k d)) ≡ None) → LacksOne tells held (map name xs)
lacks_at tells held name [] k d below none = absurd (omega arith)
lacks_at tells held name (x ∷ xs) zero d below none = inl none
lacks_at tells held name (x ∷ xs) (suc k) d below none = inr (lacks_at tells held name xs k d (omega arith) none)

pub not_read_at : {A : Type 0} (tells : Type 0) (old mid : Held) (name : A → List ℕ) (xs : List A) (k : ℕ) (d : A) (fault : Fault) → k < length xs
    → (tells → SameFiles old mid) → IsReadFault tells (mid (name (get_or xs k d))) fault → IsFilesFault tells old (map name xs) fault
not_read_at tells old mid name xs k d fault below same (inl memory) = inl memory
not_read_at tells old mid name xs k d fault below same (inr none) = inr (none.0, lacks_at tells old name xs k d below (λ t. sym (same t (name (get_or xs k d))) ∙ none.1 t))

-- ---- files that are read

pub texts_held : {A B : Type 0} (old mid : Held) (name : A → List ℕ) (bytes : B → List ℕ) (paths : List A) (texts : List B) → SameFiles old mid →
    map (λ p. mid (name p)) paths ≡ map (λ t. Some (bytes t)) texts → map old (map name paths) ≡ map Some (map bytes texts)
texts_held old mid name bytes paths texts same read =
    map_twice old name paths
    ∙ map_same (λ p. old (name p)) (λ p. mid (name p)) (λ p. sym (same (name p))) paths
    ∙ read
    ∙ sym (map_twice Some bytes texts)

pub many_texts : {A B : Type 0} (tells : Type 0) (held : Held) (name : A → List ℕ) (bytes : B → List ℕ) (xs : List A) (ys : List B) → length ys ≡ length xs
    → (tells → map (λ x. held (name x)) xs ≡ map (λ y. Some (bytes y)) ys) → AreTexts tells held (map name xs) (map bytes ys)
many_texts tells held name bytes xs ys count read = record {
  count = length-map ys bytes ∙ count ∙ sym (length-map xs name);
  texts_are = λ t. texts_held held held name bytes xs ys (λ path. refl) (read t);
}

-- ---- tables of a comparison

pub stats_at : {A B : Type 0} (held : Held) (dir : A → List ℕ) (bytes : B → List ℕ) (xs : List A) (ys : List B) (runs : List RunStats)
    → map (λ x. held (stats_path (dir x))) xs ≡ map (λ y. Some (bytes y)) ys → map (λ y. records_of (bytes y)) ys ≡ map stats_table runs → AreStatsOf (map dir xs) held runs
stats_at held dir bytes xs ys runs read rows = record {
  tables = map bytes ys;
  tables_are = ap (map held) (map_twice stats_path dir xs) ∙ texts_held held held (λ x. stats_path (dir x)) bytes xs ys (λ path. refl) read;
  rows_are = map_twice records_of bytes ys ∙ rows;
}

pub hold_runs : {B : Type 0} (bytes : B → List ℕ) (ys : List B) (runs : List RunStats) → map (λ y. records_of (bytes y)) ys ≡ map stats_table runs → HoldRuns (map bytes ys) runs
hold_runs bytes ys runs rows = map_twice records_of bytes ys ∙ rows

-- a table is refused, and those before it are right
pub table_refused : {B : Type 0} (bytes : B → List ℕ) (ys : List B) (runs : List RunStats) (k : ℕ) (d : B) (text : List ℕ) (fault : Fault) → k < length ys
    → map (λ y. records_of (bytes y)) (take k ys) ≡ map stats_table runs → text ≡ bytes (get_or ys k d) → IsStatsRefusal text fault → IsCompareFault (map bytes ys) fault
table_refused bytes ys runs k d text fault within before same refused = record {
  place = k;
  table = bytes (get_or ys k d);
  runs = runs;
  table_is = there bytes ys k d within;
  before = ap (map records_of) (take-map bytes k ys) ∙ hold_runs bytes (take k ys) runs before;
  refused = subst (λ t. IsStatsRefusal t fault) same refused;
}

-- two lists of which the same is made have as many items
pub same_count : {A B C : Type 0} (f : A → C) (h : B → C) (xs : List A) (ys : List B) → map f xs ≡ map h ys → length ys ≡ length xs
same_count f h xs ys same = sym (length-map ys h) ∙ sym (ap length same) ∙ length-map xs f
