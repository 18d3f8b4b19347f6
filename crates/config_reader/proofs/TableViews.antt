-- Tests over the entries of a table, and over the values of an array, beside those over what they stand for.
use Rattle.std.proofs.Common.{◌≡◌, ◌&&◌, ℕ, ◌<◌, length, suc, List, [], ◌∷◌, ◌++◌, ◌+◌, ◌≤◌, get_or, drop, drop-cons, Result, Ok, Err, refl, sym, ap, string_bytes, append_assoc}
use Rattle.std.proofs.lemmas.List.{append-nil, drop_more, drop_all}
use Rattle.std.specs.List.{list_all}
use Rattle.std.specs.Map.{keys_of}
use Rattle.std.specs.Prelude.{is_some}
use Rattle.toml.specs.View.{view, items_view, members_view}
use Rattle.toml.specs.Data.{as_str, as_table}
use Rattle.toml.specs.declared.value.Value.{Value}
use Rattle.toml.proofs.Views.{Entry}
use Rattle.sim_base.specs.declared.fault.Fault.{Fault}
use Rattle.sim_base.specs.declared.overrides.Override.{Override}
use Rattle.sim_base.specs.declared.place.Field.{Field}
use Rattle.config_reader.specs.Document.Fields.{are_texts, field_named, fields_named}
use Rattle.config_reader.specs.Document.Links.{override_from, overrides_in}
use Rattle.sim_base.specs.TraceText.{◌>>=◌}
use Rattle.config_reader.specs.Document.Keys.{is_known, keys_are_known, count_of}

pub keys_are_known-view : (es : List Entry) → list_all (λ k. is_known (string_bytes k)) (keys_of es) ≡ keys_are_known (members_view es)
keys_are_known-view [] = refl
keys_are_known-view (e ∷ es) = ap (λ b. is_known (string_bytes e.0) && b) (keys_are_known-view es)

pub count_of-view : (es : List Entry) → count_of (members_view es) ≡ length es
count_of-view [] = refl
count_of-view (e ∷ es) = ap suc (count_of-view es)

pub are_texts-view : (vs : List Value) → list_all (λ v. is_some (as_str (view v))) vs ≡ are_texts (items_view vs)
are_texts-view [] = refl
are_texts-view (v ∷ vs) = ap (λ b. is_some (as_str (view v)) && b) (are_texts-view vs)

-- what a loop has read so far, and then what it reads of the rest
abbrev pub prepend : {T : Type 0} → List T → Result (List T) Fault → Result (List T) Fault
prepend xs (Ok ys) = Ok (xs ++ ys)
prepend xs (Err e) = Err e

-- an item is refused, and with it all that it stands among
pub refused_field : (xs : List Field) (e : Fault) (vs : List Value) (i : ℕ) (v : Value) → i < length vs → field_named (as_str (view (get_or vs i v))) ≡ Err e
    → prepend xs (fields_named (items_view (drop i vs))) ≡ Err e
refused_field xs e vs i v h refused = rw (drop-cons vs i v h) (rw refused refl)

pub refused_override : (xs : List Override) (e : Fault) (vs : List Value) (i : ℕ) (v : Value) → i < length vs → override_from (as_table (view (get_or vs i v))) ≡ Err e
    → prepend xs (overrides_in (items_view (drop i vs))) ≡ Err e
refused_override xs e vs i v h refused = rw (drop-cons vs i v h) (rw refused refl)

-- an item more is read
prepend-more : {T : Type 0} (xs : List T) (x : T) (rest : Result (List T) Fault) → prepend xs (rest >>= λ others. Ok (x ∷ others)) ≡ prepend (xs ++ x ∷ []) rest
prepend-more xs x (Ok ys) = ap Ok (sym (append_assoc xs (x ∷ []) ys))
prepend-more xs x (Err e) = refl

pub read_field : (xs : List Field) (x : Field) (vs : List Value) (i : ℕ) (v : Value) → i < length vs → field_named (as_str (view (get_or vs i v))) ≡ Ok x
    → prepend xs (fields_named (items_view (drop i vs))) ≡ prepend (xs ++ x ∷ []) (fields_named (items_view (drop (i + 1) vs)))
read_field xs x vs i v h read = rw (drop_more vs i v h) (rw read (prepend-more xs x (fields_named (items_view (drop (i + 1) vs)))))

pub read_override : (xs : List Override) (x : Override) (vs : List Value) (i : ℕ) (v : Value) → i < length vs → override_from (as_table (view (get_or vs i v))) ≡ Ok x
    → prepend xs (overrides_in (items_view (drop i vs))) ≡ prepend (xs ++ x ∷ []) (overrides_in (items_view (drop (i + 1) vs)))
read_override xs x vs i v h read = rw (drop_more vs i v h) (rw read (prepend-more xs x (overrides_in (items_view (drop (i + 1) vs)))))

-- no item is left
pub all_fields : (xs : List Field) (vs : List Value) (i : ℕ) → length vs ≤ i → prepend xs (fields_named (items_view (drop i vs))) ≡ Ok xs
all_fields xs vs i h = rw (drop_all i vs h) (ap Ok (append-nil xs))

pub all_overrides : (xs : List Override) (vs : List Value) (i : ℕ) → length vs ≤ i → prepend xs (overrides_in (items_view (drop i vs))) ≡ Ok xs
all_overrides xs vs i h = rw (drop_all i vs h) (ap Ok (append-nil xs))
