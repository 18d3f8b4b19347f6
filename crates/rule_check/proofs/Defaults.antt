-- What a reference reads: an element of a list, or what stands for one that is not there.
use Rattle.std.proofs.Common.{Bor, ◌≡◌, ℕ, ◌∙◌, List, get_or, Option, Some, None, refl, sym, ap}
use Rattle.std.specs.Prelude.{slice_get, option_map, unwrap_or}
use Rattle.std.proofs.lemmas.Option.{unwrap_or-slice_get}

now_of : {X : Type 0} (o : Option (Bor X)) (d : Bor X) → (unwrap_or o d).now ≡ unwrap_or (option_map (λ (b : Bor X). b.now) o) d.now
now_of (Some b) d = refl
now_of None d = refl

pub read_or : {X : Type 0} (r d : Bor X) (o : Option (Bor X)) (xs : List X) (i k : ℕ) → r ≡ unwrap_or o d → i ≡ k
    → ((e : X) → unwrap_or (option_map (λ (b : Bor X). b.now) o) e ≡ get_or xs i e) → r.now ≡ unwrap_or (slice_get xs k) d.now
read_or r d o xs i k is place found =
    ap (λ (b : Bor _). b.now) is ∙ now_of o d ∙ found d.now ∙ sym (unwrap_or-slice_get xs i d.now) ∙ ap (λ n. unwrap_or (slice_get xs n) d.now) place
