-- What is said of a result: of a value, where there is one, and of an error.
use Rattle.std.proofs.Common.{Result, Ok, Err}
use Rattle.std.specs.Result.{OnOk, OnErr, IsOk}

-- what holds of a result that is a value
pub when_ok : {T E : Type 0} {A : Type 0} (r : Result T E) → OnOk r A → IsOk r → A
when_ok (Ok x) a q = a
when_ok (Err e) a q = absurd cc

-- what follows from two facts, where both hold of a value
pub both_on_ok : {T E : Type 0} {P Q R : Type 0} (r : Result T E) → (P → Q → R) → OnOk r P → OnOk r Q → OnOk r R
both_on_ok (Ok x) f p q = f p q
both_on_ok (Err e) f p q = tt

-- what holds at all holds on an error
pub on_err : {T E : Type 0} (P : Type 0) (r : Result T E) → P → OnErr r P
on_err P (Ok x) h = tt
on_err P (Err x) h = h
