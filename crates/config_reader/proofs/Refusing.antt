-- What is refused by `?`.
use Rattle.std.proofs.Common.{◌≡◌, Result, Ok, Err, ap}
use Rattle.std.proofs.lemmas.Bool.{false≢true}
use Rattle.std.specs.Result.{IsErr, IsErrAnd}
use Rattle.sim_base.specs.declared.fault.Fault.{Fault}

-- what `?` returns is the same fault
pub same_fault : {A : Type 0} (r : Result A Fault) (e : Fault) → IsErr r × IsErrAnd r (λ f. f ≡ e) → r ≡ Err e
same_fault (Ok x) e h = absurd (false≢true h.0)
same_fault (Err f) e h = ap Err h.1
