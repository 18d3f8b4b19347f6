-- Each key of a number is tested, and so its number is right.
use Rattle.std.proofs.Common.{List, [], ◌∷◌, ℕ, IsTrue, Result, Ok, Err, IfOk, refl}
use Rattle.std.proofs.lemmas.Bool.{false≢true}
use Rattle.std.specs.List.{AllByRecursion as Each}
use Rattle.std.specs.Result.{result_unwrap_or}
use Rattle.std.specs.Prelude.{IsOk}
use Rattle.toml.specs.Data.{Members}
use Rattle.sim_base.specs.Keys.{numbers_before_fields, numbers_behind_fields, has_number}
use Rattle.sim_base.specs.declared.fault.Fault.{Fault}
use Rattle.sim_base.specs.declared.key.Key.{Key}
use Rattle.sim_base.specs.declared.key.Key.TheVariants as key
use Rattle.sim_base.specs.TraceText.{◌>>=◌}
use Rattle.config_reader.specs.Document.Keys.{number_at}
use Rattle.config_reader.specs.Document.Numbers.{AreNumbers, numbers_of}

-- what holds of each key of both lists holds of each at which a number stands
listed : (P : Key → Type 0) → Each P numbers_before_fields → Each P numbers_behind_fields → (k : Key) → IsTrue (has_number k) → P k
listed P before behind key.Fields h = absurd (false≢true h)
listed P before behind key.End h = absurd (false≢true h)
listed P before behind key.Link h = absurd (false≢true h)
listed P before behind key.Id h = absurd (false≢true h)
listed P before behind key.Latency h = absurd (false≢true h)
listed P before behind key.Unknown h = absurd (false≢true h)
listed P before behind _ h = assumption (before, behind)

both_right : (first : Result ℕ Fault) (rest : Result (Unit {0}) Fault) → IsOk (first >>= λ _. rest) → IsOk first × IsOk rest
both_right (Ok n) rest h = (refl, h)
both_right (Err e) rest h = absurd (false≢true h)

each_right : (ms : Members) (ks : List Key) → IsOk (numbers_of ms ks) → Each (λ k. IsOk (number_at ms k)) ks
unfolding numbers_of
each_right ms [] h = tt
each_right ms (k ∷ ks) h =
    let both = both_right (number_at ms k) (numbers_of ms ks) h in
    (both.0, each_right ms ks both.1)

-- where a document is refused for none of its numbers, that at each key is right
pub right_number : (ms : Members) → AreNumbers ms → (k : Key) → IsTrue (has_number k) → IsOk (number_at ms k)
right_number ms are =
    listed (λ k. IsOk (number_at ms k)) (each_right ms numbers_before_fields are.before_fields) (each_right ms numbers_behind_fields are.behind_fields)

-- what holds of a number that was not refused holds of what is taken for it
pub kept : (P : ℕ → Type 0) (r : Result ℕ Fault) → IsOk r → IfOk r P → P (result_unwrap_or r 0)
kept P (Ok n) ok holds = holds
kept P (Err e) ok holds = absurd (false≢true ok)
