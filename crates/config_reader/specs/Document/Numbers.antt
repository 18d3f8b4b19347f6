-- The numbers of a document, key by key, and what ends a run.
--     numbers_of ms keys      refuses the first number of these keys that is not right
--     AreNumbers ms      the number at each key is right
--     number_in ms key      the number at a key
--     end_of      whether the run ends as soon as all is done
use Rattle.std.specs.Prelude.{ℕ, List, [], ◌∷◌, Bool, true, false, if◌then◌else◌, codes, Option, Some, None, Result, Ok, Err, IsOk}
use Rattle.std.specs.Result.{result_unwrap_or}
use Rattle.std.specs.Str.{bytes_eq}
use Rattle.toml.specs.Data.{Data, Members, as_str}
use Rattle.sim_base.specs.Keys.{numbers_before_fields, numbers_behind_fields}
use Rattle.sim_base.specs.declared.fault.Fault.{Fault}
use Rattle.sim_base.specs.declared.fault.Fault.TheVariants.{ConfigKey, ConfigRange}
use Rattle.sim_base.specs.declared.key.Key.{Key}
use Rattle.sim_base.specs.declared.key.Key.TheVariants as key
use Rattle.sim_base.specs.TraceText.{◌>>=◌}
use Rattle.config_reader.specs.Document.Keys.{data_at, number_at}

-- the numbers at these keys, tested one after the other: the fault is that of the first that is refused
unfoldable pub numbers_of : Members → List Key → Result (Unit {0}) Fault
numbers_of ms [] = Ok tt
numbers_of ms (k ∷ ks) = do
  _ ← number_at ms k
  numbers_of ms ks

-- a document is refused for none of its numbers
pub record AreNumbers (ms : Members) : Type 0 where
  pub before_fields : IsOk (numbers_of ms numbers_before_fields)
  pub behind_fields : IsOk (numbers_of ms numbers_behind_fields)

-- the number at a key; 0 where it is refused, which no number of a document is that is refused for none (`AreNumbers`)
unfoldable pub number_in : Members → Key → ℕ
number_in ms k = result_unwrap_or (number_at ms k) 0

-- the word for the run's end
abbrev pub end_named : Option (List ℕ) → Result Bool Fault
end_named None = Err (ConfigKey key.End)
end_named (Some word) =
    if bytes_eq word (codes "limit") then Ok false else
    if bytes_eq word (codes "drained") then Ok true else Err (ConfigRange key.End)

-- what stands at the key `end`, if anything does
abbrev pub end_from : Option Data → Result Bool Fault
end_from None = Ok false
end_from (Some d) = end_named (as_str d)

-- whether the run ends as soon as all is done: `drained`; with `limit`, or where the key is left out, it ends only at
-- the limit
unfoldable pub end_of : Members → Result Bool Fault
end_of ms = end_from (data_at ms key.End)
