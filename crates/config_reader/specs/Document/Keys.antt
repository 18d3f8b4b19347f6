-- What one key of a document gives: its value, or the fault by which the document is refused.
--     data_at, integer_at      what stands at a key
--     number_refused_as named ms key, number_at ms key      the number at a key, by what the key accepts
--     known_of      refuses a key that no configuration has
use Rattle.std.specs.Prelude.{ℕ, suc, ℤ, pos, negsuc, List, Bool, true, nat_le, ◌&&◌, if◌then◌else◌, Option, Some, None, option_and_then, Result, Ok, Err}
use Rattle.std.specs.Int.{is_power_of_two}
use Rattle.std.specs.List.{list_any}
use Rattle.std.specs.Str.{bytes_eq}
use Rattle.toml.specs.Data.{Data, Members, no_members, member, get_member, as_integer}
use Rattle.sim_base.specs.Keys.{key_name, key_accepts, key_default, document_keys}
use Rattle.sim_base.specs.TraceText.{◌>>=◌}
use Rattle.sim_base.specs.declared.fault.Fault.{Fault}
use Rattle.sim_base.specs.declared.fault.Fault.TheVariants.{ConfigKey, ConfigRange}
use Rattle.sim_base.specs.declared.key.Key.{Key}
use Rattle.sim_base.specs.declared.key.Key.TheVariants as key
use Rattle.sim_base.specs.declared.key.Accepts.{Accepts}
use Rattle.sim_base.specs.declared.key.Accepts.TheVariants.{Integer, PowerOfTwo}

-- what stands at a key
abbrev pub data_at : Members → Key → Option Data
data_at ms k = get_member (key_name k) ms

-- the integer at a key; a text, a float and a boolean are not integers
abbrev pub integer_at : Members → Key → Option ℤ
integer_at ms k = option_and_then as_integer (data_at ms k)

-- an integer as a number from low up to high: a value that is not an integer is refused first, then one that is out of
-- range
abbrev pub in_range : Key → ℕ → ℕ → Option ℤ → Result ℕ Fault
in_range k low high None = Err (ConfigKey k)
in_range k low high (Some (pos n)) = if nat_le low n && nat_le n high then Ok n else Err (ConfigRange k)
in_range k low high (Some (negsuc n)) = Err (ConfigRange k)

-- where the key is absent: the number that stands for it, or else the document is refused
abbrev pub absent_number : Key → Option ℕ → Result ℕ Fault
absent_number k None = Err (ConfigKey k)
absent_number k (Some default) = Ok default

-- the number from what stands at a key, from low up to high
abbrev pub number_from : Option ℕ → Key → ℕ → ℕ → Option Data → Result ℕ Fault
number_from default k low high None = absent_number k default
number_from default k low high (Some d) = in_range k low high (as_integer d)

-- a number that has to be a power of two
abbrev pub as_power : Key → ℕ → Result ℕ Fault
as_power k n = if is_power_of_two n then Ok n else Err (ConfigRange k)

-- a number that may stand at a key that accepts this
abbrev pub number_accepted : Accepts → Option ℕ → Key → Option Data → Result ℕ Fault
number_accepted (Integer low high) default k found = number_from default k low high found
number_accepted (PowerOfTwo low high) default k found = number_from default k low high found >>= as_power k
number_accepted _ default k found = Err (ConfigKey k)

-- the number at a key, by what the key accepts and what stands for it where it is absent; where it is refused, the
-- fault names this other key
unfoldable pub number_refused_as : Key → Members → Key → Result ℕ Fault
number_refused_as named ms k = number_accepted (key_accepts k) (key_default k) named (data_at ms k)

-- the number at a key; where it is refused, the fault names the key itself
abbrev pub number_at : Members → Key → Result ℕ Fault
number_at ms k = number_refused_as k ms k

-- a document may have a key of this name
unfoldable pub is_known : List ℕ → Bool
is_known name = list_any (λ k. bytes_eq (key_name k) name) document_keys

-- a document may have each of its keys
abbrev pub keys_are_known : Members → Bool
keys_are_known no_members = true
keys_are_known (member name d ms) = is_known name && keys_are_known ms

-- refuses a document with a key that no configuration has
unfoldable pub known_of : Members → Result (Unit {0}) Fault
known_of ms = if keys_are_known ms then Ok tt else Err (ConfigKey key.Unknown)

-- how many keys there are
abbrev pub count_of : Members → ℕ
count_of no_members = 0
count_of (member name d ms) = suc (count_of ms)
