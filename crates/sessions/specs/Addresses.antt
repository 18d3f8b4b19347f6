-- Which address lies at a place.
--     is_place s place      whether a memory has a place
--     IsAddressOf s place address      the least address that lies at a place
--     IsAddress s place address      the same, where the memory may not have that place
use Rattle.std.specs.Prelude.{◌≡◌, ℕ, ◌≤◌, nat_lt, Bool, true, false, ◌&&◌, Option, Some, None}
use Rattle.sim_base.specs.Places.{place_of}
use Rattle.sim_base.specs.declared.config.Config.{Config}
use Rattle.sim_base.specs.declared.place.Place.{Place}

-- a memory has a place: each of its fields is below its size, and a bank group has four banks
abbrev pub is_place : Config → Place → Bool
is_place s place =
    nat_lt place.channel s.channels && nat_lt place.rank s.ranks && nat_lt place.group s.groups && nat_lt place.bank 4
    && nat_lt place.row s.rows && nat_lt place.column s.columns

-- a memory has a place, and this is the least address that lies there
pub record IsAddressOf (s : Config) (place : Place) (address : ℕ) : Type 0 where
  pub is_there : is_place s place ≡ true
  pub lies_there : place_of s address ≡ place
  pub least : (other : ℕ) → place_of s other ≡ place → address ≤ other

-- the least address that lies at a place, or none where the memory does not have that place
abbrev pub IsAddress : Config → Place → Option ℕ → Type 0
IsAddress s place (Some address) = IsAddressOf s place address
IsAddress s place None = is_place s place ≡ false
