-- Messages in lists: one for each shard, or a row of them for each shard.
--     bound bounds index      where a shard begins
--     lists_of lists      what stands in lists, one after the other
--     AllEmpty lists      nothing stands in any of them
--     with_lists links lists      what is in flight after what stands in lists is sent
--     LowersAll s first lists old new      words are lowered to what stands in lists
--     AreSortedByShard s bounds sent lists      the list of each shard holds what goes to its units
--     GainOne s bounds m old new      the list of each shard has gained a message, if that goes to its units
--     SameElsewhere index old new      lists stay as they were but for one
--     IsSquare count rows      each of the first `count` rows has `count` lists
--     AllRowsEmpty count rows      nothing stands in the lists of the first `count` rows
--     HaveListsAt index rows      each row has a list at an index
--     SameWidths old new, SameOtherLists index old new      rows stay as they were but for the lists at an index
--     AreListsAt index rows column      a column of the lists at an index
--     AreTurned rows columns      what stands by row and then by column, by column and then by row
use Rattle.std.specs.Prelude.{◌≡◌, ◌≢◌, ℕ, suc, ◌<◌, List, [], ◌∷◌, ◌++◌, length, flat_map, slice_index_or, All}
use Rattle.std.specs.declared.vec.Vec.{Vec}
use Rattle.std.specs.declared.alloc.Global.{Global}
use Rattle.sim_base.specs.declared.config.Config.{Config}
use Rattle.sim_base.specs.declared.message.Message.{Message}
use Rattle.links.specs.InFlight.{InFlight, with_sent}
use Rattle.units.specs.Flight.{among}
use Rattle.units.specs.Wakes.{AreLowered}

-- where the shard with number `index` begins; behind the last shard, the number of units
abbrev pub bound : List ℕ → ℕ → ℕ
bound bounds index = slice_index_or bounds index 0

-- what stands in lists, one list after the other
abbrev pub lists_of : List (Vec Message Global) → List Message
lists_of lists = flat_map (λ (list : Vec Message Global). list.items) lists

-- nothing stands in any list
abbrev pub AllEmpty : List (Vec Message Global) → Type 0
AllEmpty lists = All (λ (list : Vec Message Global). list.items ≡ []) lists

-- what is in flight after what stands in lists is sent, list by list
abbrev pub with_lists : InFlight → List (Vec Message Global) → InFlight
with_lists links lists = with_sent links (lists_of lists)

-- the words of units at places from `first` on are lowered to the arrivals of what stands in lists
abbrev pub LowersAll : Config → ℕ → List (Vec Message Global) → List ℕ → List ℕ → Type 0
LowersAll s first lists old new = AreLowered s first (lists_of lists) old new

-- the list with a number holds, of these messages, those to units of the shard with this number
abbrev pub AreSortedByShard : Config → List ℕ → List Message → List (Vec Message Global) → Type 0
AreSortedByShard s bounds sent lists =
    (index : ℕ) (d : Vec Message Global) → index < length lists
    → (slice_index_or lists index d).items ≡ among s (bound bounds index) (bound bounds (suc index)) sent

-- the list with a number has gained, behind what it held, a message that goes to units of the shard with this number
abbrev pub GainOne : Config → List ℕ → Message → List (Vec Message Global) → List (Vec Message Global) → Type 0
GainOne s bounds m old new =
    (index : ℕ) (d : Vec Message Global) → index < length old
    → (slice_index_or new index d).items
    ≡ (slice_index_or old index d).items ++ among s (bound bounds index) (bound bounds (suc index)) (m ∷ [])

-- lists stay as they were but for the one at an index
abbrev pub SameElsewhere : ℕ → List (Vec Message Global) → List (Vec Message Global) → Type 0
SameElsewhere index old new =
    (k : ℕ) (d : Vec Message Global) → k ≢ index → slice_index_or new k d ≡ slice_index_or old k d

-- each of the first `count` rows has `count` lists
abbrev pub IsSquare : ℕ → List (Vec (Vec Message Global) Global) → Type 0
IsSquare count rows =
    (index : ℕ) (d : Vec (Vec Message Global) Global) → index < count
    → length (slice_index_or rows index d).items ≡ count

-- nothing stands in the lists of the first `count` rows
abbrev pub AllRowsEmpty : ℕ → List (Vec (Vec Message Global) Global) → Type 0
AllRowsEmpty count rows =
    (index : ℕ) (d : Vec (Vec Message Global) Global) → index < count
    → lists_of (slice_index_or rows index d).items ≡ []

-- each row has a list at this index
abbrev pub HaveListsAt : ℕ → List (Vec (Vec Message Global) Global) → Type 0
HaveListsAt index rows =
    (i : ℕ) (d : Vec (Vec Message Global) Global) → i < length rows → index < length (slice_index_or rows i d).items

-- each row has as many lists as before
abbrev pub SameWidths : List (Vec (Vec Message Global) Global) → List (Vec (Vec Message Global) Global) → Type 0
SameWidths old new =
    (i : ℕ) (d : Vec (Vec Message Global) Global)
    → length (slice_index_or new i d).items ≡ length (slice_index_or old i d).items

-- the lists of all rows stay as they were but for those at an index
abbrev pub SameOtherLists : ℕ → List (Vec (Vec Message Global) Global) → List (Vec (Vec Message Global) Global)
    → Type 0
SameOtherLists index old new =
    (i j : ℕ) (d : Vec (Vec Message Global) Global) (f : Vec Message Global) → j ≢ index
    → slice_index_or (slice_index_or new i d).items j f ≡ slice_index_or (slice_index_or old i d).items j f

-- the lists that stood at an index of the rows, row by row
abbrev pub AreListsAt : ℕ → List (Vec (Vec Message Global) Global) → List (Vec Message Global) → Type 0
AreListsAt index rows column =
    (i : ℕ) (d : Vec (Vec Message Global) Global) (f g : Vec Message Global) → i < length rows
    → slice_index_or column i f ≡ slice_index_or (slice_index_or rows i d).items index g

-- what stood in a row at an index stands in the column with this index, at the number of the row
abbrev pub AreTurned : List (Vec (Vec Message Global) Global) → List (Vec (Vec Message Global) Global) → Type 0
AreTurned rows columns =
    (i j : ℕ) (d e : Vec (Vec Message Global) Global) (f g : Vec Message Global) → i < length rows → j < length rows
    → (slice_index_or (slice_index_or columns j d).items i f).items
    ≡ (slice_index_or (slice_index_or rows i e).items j g).items
