-- The requests for a line, as a search for their tags meets them.
--     is_tagged_as eligible place a tag      a request waits for a line, and its tag says whether it may be served
--     NoneTaggedAs eligible place log tags from until      no request at a place from `from` up to `until` is tagged so
--     IsFoundAt eligible place log tags from k      the request at place k waits for the line, none before is tagged so
--     IsFirstTagged eligible place log tags from found      what a search from place `from` on finds
use Rattle.std.specs.Prelude.{ℕ, ◌≡◌, ◌<◌, ◌≤◌, ◌==◌, Bool, true, false, ◌&&◌, List, length, slice_index_or, Option, Some, None}
use Rattle.sim_base.specs.declared.place.Place.{Place}
use Rattle.queue.specs.declared.request_log.Arrived.{Arrived}
use Rattle.queue.specs.Log.{absent, is_for}
use Rattle.queue.specs.Columns.{bank_number, tag_word}

-- a request waits for the line of a place, and its tag says that it may be served, or that it may not
abbrev pub is_tagged_as : Bool → Place → Arrived → ℕ → Bool
is_tagged_as eligible place a tag = is_for place a && (tag == tag_word eligible a.request.access (bank_number place))

-- no request at a place of the log from `from` up to `until` waits for the line with a tag that says so
abbrev pub NoneTaggedAs : Bool → Place → List Arrived → List ℕ → ℕ → ℕ → Type 0
NoneTaggedAs eligible place log tags from until =
    (k : ℕ) → from ≤ k → k < until
    → is_tagged_as eligible place (slice_index_or log k absent) (slice_index_or tags k 0) ≡ false

-- the request at place k waits for the line, and none from `from` up to k waits for it with the tag that is looked for
pub record IsFoundAt (eligible : Bool) (place : Place) (log : List Arrived) (tags : List ℕ) (from k : ℕ) : Type 0 where
  pub from_there : from ≤ k
  pub within : k < length log
  pub waits : is_for place (slice_index_or log k absent) ≡ true
  pub none_before : NoneTaggedAs eligible place log tags from k

-- what a search from place `from` on finds: none only where no request for the line has the tag that is looked for
abbrev pub IsFirstTagged : Bool → Place → List Arrived → List ℕ → ℕ → Option ℕ → Type 0
IsFirstTagged eligible place log tags from None = NoneTaggedAs eligible place log tags from (length log)
IsFirstTagged eligible place log tags from (Some k) = IsFoundAt eligible place log tags from k
