-- What a `Refresh` keeps.
--     counts_of inside      the counts that contracts see
--     AreKept inside      they are in their ranges, and it is known up to which cycle no refresh is due
use Rattle.bank_ready.specs.Refreshes.{RefreshCounts, IsCounted}
use Rattle.bank_ready.specs.declared.refresh.Refresh.TheInside.{Inside}

-- the counts that contracts see
abbrev pub counts_of : Inside → RefreshCounts
counts_of r = record { interval = r.refresh_interval; ranks = r.ranks; issued = r.issued }

-- the counts are in their ranges, and `none_due_to` is the last cycle in which no refresh is due
abbrev pub AreKept : Inside → Type 0
AreKept r = IsCounted (counts_of r) r.none_due_to
