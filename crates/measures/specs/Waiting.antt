-- How long requests waited in the queue of their channel, from their arrival to their RD or WR.
--     is_in_class class request, is_of class channel request      a request is of a class, and of a channel
--     counted class channel requests      how many are
--     waited class channel requests      how long they waited, in all
--     channel_waits class channel requests      both
use Rattle.std.specs.Prelude.{ℕ, ◌-◌, ◌==◌, Bool, ◌&&◌, List, count_by, if◌then◌else◌}
use Rattle.std.specs.List.{sum_by}
use Rattle.sim_base.specs.Access.{is_access}
use Rattle.sim_base.specs.declared.message.Access.TheVariants as access
use Rattle.request_table.specs.declared.times.RequestTimes.{RequestTimes}
use Rattle.measures.specs.declared.request_measures.waiting.Class.{Class}
use Rattle.measures.specs.declared.request_measures.waiting.Class.TheVariants.{Reads, Writes, Hits}
use Rattle.measures.specs.declared.request_measures.waiting.Waits.{Waits}

-- a request is of a class
abbrev pub is_in_class : Class → RequestTimes → Bool
is_in_class Reads request = is_access request.access access.Read
is_in_class Writes request = is_access request.access access.Write
is_in_class Hits request = request.hit

-- a request is of a class, and of a channel
abbrev pub is_of : Class → ℕ → RequestTimes → Bool
is_of class channel request = (request.channel == channel) && is_in_class class request

-- how many requests are of a class, and of a channel
abbrev pub counted : Class → ℕ → List RequestTimes → ℕ
counted class channel requests = count_by (is_of class channel) requests

-- how long a request waited if it is of a class and of a channel, and else 0
abbrev pub waited_in : Class → ℕ → RequestTimes → ℕ
waited_in class channel request = if is_of class channel request then request.served - request.arrived else 0

-- how long the requests of a class and of a channel waited, in all
abbrev pub waited : Class → ℕ → List RequestTimes → ℕ
waited class channel requests = sum_by (waited_in class channel) requests

-- how many requests of a channel are of a class, and how long they waited, in all
abbrev pub channel_waits : Class → ℕ → List RequestTimes → Waits
channel_waits class channel requests =
    record { requests = counted class channel requests; cycles = waited class channel requests }
