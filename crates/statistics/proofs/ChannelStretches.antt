-- The statistics of a channel over stretches of cycles, one after the other, are joined.
use Rattle.std.proofs.Common.{◌≡◌, ℕ, Option, Some, None, refl, ap, add-zero, add_assoc, arith}
use Rattle.std.specs.Prelude.{max}
use Rattle.statistics.specs.declared.channels.ChannelStats.{ChannelStats}
use Rattle.statistics.specs.Channels.{channel_none, channel_joined}
use Rattle.statistics.specs.Counts.{sum_of_counts}

sum_of_counts-assoc : (a b c : Option ℕ) → sum_of_counts (sum_of_counts a b) c ≡ sum_of_counts a (sum_of_counts b c)
sum_of_counts-assoc None b c = refl
sum_of_counts-assoc (Some a) None c = refl
sum_of_counts-assoc (Some a) (Some b) None = refl
sum_of_counts-assoc (Some a) (Some b) (Some c) = ap Some (add_assoc a b c)

sum_of_counts-none : (a : Option ℕ) → sum_of_counts a None ≡ a
sum_of_counts-none None = refl
sum_of_counts-none (Some a) = refl

greater_of_three : (a b c : ℕ) → max (max a b) c ≡ max a (max b c)
greater_of_three a b c = omega arith

greater_of_none : (a : ℕ) → max a 0 ≡ a
greater_of_none a = omega arith

pub channel_joined-assoc : (a b c : ChannelStats) → channel_joined (channel_joined a b) c ≡ channel_joined a (channel_joined b c)
channel_joined-assoc a b c =
    let f = sum_of_counts-assoc a.draining b.draining c.draining in
    let g = greater_of_three a.queued_max b.queued_max c.queued_max in
    simp (add_assoc, f, g)

pub channel_joined-none : (a : ChannelStats) → channel_joined a channel_none ≡ a
channel_joined-none a = simp (add-zero, sum_of_counts-none, greater_of_none)
