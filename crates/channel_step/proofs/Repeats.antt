-- A stretch of cycles in which a channel does the same, and which count alike, is a product.
use Rattle.std.proofs.Common.{◌≡◌, ℕ, zero, suc, ◌+◌, ◌*◌, ◌<◌, Bool, true, false, cond, eqb, List, [], ◌∷◌, ◌++◌, Option, Some, None, refl, sym, ap, ap₂, ◌∙◌, append_assoc, arith}
use Rattle.std.specs.Prelude.{max, replicate, option_map}
use Rattle.std.proofs.Math.Dec.{eqb-suc-zero}
use Rattle.std.proofs.Math.Nat.{zero-mul}
use Rattle.std.proofs.lemmas.Bool.{eqb-true}
use Rattle.std.proofs.lemmas.List.{append-nil}
use Rattle.sim_base.specs.declared.config.Config.{Config}
use Rattle.sim_base.specs.declared.command.Command.{Command}
use Rattle.sim_base.specs.declared.message.Message.{Message}
use Rattle.statistics.specs.declared.channels.ChannelStats.{ChannelStats}
use Rattle.statistics.specs.Counts.{sum_of_counts}
use Rattle.statistics.specs.Channels.{channel_cycle, channel_none, channel_joined, channel_times}

-- the statistics of the cycles after these steps, in which the channel does this, one after the other
abbrev pub channel_stretch : Config → ℕ → List (Option Command) → List Message → List (Option Command) → ChannelStats
channel_stretch s channel steps inbox [] = channel_none
channel_stretch s channel steps inbox (o ∷ more) =
    channel_joined (channel_cycle s channel steps inbox o) (channel_stretch s channel (steps ++ o ∷ []) inbox more)

once_more : (n x : ℕ) → x + n * x ≡ suc n * x
once_more n x = grind arith

append_replicate : {X : Type 0} (xs : List X) (x : X) (k : ℕ) → (xs ++ x ∷ []) ++ replicate k x ≡ xs ++ replicate (suc k) x
append_replicate xs x k = append_assoc xs (x ∷ []) (replicate k x)

greater_once_more : (b : Bool) (m : ℕ) → max m (cond b 0 m) ≡ m
greater_once_more true m = omega arith
greater_once_more false m = omega arith

draining_once_more : (n : ℕ) (b : Bool) (o : Option ℕ) → (b ≡ true → n ≡ 0)
    → sum_of_counts o (cond b None (option_map (λ count. n * count) o)) ≡ option_map (λ count. suc n * count) o
draining_once_more n true None h = refl
draining_once_more n false None h = refl
draining_once_more n true (Some x) h =
    let none : n ≡ 0 = h refl in
    ap Some (sym (ap (λ k. suc k * x) none ∙ grind arith))
draining_once_more n false (Some x) h = ap Some (once_more n x)

channel_times-suc : (n : ℕ) (a : ChannelStats) → channel_joined a (channel_times n a) ≡ channel_times (suc n) a
channel_times-suc n a =
    let d = draining_once_more n (eqb n 0) a.draining (λ e. eqb-true n 0 e) in
    simp (once_more, greater_once_more, eqb-suc-zero, d)

channel_times-zero : (a : ChannelStats) → channel_times 0 a ≡ channel_none
channel_times-zero a = simp zero-mul

pub channel_stretch-replicate : (s : Config) (channel : ℕ) (inbox : List Message) (o : Option Command) (a : ChannelStats) (n : ℕ) (steps : List (Option Command))
    → ((k : ℕ) → k < n → channel_cycle s channel (steps ++ replicate k o) inbox o ≡ a)
    → channel_stretch s channel steps inbox (replicate n o) ≡ channel_times n a
channel_stretch-replicate s channel inbox o a zero steps h = sym (channel_times-zero a)
channel_stretch-replicate s channel inbox o a (suc n) steps h =
    ap₂ channel_joined
    (ap (λ x. channel_cycle s channel x inbox o) (sym (append-nil steps)) ∙ h 0 (omega arith))
    (channel_stretch-replicate s channel inbox o a n (steps ++ o ∷ [])
    (λ k l. ap (λ x. channel_cycle s channel x inbox o) (append_replicate steps o k) ∙ h (suc k) (omega arith)))
    ∙ channel_times-suc n a
