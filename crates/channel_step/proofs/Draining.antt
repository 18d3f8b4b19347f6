-- Where cycles of draining are counted.
use Rattle.std.proofs.Common.{◌≡◌, ℕ, Bool, true, false, List, Option, refl, sym, ap, ◌∙◌, arith}
use Rattle.std.specs.Prelude.{is_some, nat_lt}
use Rattle.sim_base.specs.declared.config.Config.{Config}
use Rattle.sim_base.specs.declared.command.Command.{Command}
use Rattle.sim_base.specs.declared.message.Message.{Message}
use Rattle.statistics.specs.Channels.{draining_of, channel_stats}
use Rattle.statistics.specs.declared.channels.ChannelStats.{ChannelStats}
use Rattle.channel_step.specs.Past.{Past}
use Rattle.channel_step.specs.Channels.{IsInCycle, CountsDrains}
use Rattle.channel_step.specs.declared.channel.Channel.{Channel}

some-drains : (s : Config) (n : ℕ) (b : Bool) → nat_lt 0 s.write_high ≡ b → is_some (draining_of s n) ≡ b
some-drains s n true e = grind arith
some-drains s n false e = grind arith

-- a channel with the statistics of its steps counts cycles of draining where it ever drains
pub drains-counted : (c : Channel) (s : Config) (channel : ℕ) (steps : List (Option Command)) (mail : List Message) → c.config ≡ s → c.stats ≡ channel_stats s channel steps mail → CountsDrains c
unfolding channel_stats
drains-counted c s channel steps mail is stats =
    ap (λ (x : ChannelStats). is_some x.draining) stats
    ∙ some-drains s _ (nat_lt 0 s.write_high) refl
    ∙ ap (λ (x : Config). nat_lt 0 x.write_high) (sym is)

-- a channel in a cycle counts cycles of draining where it ever drains
pub counts-drains : (c : Channel) (past : Past) → IsInCycle c past → CountsDrains c
counts-drains c past h = drains-counted c past.config past.channel past.steps past.mail h.made_for.config_is h.joined.stats_are
