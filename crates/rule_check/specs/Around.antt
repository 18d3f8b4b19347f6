-- The latest commands around a command: those that a rule may bind to it.
--     latest_at around scope      the latest that a rule of this scope binds
--     is_ahead_by around which now r      a command of a kind comes too soon in a cycle, by a rule
--     IsAround around channel rank bank      an `Around` has what is kept for a command of this rank and bank
use Rattle.std.specs.Prelude.{ℕ, ◌≡◌, ◌&&◌, Bool, Option}
use Rattle.sim_base.specs.declared.place.BankId.{BankId}
use Rattle.sim_base.specs.declared.command.Kind.{Kind}
use Rattle.sim_base.specs.declared.rule.Rule.{Rule}
use Rattle.sim_base.specs.declared.rule.Scope.{Scope}
use Rattle.sim_base.specs.declared.rule.Scope.TheVariants.{InBank, InGroup, AcrossGroups, InRank, AcrossRanks}
use Rattle.sim_base.specs.Rules.{is_kind}
use Rattle.rule_check.specs.Kept.{latest_of, is_ahead, kept}
use Rattle.rule_check.specs.declared.latest.Latest.{Latest}
use Rattle.rule_check.specs.declared.around.Around.{Around}
use Rattle.rule_check.specs.declared.state.Channel.{Channel}

-- the latest that a rule of this scope binds
abbrev pub latest_at : Around → Scope → Latest
latest_at around InBank = around.bank.now
latest_at around InGroup = around.group.now
latest_at around AcrossGroups = around.other_groups.now
latest_at around InRank = around.rank.now
latest_at around AcrossRanks = around.other_ranks.now

-- a command of a kind comes too soon in a cycle, by a rule
abbrev pub is_ahead_by : Around → Kind → ℕ → Rule → Bool
is_ahead_by around which now r =
    is_kind r.later which && is_ahead now r.cycles (latest_of (latest_at around r.scope) r.earlier)

-- an `Around` has what is kept of a channel for such a command
pub record IsAround (around : Around) (c : Channel) (rank : ℕ) (bank : Option BankId) : Type 0 where
  pub each : (scope : Scope) (which : Kind) → latest_of (latest_at around scope) which ≡ kept c scope which rank bank
