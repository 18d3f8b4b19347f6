-- When the commands of a history and the four-activate window allow another.
use Rattle.std.proofs.Common.{◌≡◌, ℕ, ◌≤◌, ◌↔◌, true, false, leb, max, List, Some, None, refl, arith}
use Rattle.std.specs.Prelude.{IsTrue}
use Rattle.std.proofs.lemmas.Bool.{and_parts, and_from, leb-true, le-leb}
use Rattle.sim_base.specs.declared.config.Config.{Config}
use Rattle.sim_base.specs.declared.timing.Timing.{Timing}
use Rattle.sim_base.specs.declared.place.BankId.{BankId}
use Rattle.sim_base.specs.declared.command.Kind.{Kind}
use Rattle.sim_base.specs.declared.command.Kind.TheVariants as kind
use Rattle.sim_base.specs.declared.command.Command.{Command}
use Rattle.sim_base.specs.declared.command.Command.TheVariants.{Act, Rd, Wr, Pre, Prea, Ref}
use Rattle.sim_base.specs.declared.command.IssuedCommand.{IssuedCommand}
use Rattle.sim_base.specs.Rules.{is_kind, kind_of, rank_of, bank_of, keeps_distances, recent_acts, is_allowed}
use Rattle.bank_ready.specs.Ready.{ready_from, window_ends}
use Rattle.bank_ready.specs.Words.{names_rank, window_from}
use Rattle.bank_ready.specs.Stands.{IsAllowedFrom, Ascends}
use Rattle.bank_ready.proofs.Readiness.{ready_from-keeps}
use Rattle.bank_ready.proofs.ActWindow.{three-ahead, recent_acts-ahead, window_ends-ascending}

-- the rank of a command is that of the bank that it names
pub rank_of-bank : (command : Command) (bank : BankId) → bank_of command ≡ Some bank → rank_of command ≡ bank.rank
rank_of-bank (Act b row source) bank h = cc
rank_of-bank (Rd b row column source) bank h = cc
rank_of-bank (Wr b row column source) bank h = cc
rank_of-bank (Pre b source) bank h = cc
rank_of-bank (Prea rank) bank h = cc
rank_of-bank (Ref rank) bank h = cc

-- a command of a whole rank names no bank
pub bank_of-rank : (command : Command) → names_rank (kind_of command) ≡ true → bank_of command ≡ None
bank_of-rank (Act b row source) h = cc
bank_of-rank (Rd b row column source) h = cc
bank_of-rank (Wr b row column source) h = cc
bank_of-rank (Pre b source) h = cc
bank_of-rank (Prea rank) h = refl
bank_of-rank (Ref rank) h = refl

-- a command that is no ACT
other : (t : Timing) (history : List IssuedCommand) (now : ℕ) (command : Command) → is_kind (kind_of command) kind.Act ≡ false
    → (ready_from t history (kind_of command) (rank_of command) (bank_of command) ≤ now) ↔ IsTrue (is_allowed t history now command)
unfolding is_allowed
other t history now command h =
    let keeps = ready_from-keeps t history now command in
    rw h (
      λ k. and_from (keeps_distances t history now command) true (keeps.0 k) refl,
      λ k. keeps.1 (and_parts (keeps_distances t history now command) true k).0,
    )

-- an ACT
act : (t : Timing) (history : List IssuedCommand) (now : ℕ) (command : Command) → Ascends history → is_kind (kind_of command) kind.Act ≡ true
    → (max (ready_from t history (kind_of command) (rank_of command) (bank_of command)) (window_from t (rank_of command) history).oldest ≤ now)
    ↔ IsTrue (is_allowed t history now command)
unfolding is_allowed window_from
act t history now command up h =
    let keeps = ready_from-keeps t history now command in
    let count = recent_acts t (rank_of command) now history in
    let same = recent_acts-ahead t (rank_of command) now history in
    let three = three-ahead now (window_ends t (rank_of command) history) (window_ends-ascending t (rank_of command) history up) in
    rw h (
      λ k.
          let few : count ≤ 3 = rw same (three.1 (omega arith)) in
          and_from (keeps_distances t history now command) (leb count 3) (keeps.0 (omega arith)) (le-leb count 3 few),
      λ k.
          let parts = and_parts (keeps_distances t history now command) (leb count 3) k in
          let few = rw same at (leb-true count 3 parts.1) in
          omega (arith, keeps.1 parts.0, three.0 few),
    )

pub allowed-other : (t : Timing) (history : List IssuedCommand) (now : ℕ) (command : Command) (later : Kind) (bank : BankId)
    → kind_of command ≡ later → bank_of command ≡ Some bank → is_kind later kind.Act ≡ false
    → (ready_from t history later bank.rank (Some bank) ≤ now) ↔ IsTrue (is_allowed t history now command)
allowed-other t history now command later bank e f h =
    rw (← f, ← rank_of-bank command bank f, ← e) (other t history now command (rw e h))

pub allowed-act : (t : Timing) (history : List IssuedCommand) (now : ℕ) (command : Command) (bank : BankId)
    → Ascends history → kind_of command ≡ kind.Act → bank_of command ≡ Some bank
    → (max (ready_from t history kind.Act bank.rank (Some bank)) (window_from t bank.rank history).oldest ≤ now)
    ↔ IsTrue (is_allowed t history now command)
allowed-act t history now command bank up e f =
    rw (← f, ← rank_of-bank command bank f, ← e) (act t history now command up (rw e refl))

-- a command that is no ACT is allowed no sooner than all before it allow it
pub no-sooner : (s : Config) (history : List IssuedCommand) (command : Command) (cycle : ℕ) (later : Kind) (floor : ℕ)
    → kind_of command ≡ later → is_kind later kind.Act ≡ false → IsAllowedFrom s history command cycle
    → floor ≤ ready_from s.timing history later (rank_of command) (bank_of command) → floor ≤ cycle
no-sooner s history command cycle later floor e h from le =
    let ready = (other s.timing history cycle command (rw e h)).1 ((from cycle).0 (omega arith)) in
    let floored : floor ≤ ready_from s.timing history (kind_of command) (rank_of command) (bank_of command) = rw e le in
    omega (arith, ready, floored)

-- an ACT is allowed no sooner than the four-activate window of its rank has room for it
pub act-no-sooner : (s : Config) (history : List IssuedCommand) (command : Command) (cycle : ℕ)
    → Ascends history → kind_of command ≡ kind.Act → IsAllowedFrom s history command cycle
    → (window_from s.timing (rank_of command) history).oldest ≤ cycle
act-no-sooner s history command cycle up e from =
    let room = (act s.timing history cycle command up (rw e refl)).1 ((from cycle).0 (omega arith)) in
    omega (arith, room)

pub allowed-rank : (t : Timing) (history : List IssuedCommand) (now : ℕ) (command : Command) (later : Kind) (rank : ℕ)
    → kind_of command ≡ later → rank_of command ≡ rank → names_rank later ≡ true → is_kind later kind.Act ≡ false
    → (ready_from t history later rank None ≤ now) ↔ IsTrue (is_allowed t history now command)
allowed-rank t history now command later rank e f names h =
    rw (← bank_of-rank command (rw e names), ← f, ← e) (other t history now command (rw e h))
