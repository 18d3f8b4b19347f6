-- The Read that is taken out is the one that the reply is of.
use Rattle.std.proofs.Common.{◌≡◌, ◌∙◌, ◌+◌, ℕ, eqb, not, List, Option, Some, None, sym, ap, ap₂, refl}
use Rattle.std.specs.Prelude.{filter}
use Rattle.statistics.specs.declared.cores.CoreStats.{CoreStats}
use Rattle.core_window.specs.Counting.{read_of}
use Rattle.core_window.specs.CoreViews.{view_of}
use Rattle.core_window.specs.Replies.{after_reply_if}
use Rattle.core_window.specs.Views.{CoreView}
use Rattle.core_window.specs.declared.outstanding.OutstandingRead.{OutstandingRead}
use Rattle.core_window.proofs.Taking.{found-own, none-out}
use Rattle.core_window.proofs.core_unit.Core.receive_reply.Goals as goal

pub returns-in-Some : goal.returns-in-Some
returns-in-Some c =
    let v = view_of c.args.self.now in
    let read = c.in-Some.read in
    let out = c.take.ensures in
    let found : read_of c.args.entry v.outstanding ≡ Some read = sym out.0 ∙ c.in-Some.is in
    let own : c.args.entry ≡ read.entry = sym (found-own c.args.entry v.outstanding read found) in
    let with : List OutstandingRead → CoreStats → CoreView = λ ws st. record v { outstanding = ws; stats = st } in
    let others : ℕ → List OutstandingRead = λ n. filter (λ (r : OutstandingRead). not (eqb r.entry n)) v.outstanding in
    let counted : ℕ → CoreStats = λ n. record v.stats { replies = v.stats.replies + 1; read_latency = v.stats.read_latency + n } in
    ap₂ with (out.1 ∙ ap others own) (c.count_reply.ensures ∙ ap counted c.saturating_sub.ensures)
    ∙ ap (λ o. after_reply_if v o c.args.arrival) (sym found)

pub returns-in_default : goal.returns-in_default
returns-in_default c =
    let v = view_of c.args.self.now in
    let out = c.take.ensures in
    let none : (read : OutstandingRead) → read_of c.args.entry v.outstanding ≡ Some read → ⊥ = λ read e. c.in_default.not-Some read (out.0 ∙ e) in
    ap (λ (ws : List OutstandingRead). record v { outstanding = ws }) (out.1 ∙ none-out c.args.entry v.outstanding none)
    ∙ by v (read_of c.args.entry v.outstanding) c.args.arrival none
  where
    by : (v : CoreView) (o : Option OutstandingRead) (n : ℕ) → ((read : OutstandingRead) → o ≡ Some read → ⊥) → v ≡ after_reply_if v o n
    by v None n h = refl
    by v (Some read) n h = absurd (h read refl)
