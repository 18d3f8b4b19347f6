-- The parts change a core as what it does in the cycle says.
use Rattle.std.proofs.Common.{◌≡◌, ◌∙◌, ◌+◌, List, length, sym, ap, refl, subst, arith}
use Rattle.std.specs.Prelude.{slice_get, None, is_err}
use Rattle.std.specs.Vec.{with_items}
use Rattle.std.proofs.lemmas.List.{with_items_is}
use Rattle.std.proofs.lemmas.Result.{IfOk-from_err, err_from_is_err_and}
use Rattle.statistics.specs.Cores.{core_joined, CoreFits}
use Rattle.statistics.specs.declared.cores.CoreStats.{CoreStats}
use Rattle.statistics.specs.declared.final_state.Credits.{Credits}
use Rattle.core_window.specs.CoreViews.{view_of}
use Rattle.core_window.specs.OneCycle.{cycle_counts}
use Rattle.core_window.proofs.Foreseeing.{issued-placed}
use Rattle.core_window.proofs.Memory.{memory-counted, memory-fits}
use Rattle.core_window.proofs.Stepping.{step-fits, step-advances}
use Rattle.core_window.proofs.Working.{like-self, two_least}
use Rattle.core_window.proofs.core_unit.Core.step.Goals as goal

pub count_memory-requires : goal.count_memory-requires
count_memory-requires c =
    let h = c.requires.stands in
    let a = view_of c.args.self.now in
    memory-fits a.stats c.args.cycle_work.core_step c.args.cycle_work.why c.args.cycle_work.memory (length a.trace) a.now
    (step-fits h.s h.core h.trace h.steps h.mail a c.args.cycle_work.core_step c.args.cycle_work.why c.args.cycle_work.memory h.stands
    (c.requires.cycle_work a h.s h.core h.trace h.steps h.mail (like-self a) h.stands) (omega (arith, c.len-len.ensures.value, c.len-len.ensures.limit)) c.requires.early)

pub count_cycle-requires : goal.count_cycle-requires
count_cycle-requires c =
    let h = c.requires.stands in
    let a = view_of c.args.self.now in
    let work = c.args.cycle_work in
    subst (λ (st : CoreStats). CoreFits (core_joined st (cycle_counts work.core_step work.why None st.retired c.len-len.result a.now))) (sym c.count_memory.ensures)
    (subst CoreFits (sym (memory-counted a.stats work.core_step work.why work.memory c.len-len.result a.now))
    (subst (λ n. CoreFits (core_joined a.stats (cycle_counts work.core_step work.why work.memory a.stats.retired n a.now))) (sym c.len-len.ensures.value)
    (step-fits h.s h.core h.trace h.steps h.mail a work.core_step work.why work.memory h.stands
    (c.requires.cycle_work a h.s h.core h.trace h.steps h.mail (like-self a) h.stands) (omega (arith, c.len-len.ensures.value, c.len-len.ensures.limit)) c.requires.early)))

pub returns-clause-advances : goal.returns-clause-advances
returns-clause-advances c =
    let kept : (with_items c.args.self.now.credits c.spend.new.credits).items ≡ c.spend.new.credits =
    with_items_is c.args.self.now.credits c.spend.new.credits (c.spend.auto.credits ∙ c.deref_mut.ensures.len) in
    step-advances (view_of c.args.self.now) _ c.args.cycle_work.core_step c.args.cycle_work.why c.args.cycle_work.memory c.args.sent.now.items c.send.new.sent.items
    (λ s core trace steps mail h. c.requires.cycle_work (view_of c.args.self.now) s core trace steps mail (like-self (view_of c.args.self.now)) h)
    (record {
      config = refl;
      number = refl;
      entries = refl;
      now = refl;
      outstanding = c.in_ok-wait_for.ensures {u = tt};
      channels = ap length kept ∙ c.spend.auto.credits ∙ ap length c.deref_mut.ensures.value;
      credits = λ channel x e. ap (λ (cs : List Credits). slice_get cs channel) kept
          ∙ c.spend.ensures c.args.self.now.config (issued-placed c.args.self.now.config c.args.self.now.trace c.args.self.now.ahead c.args.cycle_work.memory c.args.self.now.known c.requires.entry) channel x (ap (λ (cs : List Credits). slice_get cs channel) c.deref_mut.ensures.value ∙ e);
      stats = c.count_cycle.ensures
          ∙ ap (λ (st : CoreStats). core_joined st (cycle_counts c.args.cycle_work.core_step c.args.cycle_work.why None st.retired c.len-len.result c.args.self.now.cycle)) c.count_memory.ensures
          ∙ memory-counted c.args.self.now.stats c.args.cycle_work.core_step c.args.cycle_work.why c.args.cycle_work.memory c.len-len.result c.args.self.now.cycle
          ∙ ap (λ n. core_joined c.args.self.now.stats (cycle_counts c.args.cycle_work.core_step c.args.cycle_work.why c.args.cycle_work.memory c.args.self.now.stats.retired n c.args.self.now.cycle)) c.len-len.ensures.value;
    })
    (c.in_ok-send.ensures {u = tt})

pub send-requires-clause-placed : goal.send-requires-clause-placed
send-requires-clause-placed c = issued-placed c.args.self.now.config c.args.self.now.trace c.args.self.now.ahead c.args.cycle_work.memory c.args.self.now.known c.requires.entry

pub look_ahead-requires-clause-seen : goal.look_ahead-requires-clause-seen
look_ahead-requires-clause-seen c =
    let grown : c.count_cycle.new.stats.issued ≡ c.args.self.now.stats.issued + c.args.cycle_work.core_step.issued = ap (λ (x : CoreStats). x.issued) c.count_cycle.ensures ∙ ap (λ (x : CoreStats). x.issued + c.args.cycle_work.core_step.issued) c.count_memory.ensures in
    (c.args.self.now.stats.issued, omega (arith, grown), c.args.self.now.seen)

pub look_ahead-requires-clause-within : goal.look_ahead-requires-clause-within
look_ahead-requires-clause-within c =
    let grown : c.count_cycle.new.stats.issued ≡ c.args.self.now.stats.issued + c.args.cycle_work.core_step.issued = ap (λ (x : CoreStats). x.issued) c.count_cycle.ensures ∙ ap (λ (x : CoreStats). x.issued + c.args.cycle_work.core_step.issued) c.count_memory.ensures in
    omega (arith, grown, c.requires.within)

pub look_ahead-requires-clause-room : goal.look_ahead-requires-clause-room
look_ahead-requires-clause-room c = two_least c.args.self.now.trace _ _ _ c.args.self.now.seen.ahead

pub returns-in_err-wait_for-clause-cycle : goal.returns-in_err-wait_for-clause-cycle
returns-in_err-wait_for-clause-cycle c = IfOk-from_err c.from_residual.result _ (ap is_err (err_from_is_err_and c.from_residual.result c.from_residual.ensures.1).1)

pub returns-in_err-wait_for-clause-advances : goal.returns-in_err-wait_for-clause-advances
returns-in_err-wait_for-clause-advances c = IfOk-from_err c.from_residual.result _ (ap is_err (err_from_is_err_and c.from_residual.result c.from_residual.ensures.1).1)

pub returns-in_err-send-clause-cycle : goal.returns-in_err-send-clause-cycle
returns-in_err-send-clause-cycle c = IfOk-from_err c.from_residual-in_err-send.result _ (ap is_err (err_from_is_err_and c.from_residual-in_err-send.result c.from_residual-in_err-send.ensures.1).1)

pub returns-in_err-send-clause-advances : goal.returns-in_err-send-clause-advances
returns-in_err-send-clause-advances c = IfOk-from_err c.from_residual-in_err-send.result _ (ap is_err (err_from_is_err_and c.from_residual-in_err-send.result c.from_residual-in_err-send.ensures.1).1)

pub send-requires-clause-early : goal.send-requires-clause-early
send-requires-clause-early c = c.requires.early

pub returns-clause-cycle : goal.returns-clause-cycle
returns-clause-cycle c = refl

pub look_ahead-requires-clause-second : goal.look_ahead-requires-clause-second
look_ahead-requires-clause-second c = c.args.self.now.known.second
