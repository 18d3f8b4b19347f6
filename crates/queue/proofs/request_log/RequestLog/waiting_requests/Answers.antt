use Rattle.std.proofs.Common.{◌≡◌, ◌+◌, ◌<◌, ◌++◌, ◌∷◌, [], true, false, cond, length, take, get_or, sym, ap, ◌∙◌, arith}
use Rattle.std.proofs.lemmas.List.{take_more, append-nil}
use Rattle.queue.specs.Log.{absent, waiting, waiting_requests}
use Rattle.queue.proofs.Waiting.{waiting_append, waiting_one}
use Rattle.queue.proofs.request_log.RequestLog.waiting_requests.Goals.{then-arrived+in_ok-push, else-arrived}
use Rattle.queue.proofs.request_log.RequestLog.waiting_requests.Goals as goal

pub loop-arrived-init : goal.loop-arrived-init
unfolding waiting
loop-arrived-init c = c.new-requests.ensures.items

pub loop-arrived-preserved : goal.loop-arrived-preserved
loop-arrived-preserved c =
    let log = c.args.self.now.log in
    let i = c.loop-arrived.arrived-index in
    let a = get_or log i absent in
    let same : c.deref-arrived-items.result.now ≡ log = c.deref-arrived-items.ensures.value ∙ ap (λ v. v.log) c.self.view_is in
    let within : i < length log = omega (arith, c.loop-arrived-test.true, ap length same) in
    let more : waiting_requests (take (i + 1) log) ≡ waiting_requests (take i log) ++ cond a.waits (a.request ∷ []) [] =
    ap waiting_requests (take_more log i absent within) ∙ waiting_append (take i log) (a ∷ []) ∙ ap (λ rs. waiting_requests (take i log) ++ rs) (waiting_one a) in
    elim c.if-arrived.branch [
      | then-arrived+in_ok-push w ↦
          let waits : a.waits ≡ true = ap (λ xs. (get_or xs i absent).waits) (sym same) ∙ w.if-arrived.true in
          ap (λ v. v.items) w.requests-is
          ∙ (w.in_ok-push.ensures {u = tt}).items
          ∙ (λ k. c.loop-arrived.invariant k ++ (get_or (same k) i absent).request ∷ [])
          ∙ ap (λ b. waiting_requests (take i log) ++ cond b (a.request ∷ []) []) (sym waits)
          ∙ sym more
      | else-arrived w ↦
          let left : a.waits ≡ false = ap (λ xs. (get_or xs i absent).waits) (sym same) ∙ w.if-arrived.false in
          ap (λ v. v.items) w.requests-is
          ∙ c.loop-arrived.invariant
          ∙ sym (append-nil (waiting_requests (take i log)))
          ∙ ap (λ b. waiting_requests (take i log) ++ cond b (a.request ∷ []) []) (sym left)
          ∙ sym more
    ]
