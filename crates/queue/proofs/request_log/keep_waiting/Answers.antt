use Rattle.std.proofs.Common.{◌≡◌, ◌+◌, ◌<◌, ◌++◌, length, take, drop, vec_capacity, get_or, set, ap, ◌∙◌, arith}
use Rattle.std.proofs.lemmas.List.{get_or_default, length-set}
use Rattle.queue.specs.Columns.{waiting_items}
use Rattle.queue.proofs.ToFront.{kept_more, left_out}
use Rattle.queue.proofs.request_log.keep_waiting.Goals.{then-log-from, else-log-from}
use Rattle.queue.proofs.request_log.keep_waiting.Goals as goal

pub loop-from-preserved : goal.loop-from-preserved
loop-from-preserved c =
    let log = c.args.log.now in
    let tags = c.loop-from.tags.items in
    let i = c.loop-from.from in
    let to = c.loop-from.to in
    let within : i < length log = c.loop-from-test.true in
    let before = c.loop-from.invariant in
    elim c.if-log-from.branch [
      | then-log-from w ↦
          let item : w.index.result.now ≡ get_or tags i 0 = w.index.ensures ∙ get_or_default tags i w.index.result.now 0 (omega (arith, within, before.long)) in
          let items : c.if-log-from.tags.items ≡ set tags to (get_or tags i 0) = ap (λ v. v.items) w.tags-is ∙ ap (set tags to) item in
          record {
            behind = omega (arith, before.behind, w.to-is);
            long = ap length items ∙ length-set tags to (get_or tags i 0) ∙ before.long;
            room = ap vec_capacity w.tags-is ∙ before.room;
            whole =
                (λ k. take (w.to-is k) (items k) ++ waiting_items (drop (i + 1) log) (drop (i + 1) (items k)))
                ∙ kept_more log tags i to (waiting_items log c.args.tags.now.items) within before.long before.behind w.if-log-from.true before.whole;
          }
      | else-log-from w ↦
          record {
            behind = omega (arith, before.behind, w.to-is);
            long = ap (λ v. length v.items) w.tags-is ∙ before.long;
            room = ap vec_capacity w.tags-is ∙ before.room;
            whole =
                (λ k. take (w.to-is k) (w.tags-is k).items ++ waiting_items (drop (i + 1) log) (drop (i + 1) (w.tags-is k).items))
                ∙ left_out log tags i to (waiting_items log c.args.tags.now.items) within before.long w.if-log-from.false before.whole;
          }
    ]
