use Rattle.std.proofs.Common.{◌≡◌, length, sym, ap, ◌∙◌, arith}
use Rattle.queue.specs.Log.{waiting_requests}
use Rattle.queue.specs.Columns.{write_count}
use Rattle.queue.proofs.Activated.{waiting_activated}
use Rattle.queue.proofs.Queue.activate.Goals as goal

pub invariant_of-self : goal.invariant_of-self
invariant_of-self c =
    let k = c.self.invariant in
    let same : waiting_requests c.activate.new.self.log ≡ waiting_requests c.self.inside.log.log =
    ap (λ l. waiting_requests l.log) c.activate.ensures ∙ waiting_activated c.self.inside.log.log c.args.place in
    record {
      waiting_are = k.waiting_are ∙ ap length (sym same);
      writes_are = k.writes_are ∙ ap write_count (sym same);
      drains_are = k.drains_are;
      within = omega (arith, k.within, ap length same);
      enough = omega (arith, k.enough, ap (λ l. l.places) c.activate.ensures);
      short = k.short;
    }
