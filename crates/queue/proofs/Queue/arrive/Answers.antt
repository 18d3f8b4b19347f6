use Rattle.std.proofs.Common.{◌≡◌, ◌+◌, ℕ, Bool, cond, length, sym, ap, ◌∙◌, arith}
use Rattle.sim_base.specs.Access.{is_access}
use Rattle.sim_base.specs.declared.message.Access.TheVariants as access
use Rattle.queue.specs.Log.{waiting_requests}
use Rattle.queue.specs.Columns.{write_count}
use Rattle.queue.specs.Kept.{AreKept}
use Rattle.queue.specs.View.{drains_by}
use Rattle.queue.proofs.Counts.{length_arrived, writes_arrived}
use Rattle.queue.proofs.Queue.arrive.Goals as goal
use Rattle.queue.proofs.Queue.arrive.Goals.{After-arrive}

-- the request is taken in, with these counts of what writes
taken_in : (c : After-arrive) (writes : ℕ) (drains : Bool) → c.self.inside.writes + cond (is_access access.Write c.args.request.access) 1 0 ≡ writes
    → drains ≡ drains_by c.self.inside.high c.self.inside.low c.self.inside.drain_decided writes
    → AreKept (record c.self.inside { drains = drains; waiting_count = c.self.inside.waiting_count + 1; writes = writes; log = c.arrive.new.self })
taken_in c writes drains writes_is drains_is =
    let k = c.self.invariant in
    let log = c.self.inside.log.log in
    let r = c.args.request in
    let more = ap (λ l. length (waiting_requests l.log)) c.arrive.ensures ∙ length_arrived log r in
    record {
      waiting_are = ap (λ n. n + 1) k.waiting_are ∙ sym more;
      writes_are = sym writes_is ∙ ap (λ n. n + cond (is_access access.Write r.access) 1 0) k.writes_are ∙ sym (ap (λ l. write_count (waiting_requests l.log)) c.arrive.ensures ∙ writes_arrived log r);
      drains_are = drains_is;
      within = omega (arith, more, c.requires.room, ap (λ v. length (waiting_requests v.log)) c.self.view_is, ap (λ v. v.room) c.self.view_is);
      enough = omega (arith, k.enough, ap (λ l. l.places) c.arrive.ensures);
      short = k.short;
    }

pub invariant_of-self : goal.invariant_of-self
invariant_of-self whole =
    let c = (goal.at.invariant_of-self whole).After-arrive in
    let one : cond {A = ℕ} (is_access access.Write c.args.request.access) 1 0 ≡ 1 = ap (λ b. cond {A = ℕ} b 1 0) (sym whole.is_access.ensures ∙ whole.if-is_access.true) in
    taken_in c (c.self.inside.writes + 1) whole.drains-self-inside.result (omega (arith, one)) whole.drains-self-inside.ensures

pub invariant_of-self-else-is_access : goal.invariant_of-self-else-is_access
invariant_of-self-else-is_access whole =
    let c = (goal.at.invariant_of-self-else-is_access whole).After-arrive in
    let none : cond {A = ℕ} (is_access access.Write c.args.request.access) 1 0 ≡ 0 = ap (λ b. cond {A = ℕ} b 1 0) (sym whole.is_access.ensures ∙ whole.if-is_access.false) in
    taken_in c c.self.inside.writes c.self.inside.drains (omega (arith, none)) c.self.invariant.drains_are
