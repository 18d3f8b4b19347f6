use Rattle.std.proofs.Common.{◌≡◌, ◌+◌, ◌-◌, ◌<◌, ℕ, Bool, true, false, cond, List, length, get_or, sym, ap, ◌∙◌, arith}
use Rattle.sim_base.specs.Access.{is_access}
use Rattle.sim_base.specs.declared.message.Access.TheVariants as access
use Rattle.queue.specs.declared.request_log.Arrived.{Arrived}
use Rattle.queue.specs.Log.{absent, waiting_requests, waits_at}
use Rattle.queue.specs.Columns.{write_count}
use Rattle.queue.specs.Kept.{AreKept}
use Rattle.queue.specs.View.{drains_by}
use Rattle.queue.proofs.Counts.{length_served, writes_served}
use Rattle.queue.proofs.Queue.serve.Goals as goal
use Rattle.queue.proofs.Queue.serve.Goals.{After-serve-unblocked}

within : (c : After-serve-unblocked) → c.args.place < length c.self.inside.log.log
within c = omega (arith, c.requires.within, ap (λ v. length v.log) c.self.view_is)

waits : (c : After-serve-unblocked) → waits_at c.self.inside.log.log c.args.place ≡ true
waits c = ap (λ v. waits_at v.log c.args.place) c.self.view_is ∙ c.requires.waits

-- whether the request is a write
write_is : (c : After-serve-unblocked) (log : List Arrived) (write : Bool) → log ≡ c.self.inside.log.log → is_access access.Write (get_or log c.args.place absent).request.access ≡ write
    → cond {A = ℕ} (is_access access.Write (get_or c.self.inside.log.log c.args.place absent).request.access) 1 0 ≡ cond write 1 0
write_is c log write same is = ap (λ (l : List Arrived). cond {A = ℕ} (is_access access.Write (get_or l c.args.place absent).request.access) 1 0) (sym same) ∙ ap (λ b. cond {A = ℕ} b 1 0) is

-- the request is served, with these counts of what writes
served : (c : After-serve-unblocked) (writes : ℕ) (drains : Bool)
    → writes + cond (is_access access.Write (get_or c.self.inside.log.log c.args.place absent).request.access) 1 0 ≡ c.self.inside.writes
    → drains ≡ drains_by c.self.inside.high c.self.inside.low c.self.inside.drain_decided writes
    → AreKept (record c.self.inside { drains = drains; waiting_count = c.self.inside.waiting_count - 1; writes = writes; log = c.serve-unblocked.new.self })
served c writes drains writes_is drains_is =
    let k = c.self.invariant in
    let log = c.self.inside.log.log in
    let place = c.args.place in
    let fewer = length_served log place (within c) (waits c) in
    let left = ap (λ l. length (waiting_requests l.log)) c.serve-unblocked.ensures.log in
    let fewer_writes = writes_served log place (within c) (waits c) in
    let left_writes = ap (λ l. write_count (waiting_requests l.log)) c.serve-unblocked.ensures.log in
    record {
      waiting_are = omega (arith, fewer, left, k.waiting_are);
      writes_are = omega (arith, fewer_writes, left_writes, k.writes_are, writes_is);
      drains_are = drains_is;
      within = omega (arith, fewer, left, k.within);
      enough = omega (arith, k.enough, ap (λ l. l.places) c.serve-unblocked.ensures.log);
      short = k.short;
    }

pub overflow_sub-self : goal.overflow_sub-self
overflow_sub-self whole =
    let c = (goal.at.overflow_sub-self whole).After-serve-unblocked in
    omega (arith, c.self.invariant.waiting_are, length_served c.self.inside.log.log c.args.place (within c) (waits c))

pub overflow_sub-self-then-is_access : goal.overflow_sub-self-then-is_access
overflow_sub-self-then-is_access whole =
    let c = (goal.at.overflow_sub-self-then-is_access whole).After-serve-unblocked in
    let one = write_is c whole.log.result.now true whole.log.ensures.log (sym whole.is_access.ensures ∙ whole.if-is_access.true) in
    omega (arith, one, c.self.invariant.writes_are, writes_served c.self.inside.log.log c.args.place (within c) (waits c))

pub invariant_of-self : goal.invariant_of-self
invariant_of-self whole =
    let c = (goal.at.invariant_of-self whole).After-serve-unblocked in
    let one = write_is c whole.log.result.now true whole.log.ensures.log (sym whole.is_access.ensures ∙ whole.if-is_access.true) in
    let some = writes_served c.self.inside.log.log c.args.place (within c) (waits c) in
    served c (c.self.inside.writes - 1) whole.drains-self-inside.result (omega (arith, one, some, c.self.invariant.writes_are)) whole.drains-self-inside.ensures

pub invariant_of-self-else-is_access : goal.invariant_of-self-else-is_access
invariant_of-self-else-is_access whole =
    let c = (goal.at.invariant_of-self-else-is_access whole).After-serve-unblocked in
    let none = write_is c whole.log.result.now false whole.log.ensures.log (sym whole.is_access.ensures ∙ whole.if-is_access.false) in
    served c c.self.inside.writes c.self.inside.drains (omega (arith, none)) c.self.invariant.drains_are
