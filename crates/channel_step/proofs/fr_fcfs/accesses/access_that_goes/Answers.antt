-- The favoured requests go first where there is one, and the others where there is none.
use Rattle.std.proofs.Common.{◌<◌, length, sym, ap, ◌∙◌, arith}
use Rattle.std.proofs.lemmas.Bool.{ltb-true, ltb-false}
use Rattle.std.specs.List.{filter}
use Rattle.sim_base.specs.Scheduling.{first_of_lines}
use Rattle.queue.specs.Log.{waiting_requests}
use Rattle.queue.specs.View.{is_draining}
use Rattle.channel_step.specs.FrFcfs.Offers.{is_of, only, favoured_access}
use Rattle.channel_step.proofs.FrFcfs.Favoured.{has, favour_some, favour_none, favoured_are, some_of_access, of_one_access, of_other_access}
use Rattle.channel_step.proofs.fr_fcfs.accesses.access_that_goes.Goals as goal

pub returns-then-has_access : goal.returns-then-has_access
returns-then-has_access c s open_rows high stands =
    let queue = c.args.queue.now in
    let eligible = first_of_lines (waiting_requests queue.log) in
    let access = c.favoured_access-favoured.result in
    let first = filter (has access) eligible in
    let some = ltb-true 0 (length first) (sym (some_of_access access queue.log) ∙ sym (c.has_access.ensures queue.log open_rows stands) ∙ c.if-has_access.true) in
    let ever : 0 < s.write_high = omega (arith, c.requires, high) in
    sym
    (favour_some s queue first ever
    (ap (λ a. filter (has a) eligible) (c.favoured_access-favoured.ensures ∙ ap favoured_access c.draining.ensures) ∙ favoured_are (is_draining queue) eligible) some)
    ∙ of_one_access access eligible

pub returns-else-has_access : goal.returns-else-has_access
returns-else-has_access c s open_rows high stands =
    let queue = c.args.queue.now in
    let eligible = first_of_lines (waiting_requests queue.log) in
    let access = c.favoured_access-favoured.result in
    let first = filter (has access) eligible in
    let none = ltb-false 0 (length first) (sym (some_of_access access queue.log) ∙ sym (c.has_access.ensures queue.log open_rows stands) ∙ c.if-has_access.false) in
    sym
    (favour_none s queue first
    (ap (λ a. filter (has a) eligible) (c.favoured_access-favoured.ensures ∙ ap favoured_access c.draining.ensures) ∙ favoured_are (is_draining queue) eligible) (omega arith))
    ∙ of_other_access access eligible (omega arith)
    ∙ ap (λ a. filter (is_of (only a)) eligible) (sym c.other_access.ensures)
