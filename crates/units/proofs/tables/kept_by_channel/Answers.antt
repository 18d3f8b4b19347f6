use Rattle.std.proofs.Common.{rules, ◌≡◌, ◌+◌, ◌-◌, ◌<◌, ◌∷◌, [], ◌++◌, length, map, refl, sym, ap, subst, ◌∙◌, append_assoc, length-append, arith}
use Rattle.std.specs.Vec.Iter.{into_iter_items}
use Rattle.laws.specs.Commands.{history_of}
use Rattle.sim_base.specs.History.{below}
use Rattle.sim_base.proofs.Added.{length-push_suc}
use Rattle.units.specs.Kept.{AreHeld, served_by_channel}
use Rattle.units.specs.Units.{unit_count}
use Rattle.units.specs.declared.tables.KeptLists.{KeptLists}
use Rattle.units.proofs.Keeping.{held-more}
use Rattle.units.proofs.Standing.{stand-seam, all-yielded}
use Rattle.units.proofs.tables.kept_by_channel.Goals as goal

pub loop-part-init : goal.loop-part-init
loop-part-init c =
    let machine = c.args.machine.now in
    let s = machine.config in
    let traces = machine.traces.items in
    let none : 0 ≡ 0 - s.cores = omega arith in
    record {
      remaining = refl;
      left = search rules;
      commands_asked = c.lists_if.ensures.asked;
      served_asked = c.lists_if-2.ensures.asked;
      commands = subst (λ n. AreHeld c.lists_if.result (map (history_of s traces c.args.now) (below n))) none c.lists_if.ensures.held;
      served = subst (λ n. AreHeld c.lists_if-2.result (map (served_by_channel machine c.args.now) (below n))) none c.lists_if-2.ensures.held;
    }

pub loop-part-preserved : goal.loop-part-preserved
loop-part-preserved c =
    let machine = c.args.machine.now in
    let s = machine.config in
    let traces = machine.traces.items in
    let at = c.loop-part in
    let place = length at.yielded in
    let x = c.in-Some.part in
    let steps = c.in-Some.ensures.steps in
    let rest = into_iter_items c.next.new.self in
    let old = at.kept in
    let new = c.add_part.new.kept in
    let seam : at.yielded ++ x ∷ rest ≡ c.args.parts.items =
    ap (λ z. at.yielded ++ z) (sym steps.0) ∙ at.invariant.remaining ∙ c.into_iter-part-iterator.ensures.into_iter_gives.0 in
    let long : place + length (x ∷ rest) ≡ length c.args.parts.items = sym (length-append at.yielded (x ∷ rest)) ∙ ap length seam in
    let within : place < unit_count s = omega (arith, long, c.requires.count) in
    let stands = stand-seam machine c.args.now c.args.parts.items at.yielded rest x c.requires.stand seam in
    let told = c.in_ok-add_part.ensures {u = tt} in
    let next = sym (length-push_suc at.yielded x) in
    record {
      remaining = append_assoc at.yielded (x ∷ []) _ ∙ ap (λ z. at.yielded ++ z) (sym steps.0) ∙ at.invariant.remaining;
      left =
          let was = at.invariant.left in
          let remaining = steps.1 in
          let short = ap length steps.0 in
          omega arith;
      commands_asked = told.commands_asked ∙ at.invariant.commands_asked;
      served_asked = told.served_asked ∙ at.invariant.served_asked;
      commands = subst (λ n. AreHeld new.commands (map (history_of s traces c.args.now) (below (n - s.cores)))) next
          (held-more machine c.args.now place x (history_of s traces c.args.now) old.commands new.commands stands within (λ core h. ap (λ (k : KeptLists). k.commands) (told.core machine core c.args.now h))
          (λ channel rows l h held. told.commands machine channel c.args.now rows h held) at.invariant.commands);
      served = subst (λ n. AreHeld new.served (map (served_by_channel machine c.args.now) (below (n - s.cores)))) next
          (held-more machine c.args.now place x (served_by_channel machine c.args.now) old.served new.served stands within (λ core h. ap (λ (k : KeptLists). k.served) (told.core machine core c.args.now h))
          (λ channel rows l h held. told.served machine channel c.args.now rows l h held) at.invariant.served);
    }

pub returns : goal.returns
returns c =
    let machine = c.args.machine.now in
    let s = machine.config in
    let traces = machine.traces.items in
    let at = c.loop-part in
    let all = all-yielded at.yielded (into_iter_items at.part-iterator) c.args.parts.items (at.invariant.remaining ∙ c.into_iter-part-iterator.ensures.into_iter_gives.0)
    (sym at.invariant.left ∙ c.in-None.ensures.steps.0) in
    let count : length at.yielded - s.cores ≡ s.channels = omega (arith, ap length all, c.requires.count) in
    record {
      commands_asked = at.invariant.commands_asked;
      served_asked = at.invariant.served_asked;
      commands = subst (λ n. AreHeld at.kept.commands (map (history_of s traces c.args.now) (below n))) count at.invariant.commands;
      served = subst (λ n. AreHeld at.kept.served (map (served_by_channel machine c.args.now) (below n))) count at.invariant.served;
    }
