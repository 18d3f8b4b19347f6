use Rattle.std.proofs.Common.{◌≡◌, ◌≤◌, refl, subst, arith}
use Rattle.channel_step.specs.FrFcfs.Choices.{choice_in, command_of}
use Rattle.channel_step.specs.FrFcfs.Cycles.{IsNext}
use Rattle.channel_step.specs.Past.{commands_after}
use Rattle.channel_step.proofs.Deciding.{cycle-in_banks, cycle-stands, found-before, none-before}
use Rattle.channel_step.proofs.Foreseen.{next_command-from, kept-in_cycle}
use Rattle.channel_step.proofs.channel.Channel.look.Goals as goal
use Rattle.channel_step.proofs.channel.Channel.look.Goals.{in_default-via-in-Some+else-cycle-end, in_default-via-in_default}

pub find-found-requires-clause-places : goal.find-found-requires-clause-places
find-found-requires-clause-places c = cycle-in_banks c.args.self.now c.args.now c.requires

pub find-found-requires-clause-banks : goal.find-found-requires-clause-banks
find-found-requires-clause-banks c = let i = c.requires.is_in in omega (arith, i.made_for.banks_are, i.banks_stand.ranks)

pub returns-in-Some-clause-next : goal.returns-in-Some-clause-next
returns-in-Some-clause-next c past h at =
    let x = c.args.self.now in
    let found = (c.in-Some.ensures {u = tt}) past.config (commands_after past) (cycle-stands x past h) (next_command-from _ _ _ _ _ h.foresees) (omega (arith, h.cycle_is, at)) in
    found-before x past c.args.now c.args.end c.in-Some.cycle c.in-Some.need h at found.0 found.1 c.if-cycle-end.true

pub returns-in_default-clause-in_cycle : goal.returns-in_default-clause-in_cycle
returns-in_default-clause-in_cycle c past h =
    let x = c.args.self.now in
    let p = c.requires in
    let here : c.args.now ≡ x.cycle = omega (arith, p.is_in.cycle_is, p.at) in
    kept-in_cycle x past c.args.now c.find-found.result h here
    (c.find-found.ensures past.config (commands_after past) (cycle-stands x past h) (next_command-from _ _ _ _ _ h.foresees) (omega arith))

pub returns-in_default-clause-next : goal.returns-in_default-clause-next
returns-in_default-clause-next c past h at =
    let x = c.args.self.now in
    let history = commands_after past in
    let stand = cycle-stands x past h in
    let here : x.cycle ≤ c.args.now = omega (arith, h.cycle_is, at) in
    elim c.in_default.branch [
      | in_default-via-in-Some+else-cycle-end w ↦
          let found = ((w.in-Some.ensures {u = tt}) past.config history stand (next_command-from _ _ _ _ _ h.foresees) here).0 in
          none-before x past c.args.now c.args.end h at (λ t l m. found.none_before t l (omega (arith, w.if-cycle-end.false)))
      | in_default-via-in_default w ↦
          none-before x past c.args.now c.args.end h at
          (λ t l m. (subst (IsNext (choice_in past.config history x.queue) (command_of past.config history x.queue.log) c.args.now) w.in_default.is (c.find-found.ensures past.config history stand (next_command-from _ _ _ _ _ h.foresees) here).0) t l)
    ]

pub returns-then-waits_until-clause-next : goal.returns-then-waits_until-clause-next
returns-then-waits_until-clause-next c past h at =
    let x = c.args.self.now in
    let here : x.cycle ≤ c.args.now = omega (arith, h.cycle_is, at) in
    none-before x past c.args.now c.args.end h at
    (λ t l m. c.if-waits_until.ensures past.config (commands_after past) x.queue x.cycle refl (next_command-from _ _ _ _ _ h.foresees) t (omega arith) m)
