use Rattle.std.proofs.Common.{◌≡◌, Some, map, subst, sym}
use Rattle.std.specs.Arc.{arc_value}
use Rattle.shards.specs.Phases.{PhaseView, jobs_of, phase_over}
use Rattle.shards.proofs.Phases.{sharded-ends, rows-square}
use Rattle.shards.proofs.merging.joined.Goals as goal

pub by_receiver-requires : goal.by_receiver-requires
by_receiver-requires c =
    let f = c.phase.inside in
    let p : PhaseView = phase_over (arc_value f.machine) f.bounds.items f.span in
    let all : c.args.places.items ≡ map Some (jobs_of p) = subst (λ (v : PhaseView). c.args.places.items ≡ map Some (jobs_of v)) (sym c.phase.view_is) c.requires.all in
    let done = c.in_ok-shards.field-0 in
    record { square = rows-square p done.wake done.shards.items done.outbound.items (c.in_ok-shards.ensures {u = tt} p c.phase.invariant.early all) c.phase.invariant.split }

pub invariant_of-result : goal.invariant_of-result
invariant_of-result c =
    let f = c.phase.inside in
    let p : PhaseView = phase_over (arc_value f.machine) f.bounds.items f.span in
    let all : c.args.places.items ≡ map Some (jobs_of p) = subst (λ (v : PhaseView). c.args.places.items ≡ map Some (jobs_of v)) (sym c.phase.view_is) c.requires.all in
    let done = c.in_ok-shards.field-0 in
    let turned = c.in_ok-inbound.ensures in
    sharded-ends p done.wake done.shards.items done.outbound.items c.in_ok-inbound.inbound.items c.phase.invariant (c.in_ok-shards.ensures {u = tt} p c.phase.invariant.early all)
    turned.count turned.square turned.each
