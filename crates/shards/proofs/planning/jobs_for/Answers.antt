-- The part of each shard is that at its index, with the lists that stood there.
use Rattle.std.proofs.Common.{◌≡◌, ◌<◌, ◌∙◌, ◌∷◌, ◌++◌, ◌-◌, [], suc, rules, length, get_or, sym, ap, ap₂, subst, append_assoc, arith}
use Rattle.std.specs.Prelude.{map}
use Rattle.std.specs.Vec.{vec_len}
use Rattle.std.specs.Vec.Iter.{into_iter_items}
use Rattle.std.specs.declared.vec.Vec.{Vec}
use Rattle.std.specs.declared.alloc.Global.{Global}
use Rattle.sim_base.specs.History.{below}
use Rattle.sim_base.specs.declared.message.Message.{Message}
use Rattle.sim_base.proofs.Added.{length-push_suc}
use Rattle.statistics.proofs.Lists.{map_below_more}
use Rattle.shards.specs.Jobs.{JobView, IsJob, IsOwnJob, job_view}
use Rattle.shards.specs.Phases.{PhaseView, job_of, name_of}
use Rattle.shards.specs.declared.job.JobName.{JobName}
use Rattle.units.proofs.Standing.{all-yielded}
use Rattle.shards.proofs.Setting.{left-next, seam-left, seam-job, job-own, job-seen}
use Rattle.shards.proofs.planning.jobs_for.Goals as goal

pub index_mut-requires : goal.index_mut-requires
index_mut-requires c =
    let at = c.loop-shard in
    let whole = ap (λ z. at.yielded ++ z) (sym c.in-Some.ensures.steps.0) ∙ at.invariant.order ∙ c.into_iter-shard-iterator.ensures.into_iter_gives.0 in
    let less : length at.yielded < length at.inbound.items = seam-left c.args.shards.items at.yielded _ c.in-Some.shard c.args.inbound.items at.inbound.items whole c.requires.inbound_count at.invariant.left in
    let len : c.len-index.result ≡ length at.jobs.items = search rules in
    let size : vec_len at.inbound ≡ length at.inbound.items = search rules in
    omega (arith, less, len, size, at.invariant.count)

pub invariant_of-push : goal.invariant_of-push
invariant_of-push c =
    let p = c.args.phase.now in
    let at = c.loop-shard in
    let x = c.in-Some.shard in
    let lists = c.replace.result in
    let d = c.index_mut.result.now in
    let whole = ap (λ z. at.yielded ++ z) (sym c.in-Some.ensures.steps.0) ∙ at.invariant.order ∙ c.into_iter-shard-iterator.ensures.into_iter_gives.0 in
    let len : c.len-index.result ≡ length at.jobs.items = search rules in
    let index : length at.yielded ≡ c.len-index.result = sym (len ∙ at.invariant.count) in
    let taken : get_or at.inbound.items (length at.yielded) d ≡ lists = ap (λ n. get_or at.inbound.items n d) index ∙ sym (c.replace.ensures.value ∙ c.index_mut.ensures.value) in
    let named = ap {B = JobName} (λ (v : PhaseView). name_of v c.len-index.result) (sym c.phase.view_is) in
    subst (λ name. IsOwnJob name x.value lists.items) named
    (job-own p.machine p.bounds _ x.value lists.items
    (subst (λ n. IsJob p.machine p.bounds (name_of p n) x.value lists.items) index
    (subst (λ (v : Vec (Vec Message Global) Global). IsJob p.machine p.bounds (name_of p (length at.yielded)) x.value v.items) taken
    (seam-job p c.args.shards.items at.yielded _ x c.args.inbound.items at.inbound.items d c.requires whole at.invariant.left))))

pub loop-shard-preserved : goal.loop-shard-preserved
loop-shard-preserved c =
    let p = c.args.phase.now in
    let at = c.loop-shard in
    let x = c.in-Some.shard in
    let f = job_of p in
    let steps = c.in-Some.ensures.steps in
    let whole = ap (λ z. at.yielded ++ z) (sym steps.0) ∙ at.invariant.order ∙ c.into_iter-shard-iterator.ensures.into_iter_gives.0 in
    let grown = length-push_suc at.yielded x in
    let items = c.in_ok-push.ensures.items in
    let len : c.len-index.result ≡ length at.jobs.items = search rules in
    let index : length at.yielded ≡ c.len-index.result = sym (len ∙ at.invariant.count) in
    let job = seam-job p c.args.shards.items at.yielded _ x c.args.inbound.items at.inbound.items c.index_mut.result.now c.requires whole at.invariant.left in
    let named = ap {B = JobView} (λ (v : PhaseView). job_view x.value (name_of v c.len-index.result)) c.phase.view_is in
    let seen = named ∙ ap {B = JobView} (λ n. job_view x.value (name_of p n)) (sym index) ∙ job-seen p (length at.yielded) x.value job.before.is in
    record {
      order = append_assoc at.yielded (x ∷ []) _ ∙ ap (λ z. at.yielded ++ z) (sym steps.0) ∙ at.invariant.order;
      finite =
          (let was = at.invariant.finite in
          let remaining = steps.1 in
          let short = ap length steps.0 in
          omega arith);
      left = left-next at.yielded x c.len-index.result c.args.inbound.items at.inbound.items c.replace.new.dest (sym index) at.invariant.left;
      count = ap length items ∙ length-push_suc at.jobs.items _ ∙ ap suc at.invariant.count ∙ sym grown;
      jobs = items ∙ ap₂ (λ ts t. ts ++ t ∷ []) at.invariant.jobs seen ∙ sym (map_below_more f (length at.yielded)) ∙ ap (λ n. map f (below n)) (sym grown);
    }

pub returns : goal.returns
returns c =
    let p = c.args.phase.now in
    let at = c.loop-shard in
    let f = job_of p in
    let all = all-yielded at.yielded (into_iter_items at.shard-iterator) c.args.shards.items (at.invariant.order ∙ c.into_iter-shard-iterator.ensures.into_iter_gives.0)
    (sym at.invariant.finite ∙ c.in-None.ensures.steps.0) in
    let count : length at.yielded ≡ length p.bounds - 1 = omega (arith, ap length all, c.requires.count) in
    at.invariant.jobs ∙ ap (λ n. map f (below n)) count
