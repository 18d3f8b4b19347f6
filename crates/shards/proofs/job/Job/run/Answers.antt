use Rattle.std.proofs.Common.{◌≡◌, ◌-◌, ℕ, suc, length, sym, ap, ap₂, subst, ◌∙◌, arith}
use Rattle.std.specs.Arc.{arc_value}
use Rattle.std.specs.Vec.{with_items}
use Rattle.std.specs.declared.vec.Vec.{Vec}
use Rattle.std.specs.declared.alloc.Global.{Global}
use Rattle.std.specs.declared.sync.Arc.{Arc}
use Rattle.std.proofs.lemmas.List.{with_items_is}
use Rattle.links.specs.InFlight.{InFlight}
use Rattle.sim_base.specs.Locality.{TravelsFor}
use Rattle.shards.specs.Lists.{AllEmpty, AreSortedByShard, lists_of, with_lists}
use Rattle.shards.specs.Shards.{HasEarlyWords, HasShardRun, HoldWhatWasSent, IsOfMachine, IsSplit, IsBetweenPhases, sent_of_shard}
use Rattle.shards.specs.Jobs.{IsDone, JobView}
use Rattle.units.specs.Wakes.{AreLowered}
use Rattle.units.specs.declared.machine.Machine.{Machine}
use Rattle.shards.specs.declared.shard.Shard.{Shard}
use Rattle.shards.proofs.Jobs.{taken-up, job-ends}
use Rattle.shards.proofs.Setting.{stop-early}
use Rattle.shards.proofs.job.Job.run.Goals as goal

pub take_up-requires : goal.take_up-requires
take_up-requires c =
    let has_run = c.self.invariant.before.has_run in
    subst IsOfMachine (sym c.deref_mut.ensures.value)
    (record { words = omega (arith, has_run.within, has_run.words_count); links = ap (λ (x : InFlight). x.channels) has_run.flight })

pub go-requires-clause-order : goal.go-requires-clause-order
go-requires-clause-order c = c.self.invariant.next

pub go-requires-clause-early : goal.go-requires-clause-early
go-requires-clause-early c = c.self.invariant.early

pub go-requires-clause-travels : goal.go-requires-clause-travels
go-requires-clause-travels c =
    let name = c.self.inside.name in
    let machine = ap (λ (x : Shard). x.machine) (c.deref_mut-3.ensures.value ∙ (c.in_ok-take_up.ensures {u = tt}).same) ∙ ap (λ (x : Shard). x.machine) c.deref_mut.ensures.value in
    subst (λ (x : Arc Machine Global). TravelsFor (arc_value x).config (name.until - name.from)) (sym machine) c.self.invariant.travels

pub sort_sent-requires-clause-split : goal.sort_sent-requires-clause-split
sort_sent-requires-clause-split c =
    let shard = c.self.inside.shard.value in
    let up = c.deref_mut-3.ensures.value ∙ (c.in_ok-take_up.ensures {u = tt}).same in
    let went = c.in_ok-wake.ensures {u = tt} in
    let old = c.deref_mut.ensures.value in
    let machine = ap (λ (x : Shard). x.machine) c.deref.ensures ∙ went.machine ∙ ap (λ (x : Shard). x.machine) up ∙ ap (λ (x : Shard). x.machine) old in
    let bounds = ap (λ (x : Shard). x.bounds) c.deref.ensures ∙ went.bounds ∙ ap (λ (x : Shard). x.bounds) up ∙ ap (λ (x : Shard). x.bounds) old in
    subst (λ (x : Arc Machine Global). IsSplit (arc_value x).config c.deref.result.now.bounds.items) (sym machine)
    (subst (λ (x : Vec ℕ Global). IsSplit (arc_value shard.machine).config x.items) (sym bounds) c.self.invariant.before.split)

pub sort_sent-requires-clause-count : goal.sort_sent-requires-clause-count
sort_sent-requires-clause-count c =
    let inbound = c.self.inside.inbound in
    let up = c.in_ok-take_up.ensures {u = tt} in
    let bounds = ap (λ (x : Shard). x.bounds) c.deref.ensures ∙ (c.in_ok-wake.ensures {u = tt}).bounds ∙ ap (λ (x : Shard). x.bounds) (c.deref_mut-3.ensures.value ∙ up.same) ∙ ap (λ (x : Shard). x.bounds) c.deref_mut.ensures.value in
    let many = up.count ∙ ap length c.deref_mut-2.ensures.value in
    let lists = with_items_is inbound c.take_up.new.lists (many ∙ sym inbound.ok.0) in
    ap suc (ap length c.deref_mut-4.ensures.value ∙ ap length lists ∙ many) ∙ c.self.invariant.before.count ∙ sym (ap (λ (x : Vec ℕ Global). length x.items) bounds)

pub sort_sent-requires-clause-empty : goal.sort_sent-requires-clause-empty
sort_sent-requires-clause-empty c =
    let inbound = c.self.inside.inbound in
    let up = c.in_ok-take_up.ensures {u = tt} in
    let lists = with_items_is inbound c.take_up.new.lists (up.count ∙ ap length c.deref_mut-2.ensures.value ∙ sym inbound.ok.0) in
    subst AllEmpty (sym (c.deref_mut-4.ensures.value ∙ lists)) up.empty

pub returns : goal.returns
returns c =
    let name = c.self.inside.name in
    let up = c.deref_mut-3.ensures.value ∙ (c.in_ok-take_up.ensures {u = tt}).same in
    let went = c.in_ok-wake.ensures {u = tt} in
    let old = c.deref_mut.ensures.value in
    let machine = went.machine ∙ ap (λ (x : Shard). x.machine) up ∙ ap (λ (x : Shard). x.machine) old in
    let bounds = went.bounds ∙ ap (λ (x : Shard). x.bounds) up ∙ ap (λ (x : Shard). x.bounds) old in
    ap₂ {C = JobView} (λ (m : Arc Machine Global) (b : Vec ℕ Global). record { machine = arc_value m; bounds = b.items; name = name }) machine bounds ∙ c.self.view_is

pub go-requires-clause-between_phases : goal.go-requires-clause-between_phases
go-requires-clause-between_phases c =
    let f = c.self.inside in
    let shard = f.shard.value in
    let m = arc_value shard.machine in
    let up = c.in_ok-take_up.ensures {u = tt} in
    let new = c.take_up.new.self in
    let old = c.deref_mut.ensures.value in
    let lists = c.deref_mut-2.ensures.value in
    let same : c.deref_mut-3.result.now ≡ record shard { range = record shard.range { words = new.range.words }; traffic = record shard.traffic { links = new.traffic.links } } =
    c.deref_mut-3.ensures.value ∙ up.same ∙ ap {A = Shard} {B = Shard} (λ x. record x { range = record x.range { words = new.range.words }; traffic = record x.traffic { links = new.traffic.links } }) old in
    let early : HasEarlyWords c.deref_mut.result.now = subst HasEarlyWords (sym old) (stop-early m shard.bounds.items f.name.shard f.name.from shard f.inbound.items c.self.invariant.before) in
    let low : AreLowered m.config shard.range.first (lists_of f.inbound.items) shard.range.words.items new.range.words.items =
    subst (λ (x : Shard). AreLowered (arc_value x.machine).config x.range.first (lists_of f.inbound.items) x.range.words.items new.range.words.items) old
    (subst (λ ls. AreLowered (arc_value c.deref_mut.result.now.machine).config c.deref_mut.result.now.range.first (lists_of ls) c.deref_mut.result.now.range.words.items new.range.words.items) lists (up.words early)) in
    let links = up.links ∙ ap₂ {C = InFlight} (λ (x : Shard) ls. with_lists x.traffic.links ls) old lists in
    subst (λ (x : Shard). IsBetweenPhases (arc_value x.machine) f.name.from x) (sym same)
    (taken-up m shard.bounds.items f.name.shard f.name.from shard f.inbound.items new.range.words.items new.traffic.links c.self.invariant.before low links)

pub invariant_of-result : goal.invariant_of-result
invariant_of-result c =
    let f = c.self.inside in
    let shard = f.shard.value in
    let m = arc_value shard.machine in
    let up = c.in_ok-take_up.ensures {u = tt} in
    let went = c.in_ok-wake.ensures {u = tt} in
    let sorted_by_shard = c.in_ok-sort_sent.ensures {u = tt} in
    let new = c.take_up.new.self in
    let after = c.go.new.self in
    let same : c.deref_mut-3.result.now ≡ record shard { range = record shard.range { words = new.range.words }; traffic = record shard.traffic { links = new.traffic.links } } =
    c.deref_mut-3.ensures.value ∙ up.same ∙ ap {A = Shard} {B = Shard} (λ x. record x { range = record x.range { words = new.range.words }; traffic = record x.traffic { links = new.traffic.links } }) c.deref_mut.ensures.value in
    let machine : after.machine ≡ shard.machine = went.machine ∙ ap (λ (x : Shard). x.machine) same in
    let bounds : after.bounds ≡ shard.bounds = went.bounds ∙ ap (λ (x : Shard). x.bounds) same in
    let first : after.range.first ≡ shard.range.first = went.first ∙ ap (λ (x : Shard). x.range.first) same in
    let count : length after.range.units.items ≡ length shard.range.units.items = went.count ∙ ap (λ (x : Shard). length x.range.units.items) same in
    let has_run = subst (λ (x : Shard). HasShardRun (arc_value x.machine) f.name.from f.name.until after) same went.has_run in
    let sent = went.sent ∙ ap (λ (x : Shard). sent_of_shard (arc_value x.machine) f.name.from f.name.until x) same in
    let up-lists = with_items_is f.inbound c.take_up.new.lists (up.count ∙ ap length c.deref_mut-2.ensures.value ∙ sym f.inbound.ok.0) in
    let many-up : length (with_items f.inbound c.take_up.new.lists).items ≡ length f.inbound.items = ap length up-lists ∙ up.count ∙ ap length c.deref_mut-2.ensures.value in
    let many : length c.sort_sent.new.lists ≡ length f.inbound.items = sorted_by_shard.count ∙ ap length c.deref_mut-4.ensures.value ∙ many-up in
    let lists = with_items_is (with_items f.inbound c.take_up.new.lists) c.sort_sent.new.lists (many ∙ sym f.inbound.ok.0) in
    let sorted_by_shard-after : HoldWhatWasSent after c.sort_sent.new.lists = subst (λ (x : Shard). HoldWhatWasSent x c.sort_sent.new.lists) c.deref.ensures sorted_by_shard.each in
    let each : AreSortedByShard m.config shard.bounds.items after.traffic.sent.items c.sort_sent.new.lists =
    subst (λ (x : Vec ℕ Global). AreSortedByShard m.config x.items after.traffic.sent.items c.sort_sent.new.lists) bounds
    (subst (λ (x : Arc Machine Global). AreSortedByShard (arc_value x).config after.bounds.items after.traffic.sent.items c.sort_sent.new.lists) machine sorted_by_shard-after) in
    let ends = job-ends m shard.bounds.items f.name c.in_ok-wake.wake shard after f.inbound.items c.sort_sent.new.lists c.self.invariant machine bounds first count has_run sent went.since went.sleep went.arrivals many each in
    subst (IsDone (arc_value after.machine) after.bounds.items f.name c.in_ok-wake.wake after) (sym lists)
    (subst (λ (x : Vec ℕ Global). IsDone (arc_value after.machine) x.items f.name c.in_ok-wake.wake after c.sort_sent.new.lists) (sym bounds)
    (subst (λ (x : Arc Machine Global). IsDone (arc_value x) shard.bounds.items f.name c.in_ok-wake.wake after c.sort_sent.new.lists) (sym machine) ends))
