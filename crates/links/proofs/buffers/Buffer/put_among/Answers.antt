use Rattle.std.proofs.Common.{get_or, ◌-◌, sym, ap, ◌∙◌}
use Rattle.links.specs.Buffers.{Buffered}
use Rattle.links.proofs.Steps.{put_in}
use Rattle.links.proofs.buffers.Buffer.put_among.Goals as goal

pub returns-clause-items : goal.returns-clause-items
returns-clause-items c =
    put_in c.args.message.now c.index-last.result.now c.self.inside.free _ c.args.self.now.items c.self.inside.places.items _ c.deref_mut.result.now _ c.self.inside.within
    (ap (λ (b : Buffered). b.items) (sym c.self.view_is)) c.requires.in_order c.requires.younger
    (c.index-last.ensures ∙ ap (λ n. get_or c.self.inside.places.items (n - 1) c.index-last.result.now) (c.len.ensures ∙ c.self.inside.places.ok.0))
    c.push_reserved.ensures.items c.deref_mut.ensures.value (sym c.deref_mut.ensures.len) c.insert_from_back.ensures.length c.insert_from_back.ensures.inserted
