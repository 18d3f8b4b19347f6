use Rattle.std.proofs.Common.{◌≡◌, ◌<◌, false, List, length, drop, sym, ap, subst, ◌∙◌}
use Rattle.sim_base.specs.declared.message.Message.{Message}
use Rattle.links.specs.Buffers.{Buffered, is_younger_last}
use Rattle.links.proofs.Steps.{last_place, put_last, some-left}
use Rattle.links.proofs.buffers.Buffer.put_by_age.Goals as goal

pub put_among-requires-clause-younger : goal.put_among-requires-clause-younger
put_among-requires-clause-younger c =
    ap (is_younger_last c.args.message.now) (ap (λ (b : Buffered). b.items) (sym c.self.view_is))
    ∙ last_place c.args.message.now c.self.inside.free c.self.inside.places.items c.self.inside.within c.self.inside.none_free
    ∙ ap (is_younger_last c.args.message.now) (sym c.deref.ensures.value)
    ∙ sym c.is_before_last.ensures
    ∙ c.if-is_before_last.true

pub returns-clause-items : goal.returns-clause-items
returns-clause-items c =
    put_last c.self.inside.free c.args.message.now c.args.self.now.items c.self.inside.places.items _ c.self.inside.within (ap (λ (b : Buffered). b.items) (sym c.self.view_is))
    c.push_reserved.ensures.items c.requires.in_order
    (ap (is_younger_last c.args.message.now) (ap (λ (b : Buffered). b.items) (sym c.self.view_is))
    ∙ last_place c.args.message.now c.self.inside.free c.self.inside.places.items c.self.inside.within c.self.inside.none_free
    ∙ ap (is_younger_last c.args.message.now) (sym c.deref.ensures.value)
    ∙ sym c.is_before_last.ensures
    ∙ c.if-is_before_last.false)

pub returns-clause-behind : goal.returns-clause-behind
returns-clause-behind c =
    let items = c.args.self.now.items in
    let at : items ≡ drop c.self.inside.free c.self.inside.places.items = ap (λ (b : Buffered). b.items) (sym c.self.view_is) in
    let some = some-left c.self.inside.free items c.self.inside.places.items c.self.inside.within c.self.inside.none_free at in
    let here = ap (λ (ms : List Message). length ms) c.deref-2.ensures.value in
    let young : is_younger_last c.args.message.now items ≡ false =
    ap (is_younger_last c.args.message.now) at
    ∙ last_place c.args.message.now c.self.inside.free c.self.inside.places.items c.self.inside.within c.self.inside.none_free
    ∙ ap (is_younger_last c.args.message.now) (sym c.deref.ensures.value)
    ∙ sym c.is_before_last.ensures
    ∙ c.if-is_before_last.false in (
      λ is. (some.1 (subst (λ n. 0 < n) here (c.placed_last-placed.ensures.0 is)), young),
      λ h. c.placed_last-placed.ensures.1 (subst (λ n. 0 < n) (sym here) (some.0 h.0)),
    )
