-- The core goes on up to each message, takes it, and goes on to the end.
use Rattle.std.proofs.Common.{[], ◌<◌, ◌≡◌, ◌∷◌, ◌^◌, ◌∙◌, ◌+◌, ℕ, drop, refl, sym, subst, arith}
use Rattle.std.proofs.lemmas.List.{append-nil}
use Rattle.core_window.specs.Arriving.{all_arriving}
use Rattle.core_window.specs.CoreViews.{view_of}
use Rattle.core_window.specs.Fit.{CanRun}
use Rattle.core_window.specs.Inside.{HasTaken}
use Rattle.core_window.proofs.Running.{is_at, taking-standing, taking-order, taking-within, taking-until, taking-on, taking-receives, taking-more, taking-last}
use Rattle.core_window.proofs.Stretching.{ok-map}
use Rattle.core_window.proofs.core_unit.Core.run.Goals as goal

early_of : (x u : ℕ) → x < u → u < 2 ^ 62 → x < 2 ^ 62
early_of x u l k = omega arith

pub messages-init : goal.messages-init
messages-init c =
    let up = c.take_while_stalled-rest.ensures in
    let inbox = all_arriving c.args.arriving in
    record {
      taken = up.taken;
      left = up.left;
      by_age = up.by_age;
      taking = record {
        sent = [];
        behind = sym (append-nil c.args.sent.now.items);
        taking = subst (λ n. HasTaken (view_of c.args.self.now) n c.args.until inbox up.taken (view_of c.take_while_stalled-rest.new.self) []) c.requires.at up.took;
      };
    }

pub take_while_stalled-rest-requires-clause-fit : goal.take_while_stalled-rest-requires-clause-fit
take_while_stalled-rest-requires-clause-fit c = subst (λ n. CanRun (view_of c.args.self.now) n c.args.until (all_arriving c.args.arriving)) (sym c.requires.at) c.requires.fit

pub advance-requires-clause-stands : goal.advance-requires-clause-stands
advance-requires-clause-stands c =
    let h = c.messages.invariant in
    taking-standing (view_of c.args.self.now) c.args.from c.args.until (all_arriving c.args.arriving) h.taken (view_of c.messages.self) c.args.sent.now.items c.messages.sent.items c.requires.fit h.taking

pub advance-requires-clause-order : goal.advance-requires-clause-order
advance-requires-clause-order c =
    let h = c.messages.invariant in
    let inbox = all_arriving c.args.arriving in
    taking-order (view_of c.args.self.now) c.args.from c.args.until inbox h.taken (view_of c.messages.self) c.args.sent.now.items c.messages.sent.items c.in-Some.message.now c.requires.fit h.taking
    (is_at inbox h.taken _ _ (sym h.left ∙ c.in-Some.ensures.some))

pub advance-requires-clause-early : goal.advance-requires-clause-early
advance-requires-clause-early c =
    let h = c.messages.invariant in
    let inbox = all_arriving c.args.arriving in
    early_of _ c.args.until
    (taking-within (view_of c.args.self.now) c.args.from c.args.until inbox h.taken c.in-Some.message.now c.requires.fit (is_at inbox h.taken _ _ (sym h.left ∙ c.in-Some.ensures.some)))
    c.requires.early

pub receive-requires-clause-stands : goal.receive-requires-clause-stands
receive-requires-clause-stands c =
    let h = c.messages.invariant in
    let inbox = all_arriving c.args.arriving in
    let at = is_at inbox h.taken c.in-Some.message.now _ (sym h.left ∙ c.in-Some.ensures.some) in
    let order = taking-order (view_of c.args.self.now) c.args.from c.args.until inbox h.taken (view_of c.messages.self) c.args.sent.now.items c.messages.sent.items _ c.requires.fit h.taking at in
    taking-receives (view_of c.args.self.now) c.args.from c.args.until inbox h.taken (view_of c.advance.new.self) c.args.sent.now.items c.advance.new.sent.items _ c.requires.fit
    (taking-on (view_of c.args.self.now) c.args.from c.args.until inbox h.taken (view_of c.messages.self) (view_of c.advance.new.self) c.args.sent.now.items c.messages.sent.items c.advance.new.sent.items _
    c.requires.at order at h.taking (c.in_ok-advance.ensures {u = tt}).advances)
    at (c.in_ok-advance.ensures {u = tt}).cycle

pub receive-requires-clause-early : goal.receive-requires-clause-early
receive-requires-clause-early c =
    let h = c.messages.invariant in
    let inbox = all_arriving c.args.arriving in
    subst (λ n. n < 2 ^ 62) (sym (c.in_ok-advance.ensures {u = tt}).cycle)
    (early_of _ c.args.until
    (taking-within (view_of c.args.self.now) c.args.from c.args.until inbox h.taken c.in-Some.message.now c.requires.fit (is_at inbox h.taken _ _ (sym h.left ∙ c.in-Some.ensures.some)))
    c.requires.early)

pub messages-preserved : goal.messages-preserved
messages-preserved c =
    let h = c.messages.invariant in
    let inbox = all_arriving c.args.arriving in
    let at = is_at inbox h.taken c.in-Some.message.now _ (sym h.left ∙ c.in-Some.ensures.some) in
    let order = taking-order (view_of c.args.self.now) c.args.from c.args.until inbox h.taken (view_of c.messages.self) c.args.sent.now.items c.messages.sent.items _ c.requires.fit h.taking at in
    let later : c.in-Some.message.now ∷ all_arriving c.next.new.self ≡ c.in-Some.message.now ∷ drop (h.taken + 1) inbox = sym c.in-Some.ensures.some ∙ h.left ∙ at.rest in
    record {
      taken = h.taken + 1;
      left = cc later;
      by_age = c.in-Some.ensures.by_age;
      taking = taking-more (view_of c.args.self.now) c.args.from c.args.until inbox h.taken (view_of c.advance.new.self) (view_of c.receive.new.self) c.args.sent.now.items c.advance.new.sent.items _
          (taking-on (view_of c.args.self.now) c.args.from c.args.until inbox h.taken (view_of c.messages.self) (view_of c.advance.new.self) c.args.sent.now.items c.messages.sent.items c.advance.new.sent.items _
          c.requires.at order at h.taking (c.in_ok-advance.ensures {u = tt}).advances)
          at (c.in_ok-advance.ensures {u = tt}).cycle c.receive.ensures;
    }

pub advance-requires-2-clause-stands : goal.advance-requires-2-clause-stands
advance-requires-2-clause-stands c =
    let h = c.messages.invariant in
    taking-standing (view_of c.args.self.now) c.args.from c.args.until (all_arriving c.args.arriving) h.taken (view_of c.messages.self) c.args.sent.now.items c.messages.sent.items c.requires.fit h.taking

pub advance-requires-2-clause-order : goal.advance-requires-2-clause-order
advance-requires-2-clause-order c =
    let h = c.messages.invariant in
    taking-until (view_of c.args.self.now) c.args.from c.args.until (all_arriving c.args.arriving) h.taken (view_of c.messages.self) c.args.sent.now.items c.messages.sent.items c.requires.fit h.taking

pub returns : goal.returns
returns c =
    let h = c.messages.invariant in
    let inbox = all_arriving c.args.arriving in
    let order = taking-until (view_of c.args.self.now) c.args.from c.args.until inbox h.taken (view_of c.messages.self) c.args.sent.now.items c.messages.sent.items c.requires.fit h.taking in
    ok-map c.advance-2.result _ _
    (taking-last (view_of c.args.self.now) c.args.from c.args.until inbox h.taken (view_of c.messages.self) (view_of c.advance-2.new.self) c.args.sent.now.items c.messages.sent.items c.advance-2.new.sent.items
    c.requires.at order (sym h.left ∙ c.in_default.ensures.none refl) h.taking)
    c.advance-2.ensures.advances
