-- The vector holds the credits that the slice held, of which those of one channel are one more.
use Rattle.std.proofs.Common.{◌≡◌, ◌∙◌, ◌/◌, ◌%◌, ℕ, List, length, refl, sym, ap, subst}
use Rattle.std.specs.Vec.{with_items}
use Rattle.std.proofs.lemmas.List.{with_items_is}
use Rattle.statistics.specs.declared.final_state.Credits.{Credits}
use Rattle.core_window.specs.Counting.{IsCreditedAt}
use Rattle.core_window.proofs.core_unit.Core.receive_credit.Goals as goal

pub returns-clause-rest : goal.returns-clause-rest
returns-clause-rest c = refl

pub returns-clause-len : goal.returns-clause-len
returns-clause-len c =
    let kept : (with_items c.args.self.now.credits c.add_credit_at.new.credits).items ≡ c.add_credit_at.new.credits =
    with_items_is c.args.self.now.credits c.add_credit_at.new.credits (c.add_credit_at.auto.credits ∙ c.deref_mut.ensures.len) in
    ap length kept ∙ c.add_credit_at.auto.credits ∙ ap length c.deref_mut.ensures.value

pub returns-clause-credits : goal.returns-clause-credits
returns-clause-credits c =
    let old = c.args.self.now.credits in
    let new = c.add_credit_at.new.credits in
    let access = c.args.access in
    let kept : (with_items old new).items ≡ new = with_items_is old new (c.add_credit_at.auto.credits ∙ c.deref_mut.ensures.len) in
    subst (λ (credits : List Credits). IsCreditedAt (c.args.link / 3 % c.args.self.now.config.channels) access old.items credits) (sym kept)
    (subst (λ (channel : ℕ). IsCreditedAt channel access old.items new) c.channel_of-channel.ensures
    (subst (λ (credits : List Credits). IsCreditedAt c.channel_of-channel.result access credits new) c.deref_mut.ensures.value c.add_credit_at.ensures))
