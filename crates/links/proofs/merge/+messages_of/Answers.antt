use Rattle.std.proofs.Common.{◌≡◌, sym, subst, ap, ◌∙◌, rules}
use Rattle.std.specs.Prelude.{IfOk}
use Rattle.std.specs.List.{AllByRecursion as Each}
use Rattle.sim_base.specs.History.{by_age}
use Rattle.links.specs.Buffers.{contents}
use Rattle.links.proofs.Merging.{messages_of_halves, messages_of_none, in_order-take, in_order-drop}
use Rattle.links.proofs.merge.+messages_of.Goals as goal
use Rattle.links.proofs.Ages.{by_age-twice}

pub messages_of-requires : goal.messages_of-requires
messages_of-requires t c = (
  search (rules, c.split_at.ensures.front_len),
  subst (λ buffers. Each (λ ms. by_age ms ≡ ms) (contents buffers)) (sym c.split_at.ensures.front) (in_order-take _ _ c.requires),
)

pub messages_of-requires-in_default : goal.messages_of-requires-in_default
messages_of-requires-in_default t c = (
  search (rules, c.split_at.ensures.back_len),
  subst (λ buffers. Each (λ ms. by_age ms ≡ ms) (contents buffers)) (sym c.split_at.ensures.back) (in_order-drop _ _ c.requires),
)

pub merged-requires : goal.merged-requires
merged-requires t c =
    let e = c.deref-in_default.ensures.value ∙ c.in_ok-second-in_default.ensures in
    ap by_age e ∙ by_age-twice _ ∙ sym e

pub returns-in-empty : goal.returns-in-empty
returns-in-empty t c = c.new.ensures.items ∙ messages_of_none _ c.in-empty.len_below

pub returns-in_ok-second-in_default : goal.returns-in_ok-second-in_default
returns-in_ok-second-in_default t c =
    subst (λ ms. IfOk c.merged.result (λ v. v.items ≡ ms))
    (messages_of_halves _ _ _ _ _ _ c.split_at.ensures.front c.split_at.ensures.back (c.deref.ensures.value ∙ c.in_ok-first-in_default.ensures)
    (c.deref-in_default.ensures.value ∙ c.in_ok-second-in_default.ensures)) c.merged.ensures
