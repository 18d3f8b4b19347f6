use Rattle.std.proofs.Common.{◌≡◌, eqb, length, sym, ap, ◌∙◌}
use Rattle.std.specs.List.{list_all}
use Rattle.links.specs.Buffers.{Buffered}
use Rattle.links.proofs.Next.{empty_from_none, none_from_empty}
use Rattle.links.proofs.flight.Links.is_empty.Goals as goal

pub returns : goal.returns
returns c =
    let buffers = c.self.inside.buffers.items in
    let all : c.all_empty.result ≡ list_all (λ (buffer : Buffered). eqb (length buffer.items) 0) buffers =
    c.all_empty.ensures ∙ ap (list_all (λ (buffer : Buffered). eqb (length buffer.items) 0)) c.deref.ensures.value in
    rw (← c.self.view_is) (λ h. empty_from_none buffers (sym all ∙ h), λ h. all ∙ none_from_empty buffers h)
