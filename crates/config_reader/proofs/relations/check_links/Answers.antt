use Rattle.std.proofs.Common.{◌≡◌, ◌*◌, nat_lt, Err}
use Rattle.std.specs.List.{list_all}
use Rattle.config_reader.specs.Document.Relations.{links_of}
use Rattle.config_reader.proofs.Refusing.{same_fault}
use Rattle.config_reader.proofs.relations.check_links.Goals as goal

pub returns-in_err-relation-clause-value : goal.returns-in_err-relation-clause-value
unfolding links_of
returns-in_err-relation-clause-value c =
    let kept : c.from_residual.result ≡ Err c.in_err-relation.field-0.0 = same_fault _ _ c.from_residual.ensures in
    let links = 3 * c.args.cores * c.args.channels in
    let tested : c.are_below.result ≡ list_all (λ o. nat_lt o.link links) c.args.overrides.now = rw (c.from.ensures, c.from-2.ensures) at c.are_below.ensures.value in
    rw (kept, ← tested, ← c.in_err-relation.ensures {u = tt})
