use Rattle.std.proofs.Common.{ap, ◌∙◌, length, leb, get_or, arith}
use Rattle.queue.specs.Columns.{tag_column}
use Rattle.queue.proofs.Tags.{is_eligible_in, length-tags}
use Rattle.queue.proofs.request_log.RequestLog.is_eligible.Goals as goal

pub index-requires : goal.index-requires
index-requires c = omega (arith, c.requires, ap (λ v. length v.log) c.self.view_is, ap length c.self.invariant.tags_are, length-tags c.self.inside.log.items)

pub returns : goal.returns
returns c =
    ap (leb 128) (c.index.ensures ∙ ap (λ tags. get_or tags c.args.place c.index.result.now) (c.self.invariant.tags_are ∙ ap (λ v. tag_column v.log) c.self.view_is))
    ∙ is_eligible_in c.args.self.now.log c.args.place c.index.result.now c.requires
