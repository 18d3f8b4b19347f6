-- A row for one channel more.
use Rattle.std.proofs.Common.{◌++◌, ◌∷◌, [], ap₂, sym, ◌∙◌}
use Rattle.sim_base.proofs.Lists.{map_below-more}
use Rattle.show.specs.Rows.{wait_row}
use Rattle.show.proofs.requests.wait_rows.Goals as goal

pub loop-channel-preserved : goal.loop-channel-preserved
loop-channel-preserved c =
    c.in_ok-push.ensures.items ∙ ap₂ (λ rows row. rows ++ row ∷ []) c.loop-channel.invariant c.wait_row.ensures ∙ sym (map_below-more (wait_row c.args.requests.now c.args.khz) c.loop-channel.channel)
