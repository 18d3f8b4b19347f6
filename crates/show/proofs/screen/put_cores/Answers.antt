-- The head, and the table below it.
use Rattle.std.proofs.Common.{◌≡◌, ◌∙◌, ap₂, length, map, append_assoc, refl, rules}
use Rattle.show.specs.Rows.{core_row}
use Rattle.show.specs.Screen.{cores_head, finished}
use Rattle.measures.proofs.Texts.{words_as, puts_as}
use Rattle.show.proofs.Texts.{put_below, table_as}
use Rattle.show.proofs.screen.put_cores.Goals as goal

pub returns : goal.returns
returns c =
    let cores_is : c.len-cores.result ≡ length c.args.stats.now.cores = search rules in
    let cycles_is : c.stats.inside.cycles ≡ c.args.stats.now.cycles = search rules in
    let listed : c.deref-2.result.now ≡ c.args.stats.now.cores = search rules in
    let rows_are = ap₂ (λ cycles cores. map (core_row cycles c.args.options.khz) cores) cycles_is listed in
    let done : c.finished-finished.result ≡ finished c.args.stats.now.cores = search rules in
    let first = words_as {words = (cores_head c.len-cores.result c.finished-finished.result)} (simp append_assoc refl) c.write.ensures.output in
    put_below (cores_head (length c.args.stats.now.cores) (finished c.args.stats.now.cores)) (puts_as (λ put is. is ∙ ap₂ cores_head cores_is done) first)
    (puts_as (λ text table. table_as c.args.options.all text refl c.core_headings.ensures rows_are table) (c.put.ensures _ c.core_rows-rows.ensures))
