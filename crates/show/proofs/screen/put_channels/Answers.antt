-- The head, and the table below it.
use Rattle.std.proofs.Common.{◌≡◌, ◌∙◌, ap₂, length, map, append_assoc, refl, rules}
use Rattle.show.specs.Rows.{channel_row, machine_in}
use Rattle.show.specs.Screen.{channels_head}
use Rattle.measures.proofs.Texts.{words_as, puts_as}
use Rattle.show.proofs.Texts.{put_below, table_as}
use Rattle.show.proofs.screen.put_channels.Goals as goal

pub returns : goal.returns
returns c =
    let cycles_is : c.stats.inside.cycles ≡ c.args.stats.now.cycles = search rules in
    let channels_is : c.len-channels.result ≡ length c.args.stats.now.channels = search rules in
    let listed : c.deref.result.now ≡ c.args.stats.now.channels = search rules in
    let rows_are = ap₂ (λ cycles channels. map (channel_row cycles (machine_in c.args.config) c.args.options.khz) channels) cycles_is listed in
    let first = words_as {words = (channels_head c.stats.inside.cycles c.len-channels.result)} (simp append_assoc refl) c.write.ensures.output in
    put_below (channels_head c.args.stats.now.cycles (length c.args.stats.now.channels)) (puts_as (λ put is. is ∙ ap₂ channels_head cycles_is channels_is) first)
    (puts_as (λ text table. table_as c.args.options.all text refl c.channel_headings.ensures rows_are table) (c.put.ensures _ c.channel_rows-rows.ensures))
