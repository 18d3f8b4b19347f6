-- The channels, the cores below them, and the time below those.
use Rattle.std.proofs.Common.{◌≡◌, ap, rules}
use Rattle.show.specs.Rows.{machine_in, time_text}
use Rattle.measures.proofs.Texts.{puts_both, words_as}
use Rattle.show.proofs.Texts.{IsBottom, bottom_of, screen_of}
use Rattle.show.proofs.screen.put_screen.Goals as goal

pub returns : goal.returns
returns c =
    let stats = c.args.stats.now in
    let options = c.args.options in
    let cycles_is : c.stats.inside.cycles ≡ stats.cycles = search rules in
    let time = words_as (ap (time_text options.khz) cycles_is) c.put_time.ensures in
    let bottom = puts_both {C = IsBottom stats options} (bottom_of stats options) c.put_cores.ensures time in
    puts_both (screen_of stats options (machine_in c.args.config)) c.put_channels.ensures bottom
