-- The screen, and the banks below it.
use Rattle.std.proofs.Common.{◌≡◌, ◌++◌, ◌∙◌, ap, length, rules}
use Rattle.show.specs.Banks.{all_banks_text, IsBanksScreen}
use Rattle.show.specs.Rows.{machine_in}
use Rattle.measures.proofs.Texts.{finished, puts_both}
use Rattle.show.proofs.banks.show_banks.Goals as goal

pub returns : goal.returns
returns c =
    let count_is : c.len.result ≡ length c.args.stats.now.channels = search rules in
    finished {A = IsBanksScreen c.args.stats.now c.args.commands.now c.args.options (machine_in c.args.config)} c.new-text.result c.put_channels.new.out c.finish.result c.new-text.ensures.empty
    (puts_both
    (λ above banks screen are. record {
      above = above;
      screen = screen;
      text_is = ap (λ t. above ++ t) (are ∙ ap (all_banks_text c.args.commands.now) count_is);
    })
    c.put_screen.ensures c.put_channels.ensures)
    c.finish.ensures
