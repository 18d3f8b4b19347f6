use Rattle.std.proofs.Common.{◌≡◌, ◌++◌, sym, ap, ◌∙◌, arith}
use Rattle.std.specs.Prelude.{filter_map, flat_map}
use Rattle.sim_base.specs.Final.{banks, banks_of_rank}
use Rattle.sim_base.specs.History.{below}
use Rattle.laws.specs.Commands.{channel_steps_of}
use Rattle.units.specs.SpanLaws.Mail.{mail_before}
use Rattle.sim_base.specs.declared.message.Unit.TheVariants as unit
use Rattle.units.specs.Runs.{row_at, rows_in_banks}
use Rattle.units.proofs.Ended.{given_list}
use Rattle.units.proofs.ending.open_rows.Goals as goal

pub add_rows_of_rank-requires : goal.add_rows_of_rank-requires
add_rows_of_rank-requires c group l bank k =
    let machine = c.args.machine.now in
    let s = machine.config in
    let number = c.args.number in
    record {
      s = s;
      channel = number;
      steps = channel_steps_of s machine.traces.items c.args.now number;
      mail = mail_before s machine.traces.items c.args.now (unit.Channel number) c.args.now;
      stands = c.requires.stands;
      rank_in = c.loop-rank-test.true;
      group_in = l;
      bank_in = k;
    }

pub loop-rank-preserved : goal.loop-rank-preserved
loop-rank-preserved c =
    let machine = c.args.machine.now in
    let l = c.loop-rank in
    let f = banks_of_rank machine.config in
    let g = row_at machine c.args.now c.args.number in
    c.in_ok-add_rows_of_rank.ensures {u = tt} machine c.args.number c.args.now c.requires.stands
    ∙ ap (λ z. z ++ filter_map g (f l.rank)) l.invariant
    ∙ sym (given_list g f l.rank)

pub returns : goal.returns
unfolding banks
returns c =
    let machine = c.args.machine.now in
    let s = machine.config in
    let l = c.loop-rank in
    let past = c.loop-rank-test.false in
    let within = l.auto.rank-end in
    let end : l.rank ≡ s.ranks = omega (arith, past, within) in
    l.invariant ∙ ap (λ n. rows_in_banks machine c.args.now c.args.number (flat_map (banks_of_rank s) (below n))) end
