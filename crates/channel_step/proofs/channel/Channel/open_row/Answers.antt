use Rattle.std.proofs.Common.{◌≤◌, arith}
use Rattle.channel_step.proofs.channel.Channel.open_row.Goals as goal

pub open_row-requires : goal.open_row-requires
open_row-requires c =
    let h = c.requires in
    let groups : h.s.groups ≤ 4 = h.s.memory_in_range.groups_in.0.1 in
    record { number = omega (arith, h.stands.made_for.banks_are, h.rank_in, h.group_in, h.bank_in, groups); group = omega (arith, h.group_in, groups); bank = h.bank_in }

pub returns : goal.returns
returns c s channel steps mail stands = c.open_row.ensures _ _ stands.candidates_stand
