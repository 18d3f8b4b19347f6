-- The size of each field is a power of two.
use Rattle.std.proofs.Common.{◌≤◌, ◌^◌, ◌<◌, ◌*◌, subst}
use Rattle.sim_base.proofs.Powers.{power_from_log}
use Rattle.address_map.proofs.Shifted.{is_power}
use Rattle.sim_base.specs.Places.{field_size}
use Rattle.address_map.proofs.digits.width_of_field.Goals as goal

pub returns : goal.returns
returns c =
    let size = c.size_of_field.ensures.value in
    power_from_log (field_size c.args.config.now c.args.field) c.ilog2.result (is_power c.args.config.now c.args.field)
    (subst (λ n. 2 ^ c.ilog2.result ≤ n) size c.ilog2.ensures.power_le)
    (subst (λ n. n < 2 * 2 ^ c.ilog2.result) size c.ilog2.ensures.next_power_gt)
