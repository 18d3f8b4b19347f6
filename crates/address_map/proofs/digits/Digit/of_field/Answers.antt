-- Each round goes behind one field, up to the one that is looked for.
use Rattle.std.proofs.Common.{◌≡◌, ◌-◌, ◌*◌, ◌/◌, ◌%◌, ◌^◌, ◌<◌, ◌∙◌, length, get_or, arith, ap}
use Rattle.std.specs.Prelude.{bit_and}
use Rattle.std.proofs.lemmas.Nat.{one_shl}
use Rattle.sim_base.specs.declared.place.Field.TheVariants.{Channel}
use Rattle.sim_base.specs.Places.{field_size}
use Rattle.address_map.proofs.Shifted.{width-small, behind-none, behind-fits, behind-one_more, behind-here, behind-all}
use Rattle.address_map.proofs.digits.Digit.of_field.Goals as goal

pub loop-other-init : goal.loop-other-init
loop-other-init c = behind-none c.args.config.now c.args.field

pub overflow_shl-result : goal.overflow_shl-result
overflow_shl-result c =
    let inside : c.loop-other.other-index < length c.args.config.now.fields = rw (← c.as_slice-other-items.ensures) c.loop-other-test.true in
    let size : field_size c.args.config.now (get_or c.args.config.now.fields c.loop-other.other-index Channel) ≡ 2 ^ c.width_of_field-width.result = cc in
    width-small c.args.config.now (get_or c.args.config.now.fields c.loop-other.other-index Channel) c.width_of_field-width.result size

pub returns-then-is_field : goal.returns-then-is_field
returns-then-is_field c =
    let inside : c.loop-other.other-index < length c.args.config.now.fields = rw (← c.as_slice-other-items.ensures) c.loop-other-test.true in
    let size : field_size c.args.config.now (get_or c.args.config.now.fields c.loop-other.other-index Channel) ≡ 2 ^ c.width_of_field-width.result = cc in
    let fits = width-small c.args.config.now (get_or c.args.config.now.fields c.loop-other.other-index Channel) c.width_of_field-width.result size in
    let mask : 1 * 2 ^ c.width_of_field-width.result % 4294967296 ≡ 2 ^ c.width_of_field-width.result = one_shl c.width_of_field-width.result 32 (omega arith) in
    record {
      same = λ line. ap (λ n. bit_and (line / 2 ^ c.loop-other.shift) (n - 1)) mask
          ∙ behind-here c.args.config.now c.args.field c.loop-other.other-index c.loop-other.shift c.width_of_field-width.result Channel c.loop-other.invariant inside size (cc) line;
    }

pub overflow_add-shift : goal.overflow_add-shift
overflow_add-shift c =
    let inside : c.loop-other.other-index < length c.args.config.now.fields = rw (← c.as_slice-other-items.ensures) c.loop-other-test.true in
    let size : field_size c.args.config.now (get_or c.args.config.now.fields c.loop-other.other-index Channel) ≡ 2 ^ c.width_of_field-width.result = cc in
    omega (arith, behind-fits c.args.config.now c.args.field c.loop-other.other-index c.loop-other.shift c.width_of_field-width.result Channel c.loop-other.invariant inside size)

pub loop-other-preserved : goal.loop-other-preserved
loop-other-preserved c =
    let inside : c.loop-other.other-index < length c.args.config.now.fields = rw (← c.as_slice-other-items.ensures) c.loop-other-test.true in
    let size : field_size c.args.config.now (get_or c.args.config.now.fields c.loop-other.other-index Channel) ≡ 2 ^ c.width_of_field-width.result = cc in
    behind-one_more c.args.config.now c.args.field c.loop-other.other-index c.loop-other.shift c.width_of_field-width.result Channel c.loop-other.invariant inside size cc

pub returns : goal.returns
returns c = record { same = behind-all c.args.config.now c.args.field c.loop-other.other-index c.loop-other.shift c.loop-other.invariant (rw (← c.as_slice-other-items.ensures) c.loop-other-test.false) }
