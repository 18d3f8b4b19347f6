-- Each round adds the value of one field, and at the end none is left.
use Rattle.std.proofs.Common.{◌≡◌, ◌+◌, ◌*◌, ◌<◌, ◌∙◌, length, get_or, drop, arith, sym}
use Rattle.sim_base.specs.declared.place.Field.TheVariants.{Channel}
use Rattle.sim_base.specs.Places.{field_size}
use Rattle.address_map.specs.Digits.{value_of, number_of}
use Rattle.address_map.proofs.Joined.{one_more, room-all, number_of-step, number_of-end, sum-step, place_of-joined, joined-least}
use Rattle.address_map.proofs.address_of.Goals as goal

pub loop-field-init : goal.loop-field-init
loop-field-init c = record { sum = omega arith; below = omega arith; fits = omega (arith, room-all c.args.config.now) }

pub overflow_mul-address : goal.overflow_mul-address
overflow_mul-address c =
    let within : c.loop-field.field-index < length c.args.config.now.fields = rw (← c.as_slice-field-items.ensures) c.loop-field-test.true in
    let added = one_more c.args.config.now c.args.place.now c.args.config.now.fields c.loop-field.field-index Channel c.loop-field.address c.loop-field.scale c.requires within c.loop-field.invariant.below c.loop-field.invariant.fits in
    let value : c.from.result ≡ value_of c.args.place.now (get_or c.args.config.now.fields c.loop-field.field-index Channel) = cc in
    rw value (omega arith)

pub overflow_add-address : goal.overflow_add-address
overflow_add-address c =
    let within : c.loop-field.field-index < length c.args.config.now.fields = rw (← c.as_slice-field-items.ensures) c.loop-field-test.true in
    let added = one_more c.args.config.now c.args.place.now c.args.config.now.fields c.loop-field.field-index Channel c.loop-field.address c.loop-field.scale c.requires within c.loop-field.invariant.below c.loop-field.invariant.fits in
    let value : c.from.result ≡ value_of c.args.place.now (get_or c.args.config.now.fields c.loop-field.field-index Channel) = cc in
    rw value (omega arith)

pub overflow_mul-scale : goal.overflow_mul-scale
overflow_mul-scale c =
    let within : c.loop-field.field-index < length c.args.config.now.fields = rw (← c.as_slice-field-items.ensures) c.loop-field-test.true in
    let added = one_more c.args.config.now c.args.place.now c.args.config.now.fields c.loop-field.field-index Channel c.loop-field.address c.loop-field.scale c.requires within c.loop-field.invariant.below c.loop-field.invariant.fits in
    let size : c.from-scale.result ≡ field_size c.args.config.now (get_or c.args.config.now.fields c.loop-field.field-index Channel) = cc in
    rw size (omega arith)

pub loop-field-preserved : goal.loop-field-preserved
loop-field-preserved c =
    let s = c.args.config.now in
    let p = c.args.place.now in
    let f = get_or s.fields c.loop-field.field-index Channel in
    let within : c.loop-field.field-index < length s.fields = rw (← c.as_slice-field-items.ensures) c.loop-field-test.true in
    let added = one_more s p s.fields c.loop-field.field-index Channel c.loop-field.address c.loop-field.scale c.requires within c.loop-field.invariant.below c.loop-field.invariant.fits in
    let value : c.from.result ≡ value_of p f = cc in
    let size : c.from-scale.result ≡ field_size s f = cc in
    rw (value, size)
    (record {
      sum =
          sym (sum-step c.loop-field.address c.loop-field.scale (number_of s p (drop (c.loop-field.field-index + 1) s.fields)) (field_size s f) (value_of p f))
          ∙ (rw (← number_of-step s p s.fields c.loop-field.field-index Channel within) c.loop-field.invariant.sum);
      below = added.below;
      fits = added.fits;
    })

address_is : (c : goal.After-loop-field) → c.loop-field.address ≡ 64 * number_of c.args.config.now c.args.place.now c.args.config.now.fields
address_is c =
    let none = number_of-end c.args.config.now c.args.place.now c.args.config.now.fields c.loop-field.field-index (rw (← c.as_slice-field-items.ensures) c.loop-field-test.false) in
    let whole = rw none at c.loop-field.invariant.sum in
    omega arith

pub returns-clause-same : goal.returns-clause-same
returns-clause-same c = rw (address_is c) (place_of-joined c.args.config.now c.args.place.now c.requires)

pub returns-clause-least : goal.returns-clause-least
returns-clause-least c a e = rw (address_is c) (joined-least c.args.config.now c.args.place.now a e)
