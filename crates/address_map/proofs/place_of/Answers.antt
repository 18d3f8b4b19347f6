-- Each round peels one field off, and at the end none is left.
use Rattle.std.proofs.Common.{◌<◌, length, subst, sym}
use Rattle.sim_base.specs.declared.place.Field.TheVariants.{Channel}
use Rattle.sim_base.specs.PlaceRange.{PlaceInRange}
use Rattle.address_map.proofs.Peeled.{peeled-step, peeled-end, peeled-origin, place_of-in_range}
use Rattle.address_map.proofs.place_of.Goals as goal

pub loop-field-init : goal.loop-field-init
loop-field-init c = peeled-origin c.args.config.now c.args.address

pub loop-field-preserved : goal.loop-field-preserved
loop-field-preserved c =
    let inside : c.loop-field.field-index < length c.args.config.now.fields = rw (← c.as_slice-field-items.ensures) c.loop-field-test.true in
    let step = peeled-step c.args.config.now c.loop-field.place c.args.config.now.fields c.loop-field.field-index c.loop-field.number Channel inside in
    cc step

pub returns-clause-value : goal.returns-clause-value
returns-clause-value c =
    cc (peeled-end c.args.config.now c.loop-field.place c.args.config.now.fields c.loop-field.field-index c.loop-field.number
    (rw (← c.as_slice-field-items.ensures) c.loop-field-test.false))

pub returns-clause-range : goal.returns-clause-range
returns-clause-range c = subst (PlaceInRange c.args.config.now) (sym (returns-clause-value c)) (place_of-in_range c.args.config.now c.args.address)

pub returns-clause-channel : goal.returns-clause-channel
returns-clause-channel c = (returns-clause-range c).channel
