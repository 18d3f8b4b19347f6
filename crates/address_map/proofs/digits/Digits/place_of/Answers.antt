-- Each field has its digit.
use Rattle.std.proofs.Common.{◌<◌, ◌/◌, ◌∙◌, sym, subst}
use Rattle.sim_base.specs.declared.place.Place.{Place}
use Rattle.sim_base.specs.Places.{place_of, field_of}
use Rattle.address_map.proofs.Peeled.{same_place, place_of-in_range}
use Rattle.address_map.proofs.digits.Digits.place_of.Goals as goal

pub returns-clause-value : goal.returns-clause-value
unfolding place_of field_of
returns-clause-value c s is =
    let line = c.args.address / 64 in
    same_place _ _
    (c.value_in.ensures ∙ is.channel.same line)
    (c.value_in-2.ensures ∙ is.rank.same line)
    (c.value_in-3.ensures ∙ is.group.same line)
    (c.value_in-4.ensures ∙ is.bank.same line)
    (c.value_in-5.ensures ∙ is.row.same line)
    (c.value_in-6.ensures ∙ is.column.same line)

pub returns-clause-channel : goal.returns-clause-channel
returns-clause-channel c s is = subst (λ (p : Place). p.channel < s.channels) (sym (returns-clause-value c s is)) (place_of-in_range s c.args.address).channel
