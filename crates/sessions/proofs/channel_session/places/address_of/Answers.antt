use Rattle.std.proofs.Common.{◌∙◌, sym}
use Rattle.sessions.proofs.Placing.{in-range}
use Rattle.sessions.proofs.channel_session.places.address_of.Goals as goal

pub address_of-requires : goal.address_of-requires
address_of-requires c = in-range c.args.config.now c.args.place.now (sym c.is_place.ensures ∙ c.if-is_place.true)
