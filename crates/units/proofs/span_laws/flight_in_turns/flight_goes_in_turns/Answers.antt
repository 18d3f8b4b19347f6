-- The law, as it is proved.
use Rattle.units.proofs.SpanLaws.FlightsInTurns.{flights-meet, channels-holds_inbox, cores-holds_inbox, channels-further, cores-further, channels-further_for, cores-further_for}
use Rattle.units.proofs.SpanLaws.Jumps.{channels-taken, cores-taken, later-stays}
use Rattle.units.proofs.span_laws.flight_in_turns.flight_goes_in_turns.Goals as goal

pub returns : goal.returns
returns c = record { meet = flights-meet; channel_inboxes = channels-holds_inbox; core_inboxes = cores-holds_inbox; channels_take = channels-taken; cores_take = cores-taken; later = later-stays; channels_go = channels-further; cores_go = cores-further; channels_go_for = channels-further_for; cores_go_for = cores-further_for }
