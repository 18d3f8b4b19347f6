-- The law, as it is proved.
use Rattle.units.proofs.SpanLaws.Knowing.{requests-known, answers-known}
use Rattle.units.proofs.span_laws.known.mail_is_known_from_others.Goals as goal

pub returns : goal.returns
returns c = record { requests = requests-known; answers = answers-known }
