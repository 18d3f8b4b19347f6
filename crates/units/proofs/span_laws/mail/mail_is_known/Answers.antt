-- The law, as it is proved.
use Rattle.units.proofs.SpanLaws.Arrivals.{mail-settled, mail-known, spans-join, mail-sent}
use Rattle.units.proofs.span_laws.mail.mail_is_known.Goals as goal

pub returns : goal.returns
returns c = record { settled = mail-settled; known = mail-known; joined = spans-join; sent = mail-sent }
