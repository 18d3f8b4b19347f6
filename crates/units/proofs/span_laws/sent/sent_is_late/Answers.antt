-- The law, as it is proved.
use Rattle.units.proofs.SpanLaws.Late.{phases-turns, requests-late, answers-late}
use Rattle.units.proofs.span_laws.sent.sent_is_late.Goals as goal

pub returns : goal.returns
returns c = record { phases = phases-turns; requests = requests-late; answers = answers-late }
