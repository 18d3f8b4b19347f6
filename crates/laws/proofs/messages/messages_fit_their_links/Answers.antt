-- The law, as it is proved.
use Rattle.laws.proofs.Fitting.{requests_fit, answers_fit, requests_are_sent_once}
use Rattle.laws.proofs.messages.messages_fit_their_links.Goals as goal

pub returns : goal.returns
returns c = record { requests = requests_fit; answers = answers_fit; once = requests_are_sent_once }
