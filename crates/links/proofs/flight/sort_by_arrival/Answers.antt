use Rattle.std.proofs.Common.{rules}
use Rattle.std.proofs.lemmas.List.Sorted.{answers_always}
use Rattle.links.proofs.Sorting.{fold-sorted}
use Rattle.links.proofs.flight.sort_by_arrival.Goals as goal

pub returns-clause-puts : goal.returns-clause-puts
returns-clause-puts c = λ ms. fold-sorted ms _ _ (c.sort_by_key.ensures.stable (λ message. message.arrival) (answers_always _ _ _ (λ f a r g h. search rules)))
