-- The law, as it is proved.
use Rattle.laws.proofs.Answered.{replies_answer_reads, reads_are_answered_once}
use Rattle.laws.proofs.messages.replies_answer_reads.Goals as goal

pub returns : goal.returns
returns c = record { issued = replies_answer_reads; once = reads_are_answered_once }
