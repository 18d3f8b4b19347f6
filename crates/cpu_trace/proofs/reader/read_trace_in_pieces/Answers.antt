use Rattle.std.proofs.Common.{◌∙◌}
use Rattle.cpu_trace.proofs.Kept.{trace_answer-good, trace_answer-long, trace_entries-from_answer}
use Rattle.cpu_trace.proofs.Meaning.{StandsForTrace-entries, IsRefusedBy-answer}
use Rattle.cpu_trace.proofs.Refusals.{refused-answer, refused-meaning}
use Rattle.cpu_trace.proofs.reader.read_trace_in_pieces.Goals as goal

pub returns-in_ok-new-in-Some-clause-answer : goal.returns-in_ok-new-in-Some-clause-answer
returns-in_ok-new-in-Some-clause-answer g c =
    trace_answer-good c.args.core c.args.text.now _ c.in-Some.entries _ c.in-Ok.ensures.is_kept c.in-Some.is (c.in_ok-new-in-Some.ensures ∙ c.in-Some.entries-is)

pub returns-in_ok-new-in-Some-clause-entries : goal.returns-in_ok-new-in-Some-clause-entries
returns-in_ok-new-in-Some-clause-entries g c =
    trace_entries-from_answer c.args.core c.args.text.now _ (trace_answer-good c.args.core c.args.text.now _ c.in-Some.entries _ c.in-Ok.ensures.is_kept c.in-Some.is (c.in_ok-new-in-Some.ensures ∙ c.in-Some.entries-is))

pub returns-in_ok-new-in-Some-clause-meaning : goal.returns-in_ok-new-in-Some-clause-meaning
returns-in_ok-new-in-Some-clause-meaning g c =
    StandsForTrace-entries c.args.text.now _
    (trace_entries-from_answer c.args.core c.args.text.now _ (trace_answer-good c.args.core c.args.text.now _ c.in-Some.entries _ c.in-Ok.ensures.is_kept c.in-Some.is (c.in_ok-new-in-Some.ensures ∙ c.in-Some.entries-is)))

pub returns-in-None-clause-refused : goal.returns-in-None-clause-refused
returns-in-None-clause-refused g c = λ other. trace_answer-long c.args.core c.args.text.now _ c.in-Ok.ensures.is_kept c.in-None.is

pub returns-in-None-clause-no_meaning : goal.returns-in-None-clause-no_meaning
returns-in-None-clause-no_meaning g c =
    IsRefusedBy-answer c.args.core c.args.text.now _ (trace_answer-long c.args.core c.args.text.now _ c.in-Ok.ensures.is_kept c.in-None.is)

pub returns-in-Err-clause-refused : goal.returns-in-Err-clause-refused
returns-in-Err-clause-refused g c = refused-answer c.args.core c.args.text.now c.in-Err.why _ c.fault.ensures c.in-Err.ensures

pub returns-in-Err-clause-no_meaning : goal.returns-in-Err-clause-no_meaning
returns-in-Err-clause-no_meaning g c = refused-meaning c.args.core c.args.text.now c.in-Err.why _ c.fault.ensures c.in-Err.ensures
