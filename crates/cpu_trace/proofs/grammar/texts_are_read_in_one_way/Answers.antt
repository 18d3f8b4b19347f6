use Rattle.cpu_trace.proofs.Meaning.{trace_entries-meant, StandsForTrace-entries}
use Rattle.cpu_trace.proofs.grammar.texts_are_read_in_one_way.Goals as goal

pub returns : goal.returns
returns c = λ text entries. (trace_entries-meant text entries, StandsForTrace-entries text entries)
