use Rattle.cpu_trace.proofs.UsualLines.{marked-split}
use Rattle.cpu_trace.proofs.usual.split_number.Goals as goal

pub returns-in-Some : goal.returns-in-Some
returns-in-Some c = marked-split c.args.text.now c.in-Some.digits.now c.split_digits.result c.in-Some.ensures c.split_digits.ensures
