use Rattle.std.proofs.Common.{◌≡◌, take}
use Rattle.std.specs.Prelude.{filter}
use Rattle.measures.specs.Banks.{is_of_channel}
use Rattle.measures.proofs.bank_counts.rows.of_channel.Given as goal

-- the commands of the channel so far
abbrev pub invariant-loop-place : goal.invariant-loop-place
invariant-loop-place l = l.rows.items ≡ filter (is_of_channel l.fn.channel) (take l.place l.fn.commands)
