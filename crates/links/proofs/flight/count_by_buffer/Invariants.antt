use Rattle.std.proofs.Common.{◌≡◌, ℕ, get_or, take}
use Rattle.links.specs.Buffers.{count_to}
use Rattle.links.proofs.flight.count_by_buffer.Given as goal

abbrev pub invariant-loop-message : goal.invariant-loop-message
invariant-loop-message l = (number : ℕ) → get_or l.counts.items number 0 ≡ count_to l.channels number (take l.message-index l.messages)
