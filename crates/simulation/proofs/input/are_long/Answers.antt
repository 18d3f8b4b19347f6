use Rattle.std.proofs.Common.{◌≡◌, ℕ, List, [], Bor, get_or, refl, arith}
use Rattle.std.specs.Prelude.{None}
use Rattle.simulation.specs.Traces.{len_to_read}
use Rattle.simulation.proofs.TraceLists.{bytes-next}
use Rattle.simulation.proofs.input.are_long.Goals as goal

pub returns-then-left-len : goal.returns-then-left-len
returns-then-left-len c =
    let texts = c.args.texts.now in
    let sources = c.args.sources.now in
    let core = c.loop-core.core in
    let none : Bor (List ℕ) = record { ref_ptr = (0, 0); now = [] } in
    let len : c.len_to_read-len.result ≡ len_to_read (get_or texts core none).now (get_or sources core None) = c.len_to_read-len.ensures in
    let next = bytes-next texts sources core none None (omega (arith, c.loop-core-test.true)) (omega (arith, c.loop-core-test.true, c.requires)) in
    (λ yes. omega (arith, c.loop-core.invariant, next, len, c.if-left-len.true), λ many. refl)
