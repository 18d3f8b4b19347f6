-- A time of 41 bits, times a rest of 81.
use Rattle.std.proofs.Common.{◌^◌, arith}
use Rattle.std.proofs.lemmas.Nat.{mul-le}
use Rattle.progress.proofs.figures.left_by.Goals as goal

pub overflow_mul-min : goal.overflow_mul-min
overflow_mul-min c =
    let most = mul-le c.min.result c.min-rest.result (2 ^ 40) (2 ^ 80) (omega arith) (omega arith) in
    omega (arith, most)
