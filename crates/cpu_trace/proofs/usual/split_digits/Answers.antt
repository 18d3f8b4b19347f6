use Rattle.std.proofs.Common.{◌≤◌, ◌^◌, length, arith}
use Rattle.std.proofs.Math.Nat.{pow-le-pow_right}
use Rattle.cpu_trace.proofs.usual.split_digits.Goals as goal

pub split_within-requires-2-clause-room : goal.split_within-requires-2-clause-room
split_within-requires-2-clause-room c =
    let power : c.args.radix ^ length c.args.text.now ≤ c.args.radix ^ c.args.most
    = pow-le-pow_right {n = c.args.radix} (omega (arith, c.requires.lower)) (omega (arith, c.if-text-most.false)) in
    omega (arith, power, c.requires.room)
