-- All behind the first place move up by one, and the last of them is put back.
use Rattle.std.proofs.Common.{◌∙◌, ◌-◌, drop, length, set, ap}
use Rattle.core_window.proofs.Taking.{moved-down}
use Rattle.core_window.proofs.outstanding.put_back.Goals as goal

pub returns : goal.returns
returns c =
    ap (λ places. drop c.args.first (set places (length c.args.places.now - 1) c.args.last)) c.copy_within.ensures.after
    ∙ moved-down c.args.places.now c.args.first c.args.last c.requires
