use Rattle.std.proofs.Common.{◌++◌, length-append, Ok, sym, ap, ◌∙◌, subst, arith}
use Rattle.cpu_trace.specs.Reading.{IsReadingOf, IsUnreadOf, told_behind}
use Rattle.cpu_trace.proofs.Behind.{kept_of-good, IsUnreadOf-behind}
use Rattle.cpu_trace.proofs.reading.Reading.followed_by.Goals as goal

pub returns-in_ok-joined-in-Ok : goal.returns-in_ok-joined-in-Ok
returns-in_ok-joined-in-Ok c = λ lines behind h k.
    let more : IsReadingOf behind c.in-Ok.more = rw c.in-Ok.is at k in
    record {
      counted = omega (arith, h.counted, more.counted, length-append lines behind);
      is_kept = kept_of-good lines behind _ _ h.is_kept more.is_kept ∙ ap Ok (sym c.in_ok-joined-in-Ok.ensures);
    }

pub returns-in-Err : goal.returns-in-Err
returns-in-Err c = λ lines behind h k.
    let why : IsUnreadOf behind c.in-Err.why = rw c.in-Err.is at k in
    subst (IsUnreadOf (lines ++ behind)) (ap (λ n. told_behind n c.in-Err.why) (sym h.counted) ∙ sym c.told_behind.ensures)
    (IsUnreadOf-behind lines behind _ c.in-Err.why h.is_kept why)
