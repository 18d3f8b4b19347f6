use Rattle.std.proofs.Common.{◌^◌, ◌<◌, ◌≤◌, ◌++◌, length, length-append, Some, arith, sym, ap, ◌∙◌}
use Rattle.cpu_trace.proofs.Kept.{kept-short, kept-long}
use Rattle.cpu_trace.proofs.reading.joined.Goals as goal

pub returns-then-len-gt-MOST_ENTRIES : goal.returns-then-len-gt-MOST_ENTRIES
returns-then-len-gt-MOST_ENTRIES c =
    let entries = c.in-Some-Some.entries in
    let more = c.in-Some-Some.more in
    let long : 2 ^ 62 < length (entries ++ more) = omega (arith, c.if-len-gt-MOST_ENTRIES.true, c.len.ensures.value, c.len-2.ensures.value, length-append entries more) in
    rw (c.in-Some-Some.is-0, c.in-Some-Some.is-1) (sym (kept-long (entries ++ more) long))

pub returns : goal.returns
returns c =
    let entries = c.in-Some-Some.entries in
    let more = c.in-Some-Some.more in
    let short : length (entries ++ more) ≤ 2 ^ 62 = omega (arith, c.if-len-gt-MOST_ENTRIES.false, c.len.ensures.value, c.len-2.ensures.value, length-append entries more) in
    rw (c.in-Some-Some.is-0, c.in-Some-Some.is-1) (ap Some c.in_ok-append.ensures ∙ sym (kept-short (entries ++ more) short))
