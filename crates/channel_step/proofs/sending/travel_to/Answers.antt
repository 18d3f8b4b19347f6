-- The latencies of a channel's links, core by core.
use Rattle.std.proofs.Common.{◌<◌, get_or, length, ap, ◌∙◌, arith}
use Rattle.std.proofs.lemmas.List.FromFn.{get_or-map-range_with_len, length-map-range_with_len}
use Rattle.channel_step.specs.Latencies.{latencies_to}
use Rattle.channel_step.specs.declared.sending.AnswerLatencies.{AnswerLatencies}
use Rattle.channel_step.proofs.sending.travel_to.Goals as goal

pub returns-then-from-sender : goal.returns-then-from-sender
returns-then-from-sender c =
    let s = c.args.sender.now.config.now in
    let to = latencies_to s c.args.sender.now.channel in
    let none : AnswerLatencies = record { reply = 0; credit = 0 } in
    let core = c.from-then-from-sender.result in
    let count = length-map-range_with_len to 0 s.cores in
    let within : core < s.cores = omega (arith, c.if-from-sender.true, c.from.ensures, c.from-then-from-sender.ensures, ap length c.requires.latencies, count) in
    ap (λ ls. get_or ls core none) c.requires.latencies
    ∙ get_or-map-range_with_len to 0 s.cores core c.args.core none within (omega (arith, c.from-then-from-sender.ensures))
