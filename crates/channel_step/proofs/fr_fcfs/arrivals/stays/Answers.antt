-- Where a channel never drains, all requests went before, and all go now.
use Rattle.std.proofs.Common.{◌≡◌, ap, ◌∙◌, arith}
use Rattle.channel_step.specs.FrFcfs.Offers.{going, all_accesses}
use Rattle.channel_step.specs.FrFcfs.Requests.{candidates_of}
use Rattle.channel_step.proofs.FrFcfs.Favoured.{all-go}
use Rattle.channel_step.proofs.fr_fcfs.arrivals.stays.Goals as goal

pub returns-then-high-eq0 : goal.returns-then-high-eq0
returns-then-high-eq0 c always s history banks candidates high earlier command whole went needs =
    let never : s.write_high ≡ 0 = omega (arith, high, c.if-high-eq0.true, c.high.ensures) in
    c.none_goes_before.ensures always s history banks candidates high (all-go s c.args.queue.now never) earlier command whole
    (all-go s earlier never ∙ ap (going all_accesses) whole) needs

pub returns-then-are_same : goal.returns-then-are_same
returns-then-are_same c always s history banks candidates high earlier command whole went needs =
    let queue = c.args.queue.now in
    let same = c.are_same.ensures.0 c.if-are_same.true in
    let now : candidates_of s queue ≡ going c.args.before.accesses queue.log =
    c.accesses_that_go-accesses.ensures s _ high candidates ∙ ap (λ a. going a queue.log) same in
    c.none_goes_before-then-are_same.ensures always s history banks candidates high now earlier command whole went needs
