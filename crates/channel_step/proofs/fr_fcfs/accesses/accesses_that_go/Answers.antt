-- All requests go where the channel never drains, and otherwise those of one access.
use Rattle.std.proofs.Common.{◌≡◌, ap, ◌∙◌, arith}
use Rattle.channel_step.specs.FrFcfs.Offers.{only, going}
use Rattle.channel_step.proofs.FrFcfs.Favoured.{all-go}
use Rattle.channel_step.proofs.fr_fcfs.accesses.accesses_that_go.Goals as goal

pub returns-then-high-eq0 : goal.returns-then-high-eq0
returns-then-high-eq0 c s open_rows high stands =
    let never : s.write_high ≡ 0 = omega (arith, high, c.if-high-eq0.true, c.high.ensures) in
    all-go s c.args.queue.now never

pub returns-in-Read : goal.returns-in-Read
returns-in-Read c s open_rows high stands =
    c.access_that_goes.ensures s open_rows high stands ∙ ap (λ access. going (only access) c.args.queue.now.log) c.in-Read.is

pub returns-in-Write : goal.returns-in-Write
returns-in-Write c s open_rows high stands =
    c.access_that_goes.ensures s open_rows high stands ∙ ap (λ access. going (only access) c.args.queue.now.log) c.in-Write.is
