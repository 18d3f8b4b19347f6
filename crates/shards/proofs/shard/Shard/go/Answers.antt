use Rattle.std.proofs.Common.{◌≡◌, ◌<◌, ◌≤◌, ℕ, length, get_or, sym, subst, ◌∙◌, arith}
use Rattle.std.specs.Arc.{arc_value}
use Rattle.std.specs.Prelude.{All}
use Rattle.units.proofs.LeastWord.{least-all, least-since}
use Rattle.sim_base.specs.declared.message.Message.{Message}
use Rattle.units.specs.Flight.{sent_by}
use Rattle.units.specs.declared.machine.Machine.{Machine}
use Rattle.shards.proofs.Jobs.{has_run-words, part-late}
use Rattle.shards.proofs.shard.Shard.go.Goals as goal

pub returns-clause-since : goal.returns-clause-since
returns-clause-since c =
    let old = c.args.self.now in
    let m = arc_value old.machine in
    let now = c.args.now in
    let until = c.args.until in
    let range = c.go_all.new.range in
    let traffic = c.go_all.new.traffic in
    let has_run = c.in_ok-go_all.ensures in
    let later : All (λ w. until ≤ w) c.deref-3.result.now =
    subst (All (λ w. until ≤ w)) (sym c.deref-3.ensures.value) (has_run-words c.deref.result.now range.first now until range.units.items range.words.items traffic.links has_run.has_run) in
    let sent : c.deref-2.result.now ≡ sent_by m now until old.range.first (length old.range.units.items) =
    c.deref-2.ensures.value
    ∙ subst (λ (y : Machine). traffic.sent.items ≡ sent_by y now until old.range.first (length old.range.units.items)) c.deref.ensures has_run.sent in
    let arrive : All (λ m. until ≤ m.arrival) c.deref-2.result.now =
    subst (All (λ (y : Message). until ≤ y.arrival)) (sym sent)
    (part-late m now until old.range.first (length old.range.units.items) c.requires.between_phases.within (omega (arith, c.requires.order)) c.requires.travels) in
    let least = least-since c.deref-3.result.now until (omega (arith, c.ranges.until.fits)) later in
    c.first_arrival.ensures.since until (omega (arith, least, c.least.ensures)) arrive

pub returns-clause-sleep : goal.returns-clause-sleep
returns-clause-sleep c =
    subst (λ ws. (k d : ℕ) → k < length ws → c.first_arrival.result ≤ get_or ws k d) c.deref-3.ensures.value
    (λ k d l. let a = least-all c.deref-3.result.now k d l in omega (arith, a, c.least.ensures, c.first_arrival.ensures.within))
