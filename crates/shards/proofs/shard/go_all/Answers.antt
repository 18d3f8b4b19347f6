use Rattle.std.proofs.Common.{sym, subst, arith}
use Rattle.units.specs.Wakes.{HaveRun, WaitAll}
use Rattle.shards.proofs.Spanning.{phase-holds_inbox, phase-has_run}
use Rattle.shards.proofs.shard.go_all.Goals as goal

pub go_on-requires-clause-holds_inbox : goal.go_on-requires-clause-holds_inbox
go_on-requires-clause-holds_inbox c =
    let r = c.requires in
    let range = c.args.range.now in
    phase-holds_inbox c.args.machine.now range.first c.args.now c.args.until range.units.items range.words.items c.args.traffic.now.links r.between_phases (omega (arith, r.order)) r.travels

pub returns-clause-has_run : goal.returns-clause-has_run
returns-clause-has_run c =
    let machine = c.args.machine.now in
    let now = c.args.now in
    let until = c.args.until in
    let old = c.args.range.now in
    let new = c.go_on.new.range in
    let links = c.go_on.new.traffic.links in
    let has_run = c.in_ok-go_on.ensures in
    subst (λ first. HaveRun machine first now until new.units.items new.words.items links) (sym has_run.first)
    (phase-has_run machine old.first now until old.units.items new.units.items old.words.items new.words.items c.args.traffic.now.links links
    c.requires.between_phases has_run.count has_run.words (subst (λ first. WaitAll machine first until now new.units.items new.words.items) has_run.first has_run.wait) has_run.links)
