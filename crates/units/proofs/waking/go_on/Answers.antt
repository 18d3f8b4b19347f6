use Rattle.std.proofs.Common.{◌+◌, ◌<◌, ◌≤◌, ℕ, length, get_or, set, refl, sym, subst, arith}
use Rattle.units.specs.Units.{unit_at}
use Rattle.units.specs.Wakes.{WaitAll, Waits, unit_with_word}
use Rattle.units.specs.declared.timed_unit.TimedUnit.{TimedUnit}
use Rattle.units.proofs.Going.{left-holds_inbox, taken-links}
use Rattle.units.proofs.Passing.{taken-none, taken-one, taken-all, passed-over}
use Rattle.units.proofs.waking.go_on.Goals as goal

pub loop-place-init : goal.loop-place-init
loop-place-init c =
    let machine = c.args.machine.now in
    let range = c.args.range.now in
    let span = c.args.span.now in
    let sent = c.args.traffic.now.sent.items in
    let links = c.args.traffic.now.links in
    let r = c.requires in
    let next = c.next_waking-place in
    let words = c.deref.ensures.value in (
      refl,
      passed-over machine range.first (length range.units.items) span.here span.there span.until range.units.items range.words.items sent links links 0 next.result r.order r.holds_inbox
          (taken-none machine range.first span.here span.there span.until range.units.items range.words.items sent links r.within r.words r.wait r.sent)
          next.ensures.since
          (subst (λ ws. next.result ≤ length ws) words next.ensures.within)
          (subst (λ ws. (k : ℕ) → 0 ≤ k → k < next.result → span.until ≤ get_or ws k 0) words next.ensures.passed),
    )

pub loop-place-preserved : goal.loop-place-preserved
loop-place-preserved c =
    let machine = c.args.machine.now in
    let first = c.args.range.now.first in
    let n = length c.args.range.now.units.items in
    let span = c.args.span.now in
    let old = c.args.traffic.now.links in
    let r = c.requires in
    let at = c.loop-place in
    let taken = at.invariant.1 in
    let unit = c.woken.new.self in
    let wake = c.in_ok-word.word in
    let sent = c.woken.new.traffic.sent.items in
    let links = c.woken.new.traffic.links in
    let next = c.next_waking-place-in-loop-place in
    let words = c.deref-in-loop-place.ensures.value in (
      at.invariant.0,
      passed-over machine first n span.here span.there span.until (set at.range.units.items at.place unit) (set at.range.words.items at.place wake) sent old links (at.place + 1) next.result r.order r.holds_inbox
          (taken-one machine first n span.here span.there span.until at.range.units.items at.range.words.items at.traffic.sent.items sent old at.traffic.links links at.place unit wake
          (omega (arith, c.loop-place-test.true, at.range.units.ok.0)) c.in_ok-word.ensures.has_run
          (taken-links machine.config first span.here span.until at.place old at.traffic.links links taken.links_so_far c.in_ok-word.ensures.links) taken)
          next.ensures.since
          (subst (λ ws. next.result ≤ length ws) words next.ensures.within)
          (subst (λ ws. (k : ℕ) → at.place + 1 ≤ k → k < next.result → span.until ≤ get_or ws k 0) words next.ensures.passed),
    )

pub woken-requires-clause-waits : goal.woken-requires-clause-waits
woken-requires-clause-waits c =
    let machine = c.args.machine.now in
    let span = c.args.span.now in
    let at = c.loop-place in
    let unit = c.index_mut.result.now in
    let word = get_or at.range.words.items at.place 0 in
    record {
      word = word;
      waits =
          subst (λ (u : TimedUnit). Waits machine (unit_at machine.config (c.args.range.now.first + at.place)) span.here span.there (unit_with_word u word)) (sym c.index_mut.ensures.value)
          (at.invariant.1.wait at.place unit (omega arith) (omega (arith, c.loop-place-test.true, at.range.units.ok.0)));
    }

pub woken-requires-clause-holds_inbox : goal.woken-requires-clause-holds_inbox
woken-requires-clause-holds_inbox c =
    let at = c.loop-place in
    let taken = at.invariant.1 in
    let span = c.args.span.now in
    left-holds_inbox c.args.machine.now c.args.range.now.first span.here span.there span.until at.place c.args.traffic.now.links at.traffic.links
    (c.requires.holds_inbox at.place (omega (arith, c.loop-place-test.true, at.range.units.ok.0, taken.units_count))) taken.links_so_far

pub returns-clause-wait : goal.returns-clause-wait
returns-clause-wait c =
    let machine = c.args.machine.now in
    let range = c.args.range.now in
    let span = c.args.span.now in
    let at = c.loop-place in
    subst (λ first. WaitAll machine first span.until span.there at.range.units.items at.range.words.items) (sym at.invariant.0)
    (taken-all machine range.first (length range.units.items) span.here span.there span.until at.range.units.items at.range.words.items at.traffic.sent.items c.args.traffic.now.links at.traffic.links at.place at.invariant.1
    (omega (arith, c.loop-place-test.false, at.range.units.ok.0))).0

pub returns-clause-links : goal.returns-clause-links
returns-clause-links c =
    let range = c.args.range.now in
    let span = c.args.span.now in
    let at = c.loop-place in
    (taken-all c.args.machine.now range.first (length range.units.items) span.here span.there span.until at.range.units.items at.range.words.items at.traffic.sent.items c.args.traffic.now.links at.traffic.links at.place at.invariant.1
    (omega (arith, c.loop-place-test.false, at.range.units.ok.0))).1

pub returns-clause-sent : goal.returns-clause-sent
returns-clause-sent c =
    let range = c.args.range.now in
    let span = c.args.span.now in
    let at = c.loop-place in
    (taken-all c.args.machine.now range.first (length range.units.items) span.here span.there span.until at.range.units.items at.range.words.items at.traffic.sent.items c.args.traffic.now.links at.traffic.links at.place at.invariant.1
    (omega (arith, c.loop-place-test.false, at.range.units.ok.0))).2
