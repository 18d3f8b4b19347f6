-- A message more is taken up, and the word of its unit is lowered, or was early.
use Rattle.std.proofs.Common.{◌≡◌, ℕ, ◌+◌, ◌<◌, Option, Some, None, refl, length, take, sym, ap, subst, ◌∙◌, arith}
use Rattle.std.specs.Prelude.{IfSome, IsNone}
use Rattle.links.specs.InFlight.{InFlight}
use Rattle.units.specs.Wakes.{AreLowered}
use Rattle.units.proofs.OneByOne.{reaches, lowered-next, buffer-same, sent-next}
use Rattle.units.proofs.Early.{early-after, reaches-behind}
use Rattle.units.proofs.words.take_up_each.Goals as goal
use Rattle.units.proofs.words.take_up_each.Goals.{in-Some, in_default}

-- what is said of a place that there is, or of none
there : (o : Option ℕ) (k : ℕ) (P : ℕ → Type 0) → o ≡ Some k → IfSome o P → P k
there o k P is h = subst (λ x. IfSome x P) is h

is-none : (o : Option ℕ) → o ≡ None → IsNone o
is-none o is = subst IsNone (sym is) refl

pub loop-message-preserved : goal.loop-message-preserved
loop-message-preserved c =
    let s = c.args.config.now in
    let first = c.args.first in
    let sent = c.args.sent.now in
    let old = c.args.words.now in
    let at = c.loop-message in
    let n = at.message-index in
    let put = c.in_ok-buffer.ensures in
    let less : n < length sent = omega (arith, c.loop-message-test.true) in
    let channels = ap (λ (x : InFlight). x.channels) at.invariant.links in
    elim c.match-branch-2.branch [
      | in-Some w ↦
          let place = w.place_of_buffer-place in
          let low = w.lower.ensures in
          let number = there c.in_ok-buffer.field-0 w.in-Some.buffer _ w.in-Some.is put.number in
          let buffer = buffer-same c.args.links.now at.links s.channels w.in-Some.buffer _ c.requires.channels channels number in
          record {
            lowered = λ early.
                subst (AreLowered s first (take (n + 1) sent) old) (sym w.words-is)
                (lowered-next s first n _ sent old at.words w.lower.new.words less (at.invariant.lowered early)
                (reaches s first _ place.result at.words w.lower.new.words (omega (arith, c.requires.within, (at.invariant.lowered early).count))
                (record { some = place.ensures.some s _ c.counts_of-counts.ensures buffer; none = place.ensures.none s _ c.counts_of-counts.ensures buffer; count = low.count; less = low.less; arrival = low.arrival; since = low.since })));
            links = sent-next c.args.links.now at.links c.put.new.self n _ sent less at.invariant.links put.ok;
          }
      | in_default w ↦
          record {
            lowered = λ early.
                let so_far = at.invariant.lowered early in
                subst (AreLowered s first (take (n + 1) sent) old) (sym w.words-is)
                (lowered-next s first n _ sent old at.words at.words less so_far
                (reaches-behind s first _ at.words at.links (omega (arith, c.requires.within, so_far.count)) (channels ∙ c.requires.channels)
                (early-after s first (take n sent) old at.words c.args.links.now at.links at.invariant.links early so_far) (put.behind.0 (is-none c.in_ok-buffer.field-0 w.in_default.is))));
            links = sent-next c.args.links.now at.links c.put.new.self n _ sent less at.invariant.links put.ok;
          }
    ]
