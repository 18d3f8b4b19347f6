-- The Reads before the one that is looked for move up, until that one is at hand.
use Rattle.std.proofs.Common.{◌∙◌, ◌<◌, drop, length, length-set, arith}
use Rattle.core_window.proofs.Taking.{carrying-more, carrying-last}
use Rattle.core_window.proofs.outstanding.take_from.Goals as goal

pub search-preserved : goal.search-preserved
search-preserved c =
    let room : c.search.place < length c.search.places = omega (arith, c.search.invariant.within, c.search.invariant.len, c.if-place-places.false) in
    record {
      carries = carrying-more c.args.entry (drop c.args.first c.args.places.now) c.args.first c.search.places c.search.place c.search.held (record { entry = 0; issued = 0 })
          c.search.invariant.carries room (λ e. omega (arith, c.search-test.true));
      within = omega (arith, room, c.search.invariant.len);
      len = length-set c.search.places c.search.place c.search.held ∙ c.search.invariant.len;
    }

pub returns-clause-some : goal.returns-clause-some
returns-clause-some c =
    carrying-last c.args.entry (drop c.args.first c.args.places.now) c.args.first c.search.places c.search.place c.search.held c.search.invariant.carries
    (omega (arith, c.search-test.false))
