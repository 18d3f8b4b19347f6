use Rattle.std.proofs.Common.{◌≡◌, ◌≤◌, slice_index_or, inl, inr, sym, subst, arith}
use Rattle.std.proofs.lemmas.Bool.{cases_lt}
use Rattle.units.proofs.waking.next_of_few.Goals as goal

pub search-init : goal.search-init
search-init c = record { since = omega arith; within = c.requires; passed = λ k a b. absurd (omega (arith, a, b)) }

pub search-preserved : goal.search-preserved
search-preserved c =
    let so_far = c.search.invariant in
    let place = c.search.place in
    let words = c.args.words.now in
    record {
      since = omega (arith, so_far.since);
      within = omega (arith, c.search-test.true);
      passed = λ k a b.
          elim (cases_lt k place) [
            | inl m ↦ so_far.passed k a m
            | inr m ↦
                let here : k ≡ place = omega (arith, b, m) in subst (λ i. c.args.until ≤ slice_index_or words i 0) (sym here) c.if-until-words.true
          ];
    }

pub returns-else-until-words-clause-since : goal.returns-else-until-words-clause-since
returns-else-until-words-clause-since c = c.search.invariant.since

pub returns-else-until-words-clause-passed : goal.returns-else-until-words-clause-passed
returns-else-until-words-clause-passed c = c.search.invariant.passed

pub returns-after-search-clause-within : goal.returns-after-search-clause-within
returns-after-search-clause-within c = c.search.invariant.within

pub returns-after-search-clause-passed : goal.returns-after-search-clause-passed
returns-after-search-clause-passed c = c.search.invariant.passed
