-- The values in ascending order are the same.
use Rattle.std.proofs.Common.{◌≡◌, [], ◌-◌, ◌/◌, length, sym, subst, ◌∙◌, ap, rules}
use Rattle.std.specs.Prelude.{slice_get, MatchOption}
use Rattle.measures.specs.Percentile.{IsLeast, IsPercentile}
use Rattle.measures.proofs.Ordered.{some_least, some_percentile}
use Rattle.measures.proofs.Places.{first_is, middle_is, last_is}
use Rattle.measures.proofs.Ranks.{sorted_rises}
use Rattle.measures.proofs.percentiles.Summary.of.Goals as goal

pub returns : goal.returns
returns c =
    let values = c.args.values.items in
    let sorted = c.sort_unstable.new.self.items in
    let same = c.sort_unstable.ensures.permutation in
    let up = sorted_rises sorted c.sort_unstable.ensures.sorted in
    let last : c.saturating_sub-last.result ≡ length sorted - 1 = search rules in
    let least : slice_get sorted 0 ≡ c.value_at.result = ap (λ list. slice_get list 0) (sym c.deref.ensures.value) ∙ sym c.value_at.ensures in
    let median : slice_get sorted (c.saturating_sub-last.result / 2) ≡ c.value_at-2.result =
    ap (λ list. slice_get list (c.saturating_sub-last.result / 2)) (sym c.deref-2.ensures.value) ∙ sym c.value_at-2.ensures in
    let greatest : slice_get sorted c.saturating_sub-last.result ≡ c.value_at-3.result =
    ap (λ list. slice_get list c.saturating_sub-last.result) (sym c.deref-3.ensures.value) ∙ sym c.value_at-3.ensures in
    record {
      least_is = subst (λ found. MatchOption found (values ≡ []) (IsLeast values)) least (some_least values sorted _ same (first_is sorted up));
      median_is = subst (λ found. MatchOption found (values ≡ []) (IsPercentile values 50)) median (some_percentile values sorted 50 _ same (middle_is sorted _ up last));
      greatest_is = subst (λ found. MatchOption found (values ≡ []) (IsPercentile values 100)) greatest (some_percentile values sorted 100 _ same (last_is sorted _ up last));
    }
