use Rattle.std.proofs.Common.{ℕ, ◌+◌, ◌-◌, ◌*◌, ◌^◌, ◌<◌, ◌≤◌, length, sym, ap, subst, arith}
use Rattle.bank_ready.specs.Refreshes.{RefreshCounts, refreshed, owed, StandsFor}
use Rattle.bank_ready.proofs.Due.{stands_with_refresh, ends_fit, counted_more}
use Rattle.bank_ready.proofs.refresh.Refresh.note_ref.Goals as goal

pub overflow_mul-self : goal.overflow_mul-self
overflow_mul-self c =
    let inside = c.self.inside in
    let counts : RefreshCounts = record { interval = inside.refresh_interval; ranks = inside.ranks; issued = inside.issued } in
    let ends =
    ends_fit counts c.args.rank c.args.now c.fewest-fewest.result c.self.invariant.countable (subst (λ v. c.args.rank < v.ranks) (sym c.self.view_is) c.requires.rank) c.self.told
    c.requires.now (subst (λ v. 0 < owed v c.args.rank c.args.now) (sym c.self.view_is) c.requires.due) c.fewest-fewest.ensures.least c.fewest-fewest.ensures.reached in
    record { fits = subst (λ (n : ℕ). (c.fewest-fewest.result + 1) * n < 2 ^ 64) (sym c.from.ensures) ends.1 }

pub overflow_sub-self : goal.overflow_sub-self
overflow_sub-self c =
    let inside = c.self.inside in
    let counts : RefreshCounts = record { interval = inside.refresh_interval; ranks = inside.ranks; issued = inside.issued } in
    let ends =
    ends_fit counts c.args.rank c.args.now c.fewest-fewest.result c.self.invariant.countable (subst (λ v. c.args.rank < v.ranks) (sym c.self.view_is) c.requires.rank) c.self.told
    c.requires.now (subst (λ v. 0 < owed v c.args.rank c.args.now) (sym c.self.view_is) c.requires.due) c.fewest-fewest.ensures.least c.fewest-fewest.ensures.reached in
    subst (λ (n : ℕ). 1 ≤ (c.fewest-fewest.result + 1) * n) (sym c.from.ensures) ends.0

pub returns-clause-value : goal.returns-clause-value
returns-clause-value c = ap (λ v. refreshed v c.args.rank) c.self.view_is

pub returns-clause-stands : goal.returns-clause-stands
returns-clause-stands c s history i is stands =
    let ranks = ap (λ v. v.ranks) c.self.view_is in
    let exists : c.args.rank < length c.self.inside.issued = omega (arith, ranks, c.self.told, c.self.invariant.countable.ranks_in, c.requires.rank) in
    stands_with_refresh _ s history i c.args.rank exists is (subst (λ v. StandsFor v s history) (sym c.self.view_is) stands)

pub invariant_of-self : goal.invariant_of-self
invariant_of-self c =
    let inside = c.self.inside in
    let counts : RefreshCounts = record { interval = inside.refresh_interval; ranks = inside.ranks; issued = inside.issued } in
    counted_more counts c.args.rank c.args.now c.fewest-fewest.result _ c.self.invariant.countable (subst (λ v. c.args.rank < v.ranks) (sym c.self.view_is) c.requires.rank) c.self.told
    c.requires.now (subst (λ v. 0 < owed v c.args.rank c.args.now) (sym c.self.view_is) c.requires.due) c.fewest-fewest.ensures.least c.fewest-fewest.ensures.reached
    (ap (λ (n : ℕ). (c.fewest-fewest.result + 1) * n - 1) c.from.ensures)
