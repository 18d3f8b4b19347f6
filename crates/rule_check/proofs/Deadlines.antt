-- The cycle after which a refresh is overdue, by the refreshes before it.
use Rattle.std.proofs.Common.{◌≡◌, ℕ, ◌+◌, ◌*◌, ◌<◌, ◌∙◌, Bool, true, false, cond, min, List, [], ◌∷◌, refl, sym, ap, arith, inl, inr}
use Rattle.std.specs.Prelude.{fold, nat_lt, count_by}
use Rattle.std.proofs.lemmas.Bool.{cases_lt, lt-ltb, le-ltb}
use Rattle.std.proofs.lemmas.List.Sums.{sum_by-cons}
use Rattle.sim_base.specs.declared.config.Config.{Config}
use Rattle.sim_base.specs.declared.command.IssuedCommand.{IssuedCommand}
use Rattle.sim_base.specs.Config.{refresh_slack}
use Rattle.sim_base.specs.Scheduling.{refreshes}
use Rattle.rule_check.specs.Numbers.{number_limit}
use Rattle.rule_check.specs.Broken.{is_overdue}
use Rattle.rule_check.specs.Kept.{deadline_where, deadline_from, first_deadline}

capped-where : (counts : Bool) (n d e : ℕ) → min d number_limit ≡ min e number_limit
    → min (deadline_where counts n d) number_limit ≡ min (e + cond counts 1 0 * n) number_limit
capped-where false n d e h = omega arith
capped-where true n d e h =
    elim (cases_lt d number_limit) [
      | inl l ↦ ap (λ b. min (cond b (d + n) d) number_limit) (lt-ltb d number_limit l) ∙ omega arith
      | inr l ↦ ap (λ b. min (cond b (d + n) d) number_limit) (le-ltb d number_limit l) ∙ omega arith
    ]

capped-fold : (s : Config) (rank d e : ℕ) (history : List IssuedCommand) → min d number_limit ≡ min e number_limit
    → min (fold (λ d (i : IssuedCommand). deadline_where (refreshes rank i.command) s.timing.n_refi d) d history) number_limit
    ≡ min (e + count_by (λ i. refreshes rank i.command) history * s.timing.n_refi) number_limit
capped-fold s rank d e [] h = omega arith
capped-fold s rank d e (i ∷ history) h =
    let n = s.timing.n_refi in
    let one = cond (refreshes rank i.command) 1 0 in
    let rest = count_by (λ (j : IssuedCommand). refreshes rank j.command) history in
    let step : count_by (λ (j : IssuedCommand). refreshes rank j.command) (i ∷ history) ≡ one + rest = sum_by-cons (λ (j : IssuedCommand). cond (refreshes rank j.command) 1 0) i history in
    let sum : (e + one * n) + rest * n ≡ e + (one + rest) * n = omega arith in
    capped-fold s rank (deadline_where (refreshes rank i.command) n d) (e + one * n) history (capped-where (refreshes rank i.command) n d e h)
    ∙ ap (λ x. min x number_limit) (sum ∙ ap (λ x. e + x * n) (sym step))

same_tests : (d e now : ℕ) → min d number_limit ≡ min e number_limit → now < number_limit → nat_lt d now ≡ nat_lt e now
same_tests d e now h l =
    elim (cases_lt d now) [
      | inl k ↦ lt-ltb d now k ∙ sym (lt-ltb e now (omega arith))
      | inr k ↦ le-ltb d now k ∙ sym (le-ltb e now (omega arith))
    ]

pub deadline-overdue : (s : Config) (rank now : ℕ) (history : List IssuedCommand) → now < number_limit → nat_lt (deadline_from s rank history) now ≡ is_overdue s history now rank
unfolding deadline_from
deadline-overdue s rank now history l =
    let n = s.timing.n_refi in
    let count = count_by (λ (i : IssuedCommand). refreshes rank i.command) history in
    let slack = refresh_slack s in
    let sum : (n + slack) + count * n ≡ (count + 1) * n + slack = omega arith in
    same_tests _ _ now (capped-fold s rank (first_deadline s) (first_deadline s) history refl) l ∙ ap (λ x. nat_lt x now) sum
