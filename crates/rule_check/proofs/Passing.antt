-- What is kept of the rows of a table, as one row more is noted, and what it says of the next.
use Rattle.std.proofs.Common.{◌≡◌, ◌≢◌, ℕ, ◌++◌, ◌∙◌, ◌==◌, List, [], ◌∷◌, length, get_or, set, cond, Some, None, refl, sym, ap, subst, arith, inl, inr, append-nil}
use Rattle.std.specs.Prelude.{find}
use Rattle.std.specs.List.{range_with_len}
use Rattle.std.proofs.lemmas.Bool.{cases_eq, eq-eqb, ne_eqb, cond-true, cond-false}
use Rattle.std.proofs.lemmas.List.{length-set, get_or-set_same, get_or-set_other}
use Rattle.std.specs.List.{All}
use Rattle.std.proofs.lemmas.List.Elements.{filter-append, All-get_or}
use Rattle.std.proofs.lemmas.List.Sums.{fold-append}
use Rattle.sim_base.specs.declared.config.Config.{Config}
use Rattle.sim_base.specs.declared.command.IssuedCommand.{IssuedCommand}
use Rattle.sim_base.specs.Rules.{rules}
use Rattle.rule_check.specs.Fields.{limits_of, RowFits}
use Rattle.rule_check.specs.Broken.{last_row, stands_wrongly, breaks, lowest_broken}
use Rattle.sim_base.specs.History.{commands_on}
use Rattle.rule_check.specs.Kept.{IsKept}
use Rattle.rule_check.specs.Past.{IsPast, past_breaks}
use Rattle.rule_check.specs.declared.state.Channel.{Channel}
use Rattle.rule_check.specs.declared.state.Past.{Past}
use Rattle.rule_check.proofs.Keeping.{breaks-is}

channel-kept : (past : Past) (s : Config) (rows : List IssuedCommand) (row : IssuedCommand) (c : Channel) → IsPast past s rows → RowFits (limits_of s) row
    → c ≡ get_or past.channels.items row.channel c → IsKept c s (commands_on row.channel rows)
channel-kept past s rows row c h f read = subst (λ (x : Channel). IsKept x s (commands_on row.channel rows)) (sym read) (h.channels row.channel c f.channel_in_range)

-- the lowest rule by what is kept is the lowest rule
pub lowest-is : (past : Past) (s : Config) (rows : List IssuedCommand) (row : IssuedCommand) (c : Channel) → IsPast past s rows → RowFits (limits_of s) row
    → c ≡ get_or past.channels.items row.channel c
    → find (past_breaks s (rules s.timing) past.last c row) (range_with_len 1 21) ≡ lowest_broken s rows row
unfolding lowest_broken breaks
lowest-is past s rows row c h f read =
    let k = channel-kept past s rows row c h f read in
    λ x. find (λ number. cond (number == 1) (stands_wrongly (h.last x) row) (breaks-is c s (commands_on row.channel rows) row number k f x)) (range_with_len 1 21)

pub last_row-more : (rows : List IssuedCommand) (row : IssuedCommand) → last_row (rows ++ row ∷ []) ≡ Some row
unfolding last_row
last_row-more rows row = fold-append (λ last (i : IssuedCommand). Some i) None rows (row ∷ [])

commands_on-own : (rows : List IssuedCommand) (row : IssuedCommand) → commands_on row.channel (rows ++ row ∷ []) ≡ commands_on row.channel rows ++ row ∷ []
commands_on-own rows row =
    filter-append (λ (i : IssuedCommand). i.channel == row.channel) rows (row ∷ [])
    ∙ ap (λ t. commands_on row.channel rows ++ t) (cond-true (row.channel == row.channel) (row ∷ []) [] (eq-eqb row.channel row.channel refl))

commands_on-other : (rows : List IssuedCommand) (row : IssuedCommand) (k : ℕ) → k ≢ row.channel → commands_on k (rows ++ row ∷ []) ≡ commands_on k rows
commands_on-other rows row k h =
    filter-append (λ (i : IssuedCommand). i.channel == k) rows (row ∷ [])
    ∙ ap (λ t. commands_on k rows ++ t) (cond-false (row.channel == k) (row ∷ []) [] (ne_eqb row.channel k (λ e. h (sym e))))
    ∙ append-nil (commands_on k rows)

-- one row more
pub past-more : (past after : Past) (s : Config) (rows : List IssuedCommand) (row : IssuedCommand) (c c' : Channel) → IsPast past s rows → RowFits (limits_of s) row
    → c ≡ get_or past.channels.items row.channel c → after.last ≡ Some row → after.channels.items ≡ set past.channels.items row.channel c'
    → ((history : List IssuedCommand) → IsKept c s history → IsKept c' s (history ++ row ∷ [])) → IsPast after s (rows ++ row ∷ [])
past-more past after s rows row c c' h f read last put more =
    let kept = more (commands_on row.channel rows) (channel-kept past s rows row c h f read) in
    record {
      last = last ∙ sym (last_row-more rows row);
      channel_count = ap length put ∙ length-set past.channels.items row.channel c' ∙ h.channel_count;
      channels = λ k d l.
          elim (cases_eq k row.channel) [
            | inl same ↦
                let value : get_or after.channels.items k d ≡ c' =
                ap (λ (xs : List Channel). get_or xs k d) put ∙ ap (λ n. get_or (set past.channels.items row.channel c') n d) same
                ∙ get_or-set_same past.channels.items row.channel c' d (omega (arith, h.channel_count, f.channel_in_range)) in
                let those : commands_on k (rows ++ row ∷ []) ≡ commands_on row.channel rows ++ row ∷ [] = ap (λ n. commands_on n (rows ++ row ∷ [])) same ∙ commands_on-own rows row in
                subst (λ (x : Channel). IsKept x s (commands_on k (rows ++ row ∷ []))) (sym value) (subst (λ (t : List IssuedCommand). IsKept c' s t) (sym those) kept)
            | inr apart ↦
                let value : get_or after.channels.items k d ≡ get_or past.channels.items k d =
                ap (λ (xs : List Channel). get_or xs k d) put ∙ get_or-set_other past.channels.items row.channel k c' d apart in
                subst (λ (x : Channel). IsKept x s (commands_on k (rows ++ row ∷ []))) (sym value)
                (subst (λ (t : List IssuedCommand). IsKept (get_or past.channels.items k d) s t) (sym (commands_on-other rows row k apart)) (h.channels k d l))
          ];
    }

-- no rows
pub past-first : (past : Past) (s : Config) → past.last ≡ None → length past.channels.items ≡ s.channels → All (λ (c : Channel). IsKept c s []) past.channels.items → IsPast past s []
unfolding last_row
past-first past s last count all =
    record {
      last = last;
      channel_count = count;
      channels = λ k d l. All-get_or (λ (c : Channel). IsKept c s []) past.channels.items k d (omega (arith, count)) all;
    }
