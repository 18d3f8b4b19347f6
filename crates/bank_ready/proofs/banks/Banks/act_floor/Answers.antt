-- No ACT is allowed before the window of the only rank has room for it.
use Rattle.std.proofs.Common.{◌≡◌, List, get_or, length, ap, subst, ◌∙◌, ◌≤◌, ◌<◌, arith}
use Rattle.std.proofs.lemmas.List.FromFn.{get_or-map-range_with_len}
use Rattle.sim_base.specs.Rules.{rank_of}
use Rattle.bank_ready.specs.Words.{rank_state_from, unused_rank, window_from}
use Rattle.bank_ready.specs.declared.words.RankState.{RankState}
use Rattle.bank_ready.proofs.Allowed.{act-no-sooner}
use Rattle.bank_ready.proofs.banks.Banks.act_floor.Goals as goal

pub returns-in-len1 : goal.returns-in-len1
returns-in-len1 c = record {
  floor = λ s history command cycle h e in_ranks from.
      let only = c.as_slice.ensures.value in
      let count = ap (λ (xs : List RankState). length xs) only in
      let first : rank_of command ≡ 0 = omega (arith, count, in_ranks, c.in-len1.len_below) in
      let some : 0 < s.ranks = omega (arith, h.ranks, in_ranks) in
      let state =
      ap (λ (xs : List RankState). get_or xs 0 unused_rank) (only ∙ h.rank_states)
      ∙ get_or-map-range_with_len (rank_state_from s.timing history) 0 s.ranks 0 0 unused_rank some (omega arith) in
      let end = ap (λ (r : RankState). r.window.oldest) state in
      let sooner = subst (λ rank. (window_from s.timing rank history).oldest ≤ cycle) first (act-no-sooner s history command cycle h.ascending e from) in
      omega (arith, end, sooner);
}
