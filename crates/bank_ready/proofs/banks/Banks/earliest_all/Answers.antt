-- The word that is read is the least cycle at which the command is allowed.
use Rattle.std.proofs.Common.{◌<◌, ap, refl, ◌∙◌, arith}
use Rattle.sim_base.specs.declared.command.Kind.TheVariants as kind
use Rattle.bank_ready.specs.Words.{rank_state_from}
use Rattle.bank_ready.specs.declared.words.RankState.{RankState}
use Rattle.bank_ready.proofs.Allowed.{allowed-rank}
use Rattle.bank_ready.proofs.Stood.{made-read}
use Rattle.bank_ready.proofs.banks.Banks.earliest_all.Goals as goal

pub returns-in-Prea : goal.returns-in-Prea
returns-in-Prea c = record {
  least = λ s history command h e f now.
      let inside : c.args.rank < s.ranks = omega (arith, h.ranks, c.requires.rank) in
      let state = made-read (rank_state_from s.timing history) s.ranks c.args.rank _ _ h.rank_states inside c.index-state.ensures in
      let word = ap (λ (r : RankState). r.prea) state in
      rw word (allowed-rank s.timing history now command kind.Prea c.args.rank (e ∙ c.in-Prea.is) f refl refl);
}

pub returns-in-Ref : goal.returns-in-Ref
returns-in-Ref c = record {
  least = λ s history command h e f now.
      let inside : c.args.rank < s.ranks = omega (arith, h.ranks, c.requires.rank) in
      let state = made-read (rank_state_from s.timing history) s.ranks c.args.rank _ _ h.rank_states inside c.index-state.ensures in
      let word = ap (λ (r : RankState). r.refresh) state in
      rw word (allowed-rank s.timing history now command kind.Ref c.args.rank (e ∙ c.in-Ref.is) f refl refl);
}
