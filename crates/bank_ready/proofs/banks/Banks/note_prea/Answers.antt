-- The ACTs of the groups of the rank wait, and the words of the rank are raised.
use Rattle.std.proofs.Common.{◌*◌, ◌/◌, length, eqb, ℕ, cond, refl, arith}
use Rattle.sim_base.specs.declared.command.Command.TheVariants.{Prea}
use Rattle.sim_base.specs.declared.command.Kind.TheVariants as kind
use Rattle.sim_base.specs.declared.command.Relation.{Relation}
use Rattle.sim_base.specs.declared.command.Relation.TheVariants.{SameBank, OtherRank}
use Rattle.sim_base.proofs.Lists.{length-lent}
use Rattle.bank_ready.specs.Ready.{held_until}
use Rattle.bank_ready.specs.Words.{rd_word, wr_word, pre_word}
use Rattle.bank_ready.proofs.Bounds.{prea_rank, prea_nothing}
use Rattle.bank_ready.proofs.Noting.{all-words, left-words, at_distances, lifted, group-rank-word, joint-groups, left, put-rank}
use Rattle.bank_ready.proofs.banks.Banks.note_prea.Goals as goal

pub invariant_of-self : goal.invariant_of-self
invariant_of-self c =
    let banks = c.args.self.now in
    let same = length-lent banks.ranks _ _ c.deref_mut-2.ensures.value c.raise_rank_words.auto.ranks in
    record {
      few = rw same banks.few;
      all_acts = left-words 16 banks.act.items banks.ranks _ same banks.all_acts;
      all_act_groups = all-words 4 banks.act_groups _ _ banks.ranks _ c.deref_mut.ensures.value c.raise_rank_groups.auto.words same banks.all_act_groups;
      all_rds = left-words 16 banks.rd.items banks.ranks _ same banks.all_rds;
      all_rd_groups = left-words 4 banks.rd_groups.items banks.ranks _ same banks.all_rd_groups;
      all_wrs = left-words 16 banks.wr.items banks.ranks _ same banks.all_wrs;
      all_wr_groups = left-words 4 banks.wr_groups.items banks.ranks _ same banks.all_wr_groups;
      all_pres = left-words 16 banks.pre.items banks.ranks _ same banks.all_pres;
    }

pub returns : goal.returns
returns c =
    let banks = c.args.self.now in
    let ranks = length banks.ranks.items in
    let t = c.deref-gaps.result.now in
    let cycle = c.args.cycle in
    let rank = c.args.rank in
    let command = Prea rank in
    let at = λ (k : ℕ). cond (eqb rank (k / 16)) SameBank OtherRank in
    let states = put-rank banks.ranks c.deref_mut-2.result.now c.raise_rank_words.new.ranks t cycle rank command c.deref_mut-2.ensures.value c.raise_rank_words.auto.ranks c.raise_rank_words.ensures refl refl in
    at_distances banks _ t banks.gaps.value cycle command c.deref-gaps.ensures
    (record {
      gaps = refl;
      act =
          joint-groups ranks banks.act.items banks.act_groups.items _ _ _
          (lifted banks.act_groups c.deref_mut.result.now c.raise_rank_groups.new.words (λ g. cond (eqb rank (g / 4)) c.bound_until-to_act.result 0) c.deref_mut.ensures.value c.raise_rank_groups.auto.words
          (λ k d l. c.raise_rank_groups.ensures k d)) banks.all_act_groups
          (λ k. omega (arith, group-rank-word (λ (r : Relation). held_until t cycle kind.Prea kind.Act r) rank c.bound_until-to_act.result k c.bound_until-to_act.ensures (prea_rank t cycle)));
      rd = left (16 * ranks) (rd_word banks) _ (λ k. (prea_nothing t cycle (at k)).0);
      wr = left (16 * ranks) (wr_word banks) _ (λ k. (prea_nothing t cycle (at k)).1);
      pre = left (16 * ranks) (pre_word banks) _ (λ k. (prea_nothing t cycle (at k)).2);
      rd_floor = λ rank other. omega arith;
      wr_floor = λ rank other. omega arith;
      rank_count = states.count;
      ranks = states.each;
    })
