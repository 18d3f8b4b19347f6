-- The words of RDs and WRs are raised, and a PRE of the own bank waits.
use Rattle.std.proofs.Common.{◌*◌, length, refl, ap, arith}
use Rattle.sim_base.specs.declared.command.Kind.TheVariants as kind
use Rattle.sim_base.specs.Rules.{kind_of}
use Rattle.sim_base.proofs.Lists.{length-lent}
use Rattle.bank_ready.specs.Ready.{held_until}
use Rattle.bank_ready.specs.Words.{act_word, group_relation_from}
use Rattle.timing.specs.Relation.{relation_to}
use Rattle.bank_ready.proofs.Allowed.{rank_of-bank}
use Rattle.bank_ready.proofs.Bounds.{column_pre_bound, column_to_pre}
use Rattle.bank_ready.proofs.Noting.{all-words, left-words, floor-raised, own_inside, at_distances, lifted, lifted-own, own-word, column-word, alone, joint-groups, column-acts, no-act, left, put-rank}
use Rattle.bank_ready.proofs.banks.Banks.note_column_command.Goals as goal

pub bound_until-to_pre-requires-clause-bound : goal.bound_until-to_pre-requires-clause-bound
bound_until-to_pre-requires-clause-bound c = column_pre_bound _ c.args.kind c.requires.kind

pub raise_own-requires : goal.raise_own-requires
raise_own-requires c = own_inside _ _ _ c.own_number-own.ensures.inside (omega (arith, ap length c.deref_mut-3.ensures.value))

pub invariant_of-self : goal.invariant_of-self
invariant_of-self c =
    let banks = c.args.self.now in
    let same = length-lent banks.ranks _ _ c.deref_mut-4.ensures.value c.raise_rank_words.auto.ranks in
    record {
      few = rw same banks.few;
      all_acts = left-words 16 banks.act.items banks.ranks _ same banks.all_acts;
      all_act_groups = left-words 4 banks.act_groups.items banks.ranks _ same banks.all_act_groups;
      all_rds = left-words 16 banks.rd.items banks.ranks _ same banks.all_rds;
      all_rd_groups = all-words 4 banks.rd_groups _ _ banks.ranks _ c.deref_mut.ensures.value c.raise_column_words-to_rd.auto.words same banks.all_rd_groups;
      all_wrs = left-words 16 banks.wr.items banks.ranks _ same banks.all_wrs;
      all_wr_groups = all-words 4 banks.wr_groups _ _ banks.ranks _ c.deref_mut-2.ensures.value c.raise_column_words-to_wr.auto.words same banks.all_wr_groups;
      all_pres = all-words 16 banks.pre _ _ banks.ranks _ c.deref_mut-3.ensures.value c.raise_own.auto.words same banks.all_pres;
    }

pub returns : goal.returns
returns c command of names =
    let banks = c.args.self.now in
    let ranks = length banks.ranks.items in
    let t = c.deref-gaps.result.now in
    let cycle = c.args.cycle in
    let bank = c.args.bank in
    let later = c.args.kind in
    let number = c.own_number-own.ensures.number in
    let own = c.own_number-own.result in
    let rank = rank_of-bank command bank names in
    let states =
    put-rank banks.ranks c.deref_mut-4.result.now c.raise_rank_words.new.ranks t cycle bank.rank command c.deref_mut-4.ensures.value c.raise_rank_words.auto.ranks
    (rw of c.raise_rank_words.ensures) rank (no-act (kind_of command) (rw of c.requires.kind)) in
    at_distances banks _ t banks.gaps.value cycle command c.deref-gaps.ensures
    (record {
      gaps = refl;
      act = left (16 * ranks) (act_word banks) _ (λ k. column-acts banks t cycle command k (rw of c.requires.kind));
      rd =
          joint-groups ranks banks.rd.items banks.rd_groups.items _ _ _
          (lifted banks.rd_groups c.deref_mut.result.now c.raise_column_words-to_rd.new.words (λ g. held_until t cycle later kind.Rd (group_relation_from bank g)) c.deref_mut.ensures.value c.raise_column_words-to_rd.auto.words c.raise_column_words-to_rd.ensures.words)
          banks.all_rd_groups (λ k. column-word t cycle command later kind.Rd bank k of names c.requires.kind refl);
      wr =
          joint-groups ranks banks.wr.items banks.wr_groups.items _ _ _
          (lifted banks.wr_groups c.deref_mut-2.result.now c.raise_column_words-to_wr.new.words (λ g. held_until t cycle later kind.Wr (group_relation_from bank g)) c.deref_mut-2.ensures.value c.raise_column_words-to_wr.auto.words c.raise_column_words-to_wr.ensures.words)
          banks.all_wr_groups (λ k. column-word t cycle command later kind.Wr bank k of names c.requires.kind refl);
      pre =
          alone (16 * ranks) banks.pre.items _ _ _
          (lifted-own banks.pre c.deref_mut-3.result.now c.raise_own.new.words bank own c.bound_until-to_pre.result c.deref_mut-3.ensures.value c.raise_own.auto.words c.raise_own.ensures number)
          banks.all_pres (λ k. own-word t cycle command kind.Pre bank _ k names (rw of c.bound_until-to_pre.ensures) (rw of (column_to_pre t cycle later c.requires.kind)));
      rd_floor = λ rank other. floor-raised _ _ _ _ c.max-self.ensures (rw of (c.raise_column_words-to_rd.ensures.least (relation_to command rank other)));
      wr_floor = λ rank other. floor-raised _ _ _ _ c.max-self-2.ensures (rw of (c.raise_column_words-to_wr.ensures.least (relation_to command rank other)));
      rank_count = states.count;
      ranks = states.each;
    })
