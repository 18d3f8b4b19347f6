-- An ACT of the own bank waits, and the words of the rank.
use Rattle.std.proofs.Common.{◌*◌, max, length, refl, ap, arith}
use Rattle.sim_base.specs.declared.command.Command.TheVariants.{Pre}
use Rattle.sim_base.specs.declared.command.Kind.TheVariants as kind
use Rattle.sim_base.proofs.Lists.{length-lent}
use Rattle.bank_ready.specs.Words.{relation_from, rd_word, wr_word, pre_word, word_until}
use Rattle.bank_ready.specs.Noted.{window_word}
use Rattle.bank_ready.proofs.Bounds.{pre_to_act, pre_nothing}
use Rattle.bank_ready.proofs.Noting.{floor-left, all-words, left-words, own_inside, at_distances, lifted-own, own-word, joint-own, left, put-rank}
use Rattle.bank_ready.proofs.Stood.{noted_is}
use Rattle.bank_ready.proofs.banks.Banks.note_pre.Goals as goal

pub raise_own-requires : goal.raise_own-requires
raise_own-requires c = own_inside _ _ _ c.own_number-own.ensures.inside (omega (arith, ap length c.deref_mut.ensures.value))

pub invariant_of-self : goal.invariant_of-self
invariant_of-self c =
    let banks = c.args.self.now in
    let same = length-lent banks.ranks _ _ c.deref_mut-2.ensures.value c.raise_rank_words.auto.ranks in
    record {
      few = rw same banks.few;
      all_acts = all-words 16 banks.act _ _ banks.ranks _ c.deref_mut.ensures.value c.raise_own.auto.words same banks.all_acts;
      all_act_groups = left-words 4 banks.act_groups.items banks.ranks _ same banks.all_act_groups;
      all_rds = left-words 16 banks.rd.items banks.ranks _ same banks.all_rds;
      all_rd_groups = left-words 4 banks.rd_groups.items banks.ranks _ same banks.all_rd_groups;
      all_wrs = left-words 16 banks.wr.items banks.ranks _ same banks.all_wrs;
      all_wr_groups = left-words 4 banks.wr_groups.items banks.ranks _ same banks.all_wr_groups;
      all_pres = left-words 16 banks.pre.items banks.ranks _ same banks.all_pres;
    }

pub returns-clause-stands : goal.returns-clause-stands
returns-clause-stands c s history channel source h later =
    let banks = c.args.self.now in
    let ranks = length banks.ranks.items in
    let t = c.deref-gaps.result.now in
    let cycle = c.args.cycle in
    let bank = c.args.bank in
    let command = Pre bank source in
    let number = c.own_number-own.ensures.number in
    let own = c.own_number-own.result in
    let states = put-rank banks.ranks c.deref_mut-2.result.now c.raise_rank_words.new.ranks t cycle bank.rank command c.deref_mut-2.ensures.value c.raise_rank_words.auto.ranks c.raise_rank_words.ensures refl refl in
    noted_is banks _ s history cycle channel command command h later refl
    (at_distances banks _ t banks.gaps.value cycle command c.deref-gaps.ensures
    (record {
      gaps = refl;
      act =
          joint-own ranks banks.act.items _ banks.act_groups.items _ (λ k. max (word_until t cycle command kind.Act k) (window_word banks command k))
          (lifted-own banks.act c.deref_mut.result.now c.raise_own.new.words bank own c.bound_until-to_act.result c.deref_mut.ensures.value c.raise_own.auto.words c.raise_own.ensures number)
          banks.all_acts (λ k. omega (arith, own-word t cycle command kind.Act bank c.bound_until-to_act.result k refl c.bound_until-to_act.ensures (pre_to_act t cycle)));
      rd = left (16 * ranks) (rd_word banks) _ (λ k. (pre_nothing t cycle (relation_from bank k)).0);
      wr = left (16 * ranks) (wr_word banks) _ (λ k. (pre_nothing t cycle (relation_from bank k)).1);
      pre = left (16 * ranks) (pre_word banks) _ (λ k. (pre_nothing t cycle (relation_from bank k)).2);
      rd_floor = λ rank other. floor-left banks.rd_floor _;
      wr_floor = λ rank other. floor-left banks.wr_floor _;
      rank_count = states.count;
      ranks = states.each;
    }))

pub returns-clause-ranks : goal.returns-clause-ranks
returns-clause-ranks c = length-lent c.args.self.now.ranks _ _ c.deref_mut-2.ensures.value c.raise_rank_words.auto.ranks
