-- The words of ACTs of the groups of the rank are raised, and those of the own bank.
use Rattle.std.proofs.Common.{◌*◌, ◌/◌, ◌∙◌, eqb, max, cond, get_or, length, refl, ap, arith, ◌+◌}
use Rattle.sim_base.specs.declared.command.Command.TheVariants.{Act}
use Rattle.sim_base.specs.declared.command.Kind.TheVariants as kind
use Rattle.sim_base.specs.declared.command.Relation.{Relation}
use Rattle.sim_base.specs.Places.{is_bank, bank_at}
use Rattle.sim_base.proofs.Lists.{length-lent}
use Rattle.bank_ready.specs.Ready.{held_until}
use Rattle.bank_ready.specs.Words.{relation_from, group_relation_from, rank_state_after, act_pushed, rank_raised}
use Rattle.bank_ready.proofs.Bounds.{act_grows, act_other_rank, act_to_rd, act_to_wr, act_to_pre}
use Rattle.bank_ready.proofs.Noting.{floor-left, all-words, left-words, own_inside, at_distances, lifted, lifted-own, own-word, alone, joint, joint-own, put, window-of-act, act-tests}
use Rattle.bank_ready.proofs.Places.{act_joint}
use Rattle.bank_ready.proofs.Stood.{noted_is}
use Rattle.bank_ready.proofs.banks.Banks.note_act.Goals as goal

pub raise_own-requires : goal.raise_own-requires
raise_own-requires c = own_inside _ _ _ c.own_number-own.ensures.inside (omega (arith, ap length c.deref_mut-2.ensures.value))

pub raise_own-requires-2 : goal.raise_own-requires-2
raise_own-requires-2 c = own_inside _ _ _ c.own_number-own.ensures.inside (omega (arith, ap length c.deref_mut-3.ensures.value))

pub raise_own-requires-3 : goal.raise_own-requires-3
raise_own-requires-3 c = own_inside _ _ _ c.own_number-own.ensures.inside (omega (arith, ap length c.deref_mut-4.ensures.value))

pub raise_own-requires-4 : goal.raise_own-requires-4
raise_own-requires-4 c = own_inside _ _ _ c.own_number-own.ensures.inside (omega (arith, ap length c.deref_mut-5.ensures.value))

pub invariant_of-self : goal.invariant_of-self
invariant_of-self c =
    let banks = c.args.self.now in
    let same = length-lent banks.ranks _ _ c.deref_mut-6.ensures.value c.note_act_in_rank.auto.ranks in
    record {
      few = rw same banks.few;
      all_acts = all-words 16 banks.act _ _ banks.ranks _ c.deref_mut-2.ensures.value c.raise_own.auto.words same banks.all_acts;
      all_act_groups = all-words 4 banks.act_groups _ _ banks.ranks _ c.deref_mut.ensures.value c.raise_acts.auto.words same banks.all_act_groups;
      all_rds = all-words 16 banks.rd _ _ banks.ranks _ c.deref_mut-3.ensures.value c.raise_own-2.auto.words same banks.all_rds;
      all_rd_groups = left-words 4 banks.rd_groups.items banks.ranks _ same banks.all_rd_groups;
      all_wrs = all-words 16 banks.wr _ _ banks.ranks _ c.deref_mut-4.ensures.value c.raise_own-3.auto.words same banks.all_wrs;
      all_wr_groups = left-words 4 banks.wr_groups.items banks.ranks _ same banks.all_wr_groups;
      all_pres = all-words 16 banks.pre _ _ banks.ranks _ c.deref_mut-5.ensures.value c.raise_own-4.auto.words same banks.all_pres;
    }

pub returns-clause-stands : goal.returns-clause-stands
returns-clause-stands c s history channel row source h later =
    let banks = c.args.self.now in
    let t = c.deref-gaps.result.now in
    let cycle = c.args.cycle in
    let bank = c.args.bank in
    let command = Act bank row source in
    let number = c.own_number-own.ensures.number in
    let own = c.own_number-own.result in
    let held = λ (r : Relation). held_until t cycle kind.Act kind.Act r in
    let end = c.index.result.now.window.second in
    let to_act = c.bound_until-to_act.result in
    let ranks = length banks.ranks.items in
    let states =
    put banks.ranks c.deref_mut-6.result.now c.note_act_in_rank.new.ranks (rank_state_after t cycle command) c.deref_mut-6.ensures.value c.note_act_in_rank.auto.ranks
    (λ k d l.
    let state = get_or c.deref_mut-6.result.now k d in
    c.note_act_in_rank.ensures k d
    ∙ ap (λ n. cond (eqb bank.rank k) (act_pushed (rank_raised t cycle kind.Act state) (cycle + n)) state) (c.from.ensures ∙ c.four_act_window.ensures.value)
    ∙ act-tests t cycle (cycle + t.n_faw) (eqb bank.rank k) state) in
    noted_is banks _ s history cycle channel command command h later refl
    (at_distances banks _ t banks.gaps.value cycle command c.deref-gaps.ensures
    (record {
      gaps = refl;
      act =
          joint ranks banks.act.items _ banks.act_groups.items _ _ _ _
          (lifted-own banks.act c.deref_mut-2.result.now c.raise_own.new.words bank own to_act c.deref_mut-2.ensures.value c.raise_own.auto.words c.raise_own.ensures number)
          (lifted banks.act_groups c.deref_mut.result.now c.raise_acts.new.words (λ g. max (held (group_relation_from bank g)) (cond (eqb bank.rank (g / 4)) end 0)) c.deref_mut.ensures.value c.raise_acts.auto.words
          (λ k d l. c.raise_acts.ensures k d)) banks.all_acts banks.all_act_groups
          (λ k.
          ap (λ n. max (cond (is_bank (bank_at k) bank) n 0) (max (held (group_relation_from bank (k / 4))) (cond (eqb bank.rank (k / 4 / 4)) end 0))) c.bound_until-to_act.ensures
          ∙ act_joint held bank k end (act_grows t cycle) (act_other_rank t cycle)
          ∙ ap (max (held (relation_from bank k))) (window-of-act banks bank row source k end c.index.result.now c.requires.rank c.index.ensures refl));
      rd =
          joint-own ranks banks.rd.items _ banks.rd_groups.items _ _
          (lifted-own banks.rd c.deref_mut-3.result.now c.raise_own-2.new.words bank own c.bound_until-to_rd.result c.deref_mut-3.ensures.value c.raise_own-2.auto.words c.raise_own-2.ensures number)
          banks.all_rds (λ k. own-word t cycle command kind.Rd bank _ k refl c.bound_until-to_rd.ensures (act_to_rd t cycle));
      wr =
          joint-own ranks banks.wr.items _ banks.wr_groups.items _ _
          (lifted-own banks.wr c.deref_mut-4.result.now c.raise_own-3.new.words bank own c.bound_until-to_wr.result c.deref_mut-4.ensures.value c.raise_own-3.auto.words c.raise_own-3.ensures number)
          banks.all_wrs (λ k. own-word t cycle command kind.Wr bank _ k refl c.bound_until-to_wr.ensures (act_to_wr t cycle));
      pre =
          alone (16 * ranks) banks.pre.items _ _ _
          (lifted-own banks.pre c.deref_mut-5.result.now c.raise_own-4.new.words bank own c.bound_until-to_pre.result c.deref_mut-5.ensures.value c.raise_own-4.auto.words c.raise_own-4.ensures number)
          banks.all_pres (λ k. own-word t cycle command kind.Pre bank _ k refl c.bound_until-to_pre.ensures (act_to_pre t cycle));
      rd_floor = λ rank other. floor-left banks.rd_floor _;
      wr_floor = λ rank other. floor-left banks.wr_floor _;
      rank_count = states.count;
      ranks = states.each;
    }))

pub returns-clause-ranks : goal.returns-clause-ranks
returns-clause-ranks c = length-lent c.args.self.now.ranks _ _ c.deref_mut-6.ensures.value c.note_act_in_rank.auto.ranks
