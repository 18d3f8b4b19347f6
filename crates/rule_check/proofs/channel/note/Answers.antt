-- The row is noted in each bank, group and rank.
use Rattle.std.proofs.Common.{◌*◌, ◌/◌, ◌%◌, ◌≤◌, refl, sym, ap, subst, ◌∙◌}
use Rattle.sim_base.proofs.Lists.{length-lent}
use Rattle.rule_check.specs.Kept.{bank_after, group_after, rank_after}
use Rattle.sim_base.specs.Places.{bank_at}
use Rattle.rule_check.specs.declared.state.Bank.{Bank}
use Rattle.rule_check.specs.declared.state.Group.{Group}
use Rattle.rule_check.specs.declared.state.Rank.{Rank}
use Rattle.rule_check.proofs.Keeping.{kept-more}
use Rattle.rule_check.proofs.Noting.{items-changed}
use Rattle.rule_check.proofs.channel.note.Goals as goal

pub returns : goal.returns
returns c history h =
    let before = c.args.channel.now in
    let i = c.args.row in
    let banks = items-changed before.banks _ c.deref_mut.result.now c.note_in_banks.new.banks (λ k (x : Bank). bank_after (bank_at k) i.cycle i.command x) refl c.deref_mut.ensures.value c.note_in_banks.auto.banks c.note_in_banks.ensures.each in
    let groups = items-changed before.groups _ c.deref_mut-2.result.now c.note_in_groups.new.groups (λ k (x : Group). group_after (k / 4) (k % 4) i.cycle i.command x) refl c.deref_mut-2.ensures.value c.note_in_groups.auto.groups c.note_in_groups.ensures.each in
    let ranks = items-changed before.ranks _ c.deref_mut-3.result.now c.note_in_ranks.new.ranks (λ k (x : Rank). rank_after c.args.config.now.timing k i.cycle i.command x) refl c.deref_mut-3.ensures.value c.note_in_ranks.auto.ranks c.note_in_ranks.ensures.each in
    kept-more before _ c.args.config.now history i (record {
      all_banks = banks.0;
      all_groups = groups.0;
      all_ranks = ranks.0;
      each_bank = banks.1;
      each_group = groups.1;
      each_rank = ranks.1;
    }) h

pub invariant_of-channel : goal.invariant_of-channel
invariant_of-channel c =
    let before = c.args.channel.now in
    let banks = length-lent before.banks _ c.note_in_banks.new.banks c.deref_mut.ensures.value c.note_in_banks.auto.banks in
    let groups = length-lent before.groups _ c.note_in_groups.new.groups c.deref_mut-2.ensures.value c.note_in_groups.auto.groups in
    let ranks = length-lent before.ranks _ c.note_in_ranks.new.ranks c.deref_mut-3.ensures.value c.note_in_ranks.auto.ranks in
    record {
      few = subst (λ count. count ≤ 4) (sym ranks) before.few;
      all_banks = banks ∙ before.all_banks ∙ ap (λ count. 16 * count) (sym ranks);
      all_groups = groups ∙ before.all_groups ∙ ap (λ count. 4 * count) (sym ranks);
    }
