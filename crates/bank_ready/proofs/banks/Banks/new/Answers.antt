-- Each list has the value of an empty history at each place.
use Rattle.std.proofs.Common.{length, ap, refl, ◌∙◌, arith}
use Rattle.std.proofs.lemmas.List.{length-replicate}
use Rattle.bank_ready.proofs.Stood.{unused-count, stands-first}
use Rattle.bank_ready.proofs.banks.Banks.new.Goals as goal

pub returns-clause-stands : goal.returns-clause-stands
returns-clause-stands c =
    let words = c.in_ok-act.ensures {u = tt} in
    stands-first _ c.args.config.now ((c.in_ok-gaps.ensures {u = tt}).ok ∙ c.requires) words.act.0 words.act.1 words.rd.0 words.rd.1 words.wr.0 words.wr.1 (c.in_ok-pre.ensures {u = tt}) refl refl
    (c.in_ok-ranks.ensures {u = tt})

pub returns-clause-ranks : goal.returns-clause-ranks
returns-clause-ranks c = ap length (c.in_ok-ranks.ensures {u = tt}) ∙ length-replicate c.args.config.now.ranks _

pub invariant_of-result : goal.invariant_of-result
invariant_of-result c =
    let words = c.in_ok-act.ensures {u = tt} in
    let states = c.in_ok-ranks.ensures {u = tt} in
    let ranks = c.args.config.now.ranks in
    record {
      few = omega (arith, ap length states ∙ length-replicate ranks _);
      all_acts = unused-count 16 ranks _ _ states words.act.0;
      all_act_groups = unused-count 4 ranks _ _ states words.act.1;
      all_rds = unused-count 16 ranks _ _ states words.rd.0;
      all_rd_groups = unused-count 4 ranks _ _ states words.rd.1;
      all_wrs = unused-count 16 ranks _ _ states words.wr.0;
      all_wr_groups = unused-count 4 ranks _ _ states words.wr.1;
      all_pres = unused-count 16 ranks _ _ states (c.in_ok-pre.ensures {u = tt});
    }
