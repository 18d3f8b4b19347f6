-- The word that is read, or the later one of two, is the least cycle at which the command is allowed.
use Rattle.std.proofs.Common.{◌*◌, ◌<◌, refl, ◌∙◌, arith}
use Rattle.std.proofs.lemmas.List.{get_or_read}
use Rattle.sim_base.specs.declared.command.Kind.TheVariants as kind
use Rattle.sim_base.specs.Places.{bank_at}
use Rattle.bank_ready.specs.Stands.{rank_count}
use Rattle.bank_ready.proofs.Allowed.{allowed-other, allowed-act}
use Rattle.bank_ready.proofs.Stood.{later-read}
use Rattle.bank_ready.proofs.banks.Banks.earliest_in.Goals as goal

pub returns-in-Act : goal.returns-in-Act
returns-in-Act c = record {
  least = λ s history command h e f now.
      let banks = c.args.self.now in
      let inside : c.args.bank < 16 * s.ranks = omega (arith, h.ranks, c.requires.bank) in
      let word =
      later-read (rank_count banks) banks.act.items banks.act_groups.items c.args.bank _ _ _ banks.all_acts banks.all_act_groups c.requires.bank c.index.ensures c.index-in-Act.ensures c.max.ensures
      ∙ h.act_words c.args.bank inside in
      rw word (allowed-act s.timing history now command (bank_at c.args.bank) h.ascending (e ∙ c.in-Act.is) f);
}

pub returns-in-Rd : goal.returns-in-Rd
returns-in-Rd c = record {
  least = λ s history command h e f now.
      let banks = c.args.self.now in
      let inside : c.args.bank < 16 * s.ranks = omega (arith, h.ranks, c.requires.bank) in
      let word =
      later-read (rank_count banks) banks.rd.items banks.rd_groups.items c.args.bank _ _ _ banks.all_rds banks.all_rd_groups c.requires.bank c.index-in-Rd.ensures c.index-in-Rd-2.ensures c.max-in-Rd.ensures
      ∙ h.rd_words c.args.bank inside in
      rw word (allowed-other s.timing history now command kind.Rd (bank_at c.args.bank) (e ∙ c.in-Rd.is) f refl);
}

pub returns-in-Wr : goal.returns-in-Wr
returns-in-Wr c = record {
  least = λ s history command h e f now.
      let banks = c.args.self.now in
      let inside : c.args.bank < 16 * s.ranks = omega (arith, h.ranks, c.requires.bank) in
      let word =
      later-read (rank_count banks) banks.wr.items banks.wr_groups.items c.args.bank _ _ _ banks.all_wrs banks.all_wr_groups c.requires.bank c.index-in-Wr.ensures c.index-in-Wr-2.ensures c.max-in-Wr.ensures
      ∙ h.wr_words c.args.bank inside in
      rw word (allowed-other s.timing history now command kind.Wr (bank_at c.args.bank) (e ∙ c.in-Wr.is) f refl);
}

pub returns-in-Pre : goal.returns-in-Pre
returns-in-Pre c = record {
  least = λ s history command h e f now.
      let banks = c.args.self.now in
      let inside : c.args.bank < 16 * s.ranks = omega (arith, h.ranks, c.requires.bank) in
      let word = get_or_read banks.pre.items c.args.bank _ (rw banks.all_pres c.requires.bank) c.index-in-Pre.ensures 0 ∙ h.pre_words c.args.bank inside in
      rw word (allowed-other s.timing history now command kind.Pre (bank_at c.args.bank) (e ∙ c.in-Pre.is) f refl);
}
