-- No request is for the open row where none is open.
use Rattle.std.proofs.Common.{None, ap, ◌∙◌}
use Rattle.sim_base.specs.declared.message.Access.{Access}
use Rattle.queue.specs.Candidates.{hits, AreFirst, access_number}
use Rattle.queue.specs.Words.{access_in}
use Rattle.queue.proofs.OneBank.{never_hits}
use Rattle.queue.proofs.Searches.{none_everywhere}
use Rattle.queue.proofs.Stood.{to_parts, from_parts, row_stand}
use Rattle.queue.proofs.bank_candidates.all_banks.BankCandidates.close.Goals as goal

pub returns-clause-stands : goal.returns-clause-stands
returns-clause-stands c log open_rows stands =
    let old = c.args.self.now in
    let number = c.args.number in
    let words = c.close.new.self.words.items in
    let parts = to_parts old log open_rows stands in
    let own : (access : Access) → AreFirst log number access None (access_in words (access_number number access)) = λ access. record {
      oldest_is = ap (λ h. h.oldest) (c.close.ensures.own access) ∙ (parts.first number access c.requires).oldest_is;
      hit_is = ap (λ h. h.hit) (c.close.ensures.own access) ∙ none_everywhere (hits number access None) log (never_hits number access);
    } in
    from_parts _ log _
    (row_stand old.rows.items old.candidate_words.words.items words log open_rows number None c.requires own (λ other access apart. c.close.ensures.others other access apart) parts)
    stands.counts_are
