-- Some request of an access may be served where some bank has a candidate of it.
use Rattle.std.proofs.Common.{◌≡◌, ℕ, ◌<◌, not, ◌&&◌, eqb, sym, ap, ◌∙◌, inl, inr}
use Rattle.std.proofs.Math.Bool.{and-false}
use Rattle.std.proofs.lemmas.Bool.{cases_Bool}
use Rattle.std.specs.Option.{is_some}
use Rattle.sim_base.specs.Access.{is_access}
use Rattle.queue.specs.Columns.{bank_number}
use Rattle.queue.specs.Candidates.{asks, first_place}
use Rattle.queue.specs.Stands.{bank_count}
use Rattle.queue.specs.Sets.{is_in}
use Rattle.sim_base.proofs.Lists.{none-is}
use Rattle.queue.proofs.SomeAccess.{oldest_is, some_wider, none_at_all}
use Rattle.queue.proofs.bank_candidates.all_banks.BankCandidates.has_access.Goals as goal

pub returns : goal.returns
returns c log open_rows stands =
    let candidates = c.args.self.now in
    let access = c.args.access in
    let banks = c.banks_with_candidate.result in
    let oldest : (bank : ℕ) → bank < bank_count candidates → is_in banks bank ≡ is_some (first_place (asks bank access) log) =
    λ bank exists. c.banks_with_candidate.ensures.each bank exists ∙ ap is_some (oldest_is access log bank candidates (stands.candidates_are bank exists)) in
    elim (cases_Bool c.is_empty.result) [
      | inl none ↦
          ap not none
          ∙ ap is_some
          (none_at_all access log (bank_count candidates) stands.within
          (λ bank exists. none-is (first_place (asks bank access) log) (sym (oldest bank exists) ∙ c.is_empty.ensures.none none bank)))
      | inr some ↦
          let found = c.is_empty.ensures.some some in
          let bank = found.0 in
          let exists = c.banks_with_candidate.ensures.within bank found.2 in
          ap not some
          ∙ sym (some_wider (asks bank access) (λ r. is_access access r.access) log (λ x none. ap (λ b. eqb (bank_number x.place) bank && b) none ∙ and-false (eqb (bank_number x.place) bank)) (sym (oldest bank exists) ∙ found.2))
    ]
