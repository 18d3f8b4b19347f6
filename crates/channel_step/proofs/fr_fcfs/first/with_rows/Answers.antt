-- Open banks are closed and closed ones opened; no other banks are left.
use Rattle.std.proofs.Common.{◌≡◌, ℕ, Bool, true, false, not, ◌&&◌, ◌||◌, Option, None, Some, refl, sym, ap, length, ◌∙◌}
use Rattle.std.proofs.lemmas.Bool.{and_parts, not-true}
use Rattle.std.specs.Option.{is_some}
use Rattle.std.proofs.Math.Bool.{or-false}
use Rattle.sim_base.specs.declared.command.Kind.TheVariants as kind
use Rattle.queue.specs.Candidates.{first_place}
use Rattle.queue.specs.Sets.{is_in}
use Rattle.queue.specs.Stands.{bank_count, candidates_of_bank, row_of_bank}
use Rattle.channel_step.specs.FrFcfs.Offers.{row_requests_now, row_requests_beside, row_kind}
use Rattle.channel_step.proofs.FrFcfs.Beside.{beside_all, beside_same, beside_nothing}
use Rattle.channel_step.proofs.FrFcfs.BankMore.{row_none}
use Rattle.channel_step.proofs.FrFcfs.SoFar.{so_far_same}
use Rattle.channel_step.proofs.fr_fcfs.first.with_rows.Goals as goal

opens : (row : Option ℕ) → is_some row ≡ false → kind.Act ≡ row_kind row
opens None is = refl
opens (Some row) is = cc

closes : (row : Option ℕ) → is_some row ≡ true → kind.Pre ≡ row_kind row
closes None is = cc
closes (Some row) is = refl

-- the banks that are asked for and not closed are open
is_open : (asked opened : Bool) → (asked && not (asked && not opened)) ≡ true → opened ≡ true
is_open true true is = refl
is_open true false is = is
is_open false true is = refl
is_open false false is = is

-- the open and the closed banks of those that are asked for are all of them
either : (asked opened : Bool) → ((asked && not (asked && not opened)) || (asked && not opened)) ≡ asked
either true true = refl
either true false = refl
either false opened = refl

pub with_rows_of-requires-clause-within : goal.with_rows_of-requires-clause-within
with_rows_of-requires-clause-within c k there =
    let asked = (and_parts (is_in c.minus-asked.result k) (not (is_in c.minus-closed.result k)) (sym (c.minus-opened.ensures k) ∙ there)).0 in
    c.banks_with_candidate.ensures.within k (and_parts (is_in c.banks_with_candidate.result k) (not (is_in c.hit.result k)) (sym (c.minus-asked.ensures k) ∙ asked)).0

pub with_rows_of-requires-clause-needed : goal.with_rows_of-requires-clause-needed
with_rows_of-requires-clause-needed c k there =
    let asked = (and_parts (is_in c.minus-asked.result k) (not (is_in c.minus-closed.result k)) (sym (c.minus-opened.ensures k) ∙ there)).0 in
    let parts = and_parts (is_in c.banks_with_candidate.result k) (not (is_in c.hit.result k)) (sym (c.minus-asked.ensures k) ∙ asked) in
    let exists = c.banks_with_candidate.ensures.within k parts.0 in
    record {
      some = sym (c.banks_with_candidate.ensures.each k exists) ∙ parts.0;
      no_hit = sym (c.hit.ensures k exists) ∙ not-true (is_in c.hit.result k) parts.1;
      kind_is =
          closes (row_of_bank c.args.bank_candidates.now k)
          (sym (c.open_banks.ensures k exists)
          ∙ is_open (is_in c.minus-asked.result k) (is_in c.open_banks.result k) (ap (λ b. is_in c.minus-asked.result k && not b) (sym (c.minus-closed.ensures k)) ∙ sym (c.minus-opened.ensures k) ∙ there));
    }

pub with_acts-requires-clause-within : goal.with_acts-requires-clause-within
with_acts-requires-clause-within c k there =
    let asked = (and_parts (is_in c.minus-asked.result k) (not (is_in c.open_banks.result k)) (sym (c.minus-closed.ensures k) ∙ there)).0 in
    c.banks_with_candidate.ensures.within k (and_parts (is_in c.banks_with_candidate.result k) (not (is_in c.hit.result k)) (sym (c.minus-asked.ensures k) ∙ asked)).0

pub with_acts-requires-clause-needed : goal.with_acts-requires-clause-needed
with_acts-requires-clause-needed c k there =
    let closed = and_parts (is_in c.minus-asked.result k) (not (is_in c.open_banks.result k)) (sym (c.minus-closed.ensures k) ∙ there) in
    let parts = and_parts (is_in c.banks_with_candidate.result k) (not (is_in c.hit.result k)) (sym (c.minus-asked.ensures k) ∙ closed.0) in
    let exists = c.banks_with_candidate.ensures.within k parts.0 in
    record {
      some = sym (c.banks_with_candidate.ensures.each k exists) ∙ parts.0;
      no_hit = sym (c.hit.ensures k exists) ∙ not-true (is_in c.hit.result k) parts.1;
      kind_is = opens (row_of_bank c.args.bank_candidates.now k) (sym (c.open_banks.ensures k exists) ∙ not-true (is_in c.open_banks.result k) closed.1);
    }

pub returns : goal.returns
returns c s history log known hits before =
    let now = c.args.now in
    let accesses = c.args.accesses in
    let asked = c.minus-asked.result in
    let closed = c.minus-closed.result in
    let opened = c.minus-opened.result in
    let whole : (k : ℕ) → (is_in opened k || is_in closed k) ≡ is_in asked k =
    λ k.
    (λ i. c.minus-opened.ensures k i || is_in closed k)
    ∙ (λ i. (is_in asked k && not (c.minus-closed.ensures k i)) || c.minus-closed.ensures k i)
    ∙ either (is_in asked k) (is_in c.open_banks.result k) in
    let start =
    so_far_same (length log) now hits (λ cycle. None) hits (row_requests_beside s history log accesses (λ k. is_in opened k || is_in closed k)) c.args.best.now (λ cycle late. refl)
    (λ cycle late.
    sym
    (beside_nothing (λ k. is_in opened k || is_in closed k) (bank_count c.args.bank_candidates.now) (row_requests_now s history log accesses cycle) log known.candidates_stand.within
    (λ k exists off.
    row_none s history _ log accesses k (candidates_of_bank c.args.bank_candidates.now k) known.in_banks (known.candidates_stand.candidates_are k exists) (known.candidates_stand.rows_are k exists)
    ((λ i. (sym (c.banks_with_candidate.ensures.each k exists)) i && not ((sym (c.hit.ensures k exists)) i)) ∙ sym (c.minus-asked.ensures k) ∙ sym (whole k) ∙ off) cycle)))
    before in
    let apart : (k : ℕ) → is_in opened k ≡ true → is_in closed k ≡ false =
    λ k there. not-true (is_in closed k) (and_parts (is_in asked k) (not (is_in closed k)) (sym (c.minus-opened.ensures k) ∙ there)).1 in
    let half = c.with_rows_of.ensures s history log hits (λ k. is_in closed k) known apart start in
    let rest =
    so_far_same (length log) now hits (row_requests_beside s history log accesses (λ k. is_in closed k)) hits (row_requests_beside s history log accesses (λ k. is_in closed k || false)) c.with_rows_of.new.best
    (λ cycle late. refl)
    (λ cycle late. beside_same (λ k. is_in closed k) (λ k. is_in closed k || false) (row_requests_now s history log accesses cycle) log (λ k. sym (or-false (is_in closed k)))) half in
    so_far_same (length log) now hits (row_requests_beside s history log accesses (λ k. false)) hits (λ cycle. first_place (row_requests_now s history log accesses cycle) log) c.with_acts.new.best
    (λ cycle late. refl) (λ cycle late. beside_all (λ k. false) (row_requests_now s history log accesses cycle) log (λ k. refl))
    (c.with_acts.ensures s history log hits (λ k. false) known (λ k there. refl) rest)
