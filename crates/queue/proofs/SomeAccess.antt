-- Requests of an access, bank by bank.
use Rattle.std.proofs.Common.{◌≡◌, ◌<◌, ℕ, Bool, true, false, ◌&&◌, eqb, List, length, get_or, Option, Some, None, refl, sym, ap, ◌∙◌, arith}
use Rattle.std.proofs.lemmas.Bool.{eq-eqb, false≢true}
use Rattle.std.specs.List.{All}
use Rattle.std.specs.Option.{is_some}
use Rattle.sim_base.specs.Access.{is_access}
use Rattle.sim_base.specs.declared.message.Access.{Access}
use Rattle.sim_base.specs.declared.message.Access.TheVariants as access
use Rattle.sim_base.specs.declared.message.Request.{Request}
use Rattle.queue.specs.declared.request_log.Arrived.{Arrived}
use Rattle.queue.specs.Marks.{is_marked}
use Rattle.queue.specs.Log.{absent, all_requests, eligible_column}
use Rattle.queue.specs.Columns.{bank_number}
use Rattle.queue.specs.declared.bank_candidates.all_banks.BankCandidates.{BankCandidates}
use Rattle.queue.specs.Stands.{candidates_of_bank, candidates_to}
use Rattle.queue.specs.Candidates.{asks, first_place, AreCandidates}
use Rattle.queue.specs.Moves.{before}
use Rattle.queue.proofs.MarkedRequests.{none_before}
use Rattle.queue.proofs.Searches.{here_is, none_narrower_all, found_none}
use Rattle.queue.proofs.Waits.{request_at}

-- the oldest of an access
pub oldest_is : (access : Access) (log : List Arrived) (bank : ℕ) (candidates : BankCandidates) → AreCandidates log bank (candidates_of_bank candidates bank)
    → (candidates_to candidates bank access).oldest ≡ first_place (asks bank access) log
oldest_is access.Write log bank candidates first = first.writes_are.oldest_is
oldest_is access.Read log bank candidates first = first.reads_are.oldest_is

no_some : (o : Option ℕ) → None ≡ o → is_some o ≡ true → ⊥
no_some o none is = false≢true (ap is_some none ∙ is)

-- where some request passes a test, some request passes a test that asks for less
pub some_wider : (p q : Request → Bool) (log : List Arrived) → ((x : Request) → q x ≡ false → p x ≡ false) → is_some (first_place p log) ≡ true → is_some (first_place q log) ≡ true
some_wider p q log weaker is = known (first_place q log) refl
  where
    known : (o : Option ℕ) → o ≡ first_place q log → is_some (first_place q log) ≡ true
    known None none = absurd (no_some (first_place p log) (none_narrower_all p q log weaker none) is)
    known (Some k) some = ap is_some (sym some)

fails_too : (m e w : Bool) → e ≡ true → (m && (e && w)) ≡ false → (m && w) ≡ false
fails_too m e w is none = ap (λ t. m && (t && w)) (sym is) ∙ none

-- where no bank has one, there is none
pub none_at_all : (access : Access) (log : List Arrived) (banks : ℕ) → All (λ r. bank_number r.place < banks) (all_requests log)
    → ((bank : ℕ) → bank < banks → first_place (asks bank access) log ≡ None) → None ≡ first_place (λ r. is_access access r.access) log
none_at_all access log banks within none =
    let mine = λ (r : Request). is_access access r.access in
    found_none mine log (length log) (omega arith)
    (λ k d sooner exists.
    let x = (get_or log k absent).request in
    let bank = bank_number x.place in
    let test = asks bank access in
    let there = request_at (λ r. bank_number r.place < banks) log k within exists in
    let here = none_before test log (length log) (ap (before (length log)) (none bank there)) k d sooner exists in
    let m = is_marked (get_or (eligible_column log) k 0) in
    here_is mine log k absent d exists
    ∙ fails_too m (eqb bank bank) (mine x) (eq-eqb bank bank refl) (sym (here_is test log k absent d exists) ∙ here))
