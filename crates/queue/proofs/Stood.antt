-- What the candidates of all banks stand for, when those of one bank change.
use Rattle.std.proofs.Common.{◌≡◌, ◌≢◌, ℕ, ◌+◌, ◌*◌, ◌/◌, ◌^◌, ◌<◌, ◌≤◌, Bool, true, false, cond, ◌&&◌, eqb, ltb, List, [], ◌∷◌, ◌++◌, length, map, get_or, set, take, drop, replicate, Option, Some, None, refl, sym, ap, subst, ◌∙◌, inl, inr, arith, get_or-set_same, get_or-set_other}
use Rattle.std.proofs.lemmas.Bool.{cases_lt, cases_eq, eq-eqb, ne_eqb, cond-true, cond-false, lt-ltb, le-ltb, and_from, eqb-true, false_from_ne_true}
use Rattle.std.proofs.lemmas.List.{get_or-replicate, get_or_past, length-replicate, length-set, length-take-le, map-append, get_or_at}
use Rattle.std.proofs.lemmas.List.Elements.{All-push}
use Rattle.std.specs.List.{All, position, zip}
use Rattle.std.proofs.Math.Bool.{and-false}
use Rattle.sim_base.specs.declared.message.Access.{Access}
use Rattle.sim_base.specs.declared.message.Access.TheVariants as access
use Rattle.sim_base.specs.Rules.{is_row}
use Rattle.sim_base.specs.Scheduling.{asks_for_line, or_else}
use Rattle.sim_base.specs.declared.message.Request.{Request}
use Rattle.queue.specs.declared.request_log.Arrived.{Arrived}
use Rattle.queue.specs.Marks.{is_marked}
use Rattle.sim_base.specs.Counts.{one_if}
use Rattle.queue.specs.Log.{absent, waiting, all_requests, waiting_requests, eligible_column, activated_at}
use Rattle.queue.specs.Columns.{bank_number}
use Rattle.queue.proofs.Activated.{all_activated, waiting_activated, eligible_activated}
use Rattle.queue.proofs.Eligible.{asked_with, marks_after, length-eligible}
use Rattle.queue.proofs.Places.{around, all_served}
use Rattle.queue.proofs.Renumbered.{waiting_twice}
use Rattle.queue.proofs.Waiting.{waiting_append, waiting_one}
use Rattle.queue.specs.declared.bank_candidates.all_banks.BankCandidates.{BankCandidates}
use Rattle.queue.specs.Candidates.{asks, hits, passes, first_place, AreFirst, AreCandidates, RowsFit, access_number, access_number_of}
use Rattle.sim_base.specs.Earlier.{earlier}
use Rattle.queue.specs.Served.{IsServed, AreFirstWith}
use Rattle.queue.specs.Words.{candidate_in, access_in}
use Rattle.queue.specs.Sets.{is_in}
use Rattle.queue.specs.declared.bank_candidates.sets.BankSet.{BankSet}
use Rattle.std.specs.Option.{is_some}
use Rattle.queue.specs.Stands.{bank_count, candidates_of_bank, StandsFor, StandsUpTo, with_row, closed_in}
use Rattle.queue.proofs.BankCandidatesCounted.{AreCounted}
use Rattle.queue.proofs.MarkedRequests.{eligible_append}
use Rattle.queue.proofs.Joined.{may_follow, access_kept, access_joined}
use Rattle.queue.proofs.OneBank.{asks_own, wants_access, number_bank, number_access}
use Rattle.queue.proofs.BankCandidatesServed.{earlier_none, other_candidate}
use Rattle.queue.proofs.Waits.{all_waiting}
use Rattle.queue.proofs.Served.{marked_mark}

-- What candidates stand for, of their parts.
pub record AreStanding (rows : List (Option ℕ)) (words : List ℕ) (log : List Arrived) (open_rows : ℕ → Option ℕ) : Type 0 where
  pub within : All (λ r. bank_number r.place < length rows) (all_requests log)
  pub fit : RowsFit (all_requests log)
  pub opened : (bank : ℕ) → bank < length rows → get_or rows bank None ≡ open_rows bank
  pub first : (bank : ℕ) (access : Access) → bank < length rows → AreFirst log bank access (open_rows bank) (access_in words (access_number bank access))

pub to_parts : (candidates : BankCandidates) (log : List Arrived) (open_rows : ℕ → Option ℕ) → StandsFor candidates log open_rows
    → AreStanding candidates.rows.items candidates.candidate_words.words.items log open_rows
to_parts candidates log open_rows stands =
    record {
      within = stands.within;
      fit = stands.rows_fit;
      opened = stands.rows_are;
      first = λ bank access exists.
          subst (λ row. AreFirst log bank access row (access_in candidates.candidate_words.words.items (access_number bank access))) (stands.rows_are bank exists)
          (of_access bank access exists (stands.candidates_are bank exists));
    }
  where
    of_access : (bank : ℕ) (access : Access) → bank < bank_count candidates
        → AreCandidates log bank (candidates_of_bank candidates bank)
        → AreFirst log bank access (get_or candidates.rows.items bank None) (access_in candidates.candidate_words.words.items (access_number bank access))
    of_access bank access.Write exists are = are.writes_are
    of_access bank access.Read exists are = are.reads_are

pub from_parts : (candidates : BankCandidates) (log : List Arrived) (open_rows : ℕ → Option ℕ)
    → AreStanding candidates.rows.items candidates.candidate_words.words.items log open_rows
    → AreCounted candidates.counts.items (waiting_requests log) → StandsFor candidates log open_rows
from_parts candidates log open_rows parts counted =
    let first : (bank : ℕ) (access : Access) → bank < bank_count candidates
    → AreFirst log bank access (get_or candidates.rows.items bank None) (access_in candidates.candidate_words.words.items (access_number bank access)) =
    λ bank access exists. subst (λ row. AreFirst log bank access row (access_in candidates.candidate_words.words.items (access_number bank access))) (sym (parts.opened bank exists)) (parts.first bank access exists) in
    record {
      within = parts.within;
      rows_fit = parts.fit;
      rows_are = parts.opened;
      candidates_are = λ bank exists. record { reads_are = first bank access.Read exists; writes_are = first bank access.Write exists };
      counts_are = counted;
    }

-- what holds of all requests, with one more
all_push : (P : Request → Type 0) (older : List Arrived) (a : Arrived) → All P (all_requests older) → P a.request → All P (all_requests (older ++ a ∷ []))
all_push P older a all here = subst (All P) (sym (map-append (λ (x : Arrived). x.request) older (a ∷ []))) (All-push P (all_requests older) a.request all here)

-- a request asks for no other bank and access than its own
asks_own_access : (r : Request) (bank : ℕ) (access : Access) → (access_number bank access ≡ access_number_of r → ⊥) → asks bank access r ≡ false
asks_own_access r bank access apart = false_from_ne_true (asks bank access r) (λ is. apart (sym (eqb-true (access_number_of r) (access_number bank access) (wants_access bank access None r is))))

-- a request more, which may be served
pub joined_stand : (rows : List (Option ℕ)) (old new : List ℕ) (older : List Arrived) (a : Arrived) (open_rows : ℕ → Option ℕ) (place : ℕ) (hit : Bool)
    → place ≡ length older → bank_number a.request.place < length rows → a.request.place.row < 2 ^ 32 → may_follow older a ≡ true
    → hit ≡ is_row a.request.place.row (get_or rows (bank_number a.request.place) None)
    → candidate_in new (access_number_of a.request) false ≡ or_else (candidate_in old (access_number_of a.request) false) (Some place)
    → candidate_in new (access_number_of a.request) true ≡ cond hit (or_else (candidate_in old (access_number_of a.request) true) (Some place)) (candidate_in old (access_number_of a.request) true)
    → ((number : ℕ) → (number ≡ access_number_of a.request → ⊥) → access_in new number ≡ access_in old number) → AreStanding rows old older open_rows → AreStanding rows new (older ++ a ∷ []) open_rows
joined_stand rows old new older a open_rows place hit long exists short follows hit_is oldest_joined hit_joined others stands =
    let r = a.request in
    let own = bank_number r.place in
    record {
      within = all_push (λ (x : Request). bank_number x.place < length rows) older a stands.within exists;
      fit = all_push (λ (x : Request). x.place.row < 2 ^ 32) older a stands.fit short;
      opened = stands.opened;
      first = λ bank access there. elim (cases_eq (access_number bank access) (access_number_of r)) [
        | inl same ↦
            let bank_is : own ≡ bank = sym (number_bank bank own access r.access same) in
            let access_is : r.access ≡ access = number_access own bank r.access access (sym same) in
            let here : AreFirst (older ++ a ∷ []) own r.access (open_rows own) (access_in new (access_number_of r)) =
            access_joined older a own place r.access (open_rows own) hit (access_in old (access_number_of r)) (access_in new (access_number_of r)) long follows (asks_own r own refl)
            (hit_is ∙ ap (is_row r.place.row) (stands.opened own exists)) oldest_joined hit_joined (stands.first own r.access exists) in
            subst (λ b. AreFirst (older ++ a ∷ []) b access (open_rows b) (access_in new (access_number b access))) bank_is
            (subst (λ w. AreFirst (older ++ a ∷ []) own w (open_rows own) (access_in new (access_number own w))) access_is here)
        | inr apart ↦
            subst (AreFirst (older ++ a ∷ []) bank access (open_rows bank)) (sym (others (access_number bank access) apart))
            (access_kept older a bank access (open_rows bank) (access_in old (access_number bank access))
            (ap (λ b. may_follow older a && b) (asks_own_access r bank access apart) ∙ and-false (may_follow older a)) (stands.first bank access there))
      ];
    }

-- the candidates, with a request more that is blocked by an older one of its line
pub unjoined_stand : (rows : List (Option ℕ)) (words : List ℕ) (older : List Arrived) (a : Arrived) (open_rows : ℕ → Option ℕ)
    → bank_number a.request.place < length rows → a.request.place.row < 2 ^ 32 → may_follow older a ≡ false → AreStanding rows words older open_rows
    → AreStanding rows words (older ++ a ∷ []) open_rows
unjoined_stand rows words older a open_rows exists short blocked stands = record {
  within = all_push (λ (x : Request). bank_number x.place < length rows) older a stands.within exists;
  fit = all_push (λ (x : Request). x.place.row < 2 ^ 32) older a stands.fit short;
  opened = stands.opened;
  first = λ bank access there.
      access_kept older a bank access (open_rows bank) (access_in words (access_number bank access)) (ap (λ b. b && asks bank access a.request) blocked) (stands.first bank access there);
}

-- the requests that wait, with one more
pub waiting_push : (older : List Arrived) (a : Arrived) → a.waits ≡ true → waiting_requests (older ++ a ∷ []) ≡ waiting_requests older ++ a.request ∷ []
waiting_push older a waits = waiting_append older (a ∷ []) ∙ ap (λ rs. waiting_requests older ++ rs) (waiting_one a ∙ ap (λ b. cond b (a.request ∷ []) []) waits)

pub mark_read : (log : List Arrived) (place : ℕ) → place < length log → is_marked (get_or (eligible_column log) place 0) ≡ may_follow (take place log) (get_or log place absent)
mark_read log place exists =
    let older = take place log in
    let a = get_or log place absent in
    let later = drop (place + 1) log in
    let long : length older ≡ place = length-take-le place log (omega arith) in
    ap (λ xs. is_marked (get_or (eligible_column xs) place 0)) (around log place absent exists)
    ∙ ap (λ ms. is_marked (get_or ms place 0)) (eligible_append older (a ∷ later))
    ∙ ap is_marked (get_or_at (eligible_column older) (one_if (may_follow older a)) (marks_after (asked_with (λ p. asks_for_line p (waiting_requests older)) a) later) 0 place (length-eligible older ∙ long))
    ∙ marked_mark (may_follow older a)

-- where one request was served, and the candidates of its access have left it
pub left_stand : (candidates : BankCandidates) (old : List ℕ) (was log : List Arrived) (place : ℕ) (unblocked : Option ℕ) (open_rows : ℕ → Option ℕ) → IsServed was place unblocked log
    → (let r = (get_or was place absent).request in
    AreFirstWith log (bank_number r.place) r.access (open_rows (bank_number r.place)) unblocked (access_in candidates.candidate_words.words.items (access_number_of r)))
    → ((number : ℕ) → (number ≡ access_number_of (get_or was place absent).request → ⊥) → access_in candidates.candidate_words.words.items number ≡ access_in old number)
    → AreStanding candidates.rows.items old was open_rows → AreCounted candidates.counts.items (waiting_requests log) → StandsUpTo candidates log unblocked open_rows
left_stand candidates old was log place unblocked open_rows served own others stands counted =
    let r = (get_or was place absent).request in
    let number = bank_number r.place in
    let words = candidates.candidate_words.words.items in
    let all : all_requests log ≡ all_requests was = ap all_requests served.log_is ∙ all_served was place in
    let kept : (bank : ℕ) (access : Access) → (access_number bank access ≡ access_number_of r → ⊥) → AreFirst was bank access (open_rows bank) (access_in old (access_number bank access))
    → AreFirstWith log bank access (open_rows bank) unblocked (access_in old (access_number bank access)) =
    λ bank access apart first.
    let fails = asks_own_access r bank access apart in
    record {
      oldest_is = other_candidate (asks bank access) was log place unblocked _ served fails first.oldest_is;
      hit_is = other_candidate (hits bank access (open_rows bank)) was log place unblocked _ served (ap (λ b. b && is_row r.place.row (open_rows bank)) fails) first.hit_is;
    } in
    record {
      within = subst (All (λ (x : Request). bank_number x.place < bank_count candidates)) (sym all) stands.within;
      rows_fit = subst RowsFit (sym all) stands.fit;
      rows_are = stands.opened;
      candidates_are = λ bank access exists. elim (cases_eq (access_number bank access) (access_number_of r)) [
        | inl same ↦
            let bank_is : number ≡ bank = sym (number_bank bank number access r.access same) in
            let access_is : r.access ≡ access = number_access number bank r.access access (sym same) in
            subst (λ b. AreFirstWith log b access (open_rows b) unblocked (access_in words (access_number b access))) bank_is
            (subst (λ w. AreFirstWith log number w (open_rows number) unblocked (access_in words (access_number number w))) access_is own)
        | inr apart ↦
            subst (AreFirstWith log bank access (open_rows bank) unblocked) (sym (others (access_number bank access) apart)) (kept bank access apart (stands.first bank access exists))
      ];
      counts_are = counted;
    }

-- where no request may be served since then
pub none_unblocked : (candidates : BankCandidates) (log : List Arrived) (open_rows : ℕ → Option ℕ) → StandsUpTo candidates log None open_rows → StandsFor candidates log open_rows
none_unblocked candidates log open_rows stands = from_parts candidates log open_rows (record {
  within = stands.within;
  fit = stands.rows_fit;
  opened = stands.rows_are;
  first = λ bank access exists.
      let first = stands.candidates_are bank access exists in
      record { oldest_is = sym (earlier_none _) ∙ first.oldest_is; hit_is = sym (earlier_none _) ∙ first.hit_is };
}) stands.counts_are

-- where the candidates take in the one that may be
pub unblocked_stand : (old new : List ℕ) (candidates : BankCandidates) (log : List Arrived) (next : ℕ) (open_rows : ℕ → Option ℕ) (hit : Bool)
    → bank_number (get_or log next absent).request.place < bank_count candidates
    → hit ≡ is_row (get_or log next absent).request.place.row (get_or candidates.rows.items (bank_number (get_or log next absent).request.place) None)
    → (let number = access_number_of (get_or log next absent).request in candidate_in new number false ≡ earlier (candidate_in old number false) (Some next))
    → (let number = access_number_of (get_or log next absent).request in candidate_in new number true ≡ earlier (candidate_in old number true) (cond hit (Some next) None))
    → ((number : ℕ) → (number ≡ access_number_of (get_or log next absent).request → ⊥) → access_in new number ≡ access_in old number)
    → old ≡ candidates.candidate_words.words.items → StandsUpTo candidates log (Some next) open_rows → AreStanding candidates.rows.items new log open_rows
unblocked_stand old new candidates log next open_rows hit exists hit_is oldest_taken hit_taken others same_words stands =
    let r = (get_or log next absent).request in
    let own = bank_number r.place in
    let before : (bank : ℕ) (access : Access) → bank < bank_count candidates → AreFirstWith log bank access (open_rows bank) (Some next) (access_in old (access_number bank access)) =
    λ bank access there. subst (λ ws. AreFirstWith log bank access (open_rows bank) (Some next) (access_in ws (access_number bank access))) (sym same_words) (stands.candidates_are bank access there) in
    let asked : asks own r.access r ≡ true = asks_own r own refl in
    let wanted : hits own r.access (open_rows own) r ≡ hit = ap (λ b. b && is_row r.place.row (open_rows own)) asked ∙ ap (is_row r.place.row) (sym (stands.rows_are own exists)) ∙ sym hit_is in
    let first = before own r.access exists in
    let taken : AreFirst log own r.access (open_rows own) (access_in new (access_number_of r)) = record {
      oldest_is = oldest_taken ∙ ap (λ b. earlier (candidate_in old (access_number_of r) false) (cond b (Some next) None)) (sym asked) ∙ first.oldest_is;
      hit_is = hit_taken ∙ ap (λ b. earlier (candidate_in old (access_number_of r) true) (cond b (Some next) None)) (sym wanted) ∙ first.hit_is;
    } in
    record {
      within = stands.within;
      fit = stands.rows_fit;
      opened = stands.rows_are;
      first = λ bank access there. elim (cases_eq (access_number bank access) (access_number_of r)) [
        | inl same ↦
            let bank_is : own ≡ bank = sym (number_bank bank own access r.access same) in
            let access_is : r.access ≡ access = number_access own bank r.access access (sym same) in
            subst (λ b. AreFirst log b access (open_rows b) (access_in new (access_number b access))) bank_is
            (subst (λ w. AreFirst log own w (open_rows own) (access_in new (access_number own w))) access_is taken)
        | inr apart ↦
            let fails = asks_own_access r bank access apart in
            let kept = before bank access there in
            subst (AreFirst log bank access (open_rows bank)) (sym (others (access_number bank access) apart))
            (record {
              oldest_is = sym (ap (λ b. earlier (candidate_in old (access_number bank access) false) (cond b (Some next) None)) fails ∙ earlier_none _) ∙ kept.oldest_is;
              hit_is =
                  sym (ap (λ b. earlier (candidate_in old (access_number bank access) true) (cond (b && is_row r.place.row (open_rows bank)) (Some next) None)) fails ∙ earlier_none _)
                  ∙ kept.hit_is;
            })
      ];
    }

-- where all candidates were looked for among those that wait
pub renewed_stand : (rows : List (Option ℕ)) (old new : List ℕ) (was log : List Arrived) (open_rows : ℕ → Option ℕ) → log ≡ waiting was
    → ((bank : ℕ) (access : Access) → bank < length rows → AreFirst log bank access (get_or rows bank None) (access_in new (access_number bank access)))
    → AreStanding rows old was open_rows → AreStanding rows new log open_rows
renewed_stand rows old new was log open_rows log_is first stands = record {
  within = subst (λ xs. All (λ (x : Request). bank_number x.place < length rows) (all_requests xs)) (sym log_is) (all_waiting (λ (x : Request). bank_number x.place < length rows) was stands.within);
  fit = subst (λ xs. RowsFit (all_requests xs)) (sym log_is) (all_waiting (λ (x : Request). x.place.row < 2 ^ 32) was stands.fit);
  opened = stands.opened;
  first = λ bank access exists. subst (λ o. AreFirst log bank access o (access_in new (access_number bank access))) (stands.opened bank exists) (first bank access exists);
}

pub counted_waiting : (counts : List ℕ) (was log : List Arrived) → log ≡ waiting was → AreCounted counts (waiting_requests was) → AreCounted counts (waiting_requests log)
counted_waiting counts was log log_is counted = subst (AreCounted counts) (sym (ap waiting_requests log_is ∙ ap (map (λ (a : Arrived). a.request)) (waiting_twice was))) counted

-- an ACT in the name of a request changes nothing
pub activated_stand : (candidates : BankCandidates) (log : List Arrived) (place : ℕ) (open_rows : ℕ → Option ℕ) → StandsFor candidates log open_rows → StandsFor candidates (activated_at log place) open_rows
activated_stand candidates log place open_rows stands =
    let same : (test : Request → Bool) → first_place test log ≡ first_place test (activated_at log place) =
    λ test. sym (λ i. position (passes test) (zip (all_activated log place i) (eligible_activated log place i))) in
    let parts = to_parts candidates log open_rows stands in
    from_parts candidates (activated_at log place) open_rows (record {
      within = subst (All (λ (x : Request). bank_number x.place < bank_count candidates)) (sym (all_activated log place)) parts.within;
      fit = subst RowsFit (sym (all_activated log place)) parts.fit;
      opened = parts.opened;
      first = λ bank access exists.
          let first = parts.first bank access exists in
          record { oldest_is = first.oldest_is ∙ same (asks bank access); hit_is = first.hit_is ∙ same (hits bank access (open_rows bank)) };
    }) (subst (AreCounted candidates.counts.items) (sym (waiting_activated log place)) stands.counts_are)

-- the candidates, once the row of one bank is opened or closed
pub row_stand : (rows : List (Option ℕ)) (old new : List ℕ) (log : List Arrived) (open_rows : ℕ → Option ℕ) (number : ℕ) (row : Option ℕ) → number < length rows
    → ((access : Access) → AreFirst log number access row (access_in new (access_number number access)))
    → ((other : ℕ) (access : Access) → (other ≡ number → ⊥) → access_in new (access_number other access) ≡ access_in old (access_number other access))
    → AreStanding rows old log open_rows → AreStanding (set rows number row) new log (with_row number row open_rows)
row_stand rows old new log open_rows number row exists own others stands =
    let long : length (set rows number row) ≡ length rows = length-set rows number row in
    let here : with_row number row open_rows number ≡ row = cond-true (eqb number number) row (open_rows number) (eq-eqb number number refl) in
    let there : (bank : ℕ) → (bank ≡ number → ⊥) → with_row number row open_rows bank ≡ open_rows bank = λ bank apart. cond-false (eqb bank number) row (open_rows bank) (ne_eqb bank number apart) in
    record {
      within = subst (λ n. All (λ (x : Request). bank_number x.place < n) (all_requests log)) (sym long) stands.within;
      fit = stands.fit;
      opened = λ bank within. elim (cases_eq bank number) [
        | inl same ↦ subst (λ b. get_or (set rows number row) b None ≡ with_row number row open_rows b) (sym same) (get_or-set_same rows number row None exists ∙ sym here)
        | inr apart ↦ get_or-set_other rows number bank row None apart ∙ stands.opened bank (omega (arith, long)) ∙ sym (there bank apart)
      ];
      first = λ bank access within. elim (cases_eq bank number) [
        | inl same ↦
            subst (λ b. AreFirst log b access (with_row number row open_rows b) (access_in new (access_number b access))) (sym same)
            (subst (λ o. AreFirst log number access o (access_in new (access_number number access))) (sym here) (own access))
        | inr apart ↦
            subst (λ o. AreFirst log bank access o (access_in new (access_number bank access))) (sym (there bank apart))
            (subst (AreFirst log bank access (open_rows bank)) (sym (others bank access apart)) (stands.first bank access (omega (arith, long))))
      ];
    }

-- the rows that are open where the ranks' banks below a number are closed
pub same_rows : (candidates : BankCandidates) (log : List Arrived) (a b : ℕ → Option ℕ) → StandsFor candidates log a → ((bank : ℕ) → bank < bank_count candidates → a bank ≡ b bank)
    → StandsFor candidates log b
same_rows candidates log a b stands same = record {
  within = stands.within;
  rows_fit = stands.rows_fit;
  counts_are = stands.counts_are;
  rows_are = λ bank exists. stands.rows_are bank exists ∙ same bank exists;
  candidates_are = stands.candidates_are;
}

-- the rows that are open where those banks of a rank are closed that stand before a number
abbrev pub closed_before : ℕ → ℕ → (ℕ → Option ℕ) → ℕ → Option ℕ
closed_before number rank open_rows bank = cond (ltb bank number && eqb (bank / 16) rank) None (open_rows bank)

ltb_more : (a n : ℕ) → (a ≡ n → ⊥) → ltb a n ≡ ltb a (n + 1)
ltb_more a n apart = elim (cases_lt a n) [
  | inl below ↦ lt-ltb a n below ∙ sym (lt-ltb a (n + 1) (omega arith))
  | inr over ↦ le-ltb a n over ∙ sym (le-ltb a (n + 1) (beyond over))
]
  where
    beyond : n ≤ a → n + 1 ≤ a
    beyond over = elim (cases_lt n a) [
      | inl less ↦ omega arith
      | inr more ↦ absurd (apart (omega arith))
    ]

pub closed_more : (number rank : ℕ) (open_rows : ℕ → Option ℕ) → eqb (number / 16) rank ≡ true → (bank : ℕ)
    → with_row number None (closed_before number rank open_rows) bank ≡ closed_before (number + 1) rank open_rows bank
closed_more number rank open_rows in_rank bank = elim (cases_eq bank number) [
  | inl same ↦
      cond-true (eqb bank number) None (closed_before number rank open_rows bank) (eq-eqb bank number same)
      ∙ sym (cond-true (ltb bank (number + 1) && eqb (bank / 16) rank) None (open_rows bank)
      (and_from (ltb bank (number + 1)) (eqb (bank / 16) rank) (lt-ltb bank (number + 1) (omega arith)) (ap (λ n. eqb (n / 16) rank) same ∙ in_rank)))
  | inr apart ↦
      cond-false (eqb bank number) None (closed_before number rank open_rows bank) (ne_eqb bank number apart)
      ∙ ap (λ b. cond (b && eqb (bank / 16) rank) None (open_rows bank)) (ltb_more bank number apart)
]

pub closed_same : (number rank : ℕ) (open_rows : ℕ → Option ℕ) → eqb (number / 16) rank ≡ false → (bank : ℕ)
    → closed_before number rank open_rows bank ≡ closed_before (number + 1) rank open_rows bank
closed_same number rank open_rows apart_rank bank = elim (cases_eq bank number) [
  | inl same ↦
      let none : eqb (bank / 16) rank ≡ false = ap (λ n. eqb (n / 16) rank) same ∙ apart_rank in
      ap (λ b. cond (ltb bank number && b) None (open_rows bank)) none
      ∙ ap (λ b. cond b None (open_rows bank)) (and-false (ltb bank number) ∙ sym (and-false (ltb bank (number + 1))))
      ∙ ap (λ b. cond (ltb bank (number + 1) && b) None (open_rows bank)) (sym none)
  | inr apart ↦ ap (λ b. cond (b && eqb (bank / 16) rank) None (open_rows bank)) (ltb_more bank number apart)
]

pub closed_none : (rank : ℕ) (open_rows : ℕ → Option ℕ) (bank : ℕ) → open_rows bank ≡ closed_before 0 rank open_rows bank
closed_none rank open_rows bank = ap (λ b. cond (b && eqb (bank / 16) rank) None (open_rows bank)) (sym (le-ltb bank 0 (omega arith)))

pub closed_all : (number rank : ℕ) (open_rows : ℕ → Option ℕ) (bank : ℕ) → bank < number → closed_before number rank open_rows bank ≡ closed_in rank open_rows bank
closed_all number rank open_rows bank below = ap (λ b. cond (b && eqb (bank / 16) rank) None (open_rows bank)) (lt-ltb bank number below)

-- no row is open where all banks are closed
pub none_open : (rows : List (Option ℕ)) (banks bank : ℕ) → rows ≡ replicate banks None → get_or rows bank None ≡ None
none_open rows banks bank closed = elim (cases_lt bank (length rows)) [
  | inl within ↦ ap (λ xs. get_or xs bank None) closed ∙ get_or-replicate banks bank None None (omega (arith, ap length closed, length-replicate banks (let none : Option ℕ = None in none)))
  | inr beyond ↦ get_or_past rows bank None beyond
]

-- candidates of closed banks and of no request
pub first_stand : (candidates : BankCandidates) (banks : ℕ) → candidates.rows.items ≡ replicate banks None → candidates.counts.items ≡ replicate (2 * banks) 0
    → ((number : ℕ) (hit : Bool) → candidate_in candidates.candidate_words.words.items number hit ≡ None) → StandsFor candidates [] (λ bank. None)
unfolding waiting
first_stand candidates banks closed counts none = from_parts candidates [] (λ bank. None) (record {
  within = λ k d there. absurd (omega arith);
  fit = λ k d there. absurd (omega arith);
  opened = λ bank exists. none_open candidates.rows.items banks bank closed;
  first = λ bank access exists. record { oldest_is = none (access_number bank access) false; hit_is = none (access_number bank access) true };
}) (λ number exists. ap (λ xs. get_or xs number 0) counts ∙ get_or-replicate (2 * banks) number 0 0 (omega (arith, ap length counts, length-replicate {A = ℕ} (2 * banks) 0)))

-- the banks in which a row is open, once that of one is another
pub opened_are : (rows : List (Option ℕ)) (old new : BankSet) (number : ℕ) (row : Option ℕ) → number < length rows → ((k : ℕ) → is_in old k ≡ is_some (get_or rows k None))
    → is_in new number ≡ is_some row → ((k : ℕ) → k ≢ number → is_in new k ≡ is_in old k) → (k : ℕ) → is_in new k ≡ is_some (get_or (set rows number row) k None)
opened_are rows old new number row exists were same others k = elim (cases_eq k number) [
  | inl here ↦ ap (is_in new) here ∙ same ∙ ap is_some (sym (ap (λ n. get_or (set rows number row) n None) here ∙ get_or-set_same rows number row None exists))
  | inr apart ↦ others k apart ∙ were k ∙ ap is_some (sym (get_or-set_other rows number k row None apart))
]
