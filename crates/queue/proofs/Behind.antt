-- A search that goes from each request of a bank and an access to the next.
use Rattle.std.proofs.Common.{◌≡◌, ℕ, ◌+◌, ◌-◌, ◌%◌, ◌<◌, Bool, true, false, eqb, ◌&&◌, List, length, get_or, Option, Some, None, refl, sym, ap, subst, ◌∙◌, arith}
use Rattle.std.proofs.Math.Bool.{and-false}
use Rattle.std.proofs.Math.Nat.{mod-eq_of_lt, mod-lt}
use Rattle.std.proofs.lemmas.Bool.{and_parts, and_from, eqb-true, false≢true}
use Rattle.std.proofs.lemmas.List.{get_or_default, get_or-map, length-map}
use Rattle.sim_base.specs.Access.{is_access}
use Rattle.sim_base.specs.declared.message.Access.TheVariants as access
use Rattle.sim_base.specs.declared.message.Access.{Access}
use Rattle.sim_base.specs.declared.message.Request.{Request}
use Rattle.queue.specs.declared.request_log.Arrived.{Arrived}
use Rattle.queue.specs.Marks.{is_marked}
use Rattle.queue.specs.Log.{absent, eligible_column}
use Rattle.queue.specs.Columns.{bank_number}
use Rattle.queue.specs.Candidates.{HasFewBanks, asks, asks_at, asks_row, wants, first_place}
use Rattle.queue.specs.Chains.{class_of, class_of_all, classes_of, NoneOf, IsNextOf}
use Rattle.queue.specs.Moves.{NonePassesBefore}
use Rattle.queue.proofs.Searches.{tested, none_more, found_here, found_none}
use Rattle.queue.proofs.Chained.{class-at, asks-class, none-wanted}
use Rattle.queue.proofs.OneBank.{asks_own}

-- The search has come to a place: the next request of the class from there on is known, and if the request that it began
-- at is of the bank and the access, none before is wanted.
pub record IsAhead (log : List Arrived) (bank : ℕ) (access : Access) (row : Option ℕ) (place : ℕ) (alike : Option ℕ) : Type 0 where
  pub from : ℕ
  pub next : IsNextOf (classes_of log) (get_or (classes_of log) place 0) from alike
  pub none : asks_at bank access log place ≡ true → NonePassesBefore (wants bank access row) log (place + 1) → NonePassesBefore (wants bank access row) log from

pub many : (log : List Arrived) → length (classes_of log) ≡ length log
many log = length-map log (λ (a : Arrived). class_of a.request)

-- how many requests may still be met
abbrev pub left_to_meet : List Arrived → Option ℕ → ℕ
left_to_meet log None = 0
left_to_meet log (Some k) = length log - k

pub fewer : (log : List Arrived) (class next : ℕ) (alike : Option ℕ) → next < length log → IsNextOf (classes_of log) class (next + 1) alike → left_to_meet log alike < left_to_meet log (Some next)
fewer log class next None l is = omega (arith, l)
fewer log class next (Some k) l is = omega (arith, l, is.since, is.within, many log)

-- the one that is met
pub met : (log : List Arrived) (bank : ℕ) (access : Access) (row : Option ℕ) (place next : ℕ) (alike : Option ℕ) → IsAhead log bank access row place alike → alike ≡ Some next → IsAhead log bank access row place (Some next)
met log bank access row place next alike h is = subst (IsAhead log bank access row place) is h

pub exists : (log : List Arrived) (bank : ℕ) (access : Access) (row : Option ℕ) (place next : ℕ) → IsAhead log bank access row place (Some next) → next < length log
exists log bank access row place next h = omega (arith, h.next.within, many log)

-- none before the one that is met is wanted
before-met : (log : List Arrived) (bank : ℕ) (access : Access) (row : Option ℕ) (place next : ℕ) → place < length log → IsAhead log bank access row place (Some next) → asks_at bank access log place ≡ true
    → NonePassesBefore (wants bank access row) log (place + 1) → NonePassesBefore (wants bank access row) log next
before-met log bank access row place next l h asked fails =
    none-wanted log bank access row h.from next (h.none asked fails)
    (subst (λ class. NoneOf (classes_of log) class h.from next) (class-at log place absent l ∙ asks-class bank access (get_or log place absent).request asked) h.next.none)

banks-same : (a b : ℕ) → a < 64 → b < 64 → a % 64 ≡ b % 64 → a ≡ b
banks-same a b low high same = sym (mod-eq_of_lt low) ∙ same ∙ mod-eq_of_lt high

-- two classes of the first 64 banks are the same only where the banks and the accesses are
same-banks : (a b : ℕ) (v w : Access) → a < 64 → b < 64 → class_of_all a v ≡ class_of_all b w → (a ≡ b) × (v ≡ w)
same-banks a b access.Read access.Read low high same = (banks-same a b low high (omega (arith, same)), refl)
same-banks a b access.Write access.Write low high same = (banks-same a b low high (omega (arith, same)), refl)
same-banks a b access.Read access.Write low high same = let small : a % 64 < 64 = mod-lt a (omega arith) in absurd (omega (arith, same, small))
same-banks a b access.Write access.Read low high same = let small : b % 64 < 64 = mod-lt b (omega arith) in absurd (omega (arith, same, small))

-- a request of the class of a bank below 64 and an access asks for them, where its own bank is below 64
asks-of-class : (bank : ℕ) (access : Access) (r : Request) → bank < 64 → bank_number r.place < 64 → class_of r ≡ class_of_all bank access → asks bank access r ≡ true
asks-of-class bank access r low own same =
    let is = same-banks (bank_number r.place) bank r.access access own low same in
    ap (λ a. asks bank a r) (sym is.1) ∙ asks_own r bank (sym is.0)

-- where a request asks for the bank and the access, it is wanted if it asks for the row
wanted-row : (bank : ℕ) (access : Access) (row : Option ℕ) (r : Request) → asks bank access r ≡ true → asks_row row r ≡ true → wants bank access row r ≡ true
wanted-row bank access None r asked here = asked
wanted-row bank access (Some row) r asked here = and_from (asks bank access r) (eqb r.place.row row) asked here

unwanted-row : (bank : ℕ) (access : Access) (row : Option ℕ) (r : Request) → asks_row row r ≡ false → wants bank access row r ≡ false
unwanted-row bank access None r other = absurd (false≢true (sym other))
unwanted-row bank access (Some row) r other = ap (λ b. asks bank access r && b) other ∙ and-false (asks bank access r)

-- the bank that the request at a place asks for is below 64
few-at : (log : List Arrived) (place : ℕ) → place < length log → HasFewBanks log → bank_number (get_or log place absent).request.place < 64
few-at log place within few =
    subst (λ (x : Request). bank_number x.place < 64) (get_or-map (λ (a : Arrived). a.request) log place absent absent.request within)
    (few place absent.request (omega (arith, within, length-map log (λ (a : Arrived). a.request))))

-- the one that is met asks for the bank and the access
asks-met : (log : List Arrived) (bank : ℕ) (access : Access) (row : Option ℕ) (place next : ℕ) → place < length log → IsAhead log bank access row place (Some next) → HasFewBanks log → asks_at bank access log place ≡ true
    → asks bank access (get_or log next absent).request ≡ true
asks-met log bank access row place next l h few asked =
    let within = exists log bank access row place next h in
    let r = (get_or log place absent).request in
    let bank_is : bank_number r.place ≡ bank = eqb-true (bank_number r.place) bank (and_parts (eqb (bank_number r.place) bank) (is_access access r.access) asked).0 in
    asks-of-class bank access (get_or log next absent).request (subst (λ n. n < 64) bank_is (few-at log place l few)) (few-at log next within few)
    (sym (class-at log next absent within) ∙ h.next.same ∙ class-at log place absent l ∙ asks-class bank access r asked)

-- the request that is read is the one at the place
read-at : (log xs : List Arrived) (next : ℕ) (e : Arrived) → next < length log → xs ≡ log → get_or xs next e ≡ get_or log next absent
read-at log xs next e within same = ap (λ (ys : List Arrived). get_or ys next e) same ∙ get_or_default log next e absent within

pub found-met : (log xs : List Arrived) (bank : ℕ) (access : Access) (row : Option ℕ) (place next : ℕ) (e : Arrived) (eligible here : Bool) → place < length log → IsAhead log bank access row place (Some next)
    → xs ≡ log → eligible ≡ is_marked (get_or (eligible_column log) next 0) → here ≡ asks_row row (get_or xs next e).request → eligible ≡ true → here ≡ true
    → HasFewBanks log → asks_at bank access log place ≡ true → NonePassesBefore (wants bank access row) log (place + 1) → Some next ≡ first_place (wants bank access row) log
found-met log xs bank access row place next e eligible here l h same marked is may also few asked fails =
    let within = exists log bank access row place next h in
    let r = (get_or log next absent).request in
    let wanted : wants bank access row r ≡ true =
    wanted-row bank access row r (asks-met log bank access row place next l h few asked) (ap (λ (a : Arrived). asks_row row a.request) (sym (read-at log xs next e within same)) ∙ sym is ∙ also) in
    found_here (wants bank access row) log next within (before-met log bank access row place next l h asked fails)
    (λ d. tested (wants bank access row) log log next absent (wants bank access row r) d within refl refl ∙ (λ i. (sym marked ∙ may) i && wanted i))

-- a request that is read and asks for another row is not wanted
pub other-row : (log xs : List Arrived) (bank : ℕ) (access : Access) (row : Option ℕ) (next : ℕ) (e : Arrived) (here : Bool) → next < length log → xs ≡ log → here ≡ asks_row row (get_or xs next e).request → here ≡ false
    → wants bank access row (get_or log next absent).request ≡ false
other-row log xs bank access row next e here within same is other =
    unwanted-row bank access row (get_or log next absent).request (ap (λ (a : Arrived). asks_row row a.request) (sym (read-at log xs next e within same)) ∙ sym is ∙ other)

-- the search goes on behind the one that is met
pub passed : (log : List Arrived) (bank : ℕ) (access : Access) (row : Option ℕ) (place next : ℕ) (alike : Option ℕ) → place < length log → IsAhead log bank access row place (Some next)
    → IsNextOf (classes_of log) (get_or (classes_of log) next 0) (next + 1) alike
    → ((is_marked (get_or (eligible_column log) next 0) && wants bank access row (get_or log next absent).request) ≡ false) → IsAhead log bank access row place alike
passed log bank access row place next alike l h after other =
    record {
      from = next + 1;
      next = subst (λ class. IsNextOf (classes_of log) class (next + 1) alike) h.next.same after;
      none = λ asked fails.
          none_more (wants bank access row) log next (before-met log bank access row place next l h asked fails)
          (λ d within. tested (wants bank access row) log log next absent (wants bank access row (get_or log next absent).request) d within refl refl ∙ other);
    }

-- none is left
pub none-met : (log : List Arrived) (bank : ℕ) (access : Access) (row : Option ℕ) (place : ℕ) (alike : Option ℕ) → place < length log → IsAhead log bank access row place alike → alike ≡ None
    → asks_at bank access log place ≡ true → NonePassesBefore (wants bank access row) log (place + 1) → None ≡ first_place (wants bank access row) log
none-met log bank access row place alike l ahead is asked fails =
    let h : IsAhead log bank access row place None = subst (IsAhead log bank access row place) is ahead in
    let none : NoneOf (classes_of log) (class_of_all bank access) h.from (length log) =
    subst (NoneOf (classes_of log) (class_of_all bank access) h.from) (many log)
    (subst (λ class. NoneOf (classes_of log) class h.from (length (classes_of log))) (class-at log place absent l ∙ asks-class bank access (get_or log place absent).request asked) h.next) in
    found_none (wants bank access row) log (length log) (omega arith) (none-wanted log bank access row h.from (length log) (h.none asked fails) none)
