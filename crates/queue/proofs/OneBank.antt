-- What a request asks of one bank.
use Rattle.std.proofs.Common.{◌≡◌, ℕ, Bool, true, false, ◌&&◌, eqb, eq-eqb, ◌+◌, ◌*◌, arith, Option, Some, None, refl, sym, ap}
use Rattle.std.proofs.lemmas.Bool.{and_parts, and_from, eqb-true, false≢true}
use Rattle.sim_base.specs.Access.{is_access}
use Rattle.sim_base.specs.declared.message.Access.{Access}
use Rattle.sim_base.specs.declared.message.Access.TheVariants as access
use Rattle.sim_base.specs.Rules.{is_row}
use Rattle.sim_base.specs.declared.message.Request.{Request}
use Rattle.sim_base.proofs.Accesses.{is_access-own}
use Rattle.queue.specs.Columns.{bank_number}
use Rattle.queue.specs.Candidates.{asks, hits, wants, access_number, access_number_of}

-- a request that is wanted is of the bank and the access
pub same_access : (access other : Access) → is_access access other ≡ true → other ≡ access
same_access access.Read access.Read is = refl
same_access access.Write access.Write is = refl
same_access access.Read access.Write is = absurd (false≢true is)
same_access access.Write access.Read is = absurd (false≢true is)

pub wants_access : (bank : ℕ) (access : Access) (row : Option ℕ) (x : Request) → wants bank access row x ≡ true → eqb (access_number_of x) (access_number bank access) ≡ true
wants_access bank access row x is =
    let parts = and_parts (eqb (bank_number x.place) bank) (is_access access x.access) (asked row is) in
    let bank_is : bank_number x.place ≡ bank = eqb-true (bank_number x.place) bank parts.0 in
    let access_is : x.access ≡ access = same_access access x.access parts.1 in
    eq-eqb (access_number_of x) (access_number bank access) (λ i. access_number (bank_is i) (access_is i))
  where
    asked : (row : Option ℕ) → wants bank access row x ≡ true → asks bank access x ≡ true
    asked None is = is
    asked (Some row) is = (and_parts (asks bank access x) (eqb x.place.row row) is).0

pub number_bank : (a b : ℕ) (v w : Access) → access_number a v ≡ access_number b w → a ≡ b
number_bank a b access.Write access.Write same = omega arith
number_bank a b access.Write access.Read same = omega arith
number_bank a b access.Read access.Write same = omega arith
number_bank a b access.Read access.Read same = omega arith

pub number_access : (a b : ℕ) (v w : Access) → access_number a v ≡ access_number b w → v ≡ w
number_access a b access.Write access.Write same = refl
number_access a b access.Write access.Read same = absurd (odd a b same)
  where
    odd : (a b : ℕ) → a * 2 + 1 ≡ b * 2 + 0 → ⊥
    odd a b same = omega arith
number_access a b access.Read access.Write same = absurd (even a b same)
  where
    even : (a b : ℕ) → a * 2 + 0 ≡ b * 2 + 1 → ⊥
    even a b same = omega arith
number_access a b access.Read access.Read same = refl

-- to read a bank and to write to it are two
pub numbers_apart : (bank : ℕ) → access_number bank access.Read ≡ access_number bank access.Write → ⊥
numbers_apart bank same = omega arith

-- a request asks for its own bank, to do what it does
pub asks_own : (r : Request) (bank : ℕ) → bank ≡ bank_number r.place → asks bank r.access r ≡ true
asks_own r bank is =
    let here : eqb (bank_number r.place) bank ≡ true = eq-eqb (bank_number r.place) bank (sym is) in
    and_from (eqb (bank_number r.place) bank) (is_access r.access r.access) here (is_access-own r.access)

pub hits_narrower : (bank : ℕ) (access : Access) (row : Option ℕ) (x : Request) → asks bank access x ≡ false → hits bank access row x ≡ false
hits_narrower bank access row x none = ap (λ b. b && is_row x.place.row row) none

-- a request for a row of a bank asks for the bank
pub wants_narrower : (bank : ℕ) (access : Access) (row : ℕ) (x : Request) → asks bank access x ≡ false → hits bank access (Some row) x ≡ false
wants_narrower bank access row x none = ap (λ b. b && eqb x.place.row row) none

pub never_hits : (bank : ℕ) (access : Access) (x : Request) → hits bank access None x ≡ false
never_hits bank access x = never_and (asks bank access x)
  where
    never_and : (b : Bool) → (b && false) ≡ false
    never_and true = refl
    never_and false = refl
