-- What requests and ranks need, and when it is legal.
use Rattle.std.proofs.Common.{◌≡◌, ℕ, ◌<◌, ◌≤◌, Bool, true, false, not, cond, ◌&&◌, eqb, leb, List, Option, Some, None, refl, sym, ap, ◌∙◌, inl, inr, arith}
use Rattle.std.proofs.lemmas.Bool.{cases_Bool, eqb-true, and_parts, leb-true, leb-false, false_from_ne_true, false≢true, cond-true}
use Rattle.std.specs.List.{list_any}
use Rattle.std.specs.Option.{is_some, option_and_then}
use Rattle.std.proofs.Math.Bool.{and-false, and-true}
use Rattle.sim_base.specs.declared.config.Config.{Config}
use Rattle.sim_base.specs.declared.command.Command.{Command}
use Rattle.sim_base.specs.declared.command.Command.TheVariants.{Pre}
use Rattle.sim_base.specs.declared.command.IssuedCommand.{IssuedCommand}
use Rattle.sim_base.specs.declared.message.Access.{Access}
use Rattle.sim_base.specs.declared.message.Access.TheVariants as access
use Rattle.sim_base.specs.declared.message.Request.{Request}
use Rattle.sim_base.specs.declared.place.BankId.{BankId}
use Rattle.sim_base.specs.Places.{bank_in, is_bank}
use Rattle.sim_base.specs.Rules.{is_legal, is_allowed, finds_its_banks, open_row, is_row, bank_of}
use Rattle.sim_base.specs.Scheduling.{source_of, column_command_to, column_command, needed_at, needed, is_column_command, is_withheld, has_hit}
use Rattle.sim_base.proofs.Lists.{eqb-swap}
use Rattle.bank_ready.specs.Stands.{IsAllowedFrom}
use Rattle.channel_step.specs.FrFcfs.Choices.{needed_if}
use Rattle.channel_step.specs.FrFcfs.Requests.{IsLegalFrom, finds_row_open}
use Rattle.channel_step.proofs.FrFcfs.Booleans.{any_never}

-- the column command of a request, if it is of this access
abbrev column_of : Access → Request → Command
column_of access r = column_command_to access (bank_in r.place) r.place.row r.place.column (source_of r)

column_is : (access : Access) (r : Request) → is_column_command (column_of access r) ≡ true
column_is access.Read r = refl
column_is access.Write r = refl

column_finds : (s : Config) (history : List IssuedCommand) (access : Access) (r : Request) → is_row r.place.row (open_row (bank_in r.place) history) ≡ true
    → finds_its_banks s history (column_of access r) ≡ true
column_finds s history access.Read r hit = hit
column_finds s history access.Write r hit = hit

column_bank : (access : Access) (r : Request) → bank_of (column_of access r) ≡ Some (bank_in r.place)
column_bank access.Read r = refl
column_bank access.Write r = refl

column_free : (history : List IssuedCommand) (requests : List Request) (access : Access) (r : Request) → is_withheld history requests (column_of access r) ≡ false
unfolding is_withheld
column_free history requests access.Read r = refl
column_free history requests access.Write r = refl

pub needed_bank : (open_row : Option ℕ) (r : Request) → bank_of (needed_at open_row r) ≡ Some (bank_in r.place)
needed_bank None r = refl
needed_bank (Some row) r = elim (cases_Bool (eqb row r.place.row)) [
  | inl same ↦ ap (λ b. bank_of (cond b (column_of r.access r) (Pre (bank_in r.place) (source_of r)))) same ∙ column_bank r.access r
  | inr apart ↦ ap (λ b. bank_of (cond b (column_of r.access r) (Pre (bank_in r.place) (source_of r)))) apart
]

-- a request needs its data alone where its row is open
pub hit_at : (open_row : Option ℕ) (r : Request) → is_column_command (needed_at open_row r) ≡ is_row r.place.row open_row
hit_at None r = refl
hit_at (Some row) r = elim (cases_Bool (eqb row r.place.row)) [
  | inl same ↦
      ap (λ b. is_column_command (cond b (column_of r.access r) (Pre (bank_in r.place) (source_of r)))) same
      ∙ column_is r.access r
      ∙ sym (eqb-swap r.place.row row ∙ same)
  | inr apart ↦ ap (λ b. is_column_command (cond b (column_of r.access r) (Pre (bank_in r.place) (source_of r)))) apart ∙ sym (eqb-swap r.place.row row ∙ apart)
]

pub column_needed : (open_row : Option ℕ) (r : Request) → is_column_command (needed_at open_row r) ≡ true → needed_at open_row r ≡ column_command r
column_needed None r hit = absurd (false≢true hit)
column_needed (Some row) r hit = elim (cases_Bool (eqb row r.place.row)) [
  | inl same ↦ cond-true (eqb row r.place.row) (column_command r) (Pre (bank_in r.place) (source_of r)) same
  | inr apart ↦ absurd (false≢true (sym (ap (λ b. is_column_command (cond b (column_of r.access r) (Pre (bank_in r.place) (source_of r)))) apart) ∙ hit))
]

finds_at : (s : Config) (history : List IssuedCommand) (r : Request) (row : Option ℕ) → open_row (bank_in r.place) history ≡ row → finds_its_banks s history (needed_at row r) ≡ true
finds_at s history r None is = ap (λ o. not (is_some o)) is
finds_at s history r (Some row) is = elim (cases_Bool (eqb row r.place.row)) [
  | inl same ↦
      ap (λ b. finds_its_banks s history (cond b (column_of r.access r) (Pre (bank_in r.place) (source_of r)))) same
      ∙ column_finds s history r.access r (ap (is_row r.place.row) is ∙ eqb-swap r.place.row row ∙ same)
  | inr apart ↦ ap (λ b. finds_its_banks s history (cond b (column_of r.access r) (Pre (bank_in r.place) (source_of r)))) apart
]

-- what a request needs finds its bank as it should
pub finds_needed : (s : Config) (history : List IssuedCommand) (r : Request) → finds_its_banks s history (needed history r) ≡ true
unfolding needed
finds_needed s history r = finds_at s history r (open_row (bank_in r.place) history) refl

pub legal_from : (s : Config) (history : List IssuedCommand) (command : Command) (cycle : ℕ) → finds_its_banks s history command ≡ true → IsAllowedFrom s history command cycle
    → IsLegalFrom s history command cycle
unfolding is_legal
legal_from s history command cycle finds allowed = λ now.
    let same : (finds_its_banks s history command && is_allowed s.timing history now command) ≡ is_allowed s.timing history now command =
    ap (λ b. b && is_allowed s.timing history now command) finds in
    (λ late. same ∙ (allowed now).0 late, λ legal. (allowed now).1 (sym same ∙ legal))

pub legal_at : (s : Config) (history : List IssuedCommand) (command : Command) (cycle : ℕ) → IsLegalFrom s history command cycle → (now : ℕ)
    → is_legal s history now command ≡ leb cycle now
legal_at s history command cycle from now = elim (cases_Bool (leb cycle now)) [
  | inl late ↦ (from now).0 (leb-true cycle now late) ∙ sym late
  | inr early ↦
      false_from_ne_true (is_legal s history now command)
      (λ legal. let over : cycle ≤ now = (from now).1 legal in let before : now < cycle = leb-false cycle now early in absurd (omega arith))
      ∙ sym early
]

withheld_at : (history : List IssuedCommand) (requests : List Request) (r : Request) (row : Option ℕ) → open_row (bank_in r.place) history ≡ row
    → is_withheld history requests (needed_at row r) ≡ (has_hit history requests (bank_in r.place) && not (is_column_command (needed_at row r)))
unfolding is_withheld
withheld_at history requests r None is =
    let none : has_hit history requests (bank_in r.place) ≡ false =
    ap (λ (o : Option ℕ). list_any (λ (x : Request). is_bank (bank_in x.place) (bank_in r.place) && is_row x.place.row o) requests) is
    ∙ any_never (λ (x : Request). is_bank (bank_in x.place) (bank_in r.place)) requests in
    sym (ap (λ b. b && true) none)
withheld_at history requests r (Some row) is =
    let command = λ (b : Bool). cond b (column_of r.access r) (Pre (bank_in r.place) (source_of r)) in
    let hit = has_hit history requests (bank_in r.place) in
    elim (cases_Bool (eqb row r.place.row)) [
      | inl same ↦
          ap (λ b. is_withheld history requests (cond b (column_of r.access r) (Pre (bank_in r.place) (source_of r)))) same
          ∙ column_free history requests r.access r
          ∙ sym (and-false hit)
          ∙ ap (λ b. hit && not b) (sym (column_is r.access r))
          ∙ ap (λ b. hit && not (is_column_command (cond b (column_of r.access r) (Pre (bank_in r.place) (source_of r))))) (sym same)
      | inr apart ↦
          ap (λ b. is_withheld history requests (cond b (column_of r.access r) (Pre (bank_in r.place) (source_of r)))) apart
          ∙ sym (and-true hit)
          ∙ ap (λ b. hit && not (is_column_command (cond b (column_of r.access r) (Pre (bank_in r.place) (source_of r))))) (sym apart)
    ]

-- what a request needs is withheld where some row hit wants its bank, and it is none
pub withheld_is : (history : List IssuedCommand) (requests : List Request) (r : Request)
    → is_withheld history requests (needed history r) ≡ (has_hit history requests (bank_in r.place) && not (finds_row_open history r))
unfolding needed
withheld_is history requests r = withheld_at history requests r (open_row (bank_in r.place) history) refl

pub hit_is : (history : List IssuedCommand) (r : Request) → finds_row_open history r ≡ is_row r.place.row (open_row (bank_in r.place) history)
unfolding needed
hit_is history r = hit_at (open_row (bank_in r.place) history) r

pub same_bank : (a b : BankId) → is_bank a b ≡ true → a ≡ b
same_bank a b same =
    let bank = and_parts (eqb a.rank b.rank && eqb a.group b.group) (eqb a.bank b.bank) same in
    let group = and_parts (eqb a.rank b.rank) (eqb a.group b.group) bank.0 in
    λ i. record {
      rank = eqb-true a.rank b.rank group.0 i;
      group = eqb-true a.group b.group group.1 i;
      bank = eqb-true a.bank b.bank bank.1 i;
    }

kept_if : (column : Bool) (x command : Command) → cond column (Some x) None ≡ Some command → (x ≡ command) × (column ≡ true)
kept_if true x command is = (cc, refl)
kept_if false x command is = absurd cc

kept_unless : (column : Bool) (x command : Command) → cond column None (Some x) ≡ Some command → (x ≡ command) × (column ≡ false)
kept_unless true x command is = absurd cc
kept_unless false x command is = (cc, refl)

-- what a request needs, where it is a column command, or where it is none
pub needs_if : (column : Bool) (history : List IssuedCommand) (r : Request) (command : Command) → needed_if column history r ≡ Some command
    → (needed history r ≡ command) × (is_column_command (needed history r) ≡ column)
needs_if true history r command is = kept_if (is_column_command (needed history r)) (needed history r) command is
needs_if false history r command is = kept_unless (is_column_command (needed history r)) (needed history r) command is

pub needed_so : (column : Bool) (history : List IssuedCommand) (r : Request) → is_column_command (needed history r) ≡ column → needed_if column history r ≡ Some (needed history r)
needed_so true history r is = ap (λ b. cond b (Some (needed history r)) None) is
needed_so false history r is = ap (λ b. cond b None (Some (needed history r))) is

-- what is asked for a request is a column command, or none
pub asked_class : (column : Bool) (history : List IssuedCommand) (o : Option Request) (command : Command) → option_and_then (needed_if column history) o ≡ Some command → is_column_command command ≡ column
asked_class column history None command is = absurd cc
asked_class column history (Some r) command is = let needs = needs_if column history r command is in ap is_column_command (sym needs.0) ∙ needs.1
