-- Two places on the same line are one place.
use Rattle.std.proofs.Common.{◌≡◌, ◌==◌, true, false, ◌&&◌, refl, sym, subst, ◌∙◌, inl, inr, eq-eqb}
use Rattle.std.proofs.lemmas.Bool.{cases_Bool, and_parts, and_from, eqb-true, false≢true}
use Rattle.sim_base.specs.Places.{is_line, is_bank, bank_in}
use Rattle.sim_base.specs.declared.place.Place.{Place}

pub line_same : (a b : Place) → is_line a b ≡ true → a ≡ b
line_same a b same =
    let bank = is_bank (bank_in a) (bank_in b) in
    let columns = and_parts ((a.channel == b.channel) && bank && (a.row == b.row)) (a.column == b.column) same in
    let rows = and_parts ((a.channel == b.channel) && bank) (a.row == b.row) columns.0 in
    let banks = and_parts (a.channel == b.channel) bank rows.0 in
    let in_group = and_parts ((a.rank == b.rank) && (a.group == b.group)) (a.bank == b.bank) banks.1 in
    let groups = and_parts (a.rank == b.rank) (a.group == b.group) in_group.0 in
    λ i. record {
      channel = eqb-true a.channel b.channel banks.0 i;
      rank = eqb-true a.rank b.rank groups.0 i;
      group = eqb-true a.group b.group groups.1 i;
      bank = eqb-true a.bank b.bank in_group.1 i;
      row = eqb-true a.row b.row rows.1 i;
      column = eqb-true a.column b.column columns.1 i;
    }

pub line_itself : (a : Place) → is_line a a ≡ true
line_itself a =
    let same_bank = is_bank (bank_in a) (bank_in a) in
    let ranks = and_from (a.rank == a.rank) (a.group == a.group) (eq-eqb a.rank a.rank refl) (eq-eqb a.group a.group refl) in
    let banks = and_from ((a.rank == a.rank) && (a.group == a.group)) (a.bank == a.bank) ranks (eq-eqb a.bank a.bank refl) in
    let channels = and_from (a.channel == a.channel) same_bank (eq-eqb a.channel a.channel refl) banks in
    let rows = and_from ((a.channel == a.channel) && same_bank) (a.row == a.row) channels (eq-eqb a.row a.row refl) in
    and_from ((a.channel == a.channel) && same_bank && (a.row == a.row)) (a.column == a.column) rows (eq-eqb a.column a.column refl)

-- two places that are not on the same line, the other way round
pub line_apart : (a b : Place) → is_line a b ≡ false → is_line b a ≡ false
line_apart a b apart = elim (cases_Bool (is_line b a)) [
  | inl same ↦ absurd (false≢true (sym apart ∙ subst (λ p. is_line a p ≡ true) (sym (line_same b a same)) (line_itself a)))
  | inr other ↦ other
]
