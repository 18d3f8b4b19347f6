use Rattle.std.proofs.Common.{◌≡◌, ◌<◌, [], ◌∷◌, ◌++◌, length, sym, ap, ◌∙◌, subst}
use Rattle.std.specs.Prelude.{flat_map, All}
use Rattle.std.proofs.lemmas.List.{append-nil}
use Rattle.std.proofs.lemmas.List.Concat.{flat_map-append}
use Rattle.command_table.specs.Tables.{IsRising, table_of, rows_up_to, rows_after}
use Rattle.command_table.proofs.Pieces.{fewer-left, piece-more}
use Rattle.command_table.proofs.table.CommandTable.pieces.Goals as goal

pub loop-cycle-smaller : goal.loop-cycle-smaller
loop-cycle-smaller c =
    let cycle = c.in-Some.cycle in
    let behind = c.in_ok-before.field-0.behind.items in
    fewer-left cycle c.loop-cycle.lefts.items behind (subst (λ lists. 0 < length (rows_up_to cycle (flat_map (λ rows. rows) lists))) c.deref.ensures.value c.in-Some.ensures)
    (subst (λ lists. flat_map (λ rows. rows) behind ≡ rows_after cycle (flat_map (λ rows. rows) lists)) c.deref-in-Some.ensures.value c.in_ok-before.ensures.behind)

pub loop-cycle-preserved : goal.loop-cycle-preserved
loop-cycle-preserved c =
    let cycle = c.in-Some.cycle in
    let lists = c.loop-cycle.lefts.items in
    let parts = c.in_ok-before.field-0 in
    record {
      table = piece-more cycle c.args.self.now c.loop-cycle.pieces.items c.push.new.self.items lists parts.before.items parts.behind.items (c.in_ok-push.ensures.items ∙ ap (λ piece. c.loop-cycle.pieces.items ++ piece ∷ []) c.of.ensures)
          (subst (λ lists. flat_map (λ rows. rows) parts.before.items ≡ rows_up_to cycle (flat_map (λ rows. rows) lists)) c.deref-in-Some.ensures.value c.in_ok-before.ensures.before)
          (subst (λ lists. flat_map (λ rows. rows) parts.behind.items ≡ rows_after cycle (flat_map (λ rows. rows) lists)) c.deref-in-Some.ensures.value c.in_ok-before.ensures.behind)
          c.loop-cycle.invariant.table;
      rising = c.in_ok-before.ensures.rising.1;
    }

pub parts_of-requires : goal.parts_of-requires
parts_of-requires c = subst (All IsRising) (sym c.deref-in-Some.ensures.value) c.loop-cycle.invariant.rising

pub of-requires : goal.of-requires
of-requires c = c.in_ok-before.ensures.rising.0

pub of-requires-2 : goal.of-requires-2
of-requires-2 c = c.loop-cycle.invariant.rising

pub returns : goal.returns
returns c =
    let pieces = c.loop-cycle.pieces.items in
    let last = table_of c.loop-cycle.lefts.items in
    ap (flat_map (λ piece. piece)) (c.in_ok-push-2.ensures.items ∙ ap (λ piece. pieces ++ piece ∷ []) c.of-2.ensures)
    ∙ flat_map-append (λ piece. piece) pieces (last ∷ [])
    ∙ ap (λ rows. flat_map (λ piece. piece) pieces ++ rows) (append-nil last)
    ∙ c.loop-cycle.invariant.table
