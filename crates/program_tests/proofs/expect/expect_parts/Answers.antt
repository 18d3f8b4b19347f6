use Rattle.std.proofs.Common.{◌≡◌, ◌↔◌, true, Bool, ℕ, List, [], Bor, length, subst, arith}
use Rattle.std.specs.Str.Iter.{HasSubslice}
use Rattle.std.proofs.lemmas.List.{get_or_default}
use Rattle.std.proofs.lemmas.List.Elements.{All-from_all_within, AllWithin-none, AllWithin-more, AllWithin-upto}
use Rattle.program_tests.proofs.expect.expect_parts.Goals as goal

-- a part of a text is there, or it is not
abbrev IsSo : Bool → List ℕ → Bor (List ℕ) → Type 0
IsSo is_there text part = is_there ≡ true ↔ HasSubslice text part.now

pub loop-part-init : goal.loop-part-init
loop-part-init g c = AllWithin-none (IsSo c.args.are_there c.args.text.now) c.args.parts.now 0

pub loop-part-preserved : goal.loop-part-preserved
loop-part-preserved g c =
    let parts = c.args.parts.now in
    let P = IsSo c.args.are_there c.args.text.now in
    AllWithin-more P parts 0 c.loop-part.part-index c.loop-part.invariant
    (λ d. subst P (get_or_default parts c.loop-part.part-index (record { ref_ptr = (0, 0); now = [] }) d c.loop-part-test.true) c.expect_part.ensures)

pub returns : goal.returns
returns g c =
    let parts = c.args.parts.now in
    let P = IsSo c.args.are_there c.args.text.now in
    All-from_all_within P parts (AllWithin-upto P parts 0 c.loop-part.part-index (length parts) (omega arith) c.loop-part.invariant)
