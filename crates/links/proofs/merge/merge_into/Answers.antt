use Rattle.std.proofs.Common.{◌<◌, ltb, length, sym, ap, ap₂, subst, ◌∙◌, ◌++◌, arith}
use Rattle.std.proofs.lemmas.Bool.{and_parts, ltb-true}
use Rattle.std.proofs.lemmas.List.{length-drop, take_rest}
use Rattle.links.proofs.Merging.{Merges, Merges-start, Merges-second, Merges-first, Merges-end}
use Rattle.links.proofs.merge.merge_into.Goals as goal

pub loop-a-init : goal.loop-a-init
loop-a-init c = record {
  merges = subst (λ ms. Merges 0 0 c.args.first.now c.args.second.now ms) (sym (c.in_ok-reserve.ensures.items ∙ c.requires.empty)) (Merges-start c.args.first.now c.args.second.now c.requires.in_order);
  room = omega (arith, c.in_ok-reserve.ensures.ok);
}

pub push_reserved-requires : goal.push_reserved-requires
push_reserved-requires c =
    let both = and_parts (ltb c.loop-a.i (length c.args.first.now)) (ltb c.loop-a.j (length c.args.second.now)) (sym c.are_left.ensures ∙ c.loop-a-test.true) in
    let first : c.loop-a.i < length c.args.first.now = ltb-true _ _ both.0 in
    omega (arith, c.loop-a.invariant.room, first)

pub push_reserved-requires-else-is_before : goal.push_reserved-requires-else-is_before
push_reserved-requires-else-is_before c =
    let both = and_parts (ltb c.loop-a.i (length c.args.first.now)) (ltb c.loop-a.j (length c.args.second.now)) (sym c.are_left.ensures ∙ c.loop-a-test.true) in
    let first : c.loop-a.i < length c.args.first.now = ltb-true _ _ both.0 in
    omega (arith, c.loop-a.invariant.room, first)

pub loop-a-preserved-then-is_before : goal.loop-a-preserved-then-is_before
loop-a-preserved-then-is_before c =
    let both = and_parts (ltb c.loop-a.i (length c.args.first.now)) (ltb c.loop-a.j (length c.args.second.now)) (sym c.are_left.ensures ∙ c.loop-a-test.true) in
    let first : c.loop-a.i < length c.args.first.now = ltb-true _ _ both.0 in
    let second : c.loop-a.j < length c.args.second.now = ltb-true _ _ both.1 in
    record {
      merges = rw c.push_reserved.ensures.items (Merges-second _ _ _ _ _ _ _ first second c.loop-a.invariant.merges (sym c.is_before.ensures ∙ c.if-is_before.true));
      room = omega (arith, c.push_reserved.ensures.len, c.push_reserved.ensures.capacity, c.loop-a.invariant.room, first, second);
    }

pub loop-a-preserved : goal.loop-a-preserved
loop-a-preserved c =
    let both = and_parts (ltb c.loop-a.i (length c.args.first.now)) (ltb c.loop-a.j (length c.args.second.now)) (sym c.are_left.ensures ∙ c.loop-a-test.true) in
    let first : c.loop-a.i < length c.args.first.now = ltb-true _ _ both.0 in
    let second : c.loop-a.j < length c.args.second.now = ltb-true _ _ both.1 in
    record {
      merges = rw c.push_reserved-else-is_before.ensures.items (Merges-first _ _ _ _ _ _ _ first second c.loop-a.invariant.merges (sym c.is_before.ensures ∙ c.if-is_before.false));
      room = omega (arith, c.push_reserved-else-is_before.ensures.len, c.push_reserved-else-is_before.ensures.capacity, c.loop-a.invariant.room, first, second);
    }

pub append_all-requires : goal.append_all-requires
append_all-requires c = omega (arith, c.loop-a.invariant.room, ap length (take_rest c.args.first.now c.loop-a.i), length-drop c.loop-a.i c.args.first.now)

pub append_all-requires-2 : goal.append_all-requires-2
append_all-requires-2 c =
    omega (
      arith,
      c.loop-a.invariant.room,
      c.append_all.ensures.len,
      c.append_all.ensures.capacity,
      ap length (take_rest c.args.first.now c.loop-a.i),
      length-drop c.loop-a.i c.args.first.now,
      ap length (take_rest c.args.second.now c.loop-a.j),
      length-drop c.loop-a.j c.args.second.now,
    )

pub returns : goal.returns
returns c =
    c.append_all-2.ensures.items
    ∙ ap₂ (λ xs ys. xs ++ ys) (c.append_all.ensures.items ∙ ap (λ xs. c.loop-a.all.items ++ xs) (take_rest c.args.first.now c.loop-a.i)) (take_rest c.args.second.now c.loop-a.j)
    ∙ Merges-end _ _ _ _ _ c.loop-a.invariant.merges (sym c.are_left.ensures ∙ c.loop-a-test.false)
