use Rattle.std.proofs.Common.{◌≡◌, ◌+◌, ◌∙◌, [], ap, get_or, length, map, sym, arith}
use Rattle.std.proofs.lemmas.List.{append_assoc, length-map}
use Rattle.std.specs.Prelude.{codes, decimal}
use Rattle.std.specs.List.{flat_map}
use Rattle.sim_base.specs.History.{below}
use Rattle.compare.specs.Comparison.{name_text, names_text}
use Rattle.compare.proofs.More.{names_more}
use Rattle.measures.proofs.Texts.{words_as, words_both}
use Rattle.compare.proofs.comparison.put_names.Goals as goal

pub loop-place-preserved : goal.loop-place-preserved
loop-place-preserved c =
    let number_is = sym (append_assoc (codes "run ") (decimal (c.loop-place.place + 1)) (codes ": ")) in
    words_as (sym (names_more c.args.names.now c.loop-place.place _ c.loop-place-test.true))
    (words_both c.loop-place.invariant (words_both (words_both (words_as number_is c.write.ensures.output) c.push_str.ensures.words) c.push_str-in-loop-place.ensures.words))

pub returns : goal.returns
unfolding names_text
returns c =
    let all : c.loop-place.place ≡ length c.args.names.now = omega arith in
    words_as (ap (λ n. flat_map (λ place. name_text (place + 1) (get_or (map (λ name. name.now) c.args.names.now) place [])) (below n)) (all ∙ sym (length-map c.args.names.now (λ name. name.now))))
    c.loop-place.invariant
