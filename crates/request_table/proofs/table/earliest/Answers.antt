use Rattle.std.proofs.Common.{◌≡◌, [], length, ◌∙◌, sym, subst, arith}
use Rattle.std.proofs.lemmas.List.{get_or_default}
use Rattle.request_table.specs.Lefts.{IsNextAmong, IsNextOf}
use Rattle.request_table.proofs.table.earliest.Goals as goal

pub returns-in-None : goal.returns-in-None
returns-in-None c =
    let lists = c.args.lefts.now in
    let none = subst (IsNextAmong lists c.loop-place.place) c.in-None.is c.loop-place.invariant in
    λ k d l. sym (get_or_default lists k [] d l) ∙ none k (omega arith)

pub returns-in-Some : goal.returns-in-Some
returns-in-Some c =
    let lists = c.args.lefts.now in
    let found = subst (IsNextAmong lists c.loop-place.place) c.in-Some.is c.loop-place.invariant in
    let all : c.loop-place.place ≡ length lists = omega arith in
    record { cycle = c.in-Some.next.cycle; next = subst (λ n. IsNextOf lists n c.in-Some.next.place c.in-Some.next.cycle) all found }
