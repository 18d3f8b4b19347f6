-- A folder has no requests, or one percentile more was read.
use Rattle.std.proofs.lemmas.List.{length-map}
use Rattle.std.proofs.Common.{◌≡◌, ◌∙◌, ◌++◌, [], ◌∷◌, length-append, arith, inl, inr, length, sym}
use Rattle.std.proofs.lemmas.Result.{IfOk-from_err}
use Rattle.config_reader.proofs.Refusing.{same_fault}
use Rattle.answers.proofs.RefusedFacts.{is_pushed, or_memory}
use Rattle.answers.proofs.RequestFacts.{folder_refused, folder_lacks, folder_more}
use Rattle.answers.proofs.comparisons.tails_in.Goals as goal

pub returns-in-None-clause-tails : goal.returns-in-None-clause-tails
returns-in-None-clause-tails g c =
    folder_lacks _ (λ d. d.now) _ _ c.args.dirs.now c.args.runs.now c.loop-place.tails.items c.new.result.items c.loop-place.place _ c.index-runs-place.result c.in_ok-tail.field-0 c.loop-place-test.true
    c.loop-place.invariant.count c.loop-place.invariant.same c.loop-place.invariant.so_far c.in_ok-tail.ensures.found c.in-None.is c.new.ensures.items

pub loop-place-preserved : goal.loop-place-preserved
loop-place-preserved g c =
    let pushed : c.push.new.self.items ≡ c.loop-place.tails.items ++ c.in-Some.tail ∷ [] = is_pushed c.push.result _ _ _ _ c.in_ok-or-in-Some.ensures c.push.ensures.items in
    record {
      count = let size = c.loop-place.invariant.count in simp (pushed, length-append) (omega (arith, size));
      so_far = folder_more _ (λ d. d.now) _ _ c.args.dirs.now c.args.runs.now c.loop-place.tails.items c.push.new.self.items c.loop-place.place c.in-Some.tail _ c.index-runs-place.result c.in_ok-tail.field-0
          c.loop-place.invariant.count c.loop-place.invariant.same c.loop-place.invariant.so_far pushed c.index-runs-place.is c.in_ok-tail.ensures.found c.in-Some.is;
      same = λ t path. c.in_ok-tail.ensures.same t path ∙ c.loop-place.invariant.same t path;
      unopened = λ t. c.in_ok-tail.ensures.unopened t ∙ c.loop-place.invariant.unopened t;
    }

pub returns-in_err-tail-clause-tails : goal.returns-in_err-tail-clause-tails
returns-in_err-tail-clause-tails g c = IfOk-from_err c.from_residual.result _ c.from_residual.ensures.0

pub returns-in_err-tail-clause-fault : goal.returns-in_err-tail-clause-fault
returns-in_err-tail-clause-fault g c =
    rw (same_fault c.from_residual.result _ c.from_residual.ensures)
    (inr (folder_refused _ (λ d. d.now) _ _ c.args.dirs.now c.args.runs.now c.loop-place.tails.items c.loop-place.place _ c.index-runs-place.result _ c.loop-place-test.true c.requires
    c.loop-place.invariant.count c.loop-place.invariant.same c.loop-place.invariant.so_far c.index-runs-place.is c.in_err-tail.ensures.fault))

pub returns-in_err-tail-clause-same : goal.returns-in_err-tail-clause-same
returns-in_err-tail-clause-same g c = λ t path. c.in_err-tail.ensures.same t path ∙ c.loop-place.invariant.same t path

pub returns-in_err-tail-clause-unopened : goal.returns-in_err-tail-clause-unopened
returns-in_err-tail-clause-unopened g c = λ t. c.in_err-tail.ensures.unopened t ∙ c.loop-place.invariant.unopened t

pub returns-in_err-or-in-Some-clause-tails : goal.returns-in_err-or-in-Some-clause-tails
returns-in_err-or-in-Some-clause-tails g c =
    IfOk-from_err c.from_residual-in_err-or-in-Some.result _ c.from_residual-in_err-or-in-Some.ensures.0

pub returns-in_err-or-in-Some-clause-same : goal.returns-in_err-or-in-Some-clause-same
returns-in_err-or-in-Some-clause-same g c = λ t path. c.in_ok-tail.ensures.same t path ∙ c.loop-place.invariant.same t path

pub returns-in_err-or-in-Some-clause-unopened : goal.returns-in_err-or-in-Some-clause-unopened
returns-in_err-or-in-Some-clause-unopened g c = λ t. c.in_ok-tail.ensures.unopened t ∙ c.loop-place.invariant.unopened t

pub returns-in-None-clause-fault : goal.returns-in-None-clause-fault
returns-in-None-clause-fault g c = tt

pub returns-in-None-clause-same : goal.returns-in-None-clause-same
returns-in-None-clause-same g c = λ t path. c.in_ok-tail.ensures.same t path ∙ c.loop-place.invariant.same t path

pub returns-in-None-clause-unopened : goal.returns-in-None-clause-unopened
returns-in-None-clause-unopened g c = λ t. c.in_ok-tail.ensures.unopened t ∙ c.loop-place.invariant.unopened t

pub returns-clause-fault : goal.returns-clause-fault
returns-clause-fault g c = tt

pub returns-clause-same : goal.returns-clause-same
returns-clause-same g c = c.loop-place.invariant.same

pub returns-clause-unopened : goal.returns-clause-unopened
returns-clause-unopened g c = c.loop-place.invariant.unopened

pub returns-clause-tails : goal.returns-clause-tails
returns-clause-tails g c =
    let all : c.loop-place.place ≡ length c.args.dirs.now = omega (arith, c.loop-place-test.false) in
    λ t. inl (record { count = c.loop-place.invariant.count ∙ all ∙ sym (length-map c.args.dirs.now _); tails_are = c.loop-place.invariant.so_far t })

pub returns-in_err-or-in-Some-clause-fault : goal.returns-in_err-or-in-Some-clause-fault
returns-in_err-or-in-Some-clause-fault g c =
    rw (same_fault c.from_residual-in_err-or-in-Some.result _ c.from_residual-in_err-or-in-Some.ensures) (inl (or_memory c.push.result _ c.in_err-or-in-Some.ensures))
