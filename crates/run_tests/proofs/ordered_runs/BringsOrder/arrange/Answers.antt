use Rattle.std.proofs.Common.{◌≡◌, ◌≢◌, zero, suc, Bool, true, false, cond, List, [], ◌∷◌, ◌++◌, All, sym, ap, subst, arith}
use Rattle.std.proofs.lemmas.List.Elements.{All-append}
use Rattle.shards.specs.Jobs.{JobView}
use Rattle.shards.specs.declared.job.JobName.{JobName}
use Rattle.reference.specs.Orders.{IsGiven}
use Rattle.reference.proofs.Given.{each-given}
use Rattle.run_tests.proofs.ordered_runs.BringsOrder.arrange.Goals as goal

alone : (P : JobView → Type 0) (x : JobView) → P x → All P (x ∷ [])
alone P x h zero d l = h
alone P x h (suc k) d l = absurd (omega arith)

-- a result that ends elsewhere has none of their names
other : (xs : List JobView) (x : JobView) → All (λ (r : JobView). r.name.until ≢ x.name.until) xs → IsGiven xs x
other xs x h named =
    absurd (subst (λ (r : JobView). r.name.until ≢ x.name.until) named.3 (h named.0 named.1 named.2) (ap (λ (n : JobName). n.until) named.4))

-- the results, and behind them one that ends elsewhere, where there was memory for it
brought : (b : Bool) (xs ys : List JobView) (x : JobView) → ys ≡ cond b (xs ++ x ∷ []) xs → All (λ (r : JobView). r.name.until ≢ x.name.until) xs → All (IsGiven xs) ys
brought true xs ys x e h = subst (All (IsGiven xs)) (sym e) (All-append (IsGiven xs) xs (x ∷ []) (each-given xs) (alone (IsGiven xs) x (other xs x h)))
brought false xs ys x e h = subst (All (IsGiven xs)) (sym e) (each-given xs)

pub returns-in_default-clause-may : goal.returns-in_default-clause-may
returns-in_default-clause-may c = each-given c.args.results.items

pub returns-in_default-clause-given : goal.returns-in_default-clause-given
returns-in_default-clause-given c = each-given c.args.results.items

pub returns-then-ends_at-clause-may : goal.returns-then-ends_at-clause-may
returns-then-ends_at-clause-may c = each-given c.args.results.items

pub returns-then-ends_at-clause-given : goal.returns-then-ends_at-clause-given
returns-then-ends_at-clause-given c = each-given c.args.results.items

-- none of the results ends where the kept one does
apart : (xs ys : List JobView) (x : JobView) (name : JobName) → ys ≡ xs → name ≡ x.name → All (λ (r : JobView). r.name.until ≢ name.until) ys → All (λ (r : JobView). r.name.until ≢ x.name.until) xs
apart xs ys x name e f h =
    subst (λ (n : JobName). All (λ (r : JobView). r.name.until ≢ n.until) xs) f (subst (λ zs. All (λ (r : JobView). r.name.until ≢ name.until) zs) e h)

pub returns-else-ends_at-clause-may : goal.returns-else-ends_at-clause-may
returns-else-ends_at-clause-may c =
    brought _ c.args.results.items _ _ c.push-brought.ensures.items (apart c.args.results.items _ c.in-Some.done _ c.deref.ensures.value c.name.ensures (c.ends_at.ensures c.if-ends_at.false))

pub returns-else-ends_at-clause-given : goal.returns-else-ends_at-clause-given
returns-else-ends_at-clause-given c =
    brought _ c.args.results.items _ _ c.push-brought.ensures.items (apart c.args.results.items _ c.in-Some.done _ c.deref.ensures.value c.name.ensures (c.ends_at.ensures c.if-ends_at.false))
