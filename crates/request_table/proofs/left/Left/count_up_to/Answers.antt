use Rattle.std.proofs.Common.{rules, of_calls, ◌≡◌, leb, List, take, drop, sym, subst, arith}
use Rattle.std.proofs.lemmas.Fn.{always_returns_same}
use Rattle.request_table.specs.declared.served_requests.ServedRequest.{ServedRequest}
use Rattle.request_table.specs.Tables.{IsInOrder, rows_up_to, rows_after}
use Rattle.request_table.proofs.Cutting.{partitioned, cut-at}
use Rattle.request_table.proofs.left.Left.count_up_to.Goals as goal

pub returns-clause-before : goal.returns-clause-before
returns-clause-before c =
    let rows = c.self.inside.rows.now in
    let point = c.partition_point.ensures.partitioned (λ (row : ServedRequest). leb row.served c.args.cycle) (always_returns_same _ _ _ (λ a r f k. search (rules, of_calls)))
    (partitioned rows c.args.cycle (subst IsInOrder (sym c.self.view_is) c.requires)) in
    subst (λ (rows : List ServedRequest). take c.partition_point.result rows ≡ rows_up_to c.args.cycle rows) c.self.view_is
    (cut-at c.args.cycle rows c.partition_point.result c.partition_point.ensures.bound (λ k d l. point.0 k d (omega arith) l) (λ k d l m. point.1 k d l m)).0

pub returns-clause-behind : goal.returns-clause-behind
returns-clause-behind c =
    let rows = c.self.inside.rows.now in
    let point = c.partition_point.ensures.partitioned (λ (row : ServedRequest). leb row.served c.args.cycle) (always_returns_same _ _ _ (λ a r f k. search (rules, of_calls)))
    (partitioned rows c.args.cycle (subst IsInOrder (sym c.self.view_is) c.requires)) in
    subst (λ (rows : List ServedRequest). drop c.partition_point.result rows ≡ rows_after c.args.cycle rows) c.self.view_is
    (cut-at c.args.cycle rows c.partition_point.result c.partition_point.ensures.bound (λ k d l. point.0 k d (omega arith) l) (λ k d l m. point.1 k d l m)).1
