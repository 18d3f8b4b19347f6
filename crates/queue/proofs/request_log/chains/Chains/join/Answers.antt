-- The new request is behind the last one of its class, and is the last one then.
use Rattle.std.proofs.Common.{◌≡◌, ◌+◌, ◌++◌, ◌∷◌, [], List, ℕ, length, get_or, set, ap, ◌∙◌, arith}
use Rattle.std.proofs.lemmas.List.{get_or_default, length-set, length_push}
use Rattle.queue.specs.declared.request_log.chains.Chains.{Chains}
use Rattle.queue.proofs.Chained.{chained-more, last-there, last-none, nexts-first, nexts-after}
use Rattle.queue.proofs.request_log.chains.Chains.join.Goals as goal
use Rattle.queue.proofs.request_log.chains.Chains.join.Goals.{in-Some, in_default}

pub returns-clause-chained : goal.returns-clause-chained
returns-clause-chained c classes h = elim c.match-checked_sub.branch [
  | in-Some w ↦
      let last = w.in-Some.last in
      let told = w.in-Some.ensures {u = tt} in
      let is = last-there classes c.args.class last c.index.result.now c.args.self.now h c.requires.class looked (omega (arith, told.0, told.1)) in
      chained-more classes (set (old ++ 0 ∷ []) last (length classes + 1)) c.args.class c.args.self.now _ h c.requires.class
      (ap (λ (s : Chains). s.behind.items) w.self-is ∙ (λ i. set (c.push_reserved.ensures.items i) (w.from.ensures i) (long i + 1)))
      (length-set (old ++ 0 ∷ []) last (length classes + 1) ∙ length_push old 0 ∙ ap (λ n. n + 1) h.count)
      (nexts-after classes old c.args.class last h.count h.nexts is)
      (λ i. set (w.self-is i).last.items c.args.class (long i + 1))
  | in_default w ↦
      chained-more classes (old ++ 0 ∷ []) c.args.class c.args.self.now _ h c.requires.class
      (ap (λ (s : Chains). s.behind.items) w.self-is ∙ c.push_reserved.ensures.items)
      (length_push old 0 ∙ ap (λ n. n + 1) h.count)
      (nexts-first classes old c.args.class h.count h.nexts
      (last-none classes c.args.class c.index.result.now c.args.self.now h c.requires.class looked (λ l. w.in_default.ensures {u = tt} l)))
      (λ i. set (w.self-is i).last.items c.args.class (long i + 1))
]
  where
    old : List ℕ
    old = c.args.self.now.behind.items

    long : c.len.result ≡ length classes
    long = omega (arith, c.len.ensures, c.args.self.now.behind.ok.0, h.count)

    looked : c.index.result.now ≡ get_or c.args.self.now.last.items c.args.class 0
    looked = c.index.ensures ∙ get_or_default c.args.self.now.last.items c.args.class c.index.result.now 0 (omega (arith, c.requires.class, h.lasts_count))
