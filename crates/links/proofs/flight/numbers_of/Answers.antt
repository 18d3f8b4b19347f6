use Rattle.std.proofs.Common.{◌≡◌, ℕ, ◌+◌, ◌<◌, ◌≤◌, ◌^◌, ◌⊎◌, inl, inr, true, not, List, [], ◌∷◌, ◌++◌, length, length-append, get_or, sym, ap, subst, ◌∙◌, arith}
use Rattle.std.specs.Bool.{if◌then◌else◌}
use Rattle.std.specs.Result.{is_ok}
use Rattle.std.proofs.lemmas.Bool.{cases_lt}
use Rattle.std.proofs.Math.ListN.{get_or-append}
use Rattle.std.proofs.Math.Seq.{get_or-append_seam}
use Rattle.links.specs.Buffers.{buffer_of, AreNumbers}
use Rattle.links.proofs.flight.numbers_of.Goals as goal

-- the number of one link more stands behind the others
numbers_more : (ch v : ℕ) (xs : List ℕ) → AreNumbers ch xs → v ≡ buffer_of ch (length xs) → v + 1 < 2 ^ 64 → AreNumbers ch (xs ++ v ∷ [])
numbers_more ch v xs before is small link l = by (cases_lt link (length xs))
  where
    by : (link < length xs) ⊎ (length xs ≤ link) → (get_or (xs ++ v ∷ []) link 0 ≡ buffer_of ch link) × (get_or (xs ++ v ∷ []) link 0 + 1 < 2 ^ 64)
    by (inl k) = rw (get_or-append xs (v ∷ []) 0 link k) (before link k)
    by (inr k) =
        let e : length xs ≡ link = omega (arith, l, length-append xs (v ∷ []), k) in
        let at : get_or (xs ++ v ∷ []) link 0 ≡ v = ap (λ n. get_or (xs ++ v ∷ []) n 0) (sym e) ∙ get_or-append_seam xs v [] 0 in
        rw at (is ∙ ap (buffer_of ch) e, small)

pub loop-link-preserved : goal.loop-link-preserved
loop-link-preserved c =
    let before = c.loop-link.invariant in
    let numbers = c.loop-link.numbers.items in
    let number = c.buffer_of_link.result in
    let is_put : is_ok c.push.result ≡ true = c.is_err.ensures.negation ∙ ap not c.if-is_err.false in
    let items : c.push.new.self.items ≡ numbers ++ number ∷ [] = c.push.ensures.items ∙ ap (λ b. if b then (numbers ++ number ∷ []) else numbers) is_put in
    record {
      right =
          subst (AreNumbers c.args.channels) (sym items)
          (numbers_more c.args.channels number numbers before.right (c.buffer_of_link.ensures.number ∙ ap (buffer_of c.args.channels) (sym before.length)) c.buffer_of_link.ensures.small);
      length = ap length items ∙ length-append numbers (number ∷ []) ∙ ap (λ n. n + 1) before.length;
    }
