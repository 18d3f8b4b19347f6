-- The latest command of each kind decides whether any is too near.
use Rattle.std.proofs.Common.{◌≡◌, ℕ, ◌+◌, ◌∙◌, Bool, true, false, ◌&&◌, ◌||◌, cond, max, List, [], ◌∷◌, Option, Some, None, refl, sym, ap, arith, inl, inr}
use Rattle.std.specs.Prelude.{fold, nat_lt}
use Rattle.std.specs.List.{list_any}
use Rattle.std.proofs.Math.Bool.{or_assoc, or-false}
use Rattle.std.proofs.lemmas.Bool.{cases_lt, lt-ltb, le-ltb}
use Rattle.sim_base.specs.declared.rule.Rule.{Rule}
use Rattle.sim_base.specs.declared.command.Kind.{Kind}
use Rattle.sim_base.specs.declared.command.Kind.TheVariants as kind
use Rattle.sim_base.specs.declared.command.Command.{Command}
use Rattle.sim_base.specs.declared.command.IssuedCommand.{IssuedCommand}
use Rattle.sim_base.specs.Rules.{is_kind, kind_of, covers, relation_of}
use Rattle.rule_check.specs.Broken.{is_too_close}
use Rattle.rule_check.specs.Kept.{later_cycle, nothing, latest_of, noted, noted_where, latest_where, is_ahead}
use Rattle.rule_check.specs.declared.latest.Latest.{Latest}

pub latest_of-nothing : (which : Kind) → latest_of nothing which ≡ None
latest_of-nothing kind.Act = refl
latest_of-nothing kind.Rd = refl
latest_of-nothing kind.Wr = refl
latest_of-nothing kind.Pre = refl
latest_of-nothing kind.Prea = refl
latest_of-nothing kind.Ref = refl

ahead-max : (m c now d : ℕ) → nat_lt now (max m c + d) ≡ (nat_lt now (m + d) || nat_lt now (c + d))
ahead-max m c now d =
    elim (cases_lt now (m + d)) [
      | inl a ↦ lt-ltb now (max m c + d) (omega arith) ∙ sym (ap (λ b. b || nat_lt now (c + d)) (lt-ltb now (m + d) a))
      | inr a ↦
          (elim (cases_lt now (c + d)) [
            | inl b ↦ lt-ltb now (max m c + d) (omega arith) ∙ sym (ap (λ x. x || nat_lt now (c + d)) (le-ltb now (m + d) a) ∙ lt-ltb now (c + d) b)
            | inr b ↦ le-ltb now (max m c + d) (omega arith) ∙ sym (ap (λ x. x || nat_lt now (c + d)) (le-ltb now (m + d) a) ∙ le-ltb now (c + d) b)
          ])
    ]

ahead-later : (m : Option ℕ) (c now d : ℕ) → is_ahead now d (later_cycle m c) ≡ (is_ahead now d m || nat_lt now (c + d))
ahead-later None c now d = refl
ahead-later (Some m) c now d = ahead-max m c now d

latest_of-noted : (which k : Kind) (c : ℕ) (l : Latest) → latest_of (noted k c l) which ≡ cond (is_kind which k) (later_cycle (latest_of l which) c) (latest_of l which)
latest_of-noted kind.Act kind.Act c l = refl
latest_of-noted kind.Rd kind.Rd c l = refl
latest_of-noted kind.Wr kind.Wr c l = refl
latest_of-noted kind.Pre kind.Pre c l = refl
latest_of-noted kind.Prea kind.Prea c l = refl
latest_of-noted kind.Ref kind.Ref c l = refl
latest_of-noted _ _ c l = refl

ahead-where : (p : Bool) (which k : Kind) (c now d : ℕ) (l : Latest)
    → is_ahead now d (latest_of (noted_where p k c l) which) ≡ (is_ahead now d (latest_of l which) || (p && is_kind which k && nat_lt now (c + d)))
ahead-where false which k c now d l = sym (or-false _)
ahead-where true which k c now d l =
    ap (is_ahead now d) (latest_of-noted which k c l)
    ∙ (elim (is_kind which k) as (λ b. is_ahead now d (cond b (later_cycle (latest_of l which) c) (latest_of l which))
    ≡ (is_ahead now d (latest_of l which) || (b && nat_lt now (c + d)))) [
      | true ↦ ahead-later (latest_of l which) c now d
      | false ↦ sym (or-false _)
    ])

ahead-fold : (p : Command → Bool) (which : Kind) (now d : ℕ) (l : Latest) (history : List IssuedCommand)
    → is_ahead now d (latest_of (fold (λ l (i : IssuedCommand). noted_where (p i.command) (kind_of i.command) i.cycle l) l history) which)
    ≡ (is_ahead now d (latest_of l which) || list_any (λ i. p i.command && is_kind which (kind_of i.command) && nat_lt now (i.cycle + d)) history)
ahead-fold p which now d l [] = sym (or-false _)
ahead-fold p which now d l (i ∷ history) =
    let rest = list_any (λ (j : IssuedCommand). p j.command && is_kind which (kind_of j.command) && nat_lt now (j.cycle + d)) history in
    ahead-fold p which now d (noted_where (p i.command) (kind_of i.command) i.cycle l) history
    ∙ ap (λ b. b || rest) (ahead-where (p i.command) which (kind_of i.command) i.cycle now d l)
    ∙ or_assoc (is_ahead now d (latest_of l which)) _ rest

ahead-any : (p : Command → Bool) (which : Kind) (now d : ℕ) (history : List IssuedCommand)
    → is_ahead now d (latest_of (latest_where p history) which) ≡ list_any (λ i. p i.command && is_kind which (kind_of i.command) && nat_lt now (i.cycle + d)) history
unfolding latest_where
ahead-any p which now d history =
    ahead-fold p which now d nothing history
    ∙ ap (λ o. is_ahead now d o || list_any (λ (i : IssuedCommand). p i.command && is_kind which (kind_of i.command) && nat_lt now (i.cycle + d)) history) (latest_of-nothing which)

none-any : (history : List IssuedCommand) → list_any (λ (i : IssuedCommand). false) history ≡ false
none-any [] = refl
none-any (i ∷ history) = none-any history

and-any : (q : Bool) (f : IssuedCommand → Bool) (history : List IssuedCommand) → (q && list_any f history) ≡ list_any (λ i. q && f i) history
and-any true f history = refl
and-any false f history = sym (none-any history)

turned : (q a b c : Bool) → (q && (b && a && c)) ≡ (a && q && b && c)
turned true true true c = refl
turned true true false c = refl
turned true false true c = refl
turned true false false c = refl
turned false true b c = refl
turned false false b c = refl

-- a rule is broken by some earlier command just where it is by the latest of those that it binds
pub too_close-any : (r : Rule) (row : IssuedCommand) (history : List IssuedCommand)
    → (is_kind r.later (kind_of row.command) && is_ahead row.cycle r.cycles (latest_of (latest_where (λ e. covers r.scope (relation_of e row.command)) history) r.earlier))
    ≡ list_any (λ e. is_too_close r e row) history
too_close-any r row history =
    let q = is_kind r.later (kind_of row.command) in
    let b = λ (e : IssuedCommand). covers r.scope (relation_of e.command row.command) in
    let a = λ (e : IssuedCommand). is_kind r.earlier (kind_of e.command) in
    let c = λ (e : IssuedCommand). nat_lt row.cycle (e.cycle + r.cycles) in
    ap (λ x. q && x) (ahead-any (λ e. covers r.scope (relation_of e row.command)) r.earlier row.cycle r.cycles history)
    ∙ and-any q (λ e. b e && a e && c e) history
    ∙ (λ x. list_any (λ e. turned q (a e) (b e) (c e) x) history)
