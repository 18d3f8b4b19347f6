-- The last four ACTs of a rank decide when one more is allowed.
use Rattle.std.proofs.Common.{◌≡◌, ℕ, ◌+◌, ◌≤◌, ◌<◌, ◌↔◌, ◌++◌, ◌∙◌, ◌&&◌, true, false, cond, List, [], ◌∷◌, length, map, refl, sym, ap, arith, inl, inr}
use Rattle.std.specs.Prelude.{count_by, filter, fold, nat_lt}
use Rattle.std.specs.List.{AllByRecursion as Each}
use Rattle.std.proofs.lemmas.Bool.{cond_both, cases_lt, cases_Bool, lt-ltb, le-ltb, cond-true, cond-false}
use Rattle.std.proofs.lemmas.List.{map-append}
use Rattle.std.proofs.lemmas.List.Elements.{filter-append}
use Rattle.std.proofs.lemmas.List.Sums.{sum_by-cons, count_by-le-length, fold-append}
use Rattle.sim_base.specs.declared.timing.Timing.{Timing}
use Rattle.sim_base.specs.declared.command.IssuedCommand.{IssuedCommand}
use Rattle.sim_base.specs.Rules.{recent_acts}
use Rattle.bank_ready.specs.Ready.{is_act_in, window_ends}
use Rattle.bank_ready.specs.Words.{no_acts, pushed, window_from}
use Rattle.bank_ready.specs.declared.words.ActWindow.{ActWindow}
use Rattle.bank_ready.specs.Stands.{Ascends}

-- how many ends are still ahead
abbrev pub ahead : ℕ → List ℕ → ℕ
ahead now es = count_by (λ e. nat_lt now e) es

ahead-in : (now e : ℕ) (es : List ℕ) → now < e → ahead now (e ∷ es) ≡ 1 + ahead now es
ahead-in now e es h = sum_by-cons (λ x. cond (nat_lt now x) 1 0) e es ∙ ap (λ n. n + ahead now es) (cond-true (nat_lt now e) 1 0 (lt-ltb now e h))

ahead-out : (now e : ℕ) (es : List ℕ) → e ≤ now → ahead now (e ∷ es) ≡ 0 + ahead now es
ahead-out now e es h = sum_by-cons (λ x. cond (nat_lt now x) 1 0) e es ∙ ap (λ n. n + ahead now es) (cond-false (nat_lt now e) 1 0 (le-ltb now e h))

-- none is before one that stands in front of it
abbrev Ascending : List ℕ → Type 0
Ascending [] = Unit {0}
Ascending (e ∷ es) = Each (λ x. e ≤ x) es × Ascending es

all-ahead : (now e : ℕ) (es : List ℕ) → now < e → Each (λ x. e ≤ x) es → ahead now es ≡ length es
all-ahead now e [] h k = refl
all-ahead now e (x ∷ es) h k = ahead-in now x es (omega (arith, k.0)) ∙ ap (λ n. 1 + n) (all-ahead now e es h k.1) ∙ omega arith

few-ahead : (now : ℕ) (es : List ℕ) → length es ≤ 3 → ahead now es ≤ 3
few-ahead now es h = omega (arith, count_by-le-length (λ e. nat_lt now e) es)

-- Where ends ascend, at most three are ahead just where the oldest of the last four is not.
pub three-ahead : (now : ℕ) (es : List ℕ) → Ascending es → (ahead now es ≤ 3) ↔ ((fold pushed no_acts es).oldest ≤ now)
three-ahead now [] h = (λ k. omega arith, λ k. few-ahead now [] (omega arith))
three-ahead now (a ∷ []) h = (λ k. omega arith, λ k. few-ahead now (a ∷ []) (omega arith))
three-ahead now (a ∷ b ∷ []) h = (λ k. omega arith, λ k. few-ahead now (a ∷ b ∷ []) (omega arith))
three-ahead now (a ∷ b ∷ c ∷ []) h = (λ k. omega arith, λ k. few-ahead now (a ∷ b ∷ c ∷ []) (omega arith))
three-ahead now (a ∷ b ∷ c ∷ d ∷ []) h = (
  λ k. elim (cases_lt now a) [
    | inl lt ↦ absurd (omega (arith, ahead-in now a (b ∷ c ∷ d ∷ []) lt, all-ahead now a (b ∷ c ∷ d ∷ []) lt h.0))
    | inr le ↦ le
  ],
  λ k. omega (arith, ahead-out now a (b ∷ c ∷ d ∷ []) k, few-ahead now (b ∷ c ∷ d ∷ []) (omega arith)),
)
three-ahead now (a ∷ b ∷ c ∷ d ∷ e ∷ es) h =
    let tail = b ∷ c ∷ d ∷ e ∷ es in
    let rest = three-ahead now (b ∷ c ∷ d ∷ e ∷ es) h.1 in
    elim (cases_lt now a) [
      | inl lt ↦
          let all : ahead now tail ≡ length tail = all-ahead now a tail lt h.0 in
          (λ k. absurd (omega (arith, ahead-in now a tail lt)), λ k. absurd (omega (arith, rest.1 k)))
      | inr le ↦ (λ k. rest.0 (omega (arith, ahead-out now a tail le)), λ k. omega (arith, ahead-out now a tail le, rest.1 k))
    ]

-- the ACTs that count are those whose ends are ahead
pub recent_acts-ahead : (t : Timing) (rank now : ℕ) (history : List IssuedCommand) → recent_acts t rank now history ≡ ahead now (window_ends t rank history)
unfolding window_ends
recent_acts-ahead t rank now [] = refl
recent_acts-ahead t rank now (i ∷ history) =
    let p = λ (j : IssuedCommand). is_act_in rank j && nat_lt now (j.cycle + t.n_faw) in
    let f = λ (j : IssuedCommand). j.cycle + t.n_faw in
    let rest : recent_acts t rank now history ≡ ahead now (map f (filter (is_act_in rank) history)) = recent_acts-ahead t rank now history in
    let step : recent_acts t rank now (i ∷ history) ≡ cond (p i) 1 0 + recent_acts t rank now history = sum_by-cons (λ j. cond (p j) 1 0) i history in
    step ∙ ap (λ n. cond (p i) 1 0 + n) rest
    ∙ (elim (is_act_in rank i) as (λ b. cond (b && nat_lt now (f i)) 1 0 + ahead now (map f (filter (is_act_in rank) history))
    ≡ ahead now (map f (cond b (i ∷ filter (is_act_in rank) history) (filter (is_act_in rank) history)))) [
      | true ↦ sym (sum_by-cons (λ e. cond (nat_lt now e) 1 0) (f i) (map f (filter (is_act_in rank) history)))
      | false ↦ omega arith
    ])

ends-later : (t : Timing) (rank cycle : ℕ) (history : List IssuedCommand) → Each (λ (j : IssuedCommand). cycle < j.cycle) history → Each (λ e. cycle + t.n_faw ≤ e) (window_ends t rank history)
unfolding window_ends
ends-later t rank cycle [] h = tt
ends-later t rank cycle (j ∷ history) h =
    cond_both (is_act_in rank j) (j ∷ filter (is_act_in rank) history) (filter (is_act_in rank) history)
    (λ (js : List IssuedCommand). Each (λ e. cycle + t.n_faw ≤ e) (map (λ (k : IssuedCommand). k.cycle + t.n_faw) js))
    (λ e. (omega (arith, h.0), ends-later t rank cycle history h.1))
    (λ e. ends-later t rank cycle history h.1)

pub window_ends-ascending : (t : Timing) (rank : ℕ) (history : List IssuedCommand) → Ascends history → Ascending (window_ends t rank history)
unfolding window_ends
window_ends-ascending t rank [] h = tt
window_ends-ascending t rank (i ∷ history) h =
    cond_both (is_act_in rank i) (i ∷ filter (is_act_in rank) history) (filter (is_act_in rank) history)
    (λ (js : List IssuedCommand). Ascending (map (λ (k : IssuedCommand). k.cycle + t.n_faw) js))
    (λ e. (ends-later t rank i.cycle history h.0, window_ends-ascending t rank history h.1))
    (λ e. window_ends-ascending t rank history h.1)

window_ends-more : (t : Timing) (rank : ℕ) (history : List IssuedCommand) (i : IssuedCommand)
    → window_ends t rank (history ++ i ∷ []) ≡ window_ends t rank history ++ window_ends t rank (i ∷ [])
unfolding window_ends
window_ends-more t rank history i =
    ap (map (λ (k : IssuedCommand). k.cycle + t.n_faw)) (filter-append (is_act_in rank) history (i ∷ []))
    ∙ map-append (λ (k : IssuedCommand). k.cycle + t.n_faw) (filter (is_act_in rank) history) (filter (is_act_in rank) (i ∷ []))

end-of-act : (t : Timing) (rank : ℕ) (i : IssuedCommand) → is_act_in rank i ≡ true → window_ends t rank (i ∷ []) ≡ (i.cycle + t.n_faw) ∷ []
unfolding window_ends
end-of-act t rank i h = ap (map (λ (k : IssuedCommand). k.cycle + t.n_faw)) (cond-true (is_act_in rank i) (i ∷ []) [] h)

end-of-other : (t : Timing) (rank : ℕ) (i : IssuedCommand) → is_act_in rank i ≡ false → window_ends t rank (i ∷ []) ≡ []
unfolding window_ends
end-of-other t rank i h = ap (map (λ (k : IssuedCommand). k.cycle + t.n_faw)) (cond-false (is_act_in rank i) (i ∷ []) [] h)

-- one command more
pub window_from-more : (t : Timing) (rank : ℕ) (history : List IssuedCommand) (i : IssuedCommand)
    → window_from t rank (history ++ i ∷ []) ≡ cond (is_act_in rank i) (pushed (window_from t rank history) (i.cycle + t.n_faw)) (window_from t rank history)
unfolding window_from
window_from-more t rank history i =
    let whole = ap (fold pushed no_acts) (window_ends-more t rank history i) ∙ fold-append pushed no_acts (window_ends t rank history) (window_ends t rank (i ∷ [])) in
    let before = fold pushed no_acts (window_ends t rank history) in
    elim (cases_Bool (is_act_in rank i)) [
      | inl h ↦ whole ∙ ap (fold pushed before) (end-of-act t rank i h) ∙ sym (cond-true (is_act_in rank i) (pushed before (i.cycle + t.n_faw)) before h)
      | inr h ↦ whole ∙ ap (fold pushed before) (end-of-other t rank i h) ∙ sym (cond-false (is_act_in rank i) (pushed before (i.cycle + t.n_faw)) before h)
    ]

-- the oldest of the last four is not after the second one
folded-up : (es : List ℕ) (w : ActWindow) → w.oldest ≤ w.second → w.second ≤ w.third → w.third ≤ w.last → Each (λ e. w.last ≤ e) es → Ascending es
    → (fold pushed w es).oldest ≤ (fold pushed w es).second
folded-up [] w a b c h up = a
folded-up (e ∷ es) w a b c h up = folded-up es (pushed w e) b c h.0 up.0 up.1

all-above : (es : List ℕ) → Each (λ e. 0 ≤ e) es
all-above [] = tt
all-above (e ∷ es) = (omega arith, all-above es)

pub oldest-first : (t : Timing) (rank : ℕ) (history : List IssuedCommand) → Ascends history → (window_from t rank history).oldest ≤ (window_from t rank history).second
unfolding window_from
oldest-first t rank history up =
    folded-up (window_ends t rank history) no_acts (omega arith) (omega arith) (omega arith) (all-above (window_ends t rank history)) (window_ends-ascending t rank history up)
