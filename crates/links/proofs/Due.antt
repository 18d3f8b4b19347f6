-- What arrives before a cycle, where nothing is overdue.
use Rattle.std.proofs.Common.{ℕ, ◌≡◌, Bool, true, false, ◌&&◌, not, leb, ltb, cond, List, [], ◌∷◌, refl, ap₂, arith}
use Rattle.std.specs.Prelude.{filter}
use Rattle.std.proofs.lemmas.Bool.Decides.{nat_tests}
use Rattle.sim_base.specs.History.{is_unit, receiver_of}
use Rattle.sim_base.specs.declared.message.Message.{Message}
use Rattle.sim_base.specs.declared.message.Unit.{Unit as MachineUnit}
use Rattle.links.specs.InFlight.{is_due, is_due_before}

not_overdue : (from until arrival : ℕ) (to : Bool) → (to && (leb 0 arrival && ltb arrival from)) ≡ false → (to && ltb arrival until) ≡ (to && (leb from arrival && ltb arrival until))
not_overdue from until arrival true h = grind (arith, nat_tests)
not_overdue from until arrival false h = refl

-- where nothing arrives at a unit before a cycle, what arrives before another is what is due in between
pub none_overdue : (channels from until : ℕ) (unit : MachineUnit) (ms : List Message) → filter (is_due channels unit 0 from) ms ≡ []
    → (filter (is_due_before channels unit until) ms ≡ filter (is_due channels unit from until) ms)
    × (filter (λ m. not (is_due_before channels unit until m)) ms ≡ filter (λ m. not (is_due channels unit from until m)) ms)
none_overdue channels from until unit [] h = (refl, refl)
none_overdue channels from until unit (m ∷ ms) h = go (is_due channels unit 0 from m) refl h (none_overdue channels from until unit ms)
  where
    go : (b : Bool) → is_due channels unit 0 from m ≡ b → cond b (m ∷ filter (is_due channels unit 0 from) ms) (filter (is_due channels unit 0 from) ms) ≡ []
        → (filter (is_due channels unit 0 from) ms ≡ []
        → (filter (is_due_before channels unit until) ms ≡ filter (is_due channels unit from until) ms)
        × (filter (λ m. not (is_due_before channels unit until m)) ms ≡ filter (λ m. not (is_due channels unit from until m)) ms))
        → (filter (is_due_before channels unit until) (m ∷ ms) ≡ filter (is_due channels unit from until) (m ∷ ms))
        × (filter (λ m. not (is_due_before channels unit until m)) (m ∷ ms) ≡ filter (λ m. not (is_due channels unit from until m)) (m ∷ ms))
    go true e k rest = cc
    go false e k rest =
        let same : is_due_before channels unit until m ≡ is_due channels unit from until m = not_overdue from until m.arrival (is_unit (receiver_of channels m.link) unit) e in
        let both = rest k in (
          ap₂ (λ b z. cond b (m ∷ z) z) same both.0,
          ap₂ (λ b z. cond (not b) (m ∷ z) z) same both.1,
        )
