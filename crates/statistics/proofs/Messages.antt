-- The messages that arrived before a cycle decide what arrived before an earlier one.
use Rattle.std.proofs.Common.{◌≡◌, ℕ, ◌≤◌, ltb, List, sym, ap, ◌∙◌, arith}
use Rattle.std.proofs.lemmas.Bool.{le-ltb}
use Rattle.sim_base.proofs.Arrived.{arrived, filter-arrived}
use Rattle.sim_base.specs.declared.message.Message.{Message}

pub arrived-arrived : (soon until : ℕ) → soon ≤ until → (ms : List Message) → arrived (arrived ms until) soon ≡ arrived ms soon
arrived-arrived soon until l ms = filter-arrived (λ m. ltb m.arrival soon) until (λ m h. le-ltb m.arrival soon (omega arith)) ms

pub arrived-sooner : (soon until : ℕ) → soon ≤ until → (a b : List Message) → arrived a until ≡ arrived b until → arrived a soon ≡ arrived b soon
arrived-sooner soon until l a b h = sym (arrived-arrived soon until l a) ∙ ap (λ x. arrived x soon) h ∙ arrived-arrived soon until l b
