-- What a board keeps, whatever its threads do.
--     weigh h xs      h of each item, added up
--     view_of may_put put taken      what a pass of the queue knows
--     spent      what a pass knows that has nothing
--     Kept items views      the rule
--     Moment items v      at one moment the queue held these, and the rule held
--     WasInFront x v      at one moment this was in front, and the rule held
--     IsSettled v      no more was taken than was put, and if as many were, they are the same
--     OnlyTakes v      what a pass knows that has put nothing and may put nothing
--     IsPassAt name pass      a pass of the queue of the board of this name
--     PutView      what a contract sees of the seat that puts
--     BlankView      what a contract sees of a board that has no name yet
--     blank_view name room      what tells the board's queue from all others, and how many tasks it has room for
--     put_view put returned      what was put, and what was returned
--     with_put seat task      one more task was put
--     no_table      the name of no board
use Rattle.std.specs.Prelude.{◌≡◌, ℕ, ◌+◌, ◌≤◌, List, [], ◌∷◌, ◌++◌, length}
use mathlib.Core.Option.{some}
use lib.ListN.{get_elem?}
use Rattle.atomic_table.specs.Seated.{TableId}
use Rattle.crossbeam_queue.specs.Passes.{Pass}
use Rattle.crew.specs.declared.rule.PassView.{PassView}

-- h of each item, added up
abbrev pub weigh : {X : Type 0} → (X → ℕ) → List X → ℕ
weigh h [] = 0
weigh h (x ∷ xs) = h x + weigh h xs

module _ {X : Type 0} where
  -- what a pass knows
  abbrev pub view_of : ℕ → List X → List X → PassView X
  view_of may_put put taken = record { may_put = may_put; put = put; taken = taken }

  -- what a pass knows that has nothing
  abbrev pub spent : PassView X
  spent = view_of 0 [] []

  -- One pass may put. What was put is what was taken and what the queue holds, each once, however the tasks are
  -- weighed. The other passes have put nothing.
  abbrev pub Kept : List X → List (PassView X) → Type 0
  Kept items views =
      (weigh (λ v. v.may_put) views ≡ 1)
      × ((h : X → ℕ) → weigh (λ v. weigh h v.put) views ≡ weigh (λ v. weigh h v.taken) views + weigh h items)
      × ((i : ℕ) (v : PassView X) → get_elem? views i ≡ some v → v.may_put ≡ 0 → v.put ≡ [])

  -- At one moment the queue held these, in this order, and the rule held of them and of what all passes knew, this one
  -- among them.
  abbrev pub Moment : List X → PassView X → Type 0
  Moment items v = (views : List (PassView X)) × (i : ℕ) × (get_elem? views i ≡ some v) × Kept items views

  -- at one moment this was in front, and the rule held
  abbrev pub WasInFront : X → PassView X → Type 0
  WasInFront x v = (rest : List X) × Moment (x ∷ rest) v

  -- No more was taken than was put. If as many were, they weigh the same, however the tasks are weighed.
  abbrev pub IsSettled : PassView X → Type 0
  IsSettled v =
      (length v.taken ≤ length v.put)
      × (length v.put ≤ length v.taken → (h : X → ℕ) → weigh h v.taken ≡ weigh h v.put)

  -- what a pass knows that has put nothing and may put nothing
  abbrev pub OnlyTakes : PassView X → Type 0
  OnlyTakes v = v ≡ view_of 0 [] v.taken

  -- it is a pass of the queue of the board of this name, and no slot of the queue is out with it
  abbrev pub IsPassAt : TableId → Pass X (PassView X) → Type 0
  IsPassAt name pass = (pass.table_id ≡ name) × (pass.me.1 ≡ [])

-- what was put since the board was cleared last, and what was returned
pub record PutView (X : Type 0) : Type 0 where
  pub put : List X
  pub returned : List X

-- a board that has no name yet: what tells its queue from all others, and how many tasks it has room for
pub record BlankView : Type 0 where
  pub name : TableId
  pub room : ℕ

-- what tells a board's queue from all others, and how many tasks it has room for
abbrev pub blank_view : TableId → ℕ → BlankView
blank_view name room = record { name = name; room = room }

-- what was put, and what was returned
abbrev pub put_view : {X : Type 0} → List X → List X → PutView X
put_view put returned = record { put = put; returned = returned }

-- one more task was put
abbrev pub with_put : {X : Type 0} → PutView X → X → PutView X
with_put seat task = put_view (seat.put ++ task ∷ []) seat.returned

-- the name of no board
abbrev pub no_table : TableId
no_table = record { words = 0; slots = 0; views_name = 0; atom = 0; block = 0; offset = 0; slot_names = [] }
