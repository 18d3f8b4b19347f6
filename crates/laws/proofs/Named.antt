-- A command stands in the name of a request of the queue.
use Rattle.std.proofs.Common.{◌≡◌, ℕ, ◌<◌, ◌≤◌, eqb, List, length, Option, Some, None, refl, sym, ap, subst, ◌∙◌, arith}
use Rattle.std.specs.Prelude.{Contains}
use Rattle.std.specs.Option.{IfSome}
use Rattle.std.proofs.lemmas.Bool.{cond_both}
use Rattle.std.proofs.lemmas.List.Elements.{All-contains_itself, recursion_from_All}
use Rattle.sim_base.specs.declared.config.Config.{Config}
use Rattle.sim_base.specs.History.{inbox}
use Rattle.sim_base.specs.Counts.{source_in}
use Rattle.sim_base.specs.Scheduling.{queue_in, source_of, column_command, needed_at}
use Rattle.sim_base.specs.Machine.{run}
use Rattle.sim_base.specs.declared.command.Command.{Command}
use Rattle.sim_base.specs.declared.message.Request.{Request}
use Rattle.sim_base.specs.declared.message.Unit.TheVariants.{Channel}
use Rattle.sim_base.specs.declared.trace.Entry.{Entry}
use Rattle.sim_base.proofs.Accesses.{column_both}
use Rattle.laws.specs.Commands.{channel_steps_of}
use Rattle.laws.specs.Requests.{CommandsNameTheQueue}
use Rattle.laws.proofs.Bounded.{queue-then}
use Rattle.laws.proofs.Chosen.{choice-needed}
use Rattle.laws.proofs.Legal.{chosen, length-channel_steps_of, channel_steps_of-at}

-- a command stands in the name of one of these requests, or of none
abbrev Names : List Request → Command → Type 0
Names queue command = IfSome (source_in command) (λ source. (r : Request) × Contains queue r × (source ≡ source_of r))

needed_at-names : (queue : List Request) (r : Request) (o : Option ℕ) → Contains queue r → Names queue (needed_at o r)
needed_at-names queue r None h = (r, h, refl)
needed_at-names queue r (Some row) h =
    cond_both (eqb row r.place.row) (column_command r) _ (Names queue) (λ e. column_both (Names queue) r.access _ _ _ _ (λ f. (r, h, refl)) (λ f. (r, h, refl))) (λ e. (r, h, refl))

chosen-names : (s : Config) (traces : List (List Entry)) (n k t : ℕ) → k < s.channels → t ≤ n
    → IfSome (chosen s traces t k) (Names (queue_in k (channel_steps_of s traces n k) (inbox s traces (run s traces n) (Channel k)) t))
chosen-names s traces n k t l h =
    let steps = channel_steps_of s traces t k in
    let mail = inbox s traces (run s traces t) (Channel k) in
    let queue = queue_in k steps mail (length steps) in
    let e : queue ≡ queue_in k (channel_steps_of s traces n k) (inbox s traces (run s traces n) (Channel k)) t =
    ap (queue_in k steps mail) (length-channel_steps_of s traces t k) ∙ queue-then s traces k l t t (omega arith) ∙ sym (queue-then s traces k l n t h) in
    subst (λ q. IfSome (chosen s traces t k) (Names q)) e
    (choice-needed (Contains queue) (Names queue) s k steps mail (needed_at-names queue) (λ rank. tt) (λ rank. tt)
    (recursion_from_All (Contains queue) queue (All-contains_itself queue)))

pub commands_name_the_queue : (s : Config) (traces : List (List Entry)) (n : ℕ) → CommandsNameTheQueue s traces n
commands_name_the_queue s traces n k t command l h e =
    subst (λ o. IfSome o (Names (queue_in k (channel_steps_of s traces n k) (inbox s traces (run s traces n) (Channel k)) t))) (sym (channel_steps_of-at s traces k l n t h) ∙ e)
    (chosen-names s traces n k t l (omega arith))
