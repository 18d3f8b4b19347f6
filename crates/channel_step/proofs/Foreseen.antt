-- What a channel knows of its next command, as cycles pass.
use Rattle.std.proofs.Common.{◌≡◌, ℕ, zero, suc, ◌<◌, ◌≤◌, Bool, true, false, List, [], ◌∷◌, length, take, Option, Some, None, refl, sym, ap, subst, ◌∙◌, arith}
use Rattle.std.specs.Prelude.{IfSome, is_some, option_and_then, slice_get}
use Rattle.std.proofs.lemmas.Bool.{false≢true}
use Rattle.sim_base.specs.declared.config.Config.{Config}
use Rattle.sim_base.specs.Scheduling.{candidates, choice_between, is_column_command, lowest_due, needed}
use Rattle.sim_base.specs.declared.command.Command.{Command}
use Rattle.sim_base.specs.declared.command.IssuedCommand.{IssuedCommand}
use Rattle.queue.specs.declared.request_log.Arrived.{Arrived}
use Rattle.queue.specs.Log.{waiting_requests, all_requests, waits_at}
use Rattle.queue.specs.View.{QueueView, is_draining}
use Rattle.channel_step.specs.FrFcfs.Arrivals.{KeepsNext}
use Rattle.channel_step.specs.FrFcfs.Choices.{choice_in, command_of, needed_if, IsFor}
use Rattle.channel_step.specs.Past.{Past, commands_after}
use Rattle.channel_step.specs.Queued.{request_at, drain_decided}
use Rattle.channel_step.specs.FrFcfs.Cycles.{IsNext}
use Rattle.channel_step.specs.declared.fr_fcfs.choice.Need.{Need}
use Rattle.channel_step.specs.declared.fr_fcfs.choice.Need.TheVariants as Needs
use Rattle.channel_step.specs.Channels.{IsNextCommand, IsNextCommandAt, IsForeseen, IsFound, IsInCycle, HasPast}
use Rattle.channel_step.specs.declared.channel.Channel.{Channel}
use Rattle.channel_step.specs.declared.next_command.NextCommand.{NextCommand}
use Rattle.channel_step.specs.declared.next_command.NextCommand.TheVariants.{Unknown, Known}
use Rattle.channel_step.proofs.FrFcfs.Legal.{needs_if}
use Rattle.channel_step.proofs.Stretches.{settled_twice}

-- what is foreseen, by cases
pub next_command-from : (s : Config) (history : List IssuedCommand) (queue : QueueView) (from : ℕ) (next_command : NextCommand) → IsForeseen s history queue from next_command → IsNextCommand s history queue from next_command
next_command-from s history queue from Unknown h = tt
next_command-from s history queue from (Known None) h = h.never refl
next_command-from s history queue from (Known (Some next)) h = h.at next.0 next.1 refl

pub foreseen-from : (s : Config) (history : List IssuedCommand) (queue : QueueView) (from : ℕ) (next_command : NextCommand) → IsNextCommand s history queue from next_command → IsForeseen s history queue from next_command
foreseen-from s history queue from Unknown h = record { never = λ e. cc; at = λ cycle need e. cc }
foreseen-from s history queue from (Known None) h = record { never = λ e. h; at = λ cycle need e. cc }
foreseen-from s history queue from (Known (Some next)) h = record { never = λ e. cc; at = λ cycle need e. subst (IsNextCommand s history queue from) e h }

-- what is foreseen of the next command is so from each later cycle on
next_command-later : (s : Config) (history : List IssuedCommand) (queue : QueueView) (from later : ℕ) (next_command : NextCommand) → from ≤ later → IsNextCommand s history queue from next_command → IsNextCommand s history queue later next_command
next_command-later s history queue from later Unknown l h = tt
next_command-later s history queue from later (Known None) l h = λ t m. h t (omega arith)
next_command-later s history queue from later (Known (Some next)) l h =
    record { then_is = h.then_is; there_is = h.there_is; none_before = λ t m k. h.none_before t (omega arith) k; place = h.place }

-- a queue that is decided drains as before
pub drain_decided-same : (queue : QueueView) → is_draining queue ≡ is_draining (drain_decided queue)
drain_decided-same queue = sym (settled_twice _ _ queue.drain_decided)

choice-drain_decided : (s : Config) (history : List IssuedCommand) (queue : QueueView) (t : ℕ) → choice_in s history (drain_decided queue) t ≡ choice_in s history queue t
choice-drain_decided s history queue t =
    ap (λ d. choice_between s history t (candidates s d (waiting_requests queue.log)) (lowest_due s history t)) (sym (drain_decided-same queue))

-- what is foreseen of the next command is so for the queue once its drain is decided
next_command-drain_decided : (s : Config) (history : List IssuedCommand) (queue : QueueView) (from : ℕ) (next_command : NextCommand) → IsNextCommand s history queue from next_command → IsNextCommand s history (drain_decided queue) from next_command
next_command-drain_decided s history queue from Unknown h = tt
next_command-drain_decided s history queue from (Known None) h = λ t m. choice-drain_decided s history queue t ∙ h t m
next_command-drain_decided s history queue from (Known (Some next)) h = record {
  then_is = choice-drain_decided s history queue next.0 ∙ h.then_is;
  there_is = h.there_is;
  none_before = λ t m k. choice-drain_decided s history queue t ∙ h.none_before t m k;
  place = h.place;
}

-- what was found is known from the cycle on in which it was looked for
found-next_command : (s : Config) (history : List IssuedCommand) (queue : QueueView) (now : ℕ) (next : Option (ℕ × Need)) → IsNext (choice_in s history queue) (command_of s history queue.log) now next
    → IfSome next (λ n. IsFor s.ranks queue.log n.1) → IsNextCommand s history queue now (Known next)
found-next_command s history queue now None h place = h
found-next_command s history queue now (Some next) h place = record { then_is = h.then_is; there_is = h.there_is; none_before = h.none_before; place = place }

pub kept-in_cycle : (c : Channel) (past : Past) (now : ℕ) (next : Option (ℕ × Need)) → IsInCycle c past → now ≡ c.cycle
    → IsFound c past.config (commands_after past) now next → IsInCycle (record c { next_command = Known next }) past
kept-in_cycle c past now next h at f =
    let history = commands_after past in
    record {
      made_for = record {
        config_is = h.made_for.config_is;
        number_is = h.made_for.number_is;
        high_is = h.made_for.high_is;
        low_is = h.made_for.low_is;
        latencies_are = h.made_for.latencies_are;
        room_is = h.made_for.room_is;
        banks_are = h.made_for.banks_are;
        in_banks = h.made_for.in_banks;
        within = h.made_for.within;
        longest = h.made_for.longest;
      };
      cycle_is = h.cycle_is;
      joined = h.joined;
      candidates_stand = h.candidates_stand;
      banks_stand = h.banks_stand;
      refreshes_stand = h.refreshes_stand;
      foresees =
          foreseen-from past.config history c.queue c.cycle (Known next)
          (subst (λ t. IsNextCommand past.config history c.queue t (Known next)) at (found-next_command past.config history c.queue now next f.0 f.1));
      keeps_served = h.keeps_served;
    }

-- a channel between two cycles still stands for its past when it keeps the next command that was found
pub kept-stands : (c : Channel) (past : Past) (now : ℕ) (next : Option (ℕ × Need)) → HasPast c past → now ≡ c.cycle
    → IsFound c past.config (commands_after past) now next → HasPast (record c { next_command = Known next }) past
kept-stands c past now next h at f =
    let history = commands_after past in
    record {
      made_for = record {
        config_is = h.made_for.config_is;
        number_is = h.made_for.number_is;
        high_is = h.made_for.high_is;
        low_is = h.made_for.low_is;
        latencies_are = h.made_for.latencies_are;
        room_is = h.made_for.room_is;
        banks_are = h.made_for.banks_are;
        in_banks = h.made_for.in_banks;
        within = h.made_for.within;
        longest = h.made_for.longest;
      };
      cycle_is = h.cycle_is;
      recalls = h.recalls;
      candidates_stand = h.candidates_stand;
      banks_stand = h.banks_stand;
      refreshes_stand = h.refreshes_stand;
      foresees =
          foreseen-from past.config history c.queue c.cycle (Known next)
          (subst (λ t. IsNextCommand past.config history c.queue t (Known next)) at (found-next_command past.config history c.queue now next f.0 f.1));
      keeps_served = h.keeps_served;
    }

-- what is foreseen holds where the next command is not known
pub foreseen-unknown : (s : Config) (history : List IssuedCommand) (queue : QueueView) (from : ℕ) → IsForeseen s history queue from Unknown
foreseen-unknown s history queue from = foreseen-from s history queue from Unknown tt

pub foreseen-later : (s : Config) (history : List IssuedCommand) (queue : QueueView) (from later : ℕ) (next_command : NextCommand) → from ≤ later → IsForeseen s history queue from next_command → IsForeseen s history queue later next_command
foreseen-later s history queue from later next_command l h =
    foreseen-from s history queue later next_command (next_command-later s history queue from later next_command l (next_command-from s history queue from next_command h))

pub foreseen-drain_decided : (s : Config) (history : List IssuedCommand) (queue : QueueView) (from : ℕ) (next_command : NextCommand) → IsForeseen s history queue from next_command → IsForeseen s history (drain_decided queue) from next_command
foreseen-drain_decided s history queue from next_command h =
    foreseen-from s history (drain_decided queue) from next_command (next_command-drain_decided s history queue from next_command (next_command-from s history queue from next_command h))

pub some-is : {X : Type 0} (o : Option X) → is_some o ≡ true → (x : X) × (o ≡ Some x)
some-is None e = absurd (false≢true e)
some-is (Some x) e = (x, refl)

-- a place among the first requests is one among all
taken-place : (n place : ℕ) (log : List Arrived) → place < length (take n log) → waits_at (take n log) place ≡ true
    → (place < length log) × (waits_at log place ≡ true) × (slice_get (all_requests (take n log)) place ≡ slice_get (all_requests log) place)
taken-place zero place log l w = absurd (omega arith)
taken-place (suc n) place [] l w = absurd (omega arith)
taken-place (suc n) zero (a ∷ log) l w = (omega arith, w, refl)
taken-place (suc n) (suc place) (a ∷ log) l w = let rest = taken-place n place log (omega arith) w in (omega (arith, rest.0), rest.1, rest.2)

taken-waits : (n place : ℕ) (log earlier : List Arrived) → earlier ≡ take n log → (place < length earlier) × (waits_at earlier place ≡ true) → (place < length log) × (waits_at log place ≡ true)
taken-waits n place log earlier is h =
    let k = subst (λ x. (place < length x) × (waits_at x place ≡ true)) is h in
    let there = taken-place n place log k.0 k.1 in
    (there.0, there.1)

-- what needs a command among the first requests of a log is there among all, and needs the same
pub taken-for : (n ranks : ℕ) (log earlier : List Arrived) (need : Need) → earlier ≡ take n log → IsFor ranks earlier need → IsFor ranks log need
taken-for n ranks log earlier (Needs.Row place) is h = taken-waits n place log earlier is h
taken-for n ranks log earlier (Needs.Column place) is h = taken-waits n place log earlier is h
taken-for n ranks log earlier (Needs.Refresh rank) is h = h

taken-needed : (history : List IssuedCommand) (n place : ℕ) (log earlier : List Arrived) (column : Bool) → earlier ≡ take n log → (place < length earlier) × (waits_at earlier place ≡ true)
    → option_and_then (needed_if column history) (slice_get (all_requests earlier) place) ≡ option_and_then (needed_if column history) (slice_get (all_requests log) place)
taken-needed history n place log earlier column is h =
    let k = subst (λ x. (place < length x) × (waits_at x place ≡ true)) is h in
    ap (λ x. option_and_then (needed_if column history) (slice_get (all_requests x) place)) is
    ∙ ap (option_and_then (needed_if column history)) (taken-place n place log k.0 k.1).2

taken-command : (s : Config) (history : List IssuedCommand) (n : ℕ) (log earlier : List Arrived) (need : Need) → earlier ≡ take n log → IsFor s.ranks earlier need
    → command_of s history earlier need ≡ command_of s history log need
taken-command s history n log earlier (Needs.Row place) is h = taken-needed history n place log earlier false is h
taken-command s history n log earlier (Needs.Column place) is h = taken-needed history n place log earlier true is h
taken-command s history n log earlier (Needs.Refresh rank) is h = refl

pub request-some : (place : ℕ) (log : List Arrived) → place < length log → slice_get (all_requests log) place ≡ Some (request_at log place)
request-some place [] l = absurd (omega arith)
request-some zero (a ∷ log) l = refl
request-some (suc place) (a ∷ log) l = request-some place log (omega arith)

-- what is asked for a request is what it needs, a column command or none
pub request-needs : (history : List IssuedCommand) (log : List Arrived) (place : ℕ) (column : Bool) (command : Command) → place < length log
    → option_and_then (needed_if column history) (slice_get (all_requests log) place) ≡ Some command
    → (needed history (request_at log place) ≡ command) × (is_column_command (needed history (request_at log place)) ≡ column)
request-needs history log place column command l is =
    needs_if column history (request_at log place) command (sym (ap (option_and_then (needed_if column history)) (request-some place log l)) ∙ is)

-- What was found is so still where what is next stays so with the requests that follow.
pub next_command-kept : (s : Config) (history : List IssuedCommand) (earlier queue : QueueView) (n from cycle : ℕ) (need : Need) → earlier.log ≡ take n queue.log
    → ((command : Command) → command_of s history queue.log need ≡ Some command → KeepsNext (choice_in s history earlier) (choice_in s history queue) cycle command)
    → IsNextCommandAt s history earlier from cycle need → IsNextCommandAt s history queue from cycle need
next_command-kept s history earlier queue n from cycle need is keeps h =
    let place = taken-for n s.ranks queue.log earlier.log need is h.place in
    let same = taken-command s history n queue.log earlier.log need is h.place in
    let there = sym (ap is_some same) ∙ h.there_is in
    let asked = some-is (command_of s history queue.log need) there in
    let k = keeps asked.0 asked.1 in
    record {
      then_is = k.then_is (h.then_is ∙ same ∙ asked.1) ∙ sym asked.1;
      there_is = there;
      none_before = λ t late early. k.none_before t early (h.none_before t late early);
      place = place;
    }
