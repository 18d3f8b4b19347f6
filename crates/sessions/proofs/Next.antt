-- The first of what is next in each channel.
use Rattle.std.proofs.Common.{◌≡◌, ℕ, ◌<◌, Option, Some, None, refl, sym, ap, subst, ◌∙◌}
use Rattle.std.specs.Prelude.{option_map}
use Rattle.sim_base.specs.declared.command.IssuedCommand.{IssuedCommand}
use Rattle.sim_base.specs.declared.message.Message.{Message}
use Rattle.sessions.specs.Sessions.{next_command_of, next_reply_of}
use Rattle.sessions.specs.Earliest.{IsEarliestAt, IsEarliest}
use Rattle.sessions.specs.Memories.{Pasts, command_cycles, reply_arrivals, IsNextCommand, IsNextReply}

or-zero : Option ℕ → ℕ
or-zero (Some n) = n
or-zero None = 0

same-some : (a b : ℕ) → Some a ≡ Some b → a ≡ b
unfolding or-zero
same-some a b e = ap or-zero e

none-map : {X : Type 0} (f : X → ℕ) (o : Option X) → option_map f o ≡ None → o ≡ None
none-map f None e = refl
none-map f (Some x) e = absurd (cc)

none-next : {X : Type 0} (f : X → ℕ) (next : ℕ → Option X) (count : ℕ) → ((k : ℕ) → k < count → option_map f (next k) ≡ None) → (k : ℕ) → k < count → next k ≡ None
none-next f next count h k l = none-map f (next k) (h k l)

pub next-command : (channels count : ℕ) (pasts : Pasts) (now cycle number : ℕ) (result : Option (ℕ × IssuedCommand)) → count ≡ channels → IsEarliestAt (command_cycles pasts now) count number cycle
    → result ≡ option_map (λ (c : IssuedCommand). (number, c)) (next_command_of (pasts.past number) now) → IsNextCommand channels pasts now result
next-command channels count pasts now cycle number result same h is =
    subst (IsNextCommand channels pasts now) (sym is) (by (next_command_of (pasts.past number) now) refl)
  where
    by : (o : Option IssuedCommand) → next_command_of (pasts.past number) now ≡ o → IsNextCommand channels pasts now (option_map (λ (c : IssuedCommand). (number, c)) o)
    by None e = absurd (let f : None ≡ Some cycle = sym (ap (option_map (λ (c : IssuedCommand). c.cycle)) e) ∙ h.cycle_is in cc)
    by (Some command) e =
        let at : command.cycle ≡ cycle = same-some command.cycle cycle (sym (ap (option_map (λ (c : IssuedCommand). c.cycle)) e) ∙ h.cycle_is) in
        record {
          command_is = e;
          is_first = subst (IsEarliestAt (command_cycles pasts now) channels number) (sym at) (subst (λ n. IsEarliestAt (command_cycles pasts now) n number cycle) same h);
        }

pub no-command : (channels count : ℕ) (pasts : Pasts) (now : ℕ) → count ≡ channels → IsEarliest (command_cycles pasts now) count None → IsNextCommand channels pasts now None
no-command channels count pasts now same h = none-next (λ (c : IssuedCommand). c.cycle) (λ k. next_command_of (pasts.past k) now) channels (subst (λ n. IsEarliest (command_cycles pasts now) n None) same h)

pub next-reply : (channels count : ℕ) (pasts : Pasts) (now arrival number : ℕ) (result : Option (ℕ × Message)) → count ≡ channels → IsEarliestAt (reply_arrivals pasts now) count number arrival
    → result ≡ option_map (λ (m : Message). (number, m)) (next_reply_of (pasts.past number) now) → IsNextReply channels pasts now result
next-reply channels count pasts now arrival number result same h is =
    subst (IsNextReply channels pasts now) (sym is) (by (next_reply_of (pasts.past number) now) refl)
  where
    by : (o : Option Message) → next_reply_of (pasts.past number) now ≡ o → IsNextReply channels pasts now (option_map (λ (m : Message). (number, m)) o)
    by None e = absurd (let f : None ≡ Some arrival = sym (ap (option_map (λ (m : Message). m.arrival)) e) ∙ h.cycle_is in cc)
    by (Some reply) e =
        let at : reply.arrival ≡ arrival = same-some reply.arrival arrival (sym (ap (option_map (λ (m : Message). m.arrival)) e) ∙ h.cycle_is) in
        record {
          reply_is = e;
          is_first = subst (IsEarliestAt (reply_arrivals pasts now) channels number) (sym at) (subst (λ n. IsEarliestAt (reply_arrivals pasts now) n number arrival) same h);
        }

pub no-reply : (channels count : ℕ) (pasts : Pasts) (now : ℕ) → count ≡ channels → IsEarliest (reply_arrivals pasts now) count None → IsNextReply channels pasts now None
no-reply channels count pasts now same h = none-next (λ (m : Message). m.arrival) (λ k. next_reply_of (pasts.past k) now) channels (subst (λ n. IsEarliest (reply_arrivals pasts now) n None) same h)
