-- No entry is served twice.
use Rattle.std.proofs.Common.{◌≡◌, ℕ, zero, suc, ◌+◌, ◌<◌, ◌≤◌, true, ◌&&◌, ◌||◌, eqb, List, [], ◌∷◌, get_or, Option, Some, None, refl, sym, ap, ap₂, subst, ◌∙◌, ◌⊎◌, inl, inr, arith}
use Rattle.std.specs.Prelude.{filter_map, slice_get}
use Rattle.std.specs.Option.{IfSome}
use Rattle.std.specs.List.{list_any, enumerate_from}
use Rattle.std.proofs.lemmas.Bool.{false≢true, and_parts, eqb-true, cases_lt, cases_order, or_left, or_right}
use Rattle.std.proofs.lemmas.List.{get_or_past}
use Rattle.sim_base.specs.declared.message.Access.{Access}
use Rattle.sim_base.specs.declared.message.Access.TheVariants as access
use Rattle.sim_base.specs.declared.config.Config.{Config}
use Rattle.sim_base.specs.Places.{place_of}
use Rattle.sim_base.specs.History.{trace_of, issued_at, issued_commands}
use Rattle.sim_base.specs.Scheduling.{serves, is_served, source_of}
use Rattle.sim_base.specs.declared.command.Command.{Command}
use Rattle.sim_base.specs.declared.command.Command.TheVariants.{Act, Rd, Wr, Pre, Prea, Ref}
use Rattle.sim_base.specs.declared.command.IssuedCommand.{IssuedCommand}
use Rattle.sim_base.specs.declared.command.Source.{Source}
use Rattle.sim_base.specs.declared.message.Request.{Request}
use Rattle.sim_base.specs.declared.place.Place.{Place}
use Rattle.sim_base.specs.declared.trace.Entry.{Entry}
use Rattle.laws.specs.Messages.{memory_entry}
use Rattle.laws.specs.Commands.{channel_steps_of, history_of}
use Rattle.laws.specs.Requests.{serves_entry, serves_entry_in, IsServedAt, RequestsAreServedOnce}
use Rattle.laws.proofs.Legal.{chosen, length-channel_steps_of, channel_steps_of-at}
use Rattle.laws.proofs.Traced.{Queued, ServesQueued, chosen-serves}

-- a channel serves an entry in a cycle
abbrev pub ServesAt : Config → List (List Entry) → ℕ → ℕ → ℕ → ℕ → Type 0
ServesAt s traces core entry k t = serves_entry_in core entry (chosen s traces t k) ≡ true

-- a request of this entry is in the queue
abbrev IsQueuedFor : Config → List (List Entry) → ℕ → ℕ → ℕ → ℕ → Type 0
IsQueuedFor s traces core entry k t = (r : Request) × Queued s traces t k r × (r.core ≡ core) × (r.entry ≡ entry)

queued-source : (s : Config) (traces : List (List Entry)) (core entry k t : ℕ) (r : Request) (source : Source) → Queued s traces t k r → source ≡ source_of r
    → (eqb core source.core && eqb entry source.entry) ≡ true → IsQueuedFor s traces core entry k t
queued-source s traces core entry k t r source q e h =
    let both = and_parts (eqb core source.core) (eqb entry source.entry) h in
    let a : core ≡ source.core = eqb-true _ _ both.0 in
    let b : entry ≡ source.entry = eqb-true _ _ both.1 in
    (r, q, sym (a ∙ ap (λ (x : Source). x.core) e), sym (b ∙ ap (λ (x : Source). x.entry) e))

serves-queued : (s : Config) (traces : List (List Entry)) (core entry k t : ℕ) (o : Option Command) → IfSome o (ServesQueued s traces t k) → serves_entry_in core entry o ≡ true
    → IsQueuedFor s traces core entry k t
serves-queued s traces core entry k t None q h = absurd (false≢true h)
serves-queued s traces core entry k t (Some (Rd bank row column source)) q h = queued-source s traces core entry k t q.0 source q.1 q.3 h
serves-queued s traces core entry k t (Some (Wr bank row column source)) q h = queued-source s traces core entry k t q.0 source q.1 q.3 h
serves-queued s traces core entry k t (Some (Act bank row source)) q h = absurd (false≢true h)
serves-queued s traces core entry k t (Some (Pre bank source)) q h = absurd (false≢true h)
serves-queued s traces core entry k t (Some (Prea rank)) q h = absurd (false≢true h)
serves-queued s traces core entry k t (Some (Ref rank)) q h = absurd (false≢true h)

at-queued : (s : Config) (traces : List (List Entry)) (core entry k t : ℕ) → ServesAt s traces core entry k t → IsQueuedFor s traces core entry k t
at-queued s traces core entry k t h = serves-queued s traces core entry k t (chosen s traces t k) (chosen-serves s traces t k) h

-- a command of the steps is among the commands that were issued
any-issued : (core entry k i : ℕ) (steps : List (Option Command)) (t : ℕ) → serves_entry_in core entry (get_or steps t None) ≡ true
    → list_any (λ (x : IssuedCommand). serves_entry core entry x.command) (filter_map (λ e. issued_at k e.0 e.1) (enumerate_from i steps)) ≡ true
any-issued core entry k i [] t h = absurd (false≢true h)
any-issued core entry k i (None ∷ steps) zero h = absurd (false≢true h)
any-issued core entry k i (Some c ∷ steps) zero h = or_left (serves_entry core entry c) _ h
any-issued core entry k i (None ∷ steps) (suc t) h = any-issued core entry k (i + 1) steps t h
any-issued core entry k i (Some c ∷ steps) (suc t) h = or_right (serves_entry core entry c) _ (any-issued core entry k (i + 1) steps t h)

serves-same : (r : Request) (c : Command) → serves r c ≡ serves_entry r.core r.entry c
serves-same r (Rd bank row column source) = refl
serves-same r (Wr bank row column source) = refl
serves-same r (Act bank row source) = refl
serves-same r (Pre bank source) = refl
serves-same r (Prea rank) = refl
serves-same r (Ref rank) = refl

any-same : (r : Request) (xs : List IssuedCommand) → list_any (λ (x : IssuedCommand). serves r x.command) xs ≡ list_any (λ (x : IssuedCommand). serves_entry r.core r.entry x.command) xs
any-same r [] = refl
any-same r (x ∷ xs) = ap₂ (λ a b. a || b) (serves-same r x.command) (any-same r xs)

-- a request that is in the queue was not served before
not_before : (s : Config) (traces : List (List Entry)) (core entry k t u : ℕ) → k < s.channels → t < u → ServesAt s traces core entry k t → ServesAt s traces core entry k u → ⊥
unfolding is_served issued_commands
not_before s traces core entry k t u l b h g = go (at-queued s traces core entry k u g)
  where
    go : IsQueuedFor s traces core entry k u → ⊥
    go (r, q, e, f) =
        let there : serves_entry_in r.core r.entry (get_or (channel_steps_of s traces u k) t None) ≡ true =
        ap (serves_entry_in r.core r.entry) (channel_steps_of-at s traces k l u t b) ∙ ap₂ (λ x y. serves_entry_in x y (chosen s traces t k)) e f ∙ h in
        false≢true (sym q.unserved ∙ any-same r (history_of s traces u k) ∙ any-issued r.core r.entry k 0 (channel_steps_of s traces u k) t there)

pub once_in_channel : (s : Config) (traces : List (List Entry)) (core entry k t u : ℕ) → k < s.channels → ServesAt s traces core entry k t → ServesAt s traces core entry k u → t ≡ u
once_in_channel s traces core entry k t u l h g = go (cases_order t u)
  where
    go : (t ≡ u) ⊎ ((t < u) ⊎ (u < t)) → t ≡ u
    go (inl e) = e
    go (inr (inl b)) = absurd (not_before s traces core entry k t u l b h g)
    go (inr (inr b)) = absurd (not_before s traces core entry k u t l b g h)

-- an address is that of one place
same_address : (v w : Access) (a b : ℕ) → Some (memory_entry v a) ≡ Some (memory_entry w b) → a ≡ b
same_address access.Write access.Write a b e = cc
same_address access.Write access.Read a b e = cc
same_address access.Read access.Write a b e = cc
same_address access.Read access.Read a b e = cc

pub one_channel : (s : Config) (traces : List (List Entry)) (core entry k j t u : ℕ) → ServesAt s traces core entry k t → ServesAt s traces core entry j u → k ≡ j
one_channel s traces core entry k j t u h g = go (at-queued s traces core entry k t h) (at-queued s traces core entry j u g)
  where
    go : IsQueuedFor s traces core entry k t → IsQueuedFor s traces core entry j u → k ≡ j
    go (q, a, c, e) (r, b, d, f) =
        let x : slice_get (trace_of traces core) entry ≡ Some (memory_entry q.access q.address) = sym (ap₂ (λ y z. slice_get (trace_of traces y) z) c e) ∙ a.traced.entry in
        let y : slice_get (trace_of traces core) entry ≡ Some (memory_entry r.access r.address) = sym (ap₂ (λ y z. slice_get (trace_of traces y) z) d f) ∙ b.traced.entry in
        let z : q.address ≡ r.address = same_address q.access r.access q.address r.address (sym x ∙ y) in
        sym a.channel ∙ ap (λ (p : Place). p.channel) (a.traced.place ∙ ap (place_of s) z ∙ sym b.traced.place) ∙ b.channel

pub served_once : (s : Config) (traces : List (List Entry)) (core entry k j t u : ℕ) → k < s.channels → ServesAt s traces core entry k t → ServesAt s traces core entry j u → (k ≡ j) × (t ≡ u)
served_once s traces core entry k j t u l h g =
    let e : k ≡ j = one_channel s traces core entry k j t u h g in
    (e, once_in_channel s traces core entry k t u l h (subst (λ i. ServesAt s traces core entry i u) (sym e) g))

-- a cycle in which an entry is served is one of the run
served-at : (s : Config) (traces : List (List Entry)) (n core entry k t : ℕ) → k < s.channels → IsServedAt s traces n core entry k t → ServesAt s traces core entry k t
served-at s traces n core entry k t l h = go (cases_lt t n)
  where
    go : (t < n) ⊎ (n ≤ t) → ServesAt s traces core entry k t
    go (inl b) = ap (serves_entry_in core entry) (sym (channel_steps_of-at s traces k l n t b)) ∙ h
    go (inr b) =
        let long = length-channel_steps_of s traces n k in
        absurd (false≢true (ap (serves_entry_in core entry) (sym (get_or_past (channel_steps_of s traces n k) t None (omega arith))) ∙ h))

pub requests_are_served_once : (s : Config) (traces : List (List Entry)) (n : ℕ) → RequestsAreServedOnce s traces n
requests_are_served_once s traces n core entry k j t u l m h g = served_once s traces core entry k j t u l (served-at s traces n core entry k t l h) (served-at s traces n core entry j u m g)
