-- What a channel chooses: a command in the name of a request that waits, or a refresh.
use Rattle.std.proofs.Common.{◌≡◌, ℕ, zero, suc, ◌+◌, ◌<◌, Bool, true, false, eqb, ltb, List, Option, Some, None, refl, sym, subst, ◌∙◌, arith}
use Rattle.std.specs.Prelude.{find, option_map, is_some}
use Rattle.std.specs.Option.{IfSome}
use Rattle.std.specs.List.{AllByRecursion as Each, range_with_len}
use Rattle.std.proofs.lemmas.Bool.{cond_both, ltb-true, true≢false}
use Rattle.sim_base.proofs.Each.{IfSome-find, Each-all}
use Rattle.sim_base.proofs.Ordered.{Each-weaker}
use Rattle.sim_base.proofs.Served.{or_else-each, candidates-each}
use Rattle.sim_base.specs.declared.config.Config.{Config}
use Rattle.sim_base.specs.Counts.{source_in}
use Rattle.sim_base.specs.History.{below}
use Rattle.sim_base.specs.Places.{bank_in}
use Rattle.sim_base.specs.Rules.{is_legal, has_open_bank, open_row, rank_of, kind_of}
use Rattle.sim_base.specs.Scheduling.{source_of, column_command, needed_at, needed, ready_hit, ready_row, first_ready, refresh_command, if_legal, candidates, choice_between, due, lowest_due}
use Rattle.sim_base.specs.declared.command.Command.{Command}
use Rattle.sim_base.specs.declared.command.Command.TheVariants.{Act, Rd, Wr, Pre, Prea, Ref}
use Rattle.sim_base.specs.declared.command.IssuedCommand.{IssuedCommand}
use Rattle.sim_base.specs.declared.command.Source.{Source}
use Rattle.sim_base.specs.declared.message.Request.{Request}
use Rattle.bank_ready.specs.Refreshes.{IsNoRefresh}
use Rattle.bank_ready.specs.Words.{names_rank}
use Rattle.channel_step.proofs.Marks.{column_either}

-- what holds of all that is needed holds of what is chosen
ready-each : (P : Command → Type 0) (history : List IssuedCommand) (o : Option Request) → IfSome o (λ r. P (needed history r)) → IfSome (option_map (needed history) o) P
ready-each P history None h = tt
ready-each P history (Some r) h = h

pub between-each : (P : Command → Type 0) (s : Config) (history : List IssuedCommand) (now : ℕ) (requests : List Request) → Each (λ (r : Request). P (needed history r)) requests
    → (due : Option ℕ) → IfSome due (λ rank. P (refresh_command s history rank)) → IfSome (choice_between s history now requests due) P
unfolding choice_between first_ready if_legal
between-each P s history now requests h None k =
    ready-each P history _
    (or_else-each (λ r. P (needed history r)) _ _ (IfSome-find _ (ready_hit s history now) requests h) (IfSome-find _ (ready_row s history now requests) requests h))
between-each P s history now requests h (Some rank) k =
    cond_both (is_legal s history now (refresh_command s history rank)) (Some (refresh_command s history rank)) None (λ o. IfSome o P) (λ e. k) (λ e. tt)

-- what holds of all that the requests of a queue and a rank that is due need, holds of what is chosen from that queue
pub chosen-each : (P : Command → Type 0) (s : Config) (history : List IssuedCommand) (now : ℕ) (draining : Bool) (queue : List Request)
    → Each (λ (r : Request). P (needed history r)) queue → IfSome (lowest_due s history now) (λ rank. P (refresh_command s history rank))
    → IfSome (choice_between s history now (candidates s draining queue) (lowest_due s history now)) P
chosen-each P s history now draining queue h k =
    between-each P s history now (candidates s draining queue) (candidates-each (λ r. P (needed history r)) s draining queue h) (lowest_due s history now) k

-- what a request needs is an ACT, its column command, or a PRE
needed-cases : (P : Command → Type 0) (r : Request) → ((row : ℕ) → P (Act (bank_in r.place) row (source_of r)))
    → ((row column : ℕ) → P (Rd (bank_in r.place) row column (source_of r))) → ((row column : ℕ) → P (Wr (bank_in r.place) row column (source_of r)))
    → P (Pre (bank_in r.place) (source_of r)) → (o : Option ℕ) → P (needed_at o r)
needed-cases P r a b c d None = a r.place.row
needed-cases P r a b c d (Some row) =
    cond_both (eqb row r.place.row) (column_command r) (Pre (bank_in r.place) (source_of r)) P
    (λ e. column_either P r (b r.place.row r.place.column) (c r.place.row r.place.column))
    (λ e. d)

pub refresh-cases : (P : Command → Type 0) (s : Config) (history : List IssuedCommand) (rank : ℕ) → P (Prea rank) → P (Ref rank) → P (refresh_command s history rank)
unfolding refresh_command
refresh-cases P s history rank a b = cond_both (has_open_bank s history rank) (Prea rank) (Ref rank) P (λ e. a) (λ e. b)

-- what a request needs names no rank alone, and what refreshes a rank does
needs-no_rank : (history : List IssuedCommand) (r : Request) → names_rank (kind_of (needed history r)) ≡ false
unfolding needed
needs-no_rank history r =
    needed-cases (λ c. names_rank (kind_of c) ≡ false) r (λ row. refl) (λ row column. refl) (λ row column. refl) refl (open_row (bank_in r.place) history)

-- what a request needs is chosen only where no refresh is due
pub request-alone : (s : Config) (history : List IssuedCommand) (now : ℕ) (requests : List Request) (due : Option ℕ) (r : Request)
    → Some (needed history r) ≡ choice_between s history now requests due → is_some due ≡ false
unfolding choice_between if_legal
request-alone s history now requests None r e = refl
request-alone s history now requests (Some rank) r e =
    let refreshes : names_rank (kind_of (needed history r)) ≡ true =
    subst (λ o. IfSome o (λ c. names_rank (kind_of c) ≡ true)) (sym e)
    (cond_both (is_legal s history now (refresh_command s history rank)) (Some (refresh_command s history rank)) None (λ o. IfSome o (λ c. names_rank (kind_of c) ≡ true))
    (λ f. refresh-cases (λ c. names_rank (kind_of c) ≡ true) s history rank refl refl) (λ f. tt)) in
    absurd (true≢false (sym refreshes ∙ needs-no_rank history r))

ifsome-all : {X : Type 0} (P : X → Type 0) (o : Option X) → ((x : X) → P x) → IfSome o P
ifsome-all P None h = tt
ifsome-all P (Some x) h = h x

-- what is chosen stands in the name of a request that waits, if it stands in the name of one
pub chosen-named : (P : Source → Type 0) (s : Config) (history : List IssuedCommand) (now : ℕ) (draining : Bool) (queue : List Request)
    → Each (λ (r : Request). P (source_of r)) queue
    → IfSome (choice_between s history now (candidates s draining queue) (lowest_due s history now)) (λ c. IfSome (source_in c) P)
unfolding needed
chosen-named P s history now draining queue h =
    chosen-each (λ c. IfSome (source_in c) P) s history now draining queue
    (Each-weaker (λ (r : Request). P (source_of r)) _
    (λ r k. needed-cases (λ c. IfSome (source_in c) P) r (λ row. k) (λ row column. k) (λ row column. k) k (open_row (bank_in r.place) history)) queue h)
    (ifsome-all _ (lowest_due s history now) (λ rank. refresh-cases (λ c. IfSome (source_in c) P) s history rank tt tt))

find-below : (p : ℕ → Bool) (a n : ℕ) → IfSome (find p (range_with_len a n)) (λ k. (k < a + n) × (p k ≡ true))
find-below p a zero = tt
find-below p a (suc n) =
    cond_both (p a) (Some a) (find p (range_with_len (a + 1) n)) (λ o. IfSome o (λ k. (k < a + suc n) × (p k ≡ true)))
    (λ e. (omega arith, e))
    (λ e. more (find p (range_with_len (a + 1) n)) (find-below p (a + 1) n))
  where
    more : (o : Option ℕ) → IfSome o (λ k. (k < a + 1 + n) × (p k ≡ true)) → IfSome o (λ k. (k < a + suc n) × (p k ≡ true))
    more None h = tt
    more (Some k) h = (omega arith, h.1)

-- the lowest rank with a refresh that is due is one of the ranks, and has one
pub lowest-is_due : (s : Config) (history : List IssuedCommand) (now : ℕ) → IfSome (lowest_due s history now) (λ rank. (rank < s.ranks) × (0 < due s rank history now))
unfolding lowest_due
lowest-is_due s history now = positive (find (λ rank. ltb 0 (due s rank history now)) (below s.ranks)) (find-below (λ rank. ltb 0 (due s rank history now)) 0 s.ranks)
  where
    positive : (o : Option ℕ) → IfSome o (λ k. (k < 0 + s.ranks) × (ltb 0 (due s k history now) ≡ true)) → IfSome o (λ rank. (rank < s.ranks) × (0 < due s rank history now))
    positive None h = tt
    positive (Some k) h = (omega arith, ltb-true 0 (due s k history now) h.1)

-- what is chosen speaks of one of the ranks
pub chosen-rank : (s : Config) (history : List IssuedCommand) (now : ℕ) (draining : Bool) (queue : List Request) → Each (λ (r : Request). r.place.rank < s.ranks) queue
    → IfSome (choice_between s history now (candidates s draining queue) (lowest_due s history now)) (λ c. rank_of c < s.ranks)
unfolding needed
chosen-rank s history now draining queue h =
    chosen-each (λ c. rank_of c < s.ranks) s history now draining queue
    (Each-weaker (λ (r : Request). r.place.rank < s.ranks) _
    (λ r k. needed-cases (λ c. rank_of c < s.ranks) r (λ row. k) (λ row column. k) (λ row column. k) k (open_row (bank_in r.place) history)) queue h)
    (ranked (lowest_due s history now) (lowest-is_due s history now))
  where
    ranked : (o : Option ℕ) → IfSome o (λ rank. (rank < s.ranks) × (0 < due s rank history now)) → IfSome o (λ rank. rank_of (refresh_command s history rank) < s.ranks)
    ranked None k = tt
    ranked (Some rank) k = refresh-cases (λ c. rank_of c < s.ranks) s history rank k.0 k.0

-- a REF is chosen only for a rank with a refresh that is due
abbrev pub RefIsDue : Config → List IssuedCommand → ℕ → Command → Type 0
RefIsDue s history now (Ref rank) = (rank < s.ranks) × (0 < due s rank history now)
RefIsDue s history now (Act bank row source) = Unit {0}
RefIsDue s history now (Rd bank row column source) = Unit {0}
RefIsDue s history now (Wr bank row column source) = Unit {0}
RefIsDue s history now (Pre bank source) = Unit {0}
RefIsDue s history now (Prea rank) = Unit {0}

pub chosen-ref_is_due : (s : Config) (history : List IssuedCommand) (now : ℕ) (draining : Bool) (queue : List Request)
    → IfSome (choice_between s history now (candidates s draining queue) (lowest_due s history now)) (RefIsDue s history now)
unfolding needed
chosen-ref_is_due s history now draining queue =
    chosen-each (RefIsDue s history now) s history now draining queue
    (Each-all _ (λ r. needed-cases (RefIsDue s history now) r (λ row. tt) (λ row column. tt) (λ row column. tt) tt (open_row (bank_in r.place) history)) queue)
    (referred (lowest_due s history now) (lowest-is_due s history now))
  where
    referred : (o : Option ℕ) → IfSome o (λ rank. (rank < s.ranks) × (0 < due s rank history now)) → IfSome o (λ rank. RefIsDue s history now (refresh_command s history rank))
    referred None k = tt
    referred (Some rank) k = refresh-cases (RefIsDue s history now) s history rank tt k

-- a command that is no REF refreshes no rank
pub no_refresh : (s : Config) (command : Command) → ((rank : ℕ) → command ≡ Ref rank → ⊥) → IsNoRefresh s command
no_refresh s (Act bank row source) h rank l = refl
no_refresh s (Rd bank row column source) h rank l = refl
no_refresh s (Wr bank row column source) h rank l = refl
no_refresh s (Pre bank source) h rank l = refl
no_refresh s (Prea other) h rank l = refl
no_refresh s (Ref other) h rank l = absurd (h other refl)
