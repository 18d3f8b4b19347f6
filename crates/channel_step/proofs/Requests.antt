-- The requests that wait at a channel: what an arrival adds, and what a command takes away.
use Rattle.std.proofs.Common.{◌≡◌, ℕ, zero, suc, ◌+◌, ◌<◌, ◌≤◌, Bool, true, false, ltb, ◌&&◌, ◌||◌, List, [], ◌∷◌, ◌++◌, Option, Some, None, refl, sym, ap, ap₂, subst, ◌∙◌, arith}
use Rattle.std.specs.Prelude.{filter, not, remove, slice_get}
use Rattle.std.specs.Option.{IfSome}
use Rattle.std.specs.List.{AllByRecursion as Each, cons_option}
use Rattle.std.proofs.lemmas.Bool.{cond-true, cond-false, lt-ltb}
use Rattle.std.proofs.lemmas.Bool.Decides.{nat_tests}
use Rattle.std.proofs.lemmas.List.Elements.{filter-append, filter_map-append}
use Rattle.std.proofs.lemmas.List.Folds.{list_any-append}
use Rattle.sim_base.proofs.Ordered.{Each-weaker}
use Rattle.sim_base.proofs.Each.{Each-append}
use Rattle.sim_base.proofs.Same.{Stamped}
use Rattle.sim_base.specs.declared.config.Config.{Config}
use Rattle.sim_base.specs.Scheduling.{request_in, is_source, source_of, serves, is_served, is_queued, queued_requests}
use Rattle.sim_base.specs.declared.command.Command.{Command}
use Rattle.sim_base.specs.declared.command.Command.TheVariants.{Act, Rd, Wr, Pre, Prea, Ref}
use Rattle.sim_base.specs.declared.command.IssuedCommand.{IssuedCommand}
use Rattle.sim_base.specs.declared.message.Message.{Message}
use Rattle.sim_base.specs.declared.message.Request.{Request}
use Rattle.sim_base.proofs.Lists.{filter-both, filter-each, filter-agree}
use Rattle.channel_step.specs.Past.{carried_requests, IsRequestOf, IsRequestIn, CarriesRequest, IsOther, Differ}
use Rattle.channel_step.specs.Fit.{is_issued_for, NoneIssuedFor}

-- what holds of each request that messages carry
pub carried : (s : Config) (channel : ℕ) (P : Request → Type 0) (mail : List Message) → Each (CarriesRequest s channel) mail
    → Each (λ (m : Message). (r : Request) → IsRequestOf s channel m r → P r) mail → Each P (carried_requests mail)
carried s channel P [] h k = tt
carried s channel P (m ∷ ms) h k = by (request_in m.payload) h.0 (carried s channel P ms h.1 k.1)
  where
    by : (o : Option Request) → IsRequestIn s channel m o → Each P (carried_requests ms) → Each P (cons_option o (carried_requests ms))
    by None i rest = absurd i
    by (Some r) i rest = (k.0 r i, rest)

-- requests that arrived before a cycle
abbrev pub ArrivedBefore : ℕ → Request → Type 0
ArrivedBefore until r = r.arrival < until

pub requests-arrived : (s : Config) (channel until : ℕ) (mail : List Message) → Each (CarriesRequest s channel) mail → Each (λ (m : Message). m.arrival < until) mail
    → Each (ArrivedBefore until) (carried_requests mail)
requests-arrived s channel until mail h k =
    carried s channel (ArrivedBefore until) mail h (Each-weaker (λ (m : Message). m.arrival < until) _ (λ m l r i. let e = i.arrival in omega arith) mail k)

-- what carries a request says when it arrives
pub carries-stamped : (s : Config) (channel : ℕ) (mail : List Message) → Each (CarriesRequest s channel) mail → Each Stamped mail
carries-stamped s channel mail h = Each-weaker (CarriesRequest s channel) Stamped (λ m k. by m (request_in m.payload) k) mail h
  where
    by : (m : Message) (o : Option Request) → IsRequestIn s channel m o → IfSome o (λ r. r.arrival ≡ m.arrival)
    by m None i = absurd i
    by m (Some r) i = i.arrival

-- the requests that were not served
abbrev pub unserved : List IssuedCommand → List Request → List Request
unserved history rs = filter (λ r. not (is_served history r)) rs

-- where all requests have arrived, those wait that were not served
pub queued_requests-unserved : (history : List IssuedCommand) (mail : List Message) (until : ℕ) → Each (ArrivedBefore until) (carried_requests mail)
    → queued_requests history mail until ≡ unserved history (carried_requests mail)
unfolding queued_requests
queued_requests-unserved history mail until h =
    filter-agree (is_queued history until) (λ r. not (is_served history r)) (carried_requests mail)
    (Each-weaker (ArrivedBefore until) _ (λ r l. ap (λ b. b && not (is_served history r)) (lt-ltb r.arrival until l)) (carried_requests mail) h)

-- no time has to pass for what has arrived
pub queued_requests-until : (history : List IssuedCommand) (mail : List Message) (until later : ℕ) → until ≤ later → Each (ArrivedBefore until) (carried_requests mail)
    → queued_requests history mail later ≡ queued_requests history mail until
queued_requests-until history mail until later l h =
    queued_requests-unserved history mail later (Each-weaker (ArrivedBefore until) (ArrivedBefore later) (λ r k. omega arith) (carried_requests mail) h)
    ∙ sym (queued_requests-unserved history mail until h)

pub requests-append : (mail more : List Message) → carried_requests (mail ++ more) ≡ carried_requests mail ++ carried_requests more
requests-append mail more = filter_map-append (λ (m : Message). request_in m.payload) mail more

serves-named : (r : Request) (command : Command) → is_issued_for command r ≡ false → serves r command ≡ false
serves-named r (Rd bank row column source) h = h
serves-named r (Wr bank row column source) h = h
serves-named r (Act bank row source) h = refl
serves-named r (Pre bank source) h = refl
serves-named r (Prea rank) h = refl
serves-named r (Ref rank) h = refl

-- what no command names is not served
pub none_issued-unserved : (history : List IssuedCommand) (r : Request) → NoneIssuedFor history r → is_served history r ≡ false
unfolding is_served
none_issued-unserved [] r h = refl
none_issued-unserved (i ∷ history) r h = ap₂ (λ a b. a || b) (serves-named r i.command h.0) (none_issued-unserved history r h.1)

-- the queue with the requests that arrive in a cycle, which no command has named yet
pub queued_requests-arrivals : (history : List IssuedCommand) (mail new : List Message) (now : ℕ) → Each (ArrivedBefore now) (carried_requests mail)
    → Each (ArrivedBefore (now + 1)) (carried_requests new) → Each (NoneIssuedFor history) (carried_requests new)
    → queued_requests history (mail ++ new) (now + 1) ≡ queued_requests history mail now ++ carried_requests new
queued_requests-arrivals history mail new now h k u =
    queued_requests-unserved history (mail ++ new) (now + 1)
    (subst (Each (ArrivedBefore (now + 1))) (sym (requests-append mail new))
    (Each-append (ArrivedBefore (now + 1)) (carried_requests mail) (carried_requests new)
    (Each-weaker (ArrivedBefore now) (ArrivedBefore (now + 1)) (λ r l. omega arith) (carried_requests mail) h) k))
    ∙ ap (unserved history) (requests-append mail new)
    ∙ filter-append (λ r. not (is_served history r)) (carried_requests mail) (carried_requests new)
    ∙ ap₂ (λ xs ys. xs ++ ys) (sym (queued_requests-unserved history mail now h))
    (filter-each (λ r. not (is_served history r)) (carried_requests new)
    (Each-weaker (NoneIssuedFor history) _ (λ r i. ap not (none_issued-unserved history r i)) (carried_requests new) u))

-- a command more, which may be the column command of a request
abbrev pub unserved_by : Command → List Request → List Request
unserved_by command rs = filter (λ r. not (serves r command)) rs

one_more : (b c d : Bool) → (b && not (c || (d || false))) ≡ ((b && not c) && not d)
one_more true true d = refl
one_more false c d = refl
one_more true false true = refl
one_more true false false = refl

-- after one command more those wait that it does not serve
pub queued_requests-command : (history : List IssuedCommand) (i : IssuedCommand) (mail : List Message) (until : ℕ)
    → queued_requests (history ++ i ∷ []) mail until ≡ unserved_by i.command (queued_requests history mail until)
unfolding queued_requests is_served
queued_requests-command history i mail until =
    filter-both (λ r. not (serves r i.command)) (is_queued history until) (is_queued (history ++ i ∷ []) until)
    (λ r. ap (λ b. ltb r.arrival until && not b) (list_any-append (λ (j : IssuedCommand). serves r j.command) history (i ∷ [])) ∙ one_more (ltb r.arrival until) (is_served history r) (serves r i.command))
    (carried_requests mail)

pub same_source : (a b : Request) → is_source a (source_of b) ≡ false → is_source b (source_of a) ≡ false
same_source a b h = grind (arith, nat_tests)

pub own_source : (r : Request) → is_source r (source_of r) ≡ true
own_source r = grind (arith, nat_tests)

other_at : (x r : Request) (xs : List Request) (i : ℕ) → Each (IsOther x) xs → slice_get xs i ≡ Some r → is_source x (source_of r) ≡ false
other_at x r [] i h e = cc
other_at x r (y ∷ ys) zero h e = let same : y ≡ r = cc in subst (λ z. is_source x (source_of z) ≡ false) same (same_source y x h.0)
other_at x r (y ∷ ys) (suc i) h e = other_at x r ys i h.1 e

-- of requests of different entries just one is of this entry
pub unserved-remove : (rs : List Request) (i : ℕ) (r : Request) → Differ rs → slice_get rs i ≡ Some r
    → filter (λ q. not (is_source q (source_of r))) rs ≡ remove rs i
unserved-remove [] i r d e = cc
unserved-remove (x ∷ xs) zero r d e =
    let same : x ≡ r = cc in
    let others = Each-weaker (IsOther x) (λ (q : Request). not (is_source q (source_of r)) ≡ true)
    (λ q h. ap not (ap (λ z. is_source q (source_of z)) (sym same) ∙ h)) xs d.0 in
    cond-false _ _ _ (ap not (ap (λ z. is_source z (source_of r)) same ∙ own_source r))
    ∙ filter-each (λ q. not (is_source q (source_of r))) xs others
unserved-remove (x ∷ xs) (suc i) r d e =
    cond-true _ _ _ (ap not (other_at x r xs i d.0 e)) ∙ ap (λ y. x ∷ y) (unserved-remove xs i r d.1 e)
