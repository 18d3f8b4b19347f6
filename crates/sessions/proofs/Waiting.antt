-- How many requests wait at a channel.
use Rattle.std.proofs.Common.{◌≡◌, ℕ, zero, suc, ◌+◌, ◌<◌, ◌≤◌, Bool, true, false, cond, ◌&&◌, ◌||◌, List, [], ◌∷◌, ◌++◌, length, take, Option, Some, None, refl, sym, ap, ap₂, ◌∙◌, arith}
use Rattle.std.specs.Prelude.{filter, not}
use Rattle.std.specs.Option.{IfSome}
use Rattle.std.specs.List.{AllByRecursion as Each, cons_option}
use Rattle.std.proofs.Math.Seq.{take-length}
use Rattle.std.proofs.lemmas.Bool.{and_parts, cond-false, lt-ltb, le-ltb}
use Rattle.std.proofs.lemmas.List.{append-nil, length-append}
use Rattle.std.proofs.lemmas.List.Elements.{filter-append}
use Rattle.std.proofs.lemmas.List.Folds.{list_any-append}
use Rattle.sim_base.proofs.Arrived.{NotBefore}
use Rattle.sim_base.proofs.Ordered.{Each-weaker}
use Rattle.sim_base.proofs.Same.{Stamped}
use Rattle.sim_base.specs.declared.config.Config.{Config}
use Rattle.sim_base.specs.Counts.{queue_length}
use Rattle.sim_base.specs.History.{issued_commands, issued_now}
use Rattle.sim_base.specs.Machine.{channel_run}
use Rattle.sim_base.specs.Scheduling.{request_in, serves, is_served, is_queued, queued_requests, queue_in, choice}
use Rattle.sim_base.specs.declared.command.Command.{Command}
use Rattle.sim_base.specs.declared.command.IssuedCommand.{IssuedCommand}
use Rattle.sim_base.specs.declared.message.Message.{Message}
use Rattle.sim_base.specs.declared.message.Request.{Request}
use Rattle.sim_base.proofs.Lists.{length-filter-le}
use Rattle.channel_step.specs.Past.{carried_requests}
use Rattle.channel_step.proofs.Requests.{requests-append, ArrivedBefore}
use Rattle.channel_step.proofs.Spans.{length-channel_run, issued-after}
use Rattle.channel_step.proofs.Waits.{requests-few}

-- a run adds commands to those before it
issued-more : (s : Config) (channel : ℕ) (steps : List (Option Command)) (mail : List Message) (n : ℕ)
    → (more : List IssuedCommand) × (issued_commands channel (channel_run s channel steps mail n) ≡ issued_commands channel steps ++ more)
unfolding channel_run
issued-more s channel steps mail zero = ([], sym (append-nil (issued_commands channel steps)))
issued-more s channel steps mail (suc n) =
    let before = issued-more s channel steps mail n in
    let last = channel_run s channel steps mail n in
    (before.0 ++ issued_now channel (length last) (choice s channel last mail), issued-after channel last (choice s channel last mail) (issued_commands channel steps) before.0 before.1)

filter-fewer : (p q : Request → Bool) (rs : List Request) → Each (λ (r : Request). p r ≡ true → q r ≡ true) rs → length (filter p rs) ≤ length (filter q rs)
filter-fewer p q [] h = omega arith
filter-fewer p q (r ∷ rs) h = by (p r) (q r) h.0 (filter-fewer p q rs h.1)
  where
    by : (a b : Bool) → (a ≡ true → b ≡ true) → length (filter p rs) ≤ length (filter q rs) → length (cond a (r ∷ filter p rs) (filter p rs)) ≤ length (cond b (r ∷ filter q rs) (filter q rs))
    by true true k l = omega arith
    by true false k l = absurd (let e = k refl in cc)
    by false true k l = omega arith
    by false false k l = l

-- what waits after a longer history waited before
waited : (history more : List IssuedCommand) (until later : ℕ) (r : Request) → r.arrival < until → is_queued (history ++ more) later r ≡ true → is_queued history until r ≡ true
unfolding is_served
waited history more until later r l h =
    let parts = and_parts _ _ h in
    let e : is_served (history ++ more) r ≡ (is_served history r || is_served more r) = list_any-append (λ (i : IssuedCommand). serves r i.command) history more in
    ap₂ (λ a b. a && b) (lt-ltb r.arrival until l) (still (is_served history r) (is_served more r) (ap not (sym e) ∙ parts.1))
  where
    still : (a b : Bool) → not (a || b) ≡ true → not a ≡ true
    still true b h = h
    still false b h = refl

-- no more wait later than waited and came
pub waits-left : (s : Config) (channel : ℕ) (steps : List (Option Command)) (mail inbox : List Message) (n later : ℕ) → Each (ArrivedBefore (length steps)) (carried_requests mail)
    → length (queued_requests (issued_commands channel (channel_run s channel steps (mail ++ inbox) n)) (mail ++ inbox) later)
    ≤ length (queued_requests (issued_commands channel steps) mail (length steps)) + length inbox
unfolding queued_requests
waits-left s channel steps mail inbox n later h =
    let all = mail ++ inbox in
    let more = issued-more s channel steps all n in
    let history = issued_commands channel steps in
    let longer = history ++ more.0 in
    let p = is_queued longer later in
    let parts : filter (is_queued (issued_commands channel (channel_run s channel steps all n)) later) (carried_requests all) ≡ filter p (carried_requests mail) ++ filter p (carried_requests inbox) =
    ap₂ (λ x rs. filter (is_queued x later) rs) more.1 (requests-append mail inbox) ∙ filter-append p (carried_requests mail) (carried_requests inbox) in
    let old : length (filter p (carried_requests mail)) ≤ length (filter (is_queued history (length steps)) (carried_requests mail)) =
    filter-fewer p (is_queued history (length steps)) (carried_requests mail)
    (Each-weaker (ArrivedBefore (length steps)) (λ (r : Request). p r ≡ true → is_queued history (length steps) r ≡ true) (λ r l. waited history more.0 (length steps) later r l) (carried_requests mail) h) in
    let new : length (filter p (carried_requests inbox)) ≤ length inbox = let a = length-filter-le p (carried_requests inbox) in let b = requests-few inbox in omega arith in
    let sum : length (filter (is_queued (issued_commands channel (channel_run s channel steps all n)) later) (carried_requests all)) ≡ length (filter p (carried_requests mail)) + length (filter p (carried_requests inbox)) =
    ap length parts ∙ length-append (filter p (carried_requests mail)) (filter p (carried_requests inbox)) in
    omega arith

-- so the queue is never longer
pub room-left : (s : Config) (channel : ℕ) (steps : List (Option Command)) (mail inbox : List Message) (n : ℕ) → Each (ArrivedBefore (length steps)) (carried_requests mail)
    → queue_length channel (channel_run s channel steps (mail ++ inbox) n) (mail ++ inbox) (length steps + n) ≤ length (queued_requests (issued_commands channel steps) mail (length steps)) + length inbox
unfolding queue_length queue_in
room-left s channel steps mail inbox n h =
    let all = mail ++ inbox in
    let run = channel_run s channel steps all n in
    let now = length steps + n in
    let whole : take now run ≡ run = ap (λ k. take k run) (sym (length-channel_run s channel steps all n)) ∙ take-length run in
    let same : length (queued_requests (issued_commands channel (take now run)) all (now + 1)) ≡ length (queued_requests (issued_commands channel run) all (now + 1)) =
    ap (λ x. length (queued_requests (issued_commands channel x) all (now + 1))) whole in
    let left = waits-left s channel steps mail inbox n (now + 1) h in
    omega arith

unarrived : (history : List IssuedCommand) (now : ℕ) (later : List Message) → Each Stamped later → NotBefore now later → filter (is_queued history now) (carried_requests later) ≡ []
unarrived history now [] h k = refl
unarrived history now (m ∷ ms) h k = by (request_in m.payload) h.0 (unarrived history now ms h.1 k.1)
  where
    late : (r : Request) → r.arrival ≡ m.arrival → now ≤ r.arrival
    late r e = let l = k.0 in omega arith

    by : (o : Option Request) → IfSome o (λ r. r.arrival ≡ m.arrival) → filter (is_queued history now) (carried_requests ms) ≡ [] → filter (is_queued history now) (cons_option o (carried_requests ms)) ≡ []
    by None e rest = rest
    by (Some r) e rest = cond-false _ _ _ (ap (λ b. b && not (is_served history r)) (le-ltb r.arrival now (late r e))) ∙ rest

-- what has not arrived does not wait
pub queued-late : (history : List IssuedCommand) (now : ℕ) (mail later : List Message) → Each Stamped later → NotBefore now later
    → queued_requests history (mail ++ later) now ≡ queued_requests history mail now
unfolding queued_requests
queued-late history now mail later h k =
    let p = is_queued history now in
    ap (filter p) (requests-append mail later) ∙ filter-append p (carried_requests mail) (carried_requests later)
    ∙ ap (λ x. filter p (carried_requests mail) ++ x) (unarrived history now later h k) ∙ append-nil (filter p (carried_requests mail))
