-- When a channel acts next, by what it knows itself and by what is on its way.
use Rattle.std.proofs.Common.{◌≡◌, inl, inr, ℕ, ◌+◌, ◌-◌, ◌<◌, ◌≤◌, Bool, true, false, leb, eqb, ◌||◌, List, [], ◌∷◌, ◌++◌, length, Option, Some, None, refl, sym, ap, subst, ◌∙◌, arith}
use Rattle.std.specs.Prelude.{is_some, replicate, min}
use Rattle.std.specs.List.{list_any}
use Rattle.std.proofs.lemmas.Bool.{leb-true, leb-false, or_right}
use Rattle.std.proofs.lemmas.Bool.Decides.{nat_tests}
use Rattle.std.proofs.lemmas.List.{length-append, length-replicate}
use Rattle.sim_base.proofs.Arrived.{NotBefore, NotBefore-weaker}
use Rattle.sim_base.proofs.Ordered.{Each-weaker}
use Rattle.sim_base.proofs.Same.{choice-same}
use Rattle.sim_base.specs.History.{is_before}
use Rattle.sim_base.specs.Scheduling.{choice}
use Rattle.sim_base.specs.declared.command.Command.{Command}
use Rattle.sim_base.specs.declared.message.Message.{Message}
use Rattle.sim_base.proofs.Lists.{none-is}
use Rattle.statistics.proofs.ChannelCounts.{AgreeUpTo-later}
use Rattle.channel_step.specs.Fit.{ComeByAge}
use Rattle.channel_step.proofs.Requests.{carries-stamped}
use Rattle.channel_step.specs.FrFcfs.Cycles.{IsFirstCycle, IsFirst}
use Rattle.sessions.specs.Ahead.{command_then, first_arrival, IsNextAt, IsNextAct}
use Rattle.sim_base.specs.Earlier.{earlier}
use Rattle.sessions.specs.Keeps.{steps_of}
use Rattle.sessions.specs.Sessions.{Past, IsSession}
use Rattle.sessions.specs.declared.channel_session.session.Session.{Session}
use Rattle.sessions.proofs.Advancing.{keeps-at}
use Rattle.sessions.proofs.Lists.{later-all}

-- a message that was sent arrives in its cycle
arrives : (at : ℕ) (mail : List Message) (m : Message) (ms : List Message) → m.arrival ≡ at → list_any (λ (n : Message). eqb n.arrival at) (mail ++ m ∷ ms) ≡ true
arrives at [] m ms e = let same : eqb m.arrival at ≡ true = grind (arith, nat_tests) in ap (λ b. b || list_any (λ (n : Message). eqb n.arrival at) ms) same
arrives at (x ∷ xs) m ms e = or_right (eqb x.arrival at) (list_any (λ (n : Message). eqb n.arrival at) (xs ++ m ∷ ms)) (arrives at xs m ms e)

-- nothing that comes by age arrives before the first of it
age-after : (m : Message) (ms : List Message) → ComeByAge (m ∷ ms) → NotBefore m.arrival (m ∷ ms)
age-after m ms h =
    let here : m.arrival ≤ m.arrival = omega arith in
    (here, Each-weaker (λ (n : Message). is_before m n ≡ true) (λ (n : Message). m.arrival ≤ n.arrival) (λ n l. later-all m.arrival m n here l) ms h.0)

-- the command of a cycle, for what has arrived
abbrev known : (session : Session) (p : Past) → IsSession session p → ℕ → Option Command
known session p h t = choice p.config p.channel (steps_of p.config p.channel p.sent session.cycle ++ replicate (t - session.cycle) None) h.keeps.mail

-- what arrives after a cycle changes nothing in it
same : (session : Session) (p : Past) → (h : IsSession session p) → (t : ℕ) → session.cycle ≤ t → NotBefore (t + 1) session.coming.items
    → command_then p session.cycle t ≡ known session p h t
same session p h t l late =
    let k = h.keeps in
    let coming = session.coming.items in
    let steps = steps_of p.config p.channel p.sent session.cycle in
    let idle : List (Option Command) = replicate (t - session.cycle) None in
    let rows = steps ++ idle in
    let until : t + 1 ≡ length rows + 1 =
    let parts : length rows ≡ length steps + length idle = length-append steps idle in
    let many : length idle ≡ t - session.cycle = length-replicate (t - session.cycle) None in
    let at : length steps ≡ session.cycle = keeps-at p.config p.channel session.cycle p.sent in
    omega arith in
    ap (choice p.config p.channel rows) k.sent_is
    ∙ choice-same p.config p.channel rows (k.mail ++ coming) k.mail
    (AgreeUpTo-later (length rows + 1) k.mail coming (carries-stamped p.config p.channel k.mail k.stands.recalls.past.requests) (carries-stamped p.config p.channel coming k.requests)
    (subst (λ n. NotBefore n coming) until late))

-- where nothing is on its way
alone : (session : Session) (p : Past) → (h : IsSession session p) → session.coming.items ≡ [] → (o : Option ℕ) → IsFirstCycle (λ t. is_some (known session p h t)) session.cycle o
    → IsNextAct p session.cycle o
alone session p h e None f = λ t l. same session p h t l (subst (NotBefore (t + 1)) (sym e) tt) ∙ none-is _ (f t l)
alone session p h e (Some cycle) f =
    let here : (t : ℕ) → session.cycle ≤ t → command_then p session.cycle t ≡ known session p h t = λ t l. same session p h t l (subst (NotBefore (t + 1)) (sym e) tt) in
    record {
      from_now = f.from_now;
      idle = λ t l b. here t l ∙ none-is _ (f.not_before t l b);
      acts = inl (ap is_some (here cycle f.from_now) ∙ f.holds_then);
    }

-- what is known of the cycles before the first arrival
known-before : (session : Session) (p : Past) → (h : IsSession session p) → (m : Message) (ms : List Message) → session.coming.items ≡ m ∷ ms → (t : ℕ) → session.cycle ≤ t → t < m.arrival
    → command_then p session.cycle t ≡ known session p h t
known-before session p h m ms e t l b =
    same session p h t l (subst (NotBefore (t + 1)) (sym e) (NotBefore-weaker (t + 1) m.arrival (omega arith) (m ∷ ms) (age-after m ms (subst ComeByAge e h.keeps.by_age))))

-- where a message is the next to arrive, and nothing is issued before that
arrival-next : (session : Session) (p : Past) → (h : IsSession session p) → (m : Message) (ms : List Message) → session.coming.items ≡ m ∷ ms
    → ((t : ℕ) → session.cycle ≤ t → t < m.arrival → is_some (known session p h t) ≡ false) → IsNextAt p session.cycle m.arrival
arrival-next session p h m ms e none =
    let late : NotBefore session.cycle (m ∷ ms) = subst (NotBefore session.cycle) e h.keeps.late in
    record {
      from_now = late.0;
      idle = λ t l b. known-before session p h m ms e t l b ∙ none-is _ (none t l b);
      acts = inr (ap (list_any (λ (n : Message). eqb n.arrival m.arrival)) (h.keeps.sent_is ∙ ap (λ x. h.keeps.mail ++ x) e) ∙ arrives m.arrival h.keeps.mail m ms refl);
    }

-- where a command is issued before a message arrives
command-next : (session : Session) (p : Past) → (h : IsSession session p) → (m : Message) (ms : List Message) → session.coming.items ≡ m ∷ ms → (cycle : ℕ) → cycle < m.arrival
    → IsFirst (λ t. is_some (known session p h t)) session.cycle cycle → IsNextAt p session.cycle cycle
command-next session p h m ms e cycle b f =
    record {
      from_now = f.from_now;
      idle = λ t l c. known-before session p h m ms e t l (omega arith) ∙ none-is _ (f.not_before t l c);
      acts = inl (ap is_some (known-before session p h m ms e cycle f.from_now b) ∙ f.holds_then);
    }

-- the earlier of the next command and the next arrival
pub next-act : (session : Session) (p : Past) → (h : IsSession session p) → (o : Option ℕ)
    → IsFirstCycle (λ t. is_some (choice p.config p.channel (steps_of p.config p.channel p.sent session.cycle ++ replicate (t - session.cycle) None) h.keeps.mail)) session.cycle o
    → IsNextAct p session.cycle (earlier o (first_arrival session.coming.items))
next-act session p h o f = by session.coming.items refl o f
  where
    earlier-one : (m : Message) (ms : List Message) → session.coming.items ≡ m ∷ ms → (cycle : ℕ) → IsFirst (λ t. is_some (known session p h t)) session.cycle cycle → (b : Bool) → leb m.arrival cycle ≡ b
        → IsNextAt p session.cycle (min cycle m.arrival)
    earlier-one m ms e cycle f true k =
        let l : m.arrival ≤ cycle = leb-true _ _ k in
        let is : m.arrival ≡ min cycle m.arrival = omega arith in
        subst (IsNextAt p session.cycle) is (arrival-next session p h m ms e (λ t from b. f.not_before t from (omega arith)))
    earlier-one m ms e cycle f false k =
        let l : cycle < m.arrival = leb-false _ _ k in
        let is : cycle ≡ min cycle m.arrival = omega arith in
        subst (IsNextAt p session.cycle) is (command-next session p h m ms e cycle l f)

    by : (coming : List Message) → session.coming.items ≡ coming → (o : Option ℕ) → IsFirstCycle (λ t. is_some (known session p h t)) session.cycle o
        → IsNextAct p session.cycle (earlier o (first_arrival coming))
    by [] e None f = alone session p h e None f
    by [] e (Some cycle) f = alone session p h e (Some cycle) f
    by (m ∷ ms) e None f = arrival-next session p h m ms e (λ t l b. f t l)
    by (m ∷ ms) e (Some cycle) f = earlier-one m ms e cycle f (leb m.arrival cycle) refl
