-- What a session keeps when its channel has run.
use Rattle.std.proofs.Common.{Option, ◌≡◌, ℕ, ◌+◌, ◌-◌, ◌^◌, ◌<◌, ◌≤◌, List, [], ◌++◌, length, sym, ap, subst, ◌∙◌, arith}
use Rattle.std.specs.List.{AllByRecursion as Each}
use Rattle.std.proofs.lemmas.List.{append_assoc, length-append}
use Rattle.sim_base.proofs.Arrived.{NotBefore}
use Rattle.sim_base.proofs.Each.{Each-append, Each-first, Each-last, Each-both}
use Rattle.sim_base.proofs.Same.{Stamped}
use Rattle.sim_base.specs.declared.config.Config.{Config}
use Rattle.sim_base.specs.Counts.{queue_length}
use Rattle.sim_base.specs.History.{issued_commands, channel_messages}
use Rattle.sim_base.specs.Machine.{channel_run}
use Rattle.sim_base.specs.Scheduling.{queued_requests, queue_room}
use Rattle.sim_base.specs.declared.command.IssuedCommand.{IssuedCommand}
use Rattle.sim_base.specs.declared.message.Message.{Message}
use Rattle.sim_base.specs.declared.message.Request.{Request}
use Rattle.statistics.proofs.ChannelCounts.{AgreeUpTo-later}
use Rattle.channel_step.proofs.Fits.{split-differ}
use Rattle.channel_step.specs.Channels.{StandsFor}
use Rattle.channel_step.specs.Fit.{NoneIssuedFor, ComeByAge, IsFit}
use Rattle.channel_step.specs.Past.{carried_requests, CarriesRequest, IsOther, Differ}
use Rattle.channel_step.specs.Runs.{CanRun, IsDone}
use Rattle.channel_step.specs.declared.channel.Channel.{Channel}
use Rattle.channel_step.proofs.Requests.{carries-stamped, requests-append, requests-arrived}
use Rattle.channel_step.proofs.Spans.{length-channel_run, channel_run-more, channel_run-same}
use Rattle.sessions.specs.Keeps.{steps_of, waiting, Keeps}
use Rattle.sessions.proofs.Lists.{age-first, age-last}
use Rattle.sessions.proofs.Naming.{run-none_issued}
use Rattle.sessions.proofs.Sending.{steps-late}
use Rattle.sessions.proofs.Waiting.{waits-left, room-left, queued-late}

-- What is on its way is cut in what arrives before a cycle and what arrives then or later.
pub record IsCut (coming inbox rest : List Message) (until : ℕ) : Type 0 where
  pub both : coming ≡ inbox ++ rest
  pub early : Each (λ (m : Message). m.arrival < until) inbox
  pub late : NotBefore until rest

-- what a session keeps at a cycle, and what is on its way, cut at a later one
record Cut (c : Channel) (s : Config) (channel now : ℕ) (firsts : List ℕ) (sent coming inbox rest : List Message) (until : ℕ) : Type 0 where
  h : Keeps c s channel now firsts sent coming
  cut : IsCut coming inbox rest until
  span : now ≤ until

-- how many cycles are over
pub keeps-at : (s : Config) (channel now : ℕ) (sent : List Message) → length (steps_of s channel sent now) ≡ now
keeps-at s channel now sent = omega (arith, length-channel_run s channel [] sent now)

all-sent : (c : Channel) (s : Config) (channel now : ℕ) (firsts : List ℕ) (sent coming inbox rest : List Message) (until : ℕ) → (k : Cut c s channel now firsts sent coming inbox rest until)
    → sent ≡ (k.h.mail ++ inbox) ++ rest
all-sent c s channel now firsts sent coming inbox rest until k = k.h.sent_is ∙ ap (λ x. k.h.mail ++ x) k.cut.both ∙ sym (append_assoc k.h.mail inbox rest)

inbox-carries : (c : Channel) (s : Config) (channel now : ℕ) (firsts : List ℕ) (sent coming inbox rest : List Message) (until : ℕ) → Cut c s channel now firsts sent coming inbox rest until
    → Each (CarriesRequest s channel) (inbox ++ rest)
inbox-carries c s channel now firsts sent coming inbox rest until k = subst (Each (CarriesRequest s channel)) k.cut.both k.h.requests

-- how many wait, by what has arrived
pub waits-arrived : (c : Channel) (s : Config) (channel now : ℕ) (firsts : List ℕ) (sent coming : List Message) → (h : Keeps c s channel now firsts sent coming)
    → waiting s channel sent now ≡ length (queued_requests (issued_commands channel (steps_of s channel sent now)) h.mail now)
waits-arrived c s channel now firsts sent coming h =
    let steps = steps_of s channel sent now in
    ap (λ x. length (queued_requests (issued_commands channel steps) x now)) h.sent_is
    ∙ ap length (queued-late (issued_commands channel steps) now h.mail coming (carries-stamped s channel coming h.requests) h.late)

-- what arrives in the span is fit for it
fit-of : (c : Channel) (s : Config) (channel now : ℕ) (firsts : List ℕ) (sent coming inbox rest : List Message) (until : ℕ) → (k : Cut c s channel now firsts sent coming inbox rest until)
    → IsFit s channel (steps_of s channel sent now) k.h.mail inbox now until
fit-of c s channel now firsts sent coming inbox rest until k =
    let mail = k.h.mail in
    let steps = steps_of s channel sent now in
    let past = k.h.stands.recalls.past in
    let carries = inbox-carries c s channel now firsts sent coming inbox rest until k in
    let differ : Differ (carried_requests (mail ++ inbox) ++ carried_requests rest) =
    subst Differ (requests-append (mail ++ inbox) rest) (subst (λ x. Differ (carried_requests x)) (all-sent c s channel now firsts sent coming inbox rest until k) k.h.differ) in
    let first : Differ (carried_requests (mail ++ inbox)) = (split-differ (carried_requests (mail ++ inbox)) (carried_requests rest) differ).0 in
    let across : Each (λ (r : Request). Each (IsOther r) (carried_requests inbox)) (carried_requests mail) = (split-differ (carried_requests mail) (carried_requests inbox) (subst Differ (requests-append mail inbox) first)).1 in
    let ran : steps ≡ steps_of s channel mail now =
    ap (λ x. steps_of s channel x now) k.h.sent_is ∙ steps-late s channel mail coming now (carries-stamped s channel mail past.requests) (carries-stamped s channel coming k.h.requests) k.h.late in
    record {
      requests = Each-first (CarriesRequest s channel) inbox rest carries;
      by_age = age-first inbox rest (subst ComeByAge k.cut.both k.h.by_age);
      in_span = Each-both (λ (m : Message). now ≤ m.arrival) (λ (m : Message). m.arrival < until) inbox
          (Each-first (λ (m : Message). now ≤ m.arrival) inbox rest (subst (NotBefore now) k.cut.both k.h.late)) k.cut.early;
      differ = first;
      none_issued = subst (λ x. Each (NoneIssuedFor (issued_commands channel x)) (carried_requests inbox)) (sym ran) (run-none_issued s channel mail now (carried_requests inbox) across);
      room = λ n l.
          let at : length steps ≡ now = keeps-at s channel now sent in
          let left : queue_length channel (channel_run s channel steps (mail ++ inbox) n) (mail ++ inbox) (length steps + n) ≤ length (queued_requests (issued_commands channel steps) mail (length steps)) + length inbox =
          room-left s channel steps mail inbox n (requests-arrived s channel (length steps) mail past.requests past.arrived) in
          let moved : queue_length channel (channel_run s channel steps (mail ++ inbox) n) (mail ++ inbox) (now + n) ≤ length (queued_requests (issued_commands channel steps) mail now) + length inbox =
          subst (λ t. queue_length channel (channel_run s channel steps (mail ++ inbox) n) (mail ++ inbox) (t + n) ≤ length (queued_requests (issued_commands channel steps) mail t) + length inbox) at left in
          let waits = waits-arrived c s channel now firsts sent coming k.h in
          let parts : length coming ≡ length inbox + length rest = ap length k.cut.both ∙ length-append inbox rest in
          let room = k.h.room in
          omega arith;
    }

-- the steps of the span are those of all that was sent
steps-on : (c : Channel) (s : Config) (channel now : ℕ) (firsts : List ℕ) (sent coming inbox rest : List Message) (until : ℕ) → (k : Cut c s channel now firsts sent coming inbox rest until)
    → channel_run s channel (steps_of s channel sent now) (k.h.mail ++ inbox) (until - now) ≡ steps_of s channel sent until
steps-on c s channel now firsts sent coming inbox rest until k =
    let l = k.span in
    let steps = steps_of s channel sent now in
    let early = k.h.mail ++ inbox in
    let n = until - now in
    let sum : now + n ≡ until = omega arith in
    let at : until ≡ length steps + n = let e = keeps-at s channel now sent in omega arith in
    let carries = inbox-carries c s channel now firsts sent coming inbox rest until k in
    let stamped : Each Stamped early =
    Each-append Stamped k.h.mail inbox (carries-stamped s channel k.h.mail k.h.stands.recalls.past.requests) (carries-stamped s channel inbox (Each-first (CarriesRequest s channel) inbox rest carries)) in
    let agree = AgreeUpTo-later (length steps + n) early rest stamped (carries-stamped s channel rest (Each-last (CarriesRequest s channel) inbox rest carries)) (subst (λ t. NotBefore t rest) at k.cut.late) in
    sym (channel_run-same s channel steps (early ++ rest) early n agree)
    ∙ ap (λ x. channel_run s channel steps x n) (sym (all-sent c s channel now firsts sent coming inbox rest until k))
    ∙ sym (channel_run-more s channel [] sent now n)
    ∙ ap (steps_of s channel sent) sum

pub keeps-fit : (c : Channel) (s : Config) (channel now : ℕ) (firsts : List ℕ) (sent coming inbox rest : List Message) (until : ℕ) → (h : Keeps c s channel now firsts sent coming)
    → IsCut coming inbox rest until → now ≤ until → IsFit s channel (steps_of s channel sent now) h.mail inbox now until
keeps-fit c s channel now firsts sent coming inbox rest until h cut l = fit-of c s channel now firsts sent coming inbox rest until (record { h = h; cut = cut; span = l })

-- the channel may run
pub can-run : (c : Channel) (s : Config) (channel now : ℕ) (firsts : List ℕ) (sent coming inbox rest : List Message) (until : ℕ) → Keeps c s channel now firsts sent coming
    → IsCut coming inbox rest until → now ≤ until → CanRun c inbox now until
can-run c s channel now firsts sent coming inbox rest until h cut l =
    record {
      s = s;
      channel = channel;
      steps = steps_of s channel sent now;
      mail = h.mail;
      stands = h.stands;
      at = keeps-at s channel now sent;
      fit = keeps-fit c s channel now firsts sent coming inbox rest until h cut l;
    }

-- What a run leaves: what is kept at its end, and what the channel gave, put behind what it gave before.
pub record HasAdvanced (d : Channel) (s : Config) (channel now : ℕ) (firsts : List ℕ) (sent rest : List Message) (until : ℕ) (commands : List IssuedCommand) (replies : List Message) : Type 0 where
  pub keeps : Keeps d s channel until firsts sent rest
  pub commands_are : issued_commands channel (steps_of s channel sent until) ≡ issued_commands channel (steps_of s channel sent now) ++ commands
  pub replies_are : channel_messages s channel (steps_of s channel sent until) ≡ channel_messages s channel (steps_of s channel sent now) ++ replies

pub has-gone : (c d : Channel) (s : Config) (channel now : ℕ) (firsts : List ℕ) (sent coming inbox rest : List Message) (until : ℕ) (before after : Option (List IssuedCommand)) (replies_before replies_after : List Message)
    → (h : Keeps c s channel now firsts sent coming) → IsCut coming inbox rest until → now ≤ until → until ≤ 2 ^ 62
    → (done : IsDone d s channel (steps_of s channel sent now) h.mail inbox now until before after replies_before replies_after) → HasAdvanced d s channel now firsts sent rest until done.issued done.sent
has-gone c d s channel now firsts sent coming inbox rest until before after replies_before replies_after h cut l e done =
    let k : Cut c s channel now firsts sent coming inbox rest until = record { h = h; cut = cut; span = l } in
    let steps = steps_of s channel sent now in
    let mail = h.mail ++ inbox in
    let same = steps-on c s channel now firsts sent coming inbox rest until k in
    let all = all-sent c s channel now firsts sent coming inbox rest until k in
    let carries = inbox-carries c s channel now firsts sent coming inbox rest until k in
    let others = Each-last (CarriesRequest s channel) inbox rest carries in
    let past = h.stands.recalls.past in
    let stands : StandsFor d s channel (steps_of s channel sent until) mail = subst (λ x. StandsFor d s channel x mail) same done.stands in
    let at = keeps-at s channel now sent in
    let room : waiting s channel sent until + length rest ≤ queue_room s =
    let now_waits = waits-arrived c s channel now firsts sent coming h in
    let left : length (queued_requests (issued_commands channel (channel_run s channel steps mail (until - now))) mail until) ≤ length (queued_requests (issued_commands channel steps) h.mail (length steps)) + length inbox =
    waits-left s channel steps h.mail inbox (until - now) until (requests-arrived s channel (length steps) h.mail past.requests past.arrived) in
    let moved : length (queued_requests (issued_commands channel (steps_of s channel sent until)) mail until) ≤ length (queued_requests (issued_commands channel steps) h.mail now) + length inbox =
    subst (λ t. length (queued_requests (issued_commands channel (steps_of s channel sent until)) mail until) ≤ length (queued_requests (issued_commands channel steps) h.mail t) + length inbox) at
    (subst (λ x. length (queued_requests (issued_commands channel x) mail until) ≤ length (queued_requests (issued_commands channel steps) h.mail (length steps)) + length inbox) same left) in
    let then_waits : waiting s channel sent until ≡ length (queued_requests (issued_commands channel (steps_of s channel sent until)) mail until) =
    ap (λ x. length (queued_requests (issued_commands channel (steps_of s channel sent until)) x until)) all
    ∙ ap length (queued-late (issued_commands channel (steps_of s channel sent until)) until mail rest (carries-stamped s channel rest others) cut.late) in
    let parts : length coming ≡ length inbox + length rest = ap length cut.both ∙ length-append inbox rest in
    let before = h.room in
    omega arith in
    record {
      keeps = record {
        mail = mail;
        sent_is = all;
        stands = stands;
        requests = others;
        by_age = age-last inbox rest (subst ComeByAge cut.both h.by_age);
        late = cut.late;
        differ = h.differ;
        asked = h.asked;
        cores = h.cores;
        room = room;
        in_time = e;
      };
      commands_are = ap (issued_commands channel) (sym same) ∙ done.commands_are;
      replies_are = ap (channel_messages s channel) (sym same) ∙ done.messages_are;
    }
