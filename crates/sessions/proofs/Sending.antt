-- What a session keeps when it is opened, and when a request is sent to it.
use Rattle.std.proofs.Common.{◌≡◌, ℕ, ◌+◌, ◌<◌, ◌≤◌, true, List, [], ◌∷◌, ◌++◌, length, refl, sym, ap, subst, ◌∙◌, lit≤, arith}
use Rattle.std.specs.Prelude.{slice_index_or}
use Rattle.std.specs.List.{AllByRecursion as Each, list_all}
use Rattle.std.proofs.lemmas.List.{append_assoc, length-append, length-set}
use Rattle.sim_base.proofs.Arrived.{NotBefore, NotBefore-weaker}
use Rattle.sim_base.proofs.Each.{Each-append}
use Rattle.sim_base.proofs.Ordered.{Each-weaker}
use Rattle.sim_base.proofs.Same.{Stamped}
use Rattle.sim_base.specs.declared.config.Config.{Config}
use Rattle.sim_base.specs.History.{issued_commands, is_before}
use Rattle.sim_base.specs.Machine.{channel_run}
use Rattle.sim_base.specs.Places.{place_of}
use Rattle.sim_base.specs.Scheduling.{queued_requests, queue_room}
use Rattle.sim_base.specs.declared.message.Message.{Message}
use Rattle.sim_base.specs.declared.message.Request.{Request}
use Rattle.statistics.proofs.ChannelCounts.{AgreeUpTo-later}
use Rattle.channel_step.specs.Channels.{StandsFor}
use Rattle.channel_step.specs.Past.{carried_requests, CarriesRequest, IsOther, Differ}
use Rattle.channel_step.specs.declared.channel.Channel.{Channel}
use Rattle.channel_step.proofs.Requests.{carries-stamped, requests-append}
use Rattle.channel_step.proofs.Spans.{channel_run-same}
use Rattle.sessions.specs.Keeps.{steps_of, waiting, Keeps}
use Rattle.sessions.specs.Sent.{request_of, message_of, firsts_with, IsAsked}
use Rattle.sessions.specs.declared.channel_session.requests.SentRequest.{SentRequest}
use Rattle.sessions.proofs.Asked.{asked-more, asked-now, other}
use Rattle.sessions.proofs.Lists.{age-more, differ-append}
use Rattle.sessions.proofs.Waiting.{queued-late}

-- what arrives from a cycle on changes nothing of the cycles before it
pub steps-late : (s : Config) (channel : ℕ) (mail later : List Message) (now : ℕ) → Each Stamped mail → Each Stamped later → NotBefore now later
    → steps_of s channel (mail ++ later) now ≡ steps_of s channel mail now
steps-late s channel mail later now h k late = channel_run-same s channel [] (mail ++ later) mail now (AgreeUpTo-later (0 + now) mail later h k (NotBefore-weaker (0 + now) now (omega arith) later late))

-- nor of how many requests wait at that cycle
pub waiting-late : (s : Config) (channel : ℕ) (mail later : List Message) (now : ℕ) → Each Stamped mail → Each Stamped later → NotBefore now later
    → waiting s channel (mail ++ later) now ≡ waiting s channel mail now
waiting-late s channel mail later now h k late =
    ap (λ steps. length (queued_requests (issued_commands channel steps) (mail ++ later) now)) (steps-late s channel mail later now h k late)
    ∙ ap length (queued-late (issued_commands channel (steps_of s channel mail now)) now mail later k late)

-- all that was sent says when it arrives
pub sent-stamped : (c : Channel) (s : Config) (channel now : ℕ) (firsts : List ℕ) (sent coming : List Message) → Keeps c s channel now firsts sent coming → Each Stamped sent
sent-stamped c s channel now firsts sent coming h =
    subst (Each Stamped) (sym h.sent_is)
    (Each-append Stamped h.mail coming (carries-stamped s channel h.mail h.stands.recalls.past.requests) (carries-stamped s channel coming h.requests))

-- before the first cycle, when nothing was sent
pub keeps-first : (c : Channel) (s : Config) (channel : ℕ) (firsts : List ℕ) → StandsFor c s channel [] [] → length firsts ≡ s.cores → Keeps c s channel 0 firsts [] []
unfolding channel_run issued_commands queued_requests
keeps-first c s channel firsts h l =
    record {
      mail = [];
      sent_is = refl;
      stands = h;
      requests = tt;
      by_age = tt;
      late = tt;
      differ = tt;
      asked = tt;
      cores = l;
      room = omega arith;
      in_time = lit≤ tt;
    }

-- a request may be sent
pub record MaySend (s : Config) (channel now : ℕ) (firsts : List ℕ) (waits : ℕ) (coming : List Message) (r : SentRequest) : Type 0 where
  pub core : r.core < s.cores
  pub place : (place_of s r.address).channel ≡ channel
  pub arrival : now ≤ r.arrival
  pub last : list_all (λ n. is_before n (message_of s channel r)) coming ≡ true
  pub new : slice_index_or firsts r.core 0 ≤ r.entry
  pub credit : waits + length coming < queue_room s

pub keeps-sent : (c : Channel) (s : Config) (channel now : ℕ) (firsts : List ℕ) (sent coming : List Message) (r : SentRequest) → Keeps c s channel now firsts sent coming
    → MaySend s channel now firsts (waiting s channel sent now) coming r
    → Keeps c s channel now (firsts_with firsts r.core r.entry) (sent ++ message_of s channel r ∷ []) (coming ++ message_of s channel r ∷ [])
keeps-sent c s channel now firsts sent coming r h may =
    let m = message_of s channel r in
    let request = request_of s channel r in
    let inside : r.core < length firsts = subst (λ n. r.core < n) (sym h.cores) may.core in
    let carries : Each (CarriesRequest s channel) (m ∷ []) = (record { core = may.core; link = refl; same_link = refl; arrival = refl; place = refl; channel_is = may.place }, tt) in
    let stamped = sent-stamped c s channel now firsts sent coming h in
    let late : NotBefore now (m ∷ []) = (may.arrival, tt) in
    let steps = steps-late s channel sent (m ∷ []) now stamped (carries-stamped s channel (m ∷ []) carries) late in
    let waits = waiting-late s channel sent (m ∷ []) now stamped (carries-stamped s channel (m ∷ []) carries) late in
    let longer : length (coming ++ m ∷ []) ≡ length coming + 1 = length-append coming (m ∷ []) in
    record {
      mail = h.mail;
      sent_is = ap (λ x. x ++ m ∷ []) h.sent_is ∙ append_assoc h.mail coming (m ∷ []);
      stands = subst (λ x. StandsFor c s channel x h.mail) (sym steps) h.stands;
      requests = Each-append (CarriesRequest s channel) coming (m ∷ []) h.requests carries;
      by_age = age-more coming m h.by_age may.last;
      late = Each-append (λ (n : Message). now ≤ n.arrival) coming (m ∷ []) h.late late;
      differ = subst Differ (sym (requests-append sent (m ∷ [])))
          (differ-append (carried_requests sent) (request ∷ []) h.differ (tt, tt)
          (Each-weaker (IsAsked firsts) (λ (q : Request). Each (IsOther q) (request ∷ [])) (λ q a. (other firsts q request a may.new, tt)) (carried_requests sent) h.asked));
      asked = subst (Each (IsAsked (firsts_with firsts r.core r.entry))) (sym (requests-append sent (m ∷ [])))
          (Each-append (IsAsked (firsts_with firsts r.core r.entry)) (carried_requests sent) (request ∷ []) (asked-more firsts r.core r.entry inside may.new (carried_requests sent) h.asked)
          (asked-now firsts request inside, tt));
      cores = length-set firsts r.core (r.entry + 1) ∙ h.cores;
      room = let left = may.credit in omega arith;
      in_time = h.in_time;
    }
