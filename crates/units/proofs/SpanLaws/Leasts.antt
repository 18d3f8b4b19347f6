-- How long requests travel at least, and how long credits and replies take from their command on.
use Rattle.std.proofs.Common.{ℕ, ◌+◌, ◌*◌, ◌/◌, ◌%◌, ◌<◌, ◌≤◌, ◌≡◌, min, ap, ◌∙◌, subst, inl, inr, ◌⊎◌, arith}
use Rattle.std.proofs.lemmas.Bool.{cases_lt}
use Rattle.std.proofs.Math.Nat.{mul_assoc, mul_comm, div-add-mod, mod-lt, div-lt_iff_lt-mul}
use Rattle.sim_base.specs.declared.config.Config.{Config}
use Rattle.sim_base.specs.Config.{request_link, reply_link, credit_link, latency}
use Rattle.sim_base.proofs.LinkNumbers.{link_below}
use Rattle.links.specs.Latencies.{least_of_kind}
use Rattle.links.proofs.Overrides.{kind_latency}
use Rattle.links.proofs.Shortest.{least-meets, least-attained, positive-at}
use Rattle.units.specs.SpanLaws.Latencies.{RequestTakes, AnswerTakes}
use Rattle.units.specs.SpanLaws.Sent.{RequestsTravelFor, AnswersTakeFor}

-- the link of a kind between a core and a channel
abbrev pub link_at : Config → ℕ → ℕ → ℕ → ℕ
link_at s kind core channel = 3 * (core * s.channels + channel) + kind

pub meets-pair : (s : Config) (kind core channel : ℕ) → kind < 3 → core < s.cores → channel < s.channels → least_of_kind s kind (kind_latency s kind) ≤ latency s (link_at s kind core channel)
meets-pair s kind core channel k c l = least-meets s kind (link_at s kind core channel) (link_below s.cores s.channels core channel kind c l k, omega arith)

-- some core and channel have it
abbrev pub PairTakes : Config → ℕ → ℕ → Type 0
PairTakes s kind n = (core : ℕ) × (channel : ℕ) × (core < s.cores) × (channel < s.channels) × (latency s (link_at s kind core channel) ≡ n)

pub attained-pair : (s : Config) (kind : ℕ) → kind < 3 → PairTakes s kind (least_of_kind s kind (kind_latency s kind))
attained-pair s kind k =
    let w = least-attained s kind k in
    let link = w.0 in
    let pair = link / 3 in
    let has : 0 < s.channels = s.machine_in_range.channels_in.0.0 in
    let below : link < 3 * s.cores * s.channels = w.1.0 in
    let count : 3 * s.cores * s.channels ≡ 3 * (s.cores * s.channels) = mul_assoc 3 s.cores s.channels in
    let low : pair < s.cores * s.channels = omega arith in
    let split : s.channels * (pair / s.channels) + pair % s.channels ≡ pair = div-add-mod pair s.channels in
    let order : pair / s.channels * s.channels ≡ s.channels * (pair / s.channels) = mul_comm (pair / s.channels) s.channels in
    let kind_is : link % 3 ≡ kind = w.1.1 in
    let here : link_at s kind (pair / s.channels) (pair % s.channels) ≡ link = omega arith in
    (pair / s.channels, pair % s.channels, (div-lt_iff_lt-mul has).1 low, mod-lt pair has, ap (latency s) here ∙ w.2)

-- requests
pub request-meets : (s : Config) → RequestsTravelFor s (least_of_kind s 0 s.request_latency)
request-meets s core channel c l =
    let e : link_at s 0 core channel ≡ request_link s core channel = omega arith in
    subst (λ x. least_of_kind s 0 s.request_latency ≤ latency s x) e (meets-pair s 0 core channel (omega arith) c l)

pub request-attained : (s : Config) → RequestTakes s (least_of_kind s 0 s.request_latency)
request-attained s =
    let w = attained-pair s 0 (omega arith) in
    let e : request_link s w.0 w.1 ≡ link_at s 0 w.0 w.1 = omega arith in
    (w.0, w.1, w.2, w.3, ap (latency s) e ∙ w.4)

pub request-positive : (s : Config) → 1 ≤ least_of_kind s 0 s.request_latency
request-positive s = positive-at s 0 (omega arith)

-- credits and replies
abbrev pub way_back : Config → ℕ
way_back s = min (least_of_kind s 2 s.credit_latency) (s.timing.n_cl + 4 + least_of_kind s 1 s.reply_latency)

pub answers-meet : (s : Config) → AnswersTakeFor s (way_back s)
answers-meet s core channel c l =
    let a : least_of_kind s 2 s.credit_latency ≤ latency s (credit_link s core channel) = meets-pair s 2 core channel (omega arith) c l in
    let b : least_of_kind s 1 s.reply_latency ≤ latency s (reply_link s core channel) = meets-pair s 1 core channel (omega arith) c l in
    (omega arith, omega arith)

pub answers-attained : (s : Config) → AnswerTakes s (way_back s)
answers-attained s = by (cases_lt (least_of_kind s 2 s.credit_latency) (s.timing.n_cl + 4 + least_of_kind s 1 s.reply_latency))
  where
    by : (least_of_kind s 2 s.credit_latency < s.timing.n_cl + 4 + least_of_kind s 1 s.reply_latency) ⊎ (s.timing.n_cl + 4 + least_of_kind s 1 s.reply_latency ≤ least_of_kind s 2 s.credit_latency) → AnswerTakes s (way_back s)
    by (inl h) =
        let w = attained-pair s 2 (omega arith) in
        let e : latency s (credit_link s w.0 w.1) ≡ least_of_kind s 2 s.credit_latency = w.4 in
        (w.0, w.1, w.2, w.3, inl (omega arith))
    by (inr h) =
        let w = attained-pair s 1 (omega arith) in
        let e : latency s (reply_link s w.0 w.1) ≡ least_of_kind s 1 s.reply_latency = w.4 in
        (w.0, w.1, w.2, w.3, inr (omega arith))

pub answers-positive : (s : Config) → 1 ≤ way_back s
answers-positive s = let a = positive-at s 2 (omega arith) in omega arith
