-- What arrives at a channel is known from the cores alone, and what arrives at a core from the channels alone.
--     RequestsAreKnown s traces now until      what arrives at a channel before `until` was sent before `now`
--     AnswersAreKnown s traces now until      what arrives at a core before `until` was sent before `now`
use Rattle.std.specs.Prelude.{◌≡◌, ℕ, ◌+◌, ◌≤◌, List, filter}
use Rattle.sim_base.specs.declared.config.Config.{Config}
use Rattle.sim_base.specs.History.{is_to, by_age}
use Rattle.sim_base.specs.declared.message.Unit.TheVariants.{Core, Channel}
use Rattle.sim_base.specs.declared.trace.Entry.{Entry}
use Rattle.units.specs.SpanLaws.Mail.{mail_before, mail_in, arriving}
use Rattle.links.specs.Buffers.{due_of}
use Rattle.units.specs.SpanLaws.Sent.{requests_sent, answers_sent, RequestsTravelFor, AnswersTakeFor}

-- Where no request travels for less than `least` cycles, what arrives at a channel before a cycle is exactly what the
-- cores sent up to that many cycles before it, in any run that has come as far, by age.
abbrev pub RequestsAreKnown : Config → List (List Entry) → ℕ → ℕ → Type 0
RequestsAreKnown s traces now until =
    (least n channel : ℕ) → RequestsTravelFor s least → until ≤ now + least → until ≤ n + least
    → (mail_before s traces n (Channel channel) until
    ≡ by_age (due_of until (filter (is_to s (Channel channel)) (requests_sent s traces now))))
    × ((from : ℕ)
    → mail_in s traces n (Channel channel) from until
    ≡ by_age (arriving from until (filter (is_to s (Channel channel)) (requests_sent s traces now))))

-- Where no credit and no reply takes less than `least` cycles, what arrives at a core before a cycle is exactly what
-- the channels sent up to that many cycles before it, in any run that has come as far, by age.
abbrev pub AnswersAreKnown : Config → List (List Entry) → ℕ → ℕ → Type 0
AnswersAreKnown s traces now until =
    (least n core : ℕ) → AnswersTakeFor s least → until ≤ now + least → until ≤ n + least
    → (mail_before s traces n (Core core) until
    ≡ by_age (due_of until (filter (is_to s (Core core)) (answers_sent s traces now))))
    × ((from : ℕ)
    → mail_in s traces n (Core core) from until
    ≡ by_age (arriving from until (filter (is_to s (Core core)) (answers_sent s traces now))))
