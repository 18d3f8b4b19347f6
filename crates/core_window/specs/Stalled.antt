-- A core that waits for a reply, and takes what arrives before it without coming up to each cycle.
--     IsStalled view first      the first entry of a core's full window is this one, and waits for its reply
--     HasTakenUpTo before from until arriving rest after      a core took what arrived, up to what is left
--     IsBehind before from until arriving rest first view      a stalled core took that, and has yet to rest
--     StaysBehind first old before new after      a stalled core takes some of what is left
--     FindsReply first old before new after reply      a stalled core takes some, up to the reply to another entry
use Rattle.std.specs.Prelude.{◌≡◌, ℕ, ◌-◌, ◌≤◌, [], length, drop}
use Rattle.core_window.specs.Arriving.{IsByAge, all_arriving, IsNextReply, BeginsWithReply}
use Rattle.core_window.specs.Causes.{first_undone}
use Rattle.core_window.specs.Fit.{CanRun}
use Rattle.core_window.specs.Inside.{HasTaken}
use Rattle.core_window.specs.Rests.{rested}
use Rattle.core_window.specs.Views.{CoreView}
use Rattle.core_window.specs.declared.receive.Arriving.{Arriving}
use Rattle.core_window.specs.declared.receive.Reply.{Reply}

-- the first entry of a core's full window is this one, and waits for its reply: until that comes, the core does nothing
pub record IsStalled (view : CoreView) (first : ℕ) : Type 0 where
  pub waits : first_undone view.stats.issued view.outstanding ≡ first
  pub unretired : first ≤ view.stats.retired
  pub full : view.stats.issued - view.stats.retired ≡ view.config.window
  pub within : view.stats.issued ≤ length view.trace

-- a core took the first of what arrives in a span, each message in its cycle, up to what is left, and sent nothing
pub record HasTakenUpTo (before : CoreView) (from until : ℕ) (arriving rest : Arriving) (after : CoreView)
    : Type 0 where
  pub taken : ℕ
  pub left : all_arriving rest ≡ drop taken (all_arriving arriving)
  pub by_age : IsByAge rest.credits.now
  pub took : HasTaken before from until (all_arriving arriving) taken after []

-- a stalled core took the first of what arrives in a span, up to what is left, but did not come up to their cycles: it
-- would have, had it rested up to the cycle `at`
pub record IsBehind (before : CoreView) (from until : ℕ) (arriving rest : Arriving) (first : ℕ) (view : CoreView)
    : Type 0 where
  pub at : ℕ
  pub since : view.now ≤ at
  pub took : HasTakenUpTo before from until arriving rest (rested view at)
  pub stalled : IsStalled view first

-- a stalled core takes some of what is left: whatever it took before, it has then taken these too
abbrev pub StaysBehind : ℕ → CoreView → Arriving → CoreView → Arriving → Type 0
StaysBehind first old before new after =
    (view : CoreView) (from until : ℕ) (arriving : Arriving) → CanRun view from until (all_arriving arriving)
    → view.now ≡ from → IsBehind view from until arriving before first old
    → IsBehind view from until arriving after first new

-- a stalled core takes some of what is left, up to a reply to another entry than the one that it waits for; that reply
-- is taken off what is left
pub record FindsReply (first : ℕ) (old : CoreView) (before : Arriving) (new : CoreView) (after : Arriving)
    (reply : Reply) : Type 0 where
  pub between : Arriving
  pub stays : StaysBehind first old before new between
  pub begins : BeginsWithReply between
  pub by_age : IsByAge between.credits.now
  pub same : between.replies.now ≡ before.replies.now
  pub next : IsNextReply first between reply after
