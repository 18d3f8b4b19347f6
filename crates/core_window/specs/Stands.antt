-- What a core stands for.
--     IsPast s core trace steps mail      what holds of the steps of a core and of the messages that it had
--     StandsFor s core trace steps mail view      all that a core keeps is what its steps and its messages make of it
use Rattle.std.specs.Prelude.{◌≡◌, ℕ, ◌^◌, ◌+◌, ◌<◌, ◌≤◌, Bool, true, List, length, filter, count_by, slice_get, Some}
use Rattle.std.specs.Option.{IfSome}
use Rattle.std.specs.List.{AllByRecursion as Each}
use Rattle.sim_base.specs.declared.config.Config.{Config}
use Rattle.sim_base.specs.Config.{credit_link}
use Rattle.sim_base.specs.Counts.{replied_entry, is_reply}
use Rattle.sim_base.specs.History.{retired_before, issued_before, core_messages}
use Rattle.sim_base.specs.Windows.{is_request_for, is_credit, credit_cap}
use Rattle.sim_base.specs.declared.history.CoreStep.{CoreStep}
use Rattle.sim_base.specs.declared.message.Access.{Access}
use Rattle.sim_base.specs.declared.message.Message.{Message}
use Rattle.sim_base.specs.declared.trace.Entry.{Entry}
use Rattle.statistics.specs.Cores.{core_stats}
use Rattle.statistics.specs.Runs.{credits_of}
use Rattle.core_window.specs.Views.{CoreView}
use Rattle.core_window.specs.Outstanding.{is_read_at, is_answered, outstanding_reads}
use Rattle.std.specs.Prelude.{take, ◌==◌, ◌&&◌}

-- a reply is of an entry that was issued in an earlier cycle than the one in which it arrived
abbrev pub FollowsItsEntry : List CoreStep → Message → Type 0
FollowsItsEntry steps m = IfSome (replied_entry m.payload) (λ entry. entry < issued_before (take m.arrival steps))

-- a credit on this link
abbrev pub is_credit_from : ℕ → Access → Message → Bool
is_credit_from link access m = (m.link == link) && is_credit access m.payload

-- the credits that a core had for a channel in all: those at first, and those that came
abbrev pub credits_had : Config → ℕ → List Message → ℕ → Access → ℕ
credits_had s core mail channel access =
    credit_cap s access + count_by (is_credit_from (credit_link s core channel) access) mail

-- the credits that a core spent for a channel
abbrev pub credits_spent : Config → ℕ → List Entry → List CoreStep → ℕ → Access → ℕ
credits_spent s core trace steps channel access =
    count_by (λ m. is_request_for channel access m.payload) (core_messages s core trace steps)

-- What holds of the steps of a core, one a cycle, and of the messages that it had, those of the next cycle perhaps
-- included.
pub record IsPast (s : Config) (core : ℕ) (trace : List Entry) (steps : List CoreStep) (mail : List Message)
    : Type 0 where
  -- a trace has at most 2^62 entries
  pub fits : length trace ≤ 2 ^ 62
  -- the core issues in order, up to the end of its trace
  pub issued : issued_before steps ≤ length trace
  -- the core retires what it issued
  pub retired : retired_before steps ≤ issued_before steps
  -- the core keeps no more than its window between issue and retirement
  pub window : issued_before steps ≤ retired_before steps + s.window
  -- each message came no later than in the next cycle
  pub arrived : Each (λ m. m.arrival ≤ length steps) mail
  -- each reply followed its entry
  pub follows : Each (FollowsItsEntry steps) mail
  -- no Read retired without its reply
  pub done : (entry : ℕ) → entry < retired_before steps → is_read_at trace entry ≡ true → is_answered mail entry ≡ true
  -- the replies and the Reads that still wait for one are together no more than the entries that were issued
  pub answered : length (filter is_reply mail) + length (outstanding_reads trace steps mail) ≤ issued_before steps
  -- no credit was spent that the core did not have
  pub paid : (channel : ℕ) (access : Access)
      → credits_spent s core trace steps channel access ≤ credits_had s core mail channel access

-- A core did what these steps say, one a cycle, and had these messages in those cycles: it stands at the cycle after
-- them.
pub record StandsFor (s : Config) (core : ℕ) (trace : List Entry) (steps : List CoreStep) (mail : List Message)
    (view : CoreView) : Type 0 where
  -- the core has this configuration, this number and this trace
  pub config : view.config ≡ s
  pub number : view.core ≡ core
  pub entries : view.trace ≡ trace
  -- the core stands at the cycle after its steps
  pub now : view.now ≡ length steps
  -- the core knows which Reads have no reply, in order, and in which cycle each was issued
  pub outstanding : view.outstanding ≡ outstanding_reads trace steps mail
  -- the core knows the credits that it holds for each channel
  pub channels : length view.credits ≡ s.channels
  pub credits : (channel : ℕ) → channel < s.channels
      → slice_get view.credits channel ≡ Some (credits_of s core trace steps mail channel)
  -- the core counted what statistics count, among them the entries that it issued and retired
  pub stats : view.stats ≡ core_stats s core trace steps mail
  -- all messages came before the cycle where it stands
  pub before : Each (λ m. m.arrival < length steps) mail
  -- the steps and messages are such as a core may have
  pub past : IsPast s core trace steps mail
