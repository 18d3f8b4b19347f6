-- A core that has done nothing yet.
use Rattle.std.proofs.Common.{◌≡◌, ℕ, zero, suc, ◌+◌, ◌-◌, ◌^◌, ◌<◌, ◌≤◌, List, [], length, Some, refl, sym, ap, ap₂, ◌∙◌, arith}
use Rattle.std.specs.Prelude.{slice_get, replicate}
use Rattle.sim_base.specs.declared.config.Config.{Config}
use Rattle.sim_base.specs.Final.{credits_left}
use Rattle.sim_base.specs.History.{retired_before, issued_before, core_messages}
use Rattle.sim_base.specs.Windows.{held}
use Rattle.sim_base.specs.declared.trace.Entry.{Entry}
use Rattle.statistics.specs.Cores.{core_none}
use Rattle.statistics.specs.Runs.{credits_of}
use Rattle.statistics.specs.declared.final_state.Credits.{Credits}
use Rattle.statistics.proofs.CoreCounts.{core_stats-none}
use Rattle.core_window.specs.Stands.{IsPast, StandsFor}
use Rattle.core_window.specs.Views.{CoreView}
use Rattle.core_window.specs.Outstanding.{outstanding_reads}

length-same : {X : Type 0} (n : ℕ) (x : X) → length (replicate n x) ≡ n
length-same zero x = refl
length-same (suc n) x = ap suc (length-same n x)

slice_get-same : {X : Type 0} (n : ℕ) (x : X) (k : ℕ) → k < n → slice_get (replicate n x) k ≡ Some x
slice_get-same zero x k l = absurd (omega arith)
slice_get-same (suc n) x zero l = refl
slice_get-same (suc n) x (suc k) l = slice_get-same n x k (omega arith)

-- the credits that a core holds at first
abbrev first_credits : Config → Credits
first_credits s = record { read = s.read_credits; write = s.write_credits }

credits-first : (s : Config) (core : ℕ) (trace : List Entry) (channel : ℕ) → credits_of s core trace [] [] channel ≡ first_credits s
unfolding credits_of credits_left held core_messages
credits-first s core trace channel =
    let both : ℕ → ℕ → Credits = λ r w. record { read = r; write = w } in
    let r : s.read_credits + 0 - 0 ≡ s.read_credits = omega arith in
    let w : s.write_credits + 0 - 0 ≡ s.write_credits = omega arith in
    ap₂ both r w

past-first : (s : Config) (core : ℕ) (trace : List Entry) → length trace ≤ 2 ^ 62 → IsPast s core trace [] []
unfolding issued_before retired_before outstanding_reads core_messages
past-first s core trace l =
    record {
      fits = l;
      issued = omega arith;
      retired = omega arith;
      window = omega arith;
      arrived = tt;
      follows = tt;
      done = λ entry b read. absurd (omega arith);
      answered = omega arith;
      paid = λ channel access. omega arith;
    }

pub start-stands : (s : Config) (core : ℕ) (trace : List Entry) (v : CoreView) → v.config ≡ s → v.core ≡ core → v.trace ≡ trace → v.now ≡ 0 → v.outstanding ≡ []
    → v.credits ≡ replicate s.channels (first_credits s) → v.stats ≡ core_none → length trace ≤ 2 ^ 62 → StandsFor s core trace [] [] v
unfolding outstanding_reads issued_before
start-stands s core trace v config number entries now outstanding credits stats l =
    record {
      config = config;
      number = number;
      entries = entries;
      now = now;
      outstanding = outstanding;
      channels = ap length credits ∙ length-same s.channels (first_credits s);
      credits = λ channel b. ap (λ (cs : List Credits). slice_get cs channel) credits ∙ slice_get-same s.channels (first_credits s) channel b ∙ ap Some (sym (credits-first s core trace channel));
      stats = stats ∙ sym (core_stats-none s core trace);
      before = tt;
      past = past-first s core trace l;
    }
