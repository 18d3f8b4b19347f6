-- The statistics of a channel that a memory has, and of one that it has not.
use Rattle.std.proofs.Common.{◌≡◌, ℕ, Bool, true, false, Some, None, Result, Ok, Err, refl, ap, subst, ◌∙◌}
use Rattle.std.specs.Prelude.{if◌then◌else◌}
use Rattle.statistics.specs.declared.channels.ChannelStats.{ChannelStats}
use Rattle.dramsim_c.specs.CInterface.Statuses.{fault_number}
use Rattle.dramsim_c.specs.declared.c_interface.fault.CallFault.{CallFault}
use Rattle.dramsim_c.specs.CInterface.Memories.{stats_answer}

abbrev IsDone : Result ChannelStats CallFault → Type 0
IsDone (Ok stats) = Unit {0}
IsDone (Err fault) = ⊥

abbrev IsRefused : Result ChannelStats CallFault → Type 0
IsRefused (Ok stats) = ⊥
IsRefused (Err fault) = Unit {0}

fault-or : CallFault → Result ChannelStats CallFault → CallFault
fault-or other (Ok stats) = other
fault-or other (Err fault) = fault

pub there : (b : Bool) (stats x : ChannelStats) → Ok x ≡ stats_answer (if b then Some stats else None) → ◌≡◌ {A = ℕ} 0 (if b then 0 else 5)
there true stats x h = refl
there false stats x h = absurd (subst IsDone h tt)

pub missing : (b : Bool) (stats : ChannelStats) (fault : CallFault) (n : ℕ) → n ≡ fault_number fault → Err fault ≡ stats_answer (if b then Some stats else None) → n ≡ (if b then 0 else 5)
unfolding fault-or
missing true stats fault n is h = absurd (subst IsRefused h tt)
missing false stats fault n is h = is ∙ ap (λ (r : Result ChannelStats CallFault). fault_number (fault-or fault r)) h
