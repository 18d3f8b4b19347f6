-- Shards that are taken one after the other, each with the lists at its index.
use Rattle.std.proofs.Common.{◌≡◌, ◌≢◌, ℕ, ◌+◌, ◌<◌, ◌≤◌, List, [], ◌∷◌, ◌++◌, length, get_or, set, refl, sym, ap, ap₂, subst, ◌∙◌, get_or-set_other, arith}
use Rattle.std.specs.Arc.{arc_value}
use Rattle.std.specs.Prelude.{fold}
use Rattle.std.specs.declared.vec.Vec.{Vec}
use Rattle.std.specs.declared.alloc.Global.{Global}
use Rattle.std.specs.declared.boxed.Box.{Box}
use Rattle.std.proofs.lemmas.List.{length-set}
use Rattle.std.proofs.Math.Seq.{get_or-append_seam}
use Rattle.sim_base.specs.declared.message.Message.{Message}
use Rattle.sim_base.specs.History.{insert_by_age}
use Rattle.sim_base.proofs.Added.{length-push_suc}
use Rattle.links.specs.InFlight.{InFlight}
use Rattle.shards.specs.Lists.{lists_of}
use Rattle.shards.specs.Shards.{HasEarlyWords, IsOfMachine, IsShard, IsUpTo}
use Rattle.shards.specs.Jobs.{JobView, IsJob, IsOwnJob, job_view}
use Rattle.shards.specs.Phases.{PhaseView, MayGo, MayStop, job_of, name_of}
use Rattle.units.specs.declared.machine.Machine.{Machine}
use Rattle.units.specs.Units.{unit_count}
use Rattle.units.specs.Wakes.{AreEarly, AreLowered, AreBetweenPhases}
use Rattle.shards.specs.declared.shard.Shard.{Shard}
use Rattle.shards.specs.declared.job.JobName.{JobName}
use Rattle.shards.proofs.Jobs.{taken-up}
use Rattle.units.proofs.Standing.{seam-within}
use Rattle.units.proofs.Early.{run-early}

-- the lists of the shards from an index on stand where they stood
pub record AreLeft (from : ℕ) (inbound left : List (Vec (Vec Message Global) Global)) : Type 0 where
  pub count : length left ≡ length inbound
  pub same : (index : ℕ) (d : Vec (Vec Message Global) Global) → from ≤ index → get_or left index d ≡ get_or inbound index d

-- the lists of one more shard are changed
pub left-next : (ys : List (Box Shard Global)) (x : Box Shard Global) (at : ℕ) (inbound left : List (Vec (Vec Message Global) Global)) (lists : Vec (Vec Message Global) Global)
    → at ≡ length ys → AreLeft (length ys) inbound left → AreLeft (length (ys ++ x ∷ [])) inbound (set left at lists)
left-next ys x at inbound left lists here h = record {
  count = length-set left at lists ∙ h.count;
  same = λ index d l.
      (let past : length ys < index = omega (arith, l, length-push_suc ys x) in
      let other : index ≢ at = omega (arith, past, here) in
      get_or-set_other left at index lists d other ∙ h.same index d (omega (arith, past)));
}

-- the lists at the index of the shard after some
pub seam-left : (shards ys rest : List (Box Shard Global)) (x : Box Shard Global) (inbound left : List (Vec (Vec Message Global) Global)) → ys ++ x ∷ rest ≡ shards → length inbound ≡ length shards
    → AreLeft (length ys) inbound left → length ys < length left
seam-left shards ys rest x inbound left e count h = let less = seam-within shards ys rest x (length shards) e refl in omega (arith, less, count, h.count)

-- which stands at that index
seam-at : (shards ys rest : List (Box Shard Global)) (x : Box Shard Global) → ys ++ x ∷ rest ≡ shards → get_or shards (length ys) x ≡ x
seam-at shards ys rest x e = ap (λ z. get_or z (length ys) x) (sym e) ∙ get_or-append_seam ys x rest x

-- the shard after some may go over the phase, with the lists at its index
pub seam-job : (p : PhaseView) (shards ys rest : List (Box Shard Global)) (x : Box Shard Global)
    (inbound left : List (Vec (Vec Message Global) Global)) (d : Vec (Vec Message Global) Global) → MayGo p shards inbound → ys ++ x ∷ rest ≡ shards
    → AreLeft (length ys) inbound left → IsJob p.machine p.bounds (name_of p (length ys)) x.value (get_or left (length ys) d).items
seam-job p shards ys rest x inbound left d h e l =
    let name = name_of p (length ys) in
    let less = seam-within shards ys rest x (length shards) e refl in
    subst (λ (b : Box Shard Global). IsJob p.machine p.bounds name b.value (get_or left (length ys) d).items) (seam-at shards ys rest x e)
    (subst (λ (v : Vec (Vec Message Global) Global). IsJob p.machine p.bounds name (get_or shards (length ys) x).value v.items) (sym (l.same (length ys) d (omega arith))) (h.each (length ys) x d less))

-- a part of a phase is one of the machine that its shard has
pub job-own : (machine : Machine) (bounds : List ℕ) (name : JobName) (shard : Shard) (inbound : List (Vec Message Global)) → IsJob machine bounds name shard inbound
    → IsOwnJob name shard inbound
job-own machine bounds name shard inbound h =
    let is = h.before.is in
    subst (λ m. IsJob m shard.bounds.items name shard inbound) (sym is.machine_is)
    (subst (λ b. IsJob machine b name shard inbound) (sym is.bounds_are) h)

-- contracts see a shard's job in a phase as one of the phase's machine
pub job-seen : (p : PhaseView) (index : ℕ) (shard : Shard) → IsShard p.machine p.bounds index shard → job_view shard (name_of p index) ≡ job_of p index
job-seen p index shard is = ap₂ {C = JobView} (λ m b. record { machine = m; bounds = b; name = name_of p index }) is.machine_is is.bounds_are

-- the shard after some may stop at a cycle, with the lists at its index
pub seam-stop : (machine : Machine) (bounds : List ℕ) (now : ℕ) (shards ys rest : List (Box Shard Global)) (x : Box Shard Global)
    (inbound left : List (Vec (Vec Message Global) Global)) (d : Vec (Vec Message Global) Global) → MayStop machine bounds now shards inbound → ys ++ x ∷ rest ≡ shards
    → AreLeft (length ys) inbound left → IsUpTo machine bounds (length ys) now x.value (get_or left (length ys) d).items
seam-stop machine bounds now shards ys rest x inbound left d h e l =
    let less = seam-within shards ys rest x (length shards) e refl in
    subst (λ (b : Box Shard Global). IsUpTo machine bounds (length ys) now b.value (get_or left (length ys) d).items) (seam-at shards ys rest x e)
    (subst (λ (v : Vec (Vec Message Global) Global). IsUpTo machine bounds (length ys) now (get_or shards (length ys) x).value v.items) (sym (l.same (length ys) d (omega arith))) (h.each (length ys) x d less))

-- the words of a shard are of units that the machine has, and its links are those of the machine
pub stop-of_machine : (machine : Machine) (bounds : List ℕ) (index now : ℕ) (shard : Shard) (inbound : List (Vec Message Global)) → IsUpTo machine bounds index now shard inbound
    → IsOfMachine shard
stop-of_machine machine bounds index now shard inbound h =
    let same = ap (λ (m : Machine). unit_count m.config) h.is.machine_is in
    record {
      words = omega (arith, same, h.has_run.within, h.has_run.words_count);
      links = ap (λ (x : InFlight). x.channels) h.has_run.flight ∙ sym (ap (λ (m : Machine). m.config.channels) h.is.machine_is);
    }

-- no word of a shard that has gone over its part of a phase is later than what is in flight to its unit
pub stop-early : (machine : Machine) (bounds : List ℕ) (index now : ℕ) (shard : Shard) (inbound : List (Vec Message Global)) → IsUpTo machine bounds index now shard inbound
    → HasEarlyWords shard
stop-early machine bounds index now shard inbound h =
    subst (λ (m : Machine). AreEarly m.config shard.range.first shard.range.words.items shard.traffic.links) (sym h.is.machine_is)
    (run-early machine shard.range.first h.began h.last shard.range.units.items shard.range.words.items shard.traffic.links h.order h.has_run)

-- a shard that takes up its lists is between phases
pub stops : (machine : Machine) (bounds : List ℕ) (index now : ℕ) (before after : Shard) (inbound : List (Vec Message Global)) → IsUpTo machine bounds index now before inbound
    → after ≡ record before { range = record before.range { words = after.range.words }; traffic = record before.traffic { links = after.traffic.links } }
    → AreLowered (arc_value before.machine).config before.range.first (lists_of inbound) before.range.words.items after.range.words.items
    → after.traffic.links ≡ record before.traffic.links { messages = fold insert_by_age before.traffic.links.messages (lists_of inbound) }
    → IsShard machine bounds index after × AreBetweenPhases machine after.range.first now after.range.units.items after.range.words.items after.traffic.links
stops machine bounds index now before after inbound h same low links =
    let is = h.is in
    subst (λ (x : Shard). IsShard machine bounds index x × AreBetweenPhases machine x.range.first now x.range.units.items x.range.words.items x.traffic.links) (sym same) (
      record {
        machine_is = is.machine_is;
        bounds_are = is.bounds_are;
        exists = is.exists;
        first_is = is.first_is;
        past_is = is.past_is;
      },
      taken-up machine bounds index now before inbound after.range.words.items after.traffic.links h
          (subst (λ (m : Machine). AreLowered m.config before.range.first (lists_of inbound) before.range.words.items after.range.words.items) is.machine_is low) links,
    )
