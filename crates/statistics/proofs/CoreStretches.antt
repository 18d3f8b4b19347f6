-- The statistics of a core over stretches of cycles, one after the other, are joined.
use Rattle.std.proofs.Common.{◌≡◌, ℕ, Option, Some, None, refl, add-zero, add_assoc}
use Rattle.std.specs.Option.{option_or}
use Rattle.statistics.specs.declared.cores.CoreStats.{CoreStats}
use Rattle.statistics.specs.Cores.{core_none, core_joined}

later_of_three : (a b c : Option ℕ) → option_or c (option_or b a) ≡ option_or (option_or c b) a
later_of_three a b None = refl
later_of_three a b (Some x) = refl

pub core_joined-assoc : (a b c : CoreStats) → core_joined (core_joined a b) c ≡ core_joined a (core_joined b c)
core_joined-assoc a b c =
    let f = later_of_three a.finish b.finish c.finish in
    simp (add_assoc, f)

pub core_joined-none : (a : CoreStats) → core_joined a core_none ≡ a
core_joined-none a = simp add-zero
