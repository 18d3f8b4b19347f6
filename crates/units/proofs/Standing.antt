-- Units in their order, each of which stands for its part of a run.
use Rattle.std.proofs.Common.{◌≡◌, ℕ, ◌+◌, ◌-◌, ◌<◌, ltb, true, false, List, [], ◌∷◌, ◌++◌, length, Option, Some, None, IfSome, ◌⊎◌, inl, inr, refl, sym, ap, subst, ◌∙◌, arith}
use Rattle.std.specs.declared.boxed.Box.{Box}
use Rattle.std.specs.declared.alloc.Global.{Global}
use Rattle.std.specs.Prelude.{slice_get}
use Rattle.std.proofs.lemmas.List.{length-append, append-nil, nil_from_length}
use Rattle.std.proofs.lemmas.Bool.{cond-true, cond-false}
use Rattle.std.proofs.lemmas.Bool.Decides.{nat_tests}
use Rattle.sim_base.specs.declared.config.Config.{Config}
use Rattle.sim_base.specs.declared.command.IssuedCommand.{IssuedCommand}
use Rattle.sim_base.specs.declared.message.Unit.TheVariants as unit
use Rattle.sim_base.specs.declared.trace.Entry.{Entry}
use Rattle.sim_base.specs.History.{trace_of, issued_commands, steps_of_channel}
use Rattle.sim_base.specs.Machine.{run}
use Rattle.sim_base.proofs.Lists.{get-push}
use Rattle.laws.specs.Commands.{history_of}
use Rattle.channel_step.specs.Channels.{StandsFor as ChannelStandsFor}
use Rattle.channel_step.specs.declared.channel.Channel.{Channel}
use Rattle.core_window.specs.CoreViews.{view_of}
use Rattle.core_window.specs.Stands.{StandsFor as CoreStandsFor}
use Rattle.core_window.specs.declared.core_unit.Core.{Core}
use Rattle.units.proofs.SpanLaws.ChannelsOn.{channels-start}
use Rattle.units.proofs.SpanLaws.CoresOn.{cores-start}
use Rattle.units.specs.Units.{unit_at}
use Rattle.units.specs.Parts.{IsPart, StandAt}
use Rattle.units.specs.declared.part.UnitState.{UnitState}
use Rattle.units.specs.declared.machine.Machine.{Machine}
use Rattle.units.specs.Runs.{commands_at}
use Rattle.units.specs.declared.part.UnitState.TheVariants as part

pub stand-none : (machine : Machine) (now : ℕ) → StandAt machine now []
stand-none machine now place p e = cc

pub stand-push : (machine : Machine) (now : ℕ) (parts : List UnitState) (p : UnitState) → StandAt machine now parts
    → IsPart machine (unit_at machine.config (length parts)) now p → StandAt machine now (parts ++ p ∷ [])
stand-push machine now parts p h k place q e = by_case (get-push parts p place q e)
  where
    by_case : (slice_get parts place ≡ Some q) ⊎ ((place ≡ length parts) × (p ≡ q)) → IsPart machine (unit_at machine.config place) now q
    by_case (inl f) = h place q f
    by_case (inr f) = subst (IsPart machine (unit_at machine.config place) now) f.1 (subst (λ i. IsPart machine (unit_at machine.config i) now p) (sym f.0) k)

pub core-at_place : (s : Config) (place : ℕ) → place < s.cores → unit_at s place ≡ unit.Core place
core-at_place s place l = let e : ltb place s.cores ≡ true = grind (arith, nat_tests) in cond-true _ _ _ e

pub channel-at_place : (s : Config) (place channel : ℕ) → place ≡ s.cores + channel → unit_at s place ≡ unit.Channel channel
channel-at_place s place channel f =
    let e : ltb place s.cores ≡ false = grind (arith, nat_tests) in
    let g : place - s.cores ≡ channel = omega arith in
    cond-false _ _ _ e ∙ ap unit.Channel g

pub first-core : (machine : Machine) (parts : List UnitState) (core : ℕ) (c : Box Core Global) → StandAt machine 0 parts → length parts ≡ core → core < machine.config.cores
    → CoreStandsFor machine.config core (trace_of machine.traces.items core) [] [] (view_of c.value) → StandAt machine 0 (parts ++ part.Core c ∷ [])
first-core machine parts core c h e l k =
    stand-push machine 0 parts (part.Core c) h
    (subst (λ i. IsPart machine (unit_at machine.config i) 0 (part.Core c)) (sym e)
    (subst (λ u. IsPart machine u 0 (part.Core c)) (sym (core-at_place machine.config core l)) (cores-start machine.config machine.traces.items core (view_of c.value) k)))

history-none : (s : Config) (traces : List (List Entry)) (channel : ℕ) → history_of s traces 0 channel ≡ []
unfolding run steps_of_channel issued_commands
history-none s traces channel = refl

-- a list that is kept is the same as another
kept-same : {X : Type 0} (kept : Option (List X)) (xs ys : List X) → xs ≡ ys → IfSome kept (λ rows. rows ≡ xs) → IfSome kept (λ rows. rows ≡ ys)
kept-same None xs ys e h = tt
kept-same (Some rows) xs ys e h = h ∙ e

pub first-channel : (machine : Machine) (parts : List UnitState) (channel : ℕ) (c : Box Channel Global) (rows : Option (List IssuedCommand)) → StandAt machine 0 parts
    → length parts ≡ machine.config.cores + channel → ChannelStandsFor c.value machine.config channel [] [] → IfSome rows (λ r. r ≡ []) → StandAt machine 0 (parts ++ part.Channel c rows ∷ [])
first-channel machine parts channel c rows h e k none =
    stand-push machine 0 parts (part.Channel c rows) h
    (subst (λ u. IsPart machine u 0 (part.Channel c rows)) (sym (channel-at_place machine.config (length parts) channel e))
    (channels-start machine.config machine.traces.items channel c.value k, kept-same rows [] (commands_at machine 0 channel) (sym (history-none machine.config machine.traces.items channel)) none))

-- the elements that come before one are fewer than all
pub seam-within : {X : Type 0} (xs ys rest : List X) (x : X) (n : ℕ) → ys ++ x ∷ rest ≡ xs → length xs ≡ n → length ys < n
seam-within xs ys rest x n e f = let g = sym (length-append ys (x ∷ rest)) ∙ ap length e ∙ f in omega (arith, g)

get-seam : {X : Type 0} (ys rest : List X) (x : X) → slice_get (ys ++ x ∷ rest) (length ys) ≡ Some x
get-seam [] rest x = refl
get-seam (y ∷ ys) rest x = get-seam ys rest x

-- the unit that comes after some stands for its part
pub stand-seam : (machine : Machine) (now : ℕ) (parts ys rest : List UnitState) (p : UnitState) → StandAt machine now parts
    → ys ++ p ∷ rest ≡ parts → IsPart machine (unit_at machine.config (length ys)) now p
stand-seam machine now parts ys rest p h e = h (length ys) p (ap (λ z. slice_get z (length ys)) (sym e) ∙ get-seam ys rest p)

-- a list that is gone through is what was gone through
pub all-yielded : {X : Type 0} (ys rest xs : List X) → ys ++ rest ≡ xs → length rest ≡ 0 → ys ≡ xs
all-yielded ys rest xs e h = sym (append-nil ys) ∙ ap (λ z. ys ++ z) (sym (nil_from_length rest h)) ∙ e
