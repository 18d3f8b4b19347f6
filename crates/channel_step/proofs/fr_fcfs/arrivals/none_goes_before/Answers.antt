-- One request more comes after, and then all that have arrived.
use Rattle.std.proofs.Common.{◌≡◌, true, List, ◌++◌, length, drop, sym, ap, subst, ◌∙◌, arith}
use Rattle.std.proofs.lemmas.Bool.{true≢false}
use Rattle.std.proofs.lemmas.List.{take-append-drop, drop-map, get_or-map, length-map}
use Rattle.std.proofs.lemmas.List.Elements.{AllWithin-more, AllWithin-upto}
use Rattle.std.specs.List.{All, AllWithin}
use Rattle.sim_base.specs.declared.message.Request.{Request}
use Rattle.queue.specs.declared.request_log.Arrived.{Arrived}
use Rattle.queue.specs.Log.{absent, all_requests}
use Rattle.bank_ready.specs.Stands.{rank_count}
use Rattle.queue.proofs.Waits.{request_at}
use Rattle.channel_step.specs.FrFcfs.Arrivals.{ComesAfter}
use Rattle.channel_step.specs.FrFcfs.Offers.{going, is_of}
use Rattle.channel_step.specs.FrFcfs.Requests.{KnowsRows, IsInBanks}
use Rattle.channel_step.proofs.FrFcfs.Staying.{next_stays, all_dropped}
use Rattle.channel_step.proofs.fr_fcfs.arrivals.none_goes_before.Goals.{else-is_going-via-else-is_going, else-is_going-via-then-is_going+else-not-comes_after}
use Rattle.channel_step.proofs.fr_fcfs.arrivals.none_goes_before.Goals as goal

pub comes_after-requires-clause-place : goal.comes_after-requires-clause-place
comes_after-requires-clause-place c =
    let same = c.log-log.ensures.log ∙ ap (λ v. v.log) c.log.ensures in
    let P = IsInBanks (rank_count c.args.banks.now) in
    request_at P c.log-log.result.now c.loop-place.place (subst (λ (log : List Arrived). All P (all_requests log)) (sym same) c.requires.places) c.loop-place-test.true

pub loop-place-preserved : goal.loop-place-preserved
loop-place-preserved c s history stands knows =
    let log = c.log-log.result.now in
    let requests = all_requests log in
    let place = c.loop-place.place in
    let request = λ (a : Arrived). a.request in
    let accesses = c.args.before.accesses in
    let P = λ (r : Request). is_of accesses r ≡ true → ComesAfter s history c.args.found.0 c.needs_column_command-hit.result r in
    AllWithin-more P requests c.args.before.places place (c.loop-place.invariant s history stands knows)
    (λ d. subst P (sym (get_or-map request log place absent d c.loop-place-test.true)) (λ is. elim c.else-is_going.branch [
      | else-is_going-via-else-is_going w ↦ absurd (true≢false (sym is ∙ sym c.goes-is_going.ensures ∙ w.if-is_going.false))
      | else-is_going-via-then-is_going+else-not-comes_after w ↦ w.comes_after.ensures s history w.if-not-comes_after.false stands knows
    ]))

pub returns : goal.returns
returns c always s history stands bank_candidates high now earlier command whole went needs =
    let log = c.args.queue.now.log in
    let from = c.args.before.places in
    let accesses = c.args.before.accesses in
    let knows : KnowsRows c.args.bank_candidates.now history = record { log = log; stands = bank_candidates } in
    let P = λ (r : Request). is_of accesses r ≡ true → ComesAfter s history c.args.found.0 c.needs_column_command-hit.result r in
    let same = c.log-log.ensures.log ∙ ap (λ v. v.log) c.log.ensures in
    let within : AllWithin P (all_requests log) from (length (all_requests log)) =
    AllWithin-upto P (all_requests log) from c.loop-place.place (length (all_requests log)) (omega (arith, ap length same, length-map log (λ (a : Arrived). a.request)))
    (subst (λ (l : List Arrived). AllWithin P (all_requests l) from c.loop-place.place) same (c.loop-place.invariant s history stands knows)) in
    let new = drop from log in
    let parts : log ≡ earlier.log ++ new = sym (take-append-drop from log) ∙ ap (λ xs. xs ++ new) (sym whole) in
    let hit = c.needs_column_command-hit.ensures s history log command needs in
    next_stays s history earlier c.args.queue.now new accesses c.args.found.0 command (went ∙ ap (going accesses) (sym whole)) now parts
    (subst (λ b. All (λ r. is_of accesses r ≡ true → ComesAfter s history c.args.found.0 b r) (all_requests new)) hit (subst (All P) (drop-map (λ (a : Arrived). a.request) from log) (all_dropped P (all_requests log) from within)))
