-- The offers of all banks, from none on.
use Rattle.std.proofs.Common.{◌≡◌, ap, ◌∙◌, ◌<◌, ◌≤◌, sym, subst, refl, Some, None, length, arith}
use Rattle.queue.specs.Candidates.{first_place}
use Rattle.channel_step.specs.FrFcfs.Offers.{no_offer, hits_now, row_requests_now, IsBestSoFar}
use Rattle.channel_step.proofs.FrFcfs.SoFar.{none_so_far, found, none_found}
use Rattle.channel_step.proofs.FrFcfs.Below.{first_ready_is}
use Rattle.channel_step.proofs.fr_fcfs.first.first_of.Goals as goal

pub returns-then-best-room-clause-first : goal.returns-then-best-room-clause-first
returns-then-best-room-clause-first c s history banks bank_candidates going_are =
    let log = c.args.queue.now.log in
    let long : c.len-room.result ≡ length log = c.len-room.ensures.value ∙ ap (λ v. length v.log) c.log.ensures in
    let accesses = c.args.accesses in
    let best = c.with_banks.new.best in
    let inside : best.place < length log = omega (arith, long) in
    let start =
    subst (λ room. IsBestSoFar (length log) c.args.now (λ cycle. None) (λ cycle. None) (no_offer room)) (sym long)
    (none_so_far (length log) c.args.now (λ cycle. None) (λ cycle. None) (λ cycle late. refl) (λ cycle late. refl)) in
    first_ready_is s history c.args.queue.now accesses c.args.now (Some best) going_are inside
    (found (length log) c.args.now (λ cycle. first_place (hits_now s history accesses cycle) log) (λ cycle. first_place (row_requests_now s history log accesses cycle) log) best inside
    (c.with_banks.ensures s history log (record { banks_stand = banks; candidates_stand = bank_candidates; in_banks = c.requires.places }) start))

pub returns-else-best-room-clause-first : goal.returns-else-best-room-clause-first
returns-else-best-room-clause-first c s history banks bank_candidates going_are =
    let log = c.args.queue.now.log in
    let long : c.len-room.result ≡ length log = c.len-room.ensures.value ∙ ap (λ v. length v.log) c.log.ensures in
    let accesses = c.args.accesses in
    let best = c.with_banks.new.best in
    let outside : length log ≤ best.place = omega (arith, long) in
    let start =
    subst (λ room. IsBestSoFar (length log) c.args.now (λ cycle. None) (λ cycle. None) (no_offer room)) (sym long)
    (none_so_far (length log) c.args.now (λ cycle. None) (λ cycle. None) (λ cycle late. refl) (λ cycle late. refl)) in
    first_ready_is s history c.args.queue.now accesses c.args.now None going_are tt
    (none_found (length log) c.args.now (λ cycle. first_place (hits_now s history accesses cycle) log) (λ cycle. first_place (row_requests_now s history log accesses cycle) log) best outside
    (c.with_banks.ensures s history log (record { banks_stand = banks; candidates_stand = bank_candidates; in_banks = c.requires.places }) start))
