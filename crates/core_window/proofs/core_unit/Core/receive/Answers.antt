-- A reply and a credit, each by its lemma; no request is due at a core.
use Rattle.std.proofs.Common.{◌≡◌, ◌∙◌, ◌∷◌, [], ◌++◌, sym, ap, subst}
use Rattle.core_window.specs.CoreViews.{view_of}
use Rattle.core_window.specs.Fit.{MayCarry}
use Rattle.core_window.specs.Outstanding.{IsByNumber}
use Rattle.core_window.specs.Inside.{StandsAt}
use Rattle.core_window.specs.Replies.{with_reply}
use Rattle.core_window.proofs.Receiving.{outstanding-by_number, reply-room, credit-stands}
use Rattle.core_window.proofs.Stalling.{takes-reply}
use Rattle.core_window.proofs.core_unit.Core.receive.Goals as goal

pub receive_reply-requires-clause-order : goal.receive_reply-requires-clause-order
receive_reply-requires-clause-order c = let h = c.requires.stands.stands in subst IsByNumber (sym h.outstanding) (outstanding-by_number c.requires.stands.trace c.requires.stands.steps c.requires.stands.mail)

pub receive_reply-requires-clause-room : goal.receive_reply-requires-clause-room
receive_reply-requires-clause-room c =
    let h = c.requires.stands in
    reply-room h.s h.core h.trace h.steps h.mail (view_of c.args.self.now) h.stands c.requires.early

pub returns-in-Reply : goal.returns-in-Reply
returns-in-Reply c s core trace steps mail h now due =
    let v = view_of c.args.self.now in
    let same : with_reply v c.in-Reply.entry c.args.message.arrival ≡ view_of c.receive_reply.new.self = ap (with_reply v c.in-Reply.entry) (now ∙ sym h.now) ∙ sym c.receive_reply.ensures in
    subst (StandsAt s core trace steps (mail ++ c.args.message ∷ [])) same
    (takes-reply v c.args.message c.in-Reply.entry s core trace steps mail c.in-Reply.is h now due)

pub returns-in-Credit : goal.returns-in-Credit
returns-in-Credit c s core trace steps mail h now due =
    let owed = subst (MayCarry s core trace steps mail c.args.message.link) c.in-Credit.is due in
    credit-stands s core trace steps mail c.args.message (view_of c.args.self.now) (view_of c.receive_credit.new.self) c.in-Credit.access c.in-Credit.entry h now c.in-Credit.is owed
    c.receive_credit.ensures.rest c.receive_credit.ensures.len c.receive_credit.ensures.credits
