-- The first tests of a request: its core is there, its channel is that of its address, and it does not arrive in the
-- past.
use Rattle.std.proofs.Common.{◌≡◌, ◌<◌, ◌∙◌, ℕ, Some, true, eqb, refl, sym, ap}
use Rattle.std.proofs.lemmas.Bool.{le-leb, lt-leb, lt-ltb, ne_eqb, eq-eqb}
use Rattle.sim_base.specs.Places.{place_of}
use Rattle.sim_base.specs.declared.place.Place.{Place}
use Rattle.sessions.specs.Sessions.{refusal}
use Rattle.sessions.specs.declared.channel_session.fault.SessionFault.TheVariants.{OtherChannel, InThePast}
use Rattle.sessions.specs.declared.channel_session.requests.SentRequest.{SentRequest}
use Rattle.sessions.specs.declared.channel_session.session.Session.{Session}
use Rattle.sessions.proofs.channel_session.session.Session.refusal.Goals as goal

elsewhere : (session : Session) (waits : ℕ) (r : SentRequest) (place : Place) → r.core < session.config.cores → place ≡ place_of session.config r.address → (place.channel ≡ session.number → ⊥)
    → Some OtherChannel ≡ refusal session waits r
elsewhere session waits r place core is other =
    rw (lt-leb session.config.cores r.core core, ne_eqb (place_of session.config r.address).channel session.number (λ same. other (ap (λ (p : Place). p.channel) is ∙ same))) refl

late : (session : Session) (waits : ℕ) (r : SentRequest) (place : Place) → r.core < session.config.cores → place ≡ place_of session.config r.address → place.channel ≡ session.number
    → r.arrival < session.cycle → Some InThePast ≡ refusal session waits r
late session waits r place core is channel past =
    let here : eqb (place_of session.config r.address).channel session.number ≡ true = eq-eqb _ _ (ap (λ (p : Place). p.channel) (sym is) ∙ channel) in
    rw (lt-leb session.config.cores r.core core, here, lt-ltb r.arrival session.cycle past) refl

pub returns-then-self-request : goal.returns-then-self-request
returns-then-self-request c = rw (le-leb c.args.self.now.config.cores c.args.request.now.core c.if-self-request.true) refl

pub returns-then-place-self : goal.returns-then-place-self
returns-then-place-self c = elsewhere c.args.self.now c.args.waits c.args.request.now c.args.place c.if-self-request.false c.requires.place c.if-place-self.true

pub returns-then-request-self : goal.returns-then-request-self
returns-then-request-self c = late c.args.self.now c.args.waits c.args.request.now c.args.place c.if-self-request.false c.requires.place c.if-place-self.false c.if-request-self.true
