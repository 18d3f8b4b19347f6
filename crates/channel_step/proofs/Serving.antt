-- The requests that a channel keeps when it has served them.
use Rattle.std.proofs.Common.{◌≡◌, ℕ, Bool, false, List, [], ◌∷◌, ◌++◌, Option, Some, None, refl, sym, ap, ap₂, subst, ◌∙◌}
use Rattle.std.specs.Prelude.{filter_map, Vec}
use Rattle.std.specs.List.{AllByRecursion as Each, cons_option}
use Rattle.std.specs.declared.alloc.Global.{Global}
use Rattle.std.proofs.lemmas.Bool.{true≢false}
use Rattle.std.proofs.lemmas.List.{append-nil}
use Rattle.std.proofs.lemmas.List.Elements.{filter_map-append}
use Rattle.sim_base.proofs.Each.{Each-filter, Each-first}
use Rattle.sim_base.specs.Counts.{is_hit}
use Rattle.sim_base.specs.Places.{bank_in}
use Rattle.sim_base.specs.Scheduling.{request_in, source_of, is_queued, queued_requests, is_column_command, column_command_to, column_command}
use Rattle.sim_base.specs.declared.command.Command.{Command}
use Rattle.sim_base.specs.declared.command.Command.TheVariants.{Act, Rd, Wr, Pre, Prea, Ref}
use Rattle.sim_base.specs.declared.command.IssuedCommand.{IssuedCommand}
use Rattle.sim_base.specs.declared.command.Source.{Source}
use Rattle.sim_base.specs.declared.message.Message.{Message}
use Rattle.sim_base.specs.declared.message.Access.{Access}
use Rattle.sim_base.specs.declared.message.Access.TheVariants as access
use Rattle.sim_base.specs.declared.message.Request.{Request}
use Rattle.statistics.specs.Channels.{is_late_act}
use Rattle.statistics.proofs.ChannelCounts.{opens_for, is_hit-push, opens_for-itself, not_late}
use Rattle.request_table.specs.Served.{served_by, served_in, served_requests}
use Rattle.request_table.specs.declared.served_requests.ServedRequest.{ServedRequest}
use Rattle.channel_step.specs.Past.{carried_requests}
use Rattle.channel_step.specs.Queued.{served_now, kept_rows}
use Rattle.channel_step.specs.Runs.{with_more}
use Rattle.channel_step.specs.Channels.{KeepsServed}

-- the requests that were served before a command stay as they are
served-before : (arrivals : Source → ℕ) (history : List IssuedCommand) (i : IssuedCommand) (some : List IssuedCommand)
    → Each (λ (j : IssuedCommand). opens_for i.command j.command ≡ false) some
    → filter_map (served_in arrivals (history ++ i ∷ [])) some ≡ filter_map (served_in arrivals history) some
served-before arrivals history i [] h = refl
served-before arrivals history i (j ∷ some) h =
    ap₂ (λ hit rest. cons_option (served_by arrivals hit j.channel j.cycle j.command) rest) (is_hit-push history i j.command h.0) (served-before arrivals history i some h.1)

-- the requests that were served, with one command more, which is no ACT for an entry that was served
served_requests-push : (arrivals : Source → ℕ) (history : List IssuedCommand) (i : IssuedCommand) → is_late_act history (Some i.command) ≡ false
    → served_requests arrivals (history ++ i ∷ []) ≡ served_requests arrivals history ++ cons_option (served_in arrivals history i) []
unfolding served_requests
served_requests-push arrivals history i h =
    filter_map-append (served_in arrivals (history ++ i ∷ [])) history (i ∷ [])
    ∙ ap₂ (λ rows hit. rows ++ cons_option (served_by arrivals hit i.channel i.cycle i.command) [])
    (served-before arrivals history i history (not_late history i.command h)) (is_hit-push history i i.command (opens_for-itself i.command))

-- a function tells when a request arrived
abbrev TellsOf : (Source → ℕ) → Request → Type 0
TellsOf arrivals r = r.arrival ≡ arrivals (source_of r)

-- a command that is no column command serves no request
served-none : (arrivals : Source → ℕ) (hit : Bool) (channel cycle : ℕ) (command : Command) → is_column_command command ≡ false → served_by arrivals hit channel cycle command ≡ None
served-none arrivals hit channel cycle (Act bank row source) h = refl
served-none arrivals hit channel cycle (Rd bank row column source) h = absurd (true≢false h)
served-none arrivals hit channel cycle (Wr bank row column source) h = absurd (true≢false h)
served-none arrivals hit channel cycle (Pre bank source) h = refl
served-none arrivals hit channel cycle (Prea rank) h = refl
served-none arrivals hit channel cycle (Ref rank) h = refl

-- the request as it is kept
abbrev kept_as : ℕ → ℕ → Bool → Access → ℕ → Request → ServedRequest
kept_as channel cycle hit access arrived r =
    record { entry = r.entry; arrived = arrived; served = cycle; channel = channel; core = r.core; access = access; hit = hit }

-- the column command of a request serves it
served-one : (arrivals : Source → ℕ) (hit : Bool) (channel cycle : ℕ) (r : Request) → TellsOf arrivals r
    → served_by arrivals hit channel cycle (column_command r) ≡ Some (kept_as channel cycle hit r.access r.arrival r)
served-one arrivals hit channel cycle r h = by r.access
  where
    by : (access : Access)
        → served_by arrivals hit channel cycle (column_command_to access (bank_in r.place) r.place.row r.place.column (source_of r)) ≡ Some (kept_as channel cycle hit access r.arrival r)
    by access.Read = ap (λ t. Some (kept_as channel cycle hit access.Read t r)) (sym h)
    by access.Write = ap (λ t. Some (kept_as channel cycle hit access.Write t r)) (sym h)

-- no request is served yet
pub kept-none : (kept : Option (Vec ServedRequest Global)) (mail : List Message) → ((rows : Vec ServedRequest Global) → kept ≡ Some rows → rows.items ≡ []) → KeepsServed kept [] mail
unfolding served_requests
kept-none None mail h = tt
kept-none (Some rows) mail h = λ arrivals each. h rows refl

-- more messages arrive
pub kept-later : (kept : Option (Vec ServedRequest Global)) (history : List IssuedCommand) (mail new : List Message) → KeepsServed kept history mail → KeepsServed kept history (mail ++ new)
kept-later None history mail new h = tt
kept-later (Some rows) history mail new h = λ arrivals each.
    h arrivals (Each-first (TellsOf arrivals) (carried_requests mail) (carried_requests new) (subst (Each (TellsOf arrivals)) (filter_map-append (λ (m : Message). request_in m.payload) mail new) each))

-- rows are added
kept-more : (kept then : Option (Vec ServedRequest Global)) (history : List IssuedCommand) (i : IssuedCommand) (new : List ServedRequest) (mail : List Message)
    → kept_rows then ≡ with_more (kept_rows kept) new
    → ((arrivals : Source → ℕ) → Each (TellsOf arrivals) (carried_requests mail) → served_requests arrivals (history ++ i ∷ []) ≡ served_requests arrivals history ++ new)
    → KeepsServed kept history mail → KeepsServed then (history ++ i ∷ []) mail
kept-more kept None history i new mail e more h = tt
kept-more None (Some rows) history i new mail e more h = absurd (cc)
kept-more (Some was) (Some rows) history i new mail e more h = λ arrivals each.
    let same : rows.items ≡ was.items ++ new = cc in
    same ∙ ap (λ x. x ++ new) (h arrivals each) ∙ sym (more arrivals each)

-- a command that is no column command adds none
pub kept-none_issued : (kept : Option (Vec ServedRequest Global)) (history : List IssuedCommand) (i : IssuedCommand) (mail : List Message) → is_late_act history (Some i.command) ≡ false
    → is_column_command i.command ≡ false → KeepsServed kept history mail → KeepsServed kept (history ++ i ∷ []) mail
kept-none_issued None history i mail late none_issued h = tt
kept-none_issued (Some rows) history i mail late none_issued h = λ arrivals each.
    h arrivals each
    ∙ sym (served_requests-push arrivals history i late
    ∙ ap (λ o. served_requests arrivals history ++ cons_option o []) (served-none arrivals (is_hit history i.command) i.channel i.cycle i.command none_issued)
    ∙ append-nil (served_requests arrivals history))

-- the column command of a request that waits adds that
pub kept-served : (kept then : Option (Vec ServedRequest Global)) (history : List IssuedCommand) (i : IssuedCommand) (r : Request) (hit : Bool) (mail : List Message) (until : ℕ)
    → i.command ≡ column_command r → is_late_act history (Some i.command) ≡ false → ((P : Request → Type 0) → Each P (queued_requests history mail until) → P r) → is_hit history i.command ≡ hit
    → kept_rows then ≡ with_more (kept_rows kept) (served_now i.channel i.cycle r hit ∷ [])
    → KeepsServed kept history mail → KeepsServed then (history ++ i ∷ []) mail
unfolding queued_requests
kept-served kept then history i r hit mail until is late waits e more h =
    kept-more kept then history i (served_now i.channel i.cycle r hit ∷ []) mail more
    (λ arrivals each.
    served_requests-push arrivals history i late
    ∙ ap₂ (λ b command. served_requests arrivals history ++ cons_option (served_by arrivals b i.channel i.cycle command) []) e is
    ∙ ap (λ o. served_requests arrivals history ++ cons_option o [])
    (served-one arrivals hit i.channel i.cycle r (waits (TellsOf arrivals) (Each-filter (TellsOf arrivals) (is_queued history until) (carried_requests mail) each))))
    h
