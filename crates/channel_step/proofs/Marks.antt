-- Marks of the queued requests in whose name an ACT was issued.
use Rattle.std.proofs.Common.{◌≡◌, ℕ, Bool, true, false, ◌||◌, List, [], ◌∷◌, ◌++◌, map, Some, refl, ap, ap₂, ◌∙◌}
use Rattle.std.specs.Prelude.{not, remove, slice_get}
use Rattle.std.specs.List.{AllByRecursion as Each}
use Rattle.std.proofs.lemmas.List.Folds.{list_any-append}
use Rattle.std.proofs.Math.Bool.{or-false}
use Rattle.sim_base.proofs.Ordered.{Each-weaker}
use Rattle.sim_base.specs.Counts.{is_act_for, is_hit}
use Rattle.sim_base.specs.Places.{bank_in}
use Rattle.sim_base.specs.Scheduling.{is_source, source_of, serves, column_command, is_column_command}
use Rattle.sim_base.specs.declared.command.Command.{Command}
use Rattle.sim_base.specs.declared.command.Command.TheVariants.{Act, Rd, Wr, Pre, Prea, Ref}
use Rattle.sim_base.specs.declared.command.IssuedCommand.{IssuedCommand}
use Rattle.sim_base.specs.declared.command.Source.{Source}
use Rattle.sim_base.specs.declared.message.Request.{Request}
use Rattle.sim_base.specs.declared.place.BankId.{BankId}
use Rattle.sim_base.proofs.Accesses.{column_both}
use Rattle.sim_base.proofs.Each.{Each-all}
use Rattle.sim_base.proofs.Lists.{filter-each, filter-agree}
use Rattle.channel_step.specs.Stands.{activated_of}
use Rattle.channel_step.specs.Past.{Differ, has_act}
use Rattle.channel_step.specs.Fit.{is_issued_for, NoneIssuedFor}
use Rattle.channel_step.proofs.Requests.{unserved_by, unserved-remove}

pub map-agree : {X Y : Type 0} (f g : X → Y) (xs : List X) → Each (λ x. f x ≡ g x) xs → map f xs ≡ map g xs
map-agree f g [] h = refl
map-agree f g (x ∷ xs) h = ap₂ (λ y ys. y ∷ ys) h.0 (map-agree f g xs h.1)

act-named : (r : Request) (command : Command) → is_issued_for command r ≡ false → is_act_for (source_of r) command ≡ false
act-named r (Act bank row source) h = h
act-named r (Rd bank row column source) h = refl
act-named r (Wr bank row column source) h = refl
act-named r (Pre bank source) h = refl
act-named r (Prea rank) h = refl
act-named r (Ref rank) h = refl

-- what no command names has no mark
pub none_issued-no_mark : (history : List IssuedCommand) (r : Request) → NoneIssuedFor history r → has_act history r ≡ false
none_issued-no_mark [] r h = refl
none_issued-no_mark (i ∷ history) r h = ap₂ (λ a b. a || b) (act-named r i.command h.0) (none_issued-no_mark history r h.1)

pub none_issued-marks : (history : List IssuedCommand) (rs : List Request) → Each (NoneIssuedFor history) rs → activated_of history rs ≡ map (λ r. false) rs
none_issued-marks history rs h = map-agree (has_act history) (λ r. false) rs (Each-weaker (NoneIssuedFor history) _ (none_issued-no_mark history) rs h)

-- one command more may name a request
pub named-command : (history : List IssuedCommand) (i : IssuedCommand) (r : Request) → has_act (history ++ i ∷ []) r ≡ (has_act history r || is_act_for (source_of r) i.command)
named-command history i r =
    list_any-append (λ (j : IssuedCommand). is_act_for (source_of r) j.command) history (i ∷ [])
    ∙ ap (λ b. has_act history r || b) (or-false (is_act_for (source_of r) i.command))

-- a command that opens no row
abbrev pub opens_none : Command → Bool
opens_none (Act bank row source) = false
opens_none (Rd bank row column source) = true
opens_none (Wr bank row column source) = true
opens_none (Pre bank source) = true
opens_none (Prea rank) = true
opens_none (Ref rank) = true

no_act : (source : Source) (command : Command) → opens_none command ≡ true → is_act_for source command ≡ false
no_act source (Act bank row other) h = cc
no_act source (Rd bank row column other) h = refl
no_act source (Wr bank row column other) h = refl
no_act source (Pre bank other) h = refl
no_act source (Prea rank) h = refl
no_act source (Ref rank) h = refl

-- a command that opens no row leaves the marks as they are
pub marks-no_act : (history : List IssuedCommand) (i : IssuedCommand) (rs : List Request) → opens_none i.command ≡ true → activated_of (history ++ i ∷ []) rs ≡ activated_of history rs
marks-no_act history i rs h =
    map-agree (has_act (history ++ i ∷ [])) (has_act history) rs
    (Each-all _ (λ r. named-command history i r ∙ ap (λ b. has_act history r || b) (no_act (source_of r) i.command h) ∙ or-false (has_act history r)) rs)

-- an ACT adds the mark of the request of its entry
pub marks-act : (history : List IssuedCommand) (i : IssuedCommand) (rs : List Request) (bank : BankId) (row : ℕ) (source : Source) → i.command ≡ Act bank row source
    → activated_of (history ++ i ∷ []) rs ≡ map (λ r. has_act history r || is_source r source) rs
marks-act history i rs bank row source e =
    map-agree (has_act (history ++ i ∷ [])) (λ r. has_act history r || is_source r source) rs
    (Each-all _ (λ r. named-command history i r ∙ ap (λ c. has_act history r || is_act_for (source_of r) c) e) rs)

-- what holds of its RD and of its WR holds of the column command of a request
pub column_either : (P : Command → Type 0) (r : Request) → P (Rd (bank_in r.place) r.place.row r.place.column (source_of r)) → P (Wr (bank_in r.place) r.place.row r.place.column (source_of r))
    → P (column_command r)
column_either P r rd wr = column_both P r.access _ _ _ _ (λ f. rd) (λ f. wr)

-- the column command of a request serves the requests of its entry
pub serves-column : (q r : Request) → serves q (column_command r) ≡ is_source q (source_of r)
serves-column q r = column_either (λ c. serves q c ≡ is_source q (source_of r)) r refl refl

-- the column command of a request takes just this request out of the queue
pub served-remove : (rs : List Request) (i : ℕ) (r : Request) → Differ rs → slice_get rs i ≡ Some r → unserved_by (column_command r) rs ≡ remove rs i
served-remove rs i r d e =
    filter-agree (λ q. not (serves q (column_command r))) (λ q. not (is_source q (source_of r))) rs (Each-all _ (λ q. ap not (serves-column q r)) rs)
    ∙ unserved-remove rs i r d e

-- any other command serves no request
serves_none : (r : Request) (command : Command) → is_column_command command ≡ false → serves r command ≡ false
serves_none r (Rd bank row column source) h = cc
serves_none r (Wr bank row column source) h = cc
serves_none r (Act bank row source) h = refl
serves_none r (Pre bank source) h = refl
serves_none r (Prea rank) h = refl
serves_none r (Ref rank) h = refl

-- a command that is no column command takes no request out of the queue
pub served-none : (rs : List Request) (command : Command) → is_column_command command ≡ false → unserved_by command rs ≡ rs
served-none rs command h = filter-each (λ q. not (serves q command)) rs (Each-all _ (λ q. ap not (serves_none q command h)) rs)

-- a column command is a row hit where its request has no mark
pub hit-mark : (history : List IssuedCommand) (r : Request) → is_hit history (column_command r) ≡ not (has_act history r)
hit-mark history r = column_either (λ c. is_hit history c ≡ not (has_act history r)) r refl refl

pub column-opens_none : (r : Request) → opens_none (column_command r) ≡ true
column-opens_none r = column_either (λ c. opens_none c ≡ true) r refl refl
