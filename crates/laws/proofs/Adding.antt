-- A request is served for each column command, and for no other command.
use Rattle.std.proofs.Common.{◌≡◌, ℕ, Bool, List, refl, ◌∙◌}
use Rattle.sim_base.specs.Access.{is_access}
use Rattle.sim_base.specs.Counts.{issued_of_kind, is_hit, hits}
use Rattle.sim_base.specs.Rules.{is_kind, kind_of}
use Rattle.sim_base.specs.declared.message.Access.TheVariants as access
use Rattle.sim_base.specs.declared.command.Command.{Command}
use Rattle.sim_base.specs.declared.command.Command.TheVariants.{Act, Rd, Wr, Pre, Prea, Ref}
use Rattle.sim_base.specs.declared.command.IssuedCommand.{IssuedCommand}
use Rattle.sim_base.specs.declared.command.Kind.TheVariants as kind
use Rattle.sim_base.specs.declared.command.Source.{Source}
use Rattle.sim_base.proofs.Lists.{count-same}
use Rattle.laws.proofs.Counting.{test_in, count-filter_map}
use Rattle.request_table.specs.Served.{served_by, served_in, served_requests}
use Rattle.request_table.specs.declared.served_requests.ServedRequest.{ServedRequest}
use Rattle.laws.specs.Served.{AreCounted}

-- of one command
is_read : (arrivals : Source → ℕ) (hit : Bool) (channel cycle : ℕ) (command : Command) → test_in (λ (r : ServedRequest). is_access access.Read r.access) (served_by arrivals hit channel cycle command) ≡ is_kind (kind_of command) kind.Rd
is_read arrivals hit channel cycle (Act bank row source) = refl
is_read arrivals hit channel cycle (Rd bank row column source) = refl
is_read arrivals hit channel cycle (Wr bank row column source) = refl
is_read arrivals hit channel cycle (Pre bank source) = refl
is_read arrivals hit channel cycle (Prea rank) = refl
is_read arrivals hit channel cycle (Ref rank) = refl

is_write : (arrivals : Source → ℕ) (hit : Bool) (channel cycle : ℕ) (command : Command) → test_in (λ (r : ServedRequest). is_access access.Write r.access) (served_by arrivals hit channel cycle command) ≡ is_kind (kind_of command) kind.Wr
is_write arrivals hit channel cycle (Act bank row source) = refl
is_write arrivals hit channel cycle (Rd bank row column source) = refl
is_write arrivals hit channel cycle (Wr bank row column source) = refl
is_write arrivals hit channel cycle (Pre bank source) = refl
is_write arrivals hit channel cycle (Prea rank) = refl
is_write arrivals hit channel cycle (Ref rank) = refl

is_hit-same : (arrivals : Source → ℕ) (history : List IssuedCommand) (channel cycle : ℕ) (command : Command)
    → test_in (λ (r : ServedRequest). r.hit) (served_by arrivals (is_hit history command) channel cycle command) ≡ is_hit history command
is_hit-same arrivals history channel cycle (Act bank row source) = refl
is_hit-same arrivals history channel cycle (Rd bank row column source) = refl
is_hit-same arrivals history channel cycle (Wr bank row column source) = refl
is_hit-same arrivals history channel cycle (Pre bank source) = refl
is_hit-same arrivals history channel cycle (Prea rank) = refl
is_hit-same arrivals history channel cycle (Ref rank) = refl

pub are_counted : (arrivals : Source → ℕ) (history : List IssuedCommand) → AreCounted arrivals history
unfolding served_requests issued_of_kind hits
are_counted arrivals history =
    let f = served_in arrivals history in
    record {
      reads = count-filter_map (λ (r : ServedRequest). is_access access.Read r.access) f history
          ∙ count-same _ (λ (i : IssuedCommand). is_kind (kind_of i.command) kind.Rd) (λ i. is_read arrivals (is_hit history i.command) i.channel i.cycle i.command) history;
      writes = count-filter_map (λ (r : ServedRequest). is_access access.Write r.access) f history
          ∙ count-same _ (λ (i : IssuedCommand). is_kind (kind_of i.command) kind.Wr) (λ i. is_write arrivals (is_hit history i.command) i.channel i.cycle i.command) history;
      hits = count-filter_map (λ (r : ServedRequest). r.hit) f history
          ∙ count-same _ (λ (i : IssuedCommand). is_hit history i.command) (λ i. is_hit-same arrivals history i.channel i.cycle i.command) history;
    }
