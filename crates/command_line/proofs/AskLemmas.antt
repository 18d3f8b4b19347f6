-- What the words ask for, from what `clap` made of them.
use Rattle.std.proofs.Common.{◌≡◌, ◌⊎◌, inl, inr, List, [], ◌∷◌, true, Option, Some, None, Result, Ok, Err, refl, sym, ap, subst, ◌∙◌}
use Rattle.std.specs.Result.{IfOk, IfErr}
use Rattle.clap.proofs.OnLiterals.{clap_on_literals}
use Rattle.clap.specs.Words.{App, HasMatchesOf, Row, Text, is_simple, is_simple_and_free, fault_of, takes, kind_of, subcommand_rows_of, HasKind, IsAmong}
use Rattle.clap.specs.declared.error.Error.{Error}
use Rattle.clap.specs.declared.error.kind.ErrorKind.{ErrorKind}
use Rattle.clap.specs.declared.error.kind.ErrorKind.TheVariants.{OutOfMemory, DisplayHelp, DisplayVersion}
use Rattle.clap.specs.declared.parser.matches.ArgMatches.{ArgMatches}
use Rattle.sim_base.specs.declared.fault.Fault.{Fault}
use Rattle.sim_base.specs.declared.fault.Fault.TheVariants.{Memory, CommandLine}
use Rattle.command_line.specs.CommandLine.{program_app}
use Rattle.command_line.specs.Ask.{is_taken, command_of, kinds_of_fault, IsCommandOf, IsCallForHelp, IsCallForVersion, IsCommandFault, IsHelp, IsVersion, IsShown, IsHelpUnlessMemory, IsVersionUnlessMemory, IsNoHelp, IsAskedBy, IsAnswerTo}
use Rattle.command_line.specs.declared.words.Ask.{Ask}
use Rattle.command_line.specs.declared.words.Ask.TheVariants.{Run, Check, Map, Show, ShowBanks, Page, Compare, Help, Version}

-- the command line is one whose matches and faults `clap` defines
simple : is_simple program_app ≡ true
unfolding clap_on_literals
simple = refl

simple_and_free : is_simple_and_free program_app ≡ true
unfolding clap_on_literals
simple_and_free = refl

pub matched : (app : App) (words : List Text) (m : ArgMatches) → app ≡ program_app → HasMatchesOf app words m → subcommand_rows_of m ≡ command_of words
unfolding command_of
matched app words m same has = rw same at (has (ap is_simple same ∙ simple)).1

pub failed : (app : App) (words : List Text) (e : Error) → app ≡ program_app → (is_simple_and_free app ≡ true → HasKind (fault_of app words) e) → HasKind (kinds_of_fault words) e
unfolding kinds_of_fault
failed app words e same fails = subst (λ (a : App). HasKind (fault_of a words) e) same (fails (ap is_simple_and_free same ∙ simple_and_free))

pub passes : (app : App) (words : List Text) (e : Error) → app ≡ program_app → (takes app words ≡ true → kind_of e ≡ OutOfMemory) → is_taken words ≡ true → kind_of e ≡ OutOfMemory
unfolding is_taken
passes app words e same memory taken = memory (ap (λ (a : App). takes a words) same ∙ taken)

-- where `clap` gives matches, the words have no fault
pub without_fault : (app : App) (words : List Text) → app ≡ program_app → (is_simple_and_free app ≡ true → fault_of app words ≡ []) → kinds_of_fault words ≡ []
unfolding kinds_of_fault
without_fault app words same none = subst (λ (a : App). fault_of a words ≡ []) same (none (ap is_simple_and_free same ∙ simple_and_free))

-- and the command that `clap` gives is the one that the words name
pub asked_from : (words : List Text) (o : Option (Text × List Row)) (ask : Ask) → kinds_of_fault words ≡ [] → o ≡ command_of words → IsCommandOf o ask → IsAskedBy words ask
asked_from words None ask none e h = absurd h
asked_from words (Some p) (Run run) none e h = record { faultless = none; command_is = rw (← e) h }
asked_from words (Some p) (Check config commands) none e h = record { faultless = none; command_is = rw (← e) h }
asked_from words (Some p) (Map config address) none e h = record { faultless = none; command_is = rw (← e) h }
asked_from words (Some p) (Show show) none e h = record { faultless = none; command_is = rw (← e) h }
asked_from words (Some p) (ShowBanks show) none e h = record { faultless = none; command_is = rw (← e) h }
asked_from words (Some p) (Page page) none e h = record { faultless = none; command_is = rw (← e) h }
asked_from words (Some p) (Compare dirs csv) none e h = record { faultless = none; command_is = rw (← e) h }
asked_from words (Some p) (Help t) none e h = absurd h
asked_from words (Some p) (Version t) none e h = absurd h

pub answered_from : (words : List Text) (o : Option (Text × List Row)) (r : Result Ask Fault) → o ≡ command_of words → IfOk r (IsCommandOf o) → IfErr r (IsCommandFault o) → IsAnswerTo words r
answered_from words None (Ok ask) e ok err = absurd ok
answered_from words (Some p) (Ok (Run run)) e ok err = tt
answered_from words (Some p) (Ok (Check config commands)) e ok err = tt
answered_from words (Some p) (Ok (Map config address)) e ok err = tt
answered_from words (Some p) (Ok (Show show)) e ok err = tt
answered_from words (Some p) (Ok (ShowBanks show)) e ok err = tt
answered_from words (Some p) (Ok (Page page)) e ok err = tt
answered_from words (Some p) (Ok (Compare dirs csv)) e ok err = tt
answered_from words (Some p) (Ok (Help t)) e ok err = absurd ok
answered_from words (Some p) (Ok (Version t)) e ok err = absurd ok
answered_from words o (Err fault) e ok err = subst (λ command. IsCommandFault command fault) e err

-- and an error is a call for help or for the version, out of memory, or else none that comes of words that are taken
among_shown : (words : List Text) (e : Error) (k : ErrorKind) → HasKind (kinds_of_fault words) e → kind_of e ≡ k → (k ≡ OutOfMemory → ⊥) → IsAmong k (kinds_of_fault words)
among_shown words e k (inl memory) is other = absurd (other (sym is ∙ memory))
among_shown words e k (inr among) is other = subst (λ k. IsAmong k (kinds_of_fault words)) is among

pub help_from : (words : List Text) (e : Error) (ask : Ask) → HasKind (kinds_of_fault words) e → IsShown ask (kind_of e) → IsAskedBy words ask
help_from words e (Run run) has h = absurd h
help_from words e (Check config commands) has h = absurd h
help_from words e (Map config address) has h = absurd h
help_from words e (Show show) has h = absurd h
help_from words e (ShowBanks show) has h = absurd h
help_from words e (Page page) has h = absurd h
help_from words e (Compare dirs csv) has h = absurd h
help_from words e (Help t) has h = among_shown words e DisplayHelp has h (λ other. cc)
help_from words e (Version t) has h = (among_shown words e DisplayVersion has h.0 (λ other. cc), h.1)

not_for_memory : (ask : Ask) (k : ErrorKind) → k ≡ OutOfMemory → IsShown ask k → ⊥
not_for_memory (Run run) k memory h = h
not_for_memory (Check config commands) k memory h = h
not_for_memory (Map config address) k memory h = h
not_for_memory (Show show) k memory h = h
not_for_memory (ShowBanks show) k memory h = h
not_for_memory (Page page) k memory h = h
not_for_memory (Compare dirs csv) k memory h = h
not_for_memory (Help t) k memory h = let both : OutOfMemory ≡ DisplayHelp = sym memory ∙ h in cc
not_for_memory (Version t) k memory h = let both : OutOfMemory ≡ DisplayVersion = sym memory ∙ h.0 in cc

shown_help : (ask : Ask) (k : ErrorKind) → k ≡ DisplayHelp → IsShown ask k → IsHelp ask
shown_help (Run run) k is h = h
shown_help (Check config commands) k is h = h
shown_help (Map config address) k is h = h
shown_help (Show show) k is h = h
shown_help (ShowBanks show) k is h = h
shown_help (Page page) k is h = h
shown_help (Compare dirs csv) k is h = h
shown_help (Help t) k is h = tt
shown_help (Version t) k is h = let both : DisplayHelp ≡ DisplayVersion = sym is ∙ h.0 in cc

shown_version : (ask : Ask) (k : ErrorKind) → k ≡ DisplayVersion → IsShown ask k → IsVersion ask
shown_version (Run run) k is h = h
shown_version (Check config commands) k is h = h
shown_version (Map config address) k is h = h
shown_version (Show show) k is h = h
shown_version (ShowBanks show) k is h = h
shown_version (Page page) k is h = h
shown_version (Compare dirs csv) k is h = h
shown_version (Help t) k is h = let both : DisplayVersion ≡ DisplayHelp = sym is ∙ h in cc
shown_version (Version t) k is h = h.1

-- why an error is none that is shown
abbrev pub IsHidden : ErrorKind → Fault → Type 0
IsHidden k f = (f ≡ Memory) ⊎ ((f ≡ CommandLine) × IsNoHelp k)

pub refused_from : (words : List Text) (e : Error) (r : Result Ask Fault) → kind_of e ≡ OutOfMemory → IfOk r (λ ask. IsShown ask (kind_of e))
    → IfErr r (IsHidden (kind_of e)) → IsAnswerTo words r
refused_from words e (Ok ask) memory ok err = absurd (not_for_memory ask (kind_of e) memory ok)
refused_from words e (Err fault) memory ok (inl is) = subst (λ f. IsAnswerTo words (Err f)) (sym is) tt
refused_from words e (Err fault) memory ok (inr is) = absurd (is.1.no_memory memory)

-- where the words call for a text, an answer is no command
pub no_command : (words : List Text) (k : ErrorKind) → kinds_of_fault words ≡ [] → kinds_of_fault words ≡ k ∷ [] → ⊥
no_command words k none call = let both : [] ≡ k ∷ [] = sym none ∙ call in cc

kind_called : (words : List Text) (e : Error) (k : ErrorKind) → HasKind (kinds_of_fault words) e → kinds_of_fault words ≡ k ∷ [] → (kind_of e ≡ OutOfMemory) ⊎ (kind_of e ≡ k)
kind_called words e k (inl memory) call = inl memory
kind_called words e k (inr among) call = elim (subst (IsAmong (kind_of e)) call among) [ inl is ↦ inr is | inr none ↦ absurd none ]

pub helped_from : (words : List Text) (e : Error) (r : Result Ask Fault) → HasKind (kinds_of_fault words) e → IsCallForHelp words
    → IfOk r (λ ask. IsShown ask (kind_of e)) → IfErr r (IsHidden (kind_of e)) → IsHelpUnlessMemory r
helped_from words e r has call ok err = go (kind_called words e DisplayHelp has call) r ok err
  where
    go : (kind_of e ≡ OutOfMemory) ⊎ (kind_of e ≡ DisplayHelp) → (r : Result Ask Fault) → IfOk r (λ ask. IsShown ask (kind_of e)) → IfErr r (IsHidden (kind_of e)) → IsHelpUnlessMemory r
    go (inl memory) (Ok ask) ok err = absurd (not_for_memory ask (kind_of e) memory ok)
    go (inr is) (Ok ask) ok err = shown_help ask (kind_of e) is ok
    go kind (Err fault) ok (inl memory) = memory
    go (inl memory) (Err fault) ok (inr other) = absurd (other.1.no_memory memory)
    go (inr is) (Err fault) ok (inr other) = absurd (other.1.no_help is)

pub versioned_from : (words : List Text) (e : Error) (r : Result Ask Fault) → HasKind (kinds_of_fault words) e → IsCallForVersion words
    → IfOk r (λ ask. IsShown ask (kind_of e)) → IfErr r (IsHidden (kind_of e)) → IsVersionUnlessMemory r
versioned_from words e r has call ok err = go (kind_called words e DisplayVersion has call) r ok err
  where
    go : (kind_of e ≡ OutOfMemory) ⊎ (kind_of e ≡ DisplayVersion) → (r : Result Ask Fault) → IfOk r (λ ask. IsShown ask (kind_of e)) → IfErr r (IsHidden (kind_of e)) → IsVersionUnlessMemory r
    go (inl memory) (Ok ask) ok err = absurd (not_for_memory ask (kind_of e) memory ok)
    go (inr is) (Ok ask) ok err = shown_version ask (kind_of e) is ok
    go kind (Err fault) ok (inl memory) = memory
    go (inl memory) (Err fault) ok (inr other) = absurd (other.1.no_memory memory)
    go (inr is) (Err fault) ok (inr other) = absurd (other.1.no_version is)
