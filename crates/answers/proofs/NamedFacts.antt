-- What a configuration that may be named adds to what is read, and to why it is refused.
use Rattle.std.proofs.Common.{◌≡◌, ◌≢◌, ◌⊎◌, inl, inr, ℕ, List, [], ◌∷◌, Option, Some, None, Result, Ok, Err, sym, ap, ap₂, ◌∙◌, arith}
use Rattle.std.specs.Result.{IfOk}
use Rattle.std.specs.Prelude.{IfErr, OnOk, IsOk, IsOkAnd, IsErrAnd}
use Rattle.sim_base.specs.declared.command.IssuedCommand.{IssuedCommand}
use Rattle.sim_base.specs.declared.config.Config.{Config}
use Rattle.sim_base.specs.declared.fault.Fault.{Fault}
use Rattle.sim_base.specs.declared.fault.Fault.TheVariants.{Memory, Write}
use Rattle.sim_base.specs.Values.{values_of}
use Rattle.config_reader.specs.Document.{document_of}
use Rattle.page.specs.Rows.{IsOfRunAt}
use Rattle.rule_check.specs.Verdict.{records_of}
use Rattle.statistics.specs.Values.{RunStats}
use Rattle.whole_files.specs.Files.{Held, SameFiles, IsReadFault}
use Rattle.answers.specs.Answers.{stats_table}
use Rattle.answers.specs.Named.{with_config, IsNamedText, IsConfiguredBy, IsConfigured}
use Rattle.answers.specs.Pages.{AreTablesIn, HoldsCommandsOf, IsNoCommands}
use Rattle.answers.specs.Refused.{LacksOne, AreTexts, IsFilesFault, IsInputFault, IsReady, IsStatsRefusal, IsSizeFault, IsShowFault, HoldRun, IsPageFault, HoldRunTables}
use Rattle.answers.proofs.RefusedFacts.{one_text, two_texts, unless_memory, found_or_memory}

-- ---- files that are read

-- what a file holds that was read after others
pub text_later : (tells : Type 0) (old mid : Held) (path text : List ℕ) → (tells → SameFiles old mid) → (tells → mid path ≡ Some text) → tells → old path ≡ Some text
text_later tells old mid path text same is t = sym (same t path) ∙ is t

pub named_texts : (tells : Type 0) (held : Held) (config document : Option (List ℕ)) (paths texts : List (List ℕ)) → IsNamedText tells held config document
    → AreTexts tells held paths texts → AreTexts tells held (with_config config paths) (with_config document texts)
named_texts tells held None None paths texts named read = read
named_texts tells held (Some path) (Some text) paths texts named read = record {
  count = omega (arith, read.count);
  texts_are = λ t. ap₂ (λ x xs. x ∷ xs) (named t) (read.texts_are t);
}
named_texts tells held None (Some text) paths texts named read = absurd named
named_texts tells held (Some path) None paths texts named read = absurd named

-- ---- files that are not read

lacks_config : (tells : Type 0) (held : Held) (config : Option (List ℕ)) (paths : List (List ℕ)) → LacksOne tells held (with_config config []) → LacksOne tells held (with_config config paths)
lacks_config tells held None paths lacks = absurd lacks
lacks_config tells held (Some path) paths (inl none) = inl none
lacks_config tells held (Some path) paths (inr lacks) = absurd lacks

lacks_behind : (tells : Type 0) (held : Held) (config : Option (List ℕ)) (paths : List (List ℕ)) → LacksOne tells held paths → LacksOne tells held (with_config config paths)
lacks_behind tells held None paths lacks = lacks
lacks_behind tells held (Some path) paths lacks = inr lacks

pub config_unread : (tells : Type 0) (held : Held) (config : Option (List ℕ)) (paths : List (List ℕ)) (is_fault : List (List ℕ) → Fault → Type 0) (fault : Fault)
    → IsFilesFault tells held (with_config config []) fault → IsInputFault tells held (with_config config paths) is_fault fault
config_unread tells held config paths is_fault fault (inl memory) = inl (inl memory)
config_unread tells held config paths is_fault fault (inr none) = inl (inr (none.0, lacks_config tells held config paths none.1))

pub one_unread : (tells : Type 0) (old mid : Held) (config : Option (List ℕ)) (one : List ℕ) (paths : List (List ℕ)) (is_fault : List (List ℕ) → Fault → Type 0) (fault : Fault)
    → (tells → SameFiles old mid) → IsReadFault tells (mid one) fault → IsInputFault tells old (with_config config (one ∷ paths)) is_fault fault
one_unread tells old mid config one paths is_fault fault same (inl memory) = inl (inl memory)
one_unread tells old mid config one paths is_fault fault same (inr none) =
    inl (inr (none.0, lacks_behind tells old config (one ∷ paths) (inl (λ t. sym (same t one) ∙ none.1 t))))

pub two_unread : (tells : Type 0) (old mid : Held) (config : Option (List ℕ)) (one two : List ℕ) (paths : List (List ℕ)) (is_fault : List (List ℕ) → Fault → Type 0) (fault : Fault)
    → (tells → SameFiles old mid) → IsReadFault tells (mid two) fault → IsInputFault tells old (with_config config (one ∷ two ∷ paths)) is_fault fault
two_unread tells old mid config one two paths is_fault fault same (inl memory) = inl (inl memory)
two_unread tells old mid config one two paths is_fault fault same (inr none) =
    inl (inr (none.0, lacks_behind tells old config (one ∷ two ∷ paths) (inr (inl (λ t. sym (same t two) ∙ none.1 t)))))

-- ---- what they hold

pub configured_from : (tells : Type 0) (held : Held) (config document : Option (List ℕ)) (stats : RunStats) (machine : Option Config) → IsNamedText tells held config document
    → IsConfiguredBy document stats machine → tells → IsConfigured config held stats machine
configured_from tells held None None stats None named is t = tt
configured_from tells held None None stats (Some machine) named is t = absurd is
configured_from tells held None (Some text) stats machine named is t = absurd named
configured_from tells held (Some path) (Some text) stats (Some machine) named is t = record {
  document = text;
  document_is = named t;
  configured = is.0;
  fits = is.1;
}
configured_from tells held (Some path) (Some text) stats None named is t = absurd is
configured_from tells held (Some path) None stats machine named is t = absurd named

-- a table of statistics under a configuration that may be named
pub holds_run : (document : Option (List ℕ)) (table : List ℕ) (stats : RunStats) (machine : Option Config) → records_of table ≡ stats_table stats
    → IsConfiguredBy document stats machine → HoldRun (with_config document (table ∷ [])) stats
holds_run None table stats machine read is = read
holds_run (Some text) table stats (Some machine) read is = record { machine = machine; configured = is.0; rows_are = read; fits = is.1 }
holds_run (Some text) table stats None read is = absurd is

-- and commands of the run behind it
pub holds_tables : (document : Option (List ℕ)) (table commands : List ℕ) (stats : RunStats) → HoldRun (with_config document (table ∷ [])) stats → HoldsCommandsOf commands stats
    → HoldRunTables (with_config document (table ∷ commands ∷ [])) stats
holds_tables None table commands stats run own = (run, own)
holds_tables (Some text) table commands stats run own = (run, own)

-- ---- why that is refused

pub config_refused : (document text table : List ℕ) (fault : Fault) → text ≡ document → (fault ≢ Memory → document_of text ≡ Err fault)
    → (fault ≡ Memory) ⊎ IsShowFault (document ∷ table ∷ []) fault
config_refused document text table fault same refused =
    unless_memory (λ f. IsShowFault (document ∷ table ∷ []) f) fault (λ other. inl (ap document_of (sym same) ∙ refused other))

pub stats_refused : (document text table : List ℕ) (machine : Config) (fault : Fault) → text ≡ document → document_of text ≡ Ok (values_of machine) → IsStatsRefusal table fault
    → (fault ≡ Memory) ⊎ IsShowFault (document ∷ table ∷ []) fault
stats_refused document text table machine fault same configured refused =
    inr (inr (record { machine = machine; configured = ap document_of (sym same) ∙ configured; fault_is = inl refused }))

pub size_refused : (document text table : List ℕ) (machine : Config) (stats : RunStats) (fault : Fault) → text ≡ document → document_of text ≡ Ok (values_of machine)
    → records_of table ≡ stats_table stats → IsSizeFault machine stats fault → (fault ≡ Memory) ⊎ IsShowFault (document ∷ table ∷ []) fault
size_refused document text table machine stats fault same configured read refused = inr (inr (record {
  machine = machine;
  configured = ap document_of (sym same) ∙ configured;
  fault_is = inr (record { stats = stats; rows_are = read; fault_is = refused });
}))

-- the commands are not looked at
pub run_refused : (document : Option (List ℕ)) (table commands : List ℕ) (fault : Fault) → (fault ≡ Memory) ⊎ IsShowFault (with_config document (table ∷ [])) fault
    → (fault ≡ Memory) ⊎ IsPageFault (with_config document (table ∷ commands ∷ [])) fault
run_refused document table commands fault (inl memory) = inl memory
run_refused None table commands fault (inr refused) = inr (inl refused)
run_refused (Some text) table commands fault (inr refused) = inr (inl refused)

-- the commands are refused
pub commands_refused : (document : Option (List ℕ)) (table commands : List ℕ) (stats : RunStats) (fault : Fault) → HoldRun (with_config document (table ∷ [])) stats
    → IsNoCommands commands stats fault → (fault ≡ Memory) ⊎ IsPageFault (with_config document (table ∷ commands ∷ [])) fault
commands_refused None table commands stats fault run refused = inr (inr (record { stats = stats; run = run; fault_is = refused }))
commands_refused (Some text) table commands stats fault run refused = inr (inr (record { stats = stats; run = run; fault_is = refused }))

-- ---- all of that together

-- two facts of one result, and three
pub both_ok : {T E : Type 0} (r : Result T E) (P Q R : T → Type 0) → ((x : T) → P x → Q x → R x) → IfOk r P → IfOk r Q → IfOk r R
both_ok (Ok x) P Q R f p q = f x p q
both_ok (Err e) P Q R f p q = tt

pub all_ok : {T E : Type 0} (r : Result T E) (P Q R S : T → Type 0) → ((x : T) → P x → Q x → R x → S x) → IfOk r P → IfOk r Q → IfOk r R → IfOk r S
all_ok (Ok x) P Q R S f p q s = f x p q s
all_ok (Err e) P Q R S f p q s = tt

-- a result that is given on
pub ok_with : {T E : Type 0} (r : Result T E) (P Q : T → Type 0) → IfOk r P → IsOkAnd r Q → (x : T) × P x × Q x
ok_with (Ok x) P Q p q = (x, p, q)
ok_with (Err e) P Q p q = absurd q

pub ok_so : {T E : Type 0} {A : Type 0} (r : Result T E) (Q : T → Type 0) → OnOk r A → IsOkAnd r Q → A
ok_so (Ok x) Q a q = a
ok_so (Err e) Q a q = absurd q

pub any_ok : {T E : Type 0} {A : Type 0} (r : Result T E) → A → OnOk r A
any_ok (Ok x) a = a
any_ok (Err e) a = tt

pub err_with : {T E : Type 0} (r : Result T E) (P : E → Type 0) (e : E) → IfErr r P → IsErrAnd r (λ f. e ≡ f) → P e
err_with (Ok x) P e p q = absurd q
err_with (Err f) P e p q = rw q p

-- an answer that is refused is not printed
pub unprinted_by : {T : Type 0} (answer : Result T Fault) (fault : Fault) (same : Type 0) → ((fault ≡ Write) × IsOk answer) ⊎ IsErrAnd answer (λ f. fault ≡ f) → IfErr answer (λ e. same)
    → fault ≢ Write → same
unprinted_by (Ok x) fault same (inl write) h other = absurd (other write.0)
unprinted_by (Ok x) fault same (inr made) h other = absurd made
unprinted_by (Err e) fault same refused h other = h

show_texts : (tells : Type 0) (old mid : Held) (config document : Option (List ℕ)) (path table : List ℕ) → IsNamedText tells old config document → (tells → SameFiles old mid)
    → (tells → mid path ≡ Some table) → AreTexts tells old (with_config config (path ∷ [])) (with_config document (table ∷ []))
show_texts tells old mid config document path table named same is =
    named_texts tells old config document (path ∷ []) (table ∷ []) named (one_text tells old path table (text_later tells old mid path table same is))

pub ready_show : (tells : Type 0) (old mid : Held) (config document : Option (List ℕ)) (path table : List ℕ) (stats : RunStats) (machine : Option Config)
    → IsNamedText tells old config document → (tells → SameFiles old mid) → (tells → mid path ≡ Some table) → records_of table ≡ stats_table stats
    → IsConfiguredBy document stats machine → IsReady tells old (with_config config (path ∷ [])) (λ texts. HoldRun texts stats)
ready_show tells old mid config document path table stats machine named same is read configured = record {
  texts = with_config document (table ∷ []);
  read = show_texts tells old mid config document path table named same is;
  right = holds_run document table stats machine read configured;
}

pub fault_show : (tells : Type 0) (old mid : Held) (config document : Option (List ℕ)) (path table : List ℕ) (fault : Fault) → IsNamedText tells old config document
    → (tells → SameFiles old mid) → (tells → mid path ≡ Some table) → (fault ≡ Memory) ⊎ IsShowFault (with_config document (table ∷ [])) fault
    → IsInputFault tells old (with_config config (path ∷ [])) IsShowFault fault
fault_show tells old mid config document path table fault named same is refused =
    found_or_memory tells old (with_config config (path ∷ [])) (with_config document (table ∷ [])) IsShowFault fault
    (show_texts tells old mid config document path table named same is) refused

page_texts : (tells : Type 0) (old mid last : Held) (config document : Option (List ℕ)) (one two table commands : List ℕ) → IsNamedText tells old config document
    → (tells → SameFiles old mid) → (tells → mid one ≡ Some table) → (tells → SameFiles mid last) → (tells → last two ≡ Some commands)
    → AreTexts tells old (with_config config (one ∷ two ∷ [])) (with_config document (table ∷ commands ∷ []))
page_texts tells old mid last config document one two table commands named same is later is_later =
    named_texts tells old config document (one ∷ two ∷ []) (table ∷ commands ∷ []) named
    (two_texts tells old last one two table commands (text_later tells old mid one table same is) (λ t path. later t path ∙ same t path) is_later)

pub ready_page : (tells : Type 0) (old mid last : Held) (config document : Option (List ℕ)) (one two table commands_table : List ℕ) (stats : RunStats) (commands : List IssuedCommand)
    (machine : Option Config) → IsNamedText tells old config document
    → (tells → SameFiles old mid) → (tells → mid one ≡ Some table) → (tells → SameFiles mid last) → (tells → last two ≡ Some commands_table)
    → AreTablesIn table commands_table stats commands → IsConfiguredBy document stats machine → ((place : ℕ) → IsOfRunAt stats commands place)
    → IsReady tells old (with_config config (one ∷ two ∷ [])) (λ texts. HoldRunTables texts stats)
ready_page tells old mid last config document one two table commands_table stats commands machine named same is later is_later tables configured own = record {
  texts = with_config document (table ∷ commands_table ∷ []);
  read = page_texts tells old mid last config document one two table commands_table named same is later is_later;
  right = holds_tables document table commands_table stats (holds_run document table stats machine tables.rows_are configured)
      (record { commands = commands; commands_are = tables.commands_are; of_run = own });
}

pub fault_page : (tells : Type 0) (old mid last : Held) (config document : Option (List ℕ)) (one two table commands : List ℕ) (fault : Fault) → IsNamedText tells old config document
    → (tells → SameFiles old mid) → (tells → mid one ≡ Some table) → (tells → SameFiles mid last) → (tells → last two ≡ Some commands)
    → (fault ≡ Memory) ⊎ IsPageFault (with_config document (table ∷ commands ∷ [])) fault
    → IsInputFault tells old (with_config config (one ∷ two ∷ [])) IsPageFault fault
fault_page tells old mid last config document one two table commands fault named same is later is_later refused =
    found_or_memory tells old (with_config config (one ∷ two ∷ [])) (with_config document (table ∷ commands ∷ [])) IsPageFault fault
    (page_texts tells old mid last config document one two table commands named same is later is_later) refused
