use Rattle.std.proofs.Common.{refl, sym, subst}
use Rattle.refusal.specs.Refusals.{IsTornRefusal}
use Rattle.whole_files.proofs.Places.{put, torn, kept_back}
use Rattle.whole_files.proofs.tables.write_planned.Goals as goal

pub returns-in-Err-clause-refused : goal.returns-in-Err-clause-refused
returns-in-Err-clause-refused g c = λ tells. kept_back _ _ _ _ _ (c.stage.ensures.others tells) (λ path. refl) (c.discard.ensures.gone tells) (c.discard.ensures.others tells)

pub returns-in-Err-test_all-clause-refused : goal.returns-in-Err-test_all-clause-refused
returns-in-Err-test_all-clause-refused g c = λ tells. kept_back _ _ _ _ _ (c.stage.ensures.others tells) (c.test_all.ensures.same tells) (c.discard-in-Err-test_all.ensures.gone tells) (c.discard-in-Err-test_all.ensures.others tells)

pub returns-in-Ok-clause-placed : goal.returns-in-Ok-clause-placed
returns-in-Ok-clause-placed g c = λ tells. put _ _ _ _ _ (c.stage.ensures.others tells) (c.in_default.ensures.whole tells) (c.test_all.ensures.same tells) (c.in-Ok.ensures.placed tells)

pub returns-in-Err-Torn-clause-refused : goal.returns-in-Err-Torn-clause-refused
returns-in-Err-Torn-clause-refused g c = λ tells.
    torn _ _ _ _ _ c.requires.apart (c.stage.ensures.others tells) (c.in_default.ensures.whole tells) (c.test_all.ensures.same tells) (c.in-Err-Torn.ensures.torn (subst IsTornRefusal (sym c.in-Err-Torn.field-0-is) tt) tells)
