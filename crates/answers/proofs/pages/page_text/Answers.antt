use Rattle.answers.proofs.PageFacts.{whole_document}
use Rattle.answers.proofs.pages.page_text.Goals as goal

pub returns-in-Ok-clause-document : goal.returns-in-Ok-clause-document
returns-in-Ok-clause-document c = whole_document _ _ c.new-text.ensures.items c.in-Ok.ensures.written
