-- The document that a page is.
--     IsDocument text      a whole HTML document
--     WritesDocument old new      what a writer holds has grown by one
use Rattle.std.specs.Prelude.{◌≡◌, ℕ, List, ◌++◌, Option, codes}
use Rattle.std.specs.Io.KnownBytes.{Appends}

-- how a document begins
abbrev pub document_head : List ℕ
document_head =
    codes "<!DOCTYPE html>\n<html lang=\"en\">\n<head>\n<meta charset=\"utf-8\">\n<meta name=\"viewport\" content=\"width=device-width, initial-scale=1\">\n<title>dramsim run</title>\n<style>\n"

-- how it ends
abbrev pub document_tail : List ℕ
document_tail = codes "</main>\n</body>\n</html>\n"

-- a document from its begin to its end
pub record IsDocument (text : List ℕ) : Type 0 where
  pub contents : List ℕ
  pub text_is : text ≡ document_head ++ contents ++ document_tail

-- what a writer holds has grown by a whole document and by nothing else
pub record WritesDocument (old new : Option (List ℕ)) : Type 0 where
  pub text : List ℕ
  pub whole : IsDocument text
  pub written : Appends old new text
