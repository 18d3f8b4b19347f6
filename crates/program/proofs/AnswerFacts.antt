-- What is warned of, depending on what the words ask for.
use Rattle.std.proofs.Common.{◌≡◌, ◌⊎◌, inl, inr, ℕ, List, Option, None}
use Rattle.refusal.specs.declared.warning.LargePage.{LargePage}
use Rattle.command_line.specs.Ask.{IsAskedBy}
use Rattle.command_line.specs.declared.words.Ask.{Ask}
use Rattle.command_line.specs.declared.words.Ask.TheVariants.{Run, Check, Map, Show, ShowBanks, Page, Compare, Help, Version}
use Rattle.program.specs.Answered.{IsUnwarned, AskForPage}

-- nothing is warned of, unless the words ask for a page
pub unwarned_unless_page : (words : List (List ℕ)) (ask : Ask) (warning : Option LargePage) → IsAskedBy words ask → IsUnwarned ask warning → (warning ≡ None) ⊎ AskForPage words
unwarned_unless_page words (Page page) warning asked unwarned =
    inr (record { ask = Page page; asked = asked; for_page = tt })
unwarned_unless_page words (Run run) warning asked unwarned = inl unwarned
unwarned_unless_page words (Check config commands) warning asked unwarned = inl unwarned
unwarned_unless_page words (Map config address) warning asked unwarned = inl unwarned
unwarned_unless_page words (Show show) warning asked unwarned = inl unwarned
unwarned_unless_page words (ShowBanks show) warning asked unwarned = inl unwarned
unwarned_unless_page words (Compare dirs csv) warning asked unwarned = inl unwarned
unwarned_unless_page words (Help text) warning asked unwarned = inl unwarned
unwarned_unless_page words (Version text) warning asked unwarned = inl unwarned
