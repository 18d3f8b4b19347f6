-- What stands in an explanation for a fragment.
use Rattle.std.specs.Prelude.{◌≡◌, List, ℕ, [], ◌++◌, codes, decimal, Some, None}
use Rattle.explain.specs.declared.explain_text.fragments.Fragment.{Fragment}
use Rattle.explain.specs.declared.explain_text.fragments.Fragment.TheVariants.{Words, Number, Foreign, Entry, Place}

-- the text of a fragment; of a text that someone else wrote only tests tell what is shown
abbrev pub IsFragmentText : Fragment → List ℕ → Type 0
IsFragmentText (Words words) text = text ≡ words.now
IsFragmentText (Number number) text = text ≡ decimal number
IsFragmentText (Foreign bytes) text = Unit {0}
IsFragmentText (Entry key value) text = Unit {0}
IsFragmentText (Place (Some item)) text = text ≡ codes " item " ++ decimal item ++ codes " of link:"
IsFragmentText (Place None) text = text ≡ []
