-- What is said of how many traces there are.
--     traces_named count, cores_there cores      how many there are, in words
--     count_text cores traces      how many traces there are, and how many there must be
use Rattle.std.specs.Prelude.{ℕ, ◌==◌, List, [], ◌++◌, codes, decimal, Option, Some, None, if◌then◌else◌}

-- how many traces are named
unfoldable pub traces_named : ℕ → List ℕ
traces_named count = if count == 1 then codes "1 trace is named" else decimal count ++ codes " traces are named"

-- how many cores there are, where that is known
unfoldable pub cores_there : Option ℕ → List ℕ
cores_there (Some count) =
    if count == 1 then codes ", and the configuration has 1 core"
    else codes ", and the configuration has " ++ decimal count ++ codes " cores"
cores_there None = []

-- how many traces there are, and how many there must be
abbrev pub count_text : Option ℕ → ℕ → List ℕ
count_text cores traces =
    traces_named traces ++ cores_there cores
    ++ codes ": name one for each core, the same file more than once if need be\n"
