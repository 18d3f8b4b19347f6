-- The earlier of two cycles, and so the first of two places.
use Rattle.std.specs.Prelude.{ℕ, min, Option, Some, None}

-- the lesser of two numbers, each of which there may be; if there is only one of them, that one
abbrev pub earlier : Option ℕ → Option ℕ → Option ℕ
earlier None second = second
earlier (Some first) None = Some first
earlier (Some first) (Some second) = Some (min first second)
