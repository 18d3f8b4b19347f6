-- Fields in which `csv` sees no mark: digits and words.
use Rattle.std.proofs.Common.{◌≡◌, ℕ, zero, suc, ◌+◌, ◌/◌, ◌%◌, ◌≤◌, ◌==◌, Bool, true, false, cond, nat_lt, List, [], ◌∷◌, ◌++◌, refl, arith}
use Rattle.std.specs.Prelude.{codes}
use Rattle.std.specs.List.{AllByRecursion as Each, list_any}
use Rattle.std.specs.Fmt.{decimal, digits, digits_onto, digit_glyph}
use Rattle.std.proofs.lemmas.Bool.{ne_eqb}
use Rattle.csv.specs.Writing.{default_writer, needs_byte}
use Rattle.sim_base.specs.Rules.{kind_of, rank_of}
use Rattle.sim_base.specs.declared.command.Kind.{Kind}
use Rattle.sim_base.specs.declared.command.Kind.TheVariants as kind
use Rattle.sim_base.specs.declared.command.Command.{Command}
use Rattle.sim_base.specs.declared.command.Command.TheVariants.{Act, Rd, Wr, Pre, Prea, Ref}
use Rattle.sim_base.specs.declared.command.IssuedCommand.{IssuedCommand}
use Rattle.reports.specs.Commands.{header, kind_word, operand_fields, command_fields}

-- a field in which no byte calls for quotes
abbrev pub IsPlain : List ℕ → Type 0
IsPlain field = list_any (needs_byte default_writer) field ≡ false

-- a digit is no mark, and neither is a letter
plain-byte : (b : ℕ) → 45 ≤ b → needs_byte default_writer b ≡ false
plain-byte b h =
    let comma : (b == 44) ≡ false = ne_eqb b 44 (λ e. omega arith) in
    let quote : (b == 34) ≡ false = ne_eqb b 34 (λ e. omega arith) in
    let return : (b == 13) ≡ false = ne_eqb b 13 (λ e. omega arith) in
    let feed : (b == 10) ≡ false = ne_eqb b 10 (λ e. omega arith) in
    rw (comma, quote, return, feed) refl

plain-cons : (b : ℕ) (rest : List ℕ) → 45 ≤ b → IsPlain rest → IsPlain (b ∷ rest)
plain-cons b rest h k = rw (plain-byte b h) k

glyph-high : (small upper : Bool) (d : ℕ) → 45 ≤ cond small (48 + d) (cond upper (55 + d) (87 + d))
glyph-high true upper d = omega arith
glyph-high false true d = omega arith
glyph-high false false d = omega arith

either : (b : Bool) (xs ys : List ℕ) → IsPlain xs → IsPlain ys → IsPlain (cond b xs ys)
either true xs ys h k = h
either false xs ys h k = k

digits-plain : (k n : ℕ) (rest : List ℕ) → IsPlain rest → IsPlain (digits_onto k 10 false n rest)
digits-plain zero n rest h = h
digits-plain (suc k) n rest h =
    let d = digit_glyph false (n % 10) in
    let more = plain-cons d rest (glyph-high (nat_lt (n % 10) 10) false (n % 10)) h in
    either (n / 10 == 0) (d ∷ rest) (digits_onto k 10 false (n / 10) (d ∷ rest)) more (digits-plain k (n / 10) (d ∷ rest) more)

-- a number in decimal digits is plain
pub decimal-plain : (n : ℕ) → IsPlain (decimal n)
unfolding digits
decimal-plain n = digits-plain 64 n [] refl

-- fields stay plain with one for the rank before them
rank-plain : (several : Bool) (field : List ℕ) (rest : List (List ℕ)) → IsPlain field → Each IsPlain rest → Each IsPlain (cond several (field ∷ []) [] ++ rest)
rank-plain true field rest h k = (h, k)
rank-plain false field rest h k = k

-- the word of a command is plain
word-plain : (k : Kind) → IsPlain (kind_word k)
word-plain kind.Act = refl
word-plain kind.Rd = refl
word-plain kind.Wr = refl
word-plain kind.Pre = refl
word-plain kind.Prea = refl
word-plain kind.Ref = refl

-- so are its operands
operands-plain : (command : Command) → Each IsPlain (operand_fields command)
operands-plain (Act bank row source) =
    (decimal-plain bank.group, (decimal-plain bank.bank, (decimal-plain row, (refl, (decimal-plain source.core, (decimal-plain source.entry, tt))))))
operands-plain (Rd bank row column source) =
    (decimal-plain bank.group, (decimal-plain bank.bank, (decimal-plain row, (decimal-plain column, (decimal-plain source.core, (decimal-plain source.entry, tt))))))
operands-plain (Wr bank row column source) =
    (decimal-plain bank.group, (decimal-plain bank.bank, (decimal-plain row, (decimal-plain column, (decimal-plain source.core, (decimal-plain source.entry, tt))))))
operands-plain (Pre bank source) =
    (decimal-plain bank.group, (decimal-plain bank.bank, (refl, (refl, (decimal-plain source.core, (decimal-plain source.entry, tt))))))
operands-plain (Prea rank) = (refl, (refl, (refl, (refl, (refl, (refl, tt))))))
operands-plain (Ref rank) = (refl, (refl, (refl, (refl, (refl, (refl, tt))))))

-- so are those of the header
pub header-plain : (ranks : ℕ) → Each IsPlain (header ranks)
header-plain ranks =
    let operands : Each IsPlain (codes "group" ∷ codes "bank" ∷ codes "row" ∷ codes "column" ∷ codes "core" ∷ codes "entry" ∷ []) =
    (refl, (refl, (refl, (refl, (refl, (refl, tt)))))) in
    let rest = rank-plain (nat_lt 1 ranks) (codes "rank") (codes "group" ∷ codes "bank" ∷ codes "row" ∷ codes "column" ∷ codes "core" ∷ codes "entry" ∷ []) refl operands in
    (refl, (refl, (refl, rest)))

-- and those of each row
pub row-plain : (ranks : ℕ) (row : IssuedCommand) → Each IsPlain (command_fields ranks row)
row-plain ranks row =
    let rank = rank_of row.command in
    let rest = rank-plain (nat_lt 1 ranks) (decimal rank) (operand_fields row.command) (decimal-plain rank) (operands-plain row.command) in
    (decimal-plain row.cycle, (decimal-plain row.channel, (word-plain (kind_of row.command), rest)))
