-- The places of the candidates of all banks, as words.
--     candidate_of word, word_of candidate      the place that a word tells, and the word of a place
--     IsShort candidate      a place that has a word
--     Agree words sets      the banks of each set are those whose word of its kind tells a place
--     set_number access hit      which set has the banks with a candidate: the oldest or first hit, to read or to write
--     candidate_in words number hit      a candidate of a bank and an access
--     access_in words number      both candidates of a bank and an access
use Rattle.std.specs.Prelude.{◌≡◌, ℕ, zero, suc, ◌+◌, ◌-◌, ◌*◌, ◌^◌, ◌<◌, Bool, false, true, List, slice_index_or, Option, Some, None, is_some, IfSome, if◌then◌else◌}
use Rattle.sim_base.specs.declared.message.Access.{Access}
use Rattle.queue.specs.declared.bank_candidates.entry.AccessCandidates.{AccessCandidates}
use Rattle.queue.specs.declared.bank_candidates.sets.BankSet.{BankSet}
use Rattle.queue.specs.Marks.{write_bit}
use Rattle.queue.specs.Sets.{is_in}

-- the place that a word tells: the word is one more, and 0 where there is none
abbrev pub candidate_of : ℕ → Option ℕ
candidate_of zero = None
candidate_of (suc k) = Some k

-- the word of a place
abbrev pub word_of : Option ℕ → ℕ
word_of None = 0
word_of (Some k) = k + 1

-- a place that has a word
abbrev pub IsShort : Option ℕ → Type 0
IsShort candidate = IfSome candidate (λ k. k < 2 ^ 16 - 1)

-- the number of the set of the banks with a candidate of a kind: the oldest or the first hit, to read or to write
abbrev pub set_number : Access → Bool → ℕ
set_number access hit = 2 * write_bit access + (if hit then 1 else 0)

-- each bank has four words, and for each of the four there is a set: of the banks whose word tells a place
abbrev pub Agree : List ℕ → List BankSet → Type 0
Agree words sets =
    (bank number : ℕ) (d : BankSet) → number < 4
    → is_in (slice_index_or sets number d) bank ≡ is_some (candidate_of (slice_index_or words (4 * bank + number) 0))

-- a candidate of the bank and the access with a number: the oldest, or the first hit
abbrev pub candidate_in : List ℕ → ℕ → Bool → Option ℕ
candidate_in words number hit = candidate_of (slice_index_or words (2 * number + (if hit then 1 else 0)) 0)

-- both candidates of the bank and the access with a number: the oldest and the first hit
abbrev pub access_in : List ℕ → ℕ → AccessCandidates
access_in words number = record { oldest = candidate_in words number false; hit = candidate_in words number true }
