-- The candidates of a bank and an access among those of all banks, and how they change.
--     HasWordsOf candidates bank      there are candidates of a bank with this number
--     candidate_at candidates bank access hit      a candidate of a bank and an access
--     candidates_at candidates bank access      both candidates of a bank and an access
--     first_at candidates bank      the first request of a bank that may be served, to read or to write
--     HasNoCandidate candidates      no bank has a candidate
--     SameRoom old new      there are candidates of as many banks as before
--     SameCandidate old new bank access hit      a candidate stays as it was
--     SameOthers old new bank access      the candidates of all other banks and accesses stay as they were
--     SameOtherBanks old new bank      the candidates of all other banks stay as they were
--     HasNewest, HasTakenIn old new bank access place hit      a request is taken in, behind all others or at any place
--     IsClosed old new bank      no request is for the open row of a bank
use Rattle.std.specs.Prelude.{◌≡◌, ◌≢◌, ℕ, ◌+◌, ◌*◌, ◌<◌, Bool, true, false, length, Option, Some, None, if◌then◌else◌}
use Rattle.sim_base.specs.Scheduling.{or_else}
use Rattle.sim_base.specs.declared.message.Access.{Access}
use Rattle.sim_base.specs.declared.message.Access.TheVariants as access
use Rattle.queue.specs.declared.bank_candidates.entry.AccessCandidates.{AccessCandidates}
use Rattle.queue.specs.declared.bank_candidates.candidate_words.CandidateWords.{CandidateWords}
use Rattle.queue.specs.Candidates.{access_number}
use Rattle.sim_base.specs.Earlier.{earlier}
use Rattle.queue.specs.Words.{candidate_in, access_in}

-- there are candidates of a bank with this number, four words for each bank
abbrev pub HasWordsOf : CandidateWords → ℕ → Type 0
HasWordsOf candidates bank = 4 * bank + 3 < length candidates.words.items

-- a candidate of a bank and an access: the oldest, or the first hit
abbrev pub candidate_at : CandidateWords → ℕ → Access → Bool → Option ℕ
candidate_at candidates bank access hit = candidate_in candidates.words.items (access_number bank access) hit

-- both candidates of a bank and an access: the oldest and the first hit
abbrev pub candidates_at : CandidateWords → ℕ → Access → AccessCandidates
candidates_at candidates bank access = access_in candidates.words.items (access_number bank access)

-- the first request of a bank that may be served, whether to read or to write
abbrev pub first_at : CandidateWords → ℕ → Option ℕ
first_at candidates bank =
    earlier (candidate_at candidates bank access.Read false) (candidate_at candidates bank access.Write false)

-- no bank has a candidate
abbrev pub HasNoCandidate : CandidateWords → Type 0
HasNoCandidate candidates = (number : ℕ) (hit : Bool) → candidate_in candidates.words.items number hit ≡ None

-- there are candidates of as many banks as before
abbrev pub SameRoom : CandidateWords → CandidateWords → Type 0
SameRoom old new = length new.words.items ≡ length old.words.items

-- a candidate stays as it was
abbrev pub SameCandidate : CandidateWords → CandidateWords → ℕ → Access → Bool → Type 0
SameCandidate old new bank access hit = candidate_at new bank access hit ≡ candidate_at old bank access hit

-- all other banks and accesses keep their candidates
abbrev pub SameOthers : CandidateWords → CandidateWords → ℕ → Access → Type 0
SameOthers old new bank access =
    (number : ℕ) → number ≢ access_number bank access
    → access_in new.words.items number ≡ access_in old.words.items number

-- all other banks keep their candidates
abbrev pub SameOtherBanks : CandidateWords → CandidateWords → ℕ → Type 0
SameOtherBanks old new bank =
    (other : ℕ) (access : Access) → other ≢ bank → candidates_at new other access ≡ candidates_at old other access

-- A request at a place behind all others has joined the candidates of its bank and access: it is the oldest where
-- there was none, and if it asks for the open row, it is the first hit where there was none.
pub record HasNewest (old new : CandidateWords) (bank : ℕ) (access : Access) (place : ℕ) (hit : Bool) : Type 0 where
  pub oldest_is : candidate_at new bank access false ≡ or_else (candidate_at old bank access false) (Some place)
  pub hit_is : candidate_at new bank access true
      ≡ (if hit then or_else (candidate_at old bank access true) (Some place) else candidate_at old bank access true)

-- A request at any place is taken in: the oldest is the first of it and the one before, and if it asks for the open
-- row, so is the first hit.
pub record HasTakenIn (old new : CandidateWords) (bank : ℕ) (access : Access) (place : ℕ) (hit : Bool) : Type 0 where
  pub oldest_is : candidate_at new bank access false ≡ earlier (candidate_at old bank access false) (Some place)
  pub hit_is : candidate_at new bank access true
      ≡ earlier (candidate_at old bank access true) (if hit then Some place else None)

-- no request of a bank is for its open row, so that it has no hits, and its oldest requests stay
abbrev pub IsClosed : CandidateWords → CandidateWords → ℕ → Type 0
IsClosed old new bank =
    (access : Access) → candidates_at new bank access ≡ record (candidates_at old bank access) { hit = None }
