-- What a `Banks` keeps, word by word, and how one command more changes it.
use Rattle.std.proofs.Common.{◌≡◌, ℕ, ◌*◌, ◌/◌, ◌<◌, ◌≤◌, ◌++◌, ◌∙◌, cond, max, List, [], ◌∷◌, length, map, get_or, replicate, Some, None, sym, ap, subst, refl, arith, inl, inr}
use Rattle.std.specs.List.{All, AllByRecursion as Each}
use Rattle.std.proofs.lemmas.Bool.{cases_Bool, cond-true, cond-false}
use Rattle.std.proofs.lemmas.List.{length-replicate, get_or-replicate, get_or_read}
use Rattle.std.proofs.lemmas.List.Elements.{All-head, All-tail}
use Rattle.std.proofs.lemmas.List.FromFn.{fill_by_all, get_or-map-range_with_len, length-map-range_with_len}
use Rattle.sim_base.specs.declared.config.Config.{Config}
use Rattle.sim_base.specs.declared.timing.Timing.{Timing}
use Rattle.sim_base.specs.declared.command.Command.{Command}
use Rattle.sim_base.specs.declared.command.Kind.{Kind}
use Rattle.sim_base.specs.declared.command.Kind.TheVariants as kind
use Rattle.sim_base.specs.declared.command.IssuedCommand.{IssuedCommand}
use Rattle.sim_base.specs.History.{below}
use Rattle.bank_ready.specs.Ready.{held_by, ready_from, window_ends}
use Rattle.bank_ready.specs.Words.{act_word, rd_word, wr_word, pre_word, no_acts, window_from, word_from, act_word_from, word_until, acts_in, rank_state_from, rank_state_after}
use Rattle.sim_base.specs.Places.{bank_at}
use Rattle.bank_ready.specs.Noted.{IsRaised, window_word, IsFloorRaised, IsNoted}
use Rattle.bank_ready.specs.Stands.{StandsFor, Ascends, IsFloor}
use Rattle.bank_ready.specs.declared.words.RankState.{RankState}
use Rattle.bank_ready.specs.declared.banks.Banks.{Banks}
use Rattle.bank_ready.proofs.Readiness.{ready_from-more}
use Rattle.bank_ready.proofs.ActWindow.{window_from-more, oldest-first}

-- what is read in a list that was made by number
pub made-read : {X : Type 0} (f : ℕ → X) (n k : ℕ) (xs : List X) (x : X) → xs ≡ map f (below n) → k < n → x ≡ get_or xs k x → x ≡ f k
made-read f n k xs x made inside read = read ∙ ap (λ ys. get_or ys k x) made ∙ get_or-map-range_with_len f 0 n k k x inside (omega arith)

-- the later one of a bank's word and of its group's, as they were read
pub later-read : (ranks : ℕ) (xs groups : List ℕ) (k own group later : ℕ) → length xs ≡ 16 * ranks → length groups ≡ 4 * ranks → k < 16 * ranks
    → own ≡ get_or xs k own → group ≡ get_or groups (k / 4) group → later ≡ max own group → later ≡ max (get_or xs k 0) (get_or groups (k / 4) 0)
later-read ranks xs groups k own group later count group_count l read group_read is =
    let found : own ≡ get_or xs k 0 = get_or_read xs k own (omega arith) read 0 in
    let group_found : group ≡ get_or groups (k / 4) 0 = get_or_read groups (k / 4) group (omega arith) group_read 0 in
    rw (← found, ← group_found) is

-- each element of a list that was made by number is changed by number
changed : {X : Type 0} (f g : ℕ → X) (after : ℕ → X → X) (n : ℕ) (xs ys : List X) (d : X) → xs ≡ map f (below n) → length ys ≡ length xs
    → ((k : ℕ) → k < length xs → get_or ys k d ≡ after k (get_or xs k d)) → ((k : ℕ) → k < n → after k (f k) ≡ g k) → ys ≡ map g (below n)
changed f g after n xs ys d made long each step =
    let count : length xs ≡ n = ap length made ∙ length-map-range_with_len f 0 n in
    fill_by_all g ys n d (long ∙ count)
    (λ k l.
    each k (rw count l)
    ∙ ap (after k) (ap (λ zs. get_or zs k d) made ∙ get_or-map-range_with_len f 0 n k k d l (omega arith))
    ∙ step k l)

Ascends-more : (history : List IssuedCommand) (i : IssuedCommand) → Ascends history → All (λ (j : IssuedCommand). j.cycle < i.cycle) history → Ascends (history ++ i ∷ [])
Ascends-more [] i h k = (tt, tt)
Ascends-more (j ∷ history) i h k =
    (Each-push j.cycle history (All-head (λ (l : IssuedCommand). l.cycle < i.cycle) j history k) h.0, Ascends-more history i h.1 (All-tail (λ (l : IssuedCommand). l.cycle < i.cycle) j history k))
  where
    Each-push : (cycle : ℕ) (rows : List IssuedCommand) → cycle < i.cycle → Each (λ (l : IssuedCommand). cycle < l.cycle) rows → Each (λ (l : IssuedCommand). cycle < l.cycle) (rows ++ i ∷ [])
    Each-push cycle [] a b = (a, tt)
    Each-push cycle (l ∷ rows) a b = (b.0, Each-push cycle rows a b.1)

-- one command more makes of a rank what it makes of its state
rank_state-more : (t : Timing) (history : List IssuedCommand) (i : IssuedCommand) (rank : ℕ)
    → rank_state_after t i.cycle i.command rank (rank_state_from t history rank) ≡ rank_state_from t (history ++ i ∷ []) rank
rank_state-more t history i rank =
    λ x. record {
      prea = sym (ready_from-more t history i kind.Prea rank None) x;
      refresh = sym (ready_from-more t history i kind.Ref rank None) x;
      window = sym (window_from-more t rank history i) x;
    }

-- and of a word of ACTs what it makes of that word, where the window says when it allows one more
act_word-more : (t : Timing) (history : List IssuedCommand) (i : IssuedCommand) (k word : ℕ) → Ascends history
    → word ≡ cond (acts_in i.command (k / 16)) (window_from t (k / 16) history).second 0
    → max (act_word_from t history k) (max (word_until t i.cycle i.command kind.Act k) word) ≡ act_word_from t (history ++ i ∷ []) k
act_word-more t history i k word up is =
    let rank = k / 16 in
    let now = window_from t rank history in
    let first = oldest-first t rank history up in
    let distances = ready_from-more t history i kind.Act rank (Some (bank_at k)) in
    let window = window_from-more t rank history i in
    elim (cases_Bool (acts_in i.command rank)) [
      | inl h ↦
          let end : word ≡ now.second = is ∙ cond-true (acts_in i.command rank) now.second 0 h in
          let oldest : (window_from t rank (history ++ i ∷ [])).oldest ≡ now.second = rw window (rw h refl) in
          omega (arith, distances)
      | inr h ↦
          let end : word ≡ 0 = is ∙ cond-false (acts_in i.command rank) now.second 0 h in
          let oldest : (window_from t rank (history ++ i ∷ [])).oldest ≡ now.oldest = rw window (rw h refl) in
          omega (arith, distances)
    ]

-- a word that is raised
raised_word : (before after until from : ℕ → ℕ) (ranks : ℕ) (banks : Banks) → IsRaised (16 * length banks.ranks.items) before after until → length banks.ranks.items ≡ ranks
    → (k : ℕ) → k < 16 * ranks → before k ≡ from k → after k ≡ max (from k) (until k)
raised_word before after until from ranks banks h count k l is = h.each k (rw count l) ∙ ap (λ x. max x (until k)) is

-- what one command more makes of a word
word-more : (u : Timing) (s : Config) (history : List IssuedCommand) (i : IssuedCommand) (later : Kind) (k : ℕ) → u ≡ s.timing
    → max (word_from s.timing history later k) (word_until u i.cycle i.command later k) ≡ word_from s.timing (history ++ i ∷ []) later k
word-more u s history i later k e =
    ap (λ v. max (word_from s.timing history later k) (word_until v i.cycle i.command later k)) e
    ∙ sym (ready_from-more s.timing history i later (k / 16) (Some (bank_at k)))

-- what one command more makes of a cycle before which none of a kind is allowed
floor-more : (u : Timing) (s : Config) (history : List IssuedCommand) (i : IssuedCommand) (later : Kind) (before after : ℕ) → u ≡ s.timing
    → IsFloor s.timing history later before → IsFloorRaised u i.cycle i.command later before after → IsFloor s.timing (history ++ i ∷ []) later after
floor-more u s history i later before after e h raised rank bank =
    let more = ready_from-more s.timing history i later rank bank in
    let within : after ≤ max before (held_by s.timing later rank bank i) = subst (λ (v : Timing). after ≤ max before (held_by v later rank bank i)) e (raised rank bank) in
    omega (arith, h rank bank, more, within)

-- one command more
pub noted : (banks after : Banks) (s : Config) (history : List IssuedCommand) (i : IssuedCommand) → StandsFor banks s history → All (λ (j : IssuedCommand). j.cycle < i.cycle) history
    → IsNoted banks after banks.gaps.value i.cycle i.command → StandsFor after s (history ++ i ∷ [])
noted banks after s history i h later e =
    let t = s.timing in
    let n = 16 * s.ranks in
    let more = history ++ i ∷ [] in
    let unused : RankState = record { prea = 0; refresh = 0; window = no_acts } in
    record {
      timing = ap (λ b. b.value) e.gaps ∙ h.timing;
      ranks = e.rank_count ∙ h.ranks;
      act_words = λ k l.
          let inside : k / 16 < s.ranks = omega arith in
          let state = ap (λ ys. get_or ys (k / 16) unused) h.rank_states ∙ get_or-map-range_with_len (rank_state_from t history) 0 s.ranks (k / 16) (k / 16) unused inside (omega arith) in
          raised_word (act_word banks) (act_word after) (λ j. max (word_until banks.gaps.value i.cycle i.command kind.Act j) (window_word banks i.command j)) (act_word_from t history) s.ranks banks e.act h.ranks k l (h.act_words k l)
          ∙ ap (λ u. max (act_word_from t history k) (max (word_until u i.cycle i.command kind.Act k) (window_word banks i.command k))) h.timing
          ∙ act_word-more t history i k (window_word banks i.command k) h.ascending (ap (λ (r : RankState). cond (acts_in i.command (k / 16)) r.window.second 0) state);
      rd_words = λ k l.
          raised_word (rd_word banks) (rd_word after) (word_until banks.gaps.value i.cycle i.command kind.Rd) (word_from t history kind.Rd) s.ranks banks e.rd h.ranks k l (h.rd_words k l)
          ∙ word-more banks.gaps.value s history i kind.Rd k h.timing;
      wr_words = λ k l.
          raised_word (wr_word banks) (wr_word after) (word_until banks.gaps.value i.cycle i.command kind.Wr) (word_from t history kind.Wr) s.ranks banks e.wr h.ranks k l (h.wr_words k l)
          ∙ word-more banks.gaps.value s history i kind.Wr k h.timing;
      pre_words = λ k l.
          raised_word (pre_word banks) (pre_word after) (word_until banks.gaps.value i.cycle i.command kind.Pre) (word_from t history kind.Pre) s.ranks banks e.pre h.ranks k l (h.pre_words k l)
          ∙ word-more banks.gaps.value s history i kind.Pre k h.timing;
      rd_floor = floor-more banks.gaps.value s history i kind.Rd banks.rd_floor after.rd_floor h.timing h.rd_floor e.rd_floor;
      wr_floor = floor-more banks.gaps.value s history i kind.Wr banks.wr_floor after.wr_floor h.timing h.wr_floor e.wr_floor;
      rank_states =
          changed (rank_state_from t history) (rank_state_from t more) (rank_state_after t i.cycle i.command) s.ranks banks.ranks.items after.ranks.items unused
          h.rank_states e.rank_count
          (λ k l. e.ranks k unused l ∙ ap (λ u. rank_state_after u i.cycle i.command k (get_or banks.ranks.items k unused)) h.timing)
          (λ k l. rank_state-more t history i k);
      ascending = Ascends-more history i h.ascending later;
    }

-- the banks after a command stand for the history with it, if what was noted in them is a command that is equal to it
pub noted_is : (banks after : Banks) (s : Config) (history : List IssuedCommand) (cycle channel : ℕ) (command is : Command) → StandsFor banks s history
    → All (λ (j : IssuedCommand). j.cycle < cycle) history → command ≡ is → IsNoted banks after banks.gaps.value cycle is
    → StandsFor after s (history ++ record { cycle = cycle; channel = channel; command = command } ∷ [])
noted_is banks after s history cycle channel command is h later e noted_so =
    noted banks after s history (record { cycle = cycle; channel = channel; command = command }) h later (rw e noted_so)

-- the later one of two words that were never raised
both-unused : (ranks : ℕ) (xs groups : List ℕ) (k : ℕ) → xs ≡ replicate (16 * ranks) 0 → groups ≡ replicate (4 * ranks) 0 → k < 16 * ranks
    → max (get_or xs k 0) (get_or groups (k / 4) 0) ≡ 0
both-unused ranks xs groups k is group_is l =
    let own : get_or xs k 0 ≡ 0 = ap (λ ys. get_or ys k 0) is ∙ get_or-replicate (16 * ranks) k 0 0 l in
    let group : get_or groups (k / 4) 0 ≡ 0 = ap (λ ys. get_or ys (k / 4) 0) group_is ∙ get_or-replicate (4 * ranks) (k / 4) 0 0 (omega arith) in
    omega arith

-- how many words that were never raised there are, for so many of each rank
pub unused-count : (m ranks : ℕ) (states : List RankState) (xs : List ℕ) → states ≡ replicate ranks (record { prea = 0; refresh = 0; window = no_acts })
    → xs ≡ replicate (m * ranks) 0 → length xs ≡ m * length states
unused-count m ranks states xs state_is is =
    let unused : RankState = record { prea = 0; refresh = 0; window = no_acts } in
    ap length is ∙ length-replicate (m * ranks) 0 ∙ sym (ap (λ n. m * n) (ap length state_is ∙ length-replicate ranks unused))

-- where no command was noted, nothing holds back
pub stands-first : (banks : Banks) (s : Config) → banks.gaps.value ≡ s.timing
    → banks.act.items ≡ replicate (16 * s.ranks) 0 → banks.act_groups.items ≡ replicate (4 * s.ranks) 0
    → banks.rd.items ≡ replicate (16 * s.ranks) 0 → banks.rd_groups.items ≡ replicate (4 * s.ranks) 0
    → banks.wr.items ≡ replicate (16 * s.ranks) 0 → banks.wr_groups.items ≡ replicate (4 * s.ranks) 0
    → banks.pre.items ≡ replicate (16 * s.ranks) 0
    → banks.rd_floor ≡ 0 → banks.wr_floor ≡ 0
    → banks.ranks.items ≡ replicate s.ranks (record { prea = 0; refresh = 0; window = no_acts }) → StandsFor banks s []
unfolding ready_from window_from window_ends
stands-first banks s t act act_groups rd rd_groups wr wr_groups pre rd_floor wr_floor ranks =
    let n = 16 * s.ranks in
    let unused : RankState = record { prea = 0; refresh = 0; window = no_acts } in
    record {
      timing = t;
      ranks = ap length ranks ∙ length-replicate s.ranks unused;
      act_words = λ k l. both-unused s.ranks _ _ k act act_groups l;
      rd_words = λ k l. both-unused s.ranks _ _ k rd rd_groups l;
      wr_words = λ k l. both-unused s.ranks _ _ k wr wr_groups l;
      pre_words = λ k l. ap (λ xs. get_or xs k 0) pre ∙ get_or-replicate n k 0 0 l;
      rd_floor = λ rank bank. omega (arith, rd_floor);
      wr_floor = λ rank bank. omega (arith, wr_floor);
      rank_states = ranks ∙ fill_by_all (rank_state_from s.timing []) _ s.ranks unused (length-replicate s.ranks unused) (λ k l. get_or-replicate s.ranks k unused unused l);
      ascending = tt;
    }
