-- A rank whose refresh is due has it in time. While it is due, the channel closes the rank's banks and refreshes it,
-- once the ranks before it are refreshed.
use Rattle.std.proofs.Common.{◌≡◌, ℕ, zero, suc, ◌+◌, ◌-◌, ◌*◌, ◌/◌, ◌<◌, ◌≤◌, Bool, true, false, cond, List, [], ◌∷◌, ◌++◌, Option, Some, None, refl, sym, ap, subst, ◌∙◌, ◌⊎◌, inl, inr, arith, add-zero}
use Rattle.std.specs.Prelude.{count_by}
use Rattle.std.specs.Option.{IfSome}
use Rattle.std.specs.List.{AllByRecursion as Each, cons_option}
use Rattle.std.proofs.lemmas.Bool.{false≢true, cond_both, cond-true, cond-false, eq-eqb, lt-ltb, ltb-true, cases_lt}
use Rattle.std.proofs.lemmas.List.{append-nil}
use Rattle.std.proofs.Math.Nat.{div-eq_of_lt-le, div-mul-le_self, mul-le-mul_right}
use Rattle.sim_base.specs.declared.config.Config.{Config}
use Rattle.sim_base.specs.Config.{refresh_slack}
use Rattle.sim_base.specs.History.{steps_of_channel, issued_at, issued_commands}
use Rattle.sim_base.specs.Rules.{has_open_bank, is_legal}
use Rattle.sim_base.specs.Scheduling.{refreshes, due, lowest_due, refresh_command, if_legal}
use Rattle.sim_base.specs.Machine.{run}
use Rattle.sim_base.specs.declared.timing.Timing.{Timing}
use Rattle.sim_base.specs.declared.command.Command.{Command}
use Rattle.sim_base.specs.declared.command.Command.TheVariants.{Act, Rd, Wr, Pre, Prea, Ref}
use Rattle.sim_base.specs.declared.command.IssuedCommand.{IssuedCommand}
use Rattle.sim_base.specs.declared.trace.Entry.{Entry}
use Rattle.sim_base.proofs.Ordered.{Each-weaker}
use Rattle.sim_base.proofs.Each.{Each-both}
use Rattle.laws.specs.Commands.{history_of}
use Rattle.laws.specs.Refreshes.{refreshes_by, RefreshesAreInTime, RefreshesAreNotEarly, RefreshesAreWanted}
use Rattle.laws.proofs.Cleared.{close_wait, LetsClose, LetsRefresh, close-legal, refresh-legal, closed-prea, closed-ref}
use Rattle.laws.proofs.Counting.{test_in}
use Rattle.laws.proofs.Due.{refreshed, refreshed-more, refreshed-by, is_due, chosen-refresh, lowest-due, lowest-at, due-more, due-from, not_early, not_wanted}
use Rattle.laws.proofs.Legal.{chosen, take-channel_steps_of, history_of-more, Each-history_of}

-- Rank j lacks its refresh of interval m for long: from `begin` on m refreshes are due, from `start` on the ranks
-- before it have theirs, and its last one stands before `old`.
record Late (s : Config) (traces : List (List Entry)) (k j m begin start old : ℕ) : Type 0 where
  pub channel : k < s.channels
  pub rank : j < s.ranks
  pub refreshed_at_all : 0 < s.timing.n_refi
  pub quotient : (t : ℕ) → begin ≤ t → t < start + s.timing.n_rp + 1 → t / s.timing.n_refi ≡ m
  pub ranks_before : (i t : ℕ) → i < j → start ≤ t → m ≤ refreshed s traces k i t
  pub late : refreshed s traces k j (start + s.timing.n_rp + 1) < m
  pub before : m ≤ refreshed s traces k j old + 1
  pub spaced : old + s.timing.n_rfc ≤ begin
  pub closing : begin + close_wait s.timing ≤ start + 1

-- each command of a history is of a cycle before its end
cycles-below : (s : Config) (traces : List (List Entry)) (k : ℕ) → k < s.channels → (n : ℕ) → Each (λ (i : IssuedCommand). i.cycle < n) (history_of s traces n k)
unfolding run steps_of_channel issued_commands
cycles-below s traces k l zero = tt
cycles-below s traces k l (suc n) =
    Each-history_of (λ (i : IssuedCommand). i.cycle < suc n) s traces n k l
    (Each-weaker _ (λ (i : IssuedCommand). i.cycle < suc n) (λ i h. omega arith) (history_of s traces n k) (cycles-below s traces k l n))
    (always (chosen s traces n k))
  where
    always : (o : Option Command) → IfSome o (λ command. n < suc n)
    always None = tt
    always (Some command) = omega arith

-- a command is closing or refreshing a rank, or of a cycle before this one
abbrev IsOldAs : ℕ → ℕ → Command → Type 0
IsOldAs begin at (Act bank row source) = at < begin
IsOldAs begin at (Rd bank row column source) = at < begin
IsOldAs begin at (Wr bank row column source) = at < begin
IsOldAs begin at (Pre bank source) = at < begin
IsOldAs begin at (Prea rank) = Unit {0}
IsOldAs begin at (Ref rank) = Unit {0}

old-from : (begin at : ℕ) (command : Command) → at < begin → IsOldAs begin at command
old-from begin at (Act bank row source) h = h
old-from begin at (Rd bank row column source) h = h
old-from begin at (Wr bank row column source) h = h
old-from begin at (Pre bank source) h = h
old-from begin at (Prea rank) h = tt
old-from begin at (Ref rank) h = tt

-- a command does not close the banks of a whole rank later than this
abbrev IsShutAs : ℕ → ℕ → Command → Type 0
IsShutAs start at (Act bank row source) = Unit {0}
IsShutAs start at (Rd bank row column source) = Unit {0}
IsShutAs start at (Wr bank row column source) = Unit {0}
IsShutAs start at (Pre bank source) = Unit {0}
IsShutAs start at (Prea rank) = at ≤ start
IsShutAs start at (Ref rank) = Unit {0}

shut-from : (start at : ℕ) (command : Command) → at ≤ start → IsShutAs start at command
shut-from start at (Act bank row source) h = tt
shut-from start at (Rd bank row column source) h = tt
shut-from start at (Wr bank row column source) h = tt
shut-from start at (Pre bank source) h = tt
shut-from start at (Prea rank) h = h
shut-from start at (Ref rank) h = tt

-- a command that is a refresh of the rank is of a cycle before this one
abbrev IsRefreshedAs : ℕ → ℕ → ℕ → Command → Type 0
IsRefreshedAs rank old at command = refreshes rank command ≡ true → at < old

lets-close : (t : Timing) (rank now begin old at : ℕ) (command : Command) → begin + close_wait t ≤ now + 1 → old + t.n_rfc ≤ now
    → IsOldAs begin at command → IsRefreshedAs rank old at command → LetsClose t rank now at command
lets-close t rank now begin old at (Act bank row source) c d h k = omega arith
lets-close t rank now begin old at (Rd bank row column source) c d h k = omega arith
lets-close t rank now begin old at (Wr bank row column source) c d h k = omega arith
lets-close t rank now begin old at (Pre bank source) c d h k = tt
lets-close t rank now begin old at (Prea other) c d h k = tt
lets-close t rank now begin old at (Ref other) c d h k = λ e. let l = k (eq-eqb other rank e) in omega arith

lets-refresh : (t : Timing) (rank now begin start old at : ℕ) (command : Command) → begin ≤ start → start + t.n_rp ≤ now → old + t.n_rfc ≤ now
    → IsOldAs begin at command → IsShutAs start at command → IsRefreshedAs rank old at command → LetsRefresh t rank now at command
lets-refresh t rank now begin start old at (Act bank row source) b c d h g k = tt
lets-refresh t rank now begin start old at (Rd bank row column source) b c d h g k = tt
lets-refresh t rank now begin start old at (Wr bank row column source) b c d h g k = tt
lets-refresh t rank now begin start old at (Pre bank source) b c d h g k = omega arith
lets-refresh t rank now begin start old at (Prea other) b c d h g k = λ e. omega arith
lets-refresh t rank now begin start old at (Ref other) b c d h g k = λ e. let l = k (eq-eqb other rank e) in omega arith

-- what holds of a command that closes a rank and of one that refreshes it holds of what is issued for the rank
for_rank : (P : Command → Type 0) (s : Config) (history : List IssuedCommand) (now rank : ℕ) → (has_open_bank s history rank ≡ true → P (Prea rank)) → (has_open_bank s history rank ≡ false → P (Ref rank))
    → IfSome (if_legal s history now (refresh_command s history rank)) P
unfolding if_legal refresh_command
for_rank P s history now rank h k =
    let command = cond (has_open_bank s history rank) (Prea rank) (Ref rank) in
    cond_both (is_legal s history now command) (Some command) None (λ o. IfSome o P) (λ e. cond_both (has_open_bank s history rank) (Prea rank) (Ref rank) P h k) (λ e. tt)

-- what holds of each command where the test fails holds where none passes it
where_none : (p : Command → Bool) (Q : Command → Type 0) (o : Option Command) → (test_in p o ≡ true → ⊥) → IfSome o (λ command. p command ≡ true → Q command)
where_none p Q None h = tt
where_none p Q (Some command) h = λ e. absurd (h e)

module _ (s : Config) (traces : List (List Entry)) (k j m begin start old : ℕ) (h : Late s traces k j m begin start old) where
  abbrev past : ℕ → List IssuedCommand
  past t = history_of s traces t k

  late-start : begin ≤ start
  late-start =
      let a = h.closing in
      let b = s.timing_in_range.n_ras.0 in
      omega arith

  late-at : (t : ℕ) → t ≤ start + s.timing.n_rp + 1 → refreshed s traces k j t < m
  late-at t l =
      let a = refreshed-by s traces k j t (start + s.timing.n_rp + 1) h.channel l in
      let b = h.late in
      omega arith

  due-in : (t : ℕ) → begin ≤ t → t < start + s.timing.n_rp + 1 → is_due s traces k t j ≡ true
  due-in t a b =
      let e = due-from s (past t) j t h.refreshed_at_all in
      let f = h.quotient t a b in
      let g = late-at t (omega arith) in
      lt-ltb 0 (due s j (past t) t) (omega arith)

  -- while it is due, the channel serves a refresh of it or of a rank before it
  serves-refresh : (t : ℕ) → begin ≤ t → t < start + s.timing.n_rp + 1 → (i : ℕ) × (chosen s traces t k ≡ if_legal s (past t) t (refresh_command s (past t) i))
  serves-refresh t a b =
      let low = lowest-at s traces k t j h.rank (due-in t a b) in
      (low.0, chosen-refresh s traces k t low.0 low.1)

  lowest-is : (t i : ℕ) → start ≤ t → t < start + s.timing.n_rp + 1 → lowest_due s (past t) t ≡ Some i → i ≤ j → i ≡ j
  lowest-is t i a b e l = go (cases_lt i j)
    where
      go : (i < j) ⊎ (j ≤ i) → i ≡ j
      go (inl c) =
          let d = due-more s (past t) i t (ltb-true _ _ (lowest-due s traces k t i e)) in
          let f = h.quotient t (let g = late-start in omega arith) b in
          let g = h.ranks_before i t c a in
          absurd (omega arith)
      go (inr c) = omega arith

  -- once those are refreshed, of it
  serves-rank : (t : ℕ) → start ≤ t → t < start + s.timing.n_rp + 1 → chosen s traces t k ≡ if_legal s (past t) t (refresh_command s (past t) j)
  serves-rank t a b =
      let low = lowest-at s traces k t j h.rank (due-in t (let g = late-start in omega arith) b) in
      let e = lowest-is t low.0 a b low.1 low.2 in
      chosen-refresh s traces k t low.0 low.1 ∙ ap (λ i. if_legal s (past t) t (refresh_command s (past t) i)) e

  -- from the time on at which the refresh is due, nothing but closing and refreshing is done
  old-commands : (d : ℕ) → begin + d ≤ start + s.timing.n_rp + 1 → Each (λ (i : IssuedCommand). IsOldAs begin i.cycle i.command) (past (begin + d))
  old-commands zero l =
      subst (λ t. Each (λ (i : IssuedCommand). IsOldAs begin i.cycle i.command) (past t)) (sym (add-zero begin))
      (Each-weaker _ (λ (i : IssuedCommand). IsOldAs begin i.cycle i.command) (λ i b. old-from begin i.cycle i.command b) (past begin) (cycles-below s traces k h.channel begin))
  old-commands (suc d) l =
      let t = begin + d in
      let e : suc t ≡ begin + suc d = omega arith in
      let rank = serves-refresh t (omega arith) (omega arith) in
      subst (λ u. Each (λ (i : IssuedCommand). IsOldAs begin i.cycle i.command) (past u)) e
      (Each-history_of (λ (i : IssuedCommand). IsOldAs begin i.cycle i.command) s traces t k h.channel (old-commands d (omega arith))
      (subst (λ o. IfSome o (IsOldAs begin t)) (sym rank.1) (for_rank (IsOldAs begin t) s (past t) t rank.0 (λ f. tt) (λ f. tt))))

  -- the rank's last refresh stands before the interval
  no-refresh : (t : ℕ) → old ≤ t → t < start + s.timing.n_rp + 1 → test_in (refreshes j) (chosen s traces t k) ≡ true → ⊥
  no-refresh t a b e =
      let f : refreshed s traces k j (suc t) ≡ refreshed s traces k j t + 1 = refreshed-more s traces k j t h.channel ∙ ap (λ x. refreshed s traces k j t + cond x 1 0) e in
      let g = late-at (suc t) (omega arith) in
      let c = refreshed-by s traces k j old t h.channel a in
      let d = h.before in
      omega arith

  old-refreshes : (d : ℕ) → old + d ≤ start + s.timing.n_rp + 1 → Each (λ (i : IssuedCommand). IsRefreshedAs j old i.cycle i.command) (past (old + d))
  old-refreshes zero l =
      subst (λ t. Each (λ (i : IssuedCommand). IsRefreshedAs j old i.cycle i.command) (past t)) (sym (add-zero old))
      (Each-weaker _ (λ (i : IssuedCommand). IsRefreshedAs j old i.cycle i.command) (λ i b e. b) (past old) (cycles-below s traces k h.channel old))
  old-refreshes (suc d) l =
      let t = old + d in
      let e : suc t ≡ old + suc d = omega arith in
      subst (λ u. Each (λ (i : IssuedCommand). IsRefreshedAs j old i.cycle i.command) (past u)) e
      (Each-history_of (λ (i : IssuedCommand). IsRefreshedAs j old i.cycle i.command) s traces t k h.channel (old-refreshes d (omega arith))
      (where_none (refreshes j) (λ command. t < old) (chosen s traces t k) (no-refresh t (omega arith) (omega arith))))

  old-at : (t : ℕ) → begin ≤ t → t ≤ start + s.timing.n_rp + 1 → Each (λ (i : IssuedCommand). IsOldAs begin i.cycle i.command × IsRefreshedAs j old i.cycle i.command) (past t)
  old-at t a b =
      let e : begin + (t - begin) ≡ t = omega arith in
      let c = h.spaced in
      let f : old + (t - old) ≡ t = omega arith in
      Each-both (λ (i : IssuedCommand). IsOldAs begin i.cycle i.command) (λ (i : IssuedCommand). IsRefreshedAs j old i.cycle i.command) (past t)
      (subst (λ u. Each (λ (i : IssuedCommand). IsOldAs begin i.cycle i.command) (past u)) e (old-commands (t - begin) (omega arith)))
      (subst (λ u. Each (λ (i : IssuedCommand). IsRefreshedAs j old i.cycle i.command) (past u)) f (old-refreshes (t - old) (omega arith)))

  -- when it is due, its banks can be closed
  can-close : is_legal s (past start) start (Prea j) ≡ true
  can-close =
      let a = late-start in
      let b = h.spaced in
      close-legal s (past start) start j
      (Each-weaker _ (λ (i : IssuedCommand). LetsClose s.timing j start i.cycle i.command)
      (λ i g. lets-close s.timing j start begin old i.cycle i.command h.closing (omega arith) g.0 g.1)
      (past start) (old-at start a (omega arith)))

  -- banks that are closed stay so
  stays-closed : (t : ℕ) → has_open_bank s (past t) j ≡ false → chosen s traces t k ≡ if_legal s (past t) t (refresh_command s (past t) j) → has_open_bank s (past (suc t)) j ≡ false
  stays-closed t closed e =
      ap (λ x. has_open_bank s x j) (history_of-more s traces t k h.channel)
      ∙ after (chosen s traces t k)
      (subst (λ o. IfSome o IsRef) (sym e) (for_rank IsRef s (past t) t j (λ f. absurd (false≢true (sym closed ∙ f))) (λ f. refl)))
    where
      IsRef : Command → Type 0
      IsRef command = command ≡ Ref j

      after : (o : Option Command) → IfSome o IsRef → has_open_bank s (past t ++ cons_option (issued_at k t o) []) j ≡ false
      after None g = ap (λ x. has_open_bank s x j) (append-nil (past t)) ∙ closed
      after (Some command) g =
          ap (λ c. has_open_bank s (past t ++ record { cycle = t; channel = k; command = c } ∷ []) j) g ∙ closed-ref s (past t) j j t k ∙ closed

  -- and open ones are closed
  closes-now : has_open_bank s (past start) j ≡ true → chosen s traces start k ≡ Some (Prea j)
  unfolding if_legal refresh_command
  closes-now e =
      serves-rank start (omega arith) (omega arith) ∙ ap (if_legal s (past start) start) (cond-true _ _ _ e) ∙ cond-true _ _ _ can-close

  closes : has_open_bank s (past start) j ≡ true → has_open_bank s (past (suc start)) j ≡ false
  closes e =
      ap (λ x. has_open_bank s x j) (history_of-more s traces start k h.channel)
      ∙ ap (λ o. has_open_bank s (past start ++ cons_option (issued_at k start o) []) j) (closes-now e) ∙ closed-prea s (past start) j start k

  closed-first : has_open_bank s (past (suc start)) j ≡ false
  closed-first = go (has_open_bank s (past start) j) refl
    where
      go : (b : Bool) → has_open_bank s (past start) j ≡ b → has_open_bank s (past (suc start)) j ≡ false
      go true e = closes e
      go false e = stays-closed start e (serves-rank start (omega arith) (omega arith))

  -- so they are closed after that
  closed-after : (d : ℕ) → suc start + d ≤ start + s.timing.n_rp + 1 → has_open_bank s (past (suc start + d)) j ≡ false
  closed-after zero l = ap (λ t. has_open_bank s (past t) j) (add-zero (suc start)) ∙ closed-first
  closed-after (suc d) l =
      let t = suc start + d in
      let e : suc start + suc d ≡ suc t = omega arith in
      ap (λ u. has_open_bank s (past u) j) e ∙ stays-closed t (closed-after d (omega arith)) (serves-rank t (omega arith) (omega arith))

  -- and not closed again
  shut-after : (d : ℕ) → suc start + d ≤ start + s.timing.n_rp + 1 → Each (λ (i : IssuedCommand). IsShutAs start i.cycle i.command) (past (suc start + d))
  shut-after zero l =
      subst (λ t. Each (λ (i : IssuedCommand). IsShutAs start i.cycle i.command) (past t)) (sym (add-zero (suc start)))
      (Each-weaker _ (λ (i : IssuedCommand). IsShutAs start i.cycle i.command) (λ i b. shut-from start i.cycle i.command (omega arith)) (past (suc start)) (cycles-below s traces k h.channel (suc start)))
  shut-after (suc d) l =
      let t = suc start + d in
      let e : suc t ≡ suc start + suc d = omega arith in
      let closed = closed-after d (omega arith) in
      subst (λ u. Each (λ (i : IssuedCommand). IsShutAs start i.cycle i.command) (past u)) e
      (Each-history_of (λ (i : IssuedCommand). IsShutAs start i.cycle i.command) s traces t k h.channel (shut-after d (omega arith))
      (subst (λ o. IfSome o (IsShutAs start t)) (sym (serves-rank t (omega arith) (omega arith)))
      (for_rank (IsShutAs start t) s (past t) t j (λ f. absurd (false≢true (sym closed ∙ f))) (λ f. tt))))

  -- then the rank is refreshed
  refreshes-now : chosen s traces (start + s.timing.n_rp) k ≡ Some (Ref j)
  unfolding if_legal refresh_command
  refreshes-now =
      let t = start + s.timing.n_rp in
      let r = s.timing_in_range.n_rp.0 in
      let e : suc start + (s.timing.n_rp - 1) ≡ t = omega arith in
      let a = late-start in
      let b = h.spaced in
      let closed : has_open_bank s (past t) j ≡ false = ap (λ u. has_open_bank s (past u) j) (sym e) ∙ closed-after (s.timing.n_rp - 1) (omega arith) in
      let shut : Each (λ (i : IssuedCommand). IsShutAs start i.cycle i.command) (past t) =
      subst (λ u. Each (λ (i : IssuedCommand). IsShutAs start i.cycle i.command) (past u)) e (shut-after (s.timing.n_rp - 1) (omega arith)) in
      let legal : is_legal s (past t) t (Ref j) ≡ true =
      refresh-legal s (past t) t j closed
      (Each-weaker _ (λ (i : IssuedCommand). LetsRefresh s.timing j t i.cycle i.command)
      (λ i g. lets-refresh s.timing j t begin start old i.cycle i.command a (omega arith) (omega arith) g.0.0 g.1 g.0.1)
      (past t) (Each-both _ _ (past t) (old-at t (omega arith) (omega arith)) shut)) in
      serves-rank t (omega arith) (omega arith) ∙ ap (if_legal s (past t) t) (cond-false _ _ _ closed) ∙ cond-true _ _ _ legal

  not_late : ⊥
  not_late =
      let t = start + s.timing.n_rp in
      let b = h.spaced in
      let a = late-start in
      no-refresh t (omega arith) (omega arith) (ap (test_in (refreshes j)) refreshes-now ∙ eq-eqb j j refl)

-- so a rank that is due at a cycle is refreshed by nRP after it
refreshed-from : (s : Config) (traces : List (List Entry)) (k j m begin start old : ℕ) → k < s.channels → j < s.ranks → 0 < s.timing.n_refi
    → ((t : ℕ) → begin ≤ t → t < start + s.timing.n_rp + 1 → t / s.timing.n_refi ≡ m) → ((i t : ℕ) → i < j → start ≤ t → m ≤ refreshed s traces k i t)
    → m ≤ refreshed s traces k j old + 1 → old + s.timing.n_rfc ≤ begin → begin + close_wait s.timing ≤ start + 1
    → m ≤ refreshed s traces k j (start + s.timing.n_rp + 1)
refreshed-from s traces k j m begin start old l b some quotient ranks_before before spaced closing = go (cases_lt (refreshed s traces k j (start + s.timing.n_rp + 1)) m)
  where
    go : (refreshed s traces k j (start + s.timing.n_rp + 1) < m) ⊎ (m ≤ refreshed s traces k j (start + s.timing.n_rp + 1)) → m ≤ refreshed s traces k j (start + s.timing.n_rp + 1)
    go (inl late) =
        absurd (not_late s traces k j m begin start old
        (record { channel = l; rank = b; refreshed_at_all = some; quotient = quotient; ranks_before = ranks_before; late = late; before = before; spaced = spaced; closing = closing }))
    go (inr h) = h

-- the cycle at which a rank is due, where the ranks before it were refreshed one after the other
refresh_of : Config → ℕ → ℕ → ℕ
refresh_of s first j = first + j * (s.timing.n_rp + 1)

next_refresh : (s : Config) (first j : ℕ) → refresh_of s first j + s.timing.n_rp + 1 ≡ refresh_of s first (suc j)
unfolding refresh_of
next_refresh s first j = omega arith

-- the refreshes of all ranks are over by the slack
last_refresh : (s : Config) (m first : ℕ) → first + 1 ≡ m * s.timing.n_refi + close_wait s.timing → refresh_of s first s.ranks ≤ m * s.timing.n_refi + refresh_slack s
unfolding refresh_of
last_refresh s m first e =
    let a = s.memory_in_range.ranks_in.0.0 in
    let r : s.ranks ≡ suc (s.ranks - 1) = omega arith in
    let b : s.ranks * (s.timing.n_rp + 1) ≡ suc (s.ranks - 1) * (s.timing.n_rp + 1) = ap (λ x. x * (s.timing.n_rp + 1)) r in
    omega arith

refreshes-end : (s : Config) (m first j : ℕ) → j < s.ranks → first + 1 ≡ m * s.timing.n_refi + close_wait s.timing → refresh_of s first j + s.timing.n_rp + 1 ≤ m * s.timing.n_refi + refresh_slack s
unfolding refresh_of
refreshes-end s m first j l e =
    let a : j * (s.timing.n_rp + 1) ≤ (s.ranks - 1) * (s.timing.n_rp + 1) = mul-le-mul_right (s.timing.n_rp + 1) (omega arith) in
    omega arith

-- the intervals that have passed by the refresh of a rank
quotient_at : (s : Config) (m first j t : ℕ) → j < s.ranks → 0 < s.timing.n_refi → first + 1 ≡ m * s.timing.n_refi + close_wait s.timing
    → m * s.timing.n_refi ≤ t → t < refresh_of s first j + s.timing.n_rp + 1 → t / s.timing.n_refi ≡ m
quotient_at s m first j t l some e a b =
    let c = refreshes-end s m first j l e in
    let d = s.refresh_fits some in
    div-eq_of_lt-le s.timing.n_refi a (omega arith)

-- ranks are refreshed in their order
one_rank : (s : Config) (traces : List (List Entry)) (k m first : ℕ) → k < s.channels → 0 < s.timing.n_refi → first + 1 ≡ suc m * s.timing.n_refi + close_wait s.timing
    → ((j : ℕ) → j < s.ranks → m ≤ refreshed s traces k j (m * s.timing.n_refi + refresh_slack s))
    → (j : ℕ) → j < s.ranks → ((i : ℕ) → i < j → suc m ≤ refreshed s traces k i (refresh_of s first j)) → suc m ≤ refreshed s traces k j (refresh_of s first j + s.timing.n_rp + 1)
unfolding refresh_of
one_rank s traces k m first l some e before j h rest =
    refreshed-from s traces k j (suc m) (suc m * s.timing.n_refi) (refresh_of s first j) (m * s.timing.n_refi + refresh_slack s) l h some
    (λ t a b. quotient_at s (suc m) first j t h some e a b)
    (λ i t a b. let c = refreshed-by s traces k i (refresh_of s first j) t l b in let d = rest i a in omega arith)
    (let b = before j h in omega arith)
    (let d = s.refresh_fits some in omega arith)
    (omega arith)

rank_by_rank : (s : Config) (traces : List (List Entry)) (k m first : ℕ) → k < s.channels → 0 < s.timing.n_refi → first + 1 ≡ suc m * s.timing.n_refi + close_wait s.timing
    → ((j : ℕ) → j < s.ranks → m ≤ refreshed s traces k j (m * s.timing.n_refi + refresh_slack s))
    → (j : ℕ) → j ≤ s.ranks → (i : ℕ) → i < j → suc m ≤ refreshed s traces k i (refresh_of s first j)
rank_by_rank s traces k m first l some e before zero h = λ i b. absurd (omega arith)
rank_by_rank s traces k m first l some e before (suc j) h = more (rank_by_rank s traces k m first l some e before j (omega arith))
  where
    later : refresh_of s first j + s.timing.n_rp + 1 ≡ refresh_of s first (suc j)
    later = next_refresh s first j

    more : ((i : ℕ) → i < j → suc m ≤ refreshed s traces k i (refresh_of s first j)) → (i : ℕ) → i < suc j → suc m ≤ refreshed s traces k i (refresh_of s first (suc j))
    more rest i b = go (cases_lt i j)
      where
        go : (i < j) ⊎ (j ≤ i) → suc m ≤ refreshed s traces k i (refresh_of s first (suc j))
        go (inl c) =
            let d = refreshed-by s traces k i (refresh_of s first j) (refresh_of s first (suc j)) l (omega (arith, later)) in
            let f = rest i c in
            omega arith
        go (inr c) =
            let f : j ≡ i = omega arith in
            subst (λ x. suc m ≤ refreshed s traces k x (refresh_of s first (suc j))) f
            (subst (λ t. suc m ≤ refreshed s traces k j t) later (one_rank s traces k m first l some e before j h rest))

-- each rank has had m refreshes by the slack after the end of interval m
pub refreshed_in_time : (s : Config) (traces : List (List Entry)) (k : ℕ) → k < s.channels → 0 < s.timing.n_refi → (m j : ℕ) → j < s.ranks
    → m ≤ refreshed s traces k j (m * s.timing.n_refi + refresh_slack s)
refreshed_in_time s traces k l some zero j h = omega arith
refreshed_in_time s traces k l some (suc m) j h =
    let wait = close_wait s.timing in
    let r = s.timing_in_range.n_ras.0 in
    let first = suc m * s.timing.n_refi + wait - 1 in
    let e : first + 1 ≡ suc m * s.timing.n_refi + wait = omega arith in
    let a : suc m ≤ refreshed s traces k j (refresh_of s first s.ranks) = rank_by_rank s traces k m first l some e (refreshed_in_time s traces k l some m) s.ranks (omega arith) j h in
    let c = last_refresh s (suc m) first e in
    let b = refreshed-by s traces k j (refresh_of s first s.ranks) (suc m * s.timing.n_refi + refresh_slack s) l c in
    omega arith

refreshes_by-end : (s : Config) (traces : List (List Entry)) (n k j t : ℕ) → k < s.channels → t < n → refreshes_by s traces n k j t ≡ refreshed s traces k j (suc t)
refreshes_by-end s traces n k j t l b =
    let f : t + 1 ≡ suc t = omega arith in
    ap (λ steps. count_by (λ (i : IssuedCommand). refreshes j i.command) (issued_commands k steps)) (take-channel_steps_of s traces k l n (t + 1) (omega arith)) ∙ ap (refreshed s traces k j) f

pub refreshes_are_in_time : (s : Config) (traces : List (List Entry)) (n : ℕ) → RefreshesAreInTime s traces n
refreshes_are_in_time s traces n k j m l h some b =
    let limit = m * s.timing.n_refi + refresh_slack s in
    let a = refreshed_in_time s traces k l some m j h in
    let c = refreshed-by s traces k j limit (limit + 1) l (omega arith) in
    let e : refreshes_by s traces n k j limit ≡ refreshed s traces k j (limit + 1) =
    ap (λ steps. count_by (λ (i : IssuedCommand). refreshes j i.command) (issued_commands k steps)) (take-channel_steps_of s traces k l n (limit + 1) (omega arith)) in
    omega arith

pub refreshes_are_not_early : (s : Config) (traces : List (List Entry)) (n : ℕ) → RefreshesAreNotEarly s traces n
refreshes_are_not_early s traces n k j t l b =
    let count = refreshes_by s traces n k j t in
    let a = not_early s traces k j l t in
    let e = refreshes_by-end s traces n k j t l b in
    let c : count * s.timing.n_refi ≤ t / s.timing.n_refi * s.timing.n_refi = mul-le-mul_right s.timing.n_refi (omega arith) in
    let d = div-mul-le_self t s.timing.n_refi in
    omega arith

pub refreshes_are_wanted : (s : Config) (traces : List (List Entry)) (n : ℕ) → RefreshesAreWanted s traces n
refreshes_are_wanted s traces n k j t l b z = refreshes_by-end s traces n k j t l b ∙ not_wanted s traces k j l z (suc t)
