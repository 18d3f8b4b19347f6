-- What a command makes of a column, from what was done to its words.
use Rattle.std.proofs.Common.{◌≡◌, ℕ, ◌*◌, ◌/◌, ◌<◌, ◌≤◌, ◌∙◌, Bool, true, false, cond, eqb, max, List, length, get_or, Option, Some, refl, sym, ap, subst, arith, inl, inr}
use Rattle.std.specs.Prelude.{IfSome}
use Rattle.std.proofs.lemmas.Bool.{cases_Bool, eqb-true, cond-true, cond-false}
use Rattle.std.proofs.lemmas.List.{get_or_read}
use Rattle.std.proofs.lemmas.Option.{IfSome_then}
use Rattle.std.specs.declared.vec.Vec.{Vec}
use Rattle.std.specs.Vec.{with_items}
use Rattle.sim_base.specs.Places.{is_bank, bank_at}
use Rattle.sim_base.specs.declared.timing.Timing.{Timing}
use Rattle.sim_base.specs.declared.place.BankId.{BankId}
use Rattle.sim_base.specs.declared.command.Kind.{Kind}
use Rattle.sim_base.specs.declared.command.Kind.TheVariants as kind
use Rattle.sim_base.specs.declared.command.Relation.{Relation}
use Rattle.sim_base.specs.declared.command.Relation.TheVariants.{SameBank, OtherRank}
use Rattle.sim_base.specs.declared.command.Command.{Command}
use Rattle.sim_base.specs.declared.command.Command.TheVariants.{Act, Rd, Wr, Pre, Prea, Ref}
use Rattle.sim_base.specs.declared.command.Source.{Source}
use Rattle.sim_base.specs.Rules.{is_kind, kind_of, rank_of, bank_of}
use Rattle.sim_base.proofs.Lists.{with_items_lent, length-lent}
use Rattle.bank_ready.specs.Ready.{held_until}
use Rattle.bank_ready.specs.Words.{is_own, relation_from, group_relation_from, is_column_kind, no_acts, pushed, word_until, rank_raised, rank_state_after, act_pushed}
use Rattle.bank_ready.specs.Noted.{IsRaised, window_word, IsNoted}
use Rattle.bank_ready.specs.declared.words.RankState.{RankState}
use Rattle.bank_ready.specs.declared.banks.Banks.{Banks}
use Rattle.bank_ready.proofs.Bounds.{IsOwn, rank_alone, column_no_act, column_same}
use Rattle.bank_ready.proofs.Places.{own_raised, column_joint, group_rank}

-- a bank that there is lies in the columns
pub own_inside : (own : Option ℕ) (n m : ℕ) → IfSome own (λ k. k < n) → n ≤ m → IfSome own (λ k. k < m)
own_inside own n m h le = IfSome_then own h (λ k l. omega arith)

-- distances that are the same
pub at_distances : (banks after : Banks) (t u : Timing) (cycle : ℕ) (command : Command) → t ≡ u → IsNoted banks after t cycle command → IsNoted banks after u cycle command
at_distances banks after t u cycle command e h = subst (λ (v : Timing). IsNoted banks after v cycle command) e h

-- what a list becomes that was lent, and changed place by place
pub record IsPut {X : Type 0} (before after : List X) (change : ℕ → X → X) : Type 0 where
  pub count : length after ≡ length before
  pub each : (k : ℕ) (d : X) → k < length before → get_or after k d ≡ change k (get_or before k d)

pub put : {X Z : Type 0} (v : Vec X Z) (lent ys : List X) (change : ℕ → X → X) → lent ≡ v.items → length ys ≡ length lent
    → ((k : ℕ) (d : X) → k < length lent → get_or ys k d ≡ change k (get_or lent k d)) → IsPut v.items (with_items v ys).items change
put v lent ys change is long each =
    let items = with_items_lent v lent ys is long in
    record {
      count = ap length items ∙ long ∙ ap length is;
      each = λ k d l. ap (λ xs. get_or xs k d) items ∙ each k d (rw is l) ∙ ap (λ xs. change k (get_or xs k d)) is;
    }

-- the words of all ranks keep their length, where the list of ranks keeps its own
pub all-words : {Z Y : Type 0} (m : ℕ) (v : Vec ℕ Z) (lent ys : List ℕ) (ranks : Vec RankState Y) (states : List RankState) → lent ≡ v.items → length ys ≡ length lent
    → length states ≡ length ranks.items → length v.items ≡ m * length ranks.items → length (with_items v ys).items ≡ m * length states
all-words m v lent ys ranks states is long same all = length-lent v lent ys is long ∙ all ∙ sym (ap (λ n. m * n) same)

pub left-words : {Y : Type 0} (m : ℕ) (words : List ℕ) (ranks : Vec RankState Y) (states : List RankState)
    → length states ≡ length ranks.items → length words ≡ m * length ranks.items → length words ≡ m * length states
left-words m words ranks states same all = all ∙ sym (ap (λ n. m * n) same)

-- a column whose words were raised by their places
pub record IsLifted (before after : List ℕ) (until : ℕ → ℕ) : Type 0 where
  pub count : length after ≡ length before
  pub each : (k : ℕ) → k < length before → get_or after k 0 ≡ max (get_or before k 0) (until k)

pub lifted : {Z : Type 0} (v : Vec ℕ Z) (lent ys : List ℕ) (until : ℕ → ℕ) → lent ≡ v.items → length ys ≡ length lent
    → ((k d : ℕ) → k < length lent → get_or ys k d ≡ max (get_or lent k d) (until k)) → IsLifted v.items (with_items v ys).items until
lifted v lent ys until is long each =
    let all = put v lent ys (λ k x. max x (until k)) is long each in
    record { count = all.count; each = λ k l. all.each k 0 l }

-- Words of banks that have no part in their groups', as their column says.
pub alone : (n : ℕ) (xs ys : List ℕ) (u until : ℕ → ℕ) → IsLifted xs ys u → length xs ≡ n → ((k : ℕ) → u k ≡ until k)
    → IsRaised n (λ k. get_or xs k 0) (λ k. get_or ys k 0) until
alone n xs ys u until h count e = record { each = λ k l. h.each k (rw count l) ∙ ap (max (get_or xs k 0)) (e k) }

-- The later ones of the words of banks and of their groups, where both were raised.
pub joint : (ranks : ℕ) (xs ys groups after : List ℕ) (u v until : ℕ → ℕ) → IsLifted xs ys u → IsLifted groups after v
    → length xs ≡ 16 * ranks → length groups ≡ 4 * ranks → ((k : ℕ) → max (u k) (v (k / 4)) ≡ until k)
    → IsRaised (16 * ranks) (λ k. max (get_or xs k 0) (get_or groups (k / 4) 0)) (λ k. max (get_or ys k 0) (get_or after (k / 4) 0)) until
joint ranks xs ys groups after u v until own group count group_count e =
    record {
      each = λ k l.
          let in_own : k < length xs = rw count l in
          let in_groups : k / 4 < length groups = rw group_count (omega arith) in
          let raised : get_or ys k 0 ≡ max (get_or xs k 0) (u k) = own.each k in_own in
          let group_raised : get_or after (k / 4) 0 ≡ max (get_or groups (k / 4) 0) (v (k / 4)) = group.each (k / 4) in_groups in
          omega (arith, e k);
    }

-- The later ones of the words of banks and of their groups, where only those of the banks were raised, only those of
-- the groups, or none.
pub joint-own : (ranks : ℕ) (xs ys groups : List ℕ) (u until : ℕ → ℕ) → IsLifted xs ys u → length xs ≡ 16 * ranks → ((k : ℕ) → u k ≡ until k)
    → IsRaised (16 * ranks) (λ k. max (get_or xs k 0) (get_or groups (k / 4) 0)) (λ k. max (get_or ys k 0) (get_or groups (k / 4) 0)) until
joint-own ranks xs ys groups u until own count e =
    record {
      each = λ k l.
          let in_own : k < length xs = rw count l in
          let raised : get_or ys k 0 ≡ max (get_or xs k 0) (u k) = own.each k in_own in
          omega (arith, e k);
    }

pub joint-groups : (ranks : ℕ) (xs groups after : List ℕ) (v until : ℕ → ℕ) → IsLifted groups after v → length groups ≡ 4 * ranks → ((k : ℕ) → v (k / 4) ≡ until k)
    → IsRaised (16 * ranks) (λ k. max (get_or xs k 0) (get_or groups (k / 4) 0)) (λ k. max (get_or xs k 0) (get_or after (k / 4) 0)) until
joint-groups ranks xs groups after v until group count e =
    record {
      each = λ k l.
          let in_groups : k / 4 < length groups = rw count (omega arith) in
          let raised : get_or after (k / 4) 0 ≡ max (get_or groups (k / 4) 0) (v (k / 4)) = group.each (k / 4) in_groups in
          omega (arith, e k);
    }

-- What holds for all banks, raised to a cycle up to which each is held back.
pub floor-raised : (before after least until : ℕ) → after ≡ max before least → least ≤ until → after ≤ max before until
floor-raised before after least until is le = omega arith

pub floor-left : (floor until : ℕ) → floor ≤ max floor until
floor-left floor until = omega arith

pub left : (n : ℕ) (word until : ℕ → ℕ) → ((k : ℕ) → until k ≡ 0) → IsRaised n word word until
left n word until none = record { each = λ k l. omega (arith, none k) }

-- the relation of a command that names a bank
pub word-bank : (t : Timing) (cycle : ℕ) (command : Command) (later : Kind) (bank : BankId) (k : ℕ) → bank_of command ≡ Some bank
    → held_until t cycle (kind_of command) later (relation_from bank k) ≡ word_until t cycle command later k
word-bank t cycle (Act b row source) later bank k e =
    let same : bank ≡ b = cc in ap (λ (x : BankId). held_until t cycle kind.Act later (relation_from x k)) same
word-bank t cycle (Rd b row column source) later bank k e =
    let same : bank ≡ b = cc in ap (λ (x : BankId). held_until t cycle kind.Rd later (relation_from x k)) same
word-bank t cycle (Wr b row column source) later bank k e =
    let same : bank ≡ b = cc in ap (λ (x : BankId). held_until t cycle kind.Wr later (relation_from x k)) same
word-bank t cycle (Pre b source) later bank k e =
    let same : bank ≡ b = cc in ap (λ (x : BankId). held_until t cycle kind.Pre later (relation_from x k)) same
word-bank t cycle (Prea rank) later bank k e = cc
word-bank t cycle (Ref rank) later bank k e = cc

-- a column in which the own bank's word alone was raised
pub lifted-own : {Z : Type 0} (v : Vec ℕ Z) (lent ys : List ℕ) (bank : BankId) (own : Option ℕ) (until : ℕ)
    → lent ≡ v.items → length ys ≡ length lent → ((k d : ℕ) → get_or ys k d ≡ max (get_or lent k d) (cond (is_own own k) until 0))
    → ((k : ℕ) → is_own own k ≡ is_bank (bank_at k) bank)
    → IsLifted v.items (with_items v ys).items (λ k. cond (is_bank (bank_at k) bank) until 0)
lifted-own v lent ys bank own until is long each number =
    lifted v lent ys (λ k. cond (is_bank (bank_at k) bank) until 0) is long
    (λ k d l. each k d ∙ ap (λ b. max (get_or lent k d) (cond b until 0)) (number k))

-- that word by the relation of the banks
pub own-word : (t : Timing) (cycle : ℕ) (command : Command) (later : Kind) (bank : BankId) (until k : ℕ) → bank_of command ≡ Some bank
    → until ≡ held_until t cycle (kind_of command) later SameBank → IsOwn (held_until t cycle (kind_of command) later)
    → cond (is_bank (bank_at k) bank) until 0 ≡ word_until t cycle command later k
own-word t cycle command later bank until k names u only =
    ap (λ n. cond (is_bank (bank_at k) bank) n 0) u
    ∙ own_raised (held_until t cycle (kind_of command) later) bank k only.same_group only.other_group only.other_rank
    ∙ word-bank t cycle command later bank k names

-- a word by the relation of the groups
pub column-word : (t : Timing) (cycle : ℕ) (command : Command) (earlier later : Kind) (bank : BankId) (k : ℕ) → kind_of command ≡ earlier → bank_of command ≡ Some bank
    → is_column_kind earlier ≡ true → is_column_kind later ≡ true
    → held_until t cycle earlier later (group_relation_from bank (k / 4)) ≡ word_until t cycle command later k
column-word t cycle command earlier later bank k of names e l =
    column_joint (held_until t cycle earlier later) bank k (column_same t cycle earlier later e l)
    ∙ ap (λ (x : Kind). held_until t cycle x later (relation_from bank k)) (sym of)
    ∙ word-bank t cycle command later bank k names

-- a word of a rank's banks, and of its groups
pub rank-word : (f : Relation → ℕ) (b : Bool) (until : ℕ) → until ≡ f SameBank → f OtherRank ≡ 0 → cond b until 0 ≡ f (cond b SameBank OtherRank)
rank-word f true until u r = u
rank-word f false until u r = sym r

pub group-rank-word : (f : Relation → ℕ) (rank until k : ℕ) → until ≡ f SameBank → f OtherRank ≡ 0
    → cond (eqb rank (k / 4 / 4)) until 0 ≡ f (cond (eqb rank (k / 16)) SameBank OtherRank)
group-rank-word f rank until k u r =
    ap (λ (n : ℕ). cond (eqb rank n) until 0) (group_rank k) ∙ rank-word f (eqb rank (k / 16)) until u r

-- the ACTs of a rank wait for the window
pub window-of-act : (banks : Banks) (bank : BankId) (row : ℕ) (source : Source) (k end : ℕ) (state : RankState) → bank.rank < length banks.ranks.items
    → state ≡ get_or banks.ranks.items bank.rank state → end ≡ state.window.second → cond (eqb bank.rank (k / 16)) end 0 ≡ window_word banks (Act bank row source) k
window-of-act banks bank row source k end state inside read is =
    let unused : RankState = record { prea = 0; refresh = 0; window = no_acts } in
    let at = λ (n : ℕ). (get_or banks.ranks.items n unused).window.second in
    let found : end ≡ at bank.rank = is ∙ ap (λ (r : RankState). r.window.second) (get_or_read banks.ranks.items bank.rank state inside read unused) in
    elim (cases_Bool (eqb bank.rank (k / 16))) [
      | inl h ↦
          let same : bank.rank ≡ k / 16 = eqb-true bank.rank (k / 16) h in
          cond-true (eqb bank.rank (k / 16)) end 0 h ∙ found ∙ ap at same ∙ sym (cond-true (eqb bank.rank (k / 16)) (at (k / 16)) 0 h)
      | inr h ↦ cond-false (eqb bank.rank (k / 16)) end 0 h ∙ sym (cond-false (eqb bank.rank (k / 16)) (at (k / 16)) 0 h)
    ]

-- a RD and a WR raise no word of an ACT
pub column-acts : (banks : Banks) (t : Timing) (cycle : ℕ) (command : Command) (k : ℕ) → is_column_kind (kind_of command) ≡ true
    → max (word_until t cycle command kind.Act k) (window_word banks command k) ≡ 0
column-acts banks t cycle (Rd b row column source) k m = let none = column_no_act t cycle kind.Rd (relation_from b k) refl in omega arith
column-acts banks t cycle (Wr b row column source) k m = let none = column_no_act t cycle kind.Wr (relation_from b k) refl in omega arith
column-acts banks t cycle (Act b row source) k m = cc
column-acts banks t cycle (Pre b source) k m = cc
column-acts banks t cycle (Prea rank) k m = cc
column-acts banks t cycle (Ref rank) k m = cc

pub no-act : (k : Kind) → is_column_kind k ≡ true → is_kind k kind.Act ≡ false
no-act kind.Rd m = refl
no-act kind.Wr m = refl
no-act kind.Act m = cc
no-act kind.Pre m = cc
no-act kind.Prea m = cc
no-act kind.Ref m = cc

-- a rank's words are those of the rank or not
pub rank-tests : (t : Timing) (cycle : ℕ) (earlier : Kind) (b : Bool) (state : RankState)
    → cond b (rank_raised t cycle earlier state) state
    ≡ record {
      prea = max state.prea (held_until t cycle earlier kind.Prea (cond b SameBank OtherRank));
      refresh = max state.refresh (held_until t cycle earlier kind.Ref (cond b SameBank OtherRank));
      window = state.window;
    }
rank-tests t cycle earlier true state = refl
rank-tests t cycle earlier false state =
    let none = rank_alone t cycle earlier in
    let prea : state.prea ≡ max state.prea (held_until t cycle earlier kind.Prea OtherRank) = omega (arith, none.0) in
    let refresh : state.refresh ≡ max state.refresh (held_until t cycle earlier kind.Ref OtherRank) = omega (arith, none.1) in
    λ i. record { prea = prea i; refresh = refresh i; window = state.window }

rank-state : (t : Timing) (cycle : ℕ) (command : Command) (k : ℕ) (state : RankState) → is_kind (kind_of command) kind.Act ≡ false
    → cond (eqb (rank_of command) k) (rank_raised t cycle (kind_of command) state) state ≡ rank_state_after t cycle command k state
rank-state t cycle (Act b row source) k state h = cc
rank-state t cycle (Rd b row column source) k state h = rank-tests t cycle kind.Rd (eqb b.rank k) state
rank-state t cycle (Wr b row column source) k state h = rank-tests t cycle kind.Wr (eqb b.rank k) state
rank-state t cycle (Pre b source) k state h = rank-tests t cycle kind.Pre (eqb b.rank k) state
rank-state t cycle (Prea rank) k state h = rank-tests t cycle kind.Prea (eqb rank k) state
rank-state t cycle (Ref rank) k state h = rank-tests t cycle kind.Ref (eqb rank k) state

pub act-tests : (t : Timing) (cycle end : ℕ) (b : Bool) (state : RankState)
    → cond b (act_pushed (rank_raised t cycle kind.Act state) end) state
    ≡ record {
      prea = max state.prea (held_until t cycle kind.Act kind.Prea (cond b SameBank OtherRank));
      refresh = max state.refresh (held_until t cycle kind.Act kind.Ref (cond b SameBank OtherRank));
      window = cond b (pushed state.window end) state.window;
    }
act-tests t cycle end true state = refl
act-tests t cycle end false state =
    let none = rank_alone t cycle kind.Act in
    let prea : state.prea ≡ max state.prea (held_until t cycle kind.Act kind.Prea OtherRank) = omega (arith, none.0) in
    let refresh : state.refresh ≡ max state.refresh (held_until t cycle kind.Act kind.Ref OtherRank) = omega (arith, none.1) in
    λ i. record { prea = prea i; refresh = refresh i; window = state.window }

-- the words of the own rank alone
pub put-rank : {Z : Type 0} (v : Vec RankState Z) (lent ys : List RankState) (t : Timing) (cycle rank : ℕ) (command : Command)
    → lent ≡ v.items → length ys ≡ length lent
    → ((k : ℕ) (d : RankState) → get_or ys k d ≡ cond (eqb rank k) (rank_raised t cycle (kind_of command) (get_or lent k d)) (get_or lent k d))
    → rank_of command ≡ rank → is_kind (kind_of command) kind.Act ≡ false → IsPut v.items (with_items v ys).items (rank_state_after t cycle command)
put-rank v lent ys t cycle rank command is long each here other =
    put v lent ys (rank_state_after t cycle command) is long
    (λ k d l. each k d ∙ ap (λ (r : ℕ). cond (eqb r k) (rank_raised t cycle (kind_of command) (get_or lent k d)) (get_or lent k d)) (sym here) ∙ rank-state t cycle command k (get_or lent k d) other)
