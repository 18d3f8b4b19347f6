-- Requests beside the tables of a run: what a screen has of them, and why an answer is refused by them.
use Rattle.std.proofs.Common.{◌≡◌, ◌⊎◌, inl, inr, ℕ, zero, suc, ◌<◌, List, [], ◌∷◌, ◌++◌, length, map, get_or, Option, Some, None, slice_get, refl, sym, ap, subst, ◌∙◌, arith}
use Rattle.request_table.specs.declared.times.RequestTimes.{RequestTimes}
use Rattle.sim_base.specs.declared.fault.Fault.{Fault}
use Rattle.sim_base.specs.declared.fault.Fault.TheVariants.{Memory}
use Rattle.sim_base.proofs.Lists.{get-push}
use Rattle.std.proofs.lemmas.Option.{get_or_from_slice_get, slice_get-get_or}
use Rattle.statistics.specs.Values.{RunStats}
use Rattle.whole_files.specs.Files.{Held, SameFiles}
use Rattle.answers.specs.Refused.{IsReady, IsInputFault, IsFaultBeside, IsRightBeside, HoldRuns, IsNoComparison, IsRightCompare}
use Rattle.answers.specs.Requests.{requests_path, AreRequestsAt, IsRequestsFault, AreRequestsRefused, HoldsSomeRequests, HoldsRequestsOf, HaveRequests, IsFolderRefused, IsTailAt, IsTailIn, AreTails}

-- memory was refused before a table of requests was read
memory_requests : (found : Option (List ℕ)) (stats : RunStats) (fault : Fault) → fault ≡ Memory → IsRequestsFault found stats fault
memory_requests None stats fault memory = memory
memory_requests (Some table) stats fault memory = subst (λ f. IsRequestsFault (Some table) stats f) (sym memory) tt

pub memory_refused : (tells : Type 0) (held : Held) (path : List ℕ) (stats : RunStats) (fault : Fault) → fault ≡ Memory → AreRequestsRefused tells held path stats fault
memory_refused tells held path stats fault memory = record { found = held path; found_is = λ t. refl; fault_is = memory_requests (held path) stats fault memory }

-- ---- why an answer is refused whose texts can be read

-- what is wrong with the texts is wrong with the answer
pub texts_refused : (tells : Type 0) (held : Held) (paths : List (List ℕ)) (is_fault is_more : List (List ℕ) → Fault → Type 0) (fault : Fault)
    → ((texts : List (List ℕ)) → is_fault texts fault → is_more texts fault) → IsInputFault tells held paths is_fault fault → IsInputFault tells held paths is_more fault
texts_refused tells held paths is_fault is_more fault more (inl unread) = inl unread
texts_refused tells held paths is_fault is_more fault more (inr found) =
    inr (record { texts = found.texts; read = found.read; fault_is = more found.texts found.fault_is })

refused_before : (tells : Type 0) (old mid : Held) (path : List ℕ) (stats : RunStats) (fault : Fault) → (tells → SameFiles old mid) → AreRequestsRefused tells mid path stats fault
    → AreRequestsRefused tells old path stats fault
refused_before tells old mid path stats fault same refused =
    record { found = refused.found; found_is = λ t. sym (same t path) ∙ refused.found_is t; fault_is = refused.fault_is }

-- the texts are right, and the requests beside them are refused
pub beside_refused : (tells : Type 0) (old mid : Held) (paths : List (List ℕ)) (dir : List ℕ) (is_fault : List (List ℕ) → Fault → Type 0) (holds : List (List ℕ) → RunStats → Type 0)
    (stats : RunStats) (fault : Fault) → IsReady tells old paths (λ texts. holds texts stats) → (tells → SameFiles old mid) → AreRequestsRefused tells mid (requests_path dir) stats fault
    → IsInputFault tells old paths (λ texts f. is_fault texts f ⊎ IsFaultBeside (holds texts) tells old dir f) fault
beside_refused tells old mid paths dir is_fault holds stats fault ready same refused = inr (record {
  texts = ready.texts;
  read = ready.read;
  fault_is = inr (record { stats = stats; run = ready.right; refused = refused_before tells old mid (requests_path dir) stats fault same refused });
})

-- the texts are right, and so are the requests beside them, or there are none
pub right_beside : (tells : Type 0) (old mid : Held) (paths : List (List ℕ)) (dir : List ℕ) (holds : List (List ℕ) → RunStats → Type 0) (stats : RunStats)
    → IsReady tells old paths (λ texts. holds texts stats) → (tells → SameFiles old mid) → (tells → HoldsSomeRequests (mid (requests_path dir)) stats)
    → IsReady tells old paths (λ texts. IsRightBeside (holds texts) tells old dir)
right_beside tells old mid paths dir holds stats ready same some = record {
  texts = ready.texts;
  read = ready.read;
  right = record { stats = stats; run = ready.right; requests = λ t. subst (λ found. HoldsSomeRequests found stats) (same t (requests_path dir)) (some t) };
}

-- ---- files that were read before

pub requests_before : (tells : Type 0) (old mid : Held) (path : List ℕ) (stats : RunStats) (requests : Option (List RequestTimes)) → (tells → SameFiles old mid)
    → (tells → AreRequestsAt (mid path) stats requests) → tells → AreRequestsAt (old path) stats requests
requests_before tells old mid path stats requests same are t = subst (λ found. AreRequestsAt found stats requests) (same t path) (are t)

have_before : (old mid : Held) (dirs : List (List ℕ)) (runs : List RunStats) (count : ℕ) → SameFiles old mid → HaveRequests dirs mid runs count → HaveRequests dirs old runs count
have_before old mid dirs runs count same have k dir run below at_dir at_run =
    subst (λ found. HoldsRequestsOf found run) (same (requests_path dir)) (have k dir run below at_dir at_run)

pub tails_before : (tells : Type 0) (old mid : Held) (dirs : List (List ℕ)) (runs : List RunStats) (tails : List (Option ℕ)) → (tells → SameFiles old mid) → (tells → AreTails dirs mid runs tails) → tells
    → AreTails dirs old runs tails
tails_before tells old mid dirs runs tails same are t = elim (are t) [
  | inl all ↦ inl (record {
    count = all.count;
    tails_are = λ k dir run tail at_dir at_run at_tail.
        subst (λ found. IsTailAt found run tail) (same t (requests_path dir)) (all.tails_are k dir run tail at_dir at_run at_tail);
  })
  | inr lacks ↦ inr (
    lacks.0,
    record {
      place = lacks.1.place;
      dir = lacks.1.dir;
      dir_is = lacks.1.dir_is;
      none = sym (same t (requests_path lacks.1.dir)) ∙ lacks.1.none;
      before = have_before old mid dirs runs lacks.1.place (same t) lacks.1.before;
    },
  )
]

folders_before : (tells : Type 0) (old mid : Held) (dirs : List (List ℕ)) (runs : List RunStats) (fault : Fault) → (tells → SameFiles old mid) → IsFolderRefused tells mid dirs runs fault
    → IsFolderRefused tells old dirs runs fault
folders_before tells old mid dirs runs fault same refused = record {
  place = refused.place;
  dir = refused.dir;
  run = refused.run;
  dir_is = refused.dir_is;
  run_is = refused.run_is;
  before = λ t. have_before old mid dirs runs refused.place (same t) (refused.before t);
  refused = refused_before tells old mid (requests_path refused.dir) refused.run fault same refused.refused;
}

-- the tables of a comparison are right, and memory was refused, or the requests in a folder are
pub tails_refused : (tells : Type 0) (old mid : Held) (paths dirs : List (List ℕ)) (runs : List RunStats) (fault : Fault) → IsReady tells old paths (λ texts. HoldRuns texts runs)
    → (tells → SameFiles old mid) → (fault ≡ Memory) ⊎ IsFolderRefused tells mid dirs runs fault → IsInputFault tells old paths (IsNoComparison tells old dirs) fault
tails_refused tells old mid paths dirs runs fault ready same (inl memory) = inl (inl memory)
tails_refused tells old mid paths dirs runs fault ready same (inr refused) = inr (record {
  texts = ready.texts;
  read = ready.read;
  fault_is = inr (record { runs = runs; tables = ready.right; refused = folders_before tells old mid dirs runs fault same refused });
})

-- nothing is wrong with a comparison
pub right_compare : (tells : Type 0) (old mid : Held) (paths dirs : List (List ℕ)) (runs : List RunStats) (tails : List (Option ℕ)) → IsReady tells old paths (λ texts. HoldRuns texts runs)
    → (tells → SameFiles old mid) → (tells → AreTails dirs mid runs tails) → IsReady tells old paths (IsRightCompare tells old dirs)
right_compare tells old mid paths dirs runs tails ready same are = record {
  texts = ready.texts;
  read = ready.read;
  right = record { runs = runs; tables = ready.right; requests = λ t. (tails, tails_before tells old mid dirs runs tails same are t) };
}

-- ---- percentiles of several runs

value_at : {A B : Type 0} (f : A → B) (xs : List A) (k : ℕ) (d : A) (v : B) → slice_get (map f xs) k ≡ Some v → f (get_or xs k d) ≡ v
value_at f [] k d v at = absurd cc
value_at f (x ∷ xs) zero d v at = cc at
value_at f (x ∷ xs) (suc k) d v at = value_at f xs k d v at

pub there : {A B : Type 0} (f : A → B) (xs : List A) (k : ℕ) (d : A) → k < length xs → slice_get (map f xs) k ≡ Some (f (get_or xs k d))
there f [] k d within = absurd (omega (arith, within))
there f (x ∷ xs) zero d within = refl
there f (x ∷ xs) (suc k) d within = there f xs k d (omega (arith, within))

-- the percentiles so far are those of the first folders
abbrev pub TailsSoFar : {A : Type 0} → (A → List ℕ) → Held → List A → List RunStats → List (Option ℕ) → Type 0
TailsSoFar now held dirs runs tails = (k : ℕ) (dir : List ℕ) (run : RunStats) (tail : Option ℕ) → slice_get (map now dirs) k ≡ Some dir → slice_get runs k ≡ Some run → slice_get tails k ≡ Some tail
    → IsTailAt (held (requests_path dir)) run tail

pub tails_more : {A : Type 0} (now : A → List ℕ) (held : Held) (dirs : List A) (runs : List RunStats) (tails more : List (Option ℕ)) (place : ℕ) (tail : Option ℕ) (d : A) (r : RunStats) → length tails ≡ place
    → TailsSoFar now held dirs runs tails → more ≡ tails ++ tail ∷ [] → IsTailAt (held (requests_path (now (get_or dirs place d)))) (get_or runs place r) tail → TailsSoFar now held dirs runs more
tails_more now held dirs runs tails more place tail d r count so_far pushed is k dir run other at_dir at_run at_tail =
    elim (get-push tails tail k other (ap (λ list. slice_get list k) (sym pushed) ∙ at_tail)) [
      | inl before ↦ so_far k dir run other at_dir at_run before
      | inr last ↦
          let here : k ≡ place = last.0 ∙ count in
          let dir_is : now (get_or dirs place d) ≡ dir = value_at now dirs place d dir (ap (slice_get (map now dirs)) (sym here) ∙ at_dir) in
          let run_is : get_or runs place r ≡ run = get_or_from_slice_get runs place run r (ap (slice_get runs) (sym here) ∙ at_run) in
          subst (λ x. IsTailAt (held (requests_path dir)) run x) last.1
          (subst (λ x. IsTailAt (held (requests_path dir)) x tail) run_is (subst (λ x. IsTailAt (held (requests_path x)) (get_or runs place r) tail) dir_is is))
    ]

-- so the first folders have requests
requests_so_far : {A : Type 0} (now : A → List ℕ) (held : Held) (dirs : List A) (runs : List RunStats) (tails : List (Option ℕ)) (place : ℕ) → length tails ≡ place
    → TailsSoFar now held dirs runs tails → HaveRequests (map now dirs) held runs place
requests_so_far now held dirs runs tails place count so_far k dir run below at_dir at_run =
    let found = so_far k dir run (get_or tails k None) at_dir at_run (slice_get-get_or tails k None (omega (arith, below, count))) in
    record { requests = found.requests; requests_are = found.requests_are }

-- ---- one folder more

pub folder_refused : {A : Type 0} (tells : Type 0) (now : A → List ℕ) (old mid : Held) (dirs : List A) (runs : List RunStats) (tails : List (Option ℕ)) (place : ℕ) (d : A) (r : RunStats)
    (fault : Fault) → place < length dirs → length runs ≡ length dirs → length tails ≡ place → (tells → SameFiles old mid) → (tells → TailsSoFar now old dirs runs tails) → r ≡ get_or runs place r
    → AreRequestsRefused tells mid (requests_path (now (get_or dirs place d))) r fault → IsFolderRefused tells old (map now dirs) runs fault
folder_refused tells now old mid dirs runs tails place d r fault within counts count same so_far here refused = record {
  place = place;
  dir = now (get_or dirs place d);
  run = r;
  dir_is = there now dirs place d within;
  run_is = slice_get-get_or runs place r (omega (arith, within, counts)) ∙ ap Some (sym here);
  before = λ t. requests_so_far now old dirs runs tails place count (so_far t);
  refused = refused_before tells old mid (requests_path (now (get_or dirs place d))) r fault same refused;
}

pub folder_lacks : {A : Type 0} (tells : Type 0) (now : A → List ℕ) (old mid : Held) (dirs : List A) (runs : List RunStats) (tails empty : List (Option ℕ)) (k : ℕ) (d : A) (stats : RunStats)
    (found : Option (Option ℕ)) → k < length dirs → length tails ≡ k → (tells → SameFiles old mid) → (tells → TailsSoFar now old dirs runs tails)
    → (tells → IsTailIn (mid (requests_path (now (get_or dirs k d)))) stats found) → found ≡ None → empty ≡ [] → tells
    → AreTails (map now dirs) old runs empty
folder_lacks tells now old mid dirs runs tails empty k d stats found within count same so_far is none is_empty t =
    let path : List ℕ = requests_path (now (get_or dirs k d)) in
    let lacks : mid path ≡ None = subst (λ f. IsTailIn (mid path) stats f) none (is t) in
    inr (
      is_empty,
      record {
        place = k;
        dir = now (get_or dirs k d);
        dir_is = there now dirs k d within;
        none = sym (same t path) ∙ lacks;
        before = requests_so_far now old dirs runs tails k count (so_far t);
      },
    )

pub folder_more : {A : Type 0} (tells : Type 0) (now : A → List ℕ) (old mid : Held) (dirs : List A) (runs : List RunStats) (tails more : List (Option ℕ)) (place : ℕ) (tail : Option ℕ) (d : A) (r : RunStats)
    (found : Option (Option ℕ)) → length tails ≡ place → (tells → SameFiles old mid) → (tells → TailsSoFar now old dirs runs tails) → more ≡ tails ++ tail ∷ [] → r ≡ get_or runs place r
    → (tells → IsTailIn (mid (requests_path (now (get_or dirs place d)))) r found) → found ≡ Some tail → tells → TailsSoFar now old dirs runs more
folder_more tells now old mid dirs runs tails more place tail d r found count same so_far pushed here is some t =
    let path : List ℕ = requests_path (now (get_or dirs place d)) in
    let known : IsTailAt (mid path) r tail = subst (λ f. IsTailIn (mid path) r f) some (is t) in
    let before : IsTailAt (old path) r tail = subst (λ f. IsTailAt f r tail) (same t path) known in
    tails_more now old dirs runs tails more place tail d r count (so_far t) pushed (subst (λ run. IsTailAt (old path) run tail) here before)
