-- Chains of the requests of a log: from each to the next one of its class.
--     class_of r, class_of_all bank access      the class of a request: of its bank, modulo 64, and its access
--     classes_of log      the class of each request of a log
--     NoneOf classes class from until      no request from a place on and before another is of a class
--     IsFirstOf classes class from next      the request at a place is the first of a class from a place on
--     IsNextOf classes class from next      the first request of a class from a place on, if there is one
--     IsLastAt classes class last      the request at a place is the last of a class
--     IsLastOf classes class last      the last request of a class, if there is one
--     AreChained classes chains      the chains are those of requests of these classes
--     HasClasses chains      they are those of some requests
--     IsNextAlike log place next      the next request of the class of the request at a place, if there is one
use Rattle.std.specs.Prelude.{◌≡◌, ℕ, ◌+◌, ◌<◌, ◌≤◌, false, List, length, map, slice_index_or, Option, Some, None}
use Rattle.sim_base.specs.declared.message.Access.{Access}
use Rattle.sim_base.specs.declared.message.Request.{Request}
use Rattle.queue.specs.declared.request_log.Arrived.{Arrived}
use Rattle.queue.specs.declared.request_log.chains.Chains.{Chains}
use Rattle.queue.specs.Columns.{bank_number, tag_word}
use Rattle.queue.specs.Words.{candidate_of}

-- the class of the requests of a bank and an access: they have the same tag, but for whether they may be served
abbrev pub class_of_all : ℕ → Access → ℕ
class_of_all bank access = tag_word false access bank

-- the class of a request
abbrev pub class_of : Request → ℕ
class_of r = class_of_all (bank_number r.place) r.access

-- the class of each request of a log, by place
abbrev pub classes_of : List Arrived → List ℕ
classes_of log = map (λ a. class_of a.request) log

-- no request from place `from` on and before place `until` is of a class
abbrev pub NoneOf : List ℕ → ℕ → ℕ → ℕ → Type 0
NoneOf classes class from until =
    (k : ℕ) → from ≤ k → k < until → slice_index_or classes k 0 ≡ class → ⊥

-- the request at place `next` is the first of a class from place `from` on
pub record IsFirstOf (classes : List ℕ) (class from next : ℕ) : Type 0 where
  pub since : from ≤ next
  pub within : next < length classes
  pub same : slice_index_or classes next 0 ≡ class
  pub none : NoneOf classes class from next

-- the place of the first request of a class from place `from` on, if there is one
abbrev pub IsNextOf : List ℕ → ℕ → ℕ → Option ℕ → Type 0
IsNextOf classes class from (Some next) = IsFirstOf classes class from next
IsNextOf classes class from None = NoneOf classes class from (length classes)

-- the request at place `last` is of a class, and none behind it is
pub record IsLastAt (classes : List ℕ) (class last : ℕ) : Type 0 where
  pub within : last < length classes
  pub same : slice_index_or classes last 0 ≡ class
  pub none : NoneOf classes class (last + 1) (length classes)

-- the place of the last request of a class, if there is one
abbrev pub IsLastOf : List ℕ → ℕ → Option ℕ → Type 0
IsLastOf classes class (Some last) = IsLastAt classes class last
IsLastOf classes class None = NoneOf classes class 0 (length classes)

-- The chains are those of requests of these classes: for each request they have the next one of its class, and for each
-- class its last request.
pub record AreChained (classes : List ℕ) (chains : Chains) : Type 0 where
  pub count : length chains.behind.items ≡ length classes
  pub lasts_count : length chains.last.items ≡ 128
  pub nexts : (place : ℕ) → place < length classes
      → IsNextOf classes (slice_index_or classes place 0) (place + 1)
      (candidate_of (slice_index_or chains.behind.items place 0))
  pub lasts : (class : ℕ) → class < 128
      → IsLastOf classes class (candidate_of (slice_index_or chains.last.items class 0))

-- the chains are those of some requests
pub record HasClasses (chains : Chains) : Type 0 where
  pub classes : List ℕ
  pub chained : AreChained classes chains

-- the place of the next request of the class of the request at a place, if there is one
abbrev pub IsNextAlike : List Arrived → ℕ → Option ℕ → Type 0
IsNextAlike log place next =
    IsNextOf (classes_of log) (slice_index_or (classes_of log) place 0) (place + 1) next
