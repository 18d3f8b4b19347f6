-- The requests of a run, where a file of its folder holds their table.
--     requests_path dir      the file of the requests in a folder
--     AreRequestsOf table stats requests      a table holds these requests, which are of the run of these statistics
--     AreRequestsAt found stats requests      the same of what a path holds, if it holds a file
--     IsNoRequests table stats fault      why a table holds no requests of the run
--     IsRequestsFault found stats fault      the same of what a path holds
--     AreRequestsRefused tells held path stats fault      the same of a path
--     AreShown requests text      what a screen has of requests, where there are any
--     HaveRequests dirs held runs count      the first folders have requests of their runs
--     IsFolderRefused tells held dirs runs fault      the first folder whose requests are refused
--     IsTailAt found stats tail      the 99th percentile of the read latencies that a path holds
--     AreTails dirs held runs tails      the same of each folder, or none
use Rattle.std.specs.Prelude.{min, ◌≡◌, ◌⊎◌, ℕ, ◌<◌, ⊤, List, [], ◌++◌, length, codes, slice_get, Option, Some, None, MatchOption}
use Rattle.sim_base.specs.declared.command.IssuedCommand.{IssuedCommand}
use Rattle.sim_base.specs.declared.fault.Fault.{Fault}
use Rattle.sim_base.specs.declared.fault.Fault.TheVariants.{CheckRow, Memory}
use Rattle.measures.specs.Percentile.{IsPercentile}
use Rattle.measures.specs.Agreement.{AreOfRun, IsMismatch, row_of}
use Rattle.measures.specs.declared.request_check.agreement.Mismatch.{Mismatch}
use Rattle.measures.specs.Latency.{read_latencies}
use Rattle.request_table.specs.declared.times.RequestTimes.{RequestTimes}
use Rattle.rule_check.specs.Verdict.{records_of}
use Rattle.run_tables.specs.Records.{IsFirstWrong}
use Rattle.run_tables.specs.Requests.{IsRequestTable, HoldsRequests}
use Rattle.sim_base.specs.declared.config.Config.{Config}
use Rattle.show.specs.declared.options.Options.{Options}
use Rattle.show.specs.Banks.{IsBanksScreen}
use Rattle.show.specs.Requests.{AreRequests}
use Rattle.show.specs.Screen.{IsScreen}
use Rattle.statistics.specs.Values.{RunStats}
use Rattle.whole_files.specs.Files.{Held}
use Rattle.whole_files.specs.Tables.{path_in}

-- the file of the requests in a folder
abbrev pub requests_path : List ℕ → List ℕ
requests_path dir = path_in dir (codes "requests.csv")

-- a table holds these requests, which are of the run of these statistics
pub record AreRequestsOf (table : List ℕ) (stats : RunStats) (requests : List RequestTimes) : Type 0 where
  pub is_table : IsRequestTable (records_of table) requests
  pub of_run : AreOfRun stats requests

-- a path holds these requests of the run; none where it holds no file
abbrev pub AreRequestsAt : Option (List ℕ) → RunStats → Option (List RequestTimes) → Type 0
AreRequestsAt None stats None = ⊤
AreRequestsAt (Some table) stats (Some requests) = AreRequestsOf table stats requests
AreRequestsAt _ stats _ = ⊥

-- a table is one of requests, and they stop being of the run in this row
pub record IsOfOtherRun (table : List ℕ) (stats : RunStats) (row : ℕ) : Type 0 where
  pub requests : List RequestTimes
  pub mismatch : Mismatch
  pub is_table : IsRequestTable (records_of table) requests
  pub differs : IsMismatch stats requests mismatch
  pub row_is : row ≡ row_of mismatch (length requests)

-- why a table holds no requests of the run: it is no table of requests from this row on, or of another run; or memory
-- was refused
abbrev pub IsNoRequests : List ℕ → RunStats → Fault → Type 0
IsNoRequests table stats (CheckRow row) =
    IsFirstWrong HoldsRequests (records_of table) row ⊎ IsOfOtherRun table stats row
IsNoRequests table stats Memory = ⊤
IsNoRequests table stats _ = ⊥

-- why what a path holds gives no requests of the run
abbrev pub IsRequestsFault : Option (List ℕ) → RunStats → Fault → Type 0
IsRequestsFault (Some table) stats fault = IsNoRequests table stats fault
IsRequestsFault None stats fault = fault ≡ Memory

-- why the file of a table of requests gives none of the run, by what it holds, where the set of files tells
pub record AreRequestsRefused (tells : Type 0) (held : Held) (path : List ℕ) (stats : RunStats) (fault : Fault)
    : Type 0 where
  pub found : Option (List ℕ)
  pub found_is : tells → held path ≡ found
  pub fault_is : IsRequestsFault found stats fault

-- what a screen has of the requests of a run, where there are any: of at most 65,535 cores and 4,294,967,295 channels
abbrev pub AreShown : RunStats → Options → Option (List RequestTimes) → List ℕ → Type 0
AreShown stats options None text = text ≡ []
AreShown stats options (Some requests) text =
    AreRequests requests options (min (length stats.cores) 65535) (min (length stats.channels) 4294967295) text

-- it was put behind a text
abbrev pub AddsRequests : RunStats → Options → Option (List RequestTimes) → List ℕ → List ℕ → Type 0
AddsRequests stats options requests old new =
    (more : List ℕ) × (new ≡ old ++ more) × AreShown stats options requests more

-- the screen of a run, and behind it what there is to say of its requests
pub record IsRunScreen (stats : RunStats) (options : Options) (machine : Option Config)
    (requests : Option (List RequestTimes)) (text : List ℕ) : Type 0 where
  pub above : List ℕ
  pub below : List ℕ
  pub screen : IsScreen stats options machine above
  pub requests_shown : AreShown stats options requests below
  pub text_is : text ≡ above ++ below

-- the screen of a run, and behind it what there is to say of the requests that a path holds
pub record IsScreenAt (found : Option (List ℕ)) (stats : RunStats) (options : Options) (machine : Option Config)
    (text : List ℕ) : Type 0 where
  pub requests : Option (List RequestTimes)
  pub requests_are : AreRequestsAt found stats requests
  pub screen : IsRunScreen stats options machine requests text

-- the screen of a run and its banks, and behind it what there is to say of its requests
pub record IsRunBanksScreen
    (stats : RunStats) (commands : List IssuedCommand) (options : Options) (machine : Option Config)
    (requests : Option (List RequestTimes)) (text : List ℕ)
    : Type 0 where
  pub above : List ℕ
  pub below : List ℕ
  pub screen : IsBanksScreen stats commands options machine above
  pub requests_shown : AreShown stats options requests below
  pub text_is : text ≡ above ++ below

-- the screen of a run and its banks, and behind it what there is to say of the requests that a path holds
pub record IsBanksScreenAt (found : Option (List ℕ)) (stats : RunStats) (commands : List IssuedCommand)
    (options : Options) (machine : Option Config) (text : List ℕ) : Type 0 where
  pub requests : Option (List RequestTimes)
  pub requests_are : AreRequestsAt found stats requests
  pub screen : IsRunBanksScreen stats commands options machine requests text

-- a path holds the requests of a run, or none
pub record HoldsSomeRequests (found : Option (List ℕ)) (stats : RunStats) : Type 0 where
  pub requests : Option (List RequestTimes)
  pub requests_are : AreRequestsAt found stats requests

-- a path holds requests of the run
pub record HoldsRequestsOf (found : Option (List ℕ)) (stats : RunStats) : Type 0 where
  pub requests : List RequestTimes
  pub requests_are : AreRequestsAt found stats (Some requests)

-- each of the first folders, as many as this, has requests of its run
abbrev pub HaveRequests : List (List ℕ) → Held → List RunStats → ℕ → Type 0
HaveRequests dirs held runs count =
    (k : ℕ) (dir : List ℕ) (run : RunStats) → k < count → slice_get dirs k ≡ Some dir → slice_get runs k ≡ Some run
    → HoldsRequestsOf (held (requests_path dir)) run

-- the requests in a folder are refused, and each folder before it has requests of its run
pub record IsFolderRefused (tells : Type 0) (held : Held) (dirs : List (List ℕ)) (runs : List RunStats) (fault : Fault)
    : Type 0 where
  pub place : ℕ
  pub dir : List ℕ
  pub run : RunStats
  pub dir_is : slice_get dirs place ≡ Some dir
  pub run_is : slice_get runs place ≡ Some run
  pub before : tells → HaveRequests dirs held runs place
  pub refused : AreRequestsRefused tells held (requests_path dir) run fault

-- the 99th percentile of the latencies of these requests, if a read was answered
abbrev pub IsTailOf : List RequestTimes → Option ℕ → Type 0
IsTailOf requests tail = MatchOption tail (read_latencies requests ≡ []) (IsPercentile (read_latencies requests) 99)

-- the 99th percentile of the latencies of the requests that a path holds, if a read was answered
pub record IsTailAt (found : Option (List ℕ)) (stats : RunStats) (tail : Option ℕ) : Type 0 where
  pub requests : List RequestTimes
  pub requests_are : AreRequestsAt found stats (Some requests)
  pub tail_is : IsTailOf requests tail

-- the percentile of the requests that a path holds; none where it holds no file
abbrev pub IsTailIn : Option (List ℕ) → RunStats → Option (Option ℕ) → Type 0
IsTailIn found stats (Some tail) = IsTailAt found stats tail
IsTailIn found stats None = found ≡ None

-- the folder of each run has requests, and these are their 99th percentiles
pub record HaveTails (dirs : List (List ℕ)) (held : Held) (runs : List RunStats) (tails : List (Option ℕ))
    : Type 0 where
  pub count : length tails ≡ length dirs
  pub tails_are : (k : ℕ) (dir : List ℕ) (run : RunStats) (tail : Option ℕ) → slice_get dirs k ≡ Some dir
      → slice_get runs k ≡ Some run → slice_get tails k ≡ Some tail
      → IsTailAt (held (requests_path dir)) run tail

-- a folder has no requests, and each folder before it has requests of its run
pub record LackRequests (dirs : List (List ℕ)) (held : Held) (runs : List RunStats) : Type 0 where
  pub place : ℕ
  pub dir : List ℕ
  pub dir_is : slice_get dirs place ≡ Some dir
  pub none : held (requests_path dir) ≡ None
  pub before : HaveRequests dirs held runs place

-- each folder has requests, and these are their 99th percentiles; or one has none, and so there are none
abbrev pub AreTails : List (List ℕ) → Held → List RunStats → List (Option ℕ) → Type 0
AreTails dirs held runs tails = HaveTails dirs held runs tails ⊎ ((tails ≡ []) × LackRequests dirs held runs)
