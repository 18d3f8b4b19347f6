-- The traces of the cores, each found by itself.
--     text_of texts core      the text of a core
--     IsTwin texts core first      a core before this one has the same text
--     AreTwins texts sources      each source that is given is a core before that has the same text
--     len_to_read text source, bytes_to_read texts sources      how many bytes of a text, and of all, are read
--     IsTraceFor texts core found      what was found is the trace of a core
--     IsFound texts core result      the trace of a core is found, or refused
--     IsBefore core found      what was found is a trace of this core's own, or that of a core before it
--     trace_in traces found      the entries of what was found, where these are the traces of the cores before
use Rattle.std.specs.Prelude.{◌≡◌, ⊤, ℕ, ◌+◌, ◌<◌, List, [], ◌∷◌, length, slice_index_or, Option, Some, None, IfSome, Result, Ok, MatchResult}
use Rattle.sim_base.specs.declared.fault.Fault.{Fault}
use Rattle.sim_base.specs.declared.trace.Entry.{Entry}
use Rattle.sim_base.specs.TraceText.{trace_answer}
use Rattle.simulation.specs.declared.input.CoreTrace.{CoreTrace}
use Rattle.simulation.specs.declared.input.CoreTrace.TheVariants.{Own, SharedWith}
use Rattle.simulation.specs.Runs.{IsTraceFault}

-- the text of a core
abbrev pub text_of : List (List ℕ) → ℕ → List ℕ
text_of texts core = slice_index_or texts core []

-- a core before this one has the same text
abbrev pub IsTwin : List (List ℕ) → ℕ → ℕ → Type 0
IsTwin texts core first = (first < core) × (text_of texts first ≡ text_of texts core)

-- each of the first cores has a core before it with the same text as its source, or no source
abbrev pub AreTwins : List (List ℕ) → List (Option ℕ) → Type 0
AreTwins texts sources =
    (core : ℕ) (source : Option ℕ) → core < length sources
    → IfSome (slice_index_or sources core source) (IsTwin texts core)

-- how many bytes of a core's text are read: all, or none if the core has a source
abbrev pub len_to_read : List ℕ → Option ℕ → ℕ
len_to_read text (Some first) = 0
len_to_read text None = length text

-- how many bytes are read of all texts
abbrev pub bytes_to_read : List (List ℕ) → List (Option ℕ) → ℕ
bytes_to_read [] sources = 0
bytes_to_read (text ∷ texts) [] = 0
bytes_to_read (text ∷ texts) (source ∷ sources) = len_to_read text source + bytes_to_read texts sources

-- a trace of a core's own is what its text means; a core whose trace it shares is its source
abbrev pub IsTraceFor : List (List ℕ) → ℕ → CoreTrace → Type 0
IsTraceFor texts core (Own trace) = trace_answer core (text_of texts core) ≡ Ok trace
IsTraceFor texts core (SharedWith first) = IsTwin texts core first

-- the trace of a core is found, or refused as one of this core
abbrev pub IsFound : List (List ℕ) → ℕ → Result CoreTrace Fault → Type 0
IsFound texts core result = MatchResult result (IsTraceFor texts core) (IsTraceFault core (text_of texts core))

-- what was found is a trace of this core's own, or that of a core before it
abbrev pub IsBefore : ℕ → CoreTrace → Type 0
IsBefore core (Own trace) = ⊤
IsBefore core (SharedWith first) = first < core

-- the entries of what was found for a core, where these are the traces of the cores before it
abbrev pub trace_in : List (List Entry) → CoreTrace → List Entry
trace_in traces (Own trace) = trace
trace_in traces (SharedWith first) = slice_index_or traces first []
