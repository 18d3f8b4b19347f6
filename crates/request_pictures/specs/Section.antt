-- What a page shows of requests.
--     Begins head text      a text that begins so
--     latency_heading, no_reply, histograms_head      the heading, and what stands below it
--     IsSection requests text      the heading, and below it the pictures, or that no reply came
use Rattle.std.specs.Prelude.{◌≡◌, ◌≢◌, ℕ, List, [], ◌++◌, ◌⊎◌, codes}
use Rattle.measures.specs.Latency.{read_latencies}
use Rattle.request_table.specs.declared.times.RequestTimes.{RequestTimes}

-- a text that begins so
abbrev pub Begins : List ℕ → List ℕ → Type 0
Begins head text = (more : List ℕ) × (text ≡ head ++ more)

abbrev pub latency_heading : List ℕ
latency_heading = codes "<h2 id=\"latency\">Read latency</h2>\n"

abbrev pub no_reply : List ℕ
no_reply = codes "<p>No reply came in the run.</p>\n"

-- what the histograms show, above them
abbrev pub histograms_head : List ℕ
histograms_head =
    codes "<p>How many reads took how many cycles, from their issue to their reply. The axis ends behind the greatest p99 of a core; reads that took longer are not drawn. All cores: "

-- the heading, and below it that no reply came, or the pictures, which begin with the histograms
abbrev pub IsSection : List RequestTimes → List ℕ → Type 0
IsSection requests text =
    ((read_latencies requests ≡ []) × (text ≡ latency_heading ++ no_reply))
    ⊎ ((read_latencies requests ≢ []) × Begins (latency_heading ++ histograms_head) text)
