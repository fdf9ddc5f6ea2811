-- How the words of a command line ask for a run.
use Rattle.std.specs.Prelude.{ℕ, ◌<◌, List, [], ◌∷◌, Option, Some, None, codes, if◌then◌else◌, option_map}
use Rattle.std.specs.Str.{bytes_eq}
use Rattle.coll_text.specs.Text.{number_between}
use Rattle.job_runs.specs.declared.modes.Mode.{Mode}
use Rattle.job_runs.specs.declared.modes.Mode.TheVariants.{Once, Sim, Run, Trace, Steady}

-- numbers in their one spelling: a seed below 2^64, a number of workers
abbrev pub seed_of : List ℕ → Option ℕ
seed_of word = number_between 0 18446744073709551615 word

abbrev pub workers_of : List ℕ → Option ℕ
workers_of word = number_between 1 16 word

abbrev pub sim_of : Option ℕ → Option Mode
sim_of seed = option_map (λ x. Sim x) seed

abbrev pub run_of : Option ℕ → Option Mode
run_of workers = option_map (λ w. Run w) workers

abbrev pub trace_of : Option ℕ → Option Mode
trace_of workers = option_map (λ w. Trace w) workers

abbrev pub steady_of : Option ℕ → Option Mode
steady_of workers = option_map (λ w. Steady w) workers

abbrev pub by_number : List ℕ → List ℕ → Option Mode
by_number word number =
    if bytes_eq word (codes "sim") then sim_of (seed_of number)
    else if bytes_eq word (codes "run") then run_of (workers_of number)
    else if bytes_eq word (codes "trace") then trace_of (workers_of number)
    else if bytes_eq word (codes "steady") then steady_of (workers_of number)
    else None

-- `once`, `sim X`, `run W`, `trace W` or `steady W`
abbrev pub mode_of : List (List ℕ) → Option Mode
mode_of [] = None
mode_of (word ∷ []) = if bytes_eq word (codes "once") then Some Once else None
mode_of (word ∷ number ∷ []) = by_number word number
mode_of (word ∷ number ∷ other ∷ words) = None

-- there is a worker
abbrev pub HasWorkers : Mode → Type 0
HasWorkers Once = Unit {0}
HasWorkers (Sim seed) = Unit {0}
HasWorkers (Run workers) = 0 < workers
HasWorkers (Trace workers) = 0 < workers
HasWorkers (Steady workers) = 0 < workers
