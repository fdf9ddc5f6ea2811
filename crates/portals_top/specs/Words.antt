-- What the words of the command line ask for.
use Rattle.std.specs.Prelude.{ℕ, ◌<◌, List, [], ◌∷◌, Option, Some, None, codes, if◌then◌else◌, option_map}
use Rattle.std.specs.Str.{bytes_eq}
use Rattle.coll_text.specs.Text.{number_between}
use Rattle.job_runs.specs.Modes.{HasWorkers, seed_of, workers_of}
use Rattle.job_runs.specs.declared.modes.Mode.TheVariants.{Once, Sim, Run, Trace, Steady}
use Rattle.portals_top.specs.declared.words.Command.{Command}
use Rattle.portals_top.specs.declared.words.Command.TheVariants.{Execute, Plan}
use Rattle.portals_top.specs.declared.words.Format.TheVariants.{Text, Json}
use Rattle.portals_top.specs.declared.words.Task.{Task}
use Rattle.portals_top.specs.declared.words.Request.{Request}
use Rattle.portals_top.specs.declared.words.Request.TheVariants.{Do, Large, Check}

-- the number that chooses generated values, in its one spelling
abbrev pub chosen_of : List ℕ → Option ℕ
chosen_of word = number_between 0 65535 word

-- what is done with a text of the description language
abbrev pub text_task : Command → Task
text_task command = record { format = Text; command = command }

abbrev pub one_word : List ℕ → Option Request
one_word word =
    if bytes_eq word (codes "once") then Some (Do (text_task (Execute Once)))
    else if bytes_eq word (codes "plan") then Some (Do (text_task Plan))
    else if bytes_eq word (codes "check") then Some Check
    else None

abbrev pub sim_of : Option ℕ → Option Request
sim_of seed = option_map (λ x. Do (text_task (Execute (Sim x)))) seed

abbrev pub run_of : Option ℕ → Option Request
run_of workers = option_map (λ w. Do (text_task (Execute (Run w)))) workers

abbrev pub trace_of : Option ℕ → Option Request
trace_of workers = option_map (λ w. Do (text_task (Execute (Trace w)))) workers

abbrev pub steady_of : Option ℕ → Option Request
steady_of workers = option_map (λ w. Do (text_task (Execute (Steady w)))) workers

abbrev pub json_of : Option ℕ → Option Request
json_of workers = option_map (λ w. Do (record { format = Json; command = Execute (Run w) })) workers

abbrev pub two_words : List ℕ → List ℕ → Option Request
two_words word number =
    if bytes_eq word (codes "sim") then sim_of (seed_of number)
    else if bytes_eq word (codes "run") then run_of (workers_of number)
    else if bytes_eq word (codes "trace") then trace_of (workers_of number)
    else if bytes_eq word (codes "steady") then steady_of (workers_of number)
    else if bytes_eq word (codes "json") then json_of (workers_of number)
    else None

abbrev pub large_of : Option ℕ → Option ℕ → Option Request
large_of None workers = None
large_of (Some k) workers = option_map (λ w. Large k w) workers

abbrev pub three_words : List ℕ → List ℕ → List ℕ → Option Request
three_words word number workers = if bytes_eq word (codes "large") then large_of (chosen_of number) (workers_of workers) else None

-- `once`, `plan`, `check`, `sim X`, `run W`, `trace W`, `steady W`, `json W` or `large K W`
abbrev pub request : List (List ℕ) → Option Request
request [] = None
request (word ∷ []) = one_word word
request (word ∷ number ∷ []) = two_words word number
request (word ∷ number ∷ workers ∷ []) = three_words word number workers
request (word ∷ number ∷ workers ∷ other ∷ words) = None

-- how many threads read a text for a command: the workers who are to run it, and else one
abbrev pub readers_of : Command → ℕ
readers_of (Execute (Run workers)) = workers
readers_of (Execute (Trace workers)) = workers
readers_of (Execute (Steady workers)) = workers
readers_of c = 1

abbrev pub CanDo : Command → Type 0
CanDo (Execute mode) = HasWorkers mode
CanDo Plan = Unit {0}

abbrev pub CanAnswer : Request → Type 0
CanAnswer (Do task) = CanDo task.command
CanAnswer (Large number workers) = (number < 65536) × (0 < workers)
CanAnswer Check = Unit {0}
